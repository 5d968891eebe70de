-- The moves of a heal.
use Rattle.std.specs.Prelude.{◌≡◌, ℕ, ◌<◌, Bool, true, false, ◌⊎◌, Some}
use Rattle.afr_base.specs.Majority.{IsMajority}
use Rattle.afr_base.specs.declared.ids.Kind.{Kind}
use Rattle.afr_lines.specs.declared.request.Request.{Request}
use Rattle.afr_lines.specs.declared.request.Request.TheVariants.{Unlock}
use Rattle.afr_model_moves.specs.Sets.{any}
use Rattle.afr_model_moves.specs.Rules.{busy}
use Rattle.afr_model_moves.specs.Register.{Exact, WorkLocks, HealUnlocks, Opening, over, whole_area}
use Rattle.afr_model_moves.specs.Steps.{may_heal, locks_at}

-- the request is an unlock
abbrev pub IsUnlock : Request → Type 0
IsUnlock (Unlock domain area) = Unit {0}
IsUnlock _ = ⊥

-- the heal may ask this with some copy as its source that all its lines allow
pub record MayHeal (n : ℕ) (keeps : ℕ → Kind → Bool) (r : Exact) (b : ℕ) (request : Request) : Type 0 where
  pub inside : r.law.heal ≡ true
  pub whole : r.broken ≡ false
  pub source : ℕ
  pub below : source < n
  pub possible : r.possible source ≡ true
  pub allowed : may_heal n keeps r source b request ≡ true

-- in a heal that is broken only unlocks
pub data InHeal (n : ℕ) (keeps : ℕ → Kind → Bool) (r : Exact) (b : ℕ) (request : Request) : Type 0 where
  Goes : MayHeal n keeps r b request → InHeal n keeps r b request
  Gives : r.law.heal ≡ true → r.broken ≡ true → IsUnlock request → InHeal n keeps r b request

-- a HealBegin comes after the Work locks of this part, at first at a majority, and names the heal's object and kind
pub record MayHealBegin (n : ℕ) (r : Exact) (g : ℕ) (kind : Kind) : Type 0 where
  pub inside : r.law.heal ≡ true
  pub whole : r.broken ≡ false
  pub object : g ≡ r.law.object
  pub step : r.step ≡ WorkLocks
  pub over : over n (locks_at r r.part) r.asked ≡ true
  pub enough : r.part ≡ Opening → IsMajority n r.law.held
  pub opening : r.part ≡ Opening → r.law.area ≡ Some (whole_area g kind)
  pub later : (r.part ≡ Opening → ⊥) → kind ≡ r.law.kind

-- the end of a heal: no lock is held, and no step is left
pub record MayHealEnd (n : ℕ) (r : Exact) : Type 0 where
  pub inside : r.law.heal ≡ true
  pub free : busy n r.law ≡ false
  pub healed : any n r.law.healing ≡ false
  pub last : (r.broken ≡ true) ⊎ (r.step ≡ HealUnlocks)
