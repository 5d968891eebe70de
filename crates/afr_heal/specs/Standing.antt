-- What a heal keeps at every moment: eight cases, told apart by the step, the part and whether it is broken.
use Rattle.std.specs.Prelude.{ℕ, ◌≡◌, ◌<◌, ◌||◌, Bool, None, Some, false, nat_lt, not, true}
use Rattle.afr_base.specs.Majority.{is_most}
use Rattle.afr_base.specs.declared.ids.Gfid.{Gfid}
use Rattle.afr_base.specs.declared.ids.Kind.{Kind}
use Rattle.afr_base.specs.declared.ids.Kind.TheVariants.{Bytes}
use Rattle.afr_discipline.specs.Five.{has_read}
use Rattle.afr_heal.specs.Engine.{has_part}
use Rattle.afr_lines.specs.declared.request.Area.{Area}
use Rattle.afr_model_moves.specs.Note.{stops_at}
use Rattle.afr_model_moves.specs.Register.{Exact, HealLocks, HealPart, HealUnlocks, Looks, Mends, Opening, Reads, Step, Unlocks, Untouched, WorkLocks, asked_in, good, is_opening, over, rank, whole_area}
use Rattle.afr_model_moves.specs.Steps.{goes_on, looks_over, set_of, sink}

-- the step is behind, or asked this brick
abbrev pub behind : Exact → Step → ℕ → Bool
behind r step x = nat_lt (rank step) (rank r.step) || asked_in r step x

-- only a heal of bytes has more than the opening
abbrev pub OfKind : Kind → HealPart → Type 0
OfKind Bytes part = Unit {0}
OfKind kind Opening = Unit {0}
OfKind kind part = ⊥

-- a heal of this object, which has no second area
pub record Base (g : Gfid) (heal : Bool) (object : ℕ) (second_held : ℕ → Bool) : Type 0 where
  pub inside : heal ≡ true
  pub is_object : object ≡ g.0
  pub no_second : (x : ℕ) → second_held x ≡ false

-- the register is that of a heal of this object
abbrev pub IsBase : Gfid → Exact → Type 0
IsBase g r = Base g r.law.heal r.law.object r.law.second_held

-- the source is a good copy of the first looks
pub record Picked (n : ℕ) (keeps : ℕ → Kind → Bool) (r : Exact) (s : ℕ) (kind : Kind) : Type 0 where
  pub below : s < n
  pub possible : r.possible s ≡ true
  pub is_good : good n keeps kind r.first_views s ≡ true
  pub many : is_most n r.first_reached ≡ true

-- no line was: the first one is a Heal lock at brick 0
pub record AtFirst (n : ℕ) (r : Exact) : Type 0 where
  pub outside : r.law.heal ≡ false
  pub whole : r.broken ≡ false
  pub step : r.step ≡ Untouched
  pub opening : r.part ≡ Opening
  pub every : (x : ℕ) → x < n → r.possible x ≡ true
  pub none_held : (x : ℕ) → r.law.held x ≡ false
  pub no_second : (x : ℕ) → r.law.second_held x ≡ false
  pub no_area : r.law.area ≡ None
  pub none_first : (x : ℕ) → r.first_reached x ≡ false

-- the Heal locks are asked
pub record AtHeal (n : ℕ) (keeps : ℕ → Kind → Bool) (r : Exact) (g : Gfid) : Type 0 where
  pub base : IsBase g r
  pub whole : r.broken ≡ false
  pub step : r.step ≡ HealLocks
  pub opening : r.part ≡ Opening
  pub every : (x : ℕ) → x < n → r.possible x ≡ true
  pub none_held : (x : ℕ) → r.law.held x ≡ false
  pub no_area : r.law.area ≡ None
  pub none_first : (x : ℕ) → r.first_reached x ≡ false
  pub going : stops_at n keeps r HealLocks ≡ false

-- the first Work locks are asked
pub record AtWork (n : ℕ) (keeps : ℕ → Kind → Bool) (r : Exact) (g : Gfid) (kind : Kind) : Type 0 where
  pub base : IsBase g r
  pub whole : r.broken ≡ false
  pub step : r.step ≡ WorkLocks
  pub opening : r.part ≡ Opening
  pub every : (x : ℕ) → x < n → r.possible x ≡ true
  pub area : r.law.area ≡ Some (whole_area g.0 kind)
  pub among : (x : ℕ) → r.law.held x ≡ true → r.law.healing x ≡ true
  pub none_first : (x : ℕ) → r.first_reached x ≡ false
  pub going : stops_at n keeps r WorkLocks ≡ false

-- the locked bricks are looked at, and some are left
pub record AtLooks (n : ℕ) (keeps : ℕ → Kind → Bool) (r : Exact) (g : Gfid) (kind : Kind) : Type 0 where
  pub base : IsBase g r
  pub whole : r.broken ≡ false
  pub step : r.step ≡ Looks
  pub opening : r.part ≡ Opening
  pub is_kind : r.law.kind ≡ kind
  pub every : (x : ℕ) → x < n → r.possible x ≡ true
  pub area : r.law.area ≡ Some (whole_area g.0 kind)
  pub among : (x : ℕ) → r.law.held x ≡ true → r.law.healing x ≡ true
  pub first : (x : ℕ) → r.first_reached x ≡ true → r.law.held x ≡ true
  pub more : over n r.law.held r.asked ≡ false

-- the Work locks of a later part of a heal of bytes: its source is told
pub record AtPart (n : ℕ) (keeps : ℕ → Kind → Bool) (r : Exact) (s : ℕ) (g : Gfid) (kind : Kind) : Type 0 where
  pub base : IsBase g r
  pub whole : r.broken ≡ false
  pub step : r.step ≡ WorkLocks
  pub part : is_opening r.part ≡ false
  pub bytes : kind ≡ Bytes
  pub is_kind : r.law.kind ≡ kind
  pub picked : Picked n keeps r s kind
  pub area : Area
  pub area_is : r.law.area ≡ Some area
  pub granted : (x : ℕ) → x < n → r.asked x ≡ true → r.law.held x ≡ true
  pub healing : (x : ℕ) → x < n → r.first_reached x ≡ true → r.law.healing x ≡ true
  pub told : (x : ℕ) → x < n → sink keeps r s x ≡ true → r.possible x ≡ false

-- the looks of a later part, and some are left
pub record AtViews (n : ℕ) (keeps : ℕ → Kind → Bool) (r : Exact) (s : ℕ) (g : Gfid) (kind : Kind) : Type 0 where
  pub base : IsBase g r
  pub whole : r.broken ≡ false
  pub step : r.step ≡ Looks
  pub part : is_opening r.part ≡ false
  pub bytes : kind ≡ Bytes
  pub is_kind : r.law.kind ≡ kind
  pub picked : Picked n keeps r s kind
  pub area : Area
  pub area_is : r.law.area ≡ Some area
  pub holding : (x : ℕ) → x < n → r.first_reached x ≡ true → r.law.held x ≡ true
  pub healing : (x : ℕ) → x < n → r.first_reached x ≡ true → r.law.healing x ≡ true
  pub told : (x : ℕ) → x < n → sink keeps r s x ≡ true → r.possible x ≡ false
  pub more : over n r.first_reached r.asked ≡ false

-- the looks of a part are over, and let the heal go on with s
pub record AfterLooks (n : ℕ) (keeps : ℕ → Kind → Bool) (r : Exact) (s : ℕ) (g : Gfid) (kind : Kind) : Type 0 where
  pub base : IsBase g r
  pub whole : r.broken ≡ false
  pub is_kind : r.law.kind ≡ kind
  pub of_kind : OfKind kind r.part
  pub below : s < n
  pub possible : r.possible s ≡ true
  pub many : is_most n r.first_reached ≡ true
  pub onwards : goes_on n keeps r s ≡ true
  pub looked : looks_over n keeps r s ≡ true
  pub area : Area
  pub area_is : r.law.area ≡ Some area
  -- a read that was asked is noted
  pub noted : (x : ℕ) → x < n → set_of n keeps r s Reads x ≡ true → behind r Reads x ≡ true → has_read (r.reads x) ≡ true
  -- a sink that was asked its cut, or any after the opening, isn't the source
  pub told : kind ≡ Bytes → (x : ℕ) → x < n → sink keeps r s x ≡ true → (not (is_opening r.part) || behind r Mends x) ≡ true → r.possible x ≡ false
  pub freed : (x : ℕ) → x < n → behind r Unlocks x ≡ true → r.law.held x ≡ false
  pub holding : (x : ℕ) → x < n → r.first_reached x ≡ true → nat_lt (rank r.step) 12 ≡ true → r.law.held x ≡ true
  pub lost : (x : ℕ) → x < n → behind r HealUnlocks x ≡ true → r.law.healing x ≡ false
  pub healing : (x : ℕ) → x < n → r.first_reached x ≡ true → nat_lt (rank r.step) 13 ≡ true → r.law.healing x ≡ true
  -- the Heal locks are given back after the last part alone
  pub parts : has_part kind r.part ≡ true → nat_lt (rank r.step) 13 ≡ true

-- only unlocks are left
pub record Broken (r : Exact) (g : Gfid) : Type 0 where
  pub base : IsBase g r
  pub broken : r.broken ≡ true

-- one of the eight
pub data Standing (n : ℕ) (keeps : ℕ → Kind → Bool) (r : Exact) (s : ℕ) (g : Gfid) (kind : Kind) : Type 0 where
  First : AtFirst n r → Standing n keeps r s g kind
  Healing : AtHeal n keeps r g → Standing n keeps r s g kind
  Working : AtWork n keeps r g kind → Standing n keeps r s g kind
  Looking : AtLooks n keeps r g kind → Standing n keeps r s g kind
  Parting : AtPart n keeps r s g kind → Standing n keeps r s g kind
  Viewing : AtViews n keeps r s g kind → Standing n keeps r s g kind
  Going : AfterLooks n keeps r s g kind → Standing n keeps r s g kind
  Ending : Broken r g → Standing n keeps r s g kind
