-- The moves of a work outside its heals.
use Rattle.std.specs.Prelude.{◌≡◌, ℕ, suc, ◌+◌, ◌^◌, ◌<◌, ◌≤◌, Bool, true, false, ◌&&◌, not, nat_lt, ◌⊎◌, length, Option, None, Some}
use Rattle.afr_base.specs.Bricks.{member}
use Rattle.afr_base.specs.Majority.{IsMajority}
use Rattle.afr_base.specs.declared.ids.Kind.{Kind}
use Rattle.afr_object.specs.declared.change.Change.{Change}
use Rattle.afr_object.specs.declared.change.Change.TheVariants.{Write, Cut, SetAttr, Make, Remove}
use Rattle.afr_object.specs.declared.entry.View.{View}
use Rattle.afr_lines.specs.declared.lock.Domain.TheVariants.{Work, Heal}
use Rattle.afr_lines.specs.declared.request.Area.{Area}
use Rattle.afr_lines.specs.declared.request.Area.TheVariants.{Range, Name}
use Rattle.afr_lines.specs.declared.request.Request.{Request}
use Rattle.afr_lines.specs.declared.request.Request.TheVariants.{Lock, Pre, Apply, Post, Mend, Settle}
use Rattle.afr_model_moves.specs.Sets.{any}
use Rattle.afr_model_moves.specs.Cells.{what_code}
use Rattle.afr_model_moves.specs.Honest.{plane_kind}
use Rattle.afr_model_moves.specs.Rules.{Register, busy, is_area, heal_area, fits_change, LastPosted}
use Rattle.afr_model_moves.specs.Register.{Exact, Step, Untouched, Pres, Applies, Posts, rank, asked_in, holder, good, IsArea, kind_in, PlaneIn}

-- the change lies in the area: its object, its kind, and its range or name
abbrev pub LiesIn : Option Area → Change → Type 0
LiesIn (Some (Range g from to)) (Write h at bytes) = (g.0 ≡ h.0) × (from ≤ at) × (at + length bytes ≤ to) × (to ≤ 2 ^ 63)
LiesIn (Some (Range g from to)) (Cut h len) = (g.0 ≡ h.0) × (from ≤ len) × (to ≡ 2 ^ 63)
LiesIn (Some (Range g from to)) (SetAttr h key value) = (g.0 ≡ h.0) × (from ≡ 2 ^ 63) × (to ≡ 2 ^ 63 + 1)
LiesIn (Some (Name g name)) (Make h m new what) = (g.0 ≡ h.0) × ((name ≡ None) ⊎ (name ≡ Some m))
LiesIn (Some (Name g name)) (Remove h m what) = (g.0 ≡ h.0) × ((name ≡ None) ⊎ (name ≡ Some m))
LiesIn _ _ = ⊥

-- a Write ends at 1,048,576 or below
abbrev pub EndsLow : Change → Type 0
EndsLow (Write h at bytes) = at + length bytes ≤ 1048576
EndsLow _ = Unit {0}

-- a majority in which a copy is good
pub record SufficesBy (n : ℕ) (keeps : ℕ → Kind → Bool) (kind : Kind) (views : ℕ → Option View) (set : ℕ → Bool) : Type 0 where
  pub majority : IsMajority n set
  pub source : ℕ
  pub below : source < n
  pub member : set source ≡ true
  pub unblamed : good n keeps kind views source ≡ true

-- a step that hasn't passed, in which the brick wasn't asked, before the first unlock of the area
pub record Once (r : Exact) (step : Step) (b : ℕ) : Type 0 where
  pub order : rank r.step ≤ rank step
  pub once : asked_in r step b ≡ false
  pub open_still : r.unlocked ≡ false

-- the transaction's area, or its second, or the first that could be
abbrev pub OneOf : Register → Area → Type 0
OneOf r area = (is_area r.area area ≡ true) ⊎ (r.second ≡ None) ⊎ (is_area r.second area ≡ true)

-- a Work Lock line begins a transaction where the last attempt's Post was told Done at a majority, or names one of the two areas before the first unlock
pub record MayWork (n : ℕ) (r : Exact) (area : Area) : Type 0 where
  pub outside : r.law.heal ≡ false
  pub valid : IsArea area
  pub next : busy n r.law ≡ false → LastPosted n r.law
  pub within : busy n r.law ≡ true → (r.unlocked ≡ false) × OneOf r.law area

-- a transaction's one Begin: the change lies in the area and fits the views, which show a majority of holders with a good copy
pub record MayBegin (n : ℕ) (keeps : ℕ → Kind → Bool) (r : Exact) (change : Change) : Type 0 where
  pub outside : r.law.heal ≡ false
  pub first : r.law.number ≡ 0
  pub open_still : r.unlocked ≡ false
  pub lies : LiesIn r.law.area change
  pub low : EndsLow change
  pub fits : (x : ℕ) (view : View) → x < n → r.views x ≡ Some view → fits_change (what_code view.what) change ≡ true
  pub reached : IsMajority n r.reached
  pub holders : SufficesBy n keeps (plane_kind change) r.views (holder r.views)

-- after the Begin, on its object and kind, at a holder, once, before every Apply
pub record MayPre (n : ℕ) (r : Exact) (b g : ℕ) (kind : Kind) : Type 0 where
  pub outside : r.law.heal ≡ false
  pub begun_already : (r.law.number ≡ 0) → ⊥
  pub plane : PlaneIn r.law.area g kind
  pub holds : holder r.views b ≡ true
  pub turn : Once r Pres b

-- this Begin's attempt, once, at a brick whose Pre was told Done, where these are a majority with a good copy, before every Post
pub record MayApply (n : ℕ) (keeps : ℕ → Kind → Bool) (r : Exact) (b q : ℕ) : Type 0 where
  pub outside : r.law.heal ≡ false
  pub own : r.law.number ≡ suc q
  pub ready : r.law.pre b ≡ true
  pub enough : SufficesBy n keeps (kind_in r.law.area) r.views r.law.pre
  pub turn : Once r Applies b

-- this attempt, its object and kind, once, at a brick whose Apply was told Done, where these are a majority with a good copy; it names exactly the others
pub record MayPost (n : ℕ) (keeps : ℕ → Kind → Bool) (r : Exact) (b q g : ℕ) (kind : Kind) (missed : ℕ → Bool) : Type 0 where
  pub outside : r.law.heal ≡ false
  pub own : r.law.number ≡ suc q
  pub plane : PlaneIn r.law.area g kind
  pub ready : r.law.done b ≡ true
  pub enough : SufficesBy n keeps kind r.views r.law.done
  pub exact : (c : ℕ) → missed c ≡ (nat_lt c n && not (r.law.done c))
  pub turn : Once r Posts b

-- the first line of a heal, in one of its three places, is a Heal Lock at brick 0
pub record MayOpen (r : Exact) (b : ℕ) (area : Area) : Type 0 where
  pub first : r.step ≡ Untouched
  pub lowest : b ≡ 0
  pub g : ℕ
  pub range : area ≡ heal_area g

-- looks, reads and unlocks
abbrev pub Free : Request → Type 0
Free (Lock domain area) = ⊥
Free (Pre g kind) = ⊥
Free (Apply q) = ⊥
Free (Post q g kind missed) = ⊥
Free (Mend repair) = ⊥
Free (Settle g kind less) = ⊥
Free _ = Unit {0}

-- what may be asked outside a heal
abbrev pub Outside : ℕ → (ℕ → Kind → Bool) → Exact → ℕ → Request → Type 0
Outside n keeps r b (Lock Work area) = MayWork n r area
Outside n keeps r b (Lock Heal area) = MayOpen r b area
Outside n keeps r b (Pre g kind) = MayPre n r b g.0 kind
Outside n keeps r b (Apply q) = MayApply n keeps r b q
Outside n keeps r b (Post q g kind missed) = MayPost n keeps r b q g.0 kind (member missed)
Outside n keeps r b request = Free request

-- the end of a work: no lock is held, and Ok only over a majority of Posts
pub record MayEnd (n : ℕ) (r : Exact) (ok : Bool) : Type 0 where
  pub outside : r.law.heal ≡ false
  pub free : busy n r.law ≡ false
  pub healed : any n r.law.healing ≡ false
  pub posted : ok ≡ true → LastPosted n r.law
