-- A heal's register with what its stage knows put in its fields: there the note of an answer computes.
use Rattle.std.proofs.Common.{ℕ, ◌≡◌, ◌&&◌, ◌==◌, if◌then◌else◌, Bool, None, Option, Some, false, not, refl, true}
use Rattle.afr_base.specs.declared.ids.Gfid.{Gfid}
use Rattle.afr_base.specs.declared.ids.Kind.{Kind}
use Rattle.afr_heal.specs.Standing.{AfterLooks, AtFirst, AtHeal, AtLooks, AtPart, AtViews, AtWork, Broken}
use Rattle.afr_lines.specs.declared.request.Area.{Area}
use Rattle.afr_model_moves.specs.Register.{Exact, HealLocks, HealPart, Looks, Opening, Step, Untouched, WorkLocks, is_opening, whole_area}
use Rattle.afr_model_moves.specs.Note.{stopping}
use Rattle.afr_model_moves.specs.Rules as weak
use Rattle.afr_model_moves.specs.Rules.{Register, begun, busy, is_area}
use Rattle.afr_model_moves.specs.Sets.{empty, with, without}
use Rattle.afr_model_moves.proofs.AreaLemmas.{own_area}
use Rattle.afr_object.specs.declared.entry.View.{View}

-- ---- the register of each stage
-- a heal that goes on, of this object and kind, in this step and part, with this area
abbrev pub shape : Exact → Step → HealPart → Gfid → Kind → Option Area → Exact
shape q step part g kind area = record q { step = step; part = part; broken = false; law = record q.law { heal = true; object = g.0; kind = kind; area = area } }

-- a register that has these values is of that form
pub shape_is : (r : Exact) (step : Step) (part : HealPart) (g : Gfid) (kind : Kind) (area : Option Area) → r.step ≡ step → r.part ≡ part → r.broken ≡ false → r.law.heal ≡ true → r.law.object ≡ g.0 → r.law.kind ≡ kind → r.law.area ≡ area → r ≡ shape r step part g kind area
shape_is r step part g kind area es ep eb eh eo ek ea = λ i. record r { step = es i; part = ep i; broken = eb i; law = record r.law { heal = eh i; object = eo i; kind = ek i; area = ea i } }

-- before any line
abbrev pub new_at : Exact → Exact
new_at q = record q { step = Untouched; part = Opening; broken = false; law = record q.law { heal = false; area = None } }

-- after the looks of a part
abbrev pub going_at : Exact → Gfid → Kind → Area → Exact
going_at q g kind area = shape q q.step q.part g kind (Some area)

-- in a broken heal
abbrev pub lost : Exact → Gfid → Exact
lost q g = record q { broken = true; law = record q.law { heal = true; object = g.0 } }

-- ---- the register after an answer, by its step, before the heal goes on or not
-- after a Heal lock
abbrev pub heal_at : (n : ℕ) → (ℕ → Kind → Bool) → Exact → (ℕ → Bool) → (ℕ → Bool) → Register → Exact
heal_at n keeps r asked possible law = stopping n keeps (record r { step = HealLocks; asked = asked; part = Opening; possible = possible; broken = false; law = law })

-- after a Work lock of the opening
abbrev pub work_at : (n : ℕ) → (ℕ → Kind → Bool) → Exact → (ℕ → Bool) → (ℕ → Bool) → Register → Exact
work_at n keeps r asked possible law = stopping n keeps (record r { step = WorkLocks; asked = asked; part = Opening; possible = possible; broken = false; law = law })

-- after a look of the opening
abbrev pub looked_at : (n : ℕ) → (ℕ → Kind → Bool) → Exact → (ℕ → Bool) → (ℕ → Bool) → (ℕ → Option View) → (ℕ → Bool) → (ℕ → Option View) → (ℕ → Bool) → Register → Exact
looked_at n keeps r asked reached views first_reached first_views possible law = stopping n keeps (record r { asked = asked; reached = reached; views = views; first_reached = first_reached; first_views = first_views; possible = possible; law = law })

-- after a Work lock of a later part, which breaks the heal where it fails
abbrev pub part_at : (n : ℕ) → (ℕ → Kind → Bool) → Exact → HealPart → (ℕ → Bool) → (ℕ → Bool) → Bool → Register → Exact
part_at n keeps r part asked possible fail law = stopping n keeps (record r { step = WorkLocks; asked = asked; part = part; possible = possible; broken = fail && not (is_opening part); law = law })

-- after a look of a later part
abbrev pub viewed_at : (n : ℕ) → (ℕ → Kind → Bool) → Exact → (ℕ → Bool) → (ℕ → Bool) → (ℕ → Option View) → (ℕ → Bool) → Register → Exact
viewed_at n keeps r asked reached views possible law = stopping n keeps (record r { asked = asked; reached = reached; views = views; possible = possible; law = law })

-- ---- a heal that stands is in the form of its stage
module _ (n : ℕ) (keeps : ℕ → Kind → Bool) (r : Exact) (s : ℕ) (g : Gfid) (kind : Kind) where
  -- no line was
  pub first_form : AtFirst n r → r ≡ new_at r
  first_form k = let es = k.step in let ep = k.opening in let eb = k.whole in let eh = k.outside in let ea = k.no_area in λ i. record r { step = es i; part = ep i; broken = eb i; law = record r.law { heal = eh i; area = ea i } }

  -- the Heal locks are asked
  pub heal_form : AtHeal n keeps r g → r ≡ shape r HealLocks Opening g r.law.kind None
  heal_form k = shape_is r HealLocks Opening g r.law.kind None k.step k.opening k.whole k.base.inside k.base.is_object refl k.no_area

  -- the first Work locks are asked
  pub work_form : AtWork n keeps r g kind → r ≡ shape r WorkLocks Opening g r.law.kind (Some (whole_area g.0 kind))
  work_form k = shape_is r WorkLocks Opening g r.law.kind (Some (whole_area g.0 kind)) k.step k.opening k.whole k.base.inside k.base.is_object refl k.area

  -- the first looks
  pub looks_form : AtLooks n keeps r g kind → r ≡ shape r Looks Opening g kind (Some (whole_area g.0 kind))
  looks_form k = shape_is r Looks Opening g kind (Some (whole_area g.0 kind)) k.step k.opening k.whole k.base.inside k.base.is_object k.is_kind k.area

  -- the Work locks of a later part
  pub part_form : (k : AtPart n keeps r s g kind) → r ≡ shape r WorkLocks r.part g kind (Some k.area)
  part_form k = shape_is r WorkLocks r.part g kind (Some k.area) k.step refl k.whole k.base.inside k.base.is_object k.is_kind k.area_is

  -- the looks of a later part
  pub views_form : (k : AtViews n keeps r s g kind) → r ≡ shape r Looks r.part g kind (Some k.area)
  views_form k = shape_is r Looks r.part g kind (Some k.area) k.step refl k.whole k.base.inside k.base.is_object k.is_kind k.area_is

  -- the looks of a part are over
  pub going_form : (k : AfterLooks n keeps r s g kind) → r ≡ going_at r g kind k.area
  going_form k = shape_is r r.step r.part g kind (Some k.area) refl refl k.whole k.base.inside k.base.is_object k.is_kind k.area_is

  -- only unlocks are left
  pub lost_form : Broken r g → r ≡ lost r g
  lost_form k = let eb = k.broken in let eh = k.base.inside in let eo = k.base.is_object in λ i. record r { broken = eb i; law = record r.law { heal = eh i; object = eo i } }

-- ---- what a request leaves in the law's register
-- a Work lock that isn't granted, by whether the actor holds one and whether the area is its own: weak.locking is this at the tests
abbrev pub locking_by : Bool → Bool → Register → Area → Register
locking_by holds own law area = if holds then record law { second = if own then law.second else Some area } else begun law area

-- a Work lock that is granted: weak.granting is this at the tests
abbrev pub granting_by : Bool → Bool → Register → Area → ℕ → Register
granting_by holds own law area b = if holds && not own then record law { second = Some area; second_held = with law.second_held b } else (let s = locking_by holds own law area in record s { held = with s.held b })

module _ (n : ℕ) (law : Register) (area : Area) (b : ℕ) where
  -- the first Work lock of a part, while the actor holds none
  pub locking_first : busy n law ≡ false → weak.locking n law area ≡ begun law area
  locking_first free = rw free refl

  pub granting_first : busy n law ≡ false → weak.granting n law area b ≡ record (begun law area) { held = with empty b }
  granting_first free = rw free refl

  -- the area is given back where it is the heal's own
  pub released_own : law.area ≡ Some area → weak.released law area b ≡ record law { closed = with law.closed b; held = without law.held b }
  released_own e = go (is_area law.area area) (own_area law.area area e)
    where
      go : (f : Bool) → f ≡ true → (if f then record law { closed = with law.closed b; held = without law.held b } else record law { second_held = weak.second_freed law area b }) ≡ record law { closed = with law.closed b; held = without law.held b }
      go true e = refl
      go false e = absurd (cc e)

  -- an unlock of it that failed
  pub unlocked_own : law.area ≡ Some area → weak.unlocked law area b ≡ record law { closed = with law.closed b }
  unlocked_own e = go (is_area law.area area) (own_area law.area area e)
    where
      go : (f : Bool) → f ≡ true → (if f then record law { closed = with law.closed b } else law) ≡ record law { closed = with law.closed b }
      go true e = refl
      go false e = absurd (cc e)

-- a look leaves all but two fields
pub viewed_form : (law : Register) (b g : ℕ) (view : View) → weak.viewed law b g view ≡ record law { view = (weak.viewed law b g view).view; first = (weak.viewed law b g view).first }
viewed_form law b g view = go (not (law.number == 0) && law.seen b && not (law.closed b) && (g == law.object) && law.healing b && not (law.settled b)) (weak.put_view law.view b view) (if (law.number == law.start) && weak.is_none (law.first b) then weak.put_view law.first b view else law.first)
  where
    go : (f : Bool) (v w : ℕ → Option View) → (if f then record law { view = v; first = w } else law) ≡ record law { view = (if f then record law { view = v; first = w } else law).view; first = (if f then record law { view = v; first = w } else law).first }
    go true v w = refl
    go false v w = refl
