-- Where a heal stands: at its locks, at its first looks, past them, or broken; and what its lines tell there.
use Rattle.std.proofs.Common.{◌≡◌, ℕ, ◌<◌, ◌≤◌, ◌||◌, not, Bool, true, false, Some, refl, sym, ap, subst}
use Rattle.afr_base.specs.declared.ids.Gfid.{Gfid}
use Rattle.afr_base.specs.declared.ids.Kind.{Kind}
use Rattle.afr_base.specs.declared.ids.Shape.{Shape}
use Rattle.afr_choice.specs.declared.looked.Looked.{Looked}
use Rattle.afr_heal.proofs.Parts.{not_both, some_of_most}
use Rattle.afr_heal.proofs.StagesForms.{going_form}
use Rattle.afr_heal.specs.Engine.{next_of}
use Rattle.afr_heal.specs.Standing.{AfterLooks, AtFirst, AtHeal, AtLooks, AtPart, AtViews, AtWork, Broken, Ending, First, Going, Healing, Looking, Parting, Standing, Viewing, Working}
use Rattle.afr_law_heal.proofs.GoingStart.{going_after}
use Rattle.afr_law_heal.specs.HealTelling.{TellsAt}
use Rattle.afr_law_heal.specs.Stages.{IsShown, TellsAfter, TellsLocks, TellsLooks, TellsWork}
use Rattle.afr_lines.specs.Work.{Work}
use Rattle.afr_model.specs.HealReplies.{heal_reply}
use Rattle.afr_model.specs.Healing.{First as FirstLooks, first_by}
use Rattle.afr_model.specs.Moved.{pieces}
use Rattle.afr_model_moves.specs.Keeps.{keeps_in}
use Rattle.afr_model_moves.specs.Register.{Exact, Finish, HealLocks, HealPart, Looks, Opening, Piece, Step, Unlocks, Untouched, WorkLocks, is_opening, same_step}
use Rattle.afr_model_moves.specs.Steps.{looks_over}
use Rattle.afr_heal_machine.specs.Outcome.{reply_of}
use Rattle.afr_heal_machine.specs.declared.outcome.HealOutcome.{HealOutcome}
use Rattle.afr_law_picks.proofs.Sources.Coming.{LocksNext, LooksNext, OnwardNext, UnlocksNext, first_locks, first_looks, going_on, heal_locks, last_unlocks, part_locks, part_looks, work_locks}

-- the first looks are over
abbrev pub is_past : ℕ → (ℕ → Kind → Bool) → Exact → Bool
is_past n keeps r = not (is_opening r.part) || looks_over n keeps r 0

module _ (shape : Shape) (r : Exact) (seen looked : Looked) (s : ℕ) (g : Gfid) (kind : Kind) (o : HealOutcome) (w : Work) where
  abbrev n : ℕ
  n = shape.n

  abbrev keeps : ℕ → Kind → Bool
  keeps = keeps_in shape

  -- the locks are asked
  pub record IsLocking : Type 0 where
    pub whole : r.broken ≡ false
    pub before : is_past shape.n (keeps_in shape) r ≡ false
    pub opening : is_opening r.part ≡ true
    pub step : same_step r.step Unlocks ≡ false
    pub unbegun : (first_by w).begun ≡ false
    pub none : pieces w ≡ 0
    pub unseen : (x : ℕ) → r.first_reached x ≡ false
    pub begins : Bool
    pub next : LocksNext begins (next_of shape.n (keeps_in shape) r s g kind)

  -- the first looks are asked
  pub record IsLooking : Type 0 where
    pub whole : r.broken ≡ false
    pub before : is_past shape.n (keeps_in shape) r ≡ false
    pub opening : is_opening r.part ≡ true
    pub inside : r.law.heal ≡ true
    pub still : (first_by w).still ≡ true
    pub next : LooksNext (next_of shape.n (keeps_in shape) r s g kind)

  -- the first looks are over
  pub record IsPast : Type 0 where
    pub whole : r.broken ≡ false
    pub past : is_past shape.n (keeps_in shape) r ≡ true
    pub after : TellsAfter shape r seen looked s g kind w
    pub still : same_step r.step Looks ≡ true → is_opening r.part ≡ true → (first_by w).still ≡ true
    pub one : (x : ℕ) × (x < shape.n) × (r.first_reached x ≡ true)
    pub begins : Bool
    pub parted : begins ≡ true → is_opening r.part ≡ false
    pub next : OnwardNext s kind r.part begins (next_of shape.n (keeps_in shape) r s g kind)

  -- only unlocks are left
  pub record IsLost : Type 0 where
    pub lost : r.broken ≡ true
    pub inside : r.law.heal ≡ true
    pub caused : heal_reply shape g kind w ≡ Some (reply_of o seen)
    pub next : UnlocksNext (next_of shape.n (keeps_in shape) r s g kind)

  -- one of the four
  pub data Stage : Type 0 where
    AtLocks : IsLocking → Stage
    AtFirstLooks : IsLooking → Stage
    Past : IsPast → Stage
    Lost : IsLost → Stage

  abbrev Told : Bool → Step → HealPart → Type 0
  Told broken step part = TellsAt broken step part shape r seen looked s g kind o w

  -- what the lines tell, by what the case knows of the register
  told_at : (broken : Bool) (step : Step) → r.broken ≡ broken → r.step ≡ step → Told r.broken r.step r.part → Told broken step r.part
  told_at broken step e f t = subst (λ (step : Step). Told broken step r.part) f (subst (λ (broken : Bool). Told broken r.step r.part) e t)

  told_first : (broken : Bool) (step : Step) → r.broken ≡ broken → r.step ≡ step → r.part ≡ Opening → Told r.broken r.step r.part → Told broken step Opening
  told_first broken step e f h t = subst (λ (part : HealPart). Told broken step part) h (told_at broken step e f t)

  -- ---- the cases
  at_first : AtFirst n r → Told r.broken r.step r.part → IsLocking
  at_first k t =
      let tells : TellsLocks shape r g kind w = told_first false Untouched k.whole k.step k.opening t in
      record {
        whole = k.whole;
        before = rw (k.opening, k.step) refl;
        opening = rw k.opening refl;
        step = rw k.step refl;
        unbegun = ap (λ (f : FirstLooks). f.begun) tells.unseen;
        none = tells.none;
        unseen = k.none_first;
        begins = false;
        next = first_locks n keeps r s g kind k;
      }

  at_heal : AtHeal n keeps r g → Told r.broken r.step r.part → IsLocking
  at_heal k t =
      let tells : TellsLocks shape r g kind w = told_first false HealLocks k.whole k.step k.opening t in
      record {
        whole = k.whole;
        before = rw (k.opening, k.step) refl;
        opening = rw k.opening refl;
        step = rw k.step refl;
        unbegun = ap (λ (f : FirstLooks). f.begun) tells.unseen;
        none = tells.none;
        unseen = k.none_first;
        begins = false;
        next = heal_locks n keeps r s g kind k;
      }

  at_work : AtWork n keeps r g kind → Told r.broken r.step r.part → IsLocking
  at_work k t =
      let tells : TellsWork shape r g kind w = told_first false WorkLocks k.whole k.step k.opening t in
      record {
        whole = k.whole;
        before = rw (k.opening, k.step) refl;
        opening = rw k.opening refl;
        step = rw k.step refl;
        unbegun = ap (λ (f : FirstLooks). f.begun) tells.unseen;
        none = tells.none;
        unseen = k.none_first;
        begins = true;
        next = work_locks n keeps r s g kind k;
      }

  at_looks : AtLooks n keeps r g kind → Told r.broken r.step r.part → IsLooking
  at_looks k t =
      let tells : TellsLooks shape r seen g kind w = told_first false Looks k.whole k.step k.opening t in
      record {
        whole = k.whole;
        before = rw (k.opening, k.step, k.more) refl;
        opening = rw k.opening refl;
        inside = k.base.inside;
        still = ap (λ (f : FirstLooks). f.still) tells.first;
        next = first_looks n keeps r s g kind k;
      }

  at_part : AtPart n keeps r s g kind → Told r.broken r.step r.part → IsPast
  at_part k t = record {
    whole = k.whole;
    past = rw k.part refl;
    after = go r.part k.part (told_at false WorkLocks k.whole k.step t);
    still = λ e f. absurd (not_both (is_opening r.part) f k.part);
    one = some_of_most n r.first_reached k.picked.many;
    begins = true;
    parted = λ e. k.part;
    next = part_locks n keeps r s g kind k;
  }
    where
      go : (part : HealPart) → is_opening part ≡ false → Told false WorkLocks part → TellsAfter shape r seen looked s g kind w
      go Opening e t = absurd (cc e)
      go Piece e t = t
      go Finish e t = t

  at_views : AtViews n keeps r s g kind → Told r.broken r.step r.part → IsPast
  at_views k t = record {
    whole = k.whole;
    past = rw k.part refl;
    after = go r.part k.part (told_at false Looks k.whole k.step t);
    still = λ e f. absurd (not_both (is_opening r.part) f k.part);
    one = some_of_most n r.first_reached k.picked.many;
    begins = false;
    parted = λ e. k.part;
    next = part_looks n keeps r s g kind k;
  }
    where
      go : (part : HealPart) → is_opening part ≡ false → Told false Looks part → TellsAfter shape r seen looked s g kind w
      go Opening e t = absurd (cc e)
      go Piece e t = t
      go Finish e t = t

  at_end : Broken r g → Told r.broken r.step r.part → IsLost
  at_end k t = record {
    lost = k.broken;
    inside = k.base.inside;
    caused = (subst (λ (broken : Bool). Told broken r.step r.part) k.broken t).caused;
    next = last_unlocks n keeps r s g kind k;
  }

-- the looks of a part are over: the register in the form of its stage
abbrev GoingAfter : Shape → Looked → Looked → ℕ → Gfid → Kind → HealOutcome → Work → Exact → Type 0
GoingAfter shape seen looked s g kind o w r =
    AfterLooks shape.n (keeps_in shape) r s g kind → IsShown r seen looked → TellsAt false r.step r.part shape r seen looked s g kind o w → TellsAfter shape r seen looked s g kind w

going_tells : (shape : Shape) (r : Exact) (seen looked : Looked) (s : ℕ) (g : Gfid) (kind : Kind) (o : HealOutcome) (w : Work) → shape.n ≤ 5 → GoingAfter shape seen looked s g kind o w r
going_tells shape r seen looked s g kind o w few k shown t =
    subst (GoingAfter shape seen looked s g kind o w) (sym (going_form shape.n (keeps_in shape) r s g kind k)) (λ c h t. going_after shape few r seen looked s g kind k.area c w h o t) k shown t

module _ (shape : Shape) (r : Exact) (seen looked : Looked) (s : ℕ) (g : Gfid) (kind : Kind) (o : HealOutcome) (w : Work) (few : shape.n ≤ 5) (shown : IsShown r seen looked) where
  at_going : AfterLooks shape.n (keeps_in shape) r s g kind → TellsAt r.broken r.step r.part shape r seen looked s g kind o w → IsPast shape r seen looked s g kind o w
  at_going k t = record {
    whole = k.whole;
    past = go (is_opening r.part);
    after = going_tells shape r seen looked s g kind o w few k shown whole;
    still = λ e f. still r.step r.part e f whole;
    one = some_of_most shape.n r.first_reached k.many;
    begins = false;
    parted = λ e. absurd (cc e);
    next = going_on shape.n (keeps_in shape) r s g kind k;
  }
    where
      whole : TellsAt false r.step r.part shape r seen looked s g kind o w
      whole = subst (λ (broken : Bool). TellsAt broken r.step r.part shape r seen looked s g kind o w) k.whole t

      go : (c : Bool) → (not c || looks_over shape.n (keeps_in shape) r 0) ≡ true
      go true = k.looked
      go false = refl

      still : (step : Step) (part : HealPart) → same_step step Looks ≡ true → is_opening part ≡ true → TellsAt false step part shape r seen looked s g kind o w → (first_by w).still ≡ true
      still Looks Opening e f t = ap (λ (f : FirstLooks). f.still) t.first
      still Looks Piece e f t = absurd (cc f)
      still Looks Finish e f t = absurd (cc f)
      still _ part e f t = absurd (cc e)

  -- which it is
  pub stage_of : Standing shape.n (keeps_in shape) r s g kind → TellsAt r.broken r.step r.part shape r seen looked s g kind o w → Stage shape r seen looked s g kind o w
  stage_of (First k) t = AtLocks (at_first shape r seen looked s g kind o w k t)
  stage_of (Healing k) t = AtLocks (at_heal shape r seen looked s g kind o w k t)
  stage_of (Working k) t = AtLocks (at_work shape r seen looked s g kind o w k t)
  stage_of (Looking k) t = AtFirstLooks (at_looks shape r seen looked s g kind o w k t)
  stage_of (Parting k) t = Past (at_part shape r seen looked s g kind o w k t)
  stage_of (Viewing k) t = Past (at_views shape r seen looked s g kind o w k t)
  stage_of (Going k) t = Past (at_going k t)
  stage_of (Ending k) t = Lost (at_end shape r seen looked s g kind o w k t)
