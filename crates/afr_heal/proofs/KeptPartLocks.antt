-- A heal keeps standing while it asks the Work locks of a later part, and at the HealBegin of it.
use Rattle.std.proofs.Common.{ℕ, ◌≡◌, ◌<◌, ◌&&◌, Bool, Some, false, refl, true}
use Rattle.afr_base.specs.declared.ids.Gfid.{Gfid}
use Rattle.afr_base.specs.declared.ids.Kind.{Kind}
use Rattle.afr_heal.proofs.Finding.{over_asked}
use Rattle.afr_heal.proofs.KeptBroken.{KeepsAt, dropped_base}
use Rattle.afr_heal.proofs.Parts.{any_none, no_or, not_both, off, pair, some_of_most, with_with}
use Rattle.afr_heal.proofs.StagesAllowed.{lock_ok}
use Rattle.afr_heal.proofs.StagesForms.{granting_by, locking_by, part_at, shape}
use Rattle.afr_heal.proofs.StagesWalk.{lock_elim}
use Rattle.afr_heal.specs.Answers.{asked_for, fits, source_after}
use Rattle.afr_heal.specs.Engine.{Begins}
use Rattle.afr_heal.specs.Laws.{Keeps}
use Rattle.afr_heal.specs.Standing.{AtPart, Base, Ending, Parting, Standing, Viewing}
use Rattle.afr_lines.specs.declared.answer.Told.{Told}
use Rattle.afr_lines.specs.declared.request.Area.{Area}
use Rattle.afr_lines.specs.declared.request.Request.TheVariants.{Lock}
use Rattle.afr_model_moves.specs.Register.{Exact, Finish, HealPart, Opening, Piece, WorkLocks, is_opening, over}
use Rattle.afr_model_moves.specs.Rules.{Register, busy, is_area}
use Rattle.afr_model_moves.specs.Sets.{empty, with}
use Rattle.afr_model_moves.specs.Steps.{locks_at, may_heal, turn}
use Rattle.afr_lines.specs.declared.lock.Domain.TheVariants.{Work}
use Rattle.afr_lines.specs.declared.answer.Told.TheVariants as as_told
use Rattle.afr_model_moves.specs.Rules as weak
use Rattle.afr_model_moves.proofs.AreaLemmas.{same_area_self}

module _ (n : ℕ) (keeps : ℕ → Kind → Bool) (pick : (ℕ → Bool) → ℕ) (q : Exact) (part : HealPart) (later : is_opening part ≡ false) (s : ℕ) (g : Gfid) (kind : Kind) (area : Area) (k : AtPart n keeps (shape q WorkLocks part g kind (Some area)) s g kind) where
  abbrev r : Exact
  r = shape q WorkLocks part g kind (Some area)

  module _ (b at : ℕ) (t : turn n keeps r s WorkLocks b ≡ true) where
    abbrev may_lock : ℕ → Bool
    may_lock x = r.possible x && may_heal n keeps r x b (Lock Work area)

    locked : (asked : ℕ → Bool) (law : Register) → Base g law.heal law.object law.second_held → law.kind ≡ kind → law.area ≡ Some area → ((x : ℕ) → x < n → asked x ≡ true → law.held x ≡ true) → ((x : ℕ) → x < n → q.first_reached x ≡ true → law.healing x ≡ true)
        → Standing n keeps (part_at n keeps r part asked may_lock false law) s g kind
    locked asked law base is_kind area_is granted healing = Parting (record {
      base = base;
      whole = off _ _ (off _ _ later);
      step = refl;
      part = later;
      bytes = k.bytes;
      is_kind = is_kind;
      picked = record { below = k.picked.below; possible = pair _ _ k.picked.possible (lock_ok n keeps r s g kind s area refl refl b t); is_good = k.picked.is_good; many = k.picked.many };
      area = area;
      area_is = area_is;
      granted = granted;
      healing = healing;
      told = λ x l m. off (q.possible x) _ (k.told x l m);
    })

    part_granted : (w own : Bool) → own ≡ true → busy n r.law ≡ w → Standing n keeps (part_at n keeps r part (with q.asked b) may_lock false (granting_by w own r.law area b)) s g kind
    part_granted true true e f = locked (with q.asked b) _ (record { inside = refl; is_object = refl; no_second = k.base.no_second }) refl refl (λ x l. with_with q.asked q.law.held b x (k.granted x l)) k.healing
    part_granted false true e f = locked (with q.asked b) _ (record { inside = refl; is_object = refl; no_second = λ x. refl }) refl refl (λ x l. with_with q.asked empty b x (λ a. absurd (not_both (q.law.held x) (k.granted x l a) (any_none n q.law.held (no_or _ _ f).0 x l)))) k.healing
    part_granted w false e f = absurd (cc e)

    part_held : (w own : Bool) → own ≡ true → busy n r.law ≡ w → Standing n keeps (part_at n keeps r part q.asked may_lock false (locking_by w own r.law area)) s g kind
    part_held true true e f = locked q.asked _ (record { inside = refl; is_object = refl; no_second = k.base.no_second }) refl refl k.granted k.healing
    part_held false true e f = locked q.asked _ (record { inside = refl; is_object = refl; no_second = λ x. refl }) refl refl (λ x l a. absurd (not_both (q.law.held x) (k.granted x l a) (any_none n q.law.held (no_or _ _ f).0 x l))) k.healing
    part_held w false e f = absurd (cc e)

    lock_base : (w own : Bool) → Base g true g.0 (locking_by w own r.law area).second_held
    lock_base true mine = record { inside = refl; is_object = refl; no_second = k.base.no_second }
    lock_base false mine = record { inside = refl; is_object = refl; no_second = λ x. refl }

    part_lost : (gone w own : Bool) → Standing n keeps (part_at n keeps r part (with q.asked b) may_lock true (weak.dropping gone b (locking_by w own r.law area))) s g kind
    part_lost gone true own = Ending (record { base = dropped_base g (locking_by true own r.law area) gone b (lock_base true own); broken = rw later refl })
    part_lost gone false own = Ending (record { base = dropped_base g (locking_by false own r.law area) gone b (lock_base false own); broken = rw later refl })

    part_lock_told : (told : Told) → fits (Lock Work area) told ≡ true → Standing n keeps (asked_for n keeps r at b (Lock Work area) told) (source_after n keeps pick (asked_for n keeps r at b (Lock Work area) told) s) g kind
    part_lock_told as_told.Granted f = part_granted (busy n r.law) (is_area (Some area) area) (same_area_self area) refl
    part_lock_told (as_told.Held owner) f = part_held (busy n r.law) (is_area (Some area) area) (same_area_self area) refl
    part_lock_told as_told.Failed f = part_lost false (busy n r.law) (is_area (Some area) area)
    part_lock_told as_told.NotConnected f = part_lost true (busy n r.law) (is_area (Some area) area)
    part_lock_told _ f = absurd (cc f)

  locks_of : (part : HealPart) → is_opening part ≡ false → over n (locks_at r part) q.asked ≡ true → over n q.first_reached q.asked ≡ true
  locks_of Opening e h = absurd (cc e)
  locks_of Piece e h = h
  locks_of Finish e h = h

  part_begins : over n (locks_at r part) r.asked ≡ true → Keeps n keeps pick r s g kind Begins
  part_begins o at = Viewing (record {
    base = record { inside = refl; is_object = refl; no_second = k.base.no_second };
    whole = refl;
    step = refl;
    part = later;
    bytes = k.bytes;
    is_kind = refl;
    picked = record { below = k.picked.below; possible = k.picked.possible; is_good = k.picked.is_good; many = k.picked.many };
    area = area;
    area_is = refl;
    holding = λ x l m. k.granted x l (over_asked n q.first_reached q.asked (locks_of part later o) x l m);
    healing = k.healing;
    told = k.told;
    more = some_left (over n q.first_reached empty) refl;
  })
    where
      one : (x : ℕ) × (x < n) × (q.first_reached x ≡ true)
      one = some_of_most n q.first_reached k.picked.many

      some_left : (f : Bool) → over n q.first_reached empty ≡ f → over n q.first_reached empty ≡ false
      some_left true e = absurd (cc (over_asked n q.first_reached empty e one.0 one.1 one.2))
      some_left false e = e

  -- the Work locks of a later part
  pub part_lock_kept : KeepsAt n keeps pick r s g kind
  part_lock_kept = lock_elim n keeps r s g kind (Keeps n keeps pick r s g kind) refl refl (λ b l t at told f. part_lock_told b at t told f) part_begins
