-- What the lines of a heal tell while it asks the Work locks of a later part.
use Rattle.std.proofs.Common.{ℕ, ◌≡◌, ◌+◌, ◌<◌, ◌≤◌, ◌&&◌, ◌||◌, ◌==◌, ◌∙◌, if◌then◌else◌, [], ◌∷◌, Bool, List, None, Option, Some, arith, false, is_some, nat_lt, not, refl, subst, suc, sym, true, zero}
use Rattle.std.proofs.lemmas.Bool.Decides.{nat_tests}
use Rattle.std.proofs.lemmas.Bool.{or_left}
use Rattle.afr_base.specs.Bricks.{is_nothing, member, minus}
use Rattle.afr_base.specs.declared.ids.ActorId.{ActorId}
use Rattle.afr_base.specs.declared.ids.Gfid.{Gfid}
use Rattle.afr_base.specs.declared.ids.Kind.{Kind}
use Rattle.afr_base.specs.declared.ids.Shape.{Shape}
use Rattle.afr_choice.specs.Looks.{no_looks, view_at}
use Rattle.afr_choice.specs.declared.looked.Looked.{Looked}
use Rattle.afr_heal.proofs.Finding.{over_asked}
use Rattle.afr_heal.proofs.Parts.{both, not_both, off}
use Rattle.afr_heal.proofs.StagesForms.{granting_by, locking_by, part_form, shape as formed}
use Rattle.afr_heal.proofs.StagesWalk.{lock_elim}
use Rattle.afr_heal.specs.Answers.{PicksOne, asked_for, begun_at, fits}
use Rattle.afr_heal.specs.Engine.{Begins, has_part, next_of}
use Rattle.afr_heal.specs.Standing.{AtPart}
use Rattle.afr_law_heal.proofs.PartingEnds.{has_view, late_reply, moved_unseen, not_settled}
use Rattle.afr_law_heal.proofs.PartingLemmas.{asked_again, asked_more, granted_more, lowest_parts, some_left}
use Rattle.afr_law_heal.proofs.StageLaws.{TellsAsked, TellsNext}
use Rattle.afr_law_heal.specs.HealTelling.{Tells, TellsAt}
use Rattle.afr_law_heal.specs.Stages.{IsShown, TellsAfter}
use Rattle.afr_lines.specs.Areas.{object_of_area}
use Rattle.afr_lines.specs.Overlap.{same_area}
use Rattle.afr_lines.specs.Work.{Work}
use Rattle.afr_lines.specs.declared.answer.Told.{Told}
use Rattle.afr_lines.specs.declared.answer.Told.TheVariants as as_told
use Rattle.afr_lines.specs.declared.line.Line.{Line}
use Rattle.afr_lines.specs.declared.line.Line.TheVariants as line
use Rattle.afr_lines.specs.declared.reply.HealReply.TheVariants as healed
use Rattle.afr_lines.specs.declared.request.Area.{Area}
use Rattle.afr_lines.specs.declared.request.Request.TheVariants.{Lock}
use Rattle.afr_model.specs.HealReplies.{IsHealAnswered}
use Rattle.afr_model.specs.Healing.{first_by, heal_getting, settled_at, whole_of}
use Rattle.afr_model.specs.Moved.{pieces}
use Rattle.afr_model.specs.Showing.{among, is_fault, is_granted, is_held, looked_by}
use Rattle.afr_model.specs.Standing.{asking, getting}
use Rattle.afr_model_moves.specs.Keeps.{keeps_in}
use Rattle.afr_model_moves.specs.Note.{stopping}
use Rattle.afr_model_moves.specs.Register.{Exact, Finish, HealPart, Looks, Opening, Piece, WorkLocks, holder, is_finish, is_opening, over}
use Rattle.afr_model_moves.specs.Rules as weak
use Rattle.afr_model_moves.specs.Rules.{Register, begun, busy, is_area}
use Rattle.afr_model_moves.specs.Sets.{empty, with}
use Rattle.afr_model_moves.specs.Steps.{is_lowest, locks_at, may_heal, turn}
use Rattle.afr_object.specs.declared.entry.View.{View}
use Rattle.afr_lines.specs.declared.lock.Domain.TheVariants.{Work as WorkDomain}
use Rattle.afr_heal_machine.specs.Outcome.{outcome_after, reply_of}
use Rattle.afr_heal_machine.specs.declared.outcome.HealOutcome.{HealOutcome}
use Rattle.afr_heal_machine.specs.declared.outcome.HealOutcome.TheVariants.{Settled, Failed}

-- a later part has its own lines
in_part : (shape : Shape) (r : Exact) (part : HealPart) (seen looked : Looked) (s : ℕ) (g : Gfid) (kind : Kind) (o : HealOutcome) (w : Work) → is_opening part ≡ false → TellsAfter shape r seen looked s g kind w → TellsAt false WorkLocks part shape r seen looked s g kind o w
in_part shape r Opening seen looked s g kind o w later k = absurd (cc later)
in_part shape r Piece seen looked s g kind o w later k = k
in_part shape r Finish seen looked s g kind o w later k = k

of_part : (shape : Shape) (r : Exact) (part : HealPart) (seen looked : Looked) (s : ℕ) (g : Gfid) (kind : Kind) (o : HealOutcome) (w : Work) → is_opening part ≡ false → TellsAt false WorkLocks part shape r seen looked s g kind o w → TellsAfter shape r seen looked s g kind w
of_part shape r Opening seen looked s g kind o w later k = absurd (cc later)
of_part shape r Piece seen looked s g kind o w later k = k
of_part shape r Finish seen looked s g kind o w later k = k

pub in_looks : (shape : Shape) (r : Exact) (part : HealPart) (seen looked : Looked) (s : ℕ) (g : Gfid) (kind : Kind) (o : HealOutcome) (w : Work) → is_opening part ≡ false → TellsAfter shape r seen looked s g kind w → TellsAt false Looks part shape r seen looked s g kind o w
in_looks shape r Opening seen looked s g kind o w later k = absurd (cc later)
in_looks shape r Piece seen looked s g kind o w later k = k
in_looks shape r Finish seen looked s g kind o w later k = k

pub of_looks : (shape : Shape) (r : Exact) (part : HealPart) (seen looked : Looked) (s : ℕ) (g : Gfid) (kind : Kind) (o : HealOutcome) (w : Work) → is_opening part ≡ false → TellsAt false Looks part shape r seen looked s g kind o w → TellsAfter shape r seen looked s g kind w
of_looks shape r Opening seen looked s g kind o w later k = absurd (cc later)
of_looks shape r Piece seen looked s g kind o w later k = k
of_looks shape r Finish seen looked s g kind o w later k = k

-- a later part locks the bricks of the first looks
locks_there : (r : Exact) (part : HealPart) → is_opening part ≡ false → locks_at r part ≡ r.first_reached
locks_there r Opening h = absurd (cc h)
locks_there r Piece h = refl
locks_there r Finish h = refl

module _ (shape : Shape) (q : Exact) (part : HealPart) (later : is_opening part ≡ false) (s : ℕ) (g : Gfid) (kind : Kind) (area : Area) (seen looked : Looked) (w : Work) where
  abbrev r : Exact
  r = formed q WorkLocks part g kind (Some area)

  module _ (shown : IsShown r seen looked) (k : TellsAfter shape r seen looked s g kind w) where
    -- nobody has settled
    none_settled : (x : ℕ) → x < shape.n → member (among settled_at w) x ≡ false
    none_settled x l = k.closed x l ∙ k.closing x l ∙ last_off (not (has_part kind part)) (holder q.first_views x)
      where
        last_off : (a b : Bool) → ((a && b) && false) ≡ false
        last_off true true = refl
        last_off true false = refl
        last_off false b = refl

    module _ (a : ActorId) (b : ℕ) (told : Told) (took : Bool) (log : List Line) (lowest : is_lowest q.first_reached q.asked b ≡ true) where
      abbrev w1 : Work
      w1 = (line.Ask a (record { 0 = b }) (Lock WorkDomain area) told took, log) ∷ w

      -- the area is that of all bytes at the finish alone
      whole : same_area (whole_of g kind) area ≡ is_finish part
      whole = k.parted later refl area refl

      seen_there : member seen.reached b ≡ true
      seen_there = let e = shown.first_reached in subst (λ (set : ℕ → Bool). set b ≡ true) e (lowest_parts q.first_reached q.asked b lowest).0

      watched : (x : ℕ) → member (among (getting (whole_of g kind)) w1) x ≡ true → (member seen.reached x || member (first_by w).missing x) ≡ true
      watched x m = granted_more _ (among (getting (whole_of g kind)) w) b x (same_area (whole_of g kind) area && is_granted told) m (k.watched x)
          (λ e. let here : member seen.reached x ≡ true = subst (λ (y : ℕ). member seen.reached y ≡ true) e seen_there in or_left _ (member (first_by w).missing x) here)

      -- who was asked, once it was told anything but Held
      worked_more : is_held told ≡ false → (x : ℕ) → member (among heal_getting w) x ≡ true → member (among (asking (whole_of g kind)) w1) x ≡ true
      worked_more free x m = rw (free, whole) (asked_more q.first_reached q.asked (among (asking (whole_of g kind)) w) b x (is_finish part) lowest (k.worked x m))

      -- the lines with one lock more
      lock_tells : (asked possible : ℕ → Bool) (broken : Bool) (law : Register) → law.area ≡ Some area
          → ((x : ℕ) → member (among heal_getting w) x ≡ true → (member (among (asking (whole_of g kind)) w1) x || ((is_finish part && true) && is_lowest q.first_reached asked x)) ≡ true)
          → TellsAfter shape (record r { asked = asked; possible = possible; broken = broken; law = law }) seen looked s g kind w1
      lock_tells asked possible broken law of_area worked = record {
        begun = rw k.begun refl;
        still = λ e. rw k.begun refl;
        missing = λ x l. rw k.begun (k.missing x l);
        first = rw k.begun k.first;
        none = rw k.begun k.none;
        low = k.low;
        shown = k.shown;
        numbers = k.numbers;
        free = rw k.free refl;
        asked = k.asked;
        worked = worked;
        watched = λ x m. rw k.begun (watched x m);
        opened = k.opened;
        closing = k.closing;
        closed = k.closed;
        unsettled = k.unsettled;
        one = λ e. absurd (not_both (is_opening part) e later);
        some = k.some;
        more = λ e f. absurd (cc f);
        again = λ e. void (object_of_area area).0;
        finish = λ e. whole;
        parted = λ e f there is. let same : area ≡ there = cc (sym of_area ∙ is) in rw (← same) whole;
        present = λ e f. absurd (cc f);
      }
        where
          before : looked_by g w ≡ no_looks
          before = k.again later

          void : (object : ℕ) → (if object == g.0 then no_looks else looked_by g w) ≡ no_looks
          void object = go (object == g.0)
            where
              go : (f : Bool) → (if f then no_looks else looked_by g w) ≡ no_looks
              go true = refl
              go false = before

      -- a failed lock ends the heal
      lock_fails : (picked_low : s < shape.n) → shape.n ≤ 5 → holder q.first_views s ≡ true → is_fault told ≡ true → is_held told ≡ false → IsHealAnswered shape g kind w1 healed.Failed
      lock_fails below few held fault free = record {
        caused = late_reply shape g kind w1 (rw k.free refl) (rw k.begun k.none)
            (not_settled shape seen k.shown w1 s (rw k.begun k.first) small held_view (none_settled s below))
            None (moved_unseen shape g kind w1 unseen);
        failed = λ e. rw (k.begun, fault) refl;
        asked = λ e. record { locked = k.asked; worked = λ most x m. worked_more free x m; looked = λ most x m. rw (k.begun, k.first) (watched x m) };
      }
        where
          small : s < 5
          small = omega (arith, below, few)

          held_view : holder (λ y. view_at y seen) s ≡ true
          held_view = let e = shown.first_views in subst (λ (views : ℕ → Option View). holder views s ≡ true) e held

          reached_source : member seen.reached s ≡ true
          reached_source = k.shown s (has_view shape seen k.shown (view_at s seen) held_view)

          unseen : is_nothing (minus (first_by w1).looked.reached (looked_by g w1).reached) ≡ false
          unseen = rw (k.begun, k.first) (gone (object_of_area area).0)
            where
              before : looked_by g w ≡ no_looks
              before = k.again later

              gone : (object : ℕ) → is_nothing (minus seen.reached (if object == g.0 then no_looks else looked_by g w).reached) ≡ false
              gone object = go (object == g.0)
                where
                  go : (f : Bool) → is_nothing (minus seen.reached (if f then no_looks else looked_by g w).reached) ≡ false
                  go true = some_left seen.reached [] s reached_source refl
                  go false = rw before (some_left seen.reached [] s reached_source refl)

-- ---- what the heal is then
module _ (shape : Shape) (q : Exact) (seen looked : Looked) (s : ℕ) (g : Gfid) (kind : Kind) (o caused : HealOutcome) (w : Work) where
  abbrev outcome : HealOutcome
  outcome = outcome_after false q.broken o caused

  -- it goes on, and will settle
  pub still_tells : q.broken ≡ false → o ≡ Settled → TellsAt false q.step q.part shape q seen looked s g kind outcome w → Tells shape q seen looked s g kind outcome w
  still_tells whole settled k = record {
    at = subst (λ (f : Bool). TellsAt f q.step q.part shape q seen looked s g kind outcome w) (sym whole) k;
    will = λ h. rw whole settled;
  }

  -- or it has ended
  pub ends_told : q.broken ≡ true → IsHealAnswered shape g kind w (reply_of caused seen) → Tells shape q seen looked s g kind outcome w
  ends_told broken answered = record {
    at = subst (λ (f : Bool). TellsAt f q.step q.part shape q seen looked s g kind outcome w) (sym broken) (rw broken answered);
    will = λ h. absurd (not_both q.broken broken h);
  }

-- ---- each answer
module _ (pick : (ℕ → Bool) → ℕ) (shape : Shape) (few : shape.n ≤ 5) (q : Exact) (part : HealPart) (later : is_opening part ≡ false) (s : ℕ) (g : Gfid) (kind : Kind) (area : Area) (at : AtPart shape.n (keeps_in shape) (formed q WorkLocks part g kind (Some area)) s g kind)
    (seen looked : Looked) (o : HealOutcome) (w : Work) (settled : o ≡ Settled) (shown : IsShown (formed q WorkLocks part g kind (Some area)) seen looked) (k : TellsAfter shape (formed q WorkLocks part g kind (Some area)) seen looked s g kind w) where
  abbrev r2 : Exact
  r2 = formed q WorkLocks part g kind (Some area)

  module _ (a : ActorId) (b t : ℕ) (took : Bool) (log : List Line) (lowest : is_lowest q.first_reached q.asked b ≡ true) where
    abbrev said : Told → Work
    said told = (line.Ask a (record { 0 = b }) (Lock WorkDomain area) told took, log) ∷ w

    abbrev may_lock : ℕ → Bool
    may_lock x = r2.possible x && may_heal shape.n (keeps_in shape) r2 x b (Lock WorkDomain area)

    abbrev after_lock : (ℕ → Bool) → Bool → Register → Exact
    after_lock asked fail law = stopping shape.n (keeps_in shape) (record r2 { asked = asked; possible = may_lock; broken = fail && not (is_opening part); law = law })

    held_area : (holds own : Bool) → (locking_by holds own r2.law area).area ≡ Some area
    held_area true own = refl
    held_area false own = refl

    granted_area : (holds own : Bool) → (granting_by holds own r2.law area b).area ≡ Some area
    granted_area true true = refl
    granted_area true false = refl
    granted_area false own = refl

    source_held : holder q.first_views s ≡ true
    source_held = (both (holder q.first_views s) (keeps_in shape s kind) (both _ _ at.picked.is_good).0).0

    -- it goes on
    goes : (told : Told) (asked : ℕ → Bool) (law : Register) → law.area ≡ Some area
        → ((x : ℕ) → member (among heal_getting w) x ≡ true → (member (among (asking (whole_of g kind)) (said told)) x || ((is_finish part && true) && is_lowest q.first_reached asked x)) ≡ true)
        → (caused : HealOutcome) → Tells shape (after_lock asked false law) seen looked s g kind (outcome_after false (after_lock asked false law).broken o caused) (said told)
    goes told asked law of_area worked caused =
        still_tells shape (after_lock asked false law) seen looked s g kind o caused (said told) (off _ _ (off _ _ later)) settled
        (in_part shape (after_lock asked false law) part seen looked s g kind (outcome_after false (after_lock asked false law).broken o caused) (said told) later
        (lock_tells shape q part later s g kind area seen looked w shown k a b told took log lowest asked may_lock _ law of_area worked))

    -- it ends
    falls : (told : Told) → is_fault told ≡ true → is_held told ≡ false → (law : Register) (caused : HealOutcome) → caused ≡ Failed → Tells shape (after_lock (with q.asked b) true law) seen looked s g kind (outcome_after false (after_lock (with q.asked b) true law).broken o caused) (said told)
    falls told fault free law caused e =
        ends_told shape (after_lock (with q.asked b) true law) seen looked s g kind o caused (said told) (rw later refl)
        (rw e (lock_fails shape q part later s g kind area seen looked w shown k a b told took log lowest at.picked.below few source_held fault free))

    lock_told : (told : Told) → fits (Lock WorkDomain area) told ≡ true
        → TellsAsked pick shape r2 seen looked s g kind o w b (Lock WorkDomain area) (asked_for shape.n (keeps_in shape) r2 t b (Lock WorkDomain area) told) told (line.Ask a (record { 0 = b }) (Lock WorkDomain area) told took) log
    lock_told as_told.Granted f now = goes as_told.Granted (with q.asked b) (granting_by (busy shape.n r2.law) (is_area (Some area) area) r2.law area b) (granted_area (busy shape.n r2.law) (is_area (Some area) area))
        (λ x m. or_left _ _ (worked_more shape q part later s g kind area seen looked w shown k a b as_told.Granted took log lowest refl x m)) _
    lock_told (as_told.Held owner) f now = goes (as_told.Held owner) q.asked (locking_by (busy shape.n r2.law) (is_area (Some area) area) r2.law area) (held_area (busy shape.n r2.law) (is_area (Some area) area))
        (λ x m. rw (k.parted later refl area refl) (asked_again q.first_reached q.asked (among (asking (whole_of g kind)) w) b x (is_finish part) lowest (k.worked x m))) _
    lock_told as_told.Failed f now = falls as_told.Failed refl refl (locking_by (busy shape.n r2.law) (is_area (Some area) area) r2.law area) _ (rw later refl)
    lock_told as_told.NotConnected f now = falls as_told.NotConnected refl refl (weak.dropping true b (locking_by (busy shape.n r2.law) (is_area (Some area) area) r2.law area)) _ (rw later refl)
    lock_told _ f now = absurd (cc f)

  -- ---- the HealBegin line of the part
  begins_told : over shape.n (locks_at r2 part) r2.asked ≡ true → TellsNext pick shape r2 seen looked s g kind o w Begins
  begins_told all t a log = record {
    at = in_looks shape q1 part seen no_looks s g kind o w1 later (record {
      begun = refl;
      still = λ e. rw k.begun refl;
      missing = k.missing;
      first = k.first;
      none = k.none;
      low = k.low;
      shown = k.shown;
      numbers = k.numbers;
      free = rw k.free refl;
      asked = k.asked;
      worked = λ x m. asked_all x (k.worked x m);
      watched = k.watched;
      opened = k.opened;
      closing = k.closing;
      closed = k.closed;
      unsettled = k.unsettled;
      one = λ e. absurd (not_both (is_opening part) e later);
      some = one_more (pieces w) k.some;
      more = λ e f. two_more (pieces w) k.some;
      again = λ e. before;
      finish = k.finish;
      parted = λ e f. absurd (cc f);
      present = λ e f. (nobody, (λ x m. absurd (cc m)), (λ x m. absurd (cc m)));
    });
    will = λ e. settled;
  }
    where
      q1 : Exact
      q1 = begun_at shape.n (keeps_in shape) r2 t g kind

      w1 : Work
      w1 = (line.HealBegin a g kind, log) ∷ w

      before : looked_by g w ≡ no_looks
      before = k.again later

      one_more : (m : ℕ) → nat_lt 0 m ≡ true → nat_lt 0 (m + 1) ≡ true
      one_more m h = grind (arith, nat_tests, h)

      two_more : (m : ℕ) → nat_lt 0 m ≡ true → nat_lt 1 (m + 1) ≡ true
      two_more m h = grind (arith, nat_tests, h)

      all_there : over shape.n q.first_reached q.asked ≡ true
      all_there = subst (λ (set : ℕ → Bool). over shape.n set q.asked ≡ true) (locks_there r2 part later) all

      nobody : (x : ℕ) → is_some (view_at x no_looks) ≡ true → member no_looks.reached x ≡ true
      nobody zero h = absurd (cc h)
      nobody (suc zero) h = absurd (cc h)
      nobody (suc (suc zero)) h = absurd (cc h)
      nobody (suc (suc (suc zero))) h = absurd (cc h)
      nobody (suc (suc (suc (suc zero)))) h = absurd (cc h)
      nobody (suc (suc (suc (suc (suc x))))) h = absurd (cc h)

      -- all were asked, so none is left over
      asked_all : (x : ℕ) → (member (among (asking (whole_of g kind)) w) x || ((is_finish part && true) && is_lowest q.first_reached q.asked x)) ≡ true → (member (among (asking (whole_of g kind)) w) x || ((is_finish part && false) && is_lowest q.first_reached empty x)) ≡ true
      asked_all x h = go (member (among (asking (whole_of g kind)) w) x) (is_finish part) (is_lowest q.first_reached q.asked x) refl h
        where
          left : is_lowest q.first_reached q.asked x ≡ true → ⊥
          left e =
              let parts = lowest_parts q.first_reached q.asked x e in
              let there : member seen.reached x ≡ true = (let same = shown.first_reached in subst (λ (set : ℕ → Bool). set x ≡ true) same parts.0) in
              not_both (q.asked x) (over_asked shape.n q.first_reached q.asked all_there x (k.low x there) parts.0) parts.1

          go : (m f l : Bool) → is_lowest q.first_reached q.asked x ≡ l → (m || ((f && true) && l)) ≡ true → (m || ((f && false) && is_lowest q.first_reached empty x)) ≡ true
          go true f l e h = refl
          go false true true e h = absurd (left e)
          go false true false e h = absurd (cc h)
          go false false l e h = absurd (cc h)

  -- the Work locks of a later part
  parting_formed : TellsNext pick shape r2 seen looked s g kind o w (next_of shape.n (keeps_in shape) r2 s g kind)
  parting_formed = lock_elim shape.n (keeps_in shape) r2 s g kind (TellsNext pick shape r2 seen looked s g kind o w) refl refl
      (λ b l turned. ((λ t told a took log f whole. lock_told a b t took log (lowest_now b turned) told f), tt)) begins_told
    where
      lowest_now : (b : ℕ) → turn shape.n (keeps_in shape) r2 s WorkLocks b ≡ true → is_lowest q.first_reached q.asked b ≡ true
      lowest_now b turned = subst (λ (set : ℕ → Bool). is_lowest set q.asked b ≡ true) (locks_there r2 part later) turned

-- the Work locks of a later part
pub parting_tells : (pick : (ℕ → Bool) → ℕ) (shape : Shape) (r : Exact) (seen looked : Looked) (s : ℕ) (g : Gfid) (kind : Kind) (o : HealOutcome) (w : Work)
    → 0 < shape.n → shape.n ≤ 5 → PicksOne shape.n pick → AtPart shape.n (keeps_in shape) r s g kind → IsShown r seen looked → Tells shape r seen looked s g kind o w
    → TellsNext pick shape r seen looked s g kind o w (next_of shape.n (keeps_in shape) r s g kind)
parting_tells pick shape r seen looked s g kind o w some few picks at shown tells =
    let e = part_form shape.n (keeps_in shape) r s g kind at in
    let formed_at = subst (λ (r : Exact). AtPart shape.n (keeps_in shape) r s g kind) e at in
    let formed_shown = subst (λ (r : Exact). IsShown r seen looked) e shown in
    let formed_tells = subst (λ (r : Exact). Tells shape r seen looked s g kind o w) e tells in
    subst (λ (r : Exact). TellsNext pick shape r seen looked s g kind o w (next_of shape.n (keeps_in shape) r s g kind)) (sym e)
    (parting_formed pick shape few r r.part at.part s g kind at.area formed_at seen looked o w (formed_tells.will refl) formed_shown
    (of_part shape (formed r WorkLocks r.part g kind (Some at.area)) r.part seen looked s g kind o w at.part formed_tells.at))
