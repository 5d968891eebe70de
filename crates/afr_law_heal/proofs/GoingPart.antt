-- The first Work lock of the next part of a heal, and what its lines tell then.
use Rattle.std.proofs.Common.{◌≡◌, ℕ, ◌<◌, ◌≤◌, ◌&&◌, ◌||◌, not, ◌==◌, nat_lt, Bool, true, false, List, [], ◌∷◌, refl, sym, ◌∙◌, subst, arith, Option, None, Some, if◌then◌else◌}
use Rattle.std.proofs.lemmas.Bool.Decides.{nat_tests}
use Rattle.std.proofs.lemmas.Bool.{or_right, or_left}
use Rattle.afr_base.specs.Bricks.{added, is_nothing, member, minus, removed}
use Rattle.afr_base.specs.Kinds.{same_kind}
use Rattle.afr_base.specs.SetLemmas.{member_added, member_removed, some_member}
use Rattle.afr_base.specs.declared.ids.ActorId.{ActorId}
use Rattle.afr_base.specs.declared.ids.Gfid.{Gfid}
use Rattle.afr_base.specs.declared.ids.Kind.{Kind}
use Rattle.afr_base.specs.declared.ids.Kind.TheVariants.{Attrs, Bytes, Names}
use Rattle.afr_base.specs.declared.ids.Shape.{Shape}
use Rattle.afr_base.proofs.TestLemmas.{same_number}
use Rattle.afr_choice.specs.Looks.{no_looks}
use Rattle.afr_choice.specs.declared.looked.Looked.{Looked}
use Rattle.afr_heal.proofs.Parts.{both, not_both}
use Rattle.afr_heal.proofs.StagesForms.{going_at, granting_first, locking_first, part_at}
use Rattle.afr_heal.proofs.StagesWalk.{at_unlocks, is_free}
use Rattle.afr_heal.specs.Answers.{asked_for, fits, source_after}
use Rattle.afr_heal.specs.Engine.{Ask, has_part, lock_next}
use Rattle.afr_heal.specs.Requests.{next_area}
use Rattle.afr_heal.specs.Standing.{AfterLooks}
use Rattle.afr_law_heal.proofs.GoingAfter.{holder_is, raised_all, source_copy}
use Rattle.afr_law_heal.proofs.GoingFails.{asked_before, failed_by}
use Rattle.afr_law_heal.proofs.GoingLooks.{and_false, in_left}
use Rattle.afr_law_heal.proofs.StageLaws.{TellsNext, outcome_next}
use Rattle.afr_law_heal.specs.HealTelling.{Tells}
use Rattle.afr_law_heal.specs.Stages.{IsShown, TellsAfter, raises}
use Rattle.afr_lines.specs.Areas.{object_of_area}
use Rattle.afr_lines.specs.Overlap.{same_area}
use Rattle.afr_lines.specs.Work.{Work}
use Rattle.afr_lines.specs.declared.answer.Told.{Told}
use Rattle.afr_lines.specs.declared.answer.Told.TheVariants as as_told
use Rattle.afr_lines.specs.declared.line.Line.{Line}
use Rattle.afr_lines.specs.declared.line.Line.TheVariants as line
use Rattle.afr_lines.specs.declared.reply.HealReply.TheVariants as healed
use Rattle.afr_lines.specs.declared.request.Area.{Area}
use Rattle.afr_lines.specs.declared.request.Request.TheVariants.{Lock}
use Rattle.afr_model.specs.Healing.{First, busy_by, first_by, heal_getting, settling, holders_in, settled_at, whole_of}
use Rattle.afr_model.specs.HealReplies.{IsHealAnswered, by_first, is_failed, is_settled}
use Rattle.afr_model.specs.Moved.{moved_by, pieces}
use Rattle.afr_model.specs.Showing.{among, is_fault, is_granted, is_held, looked_by}
use Rattle.afr_model.specs.Standing.{asking, getting, marked}
use Rattle.afr_model_moves.specs.Keeps.{keeps_in}
use Rattle.afr_model_moves.specs.Note.{next_part}
use Rattle.afr_model_moves.specs.Register.{Exact, Finish, HealPart, HealPres, Piece, Unlocks, WorkLocks, asked_in, holder, is_finish, is_opening, len_of, piece_area, rank, same_step, whole_area}
use Rattle.afr_model_moves.specs.Rules as weak
use Rattle.afr_model_moves.specs.Rules.{Register, begun, busy}
use Rattle.afr_model_moves.specs.Sets.{empty, with}
use Rattle.afr_model_moves.specs.Steps.{is_lowest, may_heal, mends_over, passed, pres_over, reads_over, settles_over}
use Rattle.afr_lines.specs.declared.lock.Domain.TheVariants.{Work as WorkDomain}
use Rattle.afr_heal_machine.specs.declared.outcome.HealOutcome.{HealOutcome}
use Rattle.afr_heal_machine.specs.declared.outcome.HealOutcome.TheVariants.{Settled}

-- ---- who was asked
module _ (b x : ℕ) (s : List ℕ) where
  -- a lock that wasn't told Held
  marked_more : (f : Bool) → member s x ≡ true → member (if f then marked true b s else s) x ≡ true
  marked_more true h = member_added b s x ∙ or_right (b == x) (member s x) h
  marked_more false h = h

  -- one that was
  marked_held : (f l : Bool) → member s x ≡ true → ((b == x) ≡ true → l ≡ true) → (member (if f then marked false b s else s) x || (f && true && l)) ≡ true
  marked_held false l h k = or_left (member s x) _ h
  marked_held true l h k = go (b == x) refl
    where
      go : (e : Bool) → (b == x) ≡ e → (member (removed b s) x || (true && l)) ≡ true
      go true e = or_right (member (removed b s) x) l (k e)
      go false e = or_left (member (removed b s) x) l (member_removed b s x ∙ rw (e, h) refl)

  -- one that was granted
  granted_more : (f : Bool) (P : Bool) → (member s x ≡ true → P ≡ true) → ((b == x) ≡ true → P ≡ true) → member (if f && true then added b s else s) x ≡ true → P ≡ true
  granted_more false P old new h = old h
  granted_more true P old new h = go (b == x) refl (sym (member_added b s x) ∙ h)
    where
      go : (e : Bool) → (b == x) ≡ e → (e || member s x) ≡ true → P ≡ true
      go true e h = new e
      go false e h = old h

  granted_none : (f : Bool) → member (if f && false then added b s else s) x ≡ true → member s x ≡ true
  granted_none true h = h
  granted_none false h = h

-- the looks before it are void, so nothing shows that the source moved
lacking : (a c : Bool) (m : Option ℕ) → c ≡ true → (if a || c then None else m) ≡ None
lacking true c m e = refl
lacking false c m e = rw e refl

module _ (shape : Shape) (few : shape.n ≤ 5) (p : Exact) (seen looked : Looked) (s : ℕ) (g : Gfid) (kind : Kind) (area : Area) where
  abbrev n : ℕ
  n = shape.n

  abbrev keeps : ℕ → Kind → Bool
  keeps = keeps_in shape

  abbrev r : Exact
  r = going_at p g kind area

  module _ (k : AfterLooks n keeps r s g kind) (w : Work) (shown : IsShown r seen looked) (ta : TellsAfter shape r seen looked s g kind w) where
    module _ (o : settles_over n keeps r s ≡ true) (hp : has_part kind p.part ≡ true) (b : ℕ) (t : is_lowest r.first_reached (λ x. false) b ≡ true)
        (there : Area) (on : (object_of_area there).0 ≡ g.0) (a : ActorId) (took : Bool) (log : List Line) where
      abbrev lines : Told → Work
      lines told = (line.Ask a (record { 0 = b }) (Lock WorkDomain there) told took, log) ∷ w

      first_now : (told : Told) → first_by (lines told) ≡ record (first_by w) { still = false }
      first_now told = rw ta.begun refl

      free_now : (told : Told) → busy_by (lines told) ≡ None
      free_now told = rw ta.free refl

      void_now : (told : Told) → looked_by g (lines told) ≡ no_looks
      void_now told = rw (on, same_number g.0) refl

      reached_there : member seen.reached b ≡ true
      reached_there = subst (λ (f : ℕ → Bool). f b ≡ true) shown.first_reached (both (r.first_reached b) true (both (r.first_reached b && true) _ t).0).0

      no_settle : (x : ℕ) → x < n → member (among settling w) x ≡ false
      no_settle x l = ta.closing x l ∙ rw hp refl

      pres_passed : passed n keeps r s HealPres ≡ true
      pres_passed = (both (reads_over n keeps r s) (passed n keeps r s HealPres) (both (pres_over n keeps r s) _ (both (mends_over n keeps r s) _ o).0).0).1

      -- what the lines tell of the next part
      module _ (told : Told) (part : HealPart) (asked possible : ℕ → Bool) (law : Register) (broken : Bool) where
        abbrev q : Exact
        q = record r { step = WorkLocks; asked = asked; part = part; possible = possible; broken = broken; law = law }

        raises_same : (kind : Kind) (x : ℕ) → raises shape q s kind x ≡ raises shape r s kind x
        raises_same Bytes x = refl
        raises_same Attrs x = refl
        raises_same Names x = refl

        after_lock : is_opening part ≡ false → is_finish part ≡ same_area (whole_of g kind) there → law.area ≡ Some there
            → ((x : ℕ) → member (among heal_getting w) x ≡ true → (member (among (asking (whole_of g kind)) (lines told)) x || (is_finish part && true && is_lowest r.first_reached asked x)) ≡ true)
            → ((x : ℕ) → member (among (getting (whole_of g kind)) (lines told)) x ≡ true → (member seen.reached x || member (first_by w).missing x) ≡ true)
            → TellsAfter shape q seen looked s g kind (lines told)
        after_lock later fin own worked watched = record {
          begun = rw (first_now told) ta.begun;
          still = λ h. rw (first_now told) refl;
          missing = λ x l. rw (first_now told) (ta.missing x l);
          first = rw (first_now told) ta.first;
          none = rw (first_now told) ta.none;
          low = ta.low;
          shown = ta.shown;
          numbers = ta.numbers;
          free = free_now told;
          asked = ta.asked;
          worked = worked;
          watched = λ x h. rw (first_now told) (watched x h);
          opened = λ x l. ta.opened x l ∙ raised_all shape few p seen looked s g kind area k pres_passed x l ∙ rw later (sym (raises_same kind x) ∙ plain (raises shape q s kind x));
          closing = λ x l. no_settle x l ∙ sym (and_false (not (has_part kind part) && holder r.first_views x));
          closed = ta.closed;
          unsettled = λ h. ta.unsettled hp;
          one = λ h. absurd (not_both (is_opening part) h later);
          some = ta.some;
          more = λ h e. absurd (cc e);
          again = λ h. void_now told;
          finish = λ h. sym fin;
          parted = λ h e other is. (let same : there ≡ other = there_is law.area other own is in subst (λ (x : Area). same_area (whole_of g kind) x ≡ is_finish part) same (sym fin));
          present = λ h e. absurd (cc e);
        }
          where
            plain : (f : Bool) → f ≡ (f && (true || false))
            plain true = refl
            plain false = refl

            there_is : (x : Option Area) (other : Area) → x ≡ Some there → x ≡ Some other → there ≡ other
            there_is x other e f = let g : Some there ≡ Some other = sym e ∙ f in cc g

      -- a lock that failed ends the heal
      lock_fails : (told : Told) → is_fault told ≡ true → is_held told ≡ false → is_granted told ≡ false → IsHealAnswered shape g kind (lines told) healed.Failed
      lock_fails told fault held granted = record {
        caused = failed_by (busy_by (lines told)) (by_first shape kind (first_by (lines told))) (is_settled (lines told)) (moved_by shape g kind (lines told)) (free_now told) (rw (first_now told) ta.none) unsettled unmoved;
        failed = λ e. failing (first_by (lines told)) (is_fault told) (first_now told) fault;
        asked = λ e. record {
          locked = ta.asked;
          worked = λ most x h. rw held (marked_more b x (among (asking (whole_of g kind)) w) (same_area (whole_of g kind) there) (asked_before shape few p seen looked s g kind area k w shown ta x h));
          looked = λ most x h. rw (first_now told, ta.first) (ta.watched x (granted_none b x (among (getting (whole_of g kind)) w) (same_area (whole_of g kind) there) (rw granted at h)));
        };
      }
        where
          unsettled : is_settled (lines told) ≡ false
          unsettled = rw (first_now told) (some_member (minus (holders_in w) (among settled_at w)) s (in_left (holders_in w) (among settled_at w) s
              (holder_is shape few p seen looked s g kind area k w shown ta s k.below ∙ (source_copy shape few p seen looked s g kind area k).0) (ta.closed s k.below ∙ no_settle s k.below)))

          unmoved : moved_by shape g kind (lines told) ≡ None
          unmoved = lacking (not (nat_lt 1 (pieces w))) _ _ (left (first_by (lines told)).looked (looked_by g (lines told)) (rw (first_now told) ta.first) (void_now told))
            where
              left : (x y : Looked) → x ≡ seen → y ≡ no_looks → not (is_nothing (minus x.reached y.reached)) ≡ true
              left x y ex ey = let some = some_member (minus seen.reached []) b (in_left seen.reached [] b reached_there refl) in rw (ex, ey, some) refl

          failing : (f : First) (x : Bool) → f ≡ record (first_by w) { still = false } → x ≡ true → ((f.begun && not f.still && x) || is_failed w) ≡ true
          failing f x e ex = rw (e, ex, ta.begun) refl

    module _ (pick : (ℕ → Bool) → ℕ) (o : HealOutcome) (will : o ≡ Settled) where
      module _ (over : settles_over n keeps r s ≡ true) (u : passed n keeps r s Unlocks ≡ true) (hp : has_part kind p.part ≡ true) (b at : ℕ) (l : b < n) (t : is_lowest r.first_reached (λ x. false) b ≡ true) (a : ActorId) (took : Bool) (log : List Line) where
        abbrev there : Area
        there = next_area r s g

        abbrev part_of : Bool → HealPart
        part_of f = if f then Finish else Piece

        on : (object_of_area there).0 ≡ g.0
        on = by (nat_lt r.upto (len_of (r.first_views s)))
          where
            by : (f : Bool) → (object_of_area (if f then piece_area g.0 r.upto else whole_area g.0 Bytes)).0 ≡ g.0
            by true = refl
            by false = refl

        stepped : rank p.step ≡ 12
        stepped = at_unlocks n keeps r s g kind k u hp

        part_is : next_part r there ≡ part_of (same_area (whole_area g.0 Bytes) there)
        part_is = let e : same_step p.step Unlocks ≡ true = rw stepped refl in rw e refl

        asked_is : asked_in r WorkLocks ≡ empty
        asked_is = let e : same_step p.step WorkLocks ≡ false = rw stepped refl in rw e refl

        free : busy n r.law ≡ false
        free = is_free n keeps r s g kind k u

        whole_is : (f : Bool) → same_area (whole_area g.0 Bytes) there ≡ f → f ≡ same_area (whole_of g kind) there
        whole_is f e = by kind (both (same_kind kind Bytes) (not (is_finish p.part)) hp).0
          where
            by : (of : Kind) → same_kind of Bytes ≡ true → f ≡ same_area (whole_of g of) there
            by Bytes h = sym e
            by Attrs h = absurd (cc h)
            by Names h = absurd (cc h)

        abbrev still : ℕ → Bool
        still x = r.possible x && may_heal n keeps r x b (Lock WorkDomain there)

        abbrev v : Told → Work
        v told = (line.Ask a (record { 0 = b }) (Lock WorkDomain there) told took, log) ∷ w

        abbrev Leaves : Told → Exact → Type 0
        Leaves told q = Tells shape q seen looked (source_after n keeps pick q s) g kind (outcome_next shape r q seen looked s kind (Lock WorkDomain there) told o) (v told)

        -- it was granted
        granted_part : (f : Bool) → same_area (whole_area g.0 Bytes) there ≡ f → (held : ℕ → Bool) → Leaves as_told.Granted (part_at n keeps r (part_of f) (with empty b) still false (record (begun r.law there) { held = held }))
        granted_part f e held = by f (whole_is f e)
          where
            worked : (x : ℕ) → member (among heal_getting w) x ≡ true → (z : Bool) → (member (among (asking (whole_of g kind)) (v as_told.Granted)) x || z) ≡ true
            worked x h z = or_left _ z (marked_more b x (among (asking (whole_of g kind)) w) (same_area (whole_of g kind) there) (asked_before shape few p seen looked s g kind area k w shown ta x h))

            watched : (x : ℕ) → member (among (getting (whole_of g kind)) (v as_told.Granted)) x ≡ true → (member seen.reached x || member (first_by w).missing x) ≡ true
            watched x h = granted_more b x (among (getting (whole_of g kind)) w) (same_area (whole_of g kind) there) _ (ta.watched x)
                (λ e. (let is : b ≡ x = grind (arith, nat_tests, e) in or_left _ (member (first_by w).missing x) (subst (λ (y : ℕ). member seen.reached y ≡ true) is (reached_there over hp b t there on a took log)))) h

            by : (f : Bool) → f ≡ same_area (whole_of g kind) there → Leaves as_told.Granted (part_at n keeps r (part_of f) (with empty b) still false (record (begun r.law there) { held = held }))
            by true e = record { at = after_lock over hp b t there on a took log as_told.Granted Finish (with empty b) still (record (begun r.law there) { held = held }) false refl e refl (λ x h. worked x h _) watched; will = λ h. will }
            by false e = record { at = after_lock over hp b t there on a took log as_told.Granted Piece (with empty b) still (record (begun r.law there) { held = held }) false refl e refl (λ x h. worked x h _) watched; will = λ h. will }

        -- another holds it
        held_part : (owner : ActorId) (f : Bool) → same_area (whole_area g.0 Bytes) there ≡ f → Leaves (as_told.Held owner) (part_at n keeps r (part_of f) empty still false (begun r.law there))
        held_part owner f e = by f (whole_is f e)
          where
            worked : (f : Bool) → f ≡ same_area (whole_of g kind) there → (x : ℕ) → member (among heal_getting w) x ≡ true → (member (among (asking (whole_of g kind)) (v (as_told.Held owner))) x || (f && true && is_lowest r.first_reached empty x)) ≡ true
            worked f e x h = subst (λ (c : Bool). (member (if c then marked false b (among (asking (whole_of g kind)) w) else among (asking (whole_of g kind)) w) x || (f && true && is_lowest r.first_reached empty x)) ≡ true) e
                (marked_held b x (among (asking (whole_of g kind)) w) f (is_lowest r.first_reached empty x) (asked_before shape few p seen looked s g kind area k w shown ta x h) (λ e. (let is : b ≡ x = grind (arith, nat_tests, e) in subst (λ (y : ℕ). is_lowest r.first_reached empty y ≡ true) is t)))

            watched : (x : ℕ) → member (among (getting (whole_of g kind)) (v (as_told.Held owner))) x ≡ true → (member seen.reached x || member (first_by w).missing x) ≡ true
            watched x h = ta.watched x (granted_none b x (among (getting (whole_of g kind)) w) (same_area (whole_of g kind) there) h)

            by : (f : Bool) → f ≡ same_area (whole_of g kind) there → Leaves (as_told.Held owner) (part_at n keeps r (part_of f) empty still false (begun r.law there))
            by true e = record { at = after_lock over hp b t there on a took log (as_told.Held owner) Finish empty still (begun r.law there) false refl e refl (worked true e) watched; will = λ h. will }
            by false e = record { at = after_lock over hp b t there on a took log (as_told.Held owner) Piece empty still (begun r.law there) false refl e refl (worked false e) watched; will = λ h. will }

        -- it failed
        failed_part : (f : Bool) (asked : ℕ → Bool) (law : Register) → Leaves as_told.Failed (part_at n keeps r (part_of f) asked still true law)
        failed_part true asked law = record { at = lock_fails over hp b t there on a took log as_told.Failed refl refl refl; will = λ h. absurd (cc h) }
        failed_part false asked law = record { at = lock_fails over hp b t there on a took log as_told.Failed refl refl refl; will = λ h. absurd (cc h) }

        gone_part : (f : Bool) (asked : ℕ → Bool) (law : Register) → Leaves as_told.NotConnected (part_at n keeps r (part_of f) asked still true law)
        gone_part true asked law = record { at = lock_fails over hp b t there on a took log as_told.NotConnected refl refl refl; will = λ h. absurd (cc h) }
        gone_part false asked law = record { at = lock_fails over hp b t there on a took log as_told.NotConnected refl refl refl; will = λ h. absurd (cc h) }

        part_told : (told : Told) → fits (Lock WorkDomain there) told ≡ true → Leaves told (asked_for n keeps r at b (Lock WorkDomain there) told)
        part_told as_told.Granted f =
            subst (λ (part : HealPart). Leaves as_told.Granted (part_at n keeps r part (with (asked_in r WorkLocks) b) still false (weak.granting n r.law there b))) (sym part_is)
            (subst (λ (law : Register). Leaves as_told.Granted (part_at n keeps r (part_of (same_area (whole_area g.0 Bytes) there)) (with (asked_in r WorkLocks) b) still false law)) (sym (granting_first n r.law there b free))
            (subst (λ (none : ℕ → Bool). Leaves as_told.Granted (part_at n keeps r (part_of (same_area (whole_area g.0 Bytes) there)) (with none b) still false (record (begun r.law there) { held = with empty b }))) (sym asked_is)
            (granted_part (same_area (whole_area g.0 Bytes) there) refl (with empty b))))
        part_told (as_told.Held owner) f =
            subst (λ (part : HealPart). Leaves (as_told.Held owner) (part_at n keeps r part (asked_in r WorkLocks) still false (weak.locking n r.law there))) (sym part_is)
            (subst (λ (law : Register). Leaves (as_told.Held owner) (part_at n keeps r (part_of (same_area (whole_area g.0 Bytes) there)) (asked_in r WorkLocks) still false law)) (sym (locking_first n r.law there b free))
            (subst (λ (none : ℕ → Bool). Leaves (as_told.Held owner) (part_at n keeps r (part_of (same_area (whole_area g.0 Bytes) there)) none still false (begun r.law there))) (sym asked_is)
            (held_part owner (same_area (whole_area g.0 Bytes) there) refl)))
        part_told as_told.Failed f =
            subst (λ (part : HealPart). Leaves as_told.Failed (part_at n keeps r part (with (asked_in r WorkLocks) b) still true (weak.locking n r.law there))) (sym part_is)
            (failed_part (same_area (whole_area g.0 Bytes) there) (with (asked_in r WorkLocks) b) (weak.locking n r.law there))
        part_told as_told.NotConnected f =
            subst (λ (part : HealPart). Leaves as_told.NotConnected (part_at n keeps r part (with (asked_in r WorkLocks) b) still true (weak.dropping true b (weak.locking n r.law there)))) (sym part_is)
            (gone_part (same_area (whole_area g.0 Bytes) there) (with (asked_in r WorkLocks) b) (weak.dropping true b (weak.locking n r.law there)))
        part_told _ f = absurd (cc f)

      -- the next part's first Work lock
      pub part_tells : settles_over n keeps r s ≡ true → passed n keeps r s Unlocks ≡ true → has_part kind p.part ≡ true → (b : ℕ) → b < n → is_lowest r.first_reached (λ x. false) b ≡ true
          → TellsNext pick shape r seen looked s g kind o w (Ask b (lock_next r s g b))
      part_tells over u hp b l t = (λ at told a took log f whole after. part_told over u hp b at l t a took log told f, tt)
