-- The reads, pre-ops, mends and settling of a part of a heal, and what its lines tell after each.
use Rattle.std.proofs.Common.{◌≡◌, ℕ, ◌<◌, ◌≤◌, ◌&&◌, ◌||◌, not, ◌==◌, nat_lt, nat_le, Bool, true, false, List, ◌∷◌, refl, sym, ◌∙◌, subst, arith, Option, if◌then◌else◌}
use Rattle.std.proofs.lemmas.Bool.Decides.{nat_tests}
use Rattle.afr_base.specs.Bricks.{added, member}
use Rattle.afr_base.specs.SetLemmas.{member_added}
use Rattle.afr_base.specs.declared.ids.ActorId.{ActorId}
use Rattle.afr_base.specs.declared.ids.Gfid.{Gfid}
use Rattle.afr_base.specs.declared.ids.Kind.{Kind}
use Rattle.afr_base.specs.declared.ids.Kind.TheVariants.{Attrs, Bytes, Names}
use Rattle.afr_base.specs.declared.ids.Shape.{Shape}
use Rattle.afr_base.specs.declared.marks.Marks.{Marks}
use Rattle.afr_choice.specs.declared.looked.Looked.{Looked}
use Rattle.afr_choice.proofs.Unaccused.{and_yes}
use Rattle.afr_discipline.specs.Turns.{less_in}
use Rattle.afr_heal.proofs.Finding.{turn_low, turn_new, turn_set}
use Rattle.afr_heal.proofs.Parts.{both}
use Rattle.afr_heal.proofs.ReadRequests.{is_read}
use Rattle.afr_heal.proofs.StagesForms.{going_at}
use Rattle.afr_heal.specs.Answers.{asked_for, fits, source_after}
use Rattle.afr_heal.specs.Engine.{Ask, has_part}
use Rattle.afr_heal.specs.Requests.{read_in, repair_in, request_in}
use Rattle.afr_heal.specs.Standing.{AfterLooks, behind}
use Rattle.afr_law_heal.proofs.GoingAfter.{behind_here, not_behind, past_locks, raised_all, settle_set, settled_all, source_copy}
use Rattle.afr_law_heal.proofs.GoingFails.{falls}
use Rattle.afr_law_heal.proofs.GoingLines.{SameFolds, carried_to, is_quiet, quiet}
use Rattle.afr_law_heal.proofs.GoingLooks.{and_false}
use Rattle.afr_law_heal.proofs.GoingSettles.{settling_seen}
use Rattle.afr_law_heal.proofs.StageLaws.{TellsNext, outcome_next}
use Rattle.afr_law_heal.specs.HealTelling.{Tells}
use Rattle.afr_law_heal.specs.Stages.{IsShown, TellsAfter, raises}
use Rattle.afr_lines.specs.Work.{Work}
use Rattle.afr_lines.specs.declared.answer.Told.{Told}
use Rattle.afr_lines.specs.declared.answer.Told.TheVariants as as_told
use Rattle.afr_lines.specs.declared.line.Line.{Line}
use Rattle.afr_lines.specs.declared.line.Line.TheVariants as line
use Rattle.afr_lines.specs.declared.reply.HealReply.TheVariants as healed
use Rattle.afr_lines.specs.declared.request.Area.{Area}
use Rattle.afr_lines.specs.declared.request.Request.{Request}
use Rattle.afr_lines.specs.declared.request.Request.TheVariants.{List as Names_of, Mend, Pre, ReadAttrs, ReadBytes, Settle}
use Rattle.afr_model.specs.Healing.{settled_at, settling}
use Rattle.afr_model.specs.HealReplies.{IsHealAnswered, is_failed, settles}
use Rattle.afr_model.specs.Showing.{among, has, prepared}
use Rattle.afr_model_moves.specs.Keeps.{keeps_in}
use Rattle.afr_model_moves.specs.Register.{Exact, Finish, HealPart, HealPres, Looks, Mends, Opening, Piece, Reads, Settles, Step, WorkLocks, asked_in, holder, is_opening, rank, same_step}
use Rattle.afr_model_moves.specs.Rules.{Register}
use Rattle.afr_model_moves.specs.Sets.{with}
use Rattle.afr_model_moves.specs.Steps.{mends_over, passed, pres_at, pres_over, reads_over, turn}
use Rattle.afr_object.specs.declared.change.Repair.{Repair}
use Rattle.afr_heal_machine.specs.declared.outcome.HealOutcome.{HealOutcome}
use Rattle.afr_heal_machine.specs.declared.outcome.HealOutcome.TheVariants.{Settled}

-- a brick more
with_more : (b x : ℕ) (s : List ℕ) (rest : Bool) (test : ℕ → Bool) → member s x ≡ (rest && test x) → ((b == x) ≡ true → rest ≡ true) → member (added b s) x ≡ (rest && with test b x)
with_more b x s rest test old new = member_added b s x ∙ (let flip : (b == x) ≡ (x == b) = grind (arith, nat_tests) in rw (flip, old) (go (x == b) refl))
  where
    go : (e : Bool) → (x == b) ≡ e → (e || (rest && test x)) ≡ (rest && (if e then true else test x))
    go true e = let is : (b == x) ≡ true = grind (arith, nat_tests, e) in rw (new is) refl
    go false e = refl

module _ (shape : Shape) (few : shape.n ≤ 5) (p : Exact) (seen looked : Looked) (s : ℕ) (g : Gfid) (kind : Kind) (area : Area) where
  abbrev n : ℕ
  n = shape.n

  abbrev keeps : ℕ → Kind → Bool
  keeps = keeps_in shape

  abbrev r : Exact
  r = going_at p g kind area

  module _ (k : AfterLooks n keeps r s g kind) (w : Work) (shown : IsShown r seen looked) (ta : TellsAfter shape r seen looked s g kind w) where
    -- ---- what is behind, before and after a step
    pub pres_before : nat_lt (rank r.step) 9 ≡ true → (x : ℕ) → x < n → (raises shape r s kind x && (not (is_opening p.part) || behind r HealPres x)) ≡ (raises shape r s kind x && (not (is_opening p.part) || false))
    pres_before h x l = rw (not_behind r HealPres x h) refl

    pub pres_after : passed n keeps r s HealPres ≡ true → (x : ℕ) → x < n → (raises shape r s kind x && (not (is_opening p.part) || behind r HealPres x)) ≡ (raises shape r s kind x && (not (is_opening p.part) || true))
    pres_after h x l = raised_all shape few p seen looked s g kind area k h x l ∙ by (raises shape r s kind x) (not (is_opening p.part))
      where
        by : (a c : Bool) → a ≡ (a && (c || true))
        by true true = refl
        by true false = refl
        by false c = refl

    pub settle_before : nat_lt (rank r.step) 11 ≡ true → (x : ℕ) → x < n → (not (has_part kind p.part) && holder r.first_views x && behind r Settles x) ≡ (not (has_part kind p.part) && holder r.first_views x && false)
    settle_before h x l = rw (not_behind r Settles x h) refl

    pub settle_after : passed n keeps r s Settles ≡ true → (x : ℕ) → x < n → (not (has_part kind p.part) && holder r.first_views x && behind r Settles x) ≡ (not (has_part kind p.part) && holder r.first_views x && true)
    settle_after h x l = settled_all shape few p seen looked s g kind area k h x l ∙ and_yes (not (has_part kind p.part) && holder r.first_views x)

    -- who hasn't settled
    pub unsettled_before : nat_lt (rank r.step) 11 ≡ true → (x : ℕ) → x < n → member (among settled_at w) x ≡ false
    unsettled_before h x l = ta.closed x l ∙ ta.closing x l ∙ settle_before h x l ∙ and_false (not (has_part kind p.part) && holder r.first_views x)

    pub unsettled_part : has_part kind p.part ≡ true → (x : ℕ) → x < n → member (among settled_at w) x ≡ false
    unsettled_part h x l = ta.closed x l ∙ ta.closing x l ∙ rw h refl

    -- who has
    pub settled_part : passed n keeps r s Settles ≡ true → has_part kind p.part ≡ false → (x : ℕ) → x < n → holder r.first_views x ≡ true → member (among settled_at w) x ≡ true
    settled_part h e x l held = ta.closed x l ∙ ta.closing x l ∙ settle_after h x l ∙ rw (e, held) refl

    -- a fault before the settling ends the heal: its source hasn't settled
    pub fallen : (v : Work) → SameFolds g kind v w → among prepared v ≡ among prepared w → among settled_at v ≡ among settled_at w → nat_lt (rank r.step) 11 ≡ true → is_failed v ≡ true → IsHealAnswered shape g kind v healed.Failed
    fallen v m pres sett low failing = falls shape few p seen looked s g kind area k w shown ta v m pres s k.below (source_copy shape few p seen looked s g kind area k).0 (rw sett (unsettled_before low s k.below)) failing

    -- ---- a line that changes no copy
    module _ (v : Work) (m : SameFolds g kind v w) (law : Register) (step : Step) (asked possible : ℕ → Bool) (reads : ℕ → Option ℕ) (upto : ℕ) (broken : Bool) where
      abbrev q : Exact
      q = record r { law = law; step = step; asked = asked; possible = possible; reads = reads; upto = upto; broken = broken }

      pub passes : same_step step WorkLocks ≡ false → same_step step Looks ≡ false
          → among prepared v ≡ among prepared w → among settling v ≡ among settling w → among settled_at v ≡ among settled_at w → has settles v ≡ has settles w
          → ((x : ℕ) → x < n → (raises shape r s kind x && (not (is_opening p.part) || behind r HealPres x)) ≡ (raises shape r s kind x && (not (is_opening p.part) || behind q HealPres x)))
          → ((x : ℕ) → x < n → (not (has_part kind p.part) && holder r.first_views x && behind r Settles x) ≡ (not (has_part kind p.part) && holder r.first_views x && behind q Settles x))
          → TellsAfter shape q seen looked s g kind v
      passes now past pres setl sett has_same opened closing = carried_to shape r seen looked s g kind w v m ta law step asked possible reads upto broken (past_locks shape few p seen looked s g kind area k) now past
          (λ x l. rw pres (ta.opened x l ∙ opened x l)) (λ x l. rw setl (ta.closing x l ∙ closing x l)) (λ x l. rw (sett, setl) (ta.closed x l)) (λ h. has_same ∙ ta.unsettled h)

    module _ (pick : (ℕ → Bool) → ℕ) (o : HealOutcome) (will : o ≡ Settled) where
      module _ (b at : ℕ) (l : b < n) (a : ActorId) (took : Bool) (log : List Line) where
        abbrev v : Request → Told → Work
        v request told = (line.Ask a (record { 0 = b }) request told took, log) ∷ w

        abbrev Leaves : Request → Told → Exact → Type 0
        Leaves request told q = Tells shape q seen looked (source_after n keeps pick q s) g kind (outcome_next shape r q seen looked s kind request told o) (v request told)

        same : (request : Request) → is_quiet request ≡ true → (told : Told) → SameFolds g kind (v request told) w
        same request e told = quiet g kind w a (record { 0 = b }) told took log request e

        -- ---- a read
        read_told : turn n keeps r s Reads b ≡ true → (request : Request) → is_read request ≡ true → (told : Told) → fits request told ≡ true → Leaves request told (asked_for n keeps r at b request told)
        read_told t = by
          where
            low : nat_lt (rank r.step) 9 ≡ true
            low = let h = turn_low n keeps r s Reads b t in grind (arith, nat_tests, h)

            low11 : nat_lt (rank r.step) 11 ≡ true
            low11 = grind (arith, nat_tests, low)

            by : (request : Request) → is_read request ≡ true → (told : Told) → fits request told ≡ true → Leaves request told (asked_for n keeps r at b request told)
            by (ReadBytes h from len) e as_told.Given f = record { at = passes _ (same (ReadBytes h from len) refl as_told.Given) _ Reads _ _ _ _ _ refl refl refl refl refl refl (pres_before low) (settle_before low11); will = λ h. will }
            by (ReadBytes h from len) e as_told.NotConnected f = record { at = fallen _ (same (ReadBytes h from len) refl as_told.NotConnected) refl refl low11 (rw ta.begun refl); will = λ h. absurd (cc h) }
            by (ReadBytes h from len) e as_told.Failed f = record { at = fallen _ (same (ReadBytes h from len) refl as_told.Failed) refl refl low11 (rw ta.begun refl); will = λ h. absurd (cc h) }
            by (ReadBytes h from len) e _ f = absurd (cc f)
            by (ReadAttrs h) e as_told.Given f = record { at = passes _ (same (ReadAttrs h) refl as_told.Given) _ Reads _ _ _ _ _ refl refl refl refl refl refl (pres_before low) (settle_before low11); will = λ h. will }
            by (ReadAttrs h) e as_told.NotConnected f = record { at = fallen _ (same (ReadAttrs h) refl as_told.NotConnected) refl refl low11 (rw ta.begun refl); will = λ h. absurd (cc h) }
            by (ReadAttrs h) e as_told.Failed f = record { at = fallen _ (same (ReadAttrs h) refl as_told.Failed) refl refl low11 (rw ta.begun refl); will = λ h. absurd (cc h) }
            by (ReadAttrs h) e _ f = absurd (cc f)
            by (Names_of h) e as_told.Given f = record { at = passes _ (same (Names_of h) refl as_told.Given) _ Reads _ _ _ _ _ refl refl refl refl refl refl (pres_before low) (settle_before low11); will = λ h. will }
            by (Names_of h) e as_told.NotConnected f = record { at = fallen _ (same (Names_of h) refl as_told.NotConnected) refl refl low11 (rw ta.begun refl); will = λ h. absurd (cc h) }
            by (Names_of h) e as_told.Failed f = record { at = fallen _ (same (Names_of h) refl as_told.Failed) refl refl low11 (rw ta.begun refl); will = λ h. absurd (cc h) }
            by (Names_of h) e _ f = absurd (cc f)
            by _ e told f = absurd (cc e)

        -- ---- a pre-op
        -- who is asked for it is raised
        pre_set : (of : Kind) (part : HealPart) → pres_at keeps r s of part b ≡ true → raises shape r s of b ≡ true
        pre_set Bytes Opening h = h
        pre_set Bytes Piece h = absurd (cc h)
        pre_set Bytes Finish h = absurd (cc h)
        pre_set Attrs part h = h
        pre_set Names part h = h

        pre_told : turn n keeps r s HealPres b ≡ true → (told : Told) → fits (Pre g kind) told ≡ true → Leaves (Pre g kind) told (asked_for n keeps r at b (Pre g kind) told)
        pre_told t told f = by told f
          where
            order : nat_le (rank r.step) 9 ≡ true
            order = turn_low n keeps r s HealPres b t

            low11 : nat_lt (rank r.step) 11 ≡ true
            low11 = grind (arith, nat_tests, order)

            raised_now : raises shape r s kind b ≡ true
            raised_now = pre_set kind p.part (turn_set n keeps r s HealPres b t)

            opened : (x : ℕ) → x < n → member (added b (among prepared w)) x ≡ (raises shape r s kind x && (not (is_opening p.part) || with (asked_in r HealPres) b x))
            opened x lx = member_added b (among prepared w) x ∙ (let old : member (among prepared w) x ≡ (raises shape r s kind x && (not (is_opening p.part) || asked_in r HealPres x)) = ta.opened x lx ∙ rw (behind_here r HealPres x order) refl in
                let flip : (b == x) ≡ (x == b) = grind (arith, nat_tests) in rw (flip, old) (go (x == b) refl))
              where
                all : (f : Bool) → true ≡ (f || true)
                all true = refl
                all false = refl

                go : (e : Bool) → (x == b) ≡ e → (e || (raises shape r s kind x && (not (is_opening p.part) || asked_in r HealPres x))) ≡ (raises shape r s kind x && (not (is_opening p.part) || (if e then true else asked_in r HealPres x)))
                go true e = let is : b ≡ x = grind (arith, nat_tests, e) in let there : raises shape r s kind x ≡ true = subst (λ (y : ℕ). raises shape r s kind y ≡ true) is raised_now in rw there (all (not (is_opening p.part)))
                go false e = refl

            by : (told : Told) → fits (Pre g kind) told ≡ true → Leaves (Pre g kind) told (asked_for n keeps r at b (Pre g kind) told)
            by as_told.Done f = record {
              at = carried_to shape r seen looked s g kind w (v (Pre g kind) as_told.Done) (same (Pre g kind) refl as_told.Done) ta _ HealPres _ _ _ _ _ (past_locks shape few p seen looked s g kind area k) refl refl
                  opened (λ x lx. ta.closing x lx ∙ settle_before low11 x lx) (λ x lx. ta.closed x lx) (λ h. ta.unsettled h);
              will = λ h. will;
            }
            by as_told.NotConnected f = record { at = fallen _ (same (Pre g kind) refl as_told.NotConnected) refl refl low11 (rw ta.begun refl); will = λ h. absurd (cc h) }
            by as_told.Failed f = record { at = fallen _ (same (Pre g kind) refl as_told.Failed) refl refl low11 (rw ta.begun refl); will = λ h. absurd (cc h) }
            by _ f = absurd (cc f)

        -- ---- a mend
        mend_told : pres_over n keeps r s ≡ true → turn n keeps r s Mends b ≡ true → (repair : Repair) (told : Told) → fits (Mend repair) told ≡ true → Leaves (Mend repair) told (asked_for n keeps r at b (Mend repair) told)
        mend_told over t repair told f = by told f
          where
            low11 : nat_lt (rank r.step) 11 ≡ true
            low11 = let h = turn_low n keeps r s Mends b t in grind (arith, nat_tests, h)

            pres : passed n keeps r s HealPres ≡ true
            pres = (both (reads_over n keeps r s) (passed n keeps r s HealPres) over).1

            by : (told : Told) → fits (Mend repair) told ≡ true → Leaves (Mend repair) told (asked_for n keeps r at b (Mend repair) told)
            by as_told.Done f = record { at = passes _ (same (Mend repair) refl as_told.Done) _ Mends _ _ _ _ _ refl refl refl refl refl refl (pres_after pres) (settle_before low11); will = λ h. will }
            by as_told.NotConnected f = record { at = fallen _ (same (Mend repair) refl as_told.NotConnected) refl refl low11 (rw ta.begun refl); will = λ h. absurd (cc h) }
            by as_told.Failed f = record { at = fallen _ (same (Mend repair) refl as_told.Failed) refl refl low11 (rw ta.begun refl); will = λ h. absurd (cc h) }
            by _ f = absurd (cc f)

        -- ---- a settling
        module _ (over : mends_over n keeps r s ≡ true) (t : turn n keeps r s Settles b ≡ true) where
          in_last : (not (has_part kind p.part) && holder r.first_views b) ≡ true
          in_last = settle_set shape few p seen looked s g kind area k kind p.part k.of_kind b ∙ turn_set n keeps r s Settles b t

          old : (x : ℕ) → x < n → member (among settling w) x ≡ ((not (has_part kind p.part) && holder r.first_views x) && asked_in r Settles x)
          old x lx = ta.closing x lx ∙ rw (behind_here r Settles x (turn_low n keeps r s Settles b t)) refl

          out : member (among settled_at w) b ≡ false
          out = ta.closed b l ∙ old b l ∙ rw (turn_new n keeps r s Settles b t) (and_false (not (has_part kind p.part) && holder r.first_views b))

          closing : (x : ℕ) → x < n → member (added b (among settling w)) x ≡ ((not (has_part kind p.part) && holder r.first_views x) && with (asked_in r Settles) b x)
          closing x lx = with_more b x (among settling w) (not (has_part kind p.part) && holder r.first_views x) (asked_in r Settles) (old x lx)
              (λ e. (let is : b ≡ x = grind (arith, nat_tests, e) in subst (λ (y : ℕ). (not (has_part kind p.part) && holder r.first_views y) ≡ true) is in_last))

          closed : (x : ℕ) → x < n → member (added b (among settled_at w)) x ≡ member (added b (among settling w)) x
          closed x lx = member_added b (among settled_at w) x ∙ rw (ta.closed x lx) refl ∙ sym (member_added b (among settling w) x)

          settle_told : (less : Marks) (told : Told) → fits (Settle g kind less) told ≡ true → Leaves (Settle g kind less) told (asked_for n keeps r at b (Settle g kind less) told)
          settle_told less = by
            where
              pres : passed n keeps r s HealPres ≡ true
              pres = (both (reads_over n keeps r s) (passed n keeps r s HealPres) (both (pres_over n keeps r s) _ over).0).1

              two : (not (has_part kind p.part) ≡ true) × (holder r.first_views b ≡ true)
              two = both (not (has_part kind p.part)) (holder r.first_views b) in_last

              last : (f : Bool) → not f ≡ true → f ≡ true → ⊥
              last true h e = cc h
              last false h e = cc e

              by : (told : Told) → fits (Settle g kind less) told ≡ true → Leaves (Settle g kind less) told (asked_for n keeps r at b (Settle g kind less) told)
              by as_told.Done f = record {
                at = carried_to shape r seen looked s g kind w (v (Settle g kind less) as_told.Done) (same (Settle g kind less) refl as_told.Done) ta _ Settles _ _ _ _ _ (past_locks shape few p seen looked s g kind area k) refl refl
                    (λ x lx. ta.opened x lx ∙ pres_after pres x lx) closing closed (λ h. absurd (last (has_part kind p.part) two.0 h));
                will = λ h. will;
              }
              by as_told.NotConnected f = record { at = falls shape few p seen looked s g kind area k w shown ta _ (same (Settle g kind less) refl as_told.NotConnected) refl b l two.1 out (rw ta.begun refl); will = λ h. absurd (cc h) }
              by as_told.Failed f = record { at = falls shape few p seen looked s g kind area k w shown ta _ (same (Settle g kind less) refl as_told.Failed) refl b l two.1 out (rw ta.begun refl); will = λ h. absurd (cc h) }
              by _ f = absurd (cc f)

      -- ---- the requests of these steps
      abbrev There : ℕ → Request → Type 0
      There b request = TellsNext pick shape r seen looked s g kind o w (Ask b request)

      pub reads_tell : (b : ℕ) → b < n → turn n keeps r s Reads b ≡ true → There b (request_in n keeps r s g kind Reads b)
      reads_tell b l t = by kind
        where
          by : (of : Kind) → There b (read_in r g of)
          by Bytes = (λ at told a took log f whole after. read_told b at l a took log t (read_in r g Bytes) refl told f, tt)
          by Attrs = (λ at told a took log f whole after. read_told b at l a took log t (read_in r g Attrs) refl told f, tt)
          by Names = (λ at told a took log f whole after. read_told b at l a took log t (read_in r g Names) refl told f, tt)

      pub pres_tell : (b : ℕ) → b < n → turn n keeps r s HealPres b ≡ true → There b (request_in n keeps r s g kind HealPres b)
      pres_tell b l t = (λ at told a took log f whole after. pre_told b at l a took log t told f, tt)

      pub mends_tell : pres_over n keeps r s ≡ true → (b : ℕ) → b < n → turn n keeps r s Mends b ≡ true → There b (request_in n keeps r s g kind Mends b)
      mends_tell over b l t = (λ at told a took log f whole after. mend_told b at l a took log over t (repair_in r s g kind p.part) told f, tt)

      pub settles_tell : mends_over n keeps r s ≡ true → (b : ℕ) → b < n → turn n keeps r s Settles b ≡ true → There b (request_in n keeps r s g kind Settles b)
      settles_tell over b l t = (λ at told a took log f whole after. settle_told b at l a took log over t (less_in n keeps r s kind b) told f, settling_seen shape few p seen looked s g kind area k w shown ta over b l t)
