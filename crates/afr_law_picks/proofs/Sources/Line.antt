-- One line of a healer keeps its running heal to its source.
use Rattle.std.proofs.Common.{◌≡◌, ◌∙◌, ℕ, ◌==◌, Bool, true, false, List, [], ◌∷◌, Option, None, Some, refl, sym, ap, subst, arith, length}
use Rattle.afr_base.specs.declared.ids.ActorId.{ActorId}
use Rattle.afr_base.specs.declared.ids.BrickId.{BrickId}
use Rattle.afr_base.specs.declared.ids.Gfid.{Gfid}
use Rattle.afr_base.specs.declared.ids.Kind.{Kind}
use Rattle.afr_base.specs.declared.ids.Kind.TheVariants.{Attrs, Bytes, Names}
use Rattle.afr_base.specs.declared.ids.Shape.{Shape}
use Rattle.afr_base.proofs.TestLemmas.{same_number}
use Rattle.afr_heal_round.specs.List.Round.{next_due}
use Rattle.afr_discipline.specs.Stands.{seen_as}
use Rattle.afr_discipline.specs.declared.register.Register.{Register}
use Rattle.afr_heal.specs.Engine.{Ask as Asks, Begins, Ends, NextOfHeal as HealNext}
use Rattle.afr_heal_round.specs.Rounding as rounding
use Rattle.afr_heal_round.specs.Rounding.{CanHearAt, IsFed, IsFedAt, Rounding, indexed, next_at, next_of, stage_due}
use Rattle.afr_heal_round.specs.declared.stage.RoundStage.{RoundStage}
use Rattle.afr_heal_round.specs.declared.stage.RoundStage.TheVariants.{Asking, Healing, Over}
use Rattle.afr_lines.specs.Told.{told_by}
use Rattle.afr_lines.specs.Work.{Work, work}
use Rattle.afr_lines.specs.declared.answer.Answer.{Answer}
use Rattle.afr_lines.specs.declared.answer.Answer.TheVariants as answer_of
use Rattle.afr_lines.specs.declared.line.Line.{Line}
use Rattle.afr_lines.specs.declared.line.Line.TheVariants.{HealEnd}
use Rattle.afr_lines.specs.declared.line.Next.TheVariants as next
use Rattle.afr_lines.specs.declared.reply.HealReply.{HealReply}
use Rattle.afr_lines.specs.declared.reply.Reply.{Reply}
use Rattle.afr_lines.specs.declared.request.Request.{Request}
use Rattle.afr_lines.specs.declared.request.Request.TheVariants.{Index}
use Rattle.afr_model.specs.Chosen.{Picks, SourcePicked}
use Rattle.afr_model.specs.Chosen as model
use Rattle.afr_model.specs.Healing.{heal_by}
use Rattle.afr_model.specs.Rounds.{heal_due}
use Rattle.afr_plan.specs.declared.plan.Plan.{Plan}
use Rattle.afr_healer.proofs.Fed.{steps_answered}
use Rattle.afr_healer.specs.Acting.{IsAsked, IsBegun, IsEnded, IsHealed, SteppedBy}
use Rattle.afr_healer.proofs.Duties.{plain_duty}
use Rattle.afr_healer.specs.Keeping.{CarriesIts, CarriesRound, Duty, IsHealer, Rounds, RunsHeal, StageStands}
use Rattle.afr_healer.specs.Laws.{CanStepNext, IsBeforeRound, IsMadeReady, LineKeepsRound, RoundKeeps}
use Rattle.afr_healer.specs.declared.healer.Healer.{Healer}
use Rattle.afr_rule.specs.Choosing.{Calls, IsPick}
use Rattle.afr_heal_machine.specs.Healing.{Healing as Heal, IsChosen, answered, coming, line_of}
use Rattle.afr_heal_machine.specs.Healing as heal
use Rattle.afr_heal_machine.specs.Laws.{HealHasSource}
use Rattle.afr_heal_machine.specs.Outcome.{reply_of}
use Rattle.afr_heal_machine.specs.Source.{candidates_of, is_found}
use Rattle.afr_server.specs.Serving.{Serving}
use Rattle.afr_law_picks.proofs.Sources.Candidate.{candidates_are}
use Rattle.afr_law_picks.proofs.Sources.Heal.{KeptBy, PastOf, StageOf, asks_keep, asks_no_list, begins_keep, kept_source, source_kept, stage_heal}
use Rattle.afr_law_picks.proofs.Sources.Work.{no_border}
use Rattle.afr_law_picks.specs.Sources.Chosen.{HealsFrom, RunsFrom}
use Rattle.afr_law_picks.specs.Sources.Laws.{LineKeepsSource, SourceKept}
use Rattle.afr_law_picks.specs.Sources.Sources.{has_chosen, picked_by, picked_source, picks_of, source_at, source_in}

-- ---- no line of a next heal was written
unbegun : (picks : Picks) (shape : Shape) (kind : Kind) → HealsFrom picks shape kind None []
unbegun picks shape Names = tt
unbegun picks shape Bytes = refl
unbegun picks shape Attrs = refl

pub none_runs : (picks : Picks) (p : Plan) (a : ℕ) (log : List Line) (source : Option ℕ) → source ≡ None → heal_by (work a log) ≡ [] → RunsFrom picks p a log source
none_runs picks p a log source none empty g kind due = rw (none, empty) (unbegun picks p.shape kind)

-- a round that goes on has a heal that has begun nothing, or none
none_picked : (kind : Kind) (s : ℕ) → picked_by kind false s ≡ None
none_picked Names s = refl
none_picked Bytes s = refl
none_picked Attrs s = refl

due_none : (shape : Shape) (due : Option (Gfid × Kind)) → source_in (stage_due shape due) ≡ None
due_none shape None = refl
due_none shape (Some due) = none_picked due.1 0

indexed_none : (heals : Bool) (answer : Answer) (m : Rounding) → source_in (indexed heals answer m).stage ≡ None
indexed_none true (answer_of.Index list) m = due_none m.shape _
indexed_none false (answer_of.Index list) m = refl
indexed_none heals answer m = refl

-- ---- the end of a heal
ended_picked : (picks : Picks) (p : Plan) (a : ActorId) (g : Gfid) (kind : Kind) (said : HealReply) (log : List Line) (source : Option ℕ) → HealsFrom picks p.shape kind source (heal_by (work a.0 log)) → SourcePicked picks p (HealEnd a g kind said) log
ended_picked picks p a g Names said log source k = tt
ended_picked picks p a g Bytes said log None k = λ on. absurd (cc (sym k ∙ on))
ended_picked picks p a g Attrs said log None k = λ on. absurd (cc (sym k ∙ on))
ended_picked picks p a g Bytes said log (Some s) k = λ on. record { source = s; picked = k.0; kept = k.1 }
ended_picked picks p a g Attrs said log (Some s) k = λ on. record { source = s; picked = k.0; kept = k.1 }

-- ---- what the rule picked
pick_of : {F : Type 0} (calls : Calls F) (choose : F) (kind : Kind) (p : Register) (chosen : BrickId) → (kind ≡ Names → ⊥) → IsChosen calls choose kind p chosen → IsPick calls choose (candidates_of p) chosen
pick_of calls choose Names p chosen never k = absurd (never refl)
pick_of calls choose Bytes p chosen never k = k
pick_of calls choose Attrs p chosen never k = k

abbrev kind_of : Kind → Option (Gfid × Kind) → Kind
kind_of kind None = kind
kind_of kind (Some due) = due.1

same_kind : (due : Option (Gfid × Kind)) (g h : Gfid) (kind of : Kind) → due ≡ Some (h, of) → due ≡ Some (g, kind) → of ≡ kind
same_kind due g h kind of e f = ap (kind_of kind) (sym e ∙ f)

module _ {F : Type 0} (calls : Calls F) (choose : F) (can : CanStepNext) (rounds : LineKeepsRound) (has_source : HealHasSource) (p : Plan) (a : ActorId) (log : List Line) (servers new : List Serving) (x y : Healer) (line : Line)
    (before : IsBeforeRound false p a log servers) (acting : IsHealer false p log a.0 servers x) (ready : IsMadeReady x) (after : IsHealer false p (line ∷ log) a.0 new y) (runs : RunsFrom (picks_of calls choose) p a.0 log (picked_source x)) where
  abbrev picks : Picks
  picks = picks_of calls choose

  abbrev Kept : Type 0
  Kept = SourceKept calls choose p a log line y

  -- the round stands at this heal
  module _ (m : Rounding) (present : x.round ≡ Some m) (h : Heal) (stage_is : m.stage ≡ Healing h) where
    carries : CarriesRound false p a.0 log x.visit.met x.visit.epochs servers m
    carries = subst (CarriesIts false p a.0 log x.visit.met x.visit.epochs servers) present acting.carries

    here : RunsHeal Rounds p a.0 log x.visit.met x.visit.epochs servers h
    here =
        (subst (λ (duty : Duty). StageStands duty p a.0 log x.visit.met x.visit.epochs servers m.round (Healing h)) (plain_duty carries.duty p a.0 log m.round.brick carries.present)
        (subst (StageStands carries.duty p a.0 log x.visit.met x.visit.epochs servers m.round) stage_is carries.stage)).0

    abbrev w : Work
    w = heal_by (work a.0 log)

    source_is : picked_source x ≡ picked_by h.kind (has_chosen h) h.source.0
    source_is = ap source_at present ∙ ap source_in stage_is

    from : HealsFrom picks p.shape h.kind (picked_by h.kind (has_chosen h) h.source.0) w
    from = subst (λ (source : Option ℕ). HealsFrom picks p.shape h.kind source w) source_is (runs h.gfid h.kind here.due)

    stage : StageOf h w
    stage = stage_heal h w here.sound here.tells

    -- ---- the heal goes on
    module _ (z : Heal) (kind_is : z.kind ≡ h.kind) (now : Rounding) (now_is : y.round ≡ Some now) (now_at : now.stage ≡ Healing z) (border : heal_by (work a.0 (line ∷ log)) ≡ (line, log) ∷ w) where
      there : RunsHeal Rounds p a.0 (line ∷ log) y.visit.met y.visit.epochs new z
      there =
          let round : CarriesRound false p a.0 (line ∷ log) y.visit.met y.visit.epochs new now = subst (CarriesIts false p a.0 (line ∷ log) y.visit.met y.visit.epochs new) now_is after.carries in
          (subst (λ (duty : Duty). StageStands duty p a.0 (line ∷ log) y.visit.met y.visit.epochs new now.round (Healing z)) (plain_duty round.duty p a.0 (line ∷ log) now.round.brick round.present)
          (subst (StageStands round.duty p a.0 (line ∷ log) y.visit.met y.visit.epochs new now.round) now_at round.stage)).0

      stage_after : StageOf z ((line, log) ∷ w)
      stage_after = subst (StageOf z) border (stage_heal z (heal_by (work a.0 (line ∷ log))) there.sound there.tells)

      goes_on : ((z.kind ≡ Names → ⊥) → KeptBy picks p.shape z.kind (has_chosen z) z.source.0 ((line, log) ∷ w)) → RunsFrom picks p a.0 (line ∷ log) (picked_source y)
      goes_on kept g kind due =
          let source : picked_source y ≡ picked_by z.kind (has_chosen z) z.source.0 = ap source_at now_is ∙ ap source_in now_at in
          let kinds : z.kind ≡ kind = same_kind (heal_due p (work a.0 (line ∷ log))) g z.gfid kind z.kind there.due due in
          subst (λ (kind : Kind). HealsFrom picks p.shape kind (picked_source y) (heal_by (work a.0 (line ∷ log)))) kinds
          (subst (λ (source : Option ℕ). HealsFrom picks p.shape z.kind source (heal_by (work a.0 (line ∷ log)))) (sym source)
          (subst (HealsFrom picks p.shape z.kind (picked_by z.kind (has_chosen z) z.source.0)) (sym border) (kept_source picks p.shape z.kind (has_chosen z) z.source.0 ((line, log) ∷ w) kept)))

    -- a request
    module _ (b : BrickId) (asked : Request) (e : coming h ≡ Asks b.0 asked) (s : IsAsked (IsFed calls choose) a (length log) b asked x y m servers new line) where
      fed : IsFedAt calls choose s.given.answer (length log) (Healing h) m s.after
      fed = subst (λ (stage : RoundStage). IsFedAt calls choose s.given.answer (length log) stage m s.after) stage_is s.fed

      abbrev answered_as : HealNext → Heal
      answered_as (Asks b asked) = answered h b asked s.given.answer (length log) fed.1.chosen
      answered_as other = h

      abbrev z : Heal
      z = answered h b.0 asked s.given.answer (length log) fed.1.chosen

      z_is : fed.0 ≡ z
      z_is = fed.1.value ∙ ap answered_as (sym fed.1.asked ∙ e)

      next_is : next_of m ≡ next.Ask b asked
      next_is = ap (next_at m.round.brick) stage_is ∙ ap (line_of h) e

      can_hear : heal.CanHear (Asks b.0 asked) s.given.answer
      can_hear =
          let heard : rounding.CanHear m s.given.answer = (can false p a log servers x before acting ready m present).hears b asked s.load new s.epochs s.given next_is s.fits s.carries s.served in
          subst (λ (line : HealNext). heal.CanHear line s.given.answer) e (subst (λ (stage : RoundStage). CanHearAt stage s.given.answer) stage_is heard)

      border : heal_by (work a.0 (line ∷ log)) ≡ (line, log) ∷ w
      border = subst (λ (l : Line). heal_by (work a.0 (l ∷ log)) ≡ (l, log) ∷ w) (sym s.is_line) (rw (same_number a.0, no_border a b asked (told_by s.given.answer) s.given.took (asks_no_list h w b.0 asked stage e)) refl)

      abbrev now : Rounding
      now = record m { stage = Healing z }

      now_is : y.round ≡ Some now
      now_is = ap (λ (y : Healer). y.round) s.becomes ∙ ap Some (fed.2 ∙ ap (λ (z : Heal). record m { stage = Healing z }) z_is)

      after_it : StageOf z ((line, log) ∷ w)
      after_it = stage_after z refl now now_is refl border

      shape_after : z.register.shape ≡ p.shape
      shape_after = (there z refl now now_is refl border).shape

      picked : (h.kind ≡ Names → ⊥) → is_found h.register.shape.n (seen_as z.register) ≡ true → PastOf z ((line, log) ∷ w) → picks (model.candidates_of p.shape h.kind z.register.seen) fed.1.chosen.0
      picked never found past = record {
        candidates = candidates_of z.register;
        numbers = candidates_are z.register h.kind (there z refl now now_is refl border).sound.heals.few past.after.low past.after.shown past.after.numbers (has_source h b.0 asked s.given.answer (length log) here.sound e can_hear found)
            ∙ ap (λ (shape : Shape). model.candidates_of shape h.kind z.register.seen) shape_after;
        pick = pick_of calls choose h.kind z.register fed.1.chosen never (subst (λ (z : Heal). is_found h.register.shape.n (seen_as z.register) ≡ true → IsChosen calls choose h.kind z.register fed.1.chosen) z_is fed.1.picked found);
      }

      abbrev AsksAs : Line → Type 0
      AsksAs l =
          StageOf z ((l, log) ∷ w) → (is_found h.register.shape.n (seen_as z.register) ≡ true → PastOf z ((l, log) ∷ w) → picks (model.candidates_of p.shape h.kind z.register.seen) fed.1.chosen.0)
          → KeptBy picks p.shape h.kind (has_chosen z) z.source.0 ((l, log) ∷ w)

      request_kept : (h.kind ≡ Names → ⊥) → KeptBy picks p.shape h.kind (has_chosen z) z.source.0 ((line, log) ∷ w)
      request_kept never =
          subst AsksAs (sym s.is_line)
          (λ stage_now pick.
          asks_keep picks p.shape h w never here.shape stage (source_kept picks p.shape h.kind (has_chosen h) h.source.0 w never from) a b.0 asked e s.given.answer (length log) fed.1.chosen s.given.took log shape_after stage_now pick)
          after_it (picked never)

      pub request_keeps : Kept
      request_keeps = record {
        picked = subst (λ (l : Line). SourcePicked picks p l log) (sym s.is_line) tt;
        runs = goes_on z refl now now_is refl border request_kept;
      }

    -- a part begins
    module _ (e : coming h ≡ Begins) (s : IsBegun a (length log) h.gfid h.kind x y m servers new line) where
      abbrev parted : Heal
      parted = heal.begun (length log) h

      part_border : heal_by (work a.0 (line ∷ log)) ≡ (line, log) ∷ w
      part_border = subst (λ (l : Line). heal_by (work a.0 (l ∷ log)) ≡ (l, log) ∷ w) (sym s.is_line) (rw (same_number a.0) refl)

      part_is : y.round ≡ Some (rounding.begun (length log) m)
      part_is = ap (λ (y : Healer). y.round) s.becomes

      part_at : (rounding.begun (length log) m).stage ≡ Healing parted
      part_at = ap (rounding.begun_at (length log)) stage_is

      abbrev BeginsAs : Line → Type 0
      BeginsAs l = StageOf parted ((l, log) ∷ w) → KeptBy picks p.shape h.kind (has_chosen parted) h.source.0 ((l, log) ∷ w)

      part_kept : (h.kind ≡ Names → ⊥) → KeptBy picks p.shape h.kind (has_chosen parted) h.source.0 ((line, log) ∷ w)
      part_kept never =
          subst BeginsAs (sym s.is_line)
          (λ stage_now. begins_keep picks p.shape h w never here.shape stage (source_kept picks p.shape h.kind (has_chosen h) h.source.0 w never from) a h.gfid e (length log) log stage_now)
          (stage_after parted refl (rounding.begun (length log) m) part_is part_at part_border)

      pub part_keeps : Kept
      part_keeps = record {
        picked = subst (λ (l : Line). SourcePicked picks p l log) (sym s.is_line) tt;
        runs = goes_on parted refl (rounding.begun (length log) m) part_is part_at part_border part_kept;
      }

    -- the heal ends
    pub end_keeps : (said : HealReply) → IsHealed a h.gfid h.kind said x y m servers new line → Kept
    end_keeps said s = record {
      picked = subst (λ (l : Line). SourcePicked picks p l log) (sym s.is_line) (ended_picked picks p a h.gfid h.kind said log (picked_source x) (runs h.gfid h.kind here.due));
      runs = none_runs picks p a.0 (line ∷ log) (picked_source y) (ap picked_source s.becomes ∙ due_none m.shape (next_due m.round)) (subst (λ (l : Line). heal_by (work a.0 (l ∷ log)) ≡ []) (sym s.is_line) (rw (same_number a.0) refl));
    }

    pub heal_keeps : (line_next : HealNext) → coming h ≡ line_next → SteppedBy (IsFed calls choose) a (length log) x y m servers new line (line_of h line_next) → Kept
    heal_keeps (Asks b asked) e s = request_keeps (record { 0 = b }) asked e s
    heal_keeps Begins e s = part_keeps e s
    heal_keeps Ends e s = end_keeps (reply_of h.outcome h.register.seen) s

  -- ---- a round begins and ends
  index_keeps : (m : Rounding) (heals : Bool) → m.stage ≡ Asking heals → (b : BrickId) → IsAsked (IsFed calls choose) a (length log) b Index x y m servers new line → Kept
  index_keeps m heals stage_is b s =
      let fed : s.after ≡ indexed heals s.given.answer m = subst (λ (stage : RoundStage). IsFedAt calls choose s.given.answer (length log) stage m s.after) stage_is s.fed in
      record {
        picked = subst (λ (l : Line). SourcePicked picks p l log) (sym s.is_line) tt;
        runs = none_runs picks p a.0 (line ∷ log) (picked_source y) (ap picked_source s.becomes ∙ ap (λ (m : Rounding). source_in m.stage) fed ∙ indexed_none heals s.given.answer m)
            (subst (λ (l : Line). heal_by (work a.0 (l ∷ log)) ≡ []) (sym s.is_line) (rw (same_number a.0) refl));
      }

  round_ends : (said : Reply) → IsEnded a said x y servers new line → Kept
  round_ends said s = record {
    picked = subst (λ (l : Line). SourcePicked picks p l log) (sym s.is_line) tt;
    runs = none_runs picks p a.0 (line ∷ log) (picked_source y) (ap picked_source s.becomes) (subst (λ (l : Line). heal_by (work a.0 (l ∷ log)) ≡ []) (sym s.is_line) (rw (same_number a.0) refl));
  }

  pub round_keeps : (m : Rounding) → x.round ≡ Some m → SteppedBy (IsFed calls choose) a (length log) x y m servers new line (next_of m) → Kept
  round_keeps m present s = by m.stage refl s
    where
      by : (stage : RoundStage) → m.stage ≡ stage → SteppedBy (IsFed calls choose) a (length log) x y m servers new line (next_at m.round.brick stage) → Kept
      by (Asking heals) at s = index_keeps m heals at m.round.brick s
      by (Healing h) at s = heal_keeps m present h at (coming h) refl s
      by (Over refused) at s = round_ends (rounding.reply_of refused) s

-- whatever the line is
pub line_keeps : {F : Type 0} (calls : Calls F) (choose : F) → CanStepNext → LineKeepsRound → HealHasSource → LineKeepsSource calls choose
line_keeps calls choose can rounds has_source p a log servers new x y line before acting ready s runs =
    let kept : RoundKeeps false p a log line y servers new = rounds false p a log servers new x y line before acting ready (steps_answered calls choose a (length log) x y servers new line s) in
    round_keeps calls choose can rounds has_source p a log servers new x y line before acting ready kept.acting runs s.round s.present s.steps
