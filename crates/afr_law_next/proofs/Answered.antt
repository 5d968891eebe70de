-- A request that may be asked next: its honest answer keeps the discipline, and its brick is ready for it.
use Rattle.std.proofs.Common.{◌≡◌, ◌&&◌, ◌||◌, ◌∙◌, Bool, ap, sym, subst, List}
use Rattle.std.specs.Prelude.{suc}
use Rattle.afr_base.specs.Bricks.{member}
use Rattle.afr_base.specs.declared.ids.ActorId.{ActorId}
use Rattle.afr_base.specs.declared.ids.BrickId.{BrickId}
use Rattle.afr_lines.specs.Places.{place_of}
use Rattle.afr_lines.specs.Work.{is_of}
use Rattle.afr_lines.specs.declared.answer.Told.{Told}
use Rattle.afr_lines.specs.declared.line.Line.{Line}
use Rattle.afr_lines.specs.declared.line.Line.TheVariants.{Ask}
use Rattle.afr_lines.specs.declared.request.Request.{Request}
use Rattle.afr_model.specs.Honest.{IsHonest, RequestOutcome, fault_in, outcome_of, over_session, requests_to, tells}
use Rattle.afr_model.specs.Report.{started_bricks}
use Rattle.afr_model.specs.Sessions.{is_joined, is_linked}
use Rattle.afr_model.specs.Tables.{holds}
use Rattle.afr_plan.specs.declared.plan.Plan.{Plan}
use Rattle.afr_law.specs.ModelCovered.{ModelCarriedCovered, ModelNextLocks}
use Rattle.afr_law.specs.ModelFits.{ModelNextCarries, ModelNextFound}
use Rattle.afr_law.specs.ModelNext.{IsNext, MayAskNext, ModelNextAnswered, asking}
use Rattle.afr_law_next.specs.Asked.{AnsweredIsLawful}
use Rattle.afr_law_next.specs.Ready.{NextIsReady}
use Rattle.afr_law_next.proofs.Turns.{opens_alike}

module _ (p : Plan) (log : List Line) (a : ActorId) (b : BrickId) (request : Request) (told : Told) (took : Bool) where
  -- the outcome is the same before anybody knows what is told
  outcome_alike : outcome_of p a b.0 request (asking a b request) log ≡ outcome_of p a b.0 request (Ask a b request told took) log
  outcome_alike =
      ap (λ (x : Bool). over_session (is_joined p a.0 b.0 log || (is_of a.0 (asking a b request) && x && member (started_bricks p.shape.n log) b.0 && is_linked a.0 b.0 log)) (fault_in p.faults b.0 (suc (requests_to b.0 log))) (tells a request b.0 (holds p log b.0) log))
      (opens_alike (place_of a.0 log) a b request told took)

  -- an honest answer is that outcome
  answer_is : IsHonest p (Ask a b request told took) log → outcome_of p a b.0 request (asking a b request) log ≡ (record { told = told; took = took })
  answer_is honest = outcome_alike ∙ sym honest

pub answered_is_lawful : ModelNextAnswered → AnsweredIsLawful
answered_is_lawful answers p log a b request told took five short honest lawful may said =
    let next = (answers p log a b request five short honest lawful may).1 in
    (subst (λ (o : RequestOutcome). IsNext p (Ask a b request o.told o.took) log) (answer_is p log a b request told took said) next, lawful)

pub next_is_ready : ModelNextCarries → ModelNextFound → ModelCarriedCovered → ModelNextLocks → NextIsReady
next_is_ready carries found covered locks p log a b request five short honest lawful may = record {
  carries = λ carried. carries p log a b request five short honest lawful may carried;
  found = found p log a b request five short honest lawful may;
  covered = λ carried. covered p log a b request five short honest lawful may carried;
  locks = λ domain area is. locks p log a b domain area lawful (subst (λ (r : Request). MayAskNext p a b r log) is may);
}
