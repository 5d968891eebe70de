use Rattle.std.proofs.Common.{sym, ap, ◌∙◌, [], ◌∷◌, ◌++◌}
use Rattle.afr_plan.specs.PlanOf.{onto_last}
use Rattle.afr_plan_read.proofs.PlanLemmas.{onto_end}
use Rattle.afr_plan_read.proofs.draft.push_last.Goals as goal

pub returns : goal.returns
returns c = λ k. record {
  ok = k.in_ok-push-2.ensures.ok ∙ ap (λ s. k.pop.new.self ++ s ∷ []) k.in_ok-push.ensures.ok
      ∙ sym (ap (onto_last k.args.item) k.in-Some.ensures.some ∙ onto_end k.args.item k.pop.new.self k.in-Some.list);
}
