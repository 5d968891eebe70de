use Rattle.afr_law_promises.proofs.Law.{durable}
use Rattle.afr_law_promises.proofs.Model.{exact_durable, model_durable}
use Rattle.afr_law_promises.proofs.acknowledged_is_durable.Goals as goal

pub returns : goal.returns
returns c = record {
  model = λ p log five honest lawful. model_durable p log five honest lawful;
  lines = λ n files faults lines honest lawful t q acked. durable n files faults lines honest lawful t q acked;
  exact = λ p log five short honest lawful. exact_durable p log five short honest lawful;
}
