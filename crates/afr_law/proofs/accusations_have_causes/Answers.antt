use Rattle.afr_law.proofs.Model.Causes.{model_causes, exact_causes}
use Rattle.afr_law.proofs.Causes.Posted.{accusations}
use Rattle.afr_law.proofs.accusations_have_causes.Goals as goal

pub returns : goal.returns
returns c = record {
  model = λ p log five honest lawful. model_causes p log five honest lawful;
  lines = λ n files faults lines honest lawful t x c g kind some. accusations n files faults lines honest lawful t x c g kind some;
  exact = λ p log five short honest lawful. exact_causes p log five short honest lawful;
}
