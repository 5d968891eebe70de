use Rattle.afr_law.proofs.Model.Fresh.{model_fresh_since, model_fresh_by_looks, exact_fresh}
use Rattle.afr_law.proofs.Freshness.Fresh.{fresh_reads}
use Rattle.afr_law.proofs.reads_are_fresh.Goals as goal

pub returns : goal.returns
returns c = record {
  model = λ p log five honest lawful. model_fresh_since p log five honest lawful;
  works = λ p log five honest lawful. model_fresh_by_looks p log five honest lawful;
  lines = λ n files faults lines honest lawful a since r b cell w. fresh_reads n files faults lines honest lawful a since r b cell w;
  exact = λ p log five short honest lawful. exact_fresh p log five short honest lawful;
}
