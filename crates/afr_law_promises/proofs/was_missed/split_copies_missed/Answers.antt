use Rattle.afr_law_promises.proofs.Missed.Model.{exact_missed, model_since}
use Rattle.afr_law_promises.proofs.Missed.Posted.{causes_since}
use Rattle.afr_law_promises.proofs.was_missed.split_copies_missed.Goals as goal

pub returns : goal.returns
returns c = record {
  model = λ p log five honest lawful. model_since p log five honest lawful;
  lines = λ n files faults lines honest lawful s t x c g kind low none some. causes_since n files faults lines honest lawful s t x c g kind low none some;
  exact = λ p log five short honest lawful. exact_missed p log five short honest lawful;
}
