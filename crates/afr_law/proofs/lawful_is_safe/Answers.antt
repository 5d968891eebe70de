use Rattle.afr_law.proofs.Model.Safe.{model_safe}
use Rattle.afr_law.proofs.Safety.Steps.{prefixes}
use Rattle.afr_law.proofs.Model.Discipline.{exact_safe}
use Rattle.afr_law.proofs.lawful_is_safe.Goals as goal

pub returns : goal.returns
returns c = record { model = λ p log five honest lawful. model_safe p log five honest lawful; lines = λ n files faults lines honest lawful i low. prefixes n files faults lines honest lawful i low; exact = λ p log five short honest lawful. exact_safe p log five short honest lawful }
