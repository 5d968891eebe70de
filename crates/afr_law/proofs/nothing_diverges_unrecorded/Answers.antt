use Rattle.afr_law.proofs.Model.Alike.{model_alike}
use Rattle.afr_law.proofs.Safety.Prefixes.{alike_prefixes}
use Rattle.afr_law.proofs.Model.Discipline.{exact_alike}
use Rattle.afr_law.proofs.nothing_diverges_unrecorded.Goals as goal

pub returns : goal.returns
returns c = record { model = λ p log five honest lawful. model_alike p log five honest lawful; lines = λ n files faults lines honest shown lawful i low. alike_prefixes n files faults lines honest shown lawful i low; exact = λ p log five short honest lawful. exact_alike p log five short honest lawful }
