use Rattle.afr_law.proofs.Model.Fits.{exact_sums}
use Rattle.afr_law.proofs.Model.Repairs.{next_fits}
use Rattle.afr_law.proofs.Model.Found.{next_carries, next_found}
use Rattle.afr_law.proofs.Model.Answered.{next_answered}
use Rattle.afr_law.proofs.lawful_lines_fit.Goals as goal

pub returns : goal.returns
returns c = record {
  answered = λ p log a b request five short honest lawful may. next_answered p log a b request five short honest lawful may;
  next = λ p log line five short honest lawful said next. next_fits p log line five short honest lawful said next;
  carries = λ p log a b request five short honest lawful may carried. next_carries p log a b request five short honest lawful may carried;
  found = λ p log a b request five short honest lawful may. next_found p log a b request five short honest lawful may;
  sums = λ p log five short honest lawful. exact_sums p log five short honest lawful;
}
