use Rattle.afr_law_bound.proofs.Begun.{begun_now}
use Rattle.afr_law_bound.proofs.Queue.{queue_now, rises}
use Rattle.afr_law_bound.proofs.Stand.{nobody, told_waits, waits_on}
use Rattle.afr_lines.specs.declared.answer.Told.TheVariants.{Failed}
use Rattle.afr_model_moves.specs.Discipline.{present}
use Rattle.afr_law_bound.specs.Law.{WaitsAmong}
use Rattle.afr_law_bound.proofs.nobody_waits_in_a_circle.Goals as goal

pub returns : goal.returns
returns c = record {
  rises = λ n files faults log fair t a b source area inside may. rises n files.keeps (present n files.keeps log t a) t b Failed (begun_now n files.keeps log fair.moves t a) (queue_now n files.keeps log fair.moves t a) source area inside may;
  told = λ n files faults log fair t a b area owner took is up. told_waits n files faults log fair.honest fair.moves t a b area owner took is up;
  on = λ n files faults log fair t a still other w. waits_on n files faults log fair.honest fair.moves t a still other w;
  nobody = λ n files faults log fair t k test each a low is. nobody n files faults log fair.honest fair.moves fair.few t k test (WaitsAmong n files.keeps log t k test) each (λ x w. w.waits) (λ x w. (w.below, w.among)) a low is;
}
