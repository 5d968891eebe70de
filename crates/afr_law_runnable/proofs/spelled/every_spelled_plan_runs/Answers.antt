use Rattle.afr_law_runnable.proofs.SpelledLemmas.{spelled_runs}
use Rattle.afr_law_runnable.proofs.spelled.every_spelled_plan_runs.Goals as goal

pub returns : goal.returns
returns c = record { runs = spelled_runs }
