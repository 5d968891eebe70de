use Rattle.afr_gen.proofs.RunnableLemmas.{generated-run}
use Rattle.afr_gen.proofs.load.generated_plans_are_runnable.Goals as goal

pub returns : goal.returns
returns c = generated-run
