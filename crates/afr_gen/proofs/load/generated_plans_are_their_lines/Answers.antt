use Rattle.afr_gen.proofs.LinesLemmas.{generated-said}
use Rattle.afr_gen.proofs.load.generated_plans_are_their_lines.Goals as goal

pub returns : goal.returns
returns c = generated-said
