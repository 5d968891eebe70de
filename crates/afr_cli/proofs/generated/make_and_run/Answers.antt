-- The plan of a generated load has turns enough.
use Rattle.std.proofs.Common.{◌∙◌}
use Rattle.afr_cli.proofs.LoadLemmas.{load_few}
use Rattle.afr_cli.proofs.generated.make_and_run.Goals as goal

pub returns-in-Ok-clause-few : goal.returns-in-Ok-clause-few
returns-in-Ok-clause-few g c = load_few c.args.n _ _ c.requires.few c.run_plan.ensures.short (λ other. c.run_plan.ensures.ran other ∙ c.in-Ok.ensures.ok) c.run_plan.ensures.few
