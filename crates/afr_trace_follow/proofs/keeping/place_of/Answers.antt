use Rattle.std.proofs.Common.{◌∙◌, sym}
use Rattle.afr_trace_follow.proofs.KeepingLemmas.{place_name, place_path}
use Rattle.afr_trace_follow.proofs.keeping.place_of.Goals as goal

pub returns-then-is_on_name : goal.returns-then-is_on_name
returns-then-is_on_name c = λ p w v. place_name p c.args.command.now w c.args.stand v (sym c.is_on_name.ensures ∙ c.if-is_on_name.true)

pub returns-else-is_on_name : goal.returns-else-is_on_name
returns-else-is_on_name c = λ p w v. place_path p c.args.command.now w c.args.stand v (sym c.is_on_name.ensures ∙ c.if-is_on_name.false)
