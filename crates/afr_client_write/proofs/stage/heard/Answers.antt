use Rattle.std.proofs.Common.{◌∙◌}
use Rattle.afr_lines.specs.Told.{told_by}
use Rattle.afr_client_write.proofs.WriteLemmas.{told_answers}
use Rattle.afr_client_write.proofs.stage.heard.Goals as goal

pub returns : goal.returns
returns c = c.hear_answer.ensures ∙ told_answers c.args.transaction.now.stage (told_by c.args.answer.now) c.args.at c.args.transaction.now c.args.brick c.args.request.now c.requires
