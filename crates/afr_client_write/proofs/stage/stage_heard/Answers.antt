use Rattle.std.proofs.Common.{refl}
use Rattle.afr_lines.specs.Told.{told_by}
use Rattle.afr_client_write.proofs.WriteLemmas.{told_kept}
use Rattle.afr_client_write.proofs.stage.stage_heard.Goals as goal

pub returns-in-Changing-clause-kept : goal.returns-in-Changing-clause-kept
returns-in-Changing-clause-kept g c =
    told_kept c.args.stage.now c.in-Changing.transaction c.heard.new.transaction c.args.answer.now (told_by c.args.answer.now) c.args.at c.args.walk.now c.in-Changing.is c.requires.sound c.requires.more refl c.heard.ensures
