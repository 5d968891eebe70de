use Rattle.afr_client_entry.proofs.Renames.HeardLemmas.{first_kept}
use Rattle.afr_client_entry.proofs.renaming.stage.first_heard.Goals as goal

pub returns-clause-kept : goal.returns-clause-kept
returns-clause-kept g c =
    first_kept g.G.Fn c.args.rule.now c.args.paths.now c.hear-picked.result c.args.answer.now c.args.at c.hear-picked.new.self c.requires.paths c.requires.walking c.hear-picked.ensures.picked c.hear-picked.ensures.value
