use Rattle.afr_client_walk.proofs.ChoosingLemmas.{sources_good, sources_some}
use Rattle.afr_client_walk.proofs.choosing.pick_if.Goals as goal

pub pick_among-requires-clause-good : goal.pick_among-requires-clause-good
pick_among-requires-clause-good g c = sources_good c.args.shape.now c.args.looked.now c.args.kind c.args.verdict.now _ c.requires.judged c.in-Sources.is

pub pick_among-requires-clause-some : goal.pick_among-requires-clause-some
pick_among-requires-clause-some g c = sources_some c.args.shape.now c.args.looked.now c.args.kind c.args.verdict.now _ c.requires.judged c.in-Sources.is
