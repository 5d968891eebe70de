use Rattle.afr_client_walk.proofs.ChoosingLemmas.{pick_small}
use Rattle.afr_client_walk.proofs.choosing.pick_among.Goals as goal

pub returns-clause-small : goal.returns-clause-small
returns-clause-small g c =
    pick_small g.G.Fn c.args.rule.now c.args.shape.now c.args.looked.now c.args.kind c.pick.result (rw (c.as_slice.ensures, c.of-copies.ensures, c.requires.good) at c.pick.ensures)
