use Rattle.afr_volume.proofs.actor.asks.Goals as goal

pub ask-requires-clause-can : goal.ask-requires-clause-can
ask-requires-clause-can g c = c.requires.can.asks c.args.brick c.args.request.now c.load.result c.requires.next c.request_fits_its_types.ensures c.load.ensures
