-- What is drained is finished, where memory wasn't wanting.
use Rattle.afr_workers.proofs.EndingLemmas.{drained_of}
use Rattle.afr_workers.proofs.ending.finish.Goals as goal

pub finish_drained-requires-clause-drained : goal.finish_drained-requires-clause-drained
finish_drained-requires-clause-drained g c = drained_of c.drain.new.x c.if-shop.false c.drain.ensures.over
