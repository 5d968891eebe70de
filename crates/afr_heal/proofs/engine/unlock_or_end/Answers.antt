use Rattle.afr_heal.proofs.engine.unlock_or_end.Goals as goal
use Rattle.afr_heal.specs.Engine.{Ends}

pub put_request-requires-clause-room : goal.put_request-requires-clause-room
put_request-requires-clause-room c = c.requires.room c.in-Some.due.brick.0 c.in-Some.ensures.small

pub returns-in-Some : goal.returns-in-Some
returns-in-Some c = rw c.put_request.ensures (c.in-Some.ensures.asks c.args.gfid c.args.kind Ends)

pub returns-in-None : goal.returns-in-None
returns-in-None c = c.in-None.ensures.asks c.args.gfid c.args.kind Ends
