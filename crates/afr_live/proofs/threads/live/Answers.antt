-- A run that has turns enough has done all.
use Rattle.afr_live.proofs.EagerLemmas.{eager_done}
use Rattle.afr_volume.proofs.PlainLemmas.{plain_right}
use Rattle.afr_volume.proofs.PresumedLemmas.{kept_of}
use Rattle.afr_live.proofs.threads.live.Goals as goal

pub returns-in-Ok-clause-ends : goal.returns-in-Ok-clause-ends
returns-in-Ok-clause-ends g c =
    let now = c.every_line-in-Ok.ensures in
    let right = plain_right c.in-Ok.volume c.in-Ok.ensures.plain now.right in
    eager_done c.an_ordered_run_ends.ensures.eager c.in-Ok.volume.plan c.in-Ok.volume.log
    (kept_of c.in-Ok.volume.plan c.in-Ok.volume.log (record { few = now.few; clients = now.clients; healers = now.healers; turns = now.turns }) now.room right)
    right.within c.in-Ok.ensures.eager c.in-Ok.ensures.complete

pub returns-in-Ok-clause-right : goal.returns-in-Ok-clause-right
returns-in-Ok-clause-right g c = plain_right c.in-Ok.volume c.in-Ok.ensures.plain c.every_line-in-Ok.ensures.right

pub returns-in-Err-clause-right : goal.returns-in-Err-clause-right
returns-in-Err-clause-right g c = plain_right c.in-Err.volume c.in-Err.ensures.plain c.every_line-in-Err.ensures.right
