use Rattle.std.proofs.Common.{arith}
use Rattle.std.proofs.lemmas.List.{get_or_default}
use Rattle.std.proofs.lemmas.List.Edits.{map_over_more}
use Rattle.afr_session.specs.Links.{ended}
use Rattle.afr_session.proofs.sessions.end_all.Goals as goal

pub loop-link-preserved : goal.loop-link-preserved
loop-link-preserved c =
    rw c.end.ensures
    (map_over_more ended c.args.links.now c.loop-link.links c.loop-link.link-index _ c.loop-link-test.true c.loop-link.invariant
    (get_or_default c.loop-link.links c.loop-link.link-index _ _ (omega (arith, c.loop-link-test.true, c.loop-link.auto.links))))
