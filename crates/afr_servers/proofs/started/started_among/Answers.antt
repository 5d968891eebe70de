use Rattle.std.proofs.Common.{refl, arith}
use Rattle.afr_servers.proofs.PlaceLemmas.{read_at}
use Rattle.afr_servers.proofs.StartedLemmas.{started_all, started_more}
use Rattle.afr_servers.proofs.started.started_among.Goals as goal

pub loop-b-preserved : goal.loop-b-preserved
loop-b-preserved c =
    started_more c.args.servers.now c.loop-b.b _ c.index-servers-b.result c.is_up.result c.loop-b.started c.with_if-started.result (omega (arith, c.loop-b-test.true, c.requires)) refl
    (read_at _ _ _ c.loop-b-test.true c.index-servers-b.is) c.is_up.ensures c.loop-b.invariant c.with_if-started.ensures

pub returns : goal.returns
returns c = started_all c.args.servers.now c.loop-b.b c.loop-b.started (omega (arith, c.loop-b-test.false, c.loop-b.auto.b-end)) c.loop-b.invariant
