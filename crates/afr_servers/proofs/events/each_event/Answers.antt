use Rattle.std.proofs.Common.{refl, arith, ◌<◌, length}
use Rattle.afr_servers.proofs.EventLemmas.{event_all, event_more}
use Rattle.afr_servers.proofs.PlaceLemmas.{read_at}
use Rattle.afr_servers.proofs.events.each_event.Goals as goal

pub loop-b-preserved : goal.loop-b-preserved
loop-b-preserved c =
    let low : c.loop-b.b < length c.loop-b.servers.items = omega (arith, c.loop-b-test.true, c.len-b-end.ensures, c.loop-b.invariant.count) in
    event_more c.args.event.now c.loop-b.b _ c.args.servers.now.items c.loop-b.servers.items _ c.index_mut.result.now c.event.new.self refl low (read_at _ _ _ low c.index_mut.ensures.value) refl
    (record { meets = c.event.ensures.meets; same = c.event.ensures.same }) c.loop-b.invariant

pub returns : goal.returns
returns c = event_all c.args.event.now c.loop-b.b c.args.servers.now.items c.loop-b.servers.items (omega (arith, c.loop-b-test.false, c.loop-b.auto.b-end, c.len-b-end.ensures)) c.loop-b.invariant
