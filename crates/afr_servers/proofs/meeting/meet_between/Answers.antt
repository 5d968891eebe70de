use Rattle.std.proofs.Common.{◌<◌, length, length-set, set, refl, arith, ◌∙◌}
use Rattle.afr_servers.proofs.MeetingLemmas.{met_more}
use Rattle.afr_servers.proofs.PlaceLemmas.{read_at}
use Rattle.afr_servers.proofs.meeting.meet_between.Goals as goal

pub loop-b-preserved : goal.loop-b-preserved
loop-b-preserved c =
    let so = c.loop-b.invariant.met in
    let low : c.loop-b.b < length c.loop-b.servers.items = omega (arith, c.loop-b-test.true, c.requires.there, so.count) in
    let five : c.loop-b.b < length c.loop-b.epochs.of = omega (arith, c.loop-b-test.true, c.requires.few, c.loop-b.invariant.five) in
    record {
      met =
          met_more c.args.actor c.args.from c.loop-b.b _ c.args.servers.now.items c.loop-b.servers.items _ c.args.epochs c.loop-b.epochs (record { of = set c.loop-b.epochs.of c.loop-b.b c.meet.result }) c.index_mut.result.now c.meet.new.self c.meet.result
          refl (omega (arith, c.loop-b.auto.b, c.requires.order)) low five (read_at _ _ _ low c.index_mut.ensures.value) refl refl (record { does = c.meet.ensures.does; same = c.meet.ensures.same }) c.meet.ensures.epoch so;
      five = length-set c.loop-b.epochs.of c.loop-b.b c.meet.result ∙ c.loop-b.invariant.five;
    }
