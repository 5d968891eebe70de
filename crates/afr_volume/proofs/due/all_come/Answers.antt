use Rattle.std.proofs.Common.{[]}
use Rattle.afr_volume.specs.Going.{Later, Still}
use Rattle.afr_volume.proofs.GoingLemmas.{goes_nowhere, goes_then, takes_none, takes_then, event_goes, event_takes}
use Rattle.afr_volume.proofs.due.all_come.Goals as goal

pub loop-volume-init : goal.loop-volume-init
loop-volume-init c = record { goes = goes_nowhere c.args.volume.now; taken = takes_none c.args.volume.now.plan c.args.volume.now.log; happens = Still }

pub loop-volume-preserved : goal.loop-volume-preserved
loop-volume-preserved c = record {
  goes = goes_then c.args.volume.now c.loop-volume.volume c.event.new.self c.loop-volume.invariant.goes (event_goes c.loop-volume.volume c.event.new.self c.in_ok-event.ensures.ok);
  taken = takes_then c.args.volume.now c.loop-volume.volume c.event.new.self [] [] c.loop-volume.invariant.goes c.loop-volume.invariant.taken (event_takes c.loop-volume.volume c.event.new.self c.in_ok-event.ensures.ok);
  happens = Later c.loop-volume.volume c.event.new.self c.loop-volume.invariant.happens c.in_ok-event.ensures.ok;
}
