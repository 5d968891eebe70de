use Rattle.std.proofs.Common.{◌≡◌, length}
use Rattle.afr_servers.specs.Calls.{MeetsBetween}
use Rattle.afr_servers.proofs.meeting.meet_between.Given as goal

abbrev pub invariant-loop-b : goal.invariant-loop-b
invariant-loop-b l = record {
  met : MeetsBetween l.actor l.from l.b l.fn.servers.items l.servers.items l.fn.epochs l.epochs;
  five : length l.epochs.of ≡ 5;
}
