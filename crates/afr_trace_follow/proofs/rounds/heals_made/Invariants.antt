use Rattle.std.proofs.Common.{take, reverse}
use Rattle.afr_trace_follow.specs.Healing.{IsHealing}
use Rattle.afr_trace_follow.proofs.rounds.heals_made.Given as goal

abbrev pub invariant-loop-position : goal.invariant-loop-position
invariant-loop-position l = IsHealing l.a.0 (reverse (take l.position l.log)) l.healing
