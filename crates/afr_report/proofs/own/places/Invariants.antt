use Rattle.std.proofs.Common.{◌≡◌, take, reverse}
use Rattle.afr_report.specs.Own.{places}
use Rattle.afr_report.proofs.own.places.Given as goal

abbrev pub invariant-loop-at : goal.invariant-loop-at
invariant-loop-at l = l.lists.items ≡ places (reverse (take l.at l.log.items))
