-- One line more.
use Rattle.std.proofs.Common.{◌<◌, arith, length, refl}
use Rattle.afr_report.proofs.WorkerLemmas.{ended_next, killed_next}
use Rattle.afr_report.proofs.workers.tally.count_works.Goals as goal

pub loop-at-preserved : goal.loop-at-preserved
loop-at-preserved c =
    let small : c.loop-at.at < length c.args.log.now.items = rw c.len-at-end.ensures at c.loop-at-test.true in
    let items = c.args.log.now.items in
    let inv = c.loop-at.invariant in
    record {
      rounds = ended_next 17 items c.loop-at.at c.loop-at.rounds c.ends_at-rounds.result _ small c.ends_at-rounds.ensures.value inv.rounds refl;
      second = ended_next 18 items c.loop-at.at c.loop-at.second c.ends_at-second.result _ small c.ends_at-second.ensures.value inv.second refl;
      third = ended_next 19 items c.loop-at.at c.loop-at.third c.ends_at-third.result _ small c.ends_at-third.ensures.value inv.third refl;
      killed = killed_next items c.loop-at.at c.loop-at.killed c.is_killed_by-killed.result small c.is_killed_by-killed.ensures inv.killed;
      few = omega (arith, inv.few, c.ends_at-rounds.ensures.few);
      few_second = omega (arith, inv.few_second, c.ends_at-second.ensures.few);
      few_third = omega (arith, inv.few_third, c.ends_at-third.ensures.few);
    }
