-- One line more.
use Rattle.std.proofs.Common.{◌≡◌, ◌∙◌, ◌++◌, ◌<◌, List, [], ◌∷◌, Some, None, ap, arith, length, map, refl}
use Rattle.std.proofs.lemmas.List.{map_push}
use Rattle.afr_log.specs.Log.{told_line}
use Rattle.afr_log.specs.declared.shown.ToldLine.{ToldLine}
use Rattle.afr_report.proofs.WorkerLemmas.{ended_next, heals_next}
use Rattle.afr_report.proofs.workers.task_heals.gather_heals.Goals.{in-Some+in_ok-push, in_default}
use Rattle.afr_report.proofs.workers.task_heals.gather_heals.Goals as goal

pub loop-at-preserved : goal.loop-at-preserved
loop-at-preserved c =
    let small : c.loop-at.at < length c.args.log.now.items = rw c.len-at-end.ensures at c.loop-at-test.true in
    let items = c.args.log.now.items in
    let inv = c.loop-at.invariant in
    record {
      heals = elim c.match-task_heal_at.branch [
        | in-Some+in_ok-push w ↦
            heals_next c.args.all.second c.args.all.third items c.loop-at.at c.loop-at.second c.loop-at.third (Some (told_line w.in-Some.told)) _ _ small w.in-Some.ensures inv.second inv.third inv.heals
            (rw w.heals-is (ap (λ (l : List ToldLine). map told_line l) w.in_ok-push.ensures.items ∙ map_push told_line c.loop-at.heals.items w.in-Some.told))
        | in_default w ↦
            heals_next c.args.all.second c.args.all.third items c.loop-at.at c.loop-at.second c.loop-at.third None _ _ small w.in_default.ensures inv.second inv.third inv.heals
            (rw w.heals-is refl)
      ];
      second = ended_next 18 items c.loop-at.at c.loop-at.second c.ends_at-second.result _ small c.ends_at-second.ensures.value inv.second refl;
      third = ended_next 19 items c.loop-at.at c.loop-at.third c.ends_at-third.result _ small c.ends_at-third.ensures.value inv.third refl;
      few_second = omega (arith, inv.few_second, c.ends_at-second.ensures.few);
      few_third = omega (arith, inv.few_third, c.ends_at-third.ensures.few);
    }
