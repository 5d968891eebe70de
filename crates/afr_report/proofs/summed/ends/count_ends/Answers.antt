use Rattle.std.proofs.Common.{arith, refl, ◌∙◌}
use Rattle.afr_log.specs.Log.{told_line}
use Rattle.afr_report.specs.Summary.Summary.{ends_ok, ends_refused, ends_settled}
use Rattle.afr_report.proofs.Summary.SummaryLemmas.{counted_asked, counted_shown}
use Rattle.afr_report.proofs.summed.ends.count_ends.Goals as goal
use Rattle.afr_report.proofs.summed.ends.count_ends.Goals.{in-Some, in_default}

pub loop-at-preserved : goal.loop-at-preserved
loop-at-preserved c =
    elim c.match-told_line_at.branch [
      | in-Some w ↦
          let ok = counted_shown ends_ok c.args.log.now.items c.loop-at.at c.loop-at.ok w.one_if-ok.result c.match-told_line_at.ok w.told_ok.result (told_line w.in-Some.told) w.in-Some.ensures w.ok-is w.one_if-ok.ensures w.told_ok.ensures c.loop-at.invariant.ok c.loop-at.invariant.few in
          let refused = counted_shown ends_refused c.args.log.now.items c.loop-at.at c.loop-at.refused w.one_if-refused.result c.match-told_line_at.refused w.told_refused.result (told_line w.in-Some.told) w.in-Some.ensures w.refused-is w.one_if-refused.ensures w.told_refused.ensures c.loop-at.invariant.refused c.loop-at.invariant.few_refused in
          let settled = counted_shown ends_settled c.args.log.now.items c.loop-at.at c.loop-at.settled w.one_if-settled.result c.match-told_line_at.settled w.told_settled.result (told_line w.in-Some.told) w.in-Some.ensures w.settled-is w.one_if-settled.ensures w.told_settled.ensures c.loop-at.invariant.settled c.loop-at.invariant.few_settled in
          record { ok = ok.0; refused = refused.0; settled = settled.0; few = ok.1; few_refused = refused.1; few_settled = settled.1 }
      | in_default w ↦
          let small = rw c.len-at-end.ensures at c.loop-at-test.true in
          record { ok = w.ok-is ∙ counted_asked ends_ok (λ actor brick request told took. refl) c.args.log.now.items c.loop-at.at c.loop-at.ok small w.in_default.ensures c.loop-at.invariant.ok; refused = w.refused-is ∙ counted_asked ends_refused (λ actor brick request told took. refl) c.args.log.now.items c.loop-at.at c.loop-at.refused small w.in_default.ensures c.loop-at.invariant.refused; settled = w.settled-is ∙ counted_asked ends_settled (λ actor brick request told took. refl) c.args.log.now.items c.loop-at.at c.loop-at.settled small w.in_default.ensures c.loop-at.invariant.settled; few = omega (arith, w.ok-is, c.loop-at.invariant.few); few_refused = omega (arith, w.refused-is, c.loop-at.invariant.few_refused); few_settled = omega (arith, w.settled-is, c.loop-at.invariant.few_settled) }
    ]
