use Rattle.std.proofs.Common.{◌≡◌, ◌∙◌, arith}
use Rattle.afr_report_trace.proofs.RowLemmas.{all_askers}
use Rattle.afr_report_trace.proofs.rows.add_askers.Goals as goal

pub returns : goal.returns
returns c =
    let all : c.loop-place.place ≡ 100 = omega arith in
    all_askers c.loop-place.texts c.push-2.new.self (c.loop-place.invariant.0 ∙ all) (λ k l. c.loop-place.invariant.1 k (omega (arith, l, all))) c.in_ok-push-2.ensures.ok
