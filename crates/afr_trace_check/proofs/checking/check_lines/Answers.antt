use Rattle.std.proofs.Common.{◌≡◌, ◌≤◌, [], arith, length, map, subst, sym}
use Rattle.afr_trace_build.specs.Built.{built_on}
use Rattle.afr_trace_check.proofs.FoundLemmas.{line_broken, line_taken, lines_end, logged, logged_back}
use Rattle.afr_trace_check.specs.Right.{IsFoundIn}
use Rattle.afr_trace_check.specs.Taken.{log_of}
use Rattle.afr_trace_check.specs.declared.finding.Finding.{Finding}
use Rattle.afr_trace_read.specs.Seen.{seen_line}
use Rattle.afr_trace_check.proofs.checking.check_lines.Goals as goal

pub returns-in-Some : goal.returns-in-Some
returns-in-Some c =
    line_broken c.args.plan.now (built_on c.args.plan.now c.args.broken (map seen_line c.args.lines.now) []) c.args.broken c.args.lines.now c.loop-i.i (log_of c.loop-i.taken) c.loop-i.invariant.built _ (log_of c.next.new.taken)
    c.in-Some.rule c.in_ok-outcome.outcome c.loop-i.i c.loop-i-test.true c.in_ok-outcome.ensures.outcome c.in-Some.is c.loop-i.invariant.right (logged c.loop-i.taken.log.items c.loop-i.i c.loop-i.invariant.count)

pub loop-i-preserved : goal.loop-i-preserved
loop-i-preserved c =
    let r = line_taken c.args.plan.now (built_on c.args.plan.now c.args.broken (map seen_line c.args.lines.now) []) c.args.broken c.args.lines.now c.loop-i.i (log_of c.loop-i.taken) c.loop-i.invariant.built _ (log_of c.next.new.taken) c.in_ok-outcome.outcome c.loop-i-test.true c.in_ok-outcome.ensures.outcome c.in_default.is in
    let many = logged c.loop-i.taken.log.items c.loop-i.i c.loop-i.invariant.count in
    record {
      taken = c.in_ok-outcome.ensures.taken c.in_default.is;
      right = r.1;
      built = r.0;
      count = logged_back c.next.new.taken.log.items _ c.loop-i.i r.2 many;
    }

pub returns : goal.returns
returns c =
    let whole = built_on c.args.plan.now c.args.broken (map seen_line c.args.lines.now) [] in
    let high : length c.args.lines.now ≤ c.loop-i.i = omega (arith, c.loop-i-test.false) in
    let many : length (log_of c.loop-i.taken) ≡ length c.args.lines.now = omega (arith, logged c.loop-i.taken.log.items c.loop-i.i c.loop-i.invariant.count, high, c.loop-i.auto.i-end) in
    subst (λ (found : Finding). IsFoundIn c.args.plan.now whole found) (sym c.at_end.ensures)
    (lines_end c.args.plan.now (built_on c.args.plan.now c.args.broken (map seen_line c.args.lines.now) []) c.args.broken c.args.lines.now c.loop-i.i (log_of c.loop-i.taken) c.loop-i.invariant.built (length c.args.lines.now) high c.loop-i.invariant.right many)
