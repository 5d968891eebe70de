use Rattle.std.proofs.Common.{◌≡◌, ◌∙◌, ℕ, ◌-◌, List, ap, arith, length, reverse, sym, take}
use Rattle.std.proofs.lemmas.List.{take_all}
use Rattle.afr_lines.specs.declared.line.Line.{Line}
use Rattle.afr_trace_follow.proofs.PartLemmas.{start_found, start_past}
use Rattle.afr_trace_follow.specs.Parts.{work_start}
use Rattle.afr_trace_follow.proofs.parts.work_start.Goals as goal

pub loop-i-init : goal.loop-i-init
loop-i-init c = ap (λ (t : List Line). work_start c.args.a.0 (reverse t)) (take_all (length c.args.log.now - 0) c.args.log.now (omega arith))

pub returns-then-ends_work : goal.returns-then-ends_work
returns-then-ends_work c =
    start_found c.args.a.0 c.args.log.now (length c.args.log.now - 1 - c.loop-i.i) c.loop-i.i c.index-log-position.result (omega (arith, c.loop-i-test.true)) (omega (arith, c.loop-i-test.true)) c.index-log-position.is
    (work_start c.args.a.0 (reverse c.args.log.now)) (sym c.ends_work.ensures ∙ c.if-ends_work.true) c.loop-i.invariant

pub loop-i-preserved : goal.loop-i-preserved
loop-i-preserved c =
    start_past c.args.a.0 c.args.log.now (length c.args.log.now - 1 - c.loop-i.i) c.loop-i.i c.index-log-position.result (omega (arith, c.loop-i-test.true)) (omega (arith, c.loop-i-test.true)) c.index-log-position.is
    (work_start c.args.a.0 (reverse c.args.log.now)) (sym c.ends_work.ensures ∙ c.if-ends_work.false) c.loop-i.invariant

pub returns : goal.returns
returns c =
    let none : length c.args.log.now - c.loop-i.i ≡ 0 = omega (arith, c.loop-i-test.false) in
    ap (λ (n : ℕ). work_start c.args.a.0 (reverse (take n c.args.log.now))) (sym none) ∙ c.loop-i.invariant
