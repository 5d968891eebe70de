use Rattle.std.proofs.Common.{sym, ap, ◌∙◌, ◌≡◌, refl, Some}
use Rattle.afr_plan.specs.Judging.{reading, fault_in}
use Rattle.afr_plan_read.specs.Broken.{code_of}
use Rattle.afr_plan_read.proofs.LoopLemmas.{goes_on, stops, at_tail, shorter}
use Rattle.afr_plan_read.proofs.lines.read_lines.Goals as goal

pub loop-line-init : goal.loop-line-init
unfolding reading
loop-line-init c = rw c.new-lines.ensures refl

pub loop-line-smaller : goal.loop-line-smaller
loop-line-smaller c = shorter c.loop-line.rest.now c.in-Some.line.now c.in-Some.more.now c.in-Some.ensures

pub loop-line-preserved : goal.loop-line-preserved
loop-line-preserved c =
    let s = c.in-Ok.ensures.ok in
    rw s.2 (goes_on c.loop-line.rest.now c.in-Some.line.now c.in-Some.more.now c.loop-line.lines s.0 c.in-Some.ensures s.1 ∙ c.loop-line.invariant)

pub returns-in-Err-clause-cause : goal.returns-in-Err-clause-cause
returns-in-Err-clause-cause c = λ fault e.
    let s = c.in-Err.ensures.refused fault (cc) in
    ap fault_in (sym c.loop-line.invariant ∙ stops c.loop-line.rest.now c.in-Some.line.now c.in-Some.more.now c.loop-line.lines s.0 c.in-Some.ensures s.1) ∙ ap Some (sym s.2)

pub returns-clause-cause : goal.returns-clause-cause
returns-clause-cause c = λ fault e.
    let same : c.fault.result ≡ fault = cc in
    ap fault_in (sym c.loop-line.invariant ∙ at_tail c.loop-line.rest.now c.loop-line.lines (Some (code_of c.in-Some-judge_tail.broken)) c.in_default.ensures c.in-Some-judge_tail.ensures) ∙ ap Some (sym c.fault.ensures ∙ same)
