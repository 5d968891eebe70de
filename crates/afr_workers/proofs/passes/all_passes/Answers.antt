-- Each pass but the last adds a line.
use Rattle.std.proofs.Common.{◌≡◌, ◌≤◌, Ok, ap, arith, inr, length, true}
use Rattle.std.proofs.lemmas.Grind.{common_steps}
use Rattle.afr_workers.proofs.PassLemmas.{leads_nowhere, leads_then}
use Rattle.afr_workers.proofs.passes.all_passes.Goals as goal

pub loop-volume-init : goal.loop-volume-init
loop-volume-init g c = record { crew = c.requires.crew; leads = leads_nowhere c.args.volume.now }

pub loop-volume-preserved : goal.loop-volume-preserved
loop-volume-preserved g c = record { crew = c.take_pass.ensures.crew; leads = leads_then c.args.volume.now c.loop-volume.volume c.take_pass.new.volume c.loop-volume.invariant.leads c.take_pass.ensures.leads }

pub returns-in_err-take_pass-clause-leads : goal.returns-in_err-take_pass-clause-leads
returns-in_err-take_pass-clause-leads g c = leads_then c.args.volume.now c.loop-volume.volume c.take_pass.new.volume c.loop-volume.invariant.leads c.take_pass.ensures.leads

pub returns-then-not-branch-clause-leads : goal.returns-then-not-branch-clause-leads
returns-then-not-branch-clause-leads g c = leads_then c.args.volume.now c.loop-volume.volume c.take_pass.new.volume c.loop-volume.invariant.leads c.take_pass.ensures.leads

pub returns-then-len-before-clause-leads : goal.returns-then-len-before-clause-leads
returns-then-len-before-clause-leads g c = leads_then c.args.volume.now c.loop-volume.volume c.take_pass.new.volume c.loop-volume.invariant.leads c.take_pass.ensures.leads

pub returns-then-len-before-clause-ok : goal.returns-then-len-before-clause-ok
returns-then-len-before-clause-ok g c =
    let on : c.in_ok-take_pass.field-0 ≡ true = grind (arith, common_steps) in
    let still : length c.take_pass.new.volume.log ≤ length c.loop-volume.volume.log = omega (arith, c.len.ensures, c.len-before.ensures, c.if-len-before.true) in
    inr (c.in_ok-take_pass.ensures.rest (ap Ok on) still)
