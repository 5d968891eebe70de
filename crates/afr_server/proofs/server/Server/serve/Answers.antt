use Rattle.std.proofs.Common.{◌≡◌, Some, sym, ap, ◌∙◌}
use Rattle.afr_faults.specs.Planned.{next_fault}
use Rattle.afr_lines.specs.declared.fault.Fault.TheVariants.{Fail}
use Rattle.afr_server.specs.Outcome.{lost_if}
use Rattle.afr_server.proofs.LoseLemmas.{failed, failing, losing}
use Rattle.afr_server.proofs.server.Server.serve.Goals as goal

pub returns-then-fails-clause-ok : goal.returns-then-fails-clause-ok
returns-then-fails-clause-ok c =
    let fault : next_fault c.args.self.now.faults ≡ Some Fail = rw (← c.self.view_is) (rw c.peek-fault.ensures at (failing c.peek-fault.result (sym c.if-fails.ensures))) in
    let live = c.if-not-live.false in
    rw (live, fault) (failed c.args.first c.args.actor c.args.request.now c.args.load c.args.self.now c.fail.new.self c.fail.new.given c.fail.ensures.asked c.fail.ensures.same c.fail.ensures.started c.fail.ensures.links)

pub returns-clause-ok : goal.returns-clause-ok
returns-clause-ok c =
    let fault : lost_if c.loses.result ≡ next_fault c.args.self.now.faults = ap lost_if c.loses.ensures ∙ losing c.peek-fault.result (sym c.if-fails.ensures) ∙ rw (← c.self.view_is) c.peek-fault.ensures in
    rw (c.if-not-live.false, ← fault) c.carry.ensures.ok
