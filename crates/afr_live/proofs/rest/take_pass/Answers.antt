-- A pass that added no line has found every actor done.
use Rattle.std.proofs.Common.{◌≡◌, Ok, true, ap, arith, length}
use Rattle.std.proofs.lemmas.Grind.{common_steps}
use Rattle.afr_live.proofs.SettledLemmas.{pass_settled}
use Rattle.afr_volume.proofs.PlainLemmas.{plain_right}
use Rattle.afr_volume.proofs.PresumedLemmas.{kept_of}
use Rattle.afr_live.proofs.rest.take_pass.Goals as goal

pub returns-clause-idle : goal.returns-clause-idle
returns-clause-idle g c =
    let clients : c.len-clients.result ≡ length c.args.state.now.volume.plan.clients = rw c.plan.ensures at c.len-clients.ensures in
    let healers : c.len-healers.result ≡ length c.args.state.now.volume.plan.healers = rw c.plan-2.ensures at c.len-healers.ensures in
    let on : c.in_ok-take_row.field-0 ≡ true = grind (arith, common_steps) in
    let on_too : c.in_ok-take_row-2.field-0 ≡ true = grind (arith, common_steps) in
    let now = c.every_line.ensures in
    λ same.
    pass_settled c.a_log_goes_on.ensures.some c.args.state.now.volume c.take_row.new.state.volume c.take_row-2.new.state.volume c.come_due.new.self.volume
    (kept_of c.args.state.now.volume.plan c.args.state.now.volume.log (record { few = now.few; clients = now.clients; healers = now.healers; turns = now.turns }) now.room (plain_right c.args.state.now.volume c.args.state.now.plain now.right))
    c.take_row.ensures.goes c.take_row-2.ensures.goes c.come_due.ensures.goes
    (rw (← clients) (c.in_ok-take_row.ensures.settled (ap Ok on))) (rw (← healers) (c.in_ok-take_row-2.ensures.settled (ap Ok on_too))) c.in_ok-come_due.ensures.events
