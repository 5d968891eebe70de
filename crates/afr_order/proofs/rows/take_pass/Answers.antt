use Rattle.std.proofs.Common.{◌≡◌, true, Ok, ap, arith, length}
use Rattle.std.proofs.lemmas.Grind.{common_steps}
use Rattle.afr_law_picks.specs.Sources.Sources.{picks_of}
use Rattle.afr_volume.proofs.GoingLemmas.{happens_chosen, ends_true}
use Rattle.afr_volume.proofs.DoneLemmas.{pass_idle}
use Rattle.afr_order.proofs.PassLemmas.{rows_front, pass_front}
use Rattle.afr_order.proofs.OnwardLemmas.{extends_then, happens_onto}
use Rattle.afr_order.proofs.rows.take_pass.Goals as goal

pub returns-in_err-take_row-clause-front : goal.returns-in_err-take_row-clause-front
returns-in_err-take_row-clause-front g c =
    let clients : c.len-clients.result ≡ length c.args.volume.now.plan.clients = rw c.plan.ensures at c.len-clients.ensures in
    let healers : c.len-healers.result ≡ length c.args.volume.now.plan.healers = rw c.plan-2.ensures at c.len-healers.ensures in
    let on : c.in_ok-take_clients.field-0 ≡ true = grind (arith, common_steps) in
    rows_front c.args.volume.now c.take_clients.new.volume c.take_row.new.volume c.len-clients.result c.len-healers.result (record { clients_are = clients; healers_are = healers }) c.take_clients.ensures.goes (ends_true c.args.volume.now c.take_clients.new.volume _ _ on c.in_ok-take_clients.ensures.ok) c.take_row.ensures.front

pub returns-then-not-branch-2-clause-front : goal.returns-then-not-branch-2-clause-front
returns-then-not-branch-2-clause-front g c =
    let clients : c.len-clients.result ≡ length c.args.volume.now.plan.clients = rw c.plan.ensures at c.len-clients.ensures in
    let healers : c.len-healers.result ≡ length c.args.volume.now.plan.healers = rw c.plan-2.ensures at c.len-healers.ensures in
    let on : c.in_ok-take_clients.field-0 ≡ true = grind (arith, common_steps) in
    rows_front c.args.volume.now c.take_clients.new.volume c.take_row.new.volume c.len-clients.result c.len-healers.result (record { clients_are = clients; healers_are = healers }) c.take_clients.ensures.goes (ends_true c.args.volume.now c.take_clients.new.volume _ _ on c.in_ok-take_clients.ensures.ok) c.take_row.ensures.front

pub returns-in_err-come_due-clause-front : goal.returns-in_err-come_due-clause-front
returns-in_err-come_due-clause-front g c =
    let clients : c.len-clients.result ≡ length c.args.volume.now.plan.clients = rw c.plan.ensures at c.len-clients.ensures in
    let healers : c.len-healers.result ≡ length c.args.volume.now.plan.healers = rw c.plan-2.ensures at c.len-healers.ensures in
    let on : c.in_ok-take_clients.field-0 ≡ true = grind (arith, common_steps) in
    let on_too : c.in_ok-take_row.field-0 ≡ true = grind (arith, common_steps) in
    pass_front c.args.volume.now c.take_clients.new.volume c.take_row.new.volume c.come_due.new.volume c.len-clients.result c.len-healers.result (record { clients_are = clients; healers_are = healers }) c.take_clients.ensures.goes c.take_row.ensures.goes (ends_true c.args.volume.now c.take_clients.new.volume _ _ on c.in_ok-take_clients.ensures.ok) (ends_true c.take_clients.new.volume c.take_row.new.volume _ _ on_too c.in_ok-take_row.ensures.ok) c.come_due.ensures.taken

pub returns-clause-front : goal.returns-clause-front
returns-clause-front g c =
    let clients : c.len-clients.result ≡ length c.args.volume.now.plan.clients = rw c.plan.ensures at c.len-clients.ensures in
    let healers : c.len-healers.result ≡ length c.args.volume.now.plan.healers = rw c.plan-2.ensures at c.len-healers.ensures in
    let on : c.in_ok-take_clients.field-0 ≡ true = grind (arith, common_steps) in
    let on_too : c.in_ok-take_row.field-0 ≡ true = grind (arith, common_steps) in
    pass_front c.args.volume.now c.take_clients.new.volume c.take_row.new.volume c.come_due.new.volume c.len-clients.result c.len-healers.result (record { clients_are = clients; healers_are = healers }) c.take_clients.ensures.goes c.take_row.ensures.goes (ends_true c.args.volume.now c.take_clients.new.volume _ _ on c.in_ok-take_clients.ensures.ok) (ends_true c.take_clients.new.volume c.take_row.new.volume _ _ on_too c.in_ok-take_row.ensures.ok) c.come_due.ensures.taken

pub returns-clause-idle : goal.returns-clause-idle
returns-clause-idle g c =
    let clients : c.len-clients.result ≡ length c.args.volume.now.plan.clients = rw c.plan.ensures at c.len-clients.ensures in
    let healers : c.len-healers.result ≡ length c.args.volume.now.plan.healers = rw c.plan-2.ensures at c.len-healers.ensures in
    let on : c.in_ok-take_clients.field-0 ≡ true = grind (arith, common_steps) in
    let on_too : c.in_ok-take_row.field-0 ≡ true = grind (arith, common_steps) in
    λ same.
    pass_idle c.args.volume.now c.take_clients.new.volume c.take_row.new.volume c.come_due.new.volume c.take_clients.ensures.goes c.take_row.ensures.goes c.come_due.ensures.goes
    (rw (← clients) (c.in_ok-take_clients.ensures.done (ap Ok on))) (rw (← healers) (c.in_ok-take_row.ensures.done (ap Ok on_too))) c.in_ok-come_due.ensures.events

pub returns-in_err-come_due-clause-chosen : goal.returns-in_err-come_due-clause-chosen
returns-in_err-come_due-clause-chosen g c = λ k. happens_chosen (picks_of g.G.Fn c.args.rules.now.read) (picks_of g.F.Fn c.args.rules.now.heal) c.take_row.new.volume c.come_due.new.volume c.come_due.ensures.happens (c.take_row.ensures.chosen (c.take_clients.ensures.chosen k))

pub returns-clause-chosen : goal.returns-clause-chosen
returns-clause-chosen g c = λ k. happens_chosen (picks_of g.G.Fn c.args.rules.now.read) (picks_of g.F.Fn c.args.rules.now.heal) c.take_row.new.volume c.come_due.new.volume c.come_due.ensures.happens (c.take_row.ensures.chosen (c.take_clients.ensures.chosen k))

pub returns-in_err-take_row-clause-onto : goal.returns-in_err-take_row-clause-onto
returns-in_err-take_row-clause-onto g c = extends_then c.args.volume.now.log c.take_clients.new.volume.log c.take_row.new.volume.log c.take_clients.ensures.onto c.take_row.ensures.onto

pub returns-then-not-branch-2-clause-onto : goal.returns-then-not-branch-2-clause-onto
returns-then-not-branch-2-clause-onto g c = extends_then c.args.volume.now.log c.take_clients.new.volume.log c.take_row.new.volume.log c.take_clients.ensures.onto c.take_row.ensures.onto

pub returns-in_err-come_due-clause-onto : goal.returns-in_err-come_due-clause-onto
returns-in_err-come_due-clause-onto g c = extends_then c.args.volume.now.log c.take_row.new.volume.log c.come_due.new.volume.log (extends_then c.args.volume.now.log c.take_clients.new.volume.log c.take_row.new.volume.log c.take_clients.ensures.onto c.take_row.ensures.onto) (happens_onto c.take_row.new.volume c.come_due.new.volume c.come_due.ensures.happens)

pub returns-clause-onto : goal.returns-clause-onto
returns-clause-onto g c = extends_then c.args.volume.now.log c.take_row.new.volume.log c.come_due.new.volume.log (extends_then c.args.volume.now.log c.take_clients.new.volume.log c.take_row.new.volume.log c.take_clients.ensures.onto c.take_row.ensures.onto) (happens_onto c.take_row.new.volume c.come_due.new.volume c.come_due.ensures.happens)
