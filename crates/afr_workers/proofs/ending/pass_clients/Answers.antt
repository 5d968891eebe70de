use Rattle.std.proofs.Common.{◌≡◌, arith, length}
use Rattle.afr_model.specs.Actors.{Client}
use Rattle.afr_workers.proofs.WorkshopLemmas.{kept_here, kept_then}
use Rattle.afr_workers.proofs.ending.pass_clients.Goals as goal

pub loop-i-init : goal.loop-i-init
loop-i-init g c = kept_here c.args.x.now c.requires.shop

pub steps-requires-clause-actor : goal.steps-requires-clause-actor
steps-requires-clause-actor g c =
    let clients : c.len-clients.result ≡ length c.args.x.now.volume.plan.clients = rw c.plan.ensures at c.len-clients.ensures in
    rw c.loop-i.invariant.plan (Client (omega arith) (omega (arith, clients, c.loop-i-test.true)))

pub steps-requires-clause-shop : goal.steps-requires-clause-shop
steps-requires-clause-shop g c = c.loop-i.invariant.shop

pub loop-i-preserved : goal.loop-i-preserved
loop-i-preserved g c = kept_then c.args.x.now c.loop-i.x c.steps.new.x c.loop-i.invariant c.steps.ensures
