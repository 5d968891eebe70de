use Rattle.std.proofs.Common.{◌≡◌}
use Rattle.afr_volume.proofs.GoingLemmas.{goes_nowhere, goes_then}
use Rattle.afr_volume.specs.Going.{AtFirst}
use Rattle.afr_order.proofs.ClientLemmas.{runs_then}
use Rattle.afr_order.proofs.rows.client_orders.Goals as goal

pub loop-i-init : goal.loop-i-init
loop-i-init g c = record { goes = goes_nowhere c.args.volume.now; runs = AtFirst }

pub loop-i-preserved : goal.loop-i-preserved
loop-i-preserved g c = record {
  goes = goes_then c.args.volume.now c.loop-i.volume c.client_order.new.volume c.loop-i.invariant.goes c.client_order.ensures.goes;
  runs = runs_then c.args.volume.now c.loop-i.volume c.client_order.new.volume c.loop-i.invariant.runs c.client_order.ensures.runs;
}

pub returns-in_err-client_order-clause-goes : goal.returns-in_err-client_order-clause-goes
returns-in_err-client_order-clause-goes g c = goes_then c.args.volume.now c.loop-i.volume c.client_order.new.volume c.loop-i.invariant.goes c.client_order.ensures.goes

pub returns-then-not-branch-clause-goes : goal.returns-then-not-branch-clause-goes
returns-then-not-branch-clause-goes g c = goes_then c.args.volume.now c.loop-i.volume c.client_order.new.volume c.loop-i.invariant.goes c.client_order.ensures.goes

pub returns-in_err-client_order-clause-runs : goal.returns-in_err-client_order-clause-runs
returns-in_err-client_order-clause-runs g c = runs_then c.args.volume.now c.loop-i.volume c.client_order.new.volume c.loop-i.invariant.runs c.client_order.ensures.runs

pub returns-then-not-branch-clause-runs : goal.returns-then-not-branch-clause-runs
returns-then-not-branch-clause-runs g c = runs_then c.args.volume.now c.loop-i.volume c.client_order.new.volume c.loop-i.invariant.runs c.client_order.ensures.runs
