use Rattle.afr_workers.proofs.WorkshopLemmas.{kept_here, kept_then}
use Rattle.afr_workers.proofs.ending.drain.Goals as goal

pub loop-init : goal.loop-init
loop-init g c = kept_here c.args.x.now c.requires.shop

pub pass-requires-clause-shop : goal.pass-requires-clause-shop
pass-requires-clause-shop g c = c.loop.invariant.shop

pub loop-preserved : goal.loop-preserved
loop-preserved g c = kept_then c.args.x.now c.loop.x c.pass.new.x c.loop.invariant c.pass.ensures

pub returns-then-is_drained-clause-kept : goal.returns-then-is_drained-clause-kept
returns-then-is_drained-clause-kept g c = kept_then c.args.x.now c.loop.x c.pass.new.x c.loop.invariant c.pass.ensures
