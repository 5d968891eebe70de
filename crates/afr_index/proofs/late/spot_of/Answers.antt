use Rattle.std.proofs.Common.{arith}
use Rattle.afr_base.specs.declared.ids.What.TheVariants.{File}
use Rattle.afr_index.proofs.SpotLemmas.{spot}
use Rattle.afr_index.proofs.late.spot_of.Goals as goal

pub returns-then-entry-g : goal.returns-then-entry-g
returns-then-entry-g c = spot c.args.g.0 c.args.list.now c.loop-at.at (record { 0 = 0 }, File) (omega arith) c.loop-at.invariant (λ l. c.if-entry-g.true)

pub returns : goal.returns
returns c = spot c.args.g.0 c.args.list.now _ (record { 0 = 0 }, File) (omega arith) (λ k h. c.loop-at.invariant k (omega arith)) (λ l. absurd (omega arith))
