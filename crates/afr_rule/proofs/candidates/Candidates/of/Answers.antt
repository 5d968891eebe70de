use Rattle.std.proofs.Common.{arith}
use Rattle.afr_base.specs.Bricks.{member}
use Rattle.afr_rule.proofs.GatheringLemmas.{all_gathered, gathered, longer}
use Rattle.afr_rule.specs.Copies.{copy_in}
use Rattle.afr_rule.proofs.candidates.Candidates.of.Goals as goal

pub loop-x-preserved : goal.loop-x-preserved
loop-x-preserved c = (
  gathered (copy_in c.args.looked.now) (member c.args.set) c.loop-x.x _ c.loop-x.copies _ c.copy_in.result (omega arith) c.loop-x.invariant.0 c.has.ensures c.copy_in.ensures c.push_if.ensures,
  longer _ c.loop-x.copies _ c.copy_in.result c.loop-x.x c.loop-x.invariant.1 c.push_if.ensures,
)

pub returns : goal.returns
returns c = all_gathered (copy_in c.args.looked.now) c.args.set c.loop-x.copies c.loop-x.x (omega arith) c.loop-x.invariant.0 c.is_of_five.ensures
