use Rattle.std.proofs.Common.{sym, ◌∙◌}
use Rattle.afr_base.proofs.OfFive.{first_none, first_some}
use Rattle.afr_base.proofs.brick_set.BrickSet.first.Goals as goal

pub returns-then-is_empty : goal.returns-then-is_empty
returns-then-is_empty c = first_none c.args.self.now (sym c.is_empty.ensures ∙ c.if-is_empty.true)

pub returns : goal.returns
returns c = first_some c.args.self.now c.lowest.result (sym c.is_empty.ensures ∙ c.if-is_empty.false) c.lowest.ensures.number
