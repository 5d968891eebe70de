use Rattle.std.proofs.Common.{sym, ◌∙◌}
use Rattle.afr_law_fits.proofs.RangeLemmas.{bricks_are_bytes}
use Rattle.afr_law_fits.proofs.ranges.set_fits.Goals as goal

pub returns : goal.returns
returns c = bricks_are_bytes c.args.set (sym c.count-count.ensures.len ∙ c.count-count.ensures.tests)
