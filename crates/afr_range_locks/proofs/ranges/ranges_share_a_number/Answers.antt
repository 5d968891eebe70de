use Rattle.afr_range_locks.proofs.NumberLemmas.{in_both}
use Rattle.afr_range_locks.proofs.ranges.ranges_share_a_number.Goals as goal

pub returns : goal.returns
returns c = in_both
