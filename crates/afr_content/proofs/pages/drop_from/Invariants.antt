-- The pages before the first that goes stay, and one more goes each time.
use Rattle.std.proofs.Common.{◌≡◌, ℕ, ◌<◌}
use Rattle.std.specs.BTreeMap.{btree_map_len}
use Rattle.afr_content.specs.Kept.{kept}
use Rattle.afr_content.proofs.pages.drop_from.Given as goal

abbrev pub invariant-loop-number : goal.invariant-loop-number
invariant-loop-number l = (q : ℕ) → q < l.first → kept l.pages.entries q ≡ kept l.fn.pages.entries q

abbrev pub decreases-loop-number : goal.decreases-loop-number
decreases-loop-number l = btree_map_len l.pages
