use Rattle.std.proofs.Common.{length}
use Rattle.afr_report_info.proofs.marked.+marked.Given as goal

abbrev pub decreases-marked : goal.decreases-marked
decreases-marked l = length l.among
