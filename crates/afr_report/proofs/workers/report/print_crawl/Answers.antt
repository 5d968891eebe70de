-- The started bricks rise.
use Rattle.std.proofs.Common.{reverse}
use Rattle.afr_model.proofs.StartedLemmas.{rising_started}
use Rattle.afr_report.proofs.workers.report.print_crawl.Goals as goal

pub print_info-requires-clause-rising : goal.print_info-requires-clause-rising
print_info-requires-clause-rising c =
    rw c.requires.started (rising_started c.args.plan.now.shape.n (reverse c.args.log.now.items))
