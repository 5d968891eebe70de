use Rattle.std.proofs.Common.{Bool, subst}
use Rattle.afr_volume.specs.Right.{IsRightFor}
use Rattle.afr_workers.proofs.crawling.crawl_here.Goals as goal

pub returns-clause-right : goal.returns-clause-right
returns-clause-right g c = subst (λ (crawl : Bool). IsRightFor crawl c.crawl_all-crawled.new.volume.plan c.crawl_all-crawled.new.volume.log) c.crawl_all-crawled.ensures.crawls c.every_line.ensures.right
