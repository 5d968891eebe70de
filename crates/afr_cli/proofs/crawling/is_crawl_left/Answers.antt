-- Where work is left, the log is full.
use Rattle.afr_cli.proofs.CrawlLemmas.{left_is_full}
use Rattle.afr_cli.proofs.crawling.is_crawl_left.Goals as goal

pub returns-clause-yes : goal.returns-clause-yes
returns-clause-yes c = λ e. let left = c.is_any_left.ensures.yes e in let v = c.every_line.ensures in (left_is_full _ c.requires.complete c.requires.tried v.clients v.healers v.room left, left)
