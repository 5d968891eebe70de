use Rattle.std.proofs.Common.{Bool, subst}
use Rattle.afr_volume.specs.Right.{IsRightFor}
use Rattle.afr_workers.proofs.threads.crawl.Goals as goal

pub returns-in-Ok-clause-right : goal.returns-in-Ok-clause-right
returns-in-Ok-clause-right g c = subst (λ (crawl : Bool). IsRightFor crawl c.in-Ok.volume.plan c.in-Ok.volume.log) c.in-Ok.ensures.crawls c.every_line.ensures.right

pub returns-in-Err-clause-right : goal.returns-in-Err-clause-right
returns-in-Err-clause-right g c = subst (λ (crawl : Bool). IsRightFor crawl c.in-Err.volume.plan c.in-Err.volume.log) c.in-Err.ensures.crawls c.every_line-in-Err.ensures.right
