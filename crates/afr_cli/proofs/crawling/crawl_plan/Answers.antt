-- A plan that can be crawled, and one that can't.
use Rattle.afr_cli.proofs.RecordLemmas.{ended_has}
use Rattle.afr_cli.proofs.RunLemmas.{few_more, never_eight, stops_refusal}
use Rattle.afr_cli.proofs.StatusLemmas.{other_status}
use Rattle.afr_cli.proofs.crawling.crawl_plan.Goals as goal

pub returns-then-can_crawl-clause-few : goal.returns-then-can_crawl-clause-few
returns-then-can_crawl-clause-few g c = few_more _ c.crawl_allowed.ensures.few

pub returns-then-can_crawl-clause-refused : goal.returns-then-can_crawl-clause-refused
returns-then-can_crawl-clause-refused g c = λ e. absurd (never_eight _ c.crawl_allowed.ensures.few e)

pub returns-else-can_crawl-clause-ok : goal.returns-else-can_crawl-clause-ok
returns-else-can_crawl-clause-ok g c = λ e. absurd (other_status _ _ 0 _ c.answer.ensures.whole (λ h. cc) (λ h. cc) e)

pub returns-else-can_crawl-clause-text : goal.returns-else-can_crawl-clause-text
returns-else-can_crawl-clause-text g c = ended_has _ (λ e. absurd (other_status _ _ 0 _ c.answer.ensures.whole (λ h. cc) (λ h. cc) e)) (λ e. absurd (other_status _ _ 7 _ c.answer.ensures.whole (λ h. cc) (λ h. cc) e))

pub returns-else-can_crawl-clause-unfinished : goal.returns-else-can_crawl-clause-unfinished
returns-else-can_crawl-clause-unfinished g c = λ e. absurd (other_status _ _ 7 _ c.answer.ensures.whole (λ h. cc) (λ h. cc) e)

pub returns-else-can_crawl-clause-refused : goal.returns-else-can_crawl-clause-refused
returns-else-can_crawl-clause-refused g c = λ e. (c.can_crawl.ensures.no c.if-can_crawl.false, (c.answer.ensures.whole (λ h. cc)).1, c.requires.fresh)

pub returns-else-can_crawl-clause-write : goal.returns-else-can_crawl-clause-write
returns-else-can_crawl-clause-write g c = λ e. let cut = c.answer.ensures.fault e in (cut.0, stops_refusal _ _ _ _ _ c.requires.form (c.can_crawl.ensures.no c.if-can_crawl.false) c.requires.fresh cut.1)
