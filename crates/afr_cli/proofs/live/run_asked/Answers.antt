-- A crawl, and a run by threads.
use Rattle.std.proofs.Common.{◌∙◌, inl, sym, true≢false}
use Rattle.afr_cli.proofs.ActorLemmas.{all_plain}
use Rattle.afr_cli.proofs.RecordLemmas.{ended_has}
use Rattle.afr_cli.proofs.RunLemmas.{eager_crawl, few_more, left_crawl, left_live, no_plain, none_crawl, none_live, ran_live, stops_live}
use Rattle.afr_cli.proofs.live.run_asked.Goals as goal

pub crawl_plan-requires-clause-form : goal.crawl_plan-requires-clause-form
crawl_plan-requires-clause-form g c = λ κs within. sym c.crawls.ensures ∙ c.if-crawls.true

pub run_live-requires-clause-form : goal.run_live-requires-clause-form
run_live-requires-clause-form g c = λ κs within. sym c.crawls.ensures ∙ c.if-crawls.false

-- ---- a crawl
pub returns-then-crawls-clause-none : goal.returns-then-crawls-clause-none
returns-then-crawls-clause-none g c = none_crawl _ _ _ (sym c.crawls.ensures ∙ c.if-crawls.true) c.crawl_plan.ensures.none

pub returns-then-crawls-clause-ok : goal.returns-then-crawls-clause-ok
returns-then-crawls-clause-ok g c = λ e. let ran = c.crawl_plan.ensures.ok e in (ran.0, all_plain c.crawl_plan.new.volume ran.1.done)

pub returns-then-crawls-clause-crawled : goal.returns-then-crawls-clause-crawled
returns-then-crawls-clause-crawled g c = λ e crawl. let ran = c.crawl_plan.ensures.ok e in (ran.1, ran.2)

pub returns-then-crawls-clause-unfinished : goal.returns-then-crawls-clause-unfinished
returns-then-crawls-clause-unfinished g c = λ e. let ran = c.crawl_plan.ensures.unfinished e in
    (ran.0, ran.1, left_crawl _ (ran.0.crawl ∙ sym c.crawls.ensures ∙ c.if-crawls.true) ran.2)

pub returns-then-crawls-clause-short : goal.returns-then-crawls-clause-short
returns-then-crawls-clause-short g c = λ e plain. no_plain _ _ _ (sym c.crawls.ensures ∙ c.if-crawls.true) (c.crawl_plan.ensures.unfinished e).0 plain

pub returns-then-crawls-clause-refused : goal.returns-then-crawls-clause-refused
returns-then-crawls-clause-refused g c = λ e. let told = c.crawl_plan.ensures.refused e in (sym c.crawls.ensures ∙ c.if-crawls.true, told.0, told.1, told.2)

pub returns-then-crawls-clause-eager : goal.returns-then-crawls-clause-eager
returns-then-crawls-clause-eager g c = eager_crawl c.args.form _ _ c.crawl_plan.ensures.none

-- ---- a run by threads
pub returns-else-crawls-clause-few : goal.returns-else-crawls-clause-few
returns-else-crawls-clause-few g c = few_more _ c.run_live.ensures.few

pub returns-else-crawls-clause-none : goal.returns-else-crawls-clause-none
returns-else-crawls-clause-none g c = none_live _ _ _ (sym c.crawls.ensures ∙ c.if-crawls.false) c.run_live.ensures.plain c.run_live.ensures.plan

pub returns-else-crawls-clause-ok : goal.returns-else-crawls-clause-ok
returns-else-crawls-clause-ok g c = λ e. let ran = c.run_live.ensures.ok e in
    (ran_live _ _ _ (sym c.crawls.ensures ∙ c.if-crawls.false) c.run_live.ensures.plain (c.run_live.ensures.ran (λ h. cc)) ran.0, ran.1)

pub returns-else-crawls-clause-crawled : goal.returns-else-crawls-clause-crawled
returns-else-crawls-clause-crawled g c = λ e crawl. absurd (true≢false (sym crawl ∙ c.run_live.ensures.plain))

pub returns-else-crawls-clause-text : goal.returns-else-crawls-clause-text
returns-else-crawls-clause-text g c = ended_has _ c.run_live.ensures.text (λ e. (c.run_live.ensures.unfinished e).0)

pub returns-else-crawls-clause-unfinished : goal.returns-else-crawls-clause-unfinished
returns-else-crawls-clause-unfinished g c = λ e. let ran = c.run_live.ensures.unfinished e in
    (ran_live _ _ _ (sym c.crawls.ensures ∙ c.if-crawls.false) c.run_live.ensures.plain (c.run_live.ensures.ran (λ h. cc)) (inl ran.1), ran.1, left_live _ c.run_live.ensures.plain ran.2)

pub returns-else-crawls-clause-short : goal.returns-else-crawls-clause-short
returns-else-crawls-clause-short g c = λ e plain. c.run_live.ensures.short e

pub returns-else-crawls-clause-write : goal.returns-else-crawls-clause-write
returns-else-crawls-clause-write g c = λ e. let cut = c.run_live.ensures.write e in
    (cut.0, stops_live _ _ _ _ _ (ran_live _ _ _ (sym c.crawls.ensures ∙ c.if-crawls.false) c.run_live.ensures.plain (c.run_live.ensures.ran (λ h. cc)) cut.2) c.run_live.ensures.plain cut.3 cut.1)

pub returns-else-crawls-clause-eager : goal.returns-else-crawls-clause-eager
returns-else-crawls-clause-eager g c = λ plain. c.run_live.ensures.eager
