-- What was crawled is the volume of the plan.
use Rattle.std.proofs.Common.{◌≡◌, ◌∙◌, ◌<◌, ◌^◌, [], inr, length, rules, sym, subst, true}
use Rattle.afr_plan.specs.declared.plan.Plan.{Plan}
use Rattle.afr_plan_print.specs.PrintedPlan.{plan_text}
use Rattle.afr_workers.specs.Crew.{IsCrawled}
use Rattle.afr_cli.proofs.EndLemmas.{unless_err}
use Rattle.afr_cli.proofs.RunLemmas.{ran_crawl, stops_crawl}
use Rattle.afr_cli.proofs.crawling.crawl_allowed.Goals as goal

pub tell_crawl-requires : goal.tell_crawl-requires
tell_crawl-requires g c =
    let set = unless_err c.set_to_crawl.result _ (search rules) c.set_to_crawl.ensures.ok in
    record {
      printed = subst (λ (p : Plan). length (plan_text p) < 2 ^ 32) (sym (c.crawled_volume.ensures.plan ∙ set.0)) c.requires.printed;
      form = c.crawled_volume.ensures.crawls ∙ sym c.requires.form;
      crawl = c.crawled_volume.ensures.crawls;
      complete = unless_err c.crawled_volume.result _ (search rules) c.crawled_volume.ensures.complete;
      tried = unless_err c.crawled_volume.result _ (search rules) c.crawled_volume.ensures.tried;
    }

pub returns-clause-ok : goal.returns-clause-ok
returns-clause-ok g c =
    let set = unless_err c.set_to_crawl.result _ (search rules) c.set_to_crawl.ensures.ok in
    let crawled : IsCrawled c.crawled_volume.new.volume = unless_err c.crawled_volume.result _ (search rules) c.crawled_volume.ensures.complete in
    λ e. (
      ran_crawl _ _ _ c.requires.form c.crawled_volume.ensures.crawls c.requires.can (c.crawled_volume.ensures.plan ∙ set.0) crawled.complete,
      c.tell_crawl.ensures.ok e,
      unless_err c.crawled_volume.result _ (search rules) c.crawled_volume.ensures.tried,
    )

pub returns-clause-unfinished : goal.returns-clause-unfinished
returns-clause-unfinished g c =
    let set = unless_err c.set_to_crawl.result _ (search rules) c.set_to_crawl.ensures.ok in
    let crawled : IsCrawled c.crawled_volume.new.volume = unless_err c.crawled_volume.result _ (search rules) c.crawled_volume.ensures.complete in
    λ e. let left = c.tell_crawl.ensures.unfinished e in
    (ran_crawl _ _ _ c.requires.form c.crawled_volume.ensures.crawls c.requires.can (c.crawled_volume.ensures.plan ∙ set.0) crawled.complete, left.0, left.1)

pub returns-clause-write : goal.returns-clause-write
returns-clause-write g c =
    let set = unless_err c.set_to_crawl.result _ (search rules) c.set_to_crawl.ensures.ok in
    let crawled : IsCrawled c.crawled_volume.new.volume = unless_err c.crawled_volume.result _ (search rules) c.crawled_volume.ensures.complete in
    λ e. let cut = c.tell_crawl.ensures.write e in
    (cut.0, stops_crawl _ _ _ _ _ (ran_crawl _ _ _ c.requires.form c.crawled_volume.ensures.crawls c.requires.can (c.crawled_volume.ensures.plan ∙ set.0) crawled.complete) c.crawled_volume.ensures.crawls cut.2 cut.1)

pub returns-clause-none : goal.returns-clause-none
returns-clause-none g c =
    let set = unless_err c.set_to_crawl.result _ (search rules) c.set_to_crawl.ensures.ok in
    inr (c.crawled_volume.ensures.plan ∙ set.0, c.crawled_volume.ensures.crawls)
