-- The plan, the log and the bricks are those of the volume.
use Rattle.std.proofs.Common.{◌≡◌, ◌∙◌, ◌<◌, ◌^◌, IfOk, List, ap, arith, length, reverse, string_bytes, subst, sym, true}
use Rattle.afr_lines.specs.Work.{ended}
use Rattle.afr_lines.specs.declared.line.Line.{Line}
use Rattle.afr_plan.specs.declared.plan.Plan.{Plan}
use Rattle.afr_report_info.proofs.VolumeLemmas.{handed_out}
use Rattle.afr_report.specs.Workers.{items_given, report_for}
use Rattle.afr_report.proofs.workers.of_volume.crawl_text.Goals as goal

pub items_given-items-requires-clause-rounds : goal.items_given-items-requires-clause-rounds
items_given-items-requires-clause-rounds c = c.count_works-all.ensures.rounds ∙ ap (ended 17) c.lines.ensures

pub print_crawl-requires-clause-crawler : goal.print_crawl-requires-clause-crawler
print_crawl-requires-clause-crawler c =
    let can = c.every_line.ensures.crawls c.requires.crawl in
    subst (λ (p : Plan). 0 < length p.healers) (sym c.plan.ensures) (omega (arith, can.healers))

pub print_crawl-requires-clause-second : goal.print_crawl-requires-clause-second
print_crawl-requires-clause-second c = c.count_works-all.ensures.second ∙ ap (ended 18) (c.lines.ensures ∙ sym c.lines-2.ensures)

pub print_crawl-requires-clause-third : goal.print_crawl-requires-clause-third
print_crawl-requires-clause-third c = c.count_works-all.ensures.third ∙ ap (ended 19) (c.lines.ensures ∙ sym c.lines-2.ensures)

pub print_crawl-requires-clause-items : goal.print_crawl-requires-clause-items
print_crawl-requires-clause-items c =
    c.items_given-items.ensures ∙ ap (λ (p : Plan). items_given p c.args.volume.now.log) (sym c.plan.ensures) ∙ ap (items_given c.plan.result.now) (sym c.lines-2.ensures)

pub returns : goal.returns
returns c =
    let held =
    handed_out c.args.volume.now.plan c.plan.result.now c.args.volume.now.log (reverse c.lines-2.result.now.items) c.reach.result c.servers.result.now
    c.plan.ensures c.lines-2.ensures c.reach.ensures c.servers.ensures.few c.servers.ensures.tables c.servers.ensures.started in
    record {
      ok =
          subst (λ (p : Plan). IfOk c.print_crawl.result (λ text. string_bytes text ≡ report_for true p c.args.volume.now.log)) c.plan.ensures
          (subst (λ (log : List Line). IfOk c.print_crawl.result (λ text. string_bytes text ≡ report_for true c.plan.result.now log)) c.lines-2.ensures
          (c.print_crawl.ensures.ok held));
    }
