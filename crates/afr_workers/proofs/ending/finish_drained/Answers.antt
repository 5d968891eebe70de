-- A full log ends the crawl; else every task was taken, and what the workers were given are the items that were put.
use Rattle.std.proofs.Common.{◌≡◌, arith, inl, inr}
use Rattle.afr_tasks.specs.Exchange.{queued_in}
use Rattle.afr_workers.proofs.EndingLemmas.{crew_of_shop, full_crawled, full_tried}
use Rattle.afr_workers.proofs.ending.finish_drained.Goals as goal

pub returns-then-is_full-clause-crawls : goal.returns-then-is_full-clause-crawls
returns-then-is_full-clause-crawls g c = c.requires.shop.placed.crawls

pub returns-then-is_full-clause-complete : goal.returns-then-is_full-clause-complete
returns-then-is_full-clause-complete g c = full_crawled c.args.shop.volume (c.is_full.ensures.full c.if-is_full.true)

pub returns-then-is_full-clause-tried : goal.returns-then-is_full-clause-tried
returns-then-is_full-clause-tried g c = full_tried c.args.shop.volume (c.is_full.ensures.full c.if-is_full.true)

pub all_are_taken-requires : goal.all_are_taken-requires
all_are_taken-requires g c =
    let room = c.is_full.ensures.room c.if-is_full.false in
    elim c.requires.drained as (λ _. queued_in c.args.shop.tasks ≡ 0) [ inl full ↦ absurd (omega (arith, full, room)) | inr none ↦ none ]

pub give_rest-requires-clause-crew : goal.give_rest-requires-clause-crew
give_rest-requires-clause-crew g c = crew_of_shop c.args.shop c.requires.shop c.all_are_taken.ensures c.requires.memory (c.is_full.ensures.room c.if-is_full.false)
