-- What was kept of a round that has ended is what it was given.
use Rattle.std.proofs.Common.{◌≡◌, ◌∙◌, ◌<◌, Some, ap, arith, reverse, sym, true}
use Rattle.std.proofs.lemmas.Option.{slice_get-get_or}
use Rattle.afr_lines.specs.Work.{ended}
use Rattle.afr_volume.proofs.HealerLemmas.{found_at}
use Rattle.afr_volume.proofs.ListLemmas.{crawler_ended, list_found, list_there, none_at}
use Rattle.afr_volume.proofs.volume.Volume.crawled.Goals as goal

pub returns-then-round-index : goal.returns-then-round-index
returns-then-round-index c =
    let crawls : c.self.inside.crawl ≡ true = rw (← c.self.view_is) at c.requires.crawl in
    let many = (c.self.invariant.whole.crawling crawls).can.healers in
    let there = found_at c.self.inside.healers.items 0 c.index.result.now (omega (arith, many, c.self.invariant.whole.healing.same)) c.index.ensures in
    let count = crawler_ended c.self.inside.plan (reverse c.self.inside.log.items) c.self.inside.servers c.self.inside.healers.items c.index.result.now c.self.invariant.whole.healing there in
    rw (← c.self.view_is) (none_at c.self.inside.plan (reverse c.self.inside.log.items) c.args.round (omega (arith, count, c.if-round-index.true)))

pub index-requires-2 : goal.index-requires-2
index-requires-2 c =
    let crawls : c.self.inside.crawl ≡ true = rw (← c.self.view_is) at c.requires.crawl in
    let many = (c.self.invariant.whole.crawling crawls).can.healers in
    let there = found_at c.self.inside.healers.items 0 c.index.result.now (omega (arith, many, c.self.invariant.whole.healing.same)) c.index.ensures in
    let count = crawler_ended c.self.inside.plan (reverse c.self.inside.log.items) c.self.inside.servers c.self.inside.healers.items c.index.result.now c.self.invariant.whole.healing there in
    let kept = list_there c.self.inside.plan (reverse c.self.inside.log.items) c.self.inside.lists.items (c.self.invariant.given crawls) in
    omega (arith, count, kept, c.if-round-index.false)

pub returns : goal.returns
returns c =
    let crawls : c.self.inside.crawl ≡ true = rw (← c.self.view_is) at c.requires.crawl in
    let many = (c.self.invariant.whole.crawling crawls).can.healers in
    let there = found_at c.self.inside.healers.items 0 c.index.result.now (omega (arith, many, c.self.invariant.whole.healing.same)) c.index.ensures in
    let count = crawler_ended c.self.inside.plan (reverse c.self.inside.log.items) c.self.inside.servers c.self.inside.healers.items c.index.result.now c.self.invariant.whole.healing there in
    let kept = list_there c.self.inside.plan (reverse c.self.inside.log.items) c.self.inside.lists.items (c.self.invariant.given crawls) in
    let small : c.args.round < ended 17 (reverse c.self.inside.log.items) = omega (arith, count, c.if-round-index.false) in
    rw (← c.self.view_is)
    (c.as_ref.ensures.value
    ∙ list_found c.self.inside.plan (reverse c.self.inside.log.items) c.self.inside.lists.items c.args.round c.index-2.result.now (c.self.invariant.given crawls) small
    (slice_get-get_or c.self.inside.lists.items c.args.round c.index-2.result.now (omega (arith, small, kept)) ∙ ap Some (sym c.index-2.ensures)))
