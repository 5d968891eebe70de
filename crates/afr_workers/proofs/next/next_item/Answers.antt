-- A round with no item behind the place is passed over.
use Rattle.std.proofs.Common.{◌∙◌, arith, refl}
use Rattle.afr_model.specs.Crawl.{lists_by}
use Rattle.afr_workers.proofs.GivenLemmas.{few_lines, few_rounds}
use Rattle.afr_workers.proofs.PlaceLemmas.{last_from, next_round}
use Rattle.afr_workers.proofs.next.next_item.Goals as goal

pub item-requires : goal.item-requires
item-requires c = let many = (c.every_line.ensures.crawls c.requires).healers in rw c.plan.ensures (omega (arith, many))

pub loop-round-init : goal.loop-round-init
loop-round-init c = refl

pub loop-round-preserved : goal.loop-round-preserved
loop-round-preserved c = next_round c.loop-round.round c.loop-round.at (lists_by c.args.volume.now.plan c.args.volume.now.log) (c.in-None.ensures.none refl) ∙ c.loop-round.invariant

pub returns-then-round-rounds-clause-none : goal.returns-then-round-rounds-clause-none
returns-then-round-rounds-clause-none c = λ e.
    let most = few_rounds c.args.volume.now.crawl c.args.volume.now.plan c.args.volume.now.log c.item.result.now c.requires c.every_line.ensures.right.follows c.every_line.ensures.clients (rw c.plan.ensures at c.item.ensures) in
    last_from (lists_by c.args.volume.now.plan c.args.volume.now.log) c.args.from_round c.args.from_at c.loop-round.round c.loop-round.at c.loop-round.invariant (omega (arith, most, c.len-rounds.ensures, c.if-round-rounds.true))

pub returns-in-Some-clause-some : goal.returns-in-Some-clause-some
returns-in-Some-clause-some c =
    let there = c.in-Some.ensures.some in
    record { list = there.list; given = there.given; there = there.there; same = c.loop-round.invariant }

pub returns-clause-none : goal.returns-clause-none
returns-clause-none c = λ e.
    let most = few_lines c.args.volume.now.plan c.args.volume.now.log in
    last_from (lists_by c.args.volume.now.plan c.args.volume.now.log) c.args.from_round c.args.from_at c.loop-round.round c.loop-round.at c.loop-round.invariant (omega (arith, most, c.len-round-end.ensures, c.loop-round-test.false))
