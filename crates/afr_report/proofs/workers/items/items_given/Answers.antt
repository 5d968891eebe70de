-- One round more, and all of them.
use Rattle.std.proofs.Common.{◌≡◌, ◌∙◌, ℕ, ap, arith, sym}
use Rattle.afr_model.specs.Crawl.{lists_by}
use Rattle.afr_report.proofs.ItemLemmas.{all_items, first_items, first_more, first_none}
use Rattle.afr_report.proofs.workers.items.items_given.Goals as goal

pub loop-round-init : goal.loop-round-init
loop-round-init c = record { items = sym (first_none (lists_by c.args.volume.now.plan c.args.volume.now.log)); few = omega arith }

pub loop-round-preserved : goal.loop-round-preserved
loop-round-preserved c =
    let inv = c.loop-round.invariant in
    record {
      items = omega (arith, inv.items, c.listed.ensures.value, first_more c.loop-round.round (lists_by c.args.volume.now.plan c.args.volume.now.log));
      few = omega (arith, inv.few, c.listed.ensures.few);
    }

pub overflow_add-items : goal.overflow_add-items
overflow_add-items c = omega (arith, c.loop-round.invariant.few, c.listed.ensures.few, c.loop-round-test.true)

pub returns : goal.returns
returns c =
    let all : c.loop-round.round ≡ c.args.rounds = omega arith in
    c.loop-round.invariant.items
    ∙ ap (λ (n : ℕ). first_items n (lists_by c.args.volume.now.plan c.args.volume.now.log)) all
    ∙ all_items c.args.volume.now.plan c.args.volume.now.log c.args.rounds c.requires.rounds
