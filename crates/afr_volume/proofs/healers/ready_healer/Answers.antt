use Rattle.std.proofs.Common.{◌≡◌, ◌-◌, None, subst, sym}
use Rattle.afr_healer.specs.declared.healer.Healer.{Healer}
use Rattle.afr_volume.proofs.HealerLemmas.{found_at, readied, same_at}
use Rattle.afr_volume.proofs.healers.ready_healer.Goals as goal

pub present_brick-brick-requires-clause-left : goal.present_brick-brick-requires-clause-left
present_brick-brick-requires-clause-left c = c.requires.left c.index.result.now (found_at _ _ _ c.requires.within c.index.ensures)

pub ready_round-requires-clause-within : goal.ready_round-requires-clause-within
ready_round-requires-clause-within c = λ idle.
    c.requires.rounds c.index.result.now.ended c.present_brick-brick.result
    (c.present_brick-brick.ensures (subst (λ (x : Healer). x.round ≡ None) (sym (same_at c.args.healers.now.items (c.args.a.0 - 17) c.index.result.now c.index_mut.result.now c.requires.within c.index.ensures c.index_mut.ensures.value)) idle))

pub returns-clause-ok : goal.returns-clause-ok
returns-clause-ok c = readied c.args.crawl c.args.plan.now c.args.a.0 c.args.healers.now.items c.index.result.now c.index_mut.result.now c.ready_round.new.healer c.present_brick-brick.result c.requires.within c.index.ensures c.index_mut.ensures.value c.present_brick-brick.ensures c.in_ok-ready_round.ensures.ok
