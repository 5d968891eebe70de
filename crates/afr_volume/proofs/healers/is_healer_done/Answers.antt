use Rattle.afr_volume.proofs.HealerLemmas.{healer_ended}
use Rattle.afr_volume.proofs.healers.is_healer_done.Goals as goal

pub returns : goal.returns
returns c = λ x is.
    healer_ended c.args.crawl c.args.plan.now c.args.a.0 c.args.healers.now.items c.index-healer.result.now x c.item.result.now c.len-rounds.result c.is_at_task-tasked.result c.has_ended.result c.requires.low c.requires.within c.index-healer.ensures is c.item.ensures c.len-rounds.ensures c.is_at_task-tasked.ensures
    c.has_ended.ensures
