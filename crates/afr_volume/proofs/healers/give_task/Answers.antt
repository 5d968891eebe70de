use Rattle.std.proofs.Common.{◌-◌, ap, set}
use Rattle.afr_healer.specs.declared.healer.Healer.{Healer}
use Rattle.afr_volume.proofs.HealerLemmas.{found_at}
use Rattle.afr_volume.proofs.healers.give_task.Goals as goal

pub returns-clause-ok : goal.returns-clause-ok
returns-clause-ok c = record {
  before = c.index_mut-healer.result.now;
  was = found_at _ _ _ c.requires.within c.index_mut-healer.ensures.value;
  set_is = ap (λ (z : Healer). set c.args.healers.now.items (c.args.a.0 - 17) z) c.in_ok-begin_task.ensures.ok;
}
