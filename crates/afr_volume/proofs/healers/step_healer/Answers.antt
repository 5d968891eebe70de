use Rattle.std.proofs.Common.{refl}
use Rattle.afr_volume.proofs.HealerLemmas.{found_at}
use Rattle.afr_volume.proofs.healers.step_healer.Goals as goal

pub step_round-requires-clause-busy : goal.step_round-requires-clause-busy
step_round-requires-clause-busy g c = (c.requires.busy c.index_mut-healer.result.now (found_at _ _ _ c.requires.within c.index_mut-healer.ensures.value)).0

pub step_round-requires-clause-room : goal.step_round-requires-clause-room
step_round-requires-clause-room g c = (c.requires.busy c.index_mut-healer.result.now (found_at _ _ _ c.requires.within c.index_mut-healer.ensures.value)).1

pub step_round-requires-clause-can : goal.step_round-requires-clause-can
step_round-requires-clause-can g c = c.requires.can c.index_mut-healer.result.now (found_at _ _ _ c.requires.within c.index_mut-healer.ensures.value)

pub returns-clause-ok : goal.returns-clause-ok
returns-clause-ok g c = record {
  line = c.in_ok-step_round.ensures.ok.line;
  added = c.in_ok-step_round.ensures.ok.added;
  is_so = record {
    before = c.index_mut-healer.result.now;
    after = c.step_round.new.healer;
    was = found_at _ _ _ c.requires.within c.index_mut-healer.ensures.value;
    steps = c.in_ok-step_round.ensures.ok.is_so;
    set_is = refl;
  };
}
