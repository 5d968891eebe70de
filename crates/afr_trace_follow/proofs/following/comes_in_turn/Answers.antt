use Rattle.afr_trace_follow.proofs.KeepingLemmas.{both}
use Rattle.afr_trace_follow.proofs.following.comes_in_turn.Goals as goal

pub returns : goal.returns
returns c = both c.both.result c.has_turn-turn.result c.none_due-none.result _ _ c.both.ensures c.has_turn-turn.ensures c.none_due-none.ensures
