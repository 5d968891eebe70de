use Rattle.std.proofs.Common.{◌∙◌, refl, sym}
use Rattle.afr_trace_follow.proofs.HealLemmas.{index_is, no_index}
use Rattle.afr_trace_follow.proofs.KeepingLemmas.{as_well, never}
use Rattle.afr_trace_follow.proofs.rounds.asks_index.Goals as goal

pub returns-then-is_index : goal.returns-then-is_index
returns-then-is_index c = λ a told took.
    as_well c.same_brick.result _ _ (index_is c.args.b c.args.brick a c.args.request.now told took (sym c.is_index.ensures ∙ c.if-is_index.true)) c.same_brick.ensures

pub returns-else-is_index : goal.returns-else-is_index
returns-else-is_index c = λ a told took. never _ _ refl (no_index c.args.b c.args.brick a c.args.request.now told took (sym c.is_index.ensures ∙ c.if-is_index.false))
