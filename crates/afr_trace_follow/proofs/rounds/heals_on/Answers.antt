use Rattle.std.proofs.Common.{◌∙◌, refl, sym}
use Rattle.afr_trace_follow.proofs.HealLemmas.{heal_locked, heal_on, index_again, locked_healed}
use Rattle.afr_trace_follow.proofs.KeepingLemmas.{as_well, never}
use Rattle.afr_trace_follow.proofs.rounds.heals_on.Goals as goal

pub returns-then-is_index : goal.returns-then-is_index
returns-then-is_index c = λ list w a b told took e. never _ _ refl (index_again list w b a c.args.request.now told took (sym c.is_index.ensures ∙ c.if-is_index.true))

pub returns-in-Some : goal.returns-in-Some
returns-in-Some c = λ list w a b told took e.
    as_well c.is_of_heal.result _ _ (heal_locked list w b a c.args.request.now told took c.in-Some.g c.in-Some.ensures)
    (c.is_of_heal.ensures list w c.args.request.now e (locked_healed c.args.request.now c.in-Some.g c.in-Some.ensures))

pub returns-in-None : goal.returns-in-None
returns-in-None c = λ list w a b told took e.
    as_well c.is_left.result _ _ (heal_on list w b a c.args.request.now told took c.args.due (sym c.is_index.ensures ∙ c.if-is_index.false) c.in-None.ensures e) c.is_left.ensures
