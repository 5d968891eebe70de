use Rattle.std.proofs.Common.{◌∙◌, reverse, sym}
use Rattle.afr_lines.specs.Work.{work}
use Rattle.afr_trace_follow.proofs.HealLemmas.{due_is, first_line, later_line}
use Rattle.afr_trace_follow.proofs.KeepingLemmas.{as_well}
use Rattle.afr_trace_follow.proofs.rounds.keeps_to_list.Goals as goal

pub returns-then-begun : goal.returns-then-begun
returns-then-begun c =
    let w = work c.args.a.0 (reverse c.args.log.now) in
    as_well c.heals_in_turn.result _ _ (later_line c.args.b c.args.list.now c.args.line.now w (sym c.heals_made-at.ensures.begun ∙ c.if-begun.true))
    (c.heals_in_turn.ensures c.args.list.now w
    (due_is c.args.list.now c.args.a.0 (reverse c.args.log.now) c.heals_made-at.result c.nth_heal.result c.heals_made-at.ensures c.nth_heal.ensures))

pub returns-else-begun : goal.returns-else-begun
returns-else-begun c =
    as_well c.begins_round.result _ _
    (first_line c.args.b c.args.list.now c.args.line.now (work c.args.a.0 (reverse c.args.log.now)) (sym c.heals_made-at.ensures.begun ∙ c.if-begun.false)) c.begins_round.ensures
