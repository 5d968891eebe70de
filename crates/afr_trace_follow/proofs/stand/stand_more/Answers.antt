use Rattle.std.proofs.Common.{◌∙◌, ap, arith, reverse, take}
use Rattle.afr_lines.specs.Work.{Work}
use Rattle.afr_model.specs.Showing.{Path}
use Rattle.afr_model.specs.Standing.{kept_at}
use Rattle.afr_trace_follow.proofs.LogLemmas.{length_before, shown_at}
use Rattle.afr_trace_follow.proofs.PartLemmas.{from_no, from_yes}
use Rattle.afr_trace_follow.proofs.StandLemmas.{at_more, few_weaker}
use Rattle.afr_trace_follow.specs.Seen.{path_seen}
use Rattle.afr_trace_follow.specs.Stands.{IsAt}
use Rattle.afr_trace_follow.proofs.stand.stand_more.Goals as goal

pub returns-then-is_from-clause-at : goal.returns-then-is_from-clause-at
returns-then-is_from-clause-at c = λ w v.
    let older = reverse (take c.args.position c.args.log.now) in
    let shown = shown_at c.args.plan.now c.args.log.now c.args.position c.args.line.now c.entry_shown-entry.result c.requires.within c.requires.here c.entry_shown-entry.ensures in
    from_yes (λ (u : Work). IsAt c.args.plan.now c.args.names u c.stand_after.result) c.args.a.0 c.args.from c.args.position c.args.line.now older w c.is_from.result c.is_from.ensures
    (length_before c.args.log.now c.args.position (omega (arith, c.requires.within))) c.if-is_from.true
    (at_more c.args.plan.now c.args.names c.args.line.now older w c.args.was c.stand_after.result (c.stand_after.ensures.path ∙ shown (path_seen c.args.was.path))
    (c.stand_after.ensures.place ∙ ap (λ (x : Path). kept_at c.args.names (path_seen c.args.was.place) x) (shown (path_seen c.args.was.place))) c.stand_after.ensures.begun v)

pub returns-else-is_from-clause-at : goal.returns-else-is_from-clause-at
returns-else-is_from-clause-at c = λ w v.
    from_no (λ (u : Work). IsAt c.args.plan.now c.args.names u c.args.was) c.args.a.0 c.args.from c.args.position c.args.line.now (reverse (take c.args.position c.args.log.now)) w c.is_from.result c.is_from.ensures
    (length_before c.args.log.now c.args.position (omega (arith, c.requires.within))) c.if-is_from.false v

pub returns-else-is_from-clause-few : goal.returns-else-is_from-clause-few
returns-else-is_from-clause-few c = λ n f. few_weaker n _ c.args.was (omega arith) f
