use Rattle.std.proofs.Common.{◌+◌, ◌∙◌, reverse, subst, sym, take}
use Rattle.afr_lines.specs.Work.{Work}
use Rattle.afr_model.specs.Showing.{begins_attempt}
use Rattle.afr_model.specs.Standing.{asks_name}
use Rattle.afr_trace_follow.proofs.AskedLemmas.{cons_is, few_after, few_more, given_at}
use Rattle.afr_trace_follow.proofs.PartLemmas.{work_ended, work_moved, work_passed}
use Rattle.afr_trace_follow.specs.Asked.{IsAsked}
use Rattle.afr_trace_follow.proofs.asked.asked_more.Goals as goal

pub returns-then-not-is_of-clause-at : goal.returns-then-not-is_of-clause-at
returns-then-not-is_of-clause-at c = λ v.
    subst (λ (w : Work). IsAsked c.args.plan.now (c.args.one + c.args.other) w c.args.was) (sym (work_passed c.args.a.0 c.args.line.now (reverse (take c.args.position c.args.log.now)) (sym c.is_of.ensures ∙ c.if-not-is_of.true))) v

pub returns-then-not-is_of-clause-few : goal.returns-then-not-is_of-clause-few
returns-then-not-is_of-clause-few c = few_more c.args.position c.args.was c.requires.asked

pub returns-then-is_end-clause-at : goal.returns-then-is_end-clause-at
returns-then-is_end-clause-at c = λ v.
    subst (λ (w : Work). IsAsked c.args.plan.now (c.args.one + c.args.other) w c.none_asked.result)
    (sym (work_ended c.args.a.0 c.args.line.now (reverse (take c.args.position c.args.log.now)) (sym c.is_of.ensures ∙ c.if-not-is_of.false) (sym c.is_end.ensures ∙ c.if-is_end.true)))
    (c.none_asked.ensures.at c.args.plan.now (c.args.one + c.args.other))

pub returns-then-is_end-clause-few : goal.returns-then-is_end-clause-few
returns-then-is_end-clause-few c = c.none_asked.ensures.few (c.args.position + 1)

pub returns-clause-at : goal.returns-clause-at
returns-clause-at c = λ v.
    let older = reverse (take c.args.position c.args.log.now) in
    subst (λ (w : Work). IsAsked c.args.plan.now (c.args.one + c.args.other) w c.asked_after.result)
    (sym (work_moved c.args.a.0 c.args.line.now older (sym c.is_of.ensures ∙ c.if-not-is_of.false) (sym c.is_end.ensures ∙ c.if-is_end.false)))
    (cons_is c.args.plan.now (c.args.one + c.args.other) c.args.line.now older _ c.args.was c.asked_after.result c.entry_shown-entry.result c.asked_after.ensures.names c.asked_after.ensures.dir c.asked_after.ensures.entry
    c.asked_after.ensures.begun (given_at c.args.plan.now c.args.log.now c.args.position c.args.line.now c.entry_shown-entry.result c.requires.within c.requires.here c.entry_shown-entry.ensures) v)

pub returns-clause-few : goal.returns-clause-few
returns-clause-few c =
    few_after c.args.position (asks_name c.args.line.now) (begins_attempt c.args.line.now) c.args.was c.asked_after.result c.asked_after.ensures.names c.asked_after.ensures.begun c.requires.asked
