use Rattle.std.proofs.Common.{◌≡◌, ◌∙◌, IfOk, reverse, subst, sym, true≢false}
use Rattle.afr_trace_build.specs.Filling.{fill_with}
use Rattle.afr_trace_build.specs.declared.filling.Filled.{Filled}
use Rattle.afr_trace_build.specs.declared.showing.Shown.{Shown}
use Rattle.afr_trace_check.proofs.FillingLemmas.{stands_for_none}
use Rattle.afr_trace_check.proofs.filling.filled.Goals as goal

pub returns-then-not-asks_five : goal.returns-then-not-asks_five
returns-then-not-asks_five c =
    stands_for_none c.args.plan.now (reverse c.args.log.now) c.args.line.now c.args.contents.now c.requires.shape (λ five. true≢false (sym (c.asks_five.ensures.1 five) ∙ c.if-not-asks_five.true))

pub returns : goal.returns
returns c =
    subst (λ (known : Shown). IfOk c.fill.result (λ (f : Filled). f ≡ fill_with c.args.plan.now (reverse c.args.log.now) known (c.args.line.now, c.args.contents.now))) c.in_ok-shown.ensures c.fill.ensures.ok
