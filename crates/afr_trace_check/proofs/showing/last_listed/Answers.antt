use Rattle.std.proofs.Common.{◌≡◌, ◌∙◌, IfOk, List, reverse, subst, sym}
use Rattle.afr_base.specs.declared.ids.NameId.{NameId}
use Rattle.afr_object.specs.declared.entry.Entry.{Entry}
use Rattle.afr_trace_check.proofs.ShownLemmas.{listed_none, listed_some}
use Rattle.afr_trace_check.proofs.showing.last_listed.Goals as goal

pub returns-in-Some : goal.returns-in-Some
returns-in-Some c =
    subst (λ (w : List (NameId × Entry)). IfOk c.names_shown.result (λ (names : List (NameId × Entry)). names ≡ w))
    (listed_some c.args.plan.now c.args.a.0 (reverse c.args.log.now) c.in-Some.position (sym c.in-Some.ensures)) c.names_shown.ensures

pub returns-in-None : goal.returns-in-None
returns-in-None c = c.new.ensures ∙ sym (listed_none c.args.plan.now c.args.a.0 (reverse c.args.log.now) (sym c.in-None.ensures))
