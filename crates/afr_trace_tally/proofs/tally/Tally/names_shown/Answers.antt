use Rattle.std.proofs.Common.{◌≡◌, ◌∙◌, IfOk, List, reverse, subst}
use Rattle.afr_base.specs.declared.ids.NameId.{NameId}
use Rattle.afr_object.specs.Repairs.{Nothing}
use Rattle.afr_object.specs.declared.entry.Entry.{Entry}
use Rattle.afr_trace_tally.specs.Contents.{contents_seen}
use Rattle.afr_trace_tally.proofs.TableLemmas.{names_told}
use Rattle.afr_trace_tally.proofs.tally.Tally.names_shown.Goals as goal

pub returns-in-Some : goal.returns-in-Some
returns-in-Some c =
    subst (λ (w : List (NameId × Entry)). IfOk c.names_in.result (λ (names : List (NameId × Entry)). names ≡ w))
    (names_told c.args.plan.now (reverse c.args.log.now) c.args.self.now.shown.items c.as_slice.result.now c.args.position (contents_seen c.in-Some.kept.now) c.as_slice.ensures.value c.requires.tally.shown c.in-Some.ensures) c.names_in.ensures

pub returns-in-None : goal.returns-in-None
returns-in-None c =
    c.new.ensures
    ∙ names_told c.args.plan.now (reverse c.args.log.now) c.args.self.now.shown.items c.as_slice.result.now c.args.position Nothing c.as_slice.ensures.value c.requires.tally.shown c.in-None.ensures
