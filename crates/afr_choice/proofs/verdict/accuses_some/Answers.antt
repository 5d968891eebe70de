use Rattle.std.proofs.Common.{sym, ◌∙◌}
use Rattle.std.proofs.lemmas.Bool.{not-false}
use Rattle.afr_choice.proofs.Unaccused.{none_above}
use Rattle.afr_choice.proofs.verdict.accuses_some.Goals as goal

pub returns-in-Some : goal.returns-in-Some
returns-in-Some c = λ no b l.
    let zero = sym c.accuses_nobody.ensures.test ∙ not-false c.accuses_nobody.result no in
    rw (c.in-Some.is, ← c.marks_shown.ensures) (none_above c.marks_shown.result.now.pending zero b)
