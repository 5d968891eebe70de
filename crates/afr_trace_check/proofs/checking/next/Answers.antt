use Rattle.std.proofs.Common.{◌≡◌, ◌∙◌, List, ap, reverse, sym}
use Rattle.afr_lines.specs.declared.line.Line.{Line}
use Rattle.afr_trace_build.specs.Filling.{fill}
use Rattle.afr_trace_build.specs.declared.filling.Filled.TheVariants as filled
use Rattle.afr_trace_check.proofs.FoundLemmas.{outcome_filled, right_now}
use Rattle.afr_trace_check.proofs.PieceLemmas.{filled_fits, filled_known}
use Rattle.afr_trace_check.proofs.RoomLemmas.{has_room}
use Rattle.afr_trace_check.specs.Taken.{log_of}
use Rattle.afr_trace_read.specs.Seen.{seen_line}
use Rattle.afr_trace_check.proofs.checking.next.Goals as goal

pub take-requires-clause-known : goal.take-requires-clause-known
take-requires-clause-known c =
    let eq : fill c.args.plan.now (reverse c.args.taken.now.log.items) (seen_line c.args.spelled.now) ≡ filled.Stands c.in-Stands.line =
    ap (λ (xs : List Line). fill c.args.plan.now (reverse xs) (seen_line c.args.spelled.now)) (sym c.as_slice.ensures.value) ∙ sym c.in_ok-line.ensures ∙ c.in-Stands.is in
    filled_known c.args.plan.now (reverse c.args.taken.now.log.items) (seen_line c.args.spelled.now) c.in-Stands.line c.requires.shape c.requires.actors eq

pub take-requires-clause-room : goal.take-requires-clause-room
take-requires-clause-room c =
    let eq : fill c.args.plan.now (reverse c.args.taken.now.log.items) (seen_line c.args.spelled.now) ≡ filled.Stands c.in-Stands.line =
    ap (λ (xs : List Line). fill c.args.plan.now (reverse xs) (seen_line c.args.spelled.now)) (sym c.as_slice.ensures.value) ∙ sym c.in_ok-line.ensures ∙ c.in-Stands.is in
    let older = reverse c.args.taken.now.log.items in
    has_room c.args.plan.now c.in-Stands.line older c.requires.short (right_now c.args.plan.now older c.requires.right).follows (filled_fits c.args.plan.now older (seen_line c.args.spelled.now) c.in-Stands.line eq)

pub returns-in-Stands-clause-outcome : goal.returns-in-Stands-clause-outcome
returns-in-Stands-clause-outcome c =
    let eq : fill c.args.plan.now (reverse c.args.taken.now.log.items) (seen_line c.args.spelled.now) ≡ filled.Stands c.in-Stands.line =
    ap (λ (xs : List Line). fill c.args.plan.now (reverse xs) (seen_line c.args.spelled.now)) (sym c.as_slice.ensures.value) ∙ sym c.in_ok-line.ensures ∙ c.in-Stands.is in
    let older = reverse c.args.taken.now.log.items in
    outcome_filled c.args.plan.now older (log_of c.take.new.taken) (filled.Stands c.in-Stands.line) (fill c.args.plan.now older (seen_line c.args.spelled.now)) c.take.result (sym eq) c.take.ensures.outcome
