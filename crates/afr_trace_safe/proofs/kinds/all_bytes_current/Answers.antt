use Rattle.std.proofs.Common.{◌∙◌, List, ℕ, ap, arith, length, reverse, sym}
use Rattle.std.proofs.lemmas.List.{length-reverse}
use Rattle.afr_model.specs.Tables.{content_in}
use Rattle.afr_object.specs.State.{Copies}
use Rattle.afr_object.specs.Tables.{copy_at}
use Rattle.afr_trace_safe.proofs.OutsideLemmas.{bytes_all}
use Rattle.afr_trace_safe.proofs.kinds.all_bytes_current.Goals as goal

pub are_bytes_current-yes-requires-clause-here : goal.are_bytes_current-yes-requires-clause-here
are_bytes_current-yes-requires-clause-here c = c.as_slice-here.ensures ∙ c.in_ok-bytes.ensures ∙ ap (λ (t : Copies). content_in (copy_at c.args.g t.objects)) c.tables.ensures

pub are_bytes_current-yes-requires-clause-opened : goal.are_bytes_current-yes-requires-clause-opened
are_bytes_current-yes-requires-clause-opened c = c.as_slice-opened.ensures ∙ c.in_ok-opening.ensures ∙ ap (λ (t : Copies). content_in (copy_at c.args.g t.objects)) c.tables-2.ensures

pub returns : goal.returns
returns c =
    let here = c.as_slice-here.ensures ∙ c.in_ok-bytes.ensures ∙ ap (λ (t : Copies). content_in (copy_at c.args.g t.objects)) c.tables.ensures in
    let opened = c.as_slice-opened.ensures ∙ c.in_ok-opening.ensures ∙ ap (λ (t : Copies). content_in (copy_at c.args.g t.objects)) c.tables-2.ensures in
    bytes_all c.args.plan.now (reverse c.args.log.now) c.args.b.0 c.args.g (length c.args.log.now) c.args.attempts.now (sym (length-reverse c.args.log.now)) c.requires.attempts c.furthest-end.result c.are_bytes_current-yes.result
    (omega (arith, c.furthest-end.ensures.least, ap (λ (t : List ℕ). length t) here)) (omega (arith, c.furthest-end.ensures.least, ap (λ (t : List ℕ). length t) opened)) c.furthest-end.ensures.each c.are_bytes_current-yes.ensures
