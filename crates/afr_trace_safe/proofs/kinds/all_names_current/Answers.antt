use Rattle.std.proofs.Common.{◌∙◌, ap, length, reverse, sym}
use Rattle.std.proofs.lemmas.List.{length-reverse}
use Rattle.afr_model.specs.Tables.{names_in}
use Rattle.afr_object.specs.State.{Copies}
use Rattle.afr_object.specs.Tables.{copy_at}
use Rattle.afr_trace_safe.proofs.OutsideLemmas.{names_all}
use Rattle.afr_trace_safe.proofs.kinds.all_names_current.Goals as goal

pub returns : goal.returns
returns c =
    names_all c.args.plan.now (reverse c.args.log.now) c.args.b.0 c.args.g (length c.args.log.now) c.args.attempts.now (sym (length-reverse c.args.log.now)) c.requires.attempts c.as_slice.result.now c.as_slice-2.result.now c.in_ok-one.one c.in_ok-two.two
    c.in_ok-three.three c.all_three.result (c.as_slice.ensures ∙ c.in_ok-here.ensures ∙ ap (λ (t : Copies). names_in (copy_at c.args.g t.objects)) c.tables.ensures)
    (c.as_slice-2.ensures ∙ c.in_ok-opened.ensures ∙ ap (λ (t : Copies). names_in (copy_at c.args.g t.objects)) c.tables-2.ensures) c.all_three.ensures c.in_ok-one.ensures c.in_ok-two.ensures c.in_ok-three.ensures
