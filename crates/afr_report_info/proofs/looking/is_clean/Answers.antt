use Rattle.std.proofs.Common.{sym, ◌∙◌, arith}
use Rattle.afr_base.specs.Marks.{is_zero_marks}
use Rattle.afr_choice.specs.Looks.{view_at}
use Rattle.afr_choice.specs.Verdict.{is_holder}
use Rattle.afr_model.specs.Healing.{marks_in}
use Rattle.afr_base.proofs.FiveLemmas.{five_pass, one_of_five_fails}
use Rattle.afr_report_info.proofs.looking.is_clean.Goals as goal

pub returns-then-is_marked : goal.returns-then-is_marked
returns-then-is_marked c =
    sym (one_of_five_fails (is_holder c.args.looked.now) (λ b. is_zero_marks (marks_in c.args.kind (view_at b c.args.looked.now))) c.loop-brick.brick (omega arith)
    (sym c.is_marked.ensures ∙ c.if-is_marked.true))

pub returns : goal.returns
returns c =
    sym (five_pass (is_holder c.args.looked.now) (λ b. is_zero_marks (marks_in c.args.kind (view_at b c.args.looked.now))) (λ k l. c.loop-brick.invariant k (omega arith)))
