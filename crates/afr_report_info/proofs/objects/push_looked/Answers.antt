use Rattle.std.proofs.Common.{◌≡◌, ◌++◌, ℕ, IfOk, OnOk, string_bytes, subst}
use Rattle.afr_choice.specs.declared.looked.Looked.{Looked}
use Rattle.afr_model.specs.ReportObjects.{splits_of}
use Rattle.afr_report_info.specs.Shown.{object_text}
use Rattle.afr_report_info.proofs.objects.push_looked.Goals as goal

pub returns-clause-ok : goal.returns-clause-ok
returns-clause-ok c =
    subst (λ (looked : Looked). OnOk c.push_object.result (string_bytes c.push_object.new.out ≡ string_bytes c.args.out.now ++ object_text c.args.plan.now looked c.args.among c.args.gfid))
    c.look.ensures c.push_object.ensures.ok

pub returns-clause-splits : goal.returns-clause-splits
returns-clause-splits c =
    subst (λ (looked : Looked). IfOk c.push_object.result (λ (count : ℕ). count ≡ splits_of c.args.plan.now looked)) c.look.ensures c.push_object.ensures.splits
