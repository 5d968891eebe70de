use Rattle.std.proofs.Common.{◌≡◌, ℕ, List, IfOk, length, subst}
use Rattle.afr_base.specs.declared.ids.Gfid.{Gfid}
use Rattle.afr_base.specs.declared.ids.What.{What}
use Rattle.afr_report_info.proofs.ShownLemmas.{counts_are}
use Rattle.afr_report_info.proofs.counts.count_objects.Goals as goal

pub returns-clause-objects : goal.returns-clause-objects
returns-clause-objects c = λ log hold.
    subst (λ (objects : List (Gfid × What)). IfOk c.count_shown.result (λ counts. counts.objects ≡ length objects))
    (counts_are c.args.plan.now log c.args.started c.args.servers.now hold).0 c.count_shown.ensures.objects

pub returns-clause-splits : goal.returns-clause-splits
returns-clause-splits c = λ log hold.
    subst (λ (n : ℕ). IfOk c.count_shown.result (λ counts. counts.splits ≡ n)) (counts_are c.args.plan.now log c.args.started c.args.servers.now hold).1 c.count_shown.ensures.splits
