use Rattle.std.proofs.Common.{◌≡◌}
use Rattle.std.proofs.lemmas.Result.{IfOk-weaker}
use Rattle.afr_plan.specs.declared.plan.Plan.{Plan}
use Rattle.afr_plan.specs.PlanOf.{plan_of}
use Rattle.afr_plan.specs.Spells.{Spells}
use Rattle.afr_plan_read.proofs.PlanLemmas.{read-spells, faulty-spells}
use Rattle.afr_plan_read.proofs.read.read_plan.Goals as goal

pub returns-in-Ok-clause-read : goal.returns-in-Ok-clause-read
returns-in-Ok-clause-read c =
    IfOk-weaker c.plan_from.result (λ (p : Plan). p ≡ plan_of c.in-Ok.lines) (λ (p : Plan). Spells c.args.bytes.now p)
    (λ p e. read-spells c.args.bytes.now c.in-Ok.lines p c.in-Ok.ensures.ok e) c.plan_from.ensures.ok

pub returns-in-Err-clause-refused : goal.returns-in-Err-clause-refused
returns-in-Err-clause-refused c = λ fault e.
    let f = c.in-Err.ensures.cause fault (cc) in
    (f, λ plan s. faulty-spells c.args.bytes.now fault plan f s)
