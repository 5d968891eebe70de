use Rattle.std.proofs.Common.{◌≡◌, ◌+◌, ℕ, arith, reverse, subst}
use Rattle.afr_lines.specs.Work.{work}
use Rattle.afr_trace_follow.specs.Asked.{IsAsked}
use Rattle.afr_trace_follow.proofs.asked.asked_at.Goals as goal

pub returns : goal.returns
returns c =
    let same : c.args.k + 0 ≡ c.args.k = omega arith in
    subst (λ (n : ℕ). IsAsked c.args.plan.now n (work c.args.a.0 (reverse c.args.log.now)) c.asked_past.result) same c.asked_past.ensures
