use Rattle.std.proofs.Common.{refl, reverse}
use Rattle.afr_lines.specs.Work.{work}
use Rattle.afr_trace_follow.proofs.AskedLemmas.{nowhere, there_is}
use Rattle.afr_trace_follow.proofs.KeepingLemmas.{as_well}
use Rattle.afr_trace_follow.proofs.asked.asks_there.Goals as goal

pub returns-in-Some : goal.returns-in-Some
returns-in-Some c =
    as_well c.is_dir.result _ _ (there_is c.args.plan.now c.args.line.now (work c.args.a.0 (reverse c.args.log.now)) c.in-Some.g c.dir_next.result c.in-Some.ensures c.dir_next.ensures) c.is_dir.ensures

pub returns-in-None : goal.returns-in-None
returns-in-None c = (λ yes. nowhere c.args.plan.now c.args.line.now (work c.args.a.0 (reverse c.args.log.now)) c.in-None.ensures, λ k. refl)
