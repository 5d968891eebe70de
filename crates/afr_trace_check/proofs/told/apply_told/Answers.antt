use Rattle.std.proofs.Common.{refl, reverse}
use Rattle.afr_lines.specs.Log.{change_at}
use Rattle.afr_model.specs.Tables.{holds}
use Rattle.afr_trace_check.proofs.ToldLemmas.{attempt_told, no_attempt_told}
use Rattle.afr_trace_check.proofs.told.apply_told.Goals as goal

pub returns-in-Some : goal.returns-in-Some
returns-in-Some c =
    attempt_told (change_at c.args.attempt (reverse c.args.log.now)) (holds c.args.plan.now (reverse c.args.log.now) c.args.b.0) c.in-Some.change.now c.object_of.result c.if_there.result c.in-Some.ensures c.object_of.ensures
    (c.if_there.ensures _ (λ o. refl))

pub returns-in-None : goal.returns-in-None
returns-in-None c = no_attempt_told (change_at c.args.attempt (reverse c.args.log.now)) (holds c.args.plan.now (reverse c.args.log.now) c.args.b.0) c.in-None.ensures
