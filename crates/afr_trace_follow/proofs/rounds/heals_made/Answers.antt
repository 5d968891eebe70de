use Rattle.std.proofs.Common.{List, arith, false, refl, reverse, take}
use Rattle.afr_lines.specs.declared.line.Line.{Line}
use Rattle.afr_trace_follow.proofs.HealLemmas.{none_healing}
use Rattle.afr_trace_follow.proofs.LogLemmas.{length_before, of_whole, one_more}
use Rattle.afr_trace_follow.proofs.PartLemmas.{work_from}
use Rattle.afr_trace_follow.specs.Healing.{IsHealing}
use Rattle.afr_trace_follow.proofs.rounds.heals_made.Goals as goal

pub loop-position-init : goal.loop-position-init
loop-position-init c = none_healing c.args.a.0 (reverse (take c.work_start-start.result c.args.log.now)) (record { begun = false; healed = 0 }) (work_from c.args.a.0 c.work_start-start.result c.args.log.now c.work_start-start.ensures) refl refl

pub healing_more-healing-requires-clause-few : goal.healing_more-healing-requires-clause-few
healing_more-healing-requires-clause-few c = omega (arith, c.loop-position.invariant.few, length_before c.args.log.now c.loop-position.position (omega (arith, c.loop-position-test.true)))

pub loop-position-preserved : goal.loop-position-preserved
loop-position-preserved c =
    one_more (λ (t : List Line). IsHealing c.args.a.0 t c.healing_more-healing.result) c.args.log.now c.loop-position.position c.index-log-position.result c.loop-position-test.true c.index-log-position.is
    (c.healing_more-healing.ensures (reverse (take c.loop-position.position c.args.log.now)) (length_before c.args.log.now c.loop-position.position (omega (arith, c.loop-position-test.true))) c.loop-position.invariant)

pub returns : goal.returns
returns c = of_whole (λ (t : List Line). IsHealing c.args.a.0 t c.loop-position.healing) c.args.log.now c.loop-position.position (omega (arith, c.loop-position-test.false)) c.loop-position.invariant
