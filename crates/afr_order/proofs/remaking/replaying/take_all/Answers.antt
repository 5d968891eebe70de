-- A step more makes a line more, and lines come behind those that the steps made.
use Rattle.std.proofs.Common.{◌≡◌, ◌+◌, ◌<◌, ℕ, true, false, Ok, length, ap, refl, subst, arith, ◌∙◌}
use Rattle.std.proofs.lemmas.Grind.{common_steps}
use Rattle.afr_plan.specs.declared.plan.Plan.{Plan}
use Rattle.afr_order.proofs.Replays.MadeLemmas.{differs, longer, made_all, made_more, made_none}
use Rattle.afr_order.specs.Replays.Made.{DiffersAt, Fails, MakesStep}
use Rattle.afr_order.proofs.remaking.replaying.take_all.Goals as goal

pub loop-i-init : goal.loop-i-init
loop-i-init g c = record {
  plan = refl;
  plain = c.requires.plain;
  len = ap length c.requires.fresh;
  made = made_none c.args.volume.now.plan c.args.steps.now c.args.volume.now.log c.requires.fresh;
  chosen = λ h. h;
}

pub take_step-requires : goal.take_step-requires
take_step-requires g c = record { rule = c.requires.rule; read_rule = c.requires.read_rule; plain = c.loop-i.invariant.plain; room = rw c.loop-i.invariant.plan (omega arith) }

pub loop-i-preserved : goal.loop-i-preserved
loop-i-preserved g c =
    let on : c.in_ok-take_step.field-0 ≡ true = grind (arith, common_steps) in
    let made : MakesStep c.args.volume.now.plan c.step_number.result c.loop-i.volume.log c.take_step.new.volume.log = subst (λ (p : Plan). MakesStep p c.step_number.result c.loop-i.volume.log c.take_step.new.volume.log) c.loop-i.invariant.plan (c.in_ok-take_step.ensures.made (ap Ok on)) in
    record {
      plan = c.take_step.ensures.plan ∙ c.loop-i.invariant.plan;
      plain = c.take_step.ensures.plain;
      len = longer c.args.volume.now.plan c.step_number.result c.loop-i.volume.log c.take_step.new.volume.log c.loop-i.i c.loop-i.invariant.len made;
      made = made_more c.args.volume.now.plan c.args.steps.now c.loop-i.i c.step_number.result c.loop-i.volume.log c.take_step.new.volume.log c.step_number.ensures c.loop-i.invariant.made made;
      chosen = λ h. c.take_step.ensures.chosen (c.loop-i.invariant.chosen h);
    }

pub returns-then-not-branch-clause-differs : goal.returns-then-not-branch-clause-differs
returns-then-not-branch-clause-differs g c = λ i e.
    let off : c.in_ok-take_step.field-0 ≡ false = grind (arith, common_steps) in
    let same : c.loop-i.i ≡ i = cc e in
    let fails : Fails c.args.volume.now.plan c.step_number.result c.loop-i.volume.log c.take_step.new.volume.log = subst (λ (p : Plan). Fails p c.step_number.result c.loop-i.volume.log c.take_step.new.volume.log) c.loop-i.invariant.plan (c.in_ok-take_step.ensures.fails (ap Ok off)) in
    subst (λ (n : ℕ). DiffersAt c.args.volume.now.plan c.args.steps.now n c.take_step.new.volume.log) same
    (differs c.args.volume.now.plan c.args.steps.now c.loop-i.i c.step_number.result c.loop-i.volume.log c.take_step.new.volume.log c.step_number.ensures c.loop-i.invariant.made fails)

pub returns-clause-same : goal.returns-clause-same
returns-clause-same g c = λ e.
    let all : length c.args.steps.now ≡ c.loop-i.i = omega arith in
    made_all c.args.volume.now.plan c.args.steps.now c.loop-i.i c.loop-i.volume.log c.take_passes.new.volume.log all c.loop-i.invariant.made c.take_passes.ensures.onto

pub returns-in_err-take_passes-clause-chosen : goal.returns-in_err-take_passes-clause-chosen
returns-in_err-take_passes-clause-chosen g c = λ k. c.take_passes.ensures.chosen (c.loop-i.invariant.chosen k)

pub returns-clause-chosen : goal.returns-clause-chosen
returns-clause-chosen g c = λ k. c.take_passes.ensures.chosen (c.loop-i.invariant.chosen k)
