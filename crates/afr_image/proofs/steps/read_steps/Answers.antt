-- Three bytes more are a step more; the first step that no line can have has its place.
use Rattle.std.proofs.Common.{◌≡◌, ◌+◌, ◌*◌, ◌≤◌, ◌++◌, ◌∷◌, [], true, false, Some, drop, length, ap, sym, ◌∙◌, append_assoc, arith, List}
use Rattle.std.proofs.lemmas.List.{append-nil, drop_all}
use Rattle.afr_image.specs.declared.step.Step.{Step}
use Rattle.afr_image.specs.Frame.{refusal, step_fault}
use Rattle.afr_image.specs.Steps.{first_bad, is_step, steps_in}
use Rattle.afr_image.proofs.StepLemmas.{bad_after, bad_from_start, bad_goes_on, bad_is_here, length-steps_in, steps_from}
use Rattle.afr_image.proofs.steps.read_steps.Goals as goal

pub loop-i-init : goal.loop-i-init
loop-i-init c = record { all = ap (λ (l : List Step). l ++ steps_in c.args.bytes.now) c.in_ok-steps.ensures; good = bad_from_start (first_bad (steps_in c.args.bytes.now)) }

pub returns-then-not-is_step-clause-refused : goal.returns-then-not-is_step-clause-refused
returns-then-not-is_step-clause-refused c = λ fault e.
    let here : drop c.loop-i.i (steps_in c.args.bytes.now) ≡ c.step_in-step.result ∷ drop (c.loop-i.i + 1) (steps_in c.args.bytes.now) = steps_from c.loop-i.i c.args.bytes.now (omega arith) ∙ ap (λ (s : Step). s ∷ drop (c.loop-i.i + 1) (steps_in c.args.bytes.now)) (sym c.step_in-step.ensures) in
    let bad : is_step c.step_in-step.result ≡ false = sym c.is_step.ensures ∙ c.if-not-is_step.true in
    let first : first_bad (steps_in c.args.bytes.now) ≡ Some c.loop-i.i = bad_is_here (steps_in c.args.bytes.now) c.loop-i.i c.step_in-step.result (drop (c.loop-i.i + 1) (steps_in c.args.bytes.now)) here bad c.loop-i.invariant.good in
    let same : refusal (c.args.first + 3 * c.loop-i.i) 14 ≡ fault = cc e in
    ap (step_fault c.args.first) first ∙ ap Some same

pub loop-i-preserved : goal.loop-i-preserved
loop-i-preserved c =
    let here : drop c.loop-i.i (steps_in c.args.bytes.now) ≡ c.step_in-step.result ∷ drop (c.loop-i.i + 1) (steps_in c.args.bytes.now) = steps_from c.loop-i.i c.args.bytes.now (omega arith) ∙ ap (λ (s : Step). s ∷ drop (c.loop-i.i + 1) (steps_in c.args.bytes.now)) (sym c.step_in-step.ensures) in
    let good : is_step c.step_in-step.result ≡ true = sym c.is_step.ensures ∙ c.if-not-is_step.false in
    record {
      all = ap (λ (l : List Step). l ++ drop (c.loop-i.i + 1) (steps_in c.args.bytes.now)) c.in_ok-keep.ensures
          ∙ append_assoc c.loop-i.steps.items (c.step_in-step.result ∷ []) (drop (c.loop-i.i + 1) (steps_in c.args.bytes.now))
          ∙ ap (λ (l : List Step). c.loop-i.steps.items ++ l) (sym here)
          ∙ c.loop-i.invariant.all;
      good = bad_goes_on (steps_in c.args.bytes.now) c.loop-i.i c.step_in-step.result (drop (c.loop-i.i + 1) (steps_in c.args.bytes.now)) here good c.loop-i.invariant.good;
    }

pub returns-clause-steps : goal.returns-clause-steps
returns-clause-steps c =
    let long : length (steps_in c.args.bytes.now) ≤ c.loop-i.i = omega (arith, length-steps_in c.args.bytes.now c.args.count c.requires.whole) in
    c.from_vec.ensures ∙ sym (append-nil c.loop-i.steps.items) ∙ ap (λ (l : List Step). c.loop-i.steps.items ++ l) (sym (drop_all c.loop-i.i (steps_in c.args.bytes.now) long)) ∙ c.loop-i.invariant.all

pub returns-clause-good : goal.returns-clause-good
returns-clause-good c =
    let long : length (steps_in c.args.bytes.now) ≤ c.loop-i.i = omega (arith, length-steps_in c.args.bytes.now c.args.count c.requires.whole) in
    ap (step_fault c.args.first) (c.loop-i.invariant.good ∙ ap (λ (l : List Step). bad_after c.loop-i.i (first_bad l)) (drop_all c.loop-i.i (steps_in c.args.bytes.now) long))
