-- One line more has one step more.
use Rattle.std.proofs.Common.{◌++◌, ap, map, sym, take, ◌∙◌, arith, List, ℕ}
use Rattle.std.proofs.lemmas.List.{flat_map_more, take_all}
use Rattle.afr_image.specs.declared.step.Step.{Step}
use Rattle.afr_image.specs.Steps.{step_bytes, step_of, steps_bytes}
use Rattle.afr_image.proofs.LogLemmas.{steps_more}
use Rattle.afr_image.proofs.recorded.push_lines.Goals as goal

pub loop-at-preserved : goal.loop-at-preserved
loop-at-preserved c = record {
  items = c.push_step.ensures.items
      ∙ ap (λ (l : List ℕ). l ++ step_bytes c.step_at.result) c.loop-at.invariant.items
      ∙ flat_map_more step_bytes c.args.out.now.items (map step_of (take c.loop-at.at c.args.log.now.items)) c.step_at.result
      ∙ ap (λ (l : List Step). c.args.out.now.items ++ steps_bytes l) (sym (steps_more c.args.log.now.items c.loop-at.at c.step_at.result (omega arith) c.step_at.ensures));
  room = omega arith;
}

pub returns : goal.returns
returns c = record { ok = c.loop-at.invariant.items ∙ ap (λ (l : List _). c.args.out.now.items ++ steps_bytes (map step_of l)) (take_all c.loop-at.at c.args.log.now.items (omega arith)) }
