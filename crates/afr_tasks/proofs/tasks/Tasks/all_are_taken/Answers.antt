use Rattle.std.proofs.Common.{◌≡◌, ◌+◌, length, ap, arith, subst}
use Rattle.crossbeam_queue.specs.Passes.{view}
use Rattle.afr_tasks.specs.Balance.{weigh}
use Rattle.afr_tasks.specs.Exchange.{Exchange, queued_in}
use Rattle.afr_tasks.specs.declared.rule.Hand.{Hand}
use Rattle.afr_tasks.proofs.Balances.{learns, merges}
use Rattle.afr_tasks.proofs.TasksLemmas.{all_taken, parts_of, five_parts}
use Rattle.afr_tasks.proofs.tasks.Tasks.all_are_taken.Goals as goal

pub absorb-requires-clause-rule : goal.absorb-requires-clause-rule
absorb-requires-clause-rule c = merges _ _ _ _ (omega (arith, parts_of c.self.invariant.puts))

pub absorb-requires-2-clause-rule : goal.absorb-requires-2-clause-rule
absorb-requires-2-clause-rule c = merges _ _ _ _ (omega (arith, ap (λ (v : Hand). v.parts) c.absorb.ensures.rule, parts_of c.self.invariant.puts))

pub learn_as-requires-clause-rule : goal.learn_as-requires-clause-rule
learn_as-requires-clause-rule c = learns _ _ (five_parts _ _ _ _ _ c.self.invariant.puts c.self.invariant.second_takes c.self.invariant.third_takes c.absorb.ensures.rule c.absorb-2.ensures.rule)

pub returns : goal.returns
returns c h =
    let count : length (view c.self.inside.crawler).put ≡ length (view c.self.inside.second).taken + length (view c.self.inside.third).taken =
    omega (arith, c.self.invariant.count, ap queued_in c.self.view_is, c.requires) in
    subst (λ (x : Exchange). weigh h x.put ≡ weigh h x.second + weigh h x.third) c.self.view_is (
    all_taken _ _ _ _ _ c.self.invariant.puts c.self.invariant.second_takes c.self.invariant.third_takes c.absorb.ensures.rule c.absorb-2.ensures.rule c.learn_as.ensures.rule.0 c.learn_as.ensures.rule.1 count h
    )
