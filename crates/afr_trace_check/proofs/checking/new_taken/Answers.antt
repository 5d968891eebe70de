use Rattle.std.proofs.Common.{List, reverse, subst, sym}
use Rattle.afr_lines.specs.declared.line.Line.{Line}
use Rattle.afr_trace_follow.specs.Lists.{AreLists}
use Rattle.afr_trace_tally.specs.Tally.{IsTally}
use Rattle.afr_trace_check.proofs.checking.new_taken.Goals as goal

pub returns-clause-taken : goal.returns-clause-taken
returns-clause-taken c = record {
  tally = subst (λ (xs : List Line). IsTally c.args.plan.now (reverse xs) c.in_ok-tally.tally) (sym c.new-3.ensures.items) c.in_ok-tally.ensures;
  lists = subst (λ (xs : List Line). AreLists c.args.plan.now (reverse xs) c.in_ok-lists.lists) (sym c.new-3.ensures.items) (c.in_ok-lists.ensures c.args.plan.now);
}
