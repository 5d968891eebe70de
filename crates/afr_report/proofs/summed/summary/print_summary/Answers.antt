use Rattle.std.proofs.Common.{List, [], ℕ, reverse, subst, sym, ap, ◌∙◌, ◌++◌}
use Rattle.std.specs.Prelude.{codes}
use Rattle.afr_base.specs.Rising.{IsRising}
use Rattle.afr_model.proofs.StartedLemmas.{rising_started}
use Rattle.afr_report.specs.Summary.Summary.{count_line}
use Rattle.afr_report.proofs.Summary.SummaryLemmas.{parts}
use Rattle.afr_report.proofs.summed.summary.print_summary.Goals as goal

pub count_objects-requires-clause-rising : goal.count_objects-requires-clause-rising
count_objects-requires-clause-rising c = subst (λ (s : List ℕ). IsRising 0 s) (sym c.requires.started) (rising_started c.args.plan.now.shape.n (reverse c.args.log.now.items))

pub returns : goal.returns
returns c = record {
  ok = λ hold.
      parts c.args.plan.now c.args.log.now.items c.args.n c.args.started c.count_ends.result.ok c.count_ends.result.refused c.count_ends.result.settled c.in_ok-counts.counts.objects c.in_ok-counts.counts.splits
      _ _ _ c.requires.started c.count_ends.ensures.ok c.count_ends.ensures.refused c.count_ends.ensures.settled
      (c.in_ok-counts.ensures.objects (reverse c.args.log.now.items) hold) (c.in_ok-counts.ensures.splits (reverse c.args.log.now.items) hold)
      (c.in_ok-push_size.ensures.ok ∙ ap (λ (t : List ℕ). t ++ (count_line (codes "gen") c.args.n ++ count_line (codes "lines") c.len.result)) c.new-out.ensures.bytes ∙ ap (λ (lines : ℕ). [] ++ (count_line (codes "gen") c.args.n ++ count_line (codes "lines") lines)) c.len.ensures) c.in_ok-push_ends.ensures.ok c.in_ok-push_objects.ensures.ok;
}
