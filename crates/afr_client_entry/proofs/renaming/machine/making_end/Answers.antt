use Rattle.std.proofs.Common.{sym, ◌∙◌}
use Rattle.afr_client_transaction.specs.Progress.{is_over}
use Rattle.afr_client_entry.specs.Renames.Paths.{reads_new}
use Rattle.afr_client_entry.specs.Renames.Rename.{is_done}
use Rattle.afr_client_entry.proofs.NextLemmas.{making_is, making_more}
use Rattle.afr_base.proofs.TestLemmas.{and_not}
use Rattle.afr_client_entry.proofs.renaming.machine.making_end.Goals as goal

pub returns-then-is_done-clause-none : goal.returns-then-is_done-clause-none
returns-then-is_done-clause-none c = λ none. and_not (is_over c.args.transaction.now.stage c.args.transaction.now) (is_done c.args.transaction.now) (sym c.is_done.ensures ∙ c.if-is_done.true)

pub returns : goal.returns
returns c = record {
  some = λ said e at x. making_is x c.args.transaction.now c.args.found at (sym c.is_done.ensures ∙ c.if-is_done.false) ∙ c.end_under.ensures.some said e at (reads_new x);
  none = λ none. making_more (is_over c.args.transaction.now.stage c.args.transaction.now) (is_done c.args.transaction.now) (c.end_under.ensures.none none);
}
