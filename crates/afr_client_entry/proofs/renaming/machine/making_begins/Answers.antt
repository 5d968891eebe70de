use Rattle.std.proofs.Common.{ap, sym, ◌∙◌}
use Rattle.afr_discipline.specs.Free.{is_ask}
use Rattle.afr_client_transaction.specs.Progress.{is_over}
use Rattle.afr_client_entry.specs.Renames.Paths.{reads_new}
use Rattle.afr_client_entry.specs.Renames.Rename.{is_done}
use Rattle.afr_client_entry.proofs.NextLemmas.{making_is, making_over, turn_is_ask}
use Rattle.afr_client_entry.proofs.renaming.machine.making_begins.Goals as goal

pub returns-then-is_done-clause-none : goal.returns-then-is_done-clause-none
returns-then-is_done-clause-none c = λ none x asked. absurd (cc (turn_is_ask x c.args.transaction.now c.args.found c.args.at (sym c.is_done.ensures ∙ c.if-is_done.true), asked))

pub returns : goal.returns
returns c = record {
  some = λ change e x. making_is x c.args.transaction.now c.args.found c.args.at (sym c.is_done.ensures ∙ c.if-is_done.false) ∙ c.begins_under.ensures.some change e (reads_new x);
  none = λ none x asked. making_over (is_over c.args.transaction.now.stage c.args.transaction.now) (is_done c.args.transaction.now) (sym c.is_done.ensures ∙ c.if-is_done.false)
      (c.begins_under.ensures.none none (reads_new x) (ap is_ask (sym (making_is x c.args.transaction.now c.args.found c.args.at (sym c.is_done.ensures ∙ c.if-is_done.false))) ∙ asked));
}
