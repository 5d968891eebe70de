use Rattle.std.proofs.Common.{◌≡◌, sym, subst, true, false}
use Rattle.afr_discipline.specs.Free.{is_ask}
use Rattle.afr_client_transaction.specs.Progress.{is_over}
use Rattle.afr_client_entry.specs.Renames.Under.{next_under}
use Rattle.afr_client_entry.specs.declared.stage.Found.{Found}
use Rattle.afr_client_entry.proofs.NextLemmas.{read_begins, read_over, unread_over}
use Rattle.afr_client_entry.proofs.under.begins_under.Goals as goal

pub returns-in-Unread-clause-none : goal.returns-in-Unread-clause-none
returns-in-Unread-clause-none c = λ none asked.
    subst (λ (found : Found). is_ask (next_under found c.args.at asked c.args.transaction.now) ≡ false → is_over c.args.transaction.now.stage c.args.transaction.now ≡ true) (sym c.in-Unread.is)
    (unread_over c.in-Unread.field-0 asked c.args.transaction.now c.args.at)

pub returns-in_default : goal.returns-in_default
returns-in_default c = record {
  some = λ change e asked. read_begins c.args.found asked c.args.transaction.now c.args.at change c.in_default.not-Unread (c.begins.ensures.some change e);
  none = λ none asked. read_over c.args.found asked c.args.transaction.now c.args.at c.in_default.not-Unread (c.begins.ensures.none none);
}
