-- One of a rename's transactions: under the locks of a name this is read before the change is begun.
use Rattle.std.specs.Prelude.{◌≡◌, ℕ, true, List, [], Option, if◌then◌else◌}
use Rattle.afr_base.specs.declared.ids.BrickId.{BrickId}
use Rattle.afr_object.specs.declared.change.Change.{Change}
use Rattle.afr_lines.specs.declared.answer.Told.{Told}
use Rattle.afr_lines.specs.declared.line.Next.{Next}
use Rattle.afr_lines.specs.declared.line.Next.TheVariants as next
use Rattle.afr_lines.specs.declared.request.Request.{Request}
use Rattle.afr_rule.specs.declared.candidate.Candidate.{Candidate}
use Rattle.afr_client_transaction.specs.Between.{noted_read}
use Rattle.afr_client_transaction.specs.Progress as transaction
use Rattle.afr_client_transaction.specs.Progress.{TransactionProgress, fed, is_beginning, told_to}
use Rattle.afr_client_transaction.specs.Sound.{Sound}
use Rattle.afr_client_transaction.specs.declared.stage.Stage.{Stage}
use Rattle.afr_client_entry.specs.Entry.{HasReader, fits_stage, found_by, offered, settled}
use Rattle.afr_client_entry.specs.Job.{reply_to}
use Rattle.afr_client_entry.specs.declared.refusal.Refusal.{Refusal}
use Rattle.afr_client_entry.specs.declared.stage.Found.{Found}
use Rattle.afr_client_entry.specs.declared.stage.Found.TheVariants.{Unread, Fits, Refused}

-- ---- what it asks
-- the next line: the name is read before the attempt, at the copy that was chosen, and a refusal is said once no lock is left
abbrev pub next_under : Found → ℕ → Request → TransactionProgress → Next
next_under (Unread b) at asked t = if is_beginning t.stage then next.Ask b asked else transaction.next_at t.stage at t
next_under Fits at asked t = transaction.next_at t.stage at t
next_under (Refused why) at asked t = if transaction.is_over t.stage t then next.End (reply_to why) else transaction.next_at t.stage at t

-- ---- what it makes of an answer
-- the transaction after an answer, of which the name's says this against the change
abbrev pub progress_after : Found → Option Refusal → Request → Told → ℕ → TransactionProgress → TransactionProgress
progress_after (Unread b) why asked told at t = if is_beginning t.stage then settled why (noted_read b.0 asked told at t) else fed t.stage told at t
progress_after found why asked told at t = told_to told at t

-- what the name was found to be, after an answer; as long as it isn't read, this copy is the one to ask
abbrev pub found_after : BrickId → Found → Option Refusal → Stage → Found
found_after chosen (Unread b) why stage = if is_beginning stage then found_by why else Unread chosen
found_after chosen found why stage = found

-- ---- what the rule is asked for
-- the good copies of the directory by the answer that ends the looks at it, before the name is read
abbrev pub choices_under : Found → Told → ℕ → TransactionProgress → List Candidate
choices_under (Unread b) told at t = if is_beginning t.stage then [] else offered (fed t.stage told at t)
choices_under found told at t = []

-- ---- what it keeps
-- a sound transaction of this change
pub record IsUnder (change : Change) (t : TransactionProgress) (found : Found) : Type 0 where
  pub sound : Sound t
  pub of : t.change ≡ change
  pub in_turn : fits_stage found t.stage ≡ true
  pub reads : HasReader t found
