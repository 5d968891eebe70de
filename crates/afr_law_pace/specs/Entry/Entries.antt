-- How many lines a command on a name has left at most: those of its walk, of the transaction that locks the name, and of a removal.
use Rattle.std.specs.Prelude.{◌≡◌, ℕ, ◌+◌, ◌*◌, ◌≤◌, Bool, false, List, length, if◌then◌else◌}
use Rattle.afr_base.specs.declared.ids.BrickId.{BrickId}
use Rattle.afr_base.specs.declared.ids.NameId.{NameId}
use Rattle.afr_base.specs.declared.ids.Shape.{Shape}
use Rattle.afr_client_entry.specs.Entry.{Entering, IsEntry, choices_heard, entry_from, heard_by}
use Rattle.afr_client_entry.specs.declared.job.EntryJob.{EntryJob}
use Rattle.afr_client_entry.specs.declared.stage.EntryStage.TheVariants.{Changing, Ending, Removes, Walking}
use Rattle.afr_client_entry.specs.declared.stage.EntryStage.{EntryStage}
use Rattle.afr_client_entry.specs.declared.stage.Found.TheVariants.{Unread}
use Rattle.afr_client_entry.specs.declared.stage.Found.{Found}
use Rattle.afr_lines.specs.Told.{told_by}
use Rattle.afr_lines.specs.declared.answer.Answer.{Answer}
use Rattle.afr_lines.specs.declared.answer.Told.{Told}
use Rattle.afr_lines.specs.declared.line.Heard.TheVariants as heard
use Rattle.afr_law_pace.specs.Left.{FitsAnUnlock, asks_again, lines_left}
use Rattle.afr_law_pace.specs.Entry.Removals.{FitsRemoval, removal_again, removal_left}
use Rattle.afr_law_pace.specs.Walks.{walk_left}
use Rattle.afr_client_entry.specs.Removals.Sound as removal
use Rattle.afr_client_entry.specs.declared.removing.stage.RemovalStage.TheVariants as removes
use Rattle.afr_client_transaction.specs.Progress.{TransactionProgress}
use Rattle.afr_client_transaction.specs.Sound.{IsAsking}
use Rattle.afr_client_transaction.specs.declared.stage.Stage.TheVariants.{Beginning}
use Rattle.afr_client_transaction.specs.declared.stage.Stage.{Stage}
use Rattle.afr_client_walk.specs.Choosing.{IsAmong}
use Rattle.afr_client_walk.specs.declared.walk.Walk.{Walk}

-- what a command takes once its directory is found: locks and looks, the read of the name, and a removal with its end
abbrev pub whole_entry : ℕ → ℕ
whole_entry n = 9 * n + 4

-- what the read of the name and a removal take beyond the transaction, as long as the name isn't read
abbrev pub for_name : Found → ℕ → ℕ
for_name (Unread b) n = 3 * n + 2
for_name found n = 0

-- the lines that a command has left
abbrev pub entry_left_at : EntryStage → Walk → ℕ
entry_left_at Walking w = walk_left w + whole_entry w.shape.n
entry_left_at (Changing t found) w = lines_left t + for_name found t.register.shape.n
entry_left_at (Removes m) w = removal_left m
entry_left_at (Ending said) w = 1

abbrev pub entry_left : Entering → ℕ
entry_left m = entry_left_at m.stage m.walk

-- the next line is a request: the name is read before the attempt
abbrev pub AsksUnder : Found → Stage → TransactionProgress → Type 0
AsksUnder (Unread b) Beginning t = Unit {0}
AsksUnder found stage t = IsAsking stage t

abbrev pub AsksEntry : EntryStage → Type 0
AsksEntry Walking = Unit {0}
AsksEntry (Changing t found) = AsksUnder found t.stage t
AsksEntry (Removes m) = removal.IsAsking m.stage m
AsksEntry (Ending said) = ⊥

-- and this is an answer that it may get
abbrev pub FitsEntry : EntryStage → Told → Type 0
FitsEntry (Changing t found) told = FitsAnUnlock t.stage told
FitsEntry (Removes m) told = FitsRemoval m.stage told
FitsEntry stage told = Unit {0}

-- it is asked again
abbrev pub entry_again : EntryStage → Told → Bool
entry_again (Changing t found) told = asks_again t.stage told
entry_again (Removes m) told = removal_again m.stage told
entry_again stage told = false

-- the next line is a Begin line
abbrev pub BeginsUnder : Found → Stage → Type 0
BeginsUnder (Unread b) stage = ⊥
BeginsUnder found stage = stage ≡ Beginning

abbrev pub BeginsEntry : EntryStage → Type 0
BeginsEntry (Changing t found) = BeginsUnder found t.stage
BeginsEntry (Removes m) = m.stage ≡ removes.Beginning
BeginsEntry stage = ⊥

-- each request that is answered
abbrev pub EntryComesNearer : Type 0
EntryComesNearer =
    (m : Entering) → IsEntry m.walk m.job m.stage → AsksEntry m.stage → (chosen : BrickId) (a : Answer) (at : ℕ) → IsAmong (choices_heard (heard.Answer a at) m) chosen → FitsEntry m.stage (told_by a)
    → entry_left (heard_by chosen (heard.Answer a at) m) + (if entry_again m.stage (told_by a) then 0 else 1) ≤ entry_left m

-- and the Begin line
abbrev pub EntryBeginsNearer : Type 0
EntryBeginsNearer = (m : Entering) → BeginsEntry m.stage → (chosen : BrickId) (at : ℕ) → entry_left (heard_by chosen (heard.Begun at) m) + 1 ≤ entry_left m

-- the end is left, and at the beginning looks and a read for each name of the path to the directory, and the rest
abbrev pub EntryKeepsEnd : Type 0
EntryKeepsEnd = (m : Entering) → 1 ≤ entry_left m

abbrev pub EntryStartsWithin : Type 0
EntryStartsWithin = (shape : Shape) (path : List NameId) (job : EntryJob) → entry_left (entry_from shape path job) ≤ length path * (shape.n + 1) + whole_entry shape.n
