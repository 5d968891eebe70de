-- How many lines a rename has left at most: those of its walks and of its two transactions, each with the read of its name.
use Rattle.std.specs.Prelude.{ℕ, ◌+◌, ◌*◌, ◌≤◌, Bool, false, List, length, if◌then◌else◌}
use Rattle.afr_law_pace.specs.Entry.Entries.{AsksUnder, BeginsUnder}
use Rattle.afr_base.specs.declared.ids.BrickId.{BrickId}
use Rattle.afr_base.specs.declared.ids.NameId.{NameId}
use Rattle.afr_base.specs.declared.ids.Shape.{Shape}
use Rattle.afr_lines.specs.Told.{told_by}
use Rattle.afr_lines.specs.declared.answer.Answer.{Answer}
use Rattle.afr_lines.specs.declared.answer.Told.{Told}
use Rattle.afr_lines.specs.declared.line.Heard.TheVariants as heard
use Rattle.afr_law_pace.specs.Left.{FitsAnUnlock, asks_again, lines_left}
use Rattle.afr_law_pace.specs.Walks.{walk_left}
use Rattle.afr_client_entry.specs.Renames.Rename.{IsRename, Renaming, choices_heard, heard_by, is_done, rename_from}
use Rattle.afr_client_entry.specs.declared.renaming.paths.Paths.{Paths}
use Rattle.afr_client_entry.specs.declared.stage.Found.TheVariants.{Unread}
use Rattle.afr_client_entry.specs.declared.stage.Found.{Found}
use Rattle.afr_client_entry.specs.declared.renaming.stage.RenameStage.TheVariants.{Ending, Finding, Making, Removing, Walking}
use Rattle.afr_client_entry.specs.declared.renaming.stage.RenameStage.{RenameStage}
use Rattle.afr_client_transaction.specs.Progress.{TransactionProgress}
use Rattle.afr_client_transaction.specs.declared.stage.Stage.TheVariants.{Locking}
use Rattle.afr_client_transaction.specs.declared.stage.Stage.{Stage}
use Rattle.afr_client_walk.specs.Choosing.{IsAmong}

-- what a transaction takes with the read of its name, without the end
abbrev pub whole_part : ℕ → ℕ
whole_part n = 6 * n + 2

-- the read of the name, as long as it isn't read
abbrev pub for_read : Found → ℕ
for_read (Unread b) = 1
for_read found = 0

-- the lines that a rename has left; what a transaction has left counts the end
abbrev pub rename_left_at : RenameStage → Paths → ℕ
rename_left_at Finding x = walk_left x.first + length x.second.path * (x.second.shape.n + 1) + 2 * whole_part x.second.shape.n + 1
rename_left_at Walking x = walk_left x.second + 2 * whole_part x.second.shape.n + 1
rename_left_at (Making t found) x = lines_left t + for_read found + whole_part t.register.shape.n
rename_left_at (Removing t found) x = lines_left t + for_read found
rename_left_at (Ending said) x = 1

-- the same of a whole rename
abbrev pub rename_left : Renaming → ℕ
rename_left m = rename_left_at m.stage m.paths

-- where the first transaction is done, the second one's first lock
abbrev pub AsksMaking : Bool → Found → TransactionProgress → Type 0
AsksMaking false found t = AsksUnder found t.stage t
AsksMaking done found t = Unit {0}

-- so it is at a stage
abbrev pub AsksRename : RenameStage → Type 0
AsksRename (Making t found) = AsksMaking (is_done t) found t
AsksRename (Removing t found) = AsksUnder found t.stage t
AsksRename (Ending said) = ⊥
AsksRename stage = Unit {0}

-- where a making stands for its next request: the second transaction's first lock, once it is done
abbrev pub making_stage : TransactionProgress → Stage
making_stage t = if is_done t then Locking else t.stage

-- and this is an answer that it may get
abbrev pub FitsRename : RenameStage → Told → Type 0
FitsRename (Making t found) told = FitsAnUnlock (making_stage t) told
FitsRename (Removing t found) told = FitsAnUnlock t.stage told
FitsRename stage told = Unit {0}

-- it is asked again
abbrev pub rename_again : RenameStage → Told → Bool
rename_again (Making t found) told = asks_again (making_stage t) told
rename_again (Removing t found) told = asks_again t.stage told
rename_again stage told = false

-- so it is at a stage
abbrev pub BeginsRename : RenameStage → Type 0
BeginsRename (Making t found) = BeginsUnder found t.stage
BeginsRename (Removing t found) = BeginsUnder found t.stage
BeginsRename stage = ⊥

-- each request that is answered
abbrev pub RenameComesNearer : Type 0
RenameComesNearer =
    (m : Renaming) → IsRename m.paths m.stage → AsksRename m.stage → (chosen : BrickId) (a : Answer) (at : ℕ) → IsAmong (choices_heard (heard.Answer a at) m) chosen → FitsRename m.stage (told_by a)
    → rename_left (heard_by chosen (heard.Answer a at) m) + (if rename_again m.stage (told_by a) then 0 else 1) ≤ rename_left m

-- and the Begin line
abbrev pub RenameBeginsNearer : Type 0
RenameBeginsNearer = (m : Renaming) → BeginsRename m.stage → (chosen : BrickId) (at : ℕ) → rename_left (heard_by chosen (heard.Begun at) m) + 1 ≤ rename_left m

-- the end is left
abbrev pub RenameKeepsEnd : Type 0
RenameKeepsEnd = (m : Renaming) → 1 ≤ rename_left m

-- and at the beginning looks and a read for each name of both paths, and two transactions
abbrev pub RenameStartsWithin : Type 0
RenameStartsWithin = (shape : Shape) (from to : List NameId) → rename_left (rename_from shape from to) ≤ (length from + length to) * (shape.n + 1) + 14 * shape.n + 6
