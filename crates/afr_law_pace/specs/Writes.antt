-- How many lines a write has left at most: those of its walk and those of its transaction.
use Rattle.std.specs.Prelude.{◌≡◌, ℕ, ◌+◌, ◌*◌, ◌≤◌, Bool, false, List, length, if◌then◌else◌}
use Rattle.afr_base.specs.declared.ids.BrickId.{BrickId}
use Rattle.afr_base.specs.declared.ids.NameId.{NameId}
use Rattle.afr_base.specs.declared.ids.Shape.{Shape}
use Rattle.afr_client_write.specs.Write.{IsWrite, Write, choices_heard, heard_by, write_from}
use Rattle.afr_client_write.specs.declared.job.WriteJob.{WriteJob}
use Rattle.afr_client_write.specs.declared.stage.WriteStage.TheVariants.{Changing, Ending, Walking}
use Rattle.afr_client_write.specs.declared.stage.WriteStage.{WriteStage}
use Rattle.afr_lines.specs.Told.{told_by}
use Rattle.afr_lines.specs.declared.answer.Answer.{Answer}
use Rattle.afr_lines.specs.declared.answer.Told.{Told}
use Rattle.afr_lines.specs.declared.line.Heard.TheVariants as heard
use Rattle.afr_law_pace.specs.Left.{FitsAnUnlock, asks_again, lines_left}
use Rattle.afr_law_pace.specs.Walks.{walk_left}
use Rattle.afr_client_transaction.specs.Progress.{TransactionProgress}
use Rattle.afr_client_transaction.specs.Sound.{IsAsking}
use Rattle.afr_client_transaction.specs.declared.stage.Stage.TheVariants.{Beginning}
use Rattle.afr_client_walk.specs.Choosing.{IsAmong}
use Rattle.afr_client_walk.specs.declared.walk.Walk.{Walk}

-- what a transaction with one lock takes, its end among it
abbrev pub whole_change : ℕ → ℕ
whole_change n = 6 * n + 2

-- the lines that a write has left
abbrev pub write_left_at : WriteStage → Walk → ℕ
write_left_at (Walking job) w = walk_left w + whole_change w.shape.n
write_left_at (Changing t) w = lines_left t
write_left_at (Ending said) w = 1

abbrev pub write_left : Write → ℕ
write_left m = write_left_at m.stage m.walk

-- the next line is a request
abbrev pub Asks : WriteStage → Type 0
Asks (Walking job) = Unit {0}
Asks (Changing t) = IsAsking t.stage t
Asks (Ending said) = ⊥

-- and this is an answer that it may get
abbrev pub FitsWrite : WriteStage → Told → Type 0
FitsWrite (Changing t) told = FitsAnUnlock t.stage told
FitsWrite stage told = Unit {0}

-- it is asked again
abbrev pub again_at : WriteStage → Told → Bool
again_at (Changing t) told = asks_again t.stage told
again_at stage told = false

-- each request that is answered
abbrev pub WriteComesNearer : Type 0
WriteComesNearer =
    (m : Write) → IsWrite m.walk m.stage → Asks m.stage → (chosen : BrickId) (a : Answer) (at : ℕ) → IsAmong (choices_heard (heard.Answer a at) m) chosen → FitsWrite m.stage (told_by a)
    → write_left (heard_by chosen (heard.Answer a at) m) + (if again_at m.stage (told_by a) then 0 else 1) ≤ write_left m

-- and the Begin line
abbrev pub WriteBeginsNearer : Type 0
WriteBeginsNearer = (m : Write) (t : TransactionProgress) → m.stage ≡ Changing t → t.stage ≡ Beginning → (chosen : BrickId) (at : ℕ) → write_left (heard_by chosen (heard.Begun at) m) + 1 ≤ write_left m

-- the end is left, and at the beginning looks and a read for each name, and the transaction
abbrev pub WriteKeepsEnd : Type 0
WriteKeepsEnd = (m : Write) → 1 ≤ write_left m

abbrev pub WriteStartsWithin : Type 0
WriteStartsWithin = (shape : Shape) (path : List NameId) (job : WriteJob) → write_left (write_from shape path job) ≤ length path * (shape.n + 1) + whole_change shape.n
