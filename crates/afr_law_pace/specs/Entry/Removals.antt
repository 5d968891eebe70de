-- How many lines the removal of a directory has left at most, from the locks of that directory on.
use Rattle.std.specs.Prelude.{◌≡◌, ℕ, ◌+◌, ◌*◌, ◌≤◌, ◌⊎◌, Bool, false, if◌then◌else◌}
use Rattle.afr_base.specs.declared.ids.BrickId.{BrickId}
use Rattle.afr_base.specs.declared.ids.Gfid.{Gfid}
use Rattle.afr_discipline.specs.declared.register.Register.{Register}
use Rattle.afr_lines.specs.Told.{told_by}
use Rattle.afr_lines.specs.declared.answer.Answer.{Answer}
use Rattle.afr_lines.specs.declared.answer.Told.TheVariants.{Done, Failed, NotConnected}
use Rattle.afr_lines.specs.declared.answer.Told.{Told}
use Rattle.afr_model_moves.specs.Note.{is_failed, is_held}
use Rattle.afr_object.specs.declared.change.Change.{Change}
use Rattle.afr_law_pace.specs.Left.{count}
use Rattle.afr_client_entry.specs.Removals.Removal.{Removing, answered, begun, left_in, removing}
use Rattle.afr_client_entry.specs.Removals.Sound.{IsAsking, Sound}
use Rattle.afr_client_entry.specs.declared.removing.child.Child.{Child}
use Rattle.afr_client_entry.specs.declared.removing.stage.RemovalStage.TheVariants.{Applying, Beginning, Closing, Listing, Locking, Looking, Posting, Preparing}
use Rattle.afr_client_entry.specs.declared.removing.stage.RemovalStage.{RemovalStage}

-- the locks that are given back, those of the directory and those of its name, and the end
abbrev pub closing_left : Register → ℕ
closing_left r = count r.shape.n r.second_held + count r.shape.n r.held + 1

-- the lines that a removal at a stage has left, its end among them
abbrev pub removal_left_in : RemovalStage → Register → Child → ℕ
removal_left_in Locking r c = count r.shape.n (left_in Locking r c) + 6 * r.shape.n + 3
removal_left_in Looking r c = count r.shape.n (left_in Looking r c) + 5 * r.shape.n + 3
removal_left_in Listing r c = 5 * r.shape.n + 3
removal_left_in Beginning r c = 5 * r.shape.n + 2
removal_left_in Preparing r c = count r.shape.n (left_in Preparing r c) + 4 * r.shape.n + 1
removal_left_in Applying r c = count r.shape.n (left_in Applying r c) + 3 * r.shape.n + 1
removal_left_in Posting r c = count r.shape.n (left_in Posting r c) + 2 * r.shape.n + 1
removal_left_in (Closing why) r c = closing_left r

-- the same of a whole removal
abbrev pub removal_left : Removing → ℕ
removal_left m = removal_left_in m.stage m.register m.child

-- the answers that an unlock may get
abbrev pub FitsRemoval : RemovalStage → Told → Type 0
FitsRemoval (Closing why) told = (told ≡ Done) ⊎ (told ≡ NotConnected) ⊎ (told ≡ Failed)
FitsRemoval stage told = Unit {0}

-- the brick is asked again: another holds the lock, or the unlock failed
abbrev pub removal_again : RemovalStage → Told → Bool
removal_again Locking told = is_held told
removal_again (Closing why) told = is_failed told
removal_again stage told = false

-- each request that is answered
abbrev pub RemovalComesNearer : Type 0
RemovalComesNearer =
    (m : Removing) → Sound m → IsAsking m.stage m → (chosen : BrickId) (a : Answer) (at : ℕ) → FitsRemoval m.stage (told_by a)
    → removal_left (answered chosen m.stage a at m) + (if removal_again m.stage (told_by a) then 0 else 1) ≤ removal_left m

-- and the Begin line
abbrev pub RemovalBeginsNearer : Type 0
RemovalBeginsNearer = (m : Removing) → m.stage ≡ Beginning → (at : ℕ) → removal_left (begun at m) + 1 ≤ removal_left m

-- the end is left, and at the beginning seven lines a brick and three more
abbrev pub RemovalKeepsEnd : Type 0
RemovalKeepsEnd = (m : Removing) → 1 ≤ removal_left m

abbrev pub RemovalStartsWithin : Type 0
RemovalStartsWithin = (change : Change) (r : Register) (g : Gfid) → removal_left (removing change r g) ≤ 7 * r.shape.n + 3
