-- Each line of a transaction that counts brings it nearer to its end.
use Rattle.std.specs.Prelude.{◌≡◌, ℕ, ◌+◌, ◌*◌, ◌<◌, ◌≤◌, true, [], Some, if◌then◌else◌}
use Rattle.afr_base.specs.Bricks.{lowest, member}
use Rattle.afr_lines.specs.Areas.{area_for}
use Rattle.afr_discipline.specs.declared.register.Register.{Register}
use Rattle.afr_lines.specs.declared.answer.Told.{Told}
use Rattle.afr_object.specs.declared.change.Change.{Change}
use Rattle.afr_law_pace.specs.Left.{FitsAnUnlock, IsQueued, asks_again, lines_left}
use Rattle.afr_client_transaction.specs.Progress.{TransactionProgress, answered, begun, left, starting}
use Rattle.afr_client_transaction.specs.Sound.{IsAsking, Sound}
use Rattle.afr_client_transaction.specs.declared.stage.Stage.TheVariants.{Beginning, Locking}

-- a request and its answer
abbrev pub ComesNearer : Type 0
ComesNearer = (m : TransactionProgress) → Sound m → IsAsking m.stage m → (told : Told) (at : ℕ) → FitsAnUnlock m.stage told → lines_left (answered m.stage told at m) + (if asks_again m.stage told then 0 else 1) ≤ lines_left m

-- a Begin line
abbrev pub BeginsNearer : Type 0
BeginsNearer = (m : TransactionProgress) → m.stage ≡ Beginning → (at : ℕ) → lines_left (begun at m) + 1 ≤ lines_left m

-- the end is left, and at the beginning six lines a brick and two more
abbrev pub KeepsEnd : Type 0
KeepsEnd = (m : TransactionProgress) → 1 ≤ lines_left m

abbrev pub StartsWithin : Type 0
StartsWithin = (change : Change) (r : Register) → lines_left (starting change r) ≤ 6 * r.shape.n + 2

-- ---- the order of locks
-- at first none was asked
abbrev pub StartsQueued : Type 0
StartsQueued = (change : Change) (r : Register) → IsQueued Locking (starting change r)

-- and each answer keeps the order
abbrev pub StaysQueued : Type 0
StaysQueued = (m : TransactionProgress) → Sound m → IsAsking m.stage m → IsQueued m.stage m → (told : Told) (at : ℕ) → IsQueued (answered m.stage told at m).stage (answered m.stage told at m)

-- so the lock that is asked for next is above each that is held: of the same object, on a higher brick
abbrev pub AsksAbove : Type 0
AsksAbove = (m : TransactionProgress) → Sound m → IsAsking m.stage m → IsQueued m.stage m → m.stage ≡ Locking → (c : ℕ) → member m.register.held c ≡ true → (m.register.area ≡ Some (area_for m.change)) × (m.register.second_held ≡ []) × (c < lowest (left Locking m))
