-- How many lines a transaction has left at most, whatever its bricks answer.
use Rattle.std.specs.Prelude.{◌≡◌, ℕ, ◌+◌, ◌*◌, ◌<◌, Bool, true, false, ◌⊎◌, List}
use Rattle.afr_base.specs.Bricks.{member}
use Rattle.afr_base.specs.Majority.{count_below}
use Rattle.afr_lines.specs.declared.answer.Told.TheVariants.{Done, Failed, NotConnected}
use Rattle.afr_lines.specs.declared.answer.Told.{Told}
use Rattle.afr_model_moves.specs.Note.{is_failed, is_held}
use Rattle.afr_client_transaction.specs.Progress.{TransactionProgress, left}
use Rattle.afr_client_transaction.specs.declared.stage.Stage.TheVariants.{Applying, Beginning, Closing, Locking, Looking, Posting, Preparing}
use Rattle.afr_client_transaction.specs.declared.stage.Stage.{Stage}

-- how many bricks of a set there are below n
abbrev pub count : ℕ → List ℕ → ℕ
count n s = count_below n (member s)

-- of n bricks k are still to be asked at a stage: with the stages after it, the Begin line, the unlocks and the end
abbrev pub after_these : ℕ → Stage → ℕ → ℕ
after_these n Locking k = k + 5 * n + 2
after_these n Looking k = k + 4 * n + 2
after_these n Beginning k = 4 * n + 2
after_these n Preparing k = k + 3 * n + 1
after_these n Applying k = k + 2 * n + 1
after_these n Posting k = k + n + 1
after_these n Closing k = k + 1

-- the lines that a transaction has left, its end among them
abbrev pub left_at : Stage → TransactionProgress → ℕ
left_at stage m = after_these m.register.shape.n stage (count m.register.shape.n (left stage m))

abbrev pub lines_left : TransactionProgress → ℕ
lines_left m = left_at m.stage m

-- the answers that an unlock may get
abbrev pub FitsAnUnlock : Stage → Told → Type 0
FitsAnUnlock Closing told = (told ≡ Done) ⊎ (told ≡ NotConnected) ⊎ (told ≡ Failed)
FitsAnUnlock stage told = Unit {0}

-- the brick is asked again: another holds the lock, or the unlock failed
abbrev pub asks_again : Stage → Told → Bool
asks_again Locking told = is_held told
asks_again Closing told = is_failed told
asks_again stage told = false

-- ---- the order of its locks
-- of two bricks the lower one was asked for the lock first
abbrev pub InOrder : List ℕ → Type 0
InOrder asked = (c x : ℕ) → member asked c ≡ true → x < c → member asked x ≡ true

-- while locks are asked
abbrev pub IsQueued : Stage → TransactionProgress → Type 0
IsQueued Locking m = InOrder m.asked.lock_asked
IsQueued stage m = Unit {0}
