-- How many lines a heal has left at most, whatever its bricks answer.
use Rattle.std.specs.Prelude.{ℕ, zero, suc, ◌≡◌, ◌+◌, ◌*◌, ◌≤◌, ◌&&◌, if◌then◌else◌, Bool, None, false, nat_lt, not, true}
use Rattle.afr_base.specs.Majority.{count_below}
use Rattle.afr_base.specs.declared.ids.Kind.{Kind}
use Rattle.afr_base.specs.declared.ids.Kind.TheVariants.{Attrs, Bytes, Names}
use Rattle.afr_heal.specs.Engine.{has_part}
use Rattle.afr_heal.specs.Standing.{behind}
use Rattle.afr_lines.specs.declared.answer.Told.{Told}
use Rattle.afr_lines.specs.declared.request.Request.{Request}
use Rattle.afr_lines.specs.declared.request.Request.TheVariants.{Lock, Unlock}
use Rattle.afr_model_moves.specs.Note.{is_failed, is_held}
use Rattle.afr_model_moves.specs.Register.{Exact, HealLocks, HealPres, Looks, Mends, Reads, Settles, Step, Untouched, WorkLocks, everywhere, is_opening, is_piece, len_of, over, rank, span}
use Rattle.afr_model_moves.specs.Steps.{locks_at, looks_at, set_of}
use Rattle.afr_lines.specs.declared.lock.Domain.TheVariants.{Work}

-- how many bricks of a set were not asked
abbrev pub left_in : ℕ → (ℕ → Bool) → (ℕ → Bool) → ℕ
left_in n set asked = count_below n (λ x. set x && not (asked x))

-- how many bricks a step still asks, once the looks are over
abbrev pub todo : ℕ → (ℕ → Kind → Bool) → Exact → ℕ → Step → ℕ
todo n keeps r s step = left_in n (set_of n keeps r s step) (behind r step)

-- the Work locks and Heal locks that are given back, and the end
abbrev pub giving : ℕ → Exact → ℕ
giving n r = count_below n r.law.held + count_below n r.law.healing + 1

-- so many times m
abbrev pub times : ℕ → ℕ → ℕ
times zero m = 0
times (suc k) m = m + times k m

-- how many pieces of this length begin at or after upto and below len, at most eight
abbrev pub pieces_by : ℕ → ℕ → ℕ → ℕ
pieces_by some len upto = count_below 8 (λ i. nat_lt (upto + i * some) len)

abbrev pub pieces : ℕ → ℕ → ℕ
pieces len upto = pieces_by span len upto

-- the bytes that are done once this part is
abbrev pub done_at : Exact → ℕ
done_at r = if is_piece r.part && nat_lt (rank r.step) 12 then r.upto + span else r.upto

-- each later part locks, begins, looks, and has two lines a brick more; after the pieces comes the finish
abbrev pub parts_left : ℕ → Bool → ℕ → ℕ
parts_left n false k = 0
parts_left n true k = times (suc k) (4 * n + 1)

abbrev pub parts_of : ℕ → Exact → ℕ → Kind → ℕ
parts_of n r s kind = parts_left n (has_part kind r.part) (pieces (len_of (r.first_views s)) (done_at r))

-- the looks of a part are over
abbrev pub after_looks : ℕ → (ℕ → Kind → Bool) → Exact → ℕ → Kind → ℕ
after_looks n keeps r s kind = todo n keeps r s Reads + todo n keeps r s HealPres + todo n keeps r s Mends + todo n keeps r s Settles + parts_of n r s kind + giving n r

-- at most so many lines after the looks of the opening
abbrev pub rest_of : ℕ → Kind → ℕ
rest_of n Attrs = 5 * n
rest_of n Names = 6 * n + 1
rest_of n Bytes = 40 * n + 8

-- and after those of a later part
abbrev pub later_rest : ℕ → Exact → ℕ → Kind → ℕ
later_rest n r s kind = 2 * n + parts_of n r s kind + count_below n r.law.healing + 1

abbrev pub onward : ℕ → Exact → ℕ → Kind → Bool → ℕ
onward n r s kind opening = if opening then rest_of n kind else later_rest n r s kind

-- the looks of a part: the rest is not known before they are over
abbrev pub looking : ℕ → (ℕ → Kind → Bool) → Exact → ℕ → Kind → Bool → ℕ
looking n keeps r s kind ended = if ended then after_looks n keeps r s kind else left_in n (looks_at r r.part) r.asked + onward n r s kind (is_opening r.part)

-- the lines that a heal in a step has left that isn't broken
abbrev pub left_at : ℕ → (ℕ → Kind → Bool) → Exact → ℕ → Kind → Step → ℕ
left_at n keeps r s kind Untouched = n + (2 * n + 1) + rest_of n kind
left_at n keeps r s kind HealLocks = left_in n everywhere r.asked + (2 * n + 1) + rest_of n kind
left_at n keeps r s kind WorkLocks = left_in n (locks_at r r.part) r.asked + (n + 1) + onward n r s kind (is_opening r.part)
left_at n keeps r s kind Looks = looking n keeps r s kind (over n (looks_at r r.part) r.asked)
left_at n keeps r s kind step = after_looks n keeps r s kind

-- the lines that a heal has left, its end among them
abbrev pub lines_left : ℕ → (ℕ → Kind → Bool) → Exact → ℕ → Kind → ℕ
lines_left n keeps r s kind = if r.broken then giving n r else left_at n keeps r s kind r.step

-- the brick is asked again: another holds the Work lock, or the unlock failed
abbrev pub asks_again : Request → Told → Bool
asks_again (Lock Work area) told = is_held told
asks_again (Unlock domain area) told = is_failed told
asks_again request told = false

-- what a line takes away
abbrev pub taken : Request → Told → ℕ
taken request told = if asks_again request told then 0 else 1

-- a Work lock is held of an area alone
abbrev pub Rooted : Exact → Type 0
Rooted r = (x : ℕ) → r.law.held x ≡ true → r.law.area ≡ None → ⊥

-- the first views show no more than eight pieces
abbrev pub Short : Exact → Type 0
Short r = (x : ℕ) → len_of (r.first_views x) ≤ 1048576

-- the most lines of a heal
abbrev pub heal_cost : ℕ → Kind → ℕ
heal_cost n Attrs = 8 * n + 1
heal_cost n Names = 9 * n + 2
heal_cost n Bytes = 43 * n + 9
