-- What is left at most where a step is known.
use Rattle.std.proofs.Common.{◌≡◌, ℕ, ◌+◌, ◌*◌, ◌<◌, ◌≤◌, nat_le, Bool, true, false, refl, ◌∙◌, ap, arith, if◌then◌else◌}
use Rattle.afr_base.specs.declared.ids.Gfid.{Gfid}
use Rattle.afr_base.specs.declared.ids.Kind.{Kind}
use Rattle.afr_base.specs.declared.ids.Kind.TheVariants.{Attrs, Bytes, Names}
use Rattle.afr_heal.proofs.Parts.{both, not_both}
use Rattle.afr_heal.specs.Standing.{AfterLooks}
use Rattle.afr_model_moves.specs.Register.{Exact, Finish, HealLocks, HealPart, Looks, Opening, Piece, Step, Untouched, WorkLocks, everywhere, is_opening, over, rank}
use Rattle.afr_model_moves.specs.Steps.{locks_at, looks_at, passed}
use Rattle.afr_law_cost.specs.Left.{after_looks, giving, later_rest, left_at, left_in, lines_left, looking, onward, rest_of}
use Rattle.afr_counting.proofs.Counts.{count_most}

-- ---- lines
module _ (n : ℕ) (keeps : ℕ → Kind → Bool) (r : Exact) (s : ℕ) (kind : Kind) where
  -- broken or not
  pub lines_by : (m : ℕ) → (r.broken ≡ true → giving n r ≤ m) → (r.broken ≡ false → left_at n keeps r s kind r.step ≤ m) → lines_left n keeps r s kind ≤ m
  lines_by m a b = go r.broken refl
    where
      go : (f : Bool) → r.broken ≡ f → (if f then giving n r else left_at n keeps r s kind r.step) ≤ m
      go true e = a e
      go false e = b e

  pub broken_lines : r.broken ≡ true → lines_left n keeps r s kind ≡ giving n r
  broken_lines e = go r.broken e
    where
      go : (f : Bool) → f ≡ true → (if f then giving n r else left_at n keeps r s kind r.step) ≡ giving n r
      go true e = refl
      go false e = absurd (not_both false e refl)

  pub whole_lines : r.broken ≡ false → lines_left n keeps r s kind ≡ left_at n keeps r s kind r.step
  whole_lines e = go r.broken e
    where
      go : (f : Bool) → f ≡ false → (if f then giving n r else left_at n keeps r s kind r.step) ≡ left_at n keeps r s kind r.step
      go true e = absurd (not_both true refl e)
      go false e = refl

  pub giving_most : giving n r ≤ 2 * n + 1
  giving_most = (let a = count_most n r.law.held in let b = count_most n r.law.healing in omega (arith, a, b))

  -- while the Heal locks are asked
  pub bound_heal : r.step ≡ HealLocks → lines_left n keeps r s kind ≤ left_in n everywhere r.asked + (2 * n + 1) + rest_of n kind
  bound_heal at = lines_by (left_in n everywhere r.asked + (2 * n + 1) + rest_of n kind) (λ e. let k = giving_most in omega (arith, k)) (λ e. let k = ap (left_at n keeps r s kind) at in omega (arith, k))

  pub rest_giving : 0 < n → 2 * n + 1 ≤ rest_of n kind
  rest_giving some = go kind
    where
      go : (kind : Kind) → 2 * n + 1 ≤ rest_of n kind
      go Attrs = omega (arith, some)
      go Names = omega (arith, some)
      go Bytes = omega (arith, some)

  -- while the first Work locks are asked
  pub bound_work : 0 < n → r.step ≡ WorkLocks → r.part ≡ Opening → lines_left n keeps r s kind ≤ left_in n r.law.healing r.asked + (n + 1) + rest_of n kind
  bound_work some at opening = lines_by (left_in n r.law.healing r.asked + (n + 1) + rest_of n kind) (λ e. let k = giving_most in let j = rest_giving some in omega (arith, k, j)) (λ e. let k = ap (left_at n keeps r s kind) at in let j = parted r.part opening in omega (arith, k, j))
    where
      parted : (part : HealPart) → part ≡ Opening → left_in n (locks_at r part) r.asked + (n + 1) + onward n r s kind (is_opening part) ≡ left_in n r.law.healing r.asked + (n + 1) + rest_of n kind
      parted Opening e = refl
      parted Piece e = absurd (cc e)
      parted Finish e = absurd (cc e)

  -- while the Work locks of a later part are asked
  pub bound_part : r.step ≡ WorkLocks → is_opening r.part ≡ false → lines_left n keeps r s kind ≤ left_in n r.first_reached r.asked + (n + 1) + later_rest n r s kind
  bound_part at later = lines_by (left_in n r.first_reached r.asked + (n + 1) + later_rest n r s kind) (λ e. let k = count_most n r.law.held in omega (arith, k)) (λ e. let k = ap (left_at n keeps r s kind) at in let j = parted r.part later in omega (arith, k, j))
    where
      parted : (part : HealPart) → is_opening part ≡ false → left_in n (locks_at r part) r.asked + (n + 1) + onward n r s kind (is_opening part) ≡ left_in n r.first_reached r.asked + (n + 1) + later_rest n r s kind
      parted Opening e = absurd (cc e)
      parted Piece e = refl
      parted Finish e = refl

  pub lines_part : r.broken ≡ false → r.step ≡ WorkLocks → is_opening r.part ≡ false → lines_left n keeps r s kind ≡ left_in n r.first_reached r.asked + (n + 1) + later_rest n r s kind
  lines_part whole at later = whole_lines whole ∙ ap (left_at n keeps r s kind) at ∙ parted r.part later
    where
      parted : (part : HealPart) → is_opening part ≡ false → left_in n (locks_at r part) r.asked + (n + 1) + onward n r s kind (is_opening part) ≡ left_in n r.first_reached r.asked + (n + 1) + later_rest n r s kind
      parted Opening e = absurd (cc e)
      parted Piece e = refl
      parted Finish e = refl

  looks_ended : r.step ≡ Looks → passed n keeps r s Looks ≡ true → over n (looks_at r r.part) r.asked ≡ true
  looks_ended at h = rw at at h

  -- once the looks are over
  pub going_lines : (g : Gfid) → AfterLooks n keeps r s g kind → lines_left n keeps r s kind ≡ after_looks n keeps r s kind
  going_lines g k = whole_lines k.whole ∙ by_step r.step refl
    where
      looks_passed : passed n keeps r s Looks ≡ true
      looks_passed = (both (nat_le 7 (rank r.step)) (passed n keeps r s Looks) k.looked).1

      high : nat_le 7 (rank r.step) ≡ true
      high = (both (nat_le 7 (rank r.step)) (passed n keeps r s Looks) k.looked).0

      ended : (f : Bool) → f ≡ true → looking n keeps r s kind f ≡ after_looks n keeps r s kind
      ended true e = refl
      ended false e = absurd (not_both false e refl)

      by_step : (step : Step) → r.step ≡ step → left_at n keeps r s kind step ≡ after_looks n keeps r s kind
      by_step Untouched e = absurd (cc (rw e at high))
      by_step HealLocks e = absurd (cc (rw e at high))
      by_step WorkLocks e = absurd (cc (rw e at high))
      by_step Looks e = ended (over n (looks_at r r.part) r.asked) (looks_ended e looks_passed)
      by_step _ e = refl
