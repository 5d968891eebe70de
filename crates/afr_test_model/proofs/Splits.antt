-- Logs after which the bricks are split over a file, and logs after which they aren't.
use Rattle.std.specs.Prelude.{List, [], ◌∷◌, refl}
use Rattle.std.proofs.Common.{sym}
use Rattle.afr_base.specs.declared.ids.Kind.TheVariants.{Attrs, Bytes}
use Rattle.afr_lines.specs.declared.line.Line.{Line}
use Rattle.afr_model.specs.ReportObjects.{is_split_verdict}
use Rattle.afr_model.specs.Splits.{IsSplit}
use Rattle.afr_test_model.proofs.Means.{told_apart}
use Rattle.afr_test_model.proofs.Words.{file, plan, post}

-- brick 0 accuses brick 1, and brick 1 accuses brick 0
abbrev pub accusing_each_other : List Line
accusing_each_other = post 0 file Bytes (0 ∷ []) 1 ∷ post 0 file Bytes (1 ∷ []) 0 ∷ []

-- and brick 0 accuses brick 2 too
abbrev pub all_accused : List Line
all_accused = post 0 file Bytes (0 ∷ []) 1 ∷ post 0 file Bytes (1 ∷ 2 ∷ []) 0 ∷ []

-- three accused copies are split
pub three_accused_copies_are_split : IsSplit plan all_accused (0 ∷ 1 ∷ 2 ∷ []) file Bytes
three_accused_copies_are_split = refl

-- so are two of them that are reached alone
pub two_accusing_copies_are_split : IsSplit plan accusing_each_other (0 ∷ 1 ∷ []) file Bytes
two_accusing_copies_are_split = refl

-- a third copy that nobody accuses is good
pub a_third_good_copy_is_no_split : IsSplit plan accusing_each_other (0 ∷ 1 ∷ 2 ∷ []) file Bytes → ⊥
a_third_good_copy_is_no_split split = told_apart (λ verdict. is_split_verdict verdict) _ _ refl refl (sym split)

-- the attributes aren't accused
pub other_numbers_are_no_split : IsSplit plan all_accused (0 ∷ 1 ∷ 2 ∷ []) file Attrs → ⊥
other_numbers_are_no_split split = told_apart (λ verdict. is_split_verdict verdict) _ _ refl refl (sym split)

-- one brick says nothing
pub one_brick_is_no_split : IsSplit plan all_accused (0 ∷ []) file Bytes → ⊥
one_brick_is_no_split split = told_apart (λ verdict. is_split_verdict verdict) _ _ refl refl (sym split)
