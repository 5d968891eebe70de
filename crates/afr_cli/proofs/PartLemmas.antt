-- The plan part of some bytes: there is one, and its last line is among them.
use Rattle.std.proofs.Common.{◌≡◌, ◌+◌, ◌<◌, ◌≤◌, ◌&&◌, ℕ, Bool, true, false, true≢false, List, ◌++◌, codes, drop, length, length-append, refl, sym, ◌∙◌, ap, inl, inr, arith}
use Rattle.std.specs.Prelude.{nat_eq}
use Rattle.std.specs.List.{starts_with}
use Rattle.std.proofs.lemmas.Bool.{cases_lt}
use Rattle.std.proofs.lemmas.Bool.Decides.{Decides-eqb}
use Rattle.std.proofs.lemmas.List.{length-drop}
use Rattle.std.proofs.lemmas.Slice.Eq.{starts_is}
use Rattle.afr_cli.specs.Parts.{IsPlanPart, is_end_at}

second : (a b : Bool) → (a && b) ≡ true → b ≡ true
second true b e = e
second false b e = cc

-- the line `end` has its four bytes
pub end_has_room : (bytes : List ℕ) (k : ℕ) → k < length bytes → is_end_at bytes k ≡ true → k + 4 ≤ length bytes
end_has_room bytes k lt is =
    let begins : starts_with nat_eq (drop k bytes) (codes "end\n") ≡ true = second _ _ is in
    let cut : drop k bytes ≡ codes "end\n" ++ drop 4 (drop k bytes) = (starts_is Decides-eqb (drop k bytes) (codes "end\n") (starts_with nat_eq (drop k bytes) (codes "end\n")) refl).0 begins in
    omega (arith, lt, ap length cut, length-append (codes "end\n") (drop 4 (drop k bytes)), length-drop k bytes)

-- bytes have one plan part
pub one_part : (bytes : List ℕ) (m n : ℕ) → IsPlanPart bytes m → IsPlanPart bytes n → m ≡ n
one_part bytes m n (IsPlanPart.UpToEnd k lt is none) (IsPlanPart.UpToEnd j lt' is' none') = elim (cases_lt k j) [
  | inl before ↦ absurd (true≢false (sym is ∙ none' k before))
  | inr k_after ↦ elim (cases_lt j k) [
    | inl after ↦ absurd (true≢false (sym is' ∙ none j after))
    | inr j_after ↦ omega (arith, k_after, j_after)
  ]
]
one_part bytes m n (IsPlanPart.UpToEnd k lt is none) (IsPlanPart.Whole none') = absurd (true≢false (sym is ∙ none' k lt))
one_part bytes m n (IsPlanPart.Whole none) (IsPlanPart.UpToEnd k lt is none') = absurd (true≢false (sym is ∙ none k lt))
one_part bytes m n (IsPlanPart.Whole none) (IsPlanPart.Whole none') = refl
