-- The log as code keeps it, the oldest line first, and as contracts see it.
use Rattle.std.proofs.Common.{◌≡◌, ℕ, ◌+◌, ◌-◌, ◌<◌, ◌==◌, List, [], ◌∷◌, ◌++◌, refl, ap, ◌∙◌, Some, arith, zero, suc, length, take, get_or, reverse, slice_get, if◌then◌else◌, false, length-append}
use Rattle.std.proofs.Math.Seq.{take-suc}
use Rattle.std.proofs.lemmas.Bool.Decides.{nat_tests}
use Rattle.std.proofs.lemmas.Grind.{reverse_onto}
use Rattle.std.proofs.lemmas.List.{length-reverse, length-take-le, reverse-append}
use Rattle.afr_lines.specs.Log.{from_oldest}
use Rattle.afr_lines.specs.declared.line.Line.{Line}

from_end : {A : Type 0} (x : A) (ys : List A) (k : ℕ) → from_oldest k (ys ++ x ∷ []) ≡ (if k == 0 then Some x else from_oldest (k - 1) ys)
from_end x [] k = refl
from_end x (y ∷ ys) zero = grind (arith, nat_tests, length-append {A = _} ys (x ∷ []), from_end x ys 0)
from_end x (y ∷ ys) (suc k) = grind (arith, nat_tests, length-append {A = _} ys (x ∷ []), from_end x ys (suc k))

-- what stands at a position
pub from_oldest-reverse : {A : Type 0} (xs : List A) (k : ℕ) → from_oldest k (reverse xs) ≡ slice_get xs k
from_oldest-reverse [] k = refl
from_oldest-reverse (x ∷ xs) zero = ap (from_oldest 0) (reverse_onto xs x []) ∙ from_end x (reverse xs) 0
from_oldest-reverse (x ∷ xs) (suc k) = ap (from_oldest (suc k)) (reverse_onto xs x []) ∙ from_end x (reverse xs) (suc k) ∙ simp (later, pred) (from_oldest-reverse xs k)
  where
    later : (suc k == 0) ≡ false
    later = grind (arith, nat_tests)

    pred : suc k - 1 ≡ k
    pred = omega arith

-- of the lines up to a position the newest is the one that stands there
pub newest : (log : List Line) (at : ℕ) (line : Line) → at < length log → get_or log at line ≡ line → reverse (take (at + 1) log) ≡ line ∷ reverse (take at log)
newest log at line small e =
    let next : at + 1 ≡ suc at = omega arith in
    let whole : take (at + 1) log ≡ take at log ++ line ∷ [] = ap (λ (n : ℕ). take n log) next ∙ take-suc log at line small ∙ ap (λ (x : Line). take at log ++ x ∷ []) e in
    ap (λ (t : List Line). reverse t) whole ∙ reverse-append (take at log) (line ∷ [])

-- so many lines stand before it
pub length-before : (log : List Line) (at : ℕ) → at < length log → length (reverse (take at log)) ≡ at
length-before log at small = length-reverse (take at log) ∙ length-take-le at log (omega (arith, small))
