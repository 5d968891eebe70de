use Rattle.std.proofs.Common.{◌≡◌, ℕ, ◌==◌, List, length, Bool, true, false, Option, Some, None, nat_lt, refl, arith, position}
use Rattle.std.specs.List.{position_or_len}
use Rattle.std.proofs.lemmas.Bool.Decides.{nat_tests}
use Rattle.std.proofs.lemmas.List.Sums.{position_or_len_is}
use Rattle.memchr.specs.Find.{IsFirstByte, is_byte}
use Rattle.afr_plan_read.proofs.lines.feed.Goals as goal

fails : (b : Bool) → (b ≡ true → ⊥) → b ≡ false
fails true h = absurd (h refl)
fails false h = refl

first : (xs : List ℕ) (r : Option ℕ) → IsFirstByte (is_byte 10) xs r → r ≡ position (λ b. b == 10) xs
first xs None h =
    let e : position_or_len (λ b. b == 10) xs ≡ length xs = position_or_len_is (λ b. b == 10) xs (length xs) 0 (omega arith) (λ k l. fails _ (h k (omega arith) l)) (λ l. absurd (omega arith)) in
    let t : nat_lt (length xs) (length xs) ≡ false = grind (arith, nat_tests) in
    rw (e, t) refl
first xs (Some k) h =
    let e : position_or_len (λ b. b == 10) xs ≡ k = position_or_len_is (λ b. b == 10) xs k 0 (omega (arith, h.0.high)) (λ j l. fails _ (h.0.before j (omega arith) l)) (λ l. h.1) in
    let t : nat_lt k (length xs) ≡ true = grind (arith, nat_tests, h.0.high) in
    rw (e, t) refl

pub returns : goal.returns
returns c = first c.args.bytes.now c.memchr.result c.memchr.ensures
