-- A list of lines, the newest first, as lines by their positions.
use Rattle.afr_model_moves.specs.Positions.{by_position}
use Rattle.std.proofs.Common.{◌≡◌, ℕ, suc, ◌<◌, ◌≤◌, Bool, true, false, refl, sym, ◌∙◌, arith, List, [], ◌∷◌, length}
use Rattle.std.specs.Prelude.{None, Some, ◌==◌, nat_lt, if◌then◌else◌}
use Rattle.std.proofs.lemmas.Bool.Decides.{nat_tests}
use Rattle.afr_lines.specs.declared.line.Line.{Line}
use Rattle.afr_lines.specs.Log.{from_oldest}
use Rattle.afr_model_moves.specs.Past.{Log, before}
use Rattle.afr_model_moves.proofs.Tests.{same_self, same_no}
use Rattle.std.proofs.lemmas.Bool.{eqb-true, ltb-true, ltb-false}

-- these are the first lines of a log
abbrev pub IsPast : Log → List Line → Type 0
IsPast L [] = Unit {0}
IsPast L (line ∷ older) = (L (length older) ≡ Some line) × IsPast L older

-- the newest line, and the older ones
pub newest_at : (line : Line) (older : List Line) → from_oldest (length older) (line ∷ older) ≡ Some line
newest_at line older = rw (same_self (length older)) refl

pub older_at : (line : Line) (older : List Line) (q : ℕ) → q < length older → from_oldest q (line ∷ older) ≡ from_oldest q older
older_at line older q h = rw (same_no q (length older) h) refl

-- no line stands past the end
pub none_at : (older : List Line) (q : ℕ) → length older ≤ q → from_oldest q older ≡ None
none_at [] q h = refl
none_at (line ∷ older) q h = (let other : (q == length older) ≡ false = grind (arith, nat_tests) in rw other (none_at older q (omega (arith, h))))

-- logs with the same lines so far have the same past
past_agree : (L M : Log) (older : List Line) → ((q : ℕ) → q < length older → L q ≡ M q) → IsPast M older → IsPast L older
past_agree L M [] same h = tt
past_agree L M (line ∷ older) same h = (same (length older) (omega arith) ∙ h.0, past_agree L M older (λ q low. same q (omega (arith, low))) h.1)

-- a list is the past of the log that it is
pub past_whole : (log : List Line) → IsPast (by_position log) log
past_whole [] = tt
past_whole (line ∷ older) = (newest_at line older, past_agree (by_position (line ∷ older)) (by_position older) older (λ q low. older_at line older q low) (past_whole older))

-- each line of the past stands at its position
pub past_at : (L : Log) (older : List Line) → IsPast L older → (q : ℕ) → q < length older → L q ≡ from_oldest q older
past_at L [] h q low = absurd (omega arith)
past_at L (line ∷ older) h q low = go (q == length older) refl (λ less. past_at L older h.1 q less)
  where
    less : (q n : ℕ) → (q == n) ≡ false → q < suc n → q < n
    less q n e low = grind (arith, nat_tests)

    go : (new : Bool) → (q == length older) ≡ new → (q < length older → L q ≡ from_oldest q older) → L q ≡ (if new then Some line else from_oldest q older)
    go true e rest = rw (eqb-true q (length older) e) h.0
    go false e rest = rest (less q (length older) e low)

-- the lines before a position are those of the list
pub before_past : (L : Log) (older : List Line) → IsPast L older → (q : ℕ) → before L (length older) q ≡ from_oldest q older
before_past L older h q = go (nat_lt q (length older)) refl
  where
    go : (hit : Bool) → nat_lt q (length older) ≡ hit → (if hit then L q else None) ≡ from_oldest q older
    go true e = past_at L older h q (ltb-true q (length older) e)
    go false e = sym (none_at older q (ltb-false q (length older) e))
