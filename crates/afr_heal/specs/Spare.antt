-- The bytes of a heal end below the length of its source and one piece more.
use Rattle.std.specs.Prelude.{ℕ, ◌≡◌, ◌+◌, ◌<◌, ◌≤◌, ◌&&◌, Bool, nat_lt, true}
use Rattle.afr_base.specs.declared.ids.Gfid.{Gfid}
use Rattle.afr_base.specs.declared.ids.Kind.{Kind}
use Rattle.afr_heal.specs.Answers.{asked_for, begun_at, source_after}
use Rattle.afr_heal.specs.Carried.{IsNamed}
use Rattle.afr_heal.specs.Engine.{Ask, Begins, Ends, NextOfHeal, next_of}
use Rattle.afr_heal.specs.Standing.{Standing}
use Rattle.afr_lines.specs.declared.answer.Told.{Told}
use Rattle.afr_model_moves.specs.Register.{Exact, HealPart, Step, is_opening, is_piece, len_of, rank, span}

-- how far a part is, by the length of its source
pub record Spare (part : HealPart) (upto : ℕ) (step : Step) (len : ℕ) : Type 0 where
  pub zero_first : is_opening part ≡ true → upto ≡ 0
  pub low : nat_lt upto (len + span) ≡ true
  pub piece : (is_piece part && nat_lt (rank step) 12) ≡ true → nat_lt upto len ≡ true

-- the same of a register and its source
abbrev pub IsSpare : Exact → ℕ → Type 0
IsSpare r s = Spare r.part r.upto r.step (len_of (r.first_views s))

-- whatever is told, or once a part has begun, the bytes stay there
abbrev pub SpareNext : (n : ℕ) → (ℕ → Kind → Bool) → ((ℕ → Bool) → ℕ) → Exact → ℕ → Gfid → Kind → NextOfHeal → Type 0
SpareNext n keeps pick r s g kind (Ask b request) = (t : ℕ) (told : Told) → IsSpare (asked_for n keeps r t b request told) (source_after n keeps pick (asked_for n keeps r t b request told) s)
SpareNext n keeps pick r s g kind Begins = (t : ℕ) → IsSpare (begun_at n keeps r t g kind) s
SpareNext n keeps pick r s g kind Ends = Unit {0}

-- the bytes of a heal that stands stay there
abbrev pub StaysSpare : Type 0
StaysSpare = (n : ℕ) (keeps : ℕ → Kind → Bool) (pick : (ℕ → Bool) → ℕ) (r : Exact) (s : ℕ) (g : Gfid) (kind : Kind) → 0 < n → n ≤ 5 → Standing n keeps r s g kind → IsNamed kind r → IsSpare r s → SpareNext n keeps pick r s g kind (next_of n keeps r s g kind)
