-- The register that a list of lines leaves is the one by their positions, and a move by it keeps the discipline.
use Rattle.std.proofs.Common.{Bool, List, [], ap, arith, false, length, refl, suc, subst, sym, true, zero, ℕ, ◌<◌, ◌≤◌, ◌∙◌, ◌∷◌, ◌≡◌}
use Rattle.std.specs.Prelude.{Some, if◌then◌else◌}
use Rattle.afr_base.specs.declared.ids.Kind.{Kind}
use Rattle.afr_lines.specs.Places as session
use Rattle.afr_lines.specs.Places.{place_of}
use Rattle.afr_lines.specs.Work as work
use Rattle.afr_lines.specs.declared.line.Line.{Line}
use Rattle.afr_model_moves.specs.ByList.{IsExactLine, MayExactlyNext}
use Rattle.afr_model_moves.specs.Discipline.{BeginsKnown, MayExactly, exact, exact_after, in_force, note}
use Rattle.afr_model_moves.specs.Followed.{register_by}
use Rattle.afr_model_moves.specs.Past.{Beginning, Log, is_of, opens, place}
use Rattle.afr_model_moves.specs.Positions.{by_position}
use Rattle.afr_model_moves.specs.Ranges.{InRange}
use Rattle.afr_model_moves.specs.Register.{Exact}
use Rattle.afr_model_moves.proofs.ByPosition.{newest_at, older_at, past_whole}
use Rattle.afr_model_moves.proofs.Places.{of_same, opens_same, place_is, place_same}

-- the register rests on the lines before alone
pub exact_same : (log other : Log) (m : ℕ) → ((u : ℕ) → u < m → log u ≡ other u) → (n : ℕ) (keeps : ℕ → Kind → Bool) (a t : ℕ) → t ≤ m → exact n keeps log t a ≡ exact n keeps other t a
unfolding exact
exact_same log other m agree n keeps a zero h = refl
exact_same log other m agree n keeps a (suc t) h =
    λ i. exact_after n keeps (is_of a (agree t h i)) (opens (place_same log other m agree a t (omega (arith, h)) i) (agree t h i)) (exact_same log other m agree n keeps a t (omega (arith, h)) i) t (agree t h i)

-- a line opens a work or a heal by the list, and by positions
pub opens_here : (a : ℕ) (line : Line) (older : List Line) → opens (place (by_position older) (length older) a) (Some line) ≡ session.opens (place_of a older) line
opens_here a line older = ap (λ (p : session.Place). opens p (Some line)) (place_is (by_position older) a older (past_whole older)) ∙ opens_same (place_of a older) line

module _ (n : ℕ) (keeps : ℕ → Kind → Bool) (a : ℕ) where
  -- one line more
  register_next : (line : Line) (older : List Line) → exact n keeps (by_position (line ∷ older)) (suc (length older)) a ≡ exact_after n keeps (work.is_of a line) (session.opens (place_of a older) line) (exact n keeps (by_position older) (length older) a) (length older) (Some line)
  unfolding exact
  register_next line older =
      λ i. exact_after n keeps (mine i) (opened i) (exact_same (by_position (line ∷ older)) (by_position older) (length older) (older_at line older) n keeps a (length older) (omega arith) i) (length older) (newest_at line older i)
    where
      mine : is_of a (by_position (line ∷ older) (length older)) ≡ work.is_of a line
      mine = ap (is_of a) (newest_at line older) ∙ of_same a line

      opened : opens (place (by_position (line ∷ older)) (length older) a) (by_position (line ∷ older) (length older)) ≡ session.opens (place_of a older) line
      opened = (λ i. opens (place_is (by_position (line ∷ older)) a older (past_whole (line ∷ older)).1 i) (newest_at line older i)) ∙ opens_same (place_of a older) line

  -- the register that is kept line by line is the discipline's own
  pub register_is : (log : List Line) → register_by n keeps a log ≡ exact n keeps (by_position log) (length log) a
  unfolding exact
  register_is [] = refl
  register_is (line ∷ older) = ap (after (work.is_of a line)) (register_is older) ∙ go (work.is_of a line) ∙ sym (register_next line older)
    where
      after : Bool → Exact → Exact
      after own r = if own then note n keeps (in_force (session.opens (place_of a older) line) r) (length older) (Some line) else r

      go : (own : Bool) → after own (exact n keeps (by_position older) (length older) a) ≡ exact_after n keeps own (session.opens (place_of a older) line) (exact n keeps (by_position older) (length older) a) (length older) (Some line)
      go true = refl
      go false = refl

-- the one in force at a line after these
pub force_is : (n : ℕ) (keeps : ℕ → Kind → Bool) (a : ℕ) (line : Line) (older : List Line)
    → in_force (session.opens (place_of a older) line) (register_by n keeps a older) ≡ in_force (opens (place (by_position older) (length older) a) (Some line)) (exact n keeps (by_position older) (length older) a)
force_is n keeps a line older = λ i. in_force (sym (opens_here a line older) i) (register_is n keeps a older i)

-- a line that the registers kept line by line allow is a move by positions
pub moves_next : (n : ℕ) (keeps : ℕ → Kind → Bool) (line : Line) (older : List Line)
    → MayExactly n keeps (λ a. in_force (session.opens (place_of a older) line) (register_by n keeps a older)) (Some line) → MayExactlyNext n keeps (by_position older) (length older) line
moves_next n keeps line older = subst (λ (of : ℕ → Exact). MayExactly n keeps of (Some line)) (λ i a. force_is n keeps a line older i)

-- and keeps the discipline, where its numbers fit and what it makes is known
pub exact_line : (n : ℕ) (files : Beginning) (line : Line) (older : List Line) → InRange line
    → MayExactly n files.keeps (λ a. in_force (session.opens (place_of a older) line) (register_by n files.keeps a older)) (Some line) → BeginsKnown files (by_position older) (length older) (Some line) → IsExactLine n files line older
exact_line n files line older fits may known = (fits, moves_next n files.keeps line older may, known)
