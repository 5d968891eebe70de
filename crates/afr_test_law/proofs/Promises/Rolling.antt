-- Epochs that each spare a brick: with a pass between two of them the root isn't split, and without one it is; and a file that is split while it is made.
use Rattle.std.proofs.Common.{◌≡◌, ◌≢◌, ◌⊎◌, ℕ, zero, suc, ◌<◌, ◌==◌, ◌&&◌, ◌++◌, not, Bool, true, false, inl, inr, refl, sym, ap, ◌∙◌, subst, arith, List, [], ◌∷◌, true≢false}
use Rattle.std.specs.List.{list_all}
use Rattle.std.proofs.lemmas.Bool.Decides.{eqb_tells}
use Rattle.afr_base.specs.Bricks.{and_left, and_right, below}
use Rattle.afr_base.specs.Keeping.{keeps}
use Rattle.afr_base.specs.declared.ids.Gfid.{Gfid}
use Rattle.afr_base.specs.declared.ids.Kind.{Kind}
use Rattle.afr_base.specs.declared.ids.Kind.TheVariants.{Attrs, Bytes, Names}
use Rattle.afr_base.specs.declared.ids.What.TheVariants.{Dir, File}
use Rattle.afr_object.specs.Tables.{new_object, opening_gfid, root}
use Rattle.afr_object.specs.declared.change.Change.{Change}
use Rattle.afr_object.specs.declared.change.Change.TheVariants.{Make, Write}
use Rattle.afr_object.specs.Object.{Object}
use Rattle.afr_lines.specs.declared.answer.Told.{Told}
use Rattle.afr_lines.specs.declared.answer.Told.TheVariants.{Done, Failed, NoObject}
use Rattle.afr_lines.specs.declared.line.Line.{Line}
use Rattle.afr_lines.specs.declared.line.Line.TheVariants.{Ask, Begin}
use Rattle.afr_lines.specs.declared.request.Request.{Request}
use Rattle.afr_lines.specs.declared.request.Request.TheVariants.{Apply, Look, Post}
use Rattle.afr_plan.specs.declared.plan.Plan.{Plan}
use Rattle.afr_model.specs.ReportObjects.{is_split_verdict}
use Rattle.afr_model.specs.Showing.{is_fault}
use Rattle.afr_model.specs.Splits.{IsSplit}
use Rattle.afr_law_tables.specs.Clear.{IsClear}
use Rattle.afr_law_passes.specs.Converged.{IsEverywhereAs}
use Rattle.afr_law_passes.specs.Reached.Reached.{IsPass}
use Rattle.afr_law_passes.specs.Rolling.Rolling.{AreIdle, HasRolled, IsEpoch, IsSpared, IsUnfailedAt, Rolls, Starts}
use Rattle.afr_test_law.proofs.Promises.Converged.{all_bricks, all_rounds, round}
use Rattle.afr_test_law.proofs.Promises.Reached.{all_three, ends, name, twice}
use Rattle.afr_test_law.proofs.Promises.Words.{begins, done, ok, says, told_apart}

-- ---- a brick that is spared, by a test of each line
abbrev spares : ℕ → Line → Bool
spares d (Ask a b request told took) = not ((b.0 == d) && is_fault told)
spares d line = true

-- by a request's number and what it was told
at_brick : (b d : ℕ) (fault : Bool) → not ((b == d) && fault) ≡ true → b ≡ d → fault ≡ false
at_brick b d true calm same = go (eqb_tells b d)
  where
    go : ((b == d) ≡ true) × (b ≡ d) ⊎ ((b == d) ≡ false) × (b ≢ d) → true ≡ false
    go (inl is) = sym (rw is.0 at calm)
    go (inr other) = absurd (other.1 same)
at_brick b d false calm same = refl

spares_at : (d : ℕ) (line : Line) → spares d line ≡ true → IsUnfailedAt d line
spares_at d (Ask a b request told took) calm = at_brick b.0 d (is_fault told) calm
spares_at d line calm = tt

is_spared : (d : ℕ) (lines : List Line) → list_all (spares d) lines ≡ true → IsSpared d lines
is_spared d [] calm = tt
is_spared d (line ∷ lines) calm = (spares_at d line (and_left (spares d line) _ calm), is_spared d lines (and_right (spares d line) _ calm))

by_each : (d : ℕ) (line : Line) → IsUnfailedAt d line → spares d line ≡ true
by_each d (Ask a b request told took) free = go (eqb_tells b.0 d)
  where
    go : ((b.0 == d) ≡ true) × (b.0 ≡ d) ⊎ ((b.0 == d) ≡ false) × (b.0 ≢ d) → not ((b.0 == d) && is_fault told) ≡ true
    go (inl same) = rw (same.0, free same.1) refl
    go (inr other) = rw other.0 refl
by_each d line free = refl

by_all : (d : ℕ) (lines : List Line) → IsSpared d lines → list_all (spares d) lines ≡ true
by_all d [] free = refl
by_all d (line ∷ lines) free = rw (by_each d line free.0) (by_all d lines free.1)

-- ---- three changes of the root, each of which another brick refuses
abbrev refuses : ℕ → ℕ → Request → Line
refuses a b request = Ask (record { 0 = a }) (record { 0 = b }) request Failed false

-- bricks b and c do the change, and name brick z, which refuses it
abbrev turn : ℕ → ℕ → ℕ → ℕ → ℕ → List Line → List Line
turn at value b c z older = says ok ∷ done c (Post at root Attrs (z ∷ [])) ∷ done b (Post at root Attrs (z ∷ [])) ∷ refuses 1 z (Apply at) ∷ done c (Apply at) ∷ done b (Apply at) ∷ begins value ∷ older

abbrev pub one_turn : List Line
one_turn = turn 0 1 0 1 2 []

abbrev pub two_turns : List Line
two_turns = turn 7 2 1 2 0 one_turn

abbrev pub three_turns : List Line
three_turns = turn 14 3 0 2 1 two_turns

-- the second turn after a pass of rounds
abbrev pub rested : List Line
rested = all_rounds one_turn

abbrev pub later_turn : List Line
later_turn = turn 13 2 1 2 0 rested

module _ (q : Plan) where
  every_kind : (kind : Kind) → keeps (twice q).shape kind 0 ≡ true
  every_kind Bytes = refl
  every_kind Attrs = refl
  every_kind Names = refl

  every_kind_too : (kind : Kind) → keeps (twice q).shape kind 1 ≡ true
  every_kind_too Bytes = refl
  every_kind_too Attrs = refl
  every_kind_too Names = refl

  -- the root with the opening file
  abbrev rooted : Object
  rooted = record (new_object Dir) { names = (name 0, record { gfid = opening_gfid 1; what = File }) ∷ [] }

  -- the root was on every brick, and clear, and nobody was at work
  pub the_root_was_everywhere : IsEverywhereAs (twice q) [] root Dir
  the_root_was_everywhere zero low = (rooted, refl, refl)
  the_root_was_everywhere (suc zero) low = (rooted, refl, refl)
  the_root_was_everywhere (suc (suc zero)) low = (rooted, refl, refl)
  the_root_was_everywhere (suc (suc (suc b))) low = absurd (omega (arith, low))

  pub the_root_was_clear : IsClear (twice q) [] root Attrs
  the_root_was_clear x low = (refl, λ c near. refl)

  pub nobody_was_at_work : AreIdle (twice q) []
  nobody_was_at_work a actor = inr refl

  -- each turn spares a brick, and all together none
  pub the_first_spares_brick_0 : IsEpoch (twice q) [] one_turn
  the_first_spares_brick_0 = record { newer = one_turn; is = refl; brick = 0; low = omega arith; full = every_kind; spared = is_spared 0 one_turn refl }

  pub the_second_spares_brick_1 : IsEpoch (twice q) one_turn two_turns
  the_second_spares_brick_1 = record { newer = turn 7 2 1 2 0 []; is = refl; brick = 1; low = omega arith; full = every_kind_too; spared = is_spared 1 (turn 7 2 1 2 0 []) refl }

  pub the_third_spares_brick_0 : IsEpoch (twice q) two_turns three_turns
  the_third_spares_brick_0 = record { newer = turn 14 3 0 2 1 []; is = refl; brick = 0; low = omega arith; full = every_kind; spared = is_spared 0 (turn 14 3 0 2 1 []) refl }

  none_left : (lines : List Line) → lines ++ [] ≡ lines
  none_left [] = refl
  none_left (line ∷ lines) = ap (λ (l : List Line). line ∷ l) (none_left lines)

  pub no_brick_is_spared_by_all : IsEpoch (twice q) [] three_turns → ⊥
  no_brick_is_spared_by_all e = go e.brick e.low (by_all e.brick three_turns (subst (IsSpared e.brick) (sym (e.is ∙ none_left e.newer)) e.spared))
    where
      go : (d : ℕ) → d < 3 → list_all (spares d) three_turns ≡ true → ⊥
      go zero low all = true≢false (sym all)
      go (suc zero) low all = true≢false (sym all)
      go (suc (suc zero)) low all = true≢false (sym all)
      go (suc (suc (suc d))) low all = omega (arith, low)

  -- no pass came between them, and the root is split
  pub without_a_pass_the_root_is_split : IsSplit (twice q) three_turns (below 3) root Attrs
  unfolding below
  without_a_pass_the_root_is_split = refl

  -- with a pass another brick may be spared, and it isn't
  a_pass : IsPass (twice q) one_turn rested
  unfolding ends
  a_pass = record { bricks = all_bricks; rounds = (ends q 2 (round 1 (round 0 one_turn)) refl refl refl, (ends q 1 (round 0 one_turn) refl refl refl, (ends q 0 one_turn refl refl refl, refl))); all = all_three q }

  pub a_pass_comes_between : HasRolled (twice q) [] rested
  a_pass_comes_between = Rolls [] one_turn rested Starts the_first_spares_brick_0 a_pass

  pub then_brick_1_is_spared : IsEpoch (twice q) rested later_turn
  then_brick_1_is_spared = record { newer = turn 13 2 1 2 0 []; is = refl; brick = 1; low = omega arith; full = every_kind_too; spared = is_spared 1 (turn 13 2 1 2 0 []) refl }

  pub the_root_is_not_split : IsSplit (twice q) later_turn (below 3) root Attrs → ⊥
  unfolding below
  the_root_is_not_split split = told_apart (λ verdict. is_split_verdict verdict) _ _ refl refl (sym split)

-- ---- a file that is made while three clients write to it
abbrev file : Gfid
file = record { 0 = 9 }

-- a client asks a brick
abbrev from : ℕ → ℕ → Request → Told → Line
from a b request told = Ask (record { 0 = a }) (record { 0 = b }) request told true

-- a client begins a change
abbrev starts : ℕ → Change → Line
starts a change = Begin (record { 0 = a }) change

-- two bricks do a write and name the third
abbrev writes_at : ℕ → ℕ → ℕ → ℕ → ℕ → List Line → List Line
writes_at a attempt b c z older = from a c (Post attempt file Bytes (z ∷ [])) Done ∷ from a b (Post attempt file Bytes (z ∷ [])) Done ∷ from a c (Apply attempt) Done ∷ from a b (Apply attempt) Done ∷ older

-- client 1 makes the file, brick after brick; client 3 looks before brick 1 has it, client 2 before brick 2 has it
abbrev made : List Line
made = from 1 2 (Apply 0) Done ∷ from 2 2 (Look file) NoObject ∷ from 1 1 (Apply 0) Done ∷ from 3 1 (Look file) NoObject ∷ from 1 0 (Apply 0) Done ∷ starts 1 (Make root (name 1) file File) ∷ []

-- each names the brick that lacked it, and client 4 names brick 0, which refused its write
abbrev pub race : List Line
race = writes_at 4 6 1 2 0 (refuses 4 0 (Apply 6) ∷ writes_at 3 12 0 2 1 (starts 3 (Write file 1 (67 ∷ [])) ∷ writes_at 2 7 0 1 2 (starts 2 (Write file 0 (66 ∷ [])) ∷ starts 4 (Write file 2 (68 ∷ [])) ∷ made)))

module _ (q : Plan) where
  -- one brick alone told a fault
  pub it_spares_brick_1 : IsEpoch (twice q) [] race
  it_spares_brick_1 = record { newer = race; is = refl; brick = 1; low = omega arith; full = every_kind_too q; spared = is_spared 1 race refl }

  -- and the file is split
  pub the_file_is_split : IsSplit (twice q) race (below 3) file Bytes
  unfolding below
  the_file_is_split = refl

  -- but no brick had it at the start
  pub no_brick_had_it : IsEverywhereAs (twice q) [] file File → ⊥
  no_brick_had_it every = absurd (cc (every 0 (omega arith)).1)
