-- A copy that nobody accuses, a split-brain in which two bricks of three accuse each copy, and two attempts that overlap.
use Rattle.std.proofs.Common.{◌≡◌, ℕ, zero, suc, ◌<◌, ◌≤◌, true, refl, arith, List, [], ◌∷◌}
use Rattle.std.specs.Prelude.{Some}
use Rattle.afr_base.specs.Marks.{no_marks}
use Rattle.afr_base.specs.declared.ids.Kind.TheVariants.{Attrs}
use Rattle.afr_base.specs.declared.ids.What.TheVariants.{Dir}
use Rattle.afr_object.specs.Tables.{root}
use Rattle.afr_object.specs.declared.entry.View.{View}
use Rattle.afr_lines.specs.Log.{from_oldest}
use Rattle.afr_lines.specs.declared.answer.Told.TheVariants.{Done, Seen}
use Rattle.afr_lines.specs.declared.line.Line.{Line}
use Rattle.afr_lines.specs.declared.line.Line.TheVariants.{Ask, Begin, End}
use Rattle.afr_lines.specs.declared.reply.Reply.{Reply}
use Rattle.afr_lines.specs.declared.request.Request.TheVariants.{Apply, Look, Post}
use Rattle.afr_plan.specs.declared.plan.Plan.{Plan}
use Rattle.afr_model.specs.Safe.{accuses, is_good_copy}
use Rattle.afr_law_promises.specs.Whole.Whole.{AreOverlapping}
use Rattle.afr_test_law.proofs.Promises.Words.{asks, begins, done, everybody, second, sets, split, three}

-- two bricks accuse this copy
abbrev pub AccusedByTwo : Plan → ℕ → ℕ → ℕ → Type 0
AccusedByTwo q x y c = (accuses (three q) split root Attrs x c ≡ true) × (accuses (three q) split root Attrs y c ≡ true)

module _ (q : Plan) where
  -- after two changes, the second begun after the first was closed, nobody accuses brick 1
  pub the_copy_that_did_both_is_whole : is_good_copy (three q) second everybody root Attrs 1 ≡ true
  the_copy_that_did_both_is_whole = refl

  -- three changes of which each brick missed one leave no copy that a majority holds nothing against
  pub brick_0_is_accused_by_two : AccusedByTwo q 1 2 0
  brick_0_is_accused_by_two = (refl, refl)

  pub brick_1_is_accused_by_two : AccusedByTwo q 0 2 1
  brick_1_is_accused_by_two = (refl, refl)

  pub brick_2_is_accused_by_two : AccusedByTwo q 0 1 2
  brick_2_is_accused_by_two = (refl, refl)

-- a view without numbers
abbrev view : View
view = record { what = Dir; len = 0; marks = no_marks }

-- client 2 has looked before client 1 posts, and posts after that
abbrev pub together : List Line
together =
    Ask (record { 0 = 2 }) (record { 0 = 1 }) (Post 5 root Attrs (0 ∷ [])) Done true
    ∷ Ask (record { 0 = 2 }) (record { 0 = 1 }) (Apply 5) Done true
    ∷ Begin (record { 0 = 2 }) (sets 2)
    ∷ done 0 (Post 2 root Attrs (1 ∷ []))
    ∷ done 0 (Apply 2)
    ∷ begins 1
    ∷ Ask (record { 0 = 2 }) (record { 0 = 1 }) (Look root) (Seen view) true
    ∷ asks 0 (Look root) (Seen view)
    ∷ []

-- so the two overlap
pub two_attempts_overlap : AreOverlapping together root Attrs
two_attempts_overlap = record {
  look = 1;
  other = 4;
  close = 7;
  after = omega arith;
  before = omega arith;
  actor = record { 0 = 2 };
  brick = record { 0 = 1 };
  view = view;
  looked = refl;
  attempt = 5;
  closes = record { brick = record { 0 = 1 }; missed = 0 ∷ []; told = Done; line = refl };
  one_work = unended;
  stranger = record { 0 = 1 };
  second = 2;
  comes = record { brick = record { 0 = 0 }; missed = 1 ∷ []; told = Done; line = refl };
  apart = λ e. cc e;
}
  where
    unended : (k : ℕ) (said : Reply) → 1 ≤ k → k < 7 → from_oldest k together ≡ Some (End (record { 0 = 2 }) said) → ⊥
    unended zero said low high e = cc e
    unended (suc zero) said low high e = cc e
    unended (suc (suc zero)) said low high e = cc e
    unended (suc (suc (suc zero))) said low high e = cc e
    unended (suc (suc (suc (suc zero)))) said low high e = cc e
    unended (suc (suc (suc (suc (suc zero))))) said low high e = cc e
    unended (suc (suc (suc (suc (suc (suc zero)))))) said low high e = cc e
    unended (suc (suc (suc (suc (suc (suc (suc k))))))) said low high e = omega (arith, high)
