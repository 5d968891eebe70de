-- A file that is on every brick after passes of rounds, and one beneath a split-brain that isn't.
use Rattle.std.proofs.Common.{◌≡◌, ℕ, zero, suc, ◌+◌, ◌<◌, false, inl, refl, sym, ◌∙◌, ap, subst, arith, List, [], ◌∷◌, length, Some}
use Rattle.std.specs.Prelude.{slice_get}
use Rattle.afr_base.specs.Bricks.{below}
use Rattle.afr_base.specs.declared.ids.Gfid.{Gfid}
use Rattle.afr_base.specs.declared.ids.Kind.{Kind}
use Rattle.afr_base.specs.declared.ids.Kind.TheVariants.{Names}
use Rattle.afr_base.specs.declared.ids.NameId.{NameId}
use Rattle.afr_base.specs.declared.ids.What.TheVariants.{File}
use Rattle.afr_object.specs.Tables.{Table, copy_at, new_object, opening, opening_gfid, root}
use Rattle.afr_object.specs.declared.change.Change.TheVariants.{Make}
use Rattle.afr_lines.specs.Work.{ended, work}
use Rattle.afr_lines.specs.declared.line.Line.{Line}
use Rattle.afr_lines.specs.declared.line.Line.TheVariants.{Begin}
use Rattle.afr_lines.specs.declared.request.Request.TheVariants.{Apply, Post}
use Rattle.afr_plan.specs.declared.plan.Plan.{Plan}
use Rattle.afr_model.specs.Actors.{IsActor, rounds_of}
use Rattle.afr_model.specs.Cells.{object_of_cell, value_if}
use Rattle.afr_model.specs.Quiet.{tells_any_fault}
use Rattle.afr_model.specs.ReportObjects.{is_split_verdict}
use Rattle.afr_model.specs.Safe.{log_before}
use Rattle.afr_model.specs.Showing.{has}
use Rattle.afr_model.specs.Splits.{IsSplit}
use Rattle.afr_model.specs.Sums.{has_object}
use Rattle.afr_model.specs.Tables.{holds}
use Rattle.afr_law_passes.specs.Converged.{EndsRound, IsConverged, IsEverywhereAs}
use Rattle.afr_law_passes.specs.Reached.Reached.{ArePasses, IsNamed, IsPass, Leads}
use Rattle.afr_test_law.proofs.Promises.Converged.{all_bricks, all_rounds, brick, healing, index, round}
use Rattle.afr_test_law.proofs.Promises.Words.{done, ok, says, told_apart}

-- ---- two passes over three bricks, and a file that is there from the opening
abbrev pub twice : Plan → Plan
twice q = record (healing q) { files = 1; healers = (brick 0 ∷ brick 1 ∷ brick 2 ∷ brick 0 ∷ brick 1 ∷ brick 2 ∷ []) ∷ [] }

abbrev two_passes : List Line
two_passes = all_rounds (all_rounds [])

abbrev pub name : ℕ → NameId
name i = record { 0 = i }

module _ (q : Plan) where
  abbrev p : Plan
  p = twice q

  -- a round ends such a log
  unfoldable pub ends : (b : ℕ) (older : List Line) → slice_get (rounds_of (twice q) 17) (ended 17 (index b ∷ older)) ≡ Some (brick b) → length (log_before (work 17 (index b ∷ older)) (index b ∷ older)) + length (work 17 (index b ∷ older)) ≡ length (index b ∷ older)
      → has tells_any_fault (work 17 (index b ∷ older)) ≡ false → EndsRound (twice q) (brick b) (round b older)
  ends b older over together unfailed = record {
    healer = record { 0 = 17 };
    said = ok;
    older = index b ∷ older;
    last = refl;
    high = omega arith;
    over = over;
    quiet = record { healer = IsActor.Healer (omega arith) (omega arith); together = together; unfailed = unfailed; alone = λ x actor another. absurd (another (alone x actor)) };
  }
    where
      alone : (x : ℕ) → IsActor (twice q) x → x ≡ 17
      alone x (IsActor.Client least most) = absurd (omega (arith, least, most))
      alone x (IsActor.Healer least most) = omega (arith, least, most)

  pub all_three : (b : ℕ) → b < 3 → (i : ℕ) × (slice_get all_bricks i ≡ Some (brick b))
  all_three zero low = (2, refl)
  all_three (suc zero) low = (1, refl)
  all_three (suc (suc zero)) low = (0, refl)
  all_three (suc (suc (suc b))) low = absurd (omega (arith, low))

  first_pass : IsPass (twice q) [] (all_rounds [])
  unfolding ends
  first_pass = record { bricks = all_bricks; rounds = (ends 2 (round 1 (round 0 [])) refl refl refl, (ends 1 (round 0 []) refl refl refl, (ends 0 [] refl refl refl, refl))); all = all_three }

  pub second_pass : IsPass (twice q) (all_rounds []) two_passes
  unfolding ends
  second_pass = record {
    bricks = all_bricks;
    rounds = (ends 2 (round 1 (round 0 (all_rounds []))) refl refl refl, (ends 1 (round 0 (all_rounds [])) refl refl refl, (ends 0 (all_rounds []) refl refl refl, refl)));
    all = all_three;
  }

  pub one_pass_before : ArePasses (twice q) 1 (all_rounds [])
  one_pass_before = ([], first_pass, tt)

  -- one name leads from the root to the file
  pub a_name_leads_to_the_file : Leads (twice q) two_passes 1 (name 0 ∷ []) (opening_gfid 1)
  unfolding below
  a_name_leads_to_the_file = (root, refl, λ split. told_apart (λ verdict. is_split_verdict verdict) _ _ refl refl (sym split), (File, refl))

  -- and it is as the law says
  same : (log : List Line) → ((b : ℕ) → b < 3 → holds (twice q) log b ≡ opening 1) → (b c : ℕ) → b < 3 → c < 3 → holds (twice q) log b ≡ holds (twice q) log c
  same log is b c low near = is b low ∙ sym (is c near)

  opened : (b : ℕ) → b < 3 → holds (twice q) two_passes b ≡ opening 1
  opened zero low = refl
  opened (suc zero) low = refl
  opened (suc (suc zero)) low = refl
  opened (suc (suc (suc b))) low = absurd (omega (arith, low))

  pub every_brick_has_the_file : IsEverywhereAs (twice q) two_passes (opening_gfid 1) File
  every_brick_has_the_file b low = (new_object File, ap (copy_at (opening_gfid 1)) (opened b low), refl)

  pub the_file_is_clear_and_alike : (kind : Kind) → IsConverged (twice q) (all_rounds []) two_passes (opening_gfid 1) kind
  the_file_is_clear_and_alike kind = inl (record {
    clear = λ x low. (refl, λ c near. refl);
    alike = λ b c low near keeps also cell o k. ap (λ (t : Table). value_if cell (copy_at (object_of_cell cell) t)) (same two_passes opened b c low near);
  })

-- ---- three files that are made, each on another two of three bricks
-- a client makes a file with the next number
abbrev makes : ℕ → ℕ → Line
makes i g = Begin (record { 0 = 1 }) (Make root (name i) (record { 0 = g }) File)

-- on two bricks, which accuse the third
abbrev made : ℕ → ℕ → ℕ → ℕ → ℕ → ℕ → List Line → List Line
made i at g b c missed older = says ok ∷ done c (Post at root Names (missed ∷ [])) ∷ done b (Post at root Names (missed ∷ [])) ∷ done c (Apply at) ∷ done b (Apply at) ∷ makes i g ∷ older

-- so the root is in split-brain
abbrev pub three_files : List Line
three_files = made 2 12 14 0 2 1 (made 1 6 8 1 2 0 (made 0 0 2 0 1 2 []))

-- rounds at all bricks leave it so
abbrev after_rounds : List Line
after_rounds = all_rounds three_files

-- the second file
abbrev second_file : Gfid
second_file = record { 0 = 8 }

module _ (q : Plan) where
  pub the_root_is_split : IsSplit (healing q) after_rounds (below 3) root Names
  unfolding below
  the_root_is_split = refl

  -- brick 1 names the second file, and brick 0 lacks it
  pub brick_1_names_a_file : IsNamed (healing q) after_rounds 1 root (name 1) second_file
  brick_1_names_a_file = (File, refl)

  pub brick_0_lacks_it : has_object (healing q) after_rounds second_file 0 ≡ false
  brick_0_lacks_it = refl

  -- but its path goes through the split
  pub no_path_leads_to_it : Leads (healing q) after_rounds 1 (name 1 ∷ []) second_file → ⊥
  no_path_leads_to_it (dir, is, whole, named) = whole (subst (λ (d : Gfid). IsSplit (healing q) after_rounds (below 3) d Names) (sym is) (the_root_is_split))
