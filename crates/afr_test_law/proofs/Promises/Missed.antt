-- A split-brain in which each copy missed a change, a number that stood before, and a copy that missed nothing.
use Rattle.std.proofs.Common.{◌≡◌, true, inl, refl, sym, arith, [], ◌∷◌}
use Rattle.afr_base.specs.declared.ids.Kind.TheVariants.{Attrs}
use Rattle.afr_object.specs.Tables.{root}
use Rattle.afr_lines.specs.Log.{before}
use Rattle.afr_lines.specs.declared.answer.Told.TheVariants.{Done}
use Rattle.afr_lines.specs.declared.line.Line.TheVariants.{Ask}
use Rattle.afr_lines.specs.declared.request.Request.TheVariants.{Apply}
use Rattle.afr_plan.specs.declared.plan.Plan.{Plan}
use Rattle.afr_model.specs.Safe.{accuses}
use Rattle.afr_model.specs.Splits.{IsSplit}
use Rattle.afr_law_promises.specs.Missed.Missed.{IsMissed}
use Rattle.afr_model.specs.ReportObjects.{is_split_verdict}
use Rattle.afr_test_law.proofs.Promises.Words.{everybody, none_did, second, sets, split, three, told_apart}

module _ (q : Plan) where
  -- every copy is accused
  pub is_split : IsSplit (three q) split everybody root Attrs
  is_split = refl

  -- brick 2 missed the first change, brick 0 the second, brick 1 the third
  pub brick_2_missed_the_first : IsMissed split everybody 0 2 root Attrs
  brick_2_missed_the_first = record {
    brick = 0;
    inside = refl;
    cause = record {
      cause = record {
        position = 3;
        actor = record { 0 = 1 };
        attempt = 0;
        missed = 2 ∷ [];
        told = Done;
        posted = refl;
        heard = inl refl;
        named = refl;
        change = sets 1;
        earlier = omega arith;
        begun = refl;
        object_same = refl;
        kind_same = refl;
        not_done = λ m other low is. none_did split 2 0 3 refl m (Ask other (record { 0 = 2 }) (Apply 0) Done true) low is refl;
      };
      after = omega arith;
    };
  }

  pub brick_0_missed_the_second : IsMissed split everybody 0 0 root Attrs
  brick_0_missed_the_second = record {
    brick = 1;
    inside = refl;
    cause = record {
      cause = record {
        position = 9;
        actor = record { 0 = 1 };
        attempt = 6;
        missed = 0 ∷ [];
        told = Done;
        posted = refl;
        heard = inl refl;
        named = refl;
        change = sets 2;
        earlier = omega arith;
        begun = refl;
        object_same = refl;
        kind_same = refl;
        not_done = λ m other low is. none_did split 0 6 9 refl m (Ask other (record { 0 = 0 }) (Apply 6) Done true) low is refl;
      };
      after = omega arith;
    };
  }

  pub brick_1_missed_the_third : IsMissed split everybody 0 1 root Attrs
  brick_1_missed_the_third = record {
    brick = 0;
    inside = refl;
    cause = record {
      cause = record {
        position = 15;
        actor = record { 0 = 1 };
        attempt = 12;
        missed = 1 ∷ [];
        told = Done;
        posted = refl;
        heard = inl refl;
        named = refl;
        change = sets 3;
        earlier = omega arith;
        begun = refl;
        object_same = refl;
        kind_same = refl;
        not_done = λ m other low is. none_did split 1 12 15 refl m (Ask other (record { 0 = 1 }) (Apply 12) Done true) low is refl;
      };
      after = omega arith;
    };
  }

  -- a number that stood at the moment needs no cause since then
  pub brick_0_accused_brick_2_before : accuses (three q) (before 6 split) root Attrs 0 2 ≡ true
  brick_0_accused_brick_2_before = refl

  -- a copy that missed nothing: after two of the changes no split-brain
  pub without_the_third_change_no_split : IsSplit (three q) second everybody root Attrs → ⊥
  without_the_third_change_no_split split = told_apart (λ verdict. is_split_verdict verdict) _ _ refl refl (sym split)
