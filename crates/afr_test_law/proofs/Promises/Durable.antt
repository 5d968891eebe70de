-- A log that ends in a split-brain and has lost nothing, one that has lost an acknowledged change, and one that lost a change that wasn't acknowledged.
use Rattle.std.proofs.Common.{◌≡◌, ℕ, zero, suc, ◌<◌, ◌==◌, Bool, true, false, not, inl, inr, refl, sym, ap, ◌∙◌, subst, arith, List, [], ◌∷◌, Option, None, Some, true≢false}
use Rattle.std.proofs.lemmas.Bool.{cases_lt, eqb-true}
use Rattle.afr_base.specs.Bricks.{and_left, and_right, from_table}
use Rattle.afr_base.specs.declared.ids.Kind.TheVariants.{Attrs}
use Rattle.afr_object.specs.Tables.{root}
use Rattle.afr_object.specs.declared.change.Change.{Change}
use Rattle.afr_object.specs.declared.change.Change.TheVariants.{Cut, Make, Remove, SetAttr, Write}
use Rattle.afr_object.specs.declared.change.Repair.TheVariants.{PutAttrs}
use Rattle.afr_lines.specs.Log.{from_oldest}
use Rattle.afr_lines.specs.declared.answer.Told.TheVariants.{Given}
use Rattle.afr_lines.specs.declared.line.Line.{Line}
use Rattle.afr_lines.specs.declared.line.Line.TheVariants.{Ask, Begin}
use Rattle.afr_lines.specs.declared.reply.Good.TheVariants as good
use Rattle.afr_lines.specs.declared.reply.Reply.{Reply}
use Rattle.afr_lines.specs.declared.reply.Reply.TheVariants as reply
use Rattle.afr_lines.specs.declared.request.Request.TheVariants.{Apply, Mend, Post, ReadAttrs}
use Rattle.afr_plan.specs.declared.plan.Plan.{Plan}
use Rattle.afr_model.specs.Attempts.{IsAcknowledged, first_reply}
use Rattle.afr_model.specs.Cells.{Attr, Byte, Cell, IsAttr, Name, leaves, touches}
use Rattle.afr_model.specs.Splits.{IsSplit}
use Rattle.afr_model_moves.proofs.ByPosition.{none_at}
use Rattle.afr_law_promises.specs.Durable.{HasDone, IsDurable, IsNotLost, IsSince}
use Rattle.afr_test_law.proofs.Promises.Words.{begins, done, each_of_two, everybody, first, key, says, sets, split, three}

-- an acknowledged change, and then a repair of one of its copies from a brick that missed it
abbrev pub lost : List Line
lost = done 0 (Mend (PutAttrs root 6)) ∷ Ask (record { 0 = 17 }) (record { 0 = 2 }) (ReadAttrs root) Given true ∷ first

-- the same where the change failed: one brick alone closed it
abbrev pub failed : List Line
failed =
    done 0 (Mend (PutAttrs root 5)) ∷ Ask (record { 0 = 17 }) (record { 0 = 2 }) (ReadAttrs root) Given true ∷ says reply.Failed ∷ done 0 (Post 0 root Attrs (2 ∷ [])) ∷ done 1 (Apply 0) ∷ done 0 (Apply 0) ∷ begins 1 ∷ []

-- who begins a change
abbrev begun_by : Option Line → ℕ
begun_by (Some (Begin a change)) = a.0
begun_by line = 0

abbrev is_begin : Option Line → Bool
is_begin (Some (Begin a change)) = true
is_begin line = false

-- whether a command was acknowledged
abbrev is_good : Option Reply → Bool
is_good (Some (reply.Ok said)) = true
is_good said = false

-- the changes touch one cell
one_cell : (P : Cell → Type 0) (value : ℕ) (cell : Cell) → touches (sets value) cell ≡ true → P (Attr root key) → P cell
one_cell P value (Byte g i) hit h = absurd (true≢false (sym hit))
one_cell P value (Attr g k) hit h =
    let object : 1 ≡ g.0 = eqb-true 1 g.0 (and_left (1 == g.0) (7 == k.0) hit) in
    let name : 7 ≡ k.0 = eqb-true 7 k.0 (and_right (1 == g.0) (7 == k.0) hit) in
    subst P (λ i. Attr (record { 0 = object i }) (record { 0 = name i })) h
one_cell P value (Name g name) hit h = absurd (true≢false (sym hit))

module _ (q : Plan) where
  -- every copy is accused
  pub is_split : IsSplit (three q) split everybody root Attrs
  is_split = refl

  -- and each brick has what some attempt left that is no older than the first
  pub a_split_brain_has_lost_nothing : IsNotLost (three q) split 0
  a_split_brain_has_lost_nothing = record {
    bricks = 0 ∷ 1 ∷ [];
    within = λ b inside. each_of_two (λ (k : ℕ). k < 3) (omega arith) (omega arith) b inside;
    majority = refl;
    done = λ b inside. each_of_two (λ (k : ℕ). HasDone split k 0) (record { position = 1; actor = record { 0 = 1 }; line = refl }) (record { position = 2; actor = record { 0 = 1 }; line = refl }) b inside;
    keeper = λ kind. record { brick = 0; inside = refl; keeper = refl };
    since = λ b cell low did kept hit. one_cell (λ (c : Cell). IsSince (three q) split b c 0) 1 cell hit (has b low);
  }
    where
      has : (b : ℕ) → b < 3 → IsSince (three q) split b (Attr root key) 0
      has zero low = record { from = 12; change = sets 3; begun = refl; touch = refl; left = refl; late = omega arith }
      has (suc zero) low = record { from = 6; change = sets 2; begun = refl; touch = refl; left = refl; late = omega arith }
      has (suc (suc zero)) low = record { from = 12; change = sets 3; begun = refl; touch = refl; left = refl; late = omega arith }
      has (suc (suc (suc b))) low = absurd (omega (arith, low))

  -- a repair from a brick that is accused loses the change that it missed
  pub a_repair_from_an_accused_brick_loses_a_change : IsDurable (three q) lost → ⊥
  a_repair_from_an_accused_brick_loses_a_change durable = go (kept.since 0 (Attr root key) (omega arith) (record { position = 1; actor = record { 0 = 1 }; line = refl }) refl refl)
    where
      acked : IsAcknowledged lost 0
      acked = record { actor = record { 0 = 1 }; change = sets 1; begun = refl; good = good.Done; replied = refl }

      kept : IsNotLost (three q) lost 0
      kept = durable 0 acked

      -- nothing stands there, and an attempt that touches an attribute leaves a value
      leaves_some : (change : Change) → touches change (Attr root key) ≡ true → IsAttr None ≡ leaves change (Attr root key) → ⊥
      leaves_some (SetAttr g k value) hit e = cc e
      leaves_some (Write g at bytes) hit e = true≢false (sym hit)
      leaves_some (Cut g len) hit e = true≢false (sym hit)
      leaves_some (Make dir name g what) hit e = true≢false (sym hit)
      leaves_some (Remove dir name what) hit e = true≢false (sym hit)

      go : IsSince (three q) lost 0 (Attr root key) 0 → ⊥
      go w = leaves_some w.change w.touch w.left

  -- a change that failed may be lost
  pub a_failed_change_may_be_lost : IsDurable (three q) failed
  a_failed_change_may_be_lost k acked = absurd (none k acked)
    where
      none : (k : ℕ) → IsAcknowledged failed k → ⊥
      none zero w = true≢false (sym (subst (λ (a : ℕ). is_good (first_reply a 0 failed) ≡ true) (sym (ap begun_by w.begun)) (ap is_good w.replied)))
      none (suc k) w = elim (cases_lt k 6) [
        | inl low ↦ true≢false (sym (from_table 6 (λ m. not (is_begin (from_oldest (suc m) failed))) refl k low) ∙ ap (λ (l : Option Line). not (is_begin l)) w.begun)
        | inr high ↦ true≢false (sym (ap is_begin (sym (none_at failed (suc k) (omega (arith, high))) ∙ w.begun)))
      ]
