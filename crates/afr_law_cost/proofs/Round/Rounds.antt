-- Each line of a round comes nearer to its end.
use Rattle.std.proofs.Common.{◌≡◌, ◌≤◌, ◌+◌, ◌*◌, ℕ, zero, suc, true, false, ap, arith, refl, if◌then◌else◌, List, [], ◌∷◌, length, Option, None, Some, slice_get}
use Rattle.std.specs.Prelude.{drop, is_some}
use Rattle.std.proofs.Math.Nat.{mul-le-mul_right}
use Rattle.afr_base.specs.declared.ids.Gfid.{Gfid}
use Rattle.afr_base.specs.declared.ids.Kind.{Kind}
use Rattle.afr_base.specs.declared.ids.Kind.TheVariants.{Attrs}
use Rattle.afr_base.specs.declared.ids.Shape.{Shape}
use Rattle.afr_base.specs.declared.ids.What.{What}
use Rattle.afr_base.specs.declared.ids.What.TheVariants.{Dir, File}
use Rattle.afr_heal_round.specs.List.Round.{RoundProgress, heals_in, next_due, with_list}
use Rattle.afr_law_cost.specs.Left.{heal_cost}
use Rattle.afr_heal_round.specs.Rounding.{going_on, healed, indexed, stage_due}
use Rattle.afr_heal_round.specs.declared.stage.RoundStage.{RoundStage}
use Rattle.afr_heal_round.specs.declared.stage.RoundStage.TheVariants.{Asking, Healing as At, Over}
use Rattle.afr_lines.specs.declared.answer.Answer.TheVariants as answer_of
use Rattle.afr_model.specs.Rounds.{heals_of, kind_within}
use Rattle.afr_law_cost.specs.Round.Laws.{HealCosts, HealedNearer, IndexNearer, RoundCosts, RoundEndLeft, RoundFollows}
use Rattle.afr_law_cost.specs.Round.Left.{AreRooted, heals_cost, due_left, heal_left, left_in_stage, object_cost, round_left}
use Rattle.afr_heal_machine.specs.Healing.{heal_from}

-- ---- sums
one_more : (l m c : ℕ) → c ≤ l * m → m + c ≤ suc l * m
one_more l m c h = omega (arith, h)

-- two heals of an object cost less than it may
pair_cost : (n : ℕ) (what : What) → heal_cost n Attrs + heal_cost n (kind_within what) ≤ object_cost n
pair_cost n File = omega arith
pair_cost n Dir = omega arith

list_cost : (n : ℕ) (list : List (Gfid × What)) → heals_cost n (heals_of list) ≤ length list * object_cost n
list_cost n [] = omega arith
list_cost n (x ∷ more) =
    let h = one_more (length more) (object_cost n) (heals_cost n (heals_of more)) (list_cost n more) in
    let k = pair_cost n x.1 in
    let s : heals_cost n (heals_of (x ∷ more)) ≡ heal_cost n Attrs + (heal_cost n (kind_within x.1) + heals_cost n (heals_of more)) = refl in
    sum (heal_cost n Attrs) (heal_cost n (kind_within x.1)) (heals_cost n (heals_of more)) (object_cost n) (suc (length more) * object_cost n) k h
  where
    sum : (a b c m t : ℕ) → a + b ≤ m → m + c ≤ t → a + (b + c) ≤ t
    sum a b c m t h k = omega (arith, h, k)

-- the heal at a place and those after it
due_next : (n : ℕ) (xs : List (Gfid × Kind)) (k : ℕ) (x : Gfid × Kind) → slice_get xs k ≡ Some x → heals_cost n (drop k xs) ≡ heal_cost n x.1 + heals_cost n (drop (suc k) xs)
due_next n [] k x e = absurd (cc e)
due_next n (y ∷ xs) zero x e = (let is : y ≡ x = cc e in ap (λ (z : Gfid × Kind). heal_cost n z.1 + heals_cost n xs) is)
due_next n (y ∷ xs) (suc k) x e = due_next n xs k x e

-- ---- the heal that is due, or the end
due_most : HealCosts → (objects : ℕ) (shape : Shape) (r : RoundProgress) → (round_left objects (going_on shape r) ≤ due_left shape.n r + 1) × AreRooted (going_on shape r).stage
due_most costs objects shape r = go (next_due r) refl
  where
    go : (o : Option (Gfid × Kind)) → next_due r ≡ o
        → (left_in_stage shape.n objects (if is_some o then record r { given = r.given + 1 } else r) (stage_due shape o) ≤ due_left shape.n r + 1) × AreRooted (stage_due shape o)
    go None e = (omega arith, tt)
    go (Some due) e =
        let c = costs shape due.0 due.1 in
        let one : r.given + 1 ≡ suc r.given = omega arith in
        let h = due_next shape.n (heals_in r.list) r.given due e in
        let j = ap (λ (k : ℕ). heals_cost shape.n (drop k (heals_in r.list))) one in
        (sum (heal_left (heal_from shape due.0 due.1)) (heal_cost shape.n due.1) (heals_cost shape.n (drop (r.given + 1) (heals_in r.list))) (heals_cost shape.n (drop (suc r.given) (heals_in r.list))) (due_left shape.n r) c.0 j h, c.1)
      where
        sum : (l c d e f : ℕ) → l ≤ c → d ≡ e → f ≡ c + e → l + d + 1 ≤ f + 1
        sum l c d e f a b g = omega (arith, a, b, g)

pub index_nearer : HealCosts → IndexNearer
index_nearer costs objects m true (answer_of.Index list) asking lists =
    let h = due_most costs objects m.shape (with_list list m.round) in
    let a = list_cost m.shape.n list in
    let b = mul-le-mul_right (object_cost m.shape.n) lists in
    let e = ap (left_in_stage m.shape.n objects m.round) asking in
    (sum (round_left objects (indexed true (answer_of.Index list) m)) (heals_cost m.shape.n (heals_of list)) (length list * object_cost m.shape.n) (objects * object_cost m.shape.n) (round_left objects m) h.0 a b e, h.1)
  where
    sum : (l c x y m : ℕ) → l ≤ c + 1 → c ≤ x → x ≤ y → m ≡ y + 2 → l + 1 ≤ m
    sum l c x y m h a b e = omega (arith, h, a, b, e)
index_nearer costs objects m false (answer_of.Index list) asking lists = (let e = ap (left_in_stage m.shape.n objects m.round) asking in omega (arith, e), tt)
index_nearer costs objects m heals _ asking lists = (let e = ap (left_in_stage m.shape.n objects m.round) asking in omega (arith, e), tt)

pub round_follows : RoundFollows
round_follows objects m before after c is h = (
    let e = ap (left_in_stage m.shape.n objects m.round) is in
    sum (heal_left after) (heal_left before) (due_left m.shape.n m.round) c (round_left objects m) h e)
  where
    sum : (a b d c m : ℕ) → a + c ≤ b → m ≡ b + d + 1 → a + d + 1 + c ≤ m
    sum a b d c m h e = omega (arith, h, e)

pub healed_nearer : HealCosts → HealedNearer
healed_nearer costs objects m heal is some =
    let h = due_most costs objects m.shape m.round in
    let e = ap (left_in_stage m.shape.n objects m.round) is in
    (sum (round_left objects (healed m)) (due_left m.shape.n m.round) (heal_left heal) (round_left objects m) h.0 e some, h.1)
  where
    sum : (l d a m : ℕ) → l ≤ d + 1 → m ≡ a + d + 1 → 1 ≤ a → l + 1 ≤ m
    sum l d a m h e s = omega (arith, h, e, s)

pub round_costs : RoundCosts
round_costs objects shape heals b = omega arith

pub round_end_left : RoundEndLeft
round_end_left objects m = go m.stage
  where
    go : (stage : RoundStage) → 1 ≤ left_in_stage m.shape.n objects m.round stage
    go (Asking heals) = omega arith
    go (At heal) = omega arith
    go (Over refused) = omega arith
