-- Small facts for the opening of a heal: sets with one brick more or less, and what the end of a stage says.
use Rattle.std.proofs.Common.{◌≡◌, ℕ, zero, suc, ◌*◌, ◌+◌, ◌<◌, ◌≤◌, ◌==◌, ◌&&◌, ◌||◌, not, nat_lt, Bool, true, false, List, [], refl, sym, ◌∙◌, subst, arith, if◌then◌else◌}
use Rattle.std.proofs.lemmas.Bool.{eqb-true}
use Rattle.std.proofs.lemmas.Bool.Decides.{nat_tests}
use Rattle.afr_base.specs.Bricks.{added, added_if, below, member, minus}
use Rattle.afr_base.specs.Majority.{count_below, is_majority, is_most}
use Rattle.afr_base.specs.SetLemmas.{below_all, member_added, member_minus, member_removed, most_same}
use Rattle.afr_base.specs.declared.ids.Gfid.{Gfid}
use Rattle.afr_base.specs.declared.ids.Kind.{Kind}
use Rattle.afr_base.specs.declared.ids.Shape.{Shape}
use Rattle.afr_choice.specs.declared.looked.Looked.{Looked}
use Rattle.afr_heal.proofs.Parts.{not_both}
use Rattle.afr_law_heal.specs.HealTelling.{Tells, TellsAt}
use Rattle.afr_law_heal.specs.Stages.{TellsOver}
use Rattle.afr_lines.specs.Work.{Work}
use Rattle.afr_model.specs.Standing.{marked}
use Rattle.afr_model_moves.specs.Note.{put}
use Rattle.afr_model_moves.specs.Register.{Exact}
use Rattle.afr_heal_machine.specs.Outcome.{outcome_after}
use Rattle.afr_heal_machine.specs.declared.outcome.HealOutcome.{HealOutcome}
use Rattle.afr_heal_machine.specs.declared.outcome.HealOutcome.TheVariants.{Settled}

-- ---- one brick noted anew
-- what is noted anew as it was changes nothing
pub put_old : (f : ℕ → Bool) (b : ℕ) (v : Bool) (x : ℕ) → f b ≡ v → f x ≡ put f b v x
put_old f b v x h = go (x == b) refl
  where
    go : (e : Bool) → (x == b) ≡ e → f x ≡ (if e then v else f x)
    go true e = subst (λ (y : ℕ). f y ≡ v) (sym (eqb-true x b e)) h
    go false e = refl

-- what holds of the brick itself, and of all others, holds of each
pub at_each : (P : ℕ → Type 0) (b x : ℕ) → P b → ((x == b) ≡ false → P x) → P x
at_each P b x own other = go (x == b) refl
  where
    go : (e : Bool) → (x == b) ≡ e → P x
    go true e = subst P (sym (eqb-true x b e)) own
    go false e = other e

pub put_own : (f : ℕ → Bool) (b : ℕ) (v : Bool) → put f b v b ≡ v
put_own f b v = let same : (b == b) ≡ true = grind (arith, nat_tests) in rw same refl

pub put_other : (f : ℕ → Bool) (b : ℕ) (v : Bool) (x : ℕ) → (x == b) ≡ false → put f b v x ≡ f x
put_other f b v x e = rw e refl

-- a set with one brick more
pub added_own : (b : ℕ) (s : List ℕ) → member (added b s) b ≡ true
added_own b s = let same : (b == b) ≡ true = grind (arith, nat_tests) in member_added b s b ∙ rw same refl

pub added_other : (b : ℕ) (s : List ℕ) (x : ℕ) → (x == b) ≡ false → member (added b s) x ≡ member s x
added_other b s x e = let turned : (b == x) ≡ false = grind (arith, nat_tests, e) in member_added b s x ∙ rw turned refl

-- the same where a flag is set
pub added_if_own : (flag : Bool) (b : ℕ) (s : List ℕ) → member (added_if flag b s) b ≡ (flag || member s b)
added_if_own true b s = added_own b s
added_if_own false b s = refl

pub added_if_other : (flag : Bool) (b : ℕ) (s : List ℕ) (x : ℕ) → (x == b) ≡ false → member (added_if flag b s) x ≡ member s x
added_if_other true b s x e = added_other b s x e
added_if_other false b s x e = refl

-- a set where the brick is in it as the flag says
pub marked_own : (flag : Bool) (b : ℕ) (s : List ℕ) → member (marked flag b s) b ≡ flag
marked_own true b s = added_own b s
marked_own false b s = let same : (b == b) ≡ true = grind (arith, nat_tests) in member_removed b s b ∙ rw same refl

pub marked_other : (flag : Bool) (b : ℕ) (s : List ℕ) (x : ℕ) → (x == b) ≡ false → member (marked flag b s) x ≡ member s x
marked_other true b s x e = added_other b s x e
marked_other false b s x e = let turned : (b == x) ≡ false = grind (arith, nat_tests, e) in member_removed b s x ∙ rw turned refl

-- ---- majorities
-- those that are left of all are a majority where the test says so
pub left_most : (n : ℕ) (s : List ℕ) (p : ℕ → Bool) → n ≤ 5 → ((x : ℕ) → x < n → member s x ≡ not (p x)) → is_majority n (minus (below n) s) ≡ is_most n p
left_most n s p few h = most_same n (member (minus (below n) s)) p (λ x l. member_minus (below n) s x ∙ go x l (member s x) (p x) (h x l) (below_all n x few l))
  where
    go : (x : ℕ) → x < n → (m q : Bool) → m ≡ not q → member (below n) x ≡ true → (not m && member (below n) x) ≡ q
    go x l m true e k = rw (e, k) refl
    go x l m false e k = rw e refl

-- a test that more pass is passed by a majority where the other is
count_more : (n : ℕ) (p q : ℕ → Bool) → ((x : ℕ) → x < n → p x ≡ true → q x ≡ true) → count_below n p ≤ count_below n q
count_more zero p q h = omega arith
count_more (suc n) p q h = step (p n) refl (q n) refl (count_more n p q (λ x l. h x (omega (arith, l))))
  where
    step : (x : Bool) → p n ≡ x → (y : Bool) → q n ≡ y → count_below n p ≤ count_below n q
        → (if x then 1 else 0) + count_below n p ≤ (if y then 1 else 0) + count_below n q
    step true e true f ih = omega (arith, ih)
    step true e false f ih = absurd (not_both (q n) (h n (omega arith) e) f)
    step false e true f ih = omega (arith, ih)
    step false e false f ih = omega (arith, ih)

pub most_more : (n : ℕ) (p q : ℕ → Bool) → ((x : ℕ) → x < n → p x ≡ true → q x ≡ true) → is_most n p ≡ true → is_most n q ≡ true
most_more n p q h m = grind (arith, nat_tests, count_more n p q h, m)

pub no_most : (n : ℕ) → is_majority n [] ≡ false
no_most n = let z : count_below n (member []) ≡ 0 = count n in rw z (none n)
  where
    count : (n : ℕ) → count_below n (member []) ≡ 0
    count zero = refl
    count (suc n) = omega (arith, count n)

    none : (n : ℕ) → nat_lt n (2 * 0) ≡ false
    none n = grind (arith, nat_tests)

-- ---- the end of a stage, or its next line
-- a heal that an answer ends, or that goes on
pub tells_by : (was : Bool) (shape : Shape) (q : Exact) (seen looked : Looked) (s : ℕ) (g : Gfid) (kind : Kind) (o c : HealOutcome) (w : Work) → was ≡ false → o ≡ Settled
    → (q.broken ≡ true → TellsOver shape seen g kind c w) → (q.broken ≡ false → TellsAt false q.step q.part shape q seen looked s g kind o w) → Tells shape q seen looked s g kind (outcome_after was q.broken o c) w
tells_by true shape q seen looked s g kind o c w e will over more = absurd (cc e)
tells_by false shape q seen looked s g kind o c w e will over more = record { at = go q.broken refl; will = calm q.broken }
  where
    go : (f : Bool) → q.broken ≡ f → TellsAt f q.step q.part shape q seen looked s g kind (outcome_after false f o c) w
    go true h = over h
    go false h = more h

    calm : (f : Bool) → f ≡ false → outcome_after false f o c ≡ Settled
    calm true h = absurd (cc h)
    calm false h = will
