-- The lowest brick whose turn it is, and steps that are over.
use Rattle.std.proofs.Common.{◌≡◌, ℕ, zero, suc, ◌<◌, ◌&&◌, ◌||◌, not, nat_le, nat_lt, Bool, true, false, refl, sym, ◌∙◌, subst, arith, Option, None, Some, inl, inr}
use Rattle.std.proofs.lemmas.Bool.Decides.{nat_tests, eqb_tells}
use Rattle.afr_base.specs.declared.ids.Kind.{Kind}
use Rattle.afr_model_moves.specs.Register.{Exact, Step, asked_in, over, rank}
use Rattle.afr_model_moves.specs.Steps.{is_lowest, passed, set_of, turn}
use Rattle.afr_discipline.specs.Turns.{find, later, turn_of}
use Rattle.afr_heal.specs.Standing.{behind}
use Rattle.afr_heal.proofs.Parts.{pair, both, denied, not_both, off, or_true}

pub find_some : (n : ℕ) (p : ℕ → Bool) (b : ℕ) → find n p ≡ Some b → (b < n) × (p b ≡ true)
find_some zero p b h = absurd (cc h)
find_some (suc n) p b h = go (find n p) refl (p n) refl h (find_some n p b)
  where
    go : (o : Option ℕ) → find n p ≡ o → (x : Bool) → p n ≡ x → later o n x ≡ Some b → (find n p ≡ Some b → (b < n) × (p b ≡ true)) → (b < suc n) × (p b ≡ true)
    go (Some c) e x f h rest = let w = rest (e ∙ h) in (omega (arith, w.0), w.1)
    go None e true f h rest = let is : n ≡ b = cc h in (omega (arith, is), subst (λ (m : ℕ). p m ≡ true) is f)
    go None e false f h rest = absurd (cc h)

pub find_none : (n : ℕ) (p : ℕ → Bool) → find n p ≡ None → (b : ℕ) → b < n → p b ≡ false
find_none zero p h b l = absurd (omega (arith, l))
find_none (suc n) p h b l = go (find n p) refl (p n) refl h (find_none n p)
  where
    go : (o : Option ℕ) → find n p ≡ o → (x : Bool) → p n ≡ x → later o n x ≡ None → (find n p ≡ None → (b : ℕ) → b < n → p b ≡ false) → p b ≡ false
    go (Some c) e x f h rest = absurd (cc h)
    go None e true f h rest = absurd (cc h)
    go None e false f h rest = elim (eqb_tells b n) [
      | inl w ↦ subst (λ (m : ℕ). p m ≡ false) (sym w.1) f
      | inr w ↦ rest e b (let d = w.1 in grind (arith, d, l))
    ]

-- each brick of a set that is over was asked
pub over_asked : (n : ℕ) (set asked : ℕ → Bool) → over n set asked ≡ true → (x : ℕ) → x < n → set x ≡ true → asked x ≡ true
over_asked zero set asked h x l m = absurd (omega (arith, l))
over_asked (suc n) set asked h x l m = elim (eqb_tells x n) [
  | inl w ↦ subst (λ (y : ℕ). asked y ≡ true) (sym w.1) (here (set n) (asked n) (subst (λ (y : ℕ). set y ≡ true) w.1 m) (both (not (set n) || asked n) (over n set asked) h).0)
  | inr w ↦ over_asked n set asked (both (not (set n) || asked n) (over n set asked) h).1 x (let d = w.1 in grind (arith, d, l)) m
]
  where
    here : (s a : Bool) → s ≡ true → (not s || a) ≡ true → a ≡ true
    here true a e h = h
    here false a e h = absurd (cc e)

pub over_all : (n : ℕ) (set asked : ℕ → Bool) → ((x : ℕ) → x < n → set x ≡ true → asked x ≡ true) → over n set asked ≡ true
over_all zero set asked h = refl
over_all (suc n) set asked h = pair (not (set n) || asked n) (over n set asked) (here (set n) (asked n) (h n (omega arith))) (over_all n set asked (λ x l m. h x (omega (arith, l)) m))
  where
    here : (s a : Bool) → (s ≡ true → a ≡ true) → (not s || a) ≡ true
    here true a h = h refl
    here false a h = refl

-- where no brick is the lowest, all were asked
pub over_lowest : (set asked : ℕ → Bool) (k : ℕ) → ((b : ℕ) → b < k → is_lowest set asked b ≡ false) → over k set asked ≡ true
over_lowest set asked zero h = refl
over_lowest set asked (suc k) h = go (set k) (asked k) (over k set asked) (over_lowest set asked k (λ b l. h b (omega (arith, l)))) (h k (omega arith))
  where
    go : (set asked under : Bool) → under ≡ true → (set && not asked && under) ≡ false → ((not set || asked) && under) ≡ true
    go false asked under e h = e
    go true true under e h = e
    go true false under e h = absurd (not_both under e h)

module _ (n : ℕ) (keeps : ℕ → Kind → Bool) (r : Exact) (s : ℕ) where
  turn_lowest : (step : Step) → nat_le (rank r.step) (rank step) ≡ true → (b : ℕ) → turn n keeps r s step b ≡ is_lowest (set_of n keeps r s step) (asked_in r step) b
  turn_lowest step e b = rw e refl

  -- where it is nobody's turn, the step is over
  pub passed_none : (step : Step) → turn_of n keeps r s step ≡ None → passed n keeps r s step ≡ true
  passed_none step h = go (nat_le (rank r.step) (rank step)) refl
    where
      go : (x : Bool) → nat_le (rank r.step) (rank step) ≡ x → passed n keeps r s step ≡ true
      go true e =
          let o = over_lowest (set_of n keeps r s step) (asked_in r step) n (λ b l. sym (turn_lowest step e b) ∙ find_none n (turn n keeps r s step) h b l) in
          rw o (or_true (nat_lt (rank step) (rank r.step)))
      go false e = let behind : nat_lt (rank step) (rank r.step) ≡ true = grind (arith, nat_tests, e) in rw behind refl

  -- a brick of a step that has passed is behind
  pub passed_behind : (step : Step) → passed n keeps r s step ≡ true → (x : ℕ) → x < n → set_of n keeps r s step x ≡ true → behind r step x ≡ true
  passed_behind step h x l m = go (nat_lt (rank step) (rank r.step)) (over n (set_of n keeps r s step) (asked_in r step)) h (λ e. over_asked n (set_of n keeps r s step) (asked_in r step) e x l m)
    where
      go : (a o : Bool) → (a || o) ≡ true → (o ≡ true → asked_in r step x ≡ true) → (a || asked_in r step x) ≡ true
      go true o h f = refl
      go false o h f = f h

  -- and it is nobody's turn there
  pub passed_off : (step : Step) → passed n keeps r s step ≡ true → (x : ℕ) → x < n → turn n keeps r s step x ≡ true → ⊥
  passed_off step h x l t =
      let parts = both _ (over x (set_of n keeps r s step) (asked_in r step)) t in
      let two = both _ (not (asked_in r step x)) parts.0 in
      let three = both (nat_le (rank r.step) (rank step)) (set_of n keeps r s step x) two.0 in
      go (nat_lt (rank step) (rank r.step)) refl three.0 (denied (asked_in r step x) two.1) (passed_behind step h x l three.1)
    where
      go : (a : Bool) → nat_lt (rank step) (rank r.step) ≡ a → nat_le (rank r.step) (rank step) ≡ true → asked_in r step x ≡ false → (a || asked_in r step x) ≡ true → ⊥
      go true e low off h = grind (arith, nat_tests, e, low)
      go false e low off h = not_both (asked_in r step x) h off

  -- the parts of a turn
  pub turn_low : (step : Step) (b : ℕ) → turn n keeps r s step b ≡ true → nat_le (rank r.step) (rank step) ≡ true
  turn_low step b t = (both (nat_le (rank r.step) (rank step)) (set_of n keeps r s step b) (both _ (not (asked_in r step b)) (both _ (over b (set_of n keeps r s step) (asked_in r step)) t).0).0).0

  pub turn_set : (step : Step) (b : ℕ) → turn n keeps r s step b ≡ true → set_of n keeps r s step b ≡ true
  turn_set step b t = (both (nat_le (rank r.step) (rank step)) (set_of n keeps r s step b) (both _ (not (asked_in r step b)) (both _ (over b (set_of n keeps r s step) (asked_in r step)) t).0).0).1

  pub turn_new : (step : Step) (b : ℕ) → turn n keeps r s step b ≡ true → asked_in r step b ≡ false
  turn_new step b t = denied (asked_in r step b) (both _ (not (asked_in r step b)) (both _ (over b (set_of n keeps r s step) (asked_in r step)) t).0).1
