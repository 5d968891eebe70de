-- Small facts of tests, sets and looks.
use Rattle.std.proofs.Common.{◌≡◌, ℕ, zero, suc, ◌*◌, ◌<◌, ◌≤◌, ◌||◌, nat_lt, Bool, true, false, List, [], ◌∷◌, refl, sym, ◌∙◌, ap, subst, arith, Option, None, Some, is_some, inl, inr}
use Rattle.std.proofs.lemmas.Bool.Decides.{nat_tests, eqb_tells}
use Rattle.afr_base.specs.Bricks.{added_if, member, removed, is_nothing, IsWithin}
use Rattle.afr_base.specs.Majority.{is_most, count_below}
use Rattle.afr_base.specs.SetLemmas.{member_added, member_removed, within_added_if, within_removed_if}
use Rattle.afr_object.specs.declared.change.Change.{Change}
use Rattle.afr_object.specs.declared.entry.View.{View}
use Rattle.afr_choice.proofs.Agreement.{IsAnswered, holders_tell}
use Rattle.afr_choice.specs.Looks.{no_looks, view_at, with_look, without_look}
use Rattle.afr_choice.specs.LooksLemmas.{view_after_loss, view_after_other_look, view_after_other_loss, length_after_look, length_after_loss}
use Rattle.afr_choice.specs.Verdict.{holders_of}
use Rattle.afr_choice.specs.VerdictLemmas.{member_holders}
use Rattle.afr_choice.specs.declared.looked.Looked.{Looked}
use Rattle.afr_lines.specs.declared.request.Area.{Area}
use Rattle.afr_model_moves.specs.Sets.{any}
use Rattle.afr_model_moves.specs.Register.{holder}
use Rattle.afr_model_moves.proofs.Tests.{some_yes}
use Rattle.afr_discipline.specs.Stands.{views_of}
use Rattle.afr_client_transaction.specs.Sound.{Base, Shown}
pub use Rattle.afr_model_moves.proofs.Tests.{both, denied, deny, lt_test, no_or, pair}

-- ---- sets
pub nonempty_before : (b : ℕ) (s : List ℕ) → is_nothing (removed b s) ≡ false → is_nothing s ≡ false
nonempty_before b [] h = absurd (cc h)
nonempty_before b (x ∷ xs) h = refl

-- no brick below n is in the set, so none at all
pub none_at : (n : ℕ) (s : List ℕ) → any n (member s) ≡ false → IsWithin n s → (c : ℕ) → member s c ≡ false
none_at n s h within c = go (member s c) refl
  where
    off : (n : ℕ) → any n (member s) ≡ false → (c : ℕ) → c < n → member s c ≡ false
    off zero h c l = absurd (omega arith)
    off (suc n) h c l = elim (eqb_tells c n) [
      | inl e ↦ subst (λ (x : ℕ). member s x ≡ false) (sym e.1) (no_or (member s n) (any n (member s)) h).0
      | inr e ↦ off n (no_or (member s n) (any n (member s)) h).1 c (let d = e.1 in grind (arith, d, l))
    ]

    go : (x : Bool) → member s c ≡ x → member s c ≡ false
    go true e = off n h c (within c e)
    go false e = e

-- some brick is in a set that isn't empty
pub any_member : (n : ℕ) (s : List ℕ) → any n (member s) ≡ true → is_nothing s ≡ false
any_member n [] h = absurd (none n h)
  where
    none : (n : ℕ) → any n (member []) ≡ true → ⊥
    none zero h = cc h
    none (suc n) h = none n h
any_member n (x ∷ xs) h = refl

pub any_nothing : (n : ℕ) → any n (member []) ≡ false
any_nothing zero = refl
any_nothing (suc n) = any_nothing n

-- a majority has a brick
pub some_of_most : (n : ℕ) (p : ℕ → Bool) → is_most n p ≡ true → (s : ℕ) × (s < n) × (p s ≡ true)
some_of_most n p h = some_yes n p (go n (count n) h)
  where
    count : (n : ℕ) → any n p ≡ false → count_below n p ≡ 0
    count zero h = refl
    count (suc n) h = let e = (no_or (p n) (any n p) h).0 in let f = count n (no_or (p n) (any n p) h).1 in rw (e, f) refl

    go : (n : ℕ) → (any n p ≡ false → count_below n p ≡ 0) → is_most n p ≡ true → any n p ≡ true
    go n count h = pick (any n p) refl
      where
        pick : (x : Bool) → any n p ≡ x → any n p ≡ true
        pick true e = e
        pick false e = let z = count e in let k : nat_lt n (2 * 0) ≡ true = rw z at h in absurd (grind (arith, nat_tests, k))

-- ---- looks
pub answered_by : (n : ℕ) (looked : Looked) → Shown n looked → IsAnswered n looked
answered_by n looked shown = record { low = shown.reached; shown = shown.seen }

pub shown_none : (n : ℕ) → Shown n no_looks
shown_none n = record { five = refl; reached = λ b m. absurd (cc m); seen = λ b h. absurd (none b h) }
  where
    none : (b : ℕ) → is_some (view_at b no_looks) ≡ true → ⊥
    none zero h = cc h
    none (suc zero) h = cc h
    none (suc (suc zero)) h = cc h
    none (suc (suc (suc zero))) h = cc h
    none (suc (suc (suc (suc zero)))) h = cc h
    none (suc (suc (suc (suc (suc b))))) h = cc h

pub shown_look : (n b : ℕ) (view : Option View) (looked : Looked) → b < n → Shown n looked → Shown n (with_look b view looked)
shown_look n b view looked l k = record {
  five = length_after_look b view looked ∙ k.five;
  reached = within_added_if n b looked.reached true l k.reached;
  seen = λ c h. elim (eqb_tells b c) [
    | inl e ↦ member_added b looked.reached c ∙ rw e.0 refl
    | inr e ↦ (let d = e.1 in member_added b looked.reached c ∙ rw e.0 (k.seen c (subst (λ (v : Option View). is_some v ≡ true) (view_after_other_look b c view looked (λ f. d (sym f))) h)))
  ];
}

pub shown_loss : (n b : ℕ) (looked : Looked) → n ≤ 5 → b < n → Shown n looked → Shown n (without_look b looked)
shown_loss n b looked few l k = record {
  five = length_after_loss b looked ∙ k.five;
  reached = within_removed_if n b looked.reached true k.reached;
  seen = λ c h. elim (eqb_tells b c) [
    | inl e ↦ absurd (lost c e.1 h)
    | inr e ↦ (let d = e.1 in member_removed b looked.reached c ∙ rw e.0 (k.seen c (subst (λ (v : Option View). is_some v ≡ true) (view_after_other_loss b c looked (λ f. d (sym f))) h)))
  ];
}
  where
    none_is : (v : Option View) → v ≡ None → is_some v ≡ true → ⊥
    none_is None e h = cc h
    none_is (Some view) e h = cc e

    lost : (c : ℕ) → b ≡ c → is_some (view_at c (without_look b looked)) ≡ true → ⊥
    lost c e h =
        let five = k.five in
        let gone : view_at b (without_look b looked) ≡ None = view_after_loss b looked (omega (arith, few, l, five)) in
        let h2 : is_some (view_at b (without_look b looked)) ≡ true = rw (← e) at h in
        none_is (view_at b (without_look b looked)) gone h2

-- a brick that shows a view is a holder
pub holder_is : (n b : ℕ) (looked : Looked) → n ≤ 5 → b < n → Shown n looked → holder (views_of looked) b ≡ true → member (holders_of looked) b ≡ true
holder_is n b looked few l k h = holders_tell n looked few (answered_by n looked k) b (omega (arith, few, l)) ∙ h

pub holder_shows : (b : ℕ) (looked : Looked) → member (holders_of looked) b ≡ true → b < 5 → (holder (views_of looked) b ≡ true) × (member looked.reached b ≡ true)
holder_shows b looked m l =
    let k = both (member looked.reached b) (is_some (view_at b looked)) (sym (member_holders looked b l) ∙ m) in
    (some (view_at b looked) k.1, k.0)
  where
    some : (v : Option View) → is_some v ≡ true → holder (λ x. v) 0 ≡ true
    some None h = absurd (cc h)
    some (Some view) h = refl

-- ---- the facts of all stages
module _ (change : Change) (n : ℕ) (inside : Bool) (second : Option Area) (sh hl held : List ℕ) (looked : Looked) (pre done : List ℕ) (area : Option Area) (upto : ℕ) (k : Base change n inside second sh hl held looked pre done area upto) where
  -- a session has ended: its locks are gone
  pub base_gone : (b : ℕ) → Base change n inside second (removed b sh) (removed b hl) (removed b held) looked pre done area upto
  base_gone b = record {
    few = k.few;
    outside = k.outside;
    no_second = k.no_second;
    none_second = ap (removed b) k.none_second;
    none_healing = ap (removed b) k.none_healing;
    held_within = within_removed_if n b held true k.held_within;
    shown = k.shown;
    pre_within = k.pre_within;
    done_within = k.done_within;
    no_bytes = k.no_bytes;
    of_held = λ h. k.of_held (nonempty_before b held h);
  }

  -- a lock was given back
  pub base_left : (b : ℕ) → Base change n inside second sh hl (removed b held) looked pre done area upto
  base_left b = record {
    few = k.few;
    outside = k.outside;
    no_second = k.no_second;
    none_second = k.none_second;
    none_healing = k.none_healing;
    held_within = within_removed_if n b held true k.held_within;
    shown = k.shown;
    pre_within = k.pre_within;
    done_within = k.done_within;
    no_bytes = k.no_bytes;
    of_held = λ h. k.of_held (nonempty_before b held h);
  }

  -- other looks
  pub base_shown : (other : Looked) → Shown n other → Base change n inside second sh hl held other pre done area upto
  base_shown other s = record {
    few = k.few;
    outside = k.outside;
    no_second = k.no_second;
    none_second = k.none_second;
    none_healing = k.none_healing;
    held_within = k.held_within;
    shown = s;
    pre_within = k.pre_within;
    done_within = k.done_within;
    no_bytes = k.no_bytes;
    of_held = k.of_held;
  }

  -- a phase was done on one more brick
  pub base_pre : (b : ℕ) (flag : Bool) → b < n → Base change n inside second sh hl held looked (added_if flag b pre) done area upto
  base_pre b flag l = record {
    few = k.few;
    outside = k.outside;
    no_second = k.no_second;
    none_second = k.none_second;
    none_healing = k.none_healing;
    held_within = k.held_within;
    shown = k.shown;
    pre_within = within_added_if n b pre flag l k.pre_within;
    done_within = k.done_within;
    no_bytes = k.no_bytes;
    of_held = k.of_held;
  }

  pub base_done : (b : ℕ) (flag : Bool) → b < n → Base change n inside second sh hl held looked pre (added_if flag b done) area upto
  base_done b flag l = record {
    few = k.few;
    outside = k.outside;
    no_second = k.no_second;
    none_second = k.none_second;
    none_healing = k.none_healing;
    held_within = k.held_within;
    shown = k.shown;
    pre_within = k.pre_within;
    done_within = within_added_if n b done flag l k.done_within;
    no_bytes = k.no_bytes;
    of_held = k.of_held;
  }
