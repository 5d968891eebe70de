-- The discipline's tests of views and those of the model say the same.
use Rattle.std.proofs.Common.{◌≡◌, ℕ, zero, suc, ◌<◌, ◌≤◌, ◌&&◌, ◌||◌, not, Bool, true, false, List, refl, sym, ap, ◌∙◌, arith}
use Rattle.std.proofs.lemmas.Bool.{not-true}
use Rattle.afr_base.specs.Bricks.{lowest, member, minus, is_nothing, IsIn}
use Rattle.afr_base.specs.Majority.{is_majority}
use Rattle.afr_base.specs.SetLemmas.{lowest_in, lowest_left, majority_grows, member_minus, most_same, some_member}
use Rattle.afr_base.specs.declared.ids.Kind.{Kind}
use Rattle.afr_base.specs.declared.ids.Shape.{Shape}
use Rattle.afr_base.proofs.TestLemmas.{same_test}
use Rattle.afr_choice.proofs.Agreement.{good_low, good_tells, holders_tell}
use Rattle.afr_choice.specs.Verdict.{good_copies, holders_of}
use Rattle.afr_choice.specs.VerdictLemmas.{good_are_holders}
use Rattle.afr_choice.specs.declared.looked.Looked.{Looked}
use Rattle.afr_model_moves.specs.Keeps.{keeps_in}
use Rattle.afr_model_moves.specs.Register.{all, good, holder}
use Rattle.afr_model_moves.specs.Sets.{any}
use Rattle.afr_model_moves.proofs.Tests.{some_yes, some_no}
use Rattle.afr_discipline.specs.Stands.{views_of}
use Rattle.afr_discipline.specs.Tests.{suffices_by}
use Rattle.afr_client_transaction.specs.Sound.{Shown}
use Rattle.afr_client_transaction.proofs.Parts.{answered_by, both, deny, pair}
use Rattle.afr_model.specs.Standing.{suffices}

pub all_of : (n : ℕ) (p : ℕ → Bool) → ((x : ℕ) → x < n → p x ≡ true) → all n p ≡ true
all_of zero p h = refl
all_of (suc n) p h = pair (p n) (all n p) (h n (omega arith)) (all_of n p (λ x l. h x (omega (arith, l))))

module _ (shape : Shape) (looked : Looked) (kind : Kind) (few : shape.n ≤ 5) (shown : Shown shape.n looked) where
  pub same_holder : (b : ℕ) → b < shape.n → holder (views_of looked) b ≡ member (holders_of looked) b
  same_holder b l = sym (holders_tell shape.n looked few (answered_by shape.n looked shown) b (omega (arith, few, l)))

  -- a good copy is on a brick that was reached, so below n
  pub good_within : (s : ℕ) → member (good_copies shape looked kind) s ≡ true → s < shape.n
  good_within = good_low shape looked kind (answered_by shape.n looked shown)

  pub same_good : (s : ℕ) → s < shape.n → good shape.n (keeps_in shape) kind (views_of looked) s ≡ member (good_copies shape looked kind) s
  same_good s l = sym (good_tells shape looked kind few (answered_by shape.n looked shown) s (omega (arith, few, l)))

  is_good : (s : ℕ) → member (good_copies shape looked kind) s ≡ true → good shape.n (keeps_in shape) kind (views_of looked) s ≡ true
  is_good s m = same_good s (good_within s m) ∙ m

  -- a set has a good copy by the one test where it has one by the other
  pub same_enough : (s : List ℕ) → suffices_by shape.n (keeps_in shape) kind (views_of looked) (member s) ≡ suffices shape kind looked s
  same_enough s = ap (λ (x : Bool). is_majority shape.n s && x) (same_test _ _ there back)
    where
      copies : List ℕ
      copies = good_copies shape looked kind

      there : any shape.n (λ x. member s x && good shape.n (keeps_in shape) kind (views_of looked) x) ≡ true → not (is_nothing (minus copies (minus copies s))) ≡ true
      there h =
          let one = some_yes shape.n (λ x. member s x && good shape.n (keeps_in shape) kind (views_of looked) x) h in
          let two = both (member s one.0) _ one.2 in
          let copy : member copies one.0 ≡ true = sym (same_good one.0 one.1) ∙ two.1 in
          let out : member (minus copies s) one.0 ≡ false = member_minus copies s one.0 ∙ rw two.0 refl in
          deny _ (some_member (minus copies (minus copies s)) one.0 (member_minus copies (minus copies s) one.0 ∙ rw (out, copy) refl))

      back : not (is_nothing (minus copies (minus copies s))) ≡ true → any shape.n (λ x. member s x && good shape.n (keeps_in shape) kind (views_of looked) x) ≡ true
      back h =
          let some = lowest_left copies (minus copies s) (undeny _ h) in
          some_no shape.n (λ x. member s x && good shape.n (keeps_in shape) kind (views_of looked) x) (lowest (minus copies (minus copies s))) (good_within _ some.1)
          (pair _ _ (in_set _ some.0 some.1) (is_good _ some.1))
        where
          undeny : (x : Bool) → not x ≡ true → x ≡ false
          undeny true h = absurd (cc h)
          undeny false h = refl

          in_set : (x : ℕ) → member (minus copies s) x ≡ false → member copies x ≡ true → member s x ≡ true
          in_set x out copy = pick (member s x) (sym (member_minus copies s x ∙ rw copy refl) ∙ out)
            where
              pick : (y : Bool) → (not y && true) ≡ false → y ≡ true
              pick true h = refl
              pick false h = absurd (cc h)

  -- views with a quorum carry an attempt at all holders
  pub carried_there : is_majority shape.n (holders_of looked) ≡ true → is_nothing (good_copies shape looked kind) ≡ false → suffices_by shape.n (keeps_in shape) kind (views_of looked) (holder (views_of looked)) ≡ true
  carried_there most clean =
      let s = lowest_in (good_copies shape looked kind) clean in
      let l = good_within _ s in
      pair _ _ (most_same shape.n (holder (views_of looked)) (member (holders_of looked)) same_holder ∙ most)
      (some_no shape.n (λ x. holder (views_of looked) x && good shape.n (keeps_in shape) kind (views_of looked) x) (lowest (good_copies shape looked kind)) l
      (pair _ _ (same_holder _ l ∙ good_are_holders shape looked kind _ s) (is_good _ s)))

-- more bricks suffice where some do
pub suffices_grows : (shape : Shape) (kind : Kind) (looked : Looked) (s t : List ℕ) → IsIn s t → suffices shape kind looked s ≡ true → suffices shape kind looked t ≡ true
suffices_grows shape kind looked s t k h = let parts = both (is_majority shape.n s) _ h in pair _ _ (majority_grows shape.n s t k parts.0) (some parts.1)
  where
    copies : List ℕ
    copies = good_copies shape looked kind

    some : not (is_nothing (minus copies (minus copies s))) ≡ true → not (is_nothing (minus copies (minus copies t))) ≡ true
    some h =
        let one = lowest_left copies (minus copies s) (not-true _ h) in
        let inside : member t (lowest (minus copies (minus copies s))) ≡ true = k _ (in_set _ one.0 one.1) in
        let out : member (minus copies t) (lowest (minus copies (minus copies s))) ≡ false = member_minus copies t _ ∙ rw inside refl in
        deny _ (some_member (minus copies (minus copies t)) (lowest (minus copies (minus copies s))) (member_minus copies (minus copies t) _ ∙ pair _ _ (deny _ out) one.1))
      where
        in_set : (x : ℕ) → member (minus copies s) x ≡ false → member copies x ≡ true → member s x ≡ true
        in_set x out copy = pick (member s x) (sym (member_minus copies s x ∙ rw copy refl) ∙ out)
          where
            pick : (y : Bool) → (not y && true) ≡ false → y ≡ true
            pick true h = refl
            pick false h = absurd (cc h)

-- the holders suffice where the views have a quorum
pub holders_suffice : (shape : Shape) (kind : Kind) (looked : Looked) → is_majority shape.n (holders_of looked) ≡ true → is_nothing (good_copies shape looked kind) ≡ false → suffices shape kind looked (holders_of looked) ≡ true
holders_suffice shape kind looked most clean =
    let s = lowest_in copies clean in
    let held = good_are_holders shape looked kind _ s in
    let out : member (minus copies (holders_of looked)) (lowest copies) ≡ false = member_minus copies (holders_of looked) _ ∙ rw held refl in
    pair _ _ most (deny _ (some_member (minus copies (minus copies (holders_of looked))) (lowest copies) (member_minus copies (minus copies (holders_of looked)) _ ∙ pair _ _ (deny _ out) s)))
  where
    copies : List ℕ
    copies = good_copies shape looked kind
