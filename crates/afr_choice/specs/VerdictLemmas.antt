-- The sets of a verdict as tests, and what a verdict says of them.
use Rattle.std.proofs.Common.{◌≡◌, ℕ, ◌<◌, ◌==◌, ◌||◌, not, Bool, true, false, List, [], ◌∷◌, refl, ◌∙◌, ap, if◌then◌else◌, subst}
use Rattle.std.specs.List.{list_any}
use Rattle.std.proofs.lemmas.Bool.{eqb-true}
use Rattle.afr_base.specs.Bricks.{all_five, member, is_nothing, IsIn, IsWithin, from_table, and_left, and_right}
use Rattle.afr_base.proofs.OfFive.{chosen_below, chosen_passes, member_chosen}
use Rattle.afr_base.specs.Keeping.{keeps}
use Rattle.afr_base.specs.Majority.{is_majority}
use Rattle.afr_base.specs.declared.ids.Kind.{Kind}
use Rattle.afr_base.specs.declared.ids.Shape.{Shape}
use Rattle.afr_choice.specs.declared.looked.Looked.{Looked}
use Rattle.afr_choice.specs.declared.verdict.Verdict.TheVariants.{Short, Bare, Split, Sources}
use Rattle.afr_choice.specs.Verdict.{is_holder, is_copy, is_good, accuses_at, is_accused, holders_of, copies_of, good_copies, verdict_of}

-- the sets as tests
pub member_holders : (looked : Looked) (b : ℕ) → b < 5 → member (holders_of looked) b ≡ is_holder looked b
member_holders looked b l = member_chosen (is_holder looked) b l

pub member_copies : (shape : Shape) (looked : Looked) (kind : Kind) (b : ℕ) → b < 5 → member (copies_of shape looked kind) b ≡ is_copy shape looked kind b
member_copies shape looked kind b l = member_chosen (is_copy shape looked kind) b l

pub member_good : (shape : Shape) (looked : Looked) (kind : Kind) (b : ℕ) → b < 5 → member (good_copies shape looked kind) b ≡ is_good shape looked kind b
member_good shape looked kind b l = member_chosen (is_good shape looked kind) b l

-- their members are bricks
pub holders_below : (looked : Looked) → IsWithin 5 (holders_of looked)
holders_below looked = chosen_below (is_holder looked)

pub copies_below : (shape : Shape) (looked : Looked) (kind : Kind) → IsWithin 5 (copies_of shape looked kind)
copies_below shape looked kind = chosen_below (is_copy shape looked kind)

pub good_below : (shape : Shape) (looked : Looked) (kind : Kind) → IsWithin 5 (good_copies shape looked kind)
good_below shape looked kind = chosen_below (is_good shape looked kind)

-- good copies are copies, copies are holders, and holders were reached
pub good_are_copies : (shape : Shape) (looked : Looked) (kind : Kind) → IsIn (good_copies shape looked kind) (copies_of shape looked kind)
good_are_copies shape looked kind b m =
    member_copies shape looked kind b (good_below shape looked kind b m)
    ∙ and_left (is_copy shape looked kind b) (not (is_accused kind looked b)) (chosen_passes (is_good shape looked kind) b m)

pub copies_are_holders : (shape : Shape) (looked : Looked) (kind : Kind) → IsIn (copies_of shape looked kind) (holders_of looked)
copies_are_holders shape looked kind b m =
    member_holders looked b (copies_below shape looked kind b m)
    ∙ and_left (is_holder looked b) (keeps shape kind b) (chosen_passes (is_copy shape looked kind) b m)

pub good_are_holders : (shape : Shape) (looked : Looked) (kind : Kind) → IsIn (good_copies shape looked kind) (holders_of looked)
good_are_holders shape looked kind b m = copies_are_holders shape looked kind b (good_are_copies shape looked kind b m)

pub holders_are_reached : (looked : Looked) → IsIn (holders_of looked) looked.reached
holders_are_reached looked b m = and_left (member looked.reached b) _ (chosen_passes (is_holder looked) b m)

none_of : (p : ℕ → Bool) (x : ℕ) (ys : List ℕ) → not (list_any p ys) ≡ true → member ys x ≡ true → p x ≡ false
none_of p x [] h k = absurd (cc k)
none_of p x (y ∷ ys) h k = go (p y) refl (y == x) refl h k (none_of p x ys)
  where
    go : (e : Bool) → p y ≡ e → (f : Bool) → (y == x) ≡ f → not (e || list_any p ys) ≡ true → (f || member ys x) ≡ true
        → (not (list_any p ys) ≡ true → member ys x ≡ true → p x ≡ false) → p x ≡ false
    go true i f g h k rest = absurd (cc h)
    go false i true g h k rest = subst (λ (z : ℕ). p z ≡ false) (eqb-true y x g) i
    go false i false g h k rest = rest h k

-- nobody accuses a good copy
pub nobody_accuses : (shape : Shape) (looked : Looked) (kind : Kind) (b x : ℕ) → member (good_copies shape looked kind) b ≡ true → x < 5 → accuses_at kind x b looked ≡ false
nobody_accuses shape looked kind b x m l =
    none_of (λ y. accuses_at kind y b looked) x all_five
    (and_right (is_copy shape looked kind b) (not (is_accused kind looked b)) (chosen_passes (is_good shape looked kind) b m))
    (from_table 5 (member all_five) refl x l)

pub split_says : (shape : Shape) (looked : Looked) (kind : Kind) → verdict_of shape looked kind ≡ Split
    → (is_majority shape.n looked.reached ≡ true) × (is_nothing (copies_of shape looked kind) ≡ false) × (is_nothing (good_copies shape looked kind) ≡ true)
split_says shape looked kind = go (is_majority shape.n looked.reached) (is_nothing (copies_of shape looked kind)) (is_nothing (good_copies shape looked kind)) (good_copies shape looked kind)
  where
    go : (a b c : Bool) (s : List ℕ) → (if not a then Short else (if b then Bare else (if c then Split else Sources s))) ≡ Split → (a ≡ true) × (b ≡ false) × (c ≡ true)
    go false b c s h = absurd (cc h)
    go true true c s h = absurd (cc h)
    go true false true s h = (refl, refl, refl)
    go true false false s h = absurd (cc h)

-- the sources are the good copies, and there is one
pub sources_say : (shape : Shape) (looked : Looked) (kind : Kind) (s : List ℕ) → verdict_of shape looked kind ≡ Sources s
    → (is_majority shape.n looked.reached ≡ true) × (s ≡ good_copies shape looked kind) × (is_nothing s ≡ false)
sources_say shape looked kind s = go (is_majority shape.n looked.reached) (is_nothing (copies_of shape looked kind)) (good_copies shape looked kind)
  where
    go : (a b : Bool) (t : List ℕ) → (if not a then Short else (if b then Bare else (if is_nothing t then Split else Sources t))) ≡ Sources s
        → (a ≡ true) × (s ≡ t) × (is_nothing s ≡ false)
    go false b t h = absurd (cc h)
    go true true t h = absurd (cc h)
    go true false [] h = absurd (cc h)
    go true false (x ∷ xs) h = let e : s ≡ x ∷ xs = cc h in (refl, e, ap is_nothing e)
