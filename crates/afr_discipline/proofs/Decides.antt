-- The tests of the moves outside a heal decide them.
use Rattle.std.proofs.Common.{◌≡◌, ℕ, ◌+◌, ◌^◌, ◌≤◌, ◌&&◌, ◌||◌, not, ◌==◌, nat_le, nat_lt, Bool, true, false, refl, arith, Option, None, Some, if◌then◌else◌, inl, inr}
use Rattle.std.proofs.lemmas.Bool.{eqb-true, and_parts, and_from, not-true, not_from_false, or_cases, or_left, or_right, eq-eqb, leb-true, ltb-true, lt-ltb}
use Rattle.std.proofs.lemmas.Bool.Decides.{nat_tests}
use Rattle.afr_base.specs.Majority.{is_most}
use Rattle.afr_base.specs.declared.ids.Kind.{Kind}
use Rattle.afr_object.specs.declared.entry.View.{View}
use Rattle.afr_lines.specs.declared.request.Area.{Area}
use Rattle.afr_lines.specs.declared.request.Area.TheVariants.{Range, Name}
use Rattle.afr_base.specs.Kinds.{same_kind}
use Rattle.afr_model_moves.specs.Sets.{any}
use Rattle.afr_model_moves.specs.Rules.{LastPosted, Register, area_object, busy, is_area}
use Rattle.afr_model_moves.specs.Register.{Exact, IsArea, PlaneIn, Step, area_kind, asked_in, good, rank}
use Rattle.afr_model_moves.specs.Transaction.{MayWork, Once, OneOf, SufficesBy}
use Rattle.afr_discipline.specs.Tests.{is_open, is_valid, last_posted, may_work, once, one_of, plane_in, suffices_by}
use Rattle.afr_model_moves.proofs.Tests.{some_yes, some_no, most_yes, most_no, same_kind_yes, same_kind_self}

then_part : (c x y : Bool) → (if c then x else y) ≡ true → c ≡ true → x ≡ true
then_part true x y h k = h
then_part false x y h k = absurd (cc k)

else_part : (c x y : Bool) → (if c then x else y) ≡ true → c ≡ false → y ≡ true
else_part true x y h k = absurd (cc k)
else_part false x y h k = h

by_parts : (c x y : Bool) → (c ≡ true → x ≡ true) → (c ≡ false → y ≡ true) → (if c then x else y) ≡ true
by_parts true x y f g = f refl
by_parts false x y f g = g refl

pub le_test : (a b : ℕ) → a ≤ b → nat_le a b ≡ true
le_test a b h = grind (arith, nat_tests, h)

pub posted_yes : (n : ℕ) (r : Register) → last_posted n r ≡ true → LastPosted n r
posted_yes n r h = elim (or_cases (r.number == 0) (is_most n r.post) h) [ inl none ↦ inl (eqb-true r.number 0 none) | inr most ↦ inr (most_yes n r.post most) ]

pub posted_no : (n : ℕ) (r : Register) → LastPosted n r → last_posted n r ≡ true
posted_no n r (inl none) = or_left (r.number == 0) (is_most n r.post) (eq-eqb r.number 0 none)
posted_no n r (inr most) = or_right (r.number == 0) (is_most n r.post) (most_no n r.post most)

open_yes : (area : Option Area) → is_open area ≡ true → area ≡ None
open_yes None h = refl
open_yes (Some area) h = absurd (cc h)

open_no : (area : Option Area) → area ≡ None → is_open area ≡ true
open_no area h = rw h refl

one_of_yes : (r : Register) (area : Area) → one_of r area ≡ true → OneOf r area
one_of_yes r area h = elim (or_cases (is_area r.area area || is_open r.second) (is_area r.second area) h) [
  | inl first ↦ (elim (or_cases (is_area r.area area) (is_open r.second) first) [ inl own ↦ inl own | inr none ↦ inr (inl (open_yes r.second none)) ])
  | inr second ↦ inr (inr second)
]

one_of_no : (r : Register) (area : Area) → OneOf r area → one_of r area ≡ true
one_of_no r area (inl own) = or_left _ (is_area r.second area) (or_left (is_area r.area area) (is_open r.second) own)
one_of_no r area (inr (inl none)) = or_left _ (is_area r.second area) (or_right (is_area r.area area) (is_open r.second) (open_no r.second none))
one_of_no r area (inr (inr second)) = or_right (is_area r.area area || is_open r.second) (is_area r.second area) second

valid_yes : (area : Area) → is_valid area ≡ true → IsArea area
valid_yes (Name g name) h = tt
valid_yes (Range g from to) h =
    let w = and_parts (nat_lt from to) (nat_le to (2 ^ 63) || ((from == 2 ^ 63) && (to == 2 ^ 63 + 1))) h in (
      ltb-true from to w.0,
      elim (or_cases (nat_le to (2 ^ 63)) ((from == 2 ^ 63) && (to == 2 ^ 63 + 1)) w.1) [
        | inl low ↦ inl (leb-true to (2 ^ 63) low)
        | inr attrs ↦ (let v = and_parts (from == 2 ^ 63) (to == 2 ^ 63 + 1) attrs in inr (eqb-true from (2 ^ 63) v.0, eqb-true to (2 ^ 63 + 1) v.1))
      ],
    )

valid_no : (area : Area) → IsArea area → is_valid area ≡ true
valid_no (Name g name) h = refl
valid_no (Range g from to) (lt, inl low) = and_from (nat_lt from to) _ (lt-ltb from to lt) (or_left (nat_le to (2 ^ 63)) _ (le_test to (2 ^ 63) low))
valid_no (Range g from to) (lt, inr attrs) =
    and_from (nat_lt from to) _ (lt-ltb from to lt)
    (or_right (nat_le to (2 ^ 63)) _ (and_from (from == 2 ^ 63) (to == 2 ^ 63 + 1) (eq-eqb from (2 ^ 63) attrs.0) (eq-eqb to (2 ^ 63 + 1) attrs.1)))

pub work_yes : (n : ℕ) (r : Exact) (area : Area) → r.law.heal ≡ false → may_work n r area ≡ true → MayWork n r area
work_yes n r area out h =
    let w = and_parts (is_valid area) (if busy n r.law then not r.unlocked && one_of r.law area else last_posted n r.law) h in
    record {
      outside = out;
      valid = valid_yes area w.0;
      next = λ free. posted_yes n r.law (else_part (busy n r.law) (not r.unlocked && one_of r.law area) (last_posted n r.law) w.1 free);
      within = λ held. (
          let v = and_parts (not r.unlocked) (one_of r.law area) (then_part (busy n r.law) (not r.unlocked && one_of r.law area) (last_posted n r.law) w.1 held) in
          (not-true r.unlocked v.0, one_of_yes r.law area v.1)
          );
    }

pub work_no : (n : ℕ) (r : Exact) (area : Area) → MayWork n r area → may_work n r area ≡ true
work_no n r area w =
    and_from (is_valid area) _ (valid_no area w.valid)
    (by_parts (busy n r.law) (not r.unlocked && one_of r.law area) (last_posted n r.law)
    (λ held. and_from (not r.unlocked) (one_of r.law area) (not_from_false r.unlocked (w.within held).0) (one_of_no r.law area (w.within held).1))
    (λ free. posted_no n r.law (w.next free)))

pub once_yes : (r : Exact) (step : Step) (b : ℕ) → once r step b ≡ true → Once r step b
once_yes r step b h =
    let w = and_parts (nat_le (rank r.step) (rank step) && not (asked_in r step b)) (not r.unlocked) h in
    let v = and_parts (nat_le (rank r.step) (rank step)) (not (asked_in r step b)) w.0 in
    record { order = leb-true (rank r.step) (rank step) v.0; once = not-true (asked_in r step b) v.1; open_still = not-true r.unlocked w.1 }

pub once_no : (r : Exact) (step : Step) (b : ℕ) → Once r step b → once r step b ≡ true
once_no r step b o =
    and_from (nat_le (rank r.step) (rank step) && not (asked_in r step b)) (not r.unlocked)
    (and_from (nat_le (rank r.step) (rank step)) (not (asked_in r step b)) (le_test (rank r.step) (rank step) o.order) (not_from_false (asked_in r step b) o.once))
    (not_from_false r.unlocked o.open_still)

pub suffices_yes : (n : ℕ) (keeps : ℕ → Kind → Bool) (kind : Kind) (views : ℕ → Option View) (set : ℕ → Bool) → suffices_by n keeps kind views set ≡ true → SufficesBy n keeps kind views set
suffices_yes n keeps kind views set h =
    let w = and_parts (is_most n set) (any n (λ s. set s && good n keeps kind views s)) h in
    let some = some_yes n (λ s. set s && good n keeps kind views s) w.1 in
    let v = and_parts (set some.0) (good n keeps kind views some.0) some.2 in
    record { majority = most_yes n set w.0; source = some.0; below = some.1; member = v.0; unblamed = v.1 }

pub suffices_no : (n : ℕ) (keeps : ℕ → Kind → Bool) (kind : Kind) (views : ℕ → Option View) (set : ℕ → Bool) → SufficesBy n keeps kind views set → suffices_by n keeps kind views set ≡ true
suffices_no n keeps kind views set c =
    and_from (is_most n set) (any n (λ s. set s && good n keeps kind views s)) (most_no n set c.majority)
    (some_no n (λ s. set s && good n keeps kind views s) c.source c.below (and_from (set c.source) (good n keeps kind views c.source) c.member c.unblamed))

pub plane_yes : (area : Option Area) (g : ℕ) (kind : Kind) → plane_in area g kind ≡ true → PlaneIn area g kind
plane_yes None g kind h = absurd (cc h)
plane_yes (Some area) g kind h =
    let w = and_parts (g == area_object area) (same_kind kind (area_kind area)) h in
    (eqb-true g (area_object area) w.0, same_kind_yes kind (area_kind area) w.1)

pub plane_no : (area : Option Area) (g : ℕ) (kind : Kind) → PlaneIn area g kind → plane_in area g kind ≡ true
plane_no None g kind h = absurd h
plane_no (Some area) g kind h =
    and_from (g == area_object area) (same_kind kind (area_kind area)) (eq-eqb g (area_object area) h.0) (rw h.1 (same_kind_self (area_kind area)))
