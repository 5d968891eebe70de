-- The first looks of a heal by its register and by the model's lists: the holders, the copies, and that the heal goes on.
use Rattle.std.proofs.Common.{◌≡◌, ℕ, zero, suc, ◌<◌, ◌≤◌, ◌&&◌, ◌||◌, not, ◌==◌, nat_lt, Bool, true, false, List, [], ◌∷◌, refl, sym, ap, ◌∙◌, subst, arith, Option, None, Some, filter, if◌then◌else◌, slice_index}
use Rattle.std.proofs.lemmas.Bool.Decides.{nat_tests}
use Rattle.std.specs.List.{list_all}
use Rattle.std.specs.Prelude.{slice_get}
use Rattle.std.proofs.lemmas.Bool.{or_right}
use Rattle.afr_base.specs.Bricks.{all_five, below, is_nothing, lowest, member, minus}
use Rattle.afr_base.specs.Majority.{is_majority, is_most}
use Rattle.afr_base.specs.Marks.{is_zero_marks, marks_of}
use Rattle.afr_base.specs.SetLemmas.{below_all, lowest_in, member_minus, most_same, some_member}
use Rattle.afr_base.specs.declared.ids.Kind.{Kind}
use Rattle.afr_base.specs.declared.ids.Shape.{Shape}
use Rattle.afr_base.specs.declared.marks.Marks.{Marks}
use Rattle.afr_base.specs.Keeping.{keeps}
use Rattle.afr_choice.proofs.Agreement.{IsAnswered, accuses_same, good_tells, holder_same, holders_tell}
use Rattle.afr_choice.specs.Looks.{view_at}
use Rattle.afr_choice.specs.Verdict.{accuses_at, copies_of, good_copies, holders_of, is_holder, shown_missed}
use Rattle.afr_choice.specs.VerdictLemmas.{copies_are_holders, holders_are_reached, member_copies}
use Rattle.afr_choice.specs.declared.looked.Looked.{Looked}
use Rattle.afr_heal.proofs.Parts.{any_no, both, denied, not_both, pair}
use Rattle.afr_law_heal.specs.Stages.{IsReached}
use Rattle.afr_lines.specs.declared.reply.HealReply.{HealReply}
use Rattle.afr_lines.specs.declared.reply.HealReply.TheVariants as healed
use Rattle.afr_model.specs.Healing.{First, marks_in}
use Rattle.afr_model.specs.HealReplies.{by_first, is_clean}
use Rattle.afr_model_moves.specs.Keeps.{keeps_in}
use Rattle.afr_model_moves.specs.Register.{accuses, all, good, has_number, holder, shows_number, unaccused}
use Rattle.afr_model_moves.specs.Rules.{is_none}
use Rattle.afr_model_moves.specs.Sets.{any}
use Rattle.afr_model_moves.proofs.Tests.{some_yes, all_yes}
use Rattle.afr_object.specs.declared.entry.View.{View}

-- ---- lists
pub and_false : (m : Bool) → (m && false) ≡ false
and_false true = refl
and_false false = refl

-- a test that isn't true is false
pub no_way : (x : Bool) → (x ≡ true → ⊥) → x ≡ false
no_way true f = absurd (f refl)
no_way false f = refl

-- what a list that is left shows
pub left_in : (s t : List ℕ) (x : ℕ) → member (minus s t) x ≡ true → (member s x ≡ true) × (member t x ≡ false)
left_in s t x h = let two = both (not (member t x)) (member s x) (sym (member_minus s t x) ∙ h) in (two.1, denied (member t x) two.0)

pub in_left : (s t : List ℕ) (x : ℕ) → member s x ≡ true → member t x ≡ false → member (minus s t) x ≡ true
in_left s t x h k = member_minus s t x ∙ rw (h, k) refl

-- where only one brick is left, it is the lowest
pub only_left : (s t : List ℕ) (b : ℕ) → member s b ≡ true → member t b ≡ false → ((x : ℕ) → member s x ≡ true → member t x ≡ false → x ≡ b) → lowest (minus s t) ≡ b
only_left s t b h k only =
    let some = some_member (minus s t) b (in_left s t b h k) in
    let two = left_in s t (lowest (minus s t)) (lowest_in (minus s t) some) in
    only (lowest (minus s t)) two.0 two.1

-- no member passes
pub filter_none : (p : ℕ → Bool) (l : List ℕ) → ((x : ℕ) → member l x ≡ true → p x ≡ false) → filter p l ≡ []
filter_none p [] h = refl
filter_none p (y ∷ ys) h = rw (h y (grind (arith, nat_tests))) (filter_none p ys (λ x m. h x (or_right (y == x) (member ys x) m)))

pub get_none : (p : ℕ → Bool) (l : List ℕ) → ((x : ℕ) → member l x ≡ true → p x ≡ false) → slice_get (filter p l) 0 ≡ None
get_none p l h = ap (λ (k : List ℕ). slice_get k 0) (filter_none p l h)

-- the bricks of a volume
pub in_five : (x : ℕ) → member all_five x ≡ true → x < 5
in_five x h = grind (arith, nat_tests, h)

-- one member doesn't pass
not_all : (p : ℕ → Bool) (l : List ℕ) (x : ℕ) → member l x ≡ true → p x ≡ false → list_all p l ≡ false
not_all p [] x m h = absurd (cc m)
not_all p (y ∷ ys) x m h = go (y == x) refl m (p y) refl (not_all p ys x)
  where
    go : (e : Bool) → (y == x) ≡ e → (e || member ys x) ≡ true → (f : Bool) → p y ≡ f → (member ys x ≡ true → p x ≡ false → list_all p ys ≡ false) → (f && list_all p ys) ≡ false
    go e h m false i rest = refl
    go true g m true i rest = let is : y ≡ x = grind (arith, nat_tests, g) in absurd (not_both (p y) i (subst (λ (z : ℕ). p z ≡ false) (sym is) h))
    go false g m true i rest = rest m h

pub all_of : (n : ℕ) (p : ℕ → Bool) → ((x : ℕ) → x < n → p x ≡ true) → all n p ≡ true
all_of zero p h = refl
all_of (suc n) p h = pair (p n) (all n p) (h n (omega arith)) (all_of n p (λ x l. h x (omega (arith, l))))

-- ---- numbers
-- where all numbers are 0, each is
each_zero : (l : List ℕ) → list_all (λ n. n == 0) l ≡ true → (c : ℕ) → (slice_index l c == 0) ≡ true
each_zero [] h c = refl
each_zero (x ∷ xs) h zero = (both (x == 0) (list_all (λ n. n == 0) xs) h).0
each_zero (x ∷ xs) h (suc c) = each_zero xs (both (x == 0) (list_all (λ n. n == 0) xs) h).1 c

-- numbers of which one is above 0 aren't all 0
pub not_zero : (marks : Marks) → has_number marks ≡ true → is_zero_marks marks ≡ false
not_zero marks h = no_way (is_zero_marks marks) (λ z.
    let two = both (marks.dirty == 0) (list_all (λ n. n == 0) marks.pending) z in
    let none : any 5 (λ c. not (slice_index marks.pending c == 0)) ≡ false = any_no 5 (λ c. not (slice_index marks.pending c == 0)) (λ c l. rw (each_zero marks.pending two.1 c) refl) in
    let no : has_number marks ≡ false = rw (two.0, none) refl in not_both (has_number marks) h no)

-- and the model's number of a view is the register's
shown_number : (kind : Kind) (view : Option View) → shows_number kind view ≡ true → is_zero_marks (marks_in kind view) ≡ false
shown_number kind None h = absurd (cc h)
shown_number kind (Some view) h = not_zero (marks_of kind view.marks) h

-- who is not accused by the views below n isn't by looks that only these answered
pub none_accuses : (n : ℕ) (kind : Kind) (looked : Looked) (s : ℕ) → ((x : ℕ) → member looked.reached x ≡ true → x < n) → unaccused n kind (λ x. view_at x looked) s ≡ true
    → (x : ℕ) → accuses_at kind x s looked ≡ false
none_accuses n kind looked s low h x = go (member looked.reached x) refl
  where
    go : (m : Bool) → member looked.reached x ≡ m → (m && shown_missed kind s (view_at x looked)) ≡ false
    go false e = refl
    go true e = accuses_same kind s (view_at x looked) ∙ denied (accuses kind (view_at x looked) s) (all_yes n (λ x. not (accuses kind (view_at x looked) s)) h x (low x e))

-- ---- the first looks
module _ (shape : Shape) (seen : Looked) (few : shape.n ≤ 5) (low : (x : ℕ) → member seen.reached x ≡ true → x < shape.n) (answered : IsReached seen) where
  here : IsAnswered shape.n seen
  here = record { low = low; shown = answered }

  -- the holders, as a list and as a test
  pub same_holder : (x : ℕ) → x < shape.n → member (holders_of seen) x ≡ holder (λ x. view_at x seen) x
  same_holder x l = holders_tell shape.n seen few here x (omega (arith, l, few))

  pub holder_low : (x : ℕ) → member (holders_of seen) x ≡ true → x < shape.n
  holder_low x m = low x (holders_are_reached seen x m)

  -- the copies of a kind
  pub same_copy : (kind : Kind) (x : ℕ) → x < shape.n → member (copies_of shape seen kind) x ≡ (holder (λ x. view_at x seen) x && keeps_in shape x kind)
  same_copy kind x l =
      let small : x < 5 = omega (arith, l, few) in
      let kept : keeps shape kind x ≡ keeps_in shape x kind = (let five : nat_lt x 5 ≡ true = grind (arith, nat_tests, small) in ap (λ (f : Bool). f && keeps shape kind x) (sym five)) in
      let held : is_holder seen x ≡ holder (λ x. view_at x seen) x = holder_same shape.n seen few here x in
      member_copies shape seen kind x small ∙ (λ i. held i && kept i)

  pub copy_low : (kind : Kind) (x : ℕ) → member (copies_of shape seen kind) x ≡ true → x < shape.n
  copy_low kind x m = holder_low x (copies_are_holders shape seen kind x m)

  -- a good copy by the register is one of the model's
  pub good_there : (kind : Kind) (s : ℕ) → s < shape.n → good shape.n (keeps_in shape) kind (λ x. view_at x seen) s ≡ true → member (good_copies shape seen kind) s ≡ true
  good_there kind s l h = good_tells shape seen kind few here s (omega (arith, l, few)) ∙ h

  -- some number is shown
  pub not_clean : (kind : Kind) → any shape.n (λ x. shows_number kind (view_at x seen)) ≡ true → is_clean kind seen ≡ false
  not_clean kind h =
      let one = some_yes shape.n (λ x. shows_number kind (view_at x seen)) h in
      not_all (λ b. is_zero_marks (marks_in kind (view_at b seen))) (holders_of seen) one.0 (same_holder one.0 one.1 ∙ held (view_at one.0 seen) one.2) (shown_number kind (view_at one.0 seen) one.2)
    where
      held : (v : Option View) → shows_number kind v ≡ true → not (is_none v) ≡ true
      held None h = absurd (cc h)
      held (Some v) h = refl

  goes : (a b c d : Bool) (reply : HealReply) → a ≡ true → b ≡ true → c ≡ false → d ≡ false
      → (if not a then Some healed.Short else (if not b then Some healed.Short else (if c then Some healed.Nothing else (if d then Some reply else None)))) ≡ None
  goes a b c d reply ea eb ec ed = rw (ea, eb, ec, ed) refl

  -- a majority answered: those that are not missing
  pub enough : (missing : List ℕ) → ((x : ℕ) → x < shape.n → member missing x ≡ not (member seen.reached x)) → is_majority shape.n (minus (below shape.n) missing) ≡ is_most shape.n (member seen.reached)
  enough missing h = most_same shape.n (member (minus (below shape.n) missing)) (member seen.reached) (λ x l. member_minus (below shape.n) missing x ∙ rw (below_all shape.n x few l, h x l) (twice (member seen.reached x)))
    where
      twice : (m : Bool) → (not (not m) && true) ≡ m
      twice true = refl
      twice false = refl

  -- so the first looks let the heal go on
  pub first_goes : (kind : Kind) (first : First) (s : ℕ) → s < shape.n → first.looked ≡ seen → ((x : ℕ) → x < shape.n → member first.missing x ≡ not (member seen.reached x))
      → is_most shape.n (member seen.reached) ≡ true → is_most shape.n (holder (λ x. view_at x seen)) ≡ true → any shape.n (λ x. shows_number kind (view_at x seen)) ≡ true
      → good shape.n (keeps_in shape) kind (λ x. view_at x seen) s ≡ true → by_first shape kind first ≡ None
  first_goes kind first s l is missing reached holders numbers copy =
      goes (is_majority shape.n (minus (below shape.n) first.missing)) (is_majority shape.n (holders_of first.looked)) (is_clean kind first.looked) (is_nothing (good_copies shape first.looked kind)) (healed.Split first.looked.views)
      (enough first.missing missing ∙ reached)
      (subst (λ (k : Looked). is_majority shape.n (holders_of k) ≡ true) (sym is) (most_same shape.n (member (holders_of seen)) (holder (λ x. view_at x seen)) same_holder ∙ holders))
      (subst (λ (k : Looked). is_clean kind k ≡ false) (sym is) (not_clean kind numbers))
      (subst (λ (k : Looked). is_nothing (good_copies shape k kind) ≡ false) (sym is) (some_member (good_copies shape seen kind) s (good_there kind s l copy)))
