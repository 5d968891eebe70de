-- A transaction asks for its locks in rising order of bricks.
use Rattle.std.proofs.Common.{◌≡◌, ℕ, ◌<◌, ◌≤◌, ◌==◌, ◌&&◌, ◌||◌, not, Bool, true, false, inl, inr, refl, sym, ◌∙◌, subst, arith, List, [], ◌∷◌, Some, true≢false}
use Rattle.std.specs.Prelude.{filter, if◌then◌else◌, nat_lt}
use Rattle.std.proofs.lemmas.Bool.{eqb-true, or_cases, or_left, or_right}
use Rattle.afr_model_moves.proofs.Tests.{three_cases}
use Rattle.std.proofs.lemmas.Bool.Decides.{nat_tests}
use Rattle.afr_base.specs.Bricks.{added, added_if, all_five, below, is_nothing, lowest, member, minus}
use Rattle.afr_base.specs.SetLemmas.{below_all, lowest_left, member_added, member_minus, some_member, within_below}
use Rattle.afr_base.proofs.TestLemmas.{unless_then}
use Rattle.afr_lines.specs.Areas.{area_for, kind_for}
use Rattle.afr_model_moves.specs.Note.{is_held}
use Rattle.afr_law_pace.specs.Laws.{AsksAbove, StartsQueued, StaysQueued}
use Rattle.afr_law_pace.specs.Left.{InOrder, IsQueued}
use Rattle.afr_client_transaction.specs.Progress.{TransactionProgress, after, answered, answered_by, enough, left, may_start, on_stage}
use Rattle.afr_client_transaction.specs.Sound.{During, IsAsking}
use Rattle.afr_client_transaction.specs.declared.stage.Stage.TheVariants.{Applying, Beginning, Closing, Locking, Looking, Posting, Preparing}
use Rattle.afr_client_transaction.specs.declared.stage.Stage.{Stage}

pub starts_queued : StartsQueued
starts_queued change r = λ c x h low. absurd (true≢false (sym h))

-- a list of bricks has its lowest at its head
unfoldable pub Rises : List ℕ → Type 0
Rises [] = Unit {0}
Rises (x ∷ xs) = ((y : ℕ) → member xs y ≡ true → x < y) × Rises xs

pub head_lowest : (xs : List ℕ) → Rises xs → (y : ℕ) → member xs y ≡ true → lowest xs ≤ y
unfolding Rises
head_lowest [] r y h = absurd (true≢false (sym h))
head_lowest (x ∷ xs) r y h = elim (or_cases (x == y) (member xs y) h) [ inl same ↦ (let e = eqb-true x y same in omega (arith, e)) | inr more ↦ (let l = r.0 y more in omega (arith, l)) ]

pub minus_rises : (xs t : List ℕ) → Rises xs → Rises (minus xs t)
unfolding Rises
minus_rises [] t r = tt
minus_rises (x ∷ xs) t r = go (member t x) (minus_rises xs t r.1)
  where
    part : (y : ℕ) → member (minus xs t) y ≡ true → member xs y ≡ true
    part y h = unless_then (member t y) (member xs y) (sym (member_minus xs t y) ∙ h)

    go : (drop_it : Bool) → Rises (minus xs t) → Rises (if drop_it then minus xs t else x ∷ minus xs t)
    go true k = k
    go false k = (λ y h. r.0 y (part y h), k)

filter_in : (p : ℕ → Bool) (xs : List ℕ) (y : ℕ) → member (filter p xs) y ≡ true → member xs y ≡ true
filter_in p [] y h = h
filter_in p (x ∷ xs) y h = go (p x) h (λ k. filter_in p xs y k)
  where
    go : (keep : Bool) → member (if keep then x ∷ filter p xs else filter p xs) y ≡ true → (member (filter p xs) y ≡ true → member xs y ≡ true) → ((x == y) || member xs y) ≡ true
    go true k rest = elim (or_cases (x == y) (member (filter p xs) y) k) [ inl same ↦ or_left (x == y) (member xs y) same | inr more ↦ or_right (x == y) (member xs y) (rest more) ]
    go false k rest = or_right (x == y) (member xs y) (rest k)

filter_rises : (p : ℕ → Bool) (xs : List ℕ) → Rises xs → Rises (filter p xs)
unfolding Rises
filter_rises p [] r = tt
filter_rises p (x ∷ xs) r = go (p x) (filter_rises p xs r.1)
  where
    go : (keep : Bool) → Rises (filter p xs) → Rises (if keep then x ∷ filter p xs else filter p xs)
    go true k = (λ y h. r.0 y (filter_in p xs y h), k)
    go false k = k

five_rises : Rises all_five
unfolding Rises
five_rises = (λ y h. grind (arith, nat_tests, h), (λ y h. grind (arith, nat_tests, h), (λ y h. grind (arith, nat_tests, h), (λ y h. grind (arith, nat_tests, h), (λ y h. absurd (true≢false (sym h)), tt)))))

below_rises : (n : ℕ) → Rises (below n)
unfolding below
below_rises n = filter_rises (λ b. nat_lt b n) all_five five_rises

-- ---- locks
module _ (n : ℕ) (few : n ≤ 5) (asked : List ℕ) (some : is_nothing (minus (below n) asked) ≡ false) where
  there : (member asked (lowest (minus (below n) asked)) ≡ false) × (member (below n) (lowest (minus (below n) asked)) ≡ true)
  there = lowest_left (below n) asked some

  -- each lower brick was asked
  lower : (x : ℕ) → x < lowest (minus (below n) asked) → member asked x ≡ true
  lower x low = go (member asked x) refl
    where
      go : (m : Bool) → member asked x ≡ m → member asked x ≡ true
      go true e = e
      go false e = (
          let small = within_below n (lowest (minus (below n) asked)) there.1 in
          let in_all : member (below n) x ≡ true = below_all n x few (omega (arith, low, small)) in
          let left_x : member (minus (below n) asked) x ≡ true = member_minus (below n) asked x ∙ rw (e, in_all) refl in
          let least = head_lowest (minus (below n) asked) (minus_rises (below n) asked (below_rises n)) x left_x in
          absurd (omega (arith, least, low))
          )

  queued : (flag : Bool) → InOrder asked → InOrder (added_if flag (lowest (minus (below n) asked)) asked)
  queued false order = order
  queued true order = λ c x h low. elim (or_cases (lowest (minus (below n) asked) == c) (member asked c) (sym (member_added (lowest (minus (below n) asked)) asked c) ∙ h)) [
    | inl same ↦ more x (lower x (let e = eqb-true (lowest (minus (below n) asked)) c same in omega (arith, e, low)))
    | inr old ↦ more x (order c x old low)
  ]
    where
      more : (x : ℕ) → member asked x ≡ true → member (added (lowest (minus (below n) asked)) asked) x ≡ true
      more x m = member_added (lowest (minus (below n) asked)) asked x ∙ or_right (lowest (minus (below n) asked) == x) (member asked x) m

-- the stages after the locks have no more of them
any_stage : (x : TransactionProgress) (stage : Stage) → InOrder x.asked.lock_asked → IsQueued stage x
any_stage x Locking order = order
any_stage x Looking order = tt
any_stage x Beginning order = tt
any_stage x Preparing order = tt
any_stage x Applying order = tt
any_stage x Posting order = tt
any_stage x Closing order = tt

-- no other stage goes back to them
not_back : (stage : Stage) (x : TransactionProgress) → (stage ≡ Locking → ⊥) → IsQueued (after stage x) (on_stage (after stage x) x)
not_back Locking x other = absurd (other refl)
not_back Looking x other = go (is_nothing (left Looking x)) (may_start x.register x.change)
  where
    go : (e f : Bool) → IsQueued (if e then (if f then Beginning else Closing) else Looking) (on_stage (if e then (if f then Beginning else Closing) else Looking) x)
    go true true = tt
    go true false = tt
    go false f = tt
not_back Beginning x other = go (is_nothing (left Beginning x))
  where
    go : (e : Bool) → IsQueued (if e then Preparing else Beginning) (on_stage (if e then Preparing else Beginning) x)
    go true = tt
    go false = tt
not_back Preparing x other = go (is_nothing (left Preparing x)) (enough x.register (kind_for x.change) x.register.pre)
  where
    go : (e f : Bool) → IsQueued (if e then (if f then Applying else Closing) else Preparing) (on_stage (if e then (if f then Applying else Closing) else Preparing) x)
    go true true = tt
    go true false = tt
    go false f = tt
not_back Applying x other = go (is_nothing (left Applying x)) (enough x.register (kind_for x.change) x.register.done)
  where
    go : (e f : Bool) → IsQueued (if e then (if f then Posting else Closing) else Applying) (on_stage (if e then (if f then Posting else Closing) else Applying) x)
    go true true = tt
    go true false = tt
    go false f = tt
not_back Posting x other = go (is_nothing (left Posting x))
  where
    go : (e : Bool) → IsQueued (if e then Closing else Posting) (on_stage (if e then Closing else Posting) x)
    go true = tt
    go false = tt
not_back Closing x other = go (is_nothing (left Closing x))
  where
    go : (e : Bool) → IsQueued (if e then Closing else Closing) (on_stage (if e then Closing else Closing) x)
    go true = tt
    go false = tt

pub stays_queued : StaysQueued
stays_queued m s e q told at = go m.stage e q
  where
    go : (stage : Stage) → IsAsking stage m → IsQueued stage m → IsQueued (answered stage told at m).stage (answered stage told at m)
    go Locking e q = any_stage (answered Locking told at m) (answered Locking told at m).stage (queued m.register.shape.n s.base.few m.asked.lock_asked e (not (is_held told)) q)
    go Looking e q = not_back Looking (answered_by Looking (lowest (left Looking m)) told at m) (λ k. cc k)
    go Beginning e q = absurd e
    go Preparing e q = not_back Preparing (answered_by Preparing (lowest (left Preparing m)) told at m) (λ k. cc k)
    go Applying e q = not_back Applying (answered_by Applying (lowest (left Applying m)) told at m) (λ k. cc k)
    go Posting e q = not_back Posting (answered_by Posting (lowest (left Posting m)) told at m) (λ k. cc k)
    go Closing e q = not_back Closing (answered_by Closing (lowest (left Closing m)) told at m) (λ k. cc k)

pub asks_above : AsksAbove
asks_above m s e q is c held = go m.stage is s.during e q
  where
    go : (stage : Stage) → stage ≡ Locking → During stage m → IsAsking stage m → IsQueued stage m → (m.register.area ≡ Some (area_for m.change)) × (m.register.second_held ≡ []) × (c < lowest (left Locking m))
    go Locking f d e q = (
        let was : member m.asked.lock_asked c ≡ true = d.0.among c (sym (d.0.same c) ∙ held) in
        let new = (lowest_left (below m.register.shape.n) m.asked.lock_asked e).0 in (
          s.base.of_held (some_member m.register.held c held),
          s.base.none_second,
          elim (three_cases c (lowest (left Locking m))) [
            | inl less ↦ less
            | inr (inl same) ↦ absurd (true≢false (sym (subst (λ (z : ℕ). member m.asked.lock_asked z ≡ true) same was) ∙ new))
            | inr (inr more) ↦ absurd (true≢false (sym (q c (lowest (left Locking m)) was more) ∙ new))
          ],
        )
        )
    go Looking f d e q = absurd (cc f)
    go Beginning f d e q = absurd (cc f)
    go Preparing f d e q = absurd (cc f)
    go Applying f d e q = absurd (cc f)
    go Posting f d e q = absurd (cc f)
    go Closing f d e q = absurd (cc f)
