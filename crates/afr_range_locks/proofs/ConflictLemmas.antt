-- The conflict that was granted first, of all entries, is the first one of the list of held locks.
use Rattle.std.proofs.Common.{◌≡◌, ℕ, zero, suc, ◌<◌, ◌≤◌, Bool, true, false, List, [], ◌∷◌, ◌++◌, ◌⊎◌, inl, inr, refl, sym, ap, ap₂, ◌∙◌, arith, eqb, ltb, if◌then◌else◌, Some, None, Option}
use Rattle.std.proofs.lemmas.Bool.{cases_lt}
use Rattle.std.proofs.lemmas.Bool.Decides.{nat_tests}
use Rattle.std.specs.List.{AllByRecursion}
use Rattle.std.specs.Option.{IfSome, option_or}
use Rattle.afr_lines.specs.Locks.{conflicts, first_conflict}
use Rattle.afr_lines.specs.declared.lock.HeldLock.{HeldLock}
use Rattle.afr_range_locks.specs.Granted.{conflict_at, conflict_of, earlier, first_granted, granted, granted_at, owner_of}
use Rattle.afr_range_locks.specs.declared.table.Conflict.{Conflict}
use Rattle.afr_range_locks.specs.declared.table.Key.{Key}

owner_or : (a b : Option Conflict) → owner_of (option_or a b) ≡ option_or (owner_of a) (owner_of b)
owner_or None b = refl
owner_or (Some a) b = refl

-- one that was granted under n, with one of lower number and one of number n
lower_first : (n : ℕ) (c s t : Option Conflict) → IfSome c (λ x. x.grant < n) → IfSome s (λ x. x.grant < n) → IfSome t (λ x. x.grant ≡ n) → option_or (earlier c s) t ≡ earlier c (option_or s t)
lower_first n None s t hc hs ht = refl
lower_first n (Some c) None None hc hs ht = refl
lower_first n (Some c) None (Some t) hc hs ht = let later : ltb t.grant c.grant ≡ false = grind (arith, nat_tests, hc, ht) in rw later refl
lower_first n (Some c) (Some s) t hc hs ht = go (ltb s.grant c.grant)
  where
    go : (b : Bool) → option_or (if b then Some s else Some c) t ≡ (if b then Some s else Some c)
    go true = refl
    go false = refl

same_first : (n : ℕ) (c s t : Option Conflict) → IfSome c (λ x. x.grant ≡ n) → IfSome s (λ x. x.grant < n) → IfSome t (λ x. x.grant ≡ n) → option_or s (option_or c t) ≡ earlier c (option_or s t)
same_first n None s t hc hs ht = refl
same_first n (Some c) (Some s) t hc hs ht = let first : ltb s.grant c.grant ≡ true = grind (arith, nat_tests, hc, hs) in rw first refl
same_first n (Some c) None None hc hs ht = refl
same_first n (Some c) None (Some t) hc hs ht = let later : ltb t.grant c.grant ≡ false = grind (arith, nat_tests, hc, ht) in rw later refl

either : {X : Type 0} (P : X → Type 0) (a b : Option X) → IfSome a P → IfSome b P → IfSome (option_or a b) P
either P None b ha hb = hb
either P (Some a) b ha hb = ha

weaker : {X : Type 0} (P Q : X → Type 0) → ((x : X) → P x → Q x) → (a : Option X) → IfSome a P → IfSome a Q
weaker P Q f None h = tt
weaker P Q f (Some a) h = f a h

module _ {A : Type 0} (overlap : A → A → Bool) (wanted : HeldLock A) where
  pub first_conflict-append : (xs ys : List (HeldLock A)) → first_conflict overlap wanted (xs ++ ys) ≡ option_or (first_conflict overlap wanted xs) (first_conflict overlap wanted ys)
  first_conflict-append [] ys = refl
  first_conflict-append (x ∷ xs) ys = go (conflicts overlap wanted x) (first_conflict-append xs ys)
    where
      go : (b : Bool) → first_conflict overlap wanted (xs ++ ys) ≡ option_or (first_conflict overlap wanted xs) (first_conflict overlap wanted ys)
          → (if b then Some x.owner else first_conflict overlap wanted (xs ++ ys)) ≡ option_or (if b then Some x.owner else first_conflict overlap wanted xs) (first_conflict overlap wanted ys)
      go true rest = refl
      go false rest = rest

  -- the first conflict among the entries of one number, and among those of lower numbers
  abbrev seen_at : ℕ → List (Key × HeldLock A) → Option Conflict
  seen_at n [] = None
  seen_at n (e ∷ entries) = if eqb e.0.grant n then option_or (conflict_at overlap wanted e) (seen_at n entries) else seen_at n entries

  abbrev seen : ℕ → List (Key × HeldLock A) → Option Conflict
  seen zero entries = None
  seen (suc n) entries = option_or (seen n entries) (seen_at n entries)

  owner_at : (n : ℕ) (entries : List (Key × HeldLock A)) → owner_of (seen_at n entries) ≡ first_conflict overlap wanted (granted_at n entries)
  owner_at n [] = refl
  owner_at n (e ∷ entries) = go (eqb e.0.grant n) (conflicts overlap wanted e.1) refl (owner_at n entries)
    where
      go : (b c : Bool) → conflicts overlap wanted e.1 ≡ c → owner_of (seen_at n entries) ≡ first_conflict overlap wanted (granted_at n entries)
          → owner_of (if b then option_or (conflict_at overlap wanted e) (seen_at n entries) else seen_at n entries) ≡ first_conflict overlap wanted (if b then e.1 ∷ granted_at n entries else granted_at n entries)
      go true true is rest = rw is refl
      go true false is rest = rw is rest
      go false c is rest = rest

  owner_seen : (n : ℕ) (entries : List (Key × HeldLock A)) → owner_of (seen n entries) ≡ first_conflict overlap wanted (granted n entries)
  owner_seen zero entries = refl
  owner_seen (suc n) entries =
      rw (owner_or (seen n entries) (seen_at n entries), owner_seen n entries, owner_at n entries) (sym (first_conflict-append (granted n entries) (granted_at n entries)))

  conflict_number : (e : Key × HeldLock A) → IfSome (conflict_at overlap wanted e) (λ (c : Conflict). c.grant ≡ e.0.grant)
  conflict_number e = go (conflicts overlap wanted e.1)
    where
      go : (b : Bool) → IfSome (if b then Some (conflict_of e) else None) (λ (c : Conflict). c.grant ≡ e.0.grant)
      go true = refl
      go false = tt

  number_at : (n : ℕ) (entries : List (Key × HeldLock A)) → IfSome (seen_at n entries) (λ (c : Conflict). c.grant ≡ n)
  number_at n [] = tt
  number_at n (e ∷ entries) = go (eqb e.0.grant n) refl (number_at n entries)
    where
      go : (b : Bool) → eqb e.0.grant n ≡ b → IfSome (seen_at n entries) (λ (c : Conflict). c.grant ≡ n) → IfSome (if b then option_or (conflict_at overlap wanted e) (seen_at n entries) else seen_at n entries) (λ (c : Conflict). c.grant ≡ n)
      go true is rest = let same : e.0.grant ≡ n = grind (arith, nat_tests, is) in
          either (λ (c : Conflict). c.grant ≡ n) (conflict_at overlap wanted e) (seen_at n entries) (weaker (λ (c : Conflict). c.grant ≡ e.0.grant) (λ (c : Conflict). c.grant ≡ n) (λ c h. h ∙ same) (conflict_at overlap wanted e) (conflict_number e)) rest
      go false is rest = rest

  numbers_below : (n : ℕ) (entries : List (Key × HeldLock A)) → IfSome (seen n entries) (λ (c : Conflict). c.grant < n)
  numbers_below zero entries = tt
  numbers_below (suc n) entries =
      either (λ (c : Conflict). c.grant < suc n) (seen n entries) (seen_at n entries) (weaker (λ (c : Conflict). c.grant < n) (λ (c : Conflict). c.grant < suc n) (λ c h. omega (arith, h)) (seen n entries) (numbers_below n entries))
      (weaker (λ (c : Conflict). c.grant ≡ n) (λ (c : Conflict). c.grant < suc n) (λ c h. omega (arith, h)) (seen_at n entries) (number_at n entries))

  -- an entry of a higher number adds nothing
  skipped_at : (n : ℕ) (e : Key × HeldLock A) (entries : List (Key × HeldLock A)) → eqb e.0.grant n ≡ false → seen_at n (e ∷ entries) ≡ seen_at n entries
  skipped_at n e entries other = rw other refl

  here_at : (n : ℕ) (e : Key × HeldLock A) (entries : List (Key × HeldLock A)) → eqb e.0.grant n ≡ true → seen_at n (e ∷ entries) ≡ option_or (conflict_at overlap wanted e) (seen_at n entries)
  here_at n e entries here = rw here refl

  skipped : (n : ℕ) (e : Key × HeldLock A) (entries : List (Key × HeldLock A)) → n ≤ e.0.grant → seen n (e ∷ entries) ≡ seen n entries
  skipped zero e entries high = refl
  skipped (suc n) e entries high = ap₂ (λ (a b : Option Conflict). option_or a b) (skipped n e entries (omega (arith, high))) (skipped_at n e entries (grind (arith, nat_tests, high)))

  added : (n : ℕ) (e : Key × HeldLock A) (entries : List (Key × HeldLock A)) → e.0.grant < n → seen n (e ∷ entries) ≡ earlier (conflict_at overlap wanted e) (seen n entries)
  added zero e entries low = absurd (omega (arith, low))
  added (suc n) e entries low = go (cases_lt e.0.grant n) (added n e entries)
    where
      go : (e.0.grant < n) ⊎ (n ≤ e.0.grant) → (e.0.grant < n → seen n (e ∷ entries) ≡ earlier (conflict_at overlap wanted e) (seen n entries))
          → option_or (seen n (e ∷ entries)) (seen_at n (e ∷ entries)) ≡ earlier (conflict_at overlap wanted e) (option_or (seen n entries) (seen_at n entries))
      go (inl less) rest =
          ap₂ (λ (a b : Option Conflict). option_or a b) (rest less) (skipped_at n e entries (grind (arith, nat_tests, less)))
          ∙ lower_first n (conflict_at overlap wanted e) (seen n entries) (seen_at n entries) (weaker (λ (c : Conflict). c.grant ≡ e.0.grant) (λ (c : Conflict). c.grant < n) (λ c h. omega (arith, h, less)) (conflict_at overlap wanted e) (conflict_number e)) (numbers_below n entries) (number_at n entries)
      go (inr more) rest =
          ap₂ (λ (a b : Option Conflict). option_or a b) (skipped n e entries more) (here_at n e entries (grind (arith, nat_tests, low, more)))
          ∙ same_first n (conflict_at overlap wanted e) (seen n entries) (seen_at n entries) (weaker (λ (c : Conflict). c.grant ≡ e.0.grant) (λ (c : Conflict). c.grant ≡ n) (λ c h. omega (arith, h, low, more)) (conflict_at overlap wanted e) (conflict_number e)) (numbers_below n entries) (number_at n entries)

  nothing_seen : (n : ℕ) → seen n [] ≡ None
  nothing_seen zero = refl
  nothing_seen (suc n) = rw (nothing_seen n) refl

  all_seen : (n : ℕ) (entries : List (Key × HeldLock A)) → AllByRecursion (λ e. e.0.grant < n) entries → seen n entries ≡ first_granted overlap wanted entries
  all_seen n [] low = nothing_seen n
  all_seen n (e ∷ entries) low = added n e entries low.0 ∙ ap (earlier (conflict_at overlap wanted e)) (all_seen n entries low.1)

  -- the owner of the conflict of the least grant number is that of the first conflict in the list
  pub owner_first : (n : ℕ) (entries : List (Key × HeldLock A)) → AllByRecursion (λ e. e.0.grant < n) entries → owner_of (first_granted overlap wanted entries) ≡ first_conflict overlap wanted (granted n entries)
  owner_first n entries low = ap owner_of (sym (all_seen n entries low)) ∙ owner_seen n entries
