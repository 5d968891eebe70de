-- The list of held locks in the order of their grants: what becomes of it where a lock is filed, and where some are taken out.
use Rattle.std.proofs.Common.{◌≡◌, ℕ, zero, suc, ◌+◌, ◌<◌, ◌≤◌, ◌^◌, Bool, true, false, cond, List, [], ◌∷◌, ◌++◌, refl, sym, ap, ap₂, subst, ◌∙◌, arith, eqb, if◌then◌else◌, None}
use Rattle.std.proofs.lemmas.Bool.Decides.{nat_tests}
use Rattle.std.proofs.lemmas.List.Elements.{filter-append}
use Rattle.std.specs.BTreeMap.{insert_entry}
use Rattle.std.specs.List.{AllByRecursion, filter}
use Rattle.std.specs.Ordering.{match_ordering}
use Rattle.std.specs.declared.cmp.Ordering.{Ordering}
use Rattle.std.specs.declared.cmp.Ordering.TheVariants.{Less, Equal, Greater}
use Rattle.afr_lines.specs.Locks.{AreApart, first_conflict}
use Rattle.afr_lines.specs.declared.lock.HeldLock.{HeldLock}
use Rattle.afr_range_locks.proofs.ApartLemmas.{left_over, pushed}
use Rattle.afr_range_locks.proofs.KeyLemmas.{same_grant}
use Rattle.afr_range_locks.specs.Granted.{AreFresh, IsFiled, IsFresh, IsTable, granted, granted_at, key_cmp, key_of}
use Rattle.afr_range_locks.specs.declared.lockable.Place.{Place}
use Rattle.afr_range_locks.specs.declared.table.Key.{Key}

-- ---- what is kept where some are taken out

-- what holds of each entry holds of each that is kept
kept_one : {X : Type 0} (P : X → Type 0) (x : X) (xs : List X) (b : Bool) → P x → AllByRecursion P xs → AllByRecursion P (cond b (x ∷ xs) xs)
kept_one P x xs true here rest = (here, rest)
kept_one P x xs false here rest = rest

pub all_kept : {X : Type 0} (P : X → Type 0) (p : X → Bool) (xs : List X) → AllByRecursion P xs → AllByRecursion P (filter p xs)
all_kept P p [] h = tt
all_kept P p (x ∷ xs) h = kept_one P x (filter p xs) (p x) h.0 (all_kept P p xs h.1)

pub all_mapped : {X : Type 0} (P Q : X → Type 0) → ((x : X) → P x → Q x) → (xs : List X) → AllByRecursion P xs → AllByRecursion Q xs
all_mapped P Q f [] h = tt
all_mapped P Q f (x ∷ xs) h = (f x h.0, all_mapped P Q f xs h.1)

module _ {A : Type 0} where
  fresh_one : (e : Key × HeldLock A) (entries : List (Key × HeldLock A)) (b : Bool) → IsFresh e.0.grant entries → AreFresh entries → AreFresh (cond b (e ∷ entries) entries)
  fresh_one e entries true here rest = (here, rest)
  fresh_one e entries false here rest = rest

  fresh_kept : (p : Key × HeldLock A → Bool) (entries : List (Key × HeldLock A)) → AreFresh entries → AreFresh (filter p entries)
  fresh_kept p [] h = tt
  fresh_kept p (e ∷ entries) h = fresh_one e (filter p entries) (p e) (all_kept (λ (x : Key × HeldLock A). eqb e.0.grant x.0.grant ≡ false) p entries h.0) (fresh_kept p entries h.1)

  -- by whether an entry is kept, and by whether it has the number
  at_one : (p : HeldLock A → Bool) (lock : HeldLock A) (left all : List (HeldLock A)) (here : Bool) → left ≡ filter p all
      → (kept : Bool) → p lock ≡ kept → (if here then cond kept (lock ∷ left) left else left) ≡ filter p (if here then lock ∷ all else all)
  at_one p lock left all true e true k = rw (k, e) refl
  at_one p lock left all true e false k = rw (k, e) refl
  at_one p lock left all false e kept k = e

  step_at : (n : ℕ) (e : Key × HeldLock A) (rest : List (Key × HeldLock A)) (kept : Bool)
      → granted_at n (cond kept (e ∷ rest) rest) ≡ (if eqb e.0.grant n then cond kept (e.1 ∷ granted_at n rest) (granted_at n rest) else granted_at n rest)
  step_at n e rest true = refl
  step_at n e rest false = same (eqb e.0.grant n)
    where
      same : (b : Bool) → granted_at n rest ≡ (if b then granted_at n rest else granted_at n rest)
      same true = refl
      same false = refl

  granted_at-filter : (p : HeldLock A → Bool) (n : ℕ) (entries : List (Key × HeldLock A)) → granted_at n (filter (λ e. p e.1) entries) ≡ filter p (granted_at n entries)
  granted_at-filter p n [] = refl
  granted_at-filter p n (e ∷ entries) =
      step_at n e (filter (λ x. p x.1) entries) (p e.1) ∙ at_one p e.1 (granted_at n (filter (λ x. p x.1) entries)) (granted_at n entries) (eqb e.0.grant n) (granted_at-filter p n entries) (p e.1) refl

  pub granted-filter : (p : HeldLock A → Bool) (n : ℕ) (entries : List (Key × HeldLock A)) → granted n (filter (λ e. p e.1) entries) ≡ filter p (granted n entries)
  granted-filter p zero entries = refl
  granted-filter p (suc n) entries =
      ap₂ (λ (a b : List (HeldLock A)). a ++ b) (granted-filter p n entries) (granted_at-filter p n entries) ∙ sym (filter-append p (granted n entries) (granted_at n entries))

  -- of no entry no lock
  pub granted-none : (n : ℕ) (entries : List (Key × HeldLock A)) → entries ≡ [] → granted n entries ≡ []
  granted-none zero entries none = refl
  granted-none (suc n) entries none = rw (granted-none n entries none, none) refl

  -- a table stays one where some locks are taken out
  pub table_kept : (overlap : A → A → Bool) (at : A → Place) (next : ℕ) (p : HeldLock A → Bool) (entries : List (Key × HeldLock A)) → IsTable overlap at next entries → IsTable overlap at next (filter (λ e. p e.1) entries)
  table_kept overlap at next p entries t = record {
    filed = all_kept (IsFiled at next) (λ e. p e.1) entries t.filed;
    fresh = fresh_kept (λ e. p e.1) entries t.fresh;
    apart = subst (AreApart overlap) (sym (granted-filter p next entries)) (left_over overlap p (granted next entries) t.apart);
  }

-- ---- a lock is filed under the next number

module _ {A : Type 0} where
  -- a new key comes before an entry, or after it
  by_order : (P : List (Key × HeldLock A) → Type 0) (a b c : List (Key × HeldLock A)) (r : Ordering) → (r ≡ Equal → ⊥) → P a → P c → P (match_ordering r a b c)
  by_order P a b c Less new less more = less
  by_order P a b c Equal new less more = absurd (new refl)
  by_order P a b c Greater new less more = more

module _ {A : Type 0} (k : Key) (lock : HeldLock A) where
  -- what holds of the entries with the new one in front, and stays where an old entry is put in front, holds of all with the new one in its place
  place_new : (P : List (Key × HeldLock A) → List (Key × HeldLock A) → Type 0) → ((entries : List (Key × HeldLock A)) → AllByRecursion (λ e. e.0.grant < k.grant) entries → P entries ((k, lock) ∷ entries))
      → ((e : Key × HeldLock A) (entries new : List (Key × HeldLock A)) → e.0.grant < k.grant → P entries new → P (e ∷ entries) (e ∷ new))
      → (entries : List (Key × HeldLock A)) → AllByRecursion (λ e. e.0.grant < k.grant) entries → P entries (insert_entry key_cmp entries k lock)
  place_new P front more [] low = front [] tt
  place_new P front more (e ∷ entries) low =
      by_order (P (e ∷ entries)) ((k, lock) ∷ e ∷ entries) ((e.0, lock) ∷ entries) (e ∷ insert_entry key_cmp entries k lock) (key_cmp k e.0) (λ same. absurd (omega (arith, same_grant k e.0 same, low.0)))
      (front (e ∷ entries) low) (more e entries (insert_entry key_cmp entries k lock) low.0 (place_new P front more entries low.1))

  -- other numbers keep their locks
  others : (n : ℕ) → n < k.grant → (entries : List (Key × HeldLock A)) → AllByRecursion (λ e. e.0.grant < k.grant) entries → granted_at n (insert_entry key_cmp entries k lock) ≡ granted_at n entries
  others n less = place_new (λ old new. granted_at n new ≡ granted_at n old) (λ entries low. let other : eqb k.grant n ≡ false = grind (arith, nat_tests, less) in rw other refl)
      (λ e entries new low same. ap (λ (x : List (HeldLock A)). if eqb e.0.grant n then e.1 ∷ x else x) same)

  none_yet : (entries : List (Key × HeldLock A)) → AllByRecursion (λ e. e.0.grant < k.grant) entries → granted_at k.grant entries ≡ []
  none_yet [] low = refl
  none_yet (e ∷ entries) low = let other : eqb e.0.grant k.grant ≡ false = grind (arith, nat_tests, low.0) in rw other (none_yet entries low.1)

  alone : (entries : List (Key × HeldLock A)) → AllByRecursion (λ e. e.0.grant < k.grant) entries → granted_at k.grant (insert_entry key_cmp entries k lock) ≡ lock ∷ []
  alone = place_new (λ old new. granted_at k.grant new ≡ lock ∷ []) (λ entries low. let here : eqb k.grant k.grant ≡ true = grind (arith, nat_tests) in rw (here, none_yet entries low) refl)
      (λ e entries new low same. let other : eqb e.0.grant k.grant ≡ false = grind (arith, nat_tests, low) in rw other same)

  before : (n : ℕ) → n ≤ k.grant → (entries : List (Key × HeldLock A)) → AllByRecursion (λ e. e.0.grant < k.grant) entries → granted n (insert_entry key_cmp entries k lock) ≡ granted n entries
  before zero small entries low = refl
  before (suc n) small entries low = rw (before n (omega (arith, small)) entries low, others n (omega (arith, small)) entries low) refl

  -- the new lock comes last
  pub granted-filed : (entries : List (Key × HeldLock A)) → AllByRecursion (λ e. e.0.grant < k.grant) entries → granted (suc k.grant) (insert_entry key_cmp entries k lock) ≡ granted k.grant entries ++ lock ∷ []
  granted-filed entries low = rw (before k.grant (omega arith) entries low, alone entries low) refl

  fresh_filed : (n : ℕ) → eqb n k.grant ≡ false → (entries : List (Key × HeldLock A)) → AllByRecursion (λ e. e.0.grant < k.grant) entries → IsFresh n entries → IsFresh n (insert_entry key_cmp entries k lock)
  fresh_filed n other = place_new (λ old new. IsFresh n old → IsFresh n new) (λ entries low h. (other, h)) (λ e entries new low more h. (h.0, more h.1))

  new_fresh : (entries : List (Key × HeldLock A)) → AllByRecursion (λ e. e.0.grant < k.grant) entries → IsFresh k.grant entries
  new_fresh [] low = tt
  new_fresh (e ∷ entries) low = (grind (arith, nat_tests, low.0), new_fresh entries low.1)

  all_fresh : (entries : List (Key × HeldLock A)) → AllByRecursion (λ e. e.0.grant < k.grant) entries → AreFresh entries → AreFresh (insert_entry key_cmp entries k lock)
  all_fresh [] low h = (tt, tt)
  all_fresh (e ∷ entries) low h =
      by_order AreFresh ((k, lock) ∷ e ∷ entries) ((e.0, lock) ∷ entries) (e ∷ insert_entry key_cmp entries k lock) (key_cmp k e.0) (λ same. absurd (omega (arith, same_grant k e.0 same, low.0)))
      (new_fresh (e ∷ entries) low, h) (fresh_filed e.0.grant (grind (arith, nat_tests, low.0)) entries low.1 h.0, all_fresh entries low.1 h.1)

  all_filed : (P : Key × HeldLock A → Type 0) → P (k, lock) → (entries : List (Key × HeldLock A)) → AllByRecursion (λ e. e.0.grant < k.grant) entries → AllByRecursion P entries → AllByRecursion P (insert_entry key_cmp entries k lock)
  all_filed P here = place_new (λ old new. AllByRecursion P old → AllByRecursion P new) (λ entries low h. (here, h)) (λ e entries new low more h. (h.0, more h.1))

module _ {A : Type 0} (at : A → Place) (next : ℕ) where
  pub are_lower : (entries : List (Key × HeldLock A)) → AllByRecursion (IsFiled at next) entries → AllByRecursion (λ e. e.0.grant < next) entries
  are_lower entries h = all_mapped (IsFiled at next) (λ e. e.0.grant < next) (λ e f. f.grant) entries h

  filed_still : (e : Key × HeldLock A) → IsFiled at next e → IsFiled at (suc next) e
  filed_still e f = record { key = f.key; grant = omega (arith, f.grant); start = f.start }

  -- a table stays one where a lock is filed that none is in the way of
  pub table_filed : (overlap : A → A → Bool) (lock : HeldLock A) (entries : List (Key × HeldLock A)) → (at lock.area).start < 2 ^ 64 → IsTable overlap at next entries
      → AreApart overlap (granted next entries ++ lock ∷ []) → IsTable overlap at (suc next) (insert_entry key_cmp entries (key_of lock.domain (at lock.area) next) lock)
  table_filed overlap lock entries start t apart =
      let k = key_of lock.domain (at lock.area) next in
      let low = are_lower entries t.filed in
      record {
        filed = all_filed k lock (IsFiled at (suc next)) (record { key = refl; grant = omega arith; start = start }) entries low (all_mapped (IsFiled at next) (IsFiled at (suc next)) filed_still entries t.filed);
        fresh = all_fresh k lock entries low t.fresh;
        apart = subst (AreApart overlap) (sym (granted-filed k lock entries low)) apart;
      }

  -- a grant puts the lock at the end of the list, and leaves a table
  pub granting : (overlap : A → A → Bool) (lock : HeldLock A) (entries new : List (Key × HeldLock A)) (after : ℕ) → IsTable overlap at next entries → first_conflict overlap lock (granted next entries) ≡ None
      → (at lock.area).start < 2 ^ 64 → after ≡ next + 1 → new ≡ insert_entry key_cmp entries (key_of lock.domain (at lock.area) next) lock → IsTable overlap at after new × (granted after new ≡ granted next entries ++ lock ∷ [])
  granting overlap lock entries new after t free start more filed =
      let next_is : suc next ≡ after = omega (arith, more) in
      subst (λ (m : ℕ). IsTable overlap at m new × (granted m new ≡ granted next entries ++ lock ∷ [])) next_is
      (subst (λ (x : List (Key × HeldLock A)). IsTable overlap at (suc next) x × (granted (suc next) x ≡ granted next entries ++ lock ∷ [])) (sym filed)
      (table_filed overlap lock entries start t (pushed overlap lock (granted next entries) t.apart free), granted-filed (key_of lock.domain (at lock.area) next) lock entries (are_lower entries t.filed)))

pub table_empty : {A : Type 0} (overlap : A → A → Bool) (at : A → Place) (entries : List (Key × HeldLock A)) → entries ≡ [] → IsTable overlap at 0 entries
table_empty {A} overlap at entries none =
    subst (λ (x : List (Key × HeldLock A)). IsTable overlap at 0 x) (sym none) (record { filed = tt; fresh = tt; apart = λ i j d less small. absurd (omega (arith, small)) })
