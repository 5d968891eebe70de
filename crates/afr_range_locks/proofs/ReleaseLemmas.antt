-- A search for an equal lock finds the first that is left, and misses none.
use Rattle.std.proofs.Common.{◌≡◌, ℕ, ◌<◌, ◌≤◌, Bool, true, false, cond, not, List, [], ◌∷◌, refl, sym, ap, subst, ◌∙◌, arith, eqb, Some, None}
use Rattle.std.proofs.lemmas.Map.Keys.{sorted_head, sorted_tail}
use Rattle.std.specs.BTreeMap.{is_at}
use Rattle.std.specs.BTreeMap.Range.{range_contains}
use Rattle.std.specs.List.{AllByRecursion, filter}
use Rattle.std.specs.List.Sorted.{IsStrictlySortedBy}
use Rattle.std.specs.Map.{keys_of, lookup, remove_entry}
use Rattle.std.specs.Option.{is_some}
use Rattle.std.specs.Ordering.{is_eq}
use Rattle.std.specs.declared.cmp.Ordering.TheVariants.{Less}
use Rattle.std.specs.declared.ops.Bound.TheVariants.{Included, Excluded}
use Rattle.afr_lines.specs.Locks.{is_lock, same_domain}
use Rattle.afr_lines.specs.declared.lock.Domain.{Domain}
use Rattle.afr_lines.specs.declared.lock.HeldLock.{HeldLock}
use Rattle.afr_range_locks.proofs.KeyLemmas.{at_place_contains, granted_later, key_itself, not_before}
use Rattle.afr_range_locks.proofs.ReachLemmas.{domain_same, last_two}
use Rattle.afr_range_locks.specs.Granted.{IsFiled, at_place, first_equal, key_cmp, key_of}
use Rattle.afr_range_locks.specs.declared.lockable.Place.{Place}
use Rattle.afr_range_locks.specs.declared.table.Key.{Key}

all_removed : {X : Type 0} (P : Key × X → Type 0) (test : Key → Bool) (xs : List (Key × X)) → AllByRecursion P xs → AllByRecursion P (remove_entry test xs)
all_removed P test [] h = tt
all_removed P test (x ∷ xs) h = go (test x.0) (all_removed P test xs h.1)
  where
    go : (b : Bool) → AllByRecursion P (remove_entry test xs) → AllByRecursion P (cond b xs (x ∷ remove_entry test xs))
    go true rest = h.1
    go false rest = (h.0, rest)

module _ {A : Type 0} (same : A → A → Bool) (one : HeldLock A) where
  -- what taking out the entry of a key does
  record Takes (next : ℕ) (k : Key) (entries : List (Key × HeldLock A)) : Type 0 where
    left : filter (λ e. not (is_lock same one e.1)) (remove_entry (is_at (key_cmp k)) entries) ≡ filter (λ e. not (is_lock same one e.1)) entries
    from : AllByRecursion (λ e. is_lock same one e.1 ≡ true → k.grant ≤ e.0.grant) entries
    low : k.grant < next
    there : is_some (lookup (is_at (key_cmp k)) entries) ≡ true

  -- where the search finds nothing, no equal lock is left
  none_left : (p : Key × HeldLock A → Bool) (entries : List (Key × HeldLock A)) → AllByRecursion (λ e. is_lock same one e.1 ≡ true → p e ≡ true) entries → first_equal same one (filter p entries) ≡ None
      → filter (λ e. not (is_lock same one e.1)) entries ≡ entries
  none_left p [] all none = refl
  none_left p (e ∷ entries) all none = go (is_lock same one e.1) (p e) refl refl none (none_left p entries all.1)
    where
      go : (b a : Bool) → is_lock same one e.1 ≡ b → p e ≡ a → first_equal same one (cond a (e ∷ filter p entries) (filter p entries)) ≡ None
          → (first_equal same one (filter p entries) ≡ None → filter (λ x. not (is_lock same one x.1)) entries ≡ entries)
          → cond (not (is_lock same one e.1)) (e ∷ filter (λ x. not (is_lock same one x.1)) entries) (filter (λ x. not (is_lock same one x.1)) entries) ≡ e ∷ entries
      go true true eq is none rest = let some : Some e.0 ≡ None = (rw eq at none) in absurd (cc)
      go true false eq is none rest = let no : true ≡ false = sym (all.0 eq) ∙ is in absurd (cc)
      go false true eq is none rest = rw eq (ap (λ (x : List (Key × HeldLock A)). e ∷ x) (rest (rw eq at none)))
      go false false eq is none rest = rw eq (ap (λ (x : List (Key × HeldLock A)). e ∷ x) (rest none))

  -- what holds of every key holds of the one that is found
  picks : (P : Key → Type 0) (p : Key × HeldLock A → Bool) (k : Key) (entries : List (Key × HeldLock A)) → AllByRecursion P (keys_of entries) → first_equal same one (filter p entries) ≡ Some k → P k
  picks P p k [] all some = absurd (cc)
  picks P p k (e ∷ entries) all some = go (p e) (is_lock same one e.1) refl some (picks P p k entries all.1)
    where
      go : (a b : Bool) → is_lock same one e.1 ≡ b → first_equal same one (cond a (e ∷ filter p entries) (filter p entries)) ≡ Some k → (first_equal same one (filter p entries) ≡ Some k → P k) → P k
      go true true eq some rest = let is : Some e.0 ≡ Some k = (rw eq at some) in let key : e.0 ≡ k = cc in subst P key all.0
      go true false eq some rest = rest (rw eq at some)
      go false b eq some rest = rest some

module _ {A : Type 0} (same : A → A → Bool) (one : HeldLock A) (at : A → Place) (next from : ℕ) (places : (other : A) → same one.area other ≡ true → at other ≡ at one.area) where
  abbrev place_test : Key × HeldLock A → Bool
  place_test e = range_contains key_cmp (Included (key_of one.domain (at one.area) from)) (Excluded (key_of one.domain (at one.area) next)) e.0

  -- an equal lock stands at the same place
  equal_key : (e : Key × HeldLock A) → IsFiled at next e → is_lock same one e.1 ≡ true → e.0 ≡ key_of one.domain (at one.area) e.0.grant
  equal_key e f is =
      let parts = last_two (eqb one.owner.0 e.1.owner.0) (same_domain one.domain e.1.domain) (same one.area e.1.area) is in
      f.key ∙ ap (λ (d : Domain). key_of d (at e.1.area) e.0.grant) (domain_same one.domain e.1.domain parts.0) ∙ ap (λ (place : Place). key_of one.domain place e.0.grant) (places e.1.area parts.1)

  -- the search looks at each equal lock whose number isn't lower
  looks_at : (e : Key × HeldLock A) → IsFiled at next e → (is_lock same one e.1 ≡ true → from ≤ e.0.grant) → is_lock same one e.1 ≡ true → place_test e ≡ true
  looks_at e f later is =
      subst (λ (k : Key). range_contains key_cmp (Included (key_of one.domain (at one.area) from)) (Excluded (key_of one.domain (at one.area) next)) k ≡ true) (sym (equal_key e f is)) (at_place_contains one.domain (at one.area) from next e.0.grant (later is) f.grant)

  all_looked_at : (entries : List (Key × HeldLock A)) → AllByRecursion (IsFiled at next) entries → AllByRecursion (λ e. is_lock same one e.1 ≡ true → from ≤ e.0.grant) entries
      → AllByRecursion (λ e. is_lock same one e.1 ≡ true → place_test e ≡ true) entries
  all_looked_at [] filed later = tt
  all_looked_at (e ∷ entries) filed later = (looks_at e filed.0 later.0, all_looked_at entries filed.1 later.1)

  -- equal locks behind one that is equal were granted later
  behind : (e : Key × HeldLock A) → IsFiled at next e → is_lock same one e.1 ≡ true → (entries : List (Key × HeldLock A)) → AllByRecursion (IsFiled at next) entries → AllByRecursion (λ k. key_cmp e.0 k ≡ Less) (keys_of entries)
      → AllByRecursion (λ f. is_lock same one f.1 ≡ true → e.0.grant ≤ f.0.grant) entries
  behind e f is [] filed sorted = tt
  behind e f is (x ∷ entries) filed sorted = (
    λ also. let less : key_cmp (key_of one.domain (at one.area) e.0.grant) (key_of one.domain (at one.area) x.0.grant) ≡ Less = subst (λ (k : Key). key_cmp k (key_of one.domain (at one.area) x.0.grant) ≡ Less) (equal_key e f is) (subst (λ (k : Key). key_cmp e.0 k ≡ Less) (equal_key x filed.0 also) sorted.0) in
        omega (arith, granted_later one.domain (at one.area) e.0.grant x.0.grant less),
    behind e f is entries filed.1 sorted.1,
  )

  takes : (k : Key) (entries : List (Key × HeldLock A)) → AllByRecursion (IsFiled at next) entries → AllByRecursion (λ e. is_lock same one e.1 ≡ true → place_test e ≡ true) entries → IsStrictlySortedBy key_cmp (keys_of entries)
      → first_equal same one (filter place_test entries) ≡ Some k → Takes same one next k entries
  takes k [] filed all sorted some = absurd (cc)
  takes k (e ∷ entries) filed all sorted some =
      go (is_lock same one e.1) (place_test e) refl refl some (takes k entries filed.1 all.1 (sorted_tail key_cmp e.0 (keys_of entries) sorted))
    where
      before : AllByRecursion (λ y. key_cmp e.0 y ≡ Less) (keys_of entries)
      before = sorted_head key_cmp e.0 (keys_of entries) sorted

      here : is_lock same one e.1 ≡ true → e.0 ≡ k → Takes same one next k (e ∷ entries)
      here eq key =
          let at_it : is_eq (key_cmp k e.0) ≡ true = subst (λ (x : Key). is_eq (key_cmp x e.0) ≡ true) key (key_itself e.0) in
          record {
            left = rw (at_it, eq) refl;
            from = subst (λ (x : Key). AllByRecursion (λ f. is_lock same one f.1 ≡ true → x.grant ≤ f.0.grant) (e ∷ entries)) key (λ is. omega arith, behind e filed.0 eq entries filed.1 before);
            low = subst (λ (x : Key). x.grant < next) key filed.0.grant;
            there = rw at_it refl;
          }

      further : is_lock same one e.1 ≡ false → first_equal same one (filter place_test entries) ≡ Some k → Takes same one next k entries → Takes same one next k (e ∷ entries)
      further eq some t =
          let past : is_eq (key_cmp k e.0) ≡ false = not_before e.0 k (picks same one (λ y. key_cmp e.0 y ≡ Less) place_test k entries before some) in
          record {
            left = rw (past, eq) (ap (λ (x : List (Key × HeldLock A)). e ∷ x) t.left);
            from = (λ is. let no : true ≡ false = sym is ∙ eq in absurd (cc), t.from);
            low = t.low;
            there = rw past t.there;
          }

      go : (b a : Bool) → is_lock same one e.1 ≡ b → place_test e ≡ a → first_equal same one (cond a (e ∷ filter place_test entries) (filter place_test entries)) ≡ Some k
          → (first_equal same one (filter place_test entries) ≡ Some k → Takes same one next k entries) → Takes same one next k (e ∷ entries)
      go true true eq is some rest = let found : Some e.0 ≡ Some k = (rw eq at some) in here eq (cc)
      go true false eq is some rest = let no : true ≡ false = sym (all.0 eq) ∙ is in absurd (cc)
      go false true eq is some rest = let left : first_equal same one (filter place_test entries) ≡ Some k = (rw eq at some) in further eq left (rest left)
      go false false eq is some rest = further eq some (rest some)

  -- what a turn leaves
  pub record Taken (k : Key) (entries new : List (Key × HeldLock A)) : Type 0 where
    pub left : filter (λ e. not (is_lock same one e.1)) new ≡ filter (λ e. not (is_lock same one e.1)) entries
    pub filed : AllByRecursion (IsFiled at next) new
    pub later : AllByRecursion (λ e. is_lock same one e.1 ≡ true → k.grant ≤ e.0.grant) new
    pub low : k.grant < next
    pub there : is_some (lookup (is_at (key_cmp k)) entries) ≡ true

  pub taken : (k : Key) (entries new : List (Key × HeldLock A)) → AllByRecursion (IsFiled at next) entries → AllByRecursion (λ e. is_lock same one e.1 ≡ true → from ≤ e.0.grant) entries
      → IsStrictlySortedBy key_cmp (keys_of entries) → Some k ≡ first_equal same one (at_place one.domain (at one.area) from next entries) → new ≡ remove_entry (is_at (key_cmp k)) entries → Taken k entries new
  taken k entries new filed later sorted first removed =
      let t : Takes same one next k entries = takes k entries filed (all_looked_at entries filed later) sorted (sym first) in
      subst (λ (x : List (Key × HeldLock A)). Taken k entries x) (sym removed) (record {
        left = t.left;
        filed = all_removed (IsFiled at next) (is_at (key_cmp k)) entries filed;
        later = all_removed (λ (e : Key × HeldLock A). is_lock same one e.1 ≡ true → k.grant ≤ e.0.grant) (is_at (key_cmp k)) entries t.from;
        low = t.low;
        there = t.there;
      })

  -- where nothing is found, none was left
  pub all_taken : (entries : List (Key × HeldLock A)) → AllByRecursion (IsFiled at next) entries → AllByRecursion (λ e. is_lock same one e.1 ≡ true → from ≤ e.0.grant) entries
      → None ≡ first_equal same one (at_place one.domain (at one.area) from next entries) → filter (λ e. not (is_lock same one e.1)) entries ≡ entries
  all_taken entries filed later none = none_left same one place_test entries (all_looked_at entries filed later) (sym none)

pub all_from_0 : {A : Type 0} (same : A → A → Bool) (one : HeldLock A) (entries : List (Key × HeldLock A)) → AllByRecursion (λ e. is_lock same one e.1 ≡ true → 0 ≤ e.0.grant) entries
all_from_0 same one [] = tt
all_from_0 same one (e ∷ entries) = (λ is. omega arith, all_from_0 same one entries)
