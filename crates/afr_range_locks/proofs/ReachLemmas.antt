-- A search for conflicts misses none: each stands in its reach, which it looks through one span at a time.
use Rattle.std.proofs.Common.{◌≡◌, ℕ, ◌<◌, ◌^◌, Bool, true, false, cond, not, ◌&&◌, ◌||◌, List, [], ◌∷◌, refl, sym, ap, ap₂, subst, ◌∙◌, eqb, if◌then◌else◌, Some, None, Option}
use Rattle.std.specs.BTreeMap.Range.{range_contains}
use Rattle.std.specs.List.{AllByRecursion, filter}
use Rattle.std.specs.Option.{IfSome}
use Rattle.std.specs.declared.ops.Bound.TheVariants.{Included, Excluded}
use Rattle.std.proofs.lemmas.Bool.{or_right}
use Rattle.afr_base.specs.declared.ids.Gfid.{Gfid}
use Rattle.afr_lines.specs.Locks.{conflicts, first_conflict, same_domain}
use Rattle.afr_lines.specs.declared.lock.Domain.{Domain}
use Rattle.afr_lines.specs.declared.lock.Domain.TheVariants.{Work, Heal}
use Rattle.afr_lines.specs.declared.lock.HeldLock.{HeldLock}
use Rattle.afr_range_locks.proofs.ConflictLemmas.{owner_first}
use Rattle.afr_range_locks.proofs.EarlierLemmas.{earlier_of, earlier_swap, either_search}
use Rattle.afr_range_locks.proofs.GrantedLemmas.{all_kept, all_mapped, are_lower}
use Rattle.afr_range_locks.proofs.KeyLemmas.{span_contains}
use Rattle.afr_range_locks.specs.Granted.{AreFresh, IsFiled, IsFresh, conflict_at, conflict_of, earlier, first_granted, granted, in_second, in_span, key_cmp, key_of, owner_of}
use Rattle.afr_range_locks.specs.Reached.{is_in, is_in_some, reaches}
use Rattle.afr_range_locks.specs.declared.lockable.Place.{Place}
use Rattle.afr_range_locks.specs.declared.lockable.Reach.{Reach}
use Rattle.afr_range_locks.specs.declared.lockable.Span.{Span}
use Rattle.afr_range_locks.specs.declared.table.Conflict.{Conflict}
use Rattle.afr_range_locks.specs.declared.table.Key.{Key}

module _ {A : Type 0} (overlap : A → A → Bool) (wanted : HeldLock A) where
  fresh_at : (n : ℕ) (e : Key × HeldLock A) → eqb n e.0.grant ≡ false → IfSome (conflict_at overlap wanted e) (λ (c : Conflict). eqb n c.grant ≡ false)
  fresh_at n e other = go (conflicts overlap wanted e.1)
    where
      go : (b : Bool) → IfSome (if b then Some (conflict_of e) else None) (λ (c : Conflict). eqb n c.grant ≡ false)
      go true = other
      go false = tt

  fresh_first : (n : ℕ) (entries : List (Key × HeldLock A)) → IsFresh n entries → IfSome (first_granted overlap wanted entries) (λ (c : Conflict). eqb n c.grant ≡ false)
  fresh_first n [] h = tt
  fresh_first n (e ∷ entries) h = earlier_of (λ (c : Conflict). eqb n c.grant ≡ false) (conflict_at overlap wanted e) (first_granted overlap wanted entries) (fresh_at n e h.0) (fresh_first n entries h.1)

  apart : (e : Key × HeldLock A) (x : Option Conflict) → IfSome x (λ (c : Conflict). eqb e.0.grant c.grant ≡ false) → earlier (conflict_at overlap wanted e) x ≡ earlier x (conflict_at overlap wanted e)
  apart e x h = earlier_swap (conflict_at overlap wanted e) x (go (conflicts overlap wanted e.1))
    where
      go : (b : Bool) → IfSome (if b then Some (conflict_of e) else None) (λ (c : Conflict). IfSome x (λ (y : Conflict). eqb c.grant y.grant ≡ false))
      go true = h
      go false = tt

  kept_first : (e : Key × HeldLock A) (rest : List (Key × HeldLock A)) (b : Bool) → first_granted overlap wanted (cond b (e ∷ rest) rest) ≡ (if b then earlier (conflict_at overlap wanted e) (first_granted overlap wanted rest) else first_granted overlap wanted rest)
  kept_first e rest true = refl
  kept_first e rest false = refl

  -- no conflict is looked at in vain
  one_more : (e : Key × HeldLock A) (a b : Bool) (x y : Option Conflict) → IfSome x (λ (c : Conflict). eqb e.0.grant c.grant ≡ false) → (conflicts overlap wanted e.1 ≡ true → (a || b) ≡ true)
      → earlier (conflict_at overlap wanted e) (earlier x y) ≡ earlier (if a then earlier (conflict_at overlap wanted e) x else x) (if b then earlier (conflict_at overlap wanted e) y else y)
  one_more e a b x y fresh reach = go (conflicts overlap wanted e.1) refl
    where
      none : (a b : Bool) → earlier x y ≡ earlier (if a then x else x) (if b then y else y)
      none true true = refl
      none true false = refl
      none false true = refl
      none false false = refl

      go : (t : Bool) → conflicts overlap wanted e.1 ≡ t → earlier (conflict_at overlap wanted e) (earlier x y) ≡ earlier (if a then earlier (conflict_at overlap wanted e) x else x) (if b then earlier (conflict_at overlap wanted e) y else y)
      go true is = either_search a b (conflict_at overlap wanted e) x y (apart e x fresh) (reach is)
      go false is = rw is (none a b)

  two_searches : (p q : Key × HeldLock A → Bool) (entries : List (Key × HeldLock A)) → AreFresh entries → AllByRecursion (λ e. conflicts overlap wanted e.1 ≡ true → (p e || q e) ≡ true) entries
      → first_granted overlap wanted entries ≡ earlier (first_granted overlap wanted (filter p entries)) (first_granted overlap wanted (filter q entries))
  two_searches p q [] fresh reach = refl
  two_searches p q (e ∷ entries) fresh reach =
      let x = first_granted overlap wanted (filter p entries) in
      let y = first_granted overlap wanted (filter q entries) in
      ap (earlier (conflict_at overlap wanted e)) (two_searches p q entries fresh.1 reach.1)
      ∙ one_more e (p e) (q e) x y (fresh_first e.0.grant (filter p entries) (all_kept (λ (f : Key × HeldLock A). eqb e.0.grant f.0.grant ≡ false) p entries fresh.0)) reach.0
      ∙ sym (ap₂ earlier (kept_first e (filter p entries) (p e)) (kept_first e (filter q entries) (q e)))

-- ---- which entries a search looks at

nothing_kept : {X : Type 0} (p : X → Bool) → ((x : X) → p x ≡ false) → (xs : List X) → filter p xs ≡ []
nothing_kept p none [] = refl
nothing_kept p none (x ∷ xs) = rw (none x) (nothing_kept p none xs)

pub last_two : (a b c : Bool) → (a && b && c) ≡ true → (b ≡ true) × (c ≡ true)
last_two true true true e = (refl, refl)
last_two true true false e = absurd (cc)
last_two true false c e = absurd (cc)
last_two false b c e = absurd (cc)

pub domain_same : (a b : Domain) → same_domain a b ≡ true → b ≡ a
domain_same Work Work e = refl
domain_same Heal Heal e = refl
domain_same Work Heal e = absurd (cc)
domain_same Heal Work e = absurd (cc)

module _ {A : Type 0} (domain : Domain) (g : Gfid) (next : ℕ) where
  abbrev span_test : Span → Key × HeldLock A → Bool
  span_test span e = range_contains key_cmp (Included (key_of domain (record { gfid = g; start = span.from }) 0)) (Excluded (key_of domain (record { gfid = g; start = span.to }) next)) e.0

  abbrev second_test : Option Span → Key × HeldLock A → Bool
  second_test None e = false
  second_test (Some span) e = span_test span e

  second_is : (second : Option Span) (entries : List (Key × HeldLock A)) → in_second domain g second next entries ≡ filter (second_test second) entries
  second_is None entries = sym (nothing_kept (second_test None) (λ e. refl) entries)
  second_is (Some span) entries = refl

  -- an entry of the object is in a search of its start
  looked_at : (e : Key × HeldLock A) (place : Place) → e.0 ≡ key_of domain place e.0.grant → place.gfid ≡ g → e.0.grant < next → (span : Span) → is_in span place.start ≡ true → span_test span e ≡ true
  looked_at e place key object low span here =
      subst (λ (k : Key). range_contains key_cmp (Included (key_of domain (record { gfid = g; start = span.from }) 0)) (Excluded (key_of domain (record { gfid = g; start = span.to }) next)) k ≡ true) (sym key)
      (subst (λ (x : Gfid). range_contains key_cmp (Included (key_of domain (record { gfid = x; start = span.from }) 0)) (Excluded (key_of domain (record { gfid = x; start = span.to }) next)) (key_of domain place e.0.grant) ≡ true) object
      (span_contains domain place span next e.0.grant here low))

  looked_in : (e : Key × HeldLock A) (start : ℕ) → ((span : Span) → is_in span start ≡ true → span_test span e ≡ true) → (first : Span) (second : Option Span)
      → (b : Bool) → is_in first start ≡ b → (b || is_in_some second start) ≡ true → (span_test first e || second_test second e) ≡ true
  looked_in e start test first second true is h = ap (λ (x : Bool). x || second_test second e) (test first is)
  looked_in e start test first None false is h = absurd (cc)
  looked_in e start test first (Some span) false is h = or_right (span_test first e) (span_test span e) (test span h)

module _ {A : Type 0} (overlap : A → A → Bool) (at : A → Place) (wanted : HeldLock A) (next : ℕ) (reach : Reach) (object : (other : A) → overlap wanted.area other ≡ true → (at other).gfid ≡ (at wanted.area).gfid)
    (start : (other : A) → overlap wanted.area other ≡ true → (at other).start < 2 ^ 64 → reaches reach (at other).start ≡ true) where
  in_reach : (e : Key × HeldLock A) → IsFiled at next e → conflicts overlap wanted e.1 ≡ true
      → (span_test wanted.domain (at wanted.area).gfid next reach.first e || second_test wanted.domain (at wanted.area).gfid next reach.second e) ≡ true
  in_reach e f is =
      let parts = last_two (not (eqb e.1.owner.0 wanted.owner.0)) (same_domain wanted.domain e.1.domain) (overlap wanted.area e.1.area) is in
      let domain : e.1.domain ≡ wanted.domain = domain_same wanted.domain e.1.domain parts.0 in
      let key : e.0 ≡ key_of wanted.domain (at e.1.area) e.0.grant = f.key ∙ ap (λ (d : Domain). key_of d (at e.1.area) e.0.grant) domain in
      let begins : (at e.1.area).start < 2 ^ 64 = subst (λ (n : ℕ). n < 2 ^ 64) (ap (λ (k : Key). k.start) f.key) f.start in
      looked_in wanted.domain (at wanted.area).gfid next e (at e.1.area).start (looked_at wanted.domain (at wanted.area).gfid next e (at e.1.area) key (object e.1.area parts.1) f.grant)
      reach.first reach.second (is_in reach.first (at e.1.area).start) refl (start e.1.area parts.1 begins)

  -- what the two searches find is the first conflict in the list
  found_first : (entries : List (Key × HeldLock A)) → AllByRecursion (IsFiled at next) entries → AreFresh entries
      → owner_of (earlier (first_granted overlap wanted (in_span wanted.domain (at wanted.area).gfid reach.first next entries)) (first_granted overlap wanted (in_second wanted.domain (at wanted.area).gfid reach.second next entries)))
      ≡ first_conflict overlap wanted (granted next entries)
  found_first entries filed fresh =
      let p : Key × HeldLock A → Bool = span_test wanted.domain (at wanted.area).gfid next reach.first in
      let q : Key × HeldLock A → Bool = second_test wanted.domain (at wanted.area).gfid next reach.second in
      ap owner_of (ap (λ (x : List (Key × HeldLock A)). earlier (first_granted overlap wanted (filter p entries)) (first_granted overlap wanted x)) (second_is wanted.domain (at wanted.area).gfid next reach.second entries)
      ∙ sym (two_searches overlap wanted p q entries fresh (all_mapped (IsFiled at next) (λ e. conflicts overlap wanted e.1 ≡ true → (p e || q e) ≡ true) in_reach entries filed)))
      ∙ owner_first overlap wanted next entries (are_lower at next entries filed)

  -- the same, where the place is known by an equation
  pub found_at : (place : Place) → place ≡ at wanted.area → (entries : List (Key × HeldLock A)) → AllByRecursion (IsFiled at next) entries → AreFresh entries
      → owner_of (earlier (first_granted overlap wanted (in_span wanted.domain place.gfid reach.first next entries)) (first_granted overlap wanted (in_second wanted.domain place.gfid reach.second next entries)))
      ≡ first_conflict overlap wanted (granted next entries)
  found_at place is entries filed fresh =
      subst (λ (x : Place). owner_of (earlier (first_granted overlap wanted (in_span wanted.domain x.gfid reach.first next entries)) (first_granted overlap wanted (in_second wanted.domain x.gfid reach.second next entries))) ≡ first_conflict overlap wanted (granted next entries)) (sym is)
      (found_first entries filed fresh)
