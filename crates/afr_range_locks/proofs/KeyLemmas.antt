-- The order of keys, and which keys the searches of the map reach.
use Rattle.std.proofs.Common.{◌≡◌, ℕ, ◌<◌, ◌≤◌, Bool, true, false, not, ◌&&◌, refl, sym, ap, ap₂, ◌∙◌, arith}
use Rattle.std.proofs.lemmas.Bool.Decides.{nat_tests}
use Rattle.std.proofs.lemmas.Cmp.{nat_cmp_total, on_total, then_total, tied_itself}
use Rattle.std.specs.BTreeMap.Range.{range_contains}
use Rattle.std.specs.Cmp.{IsTotalOrder, ranks}
use Rattle.std.specs.Ordering.{MatchOrdering, is_eq, is_gt, is_le, nat_cmp, ordering_reverse, ordering_then}
use Rattle.std.specs.declared.cmp.Ordering.{Ordering}
use Rattle.std.specs.declared.cmp.Ordering.TheVariants.{Less, Equal, Greater}
use Rattle.std.specs.declared.ops.Bound.TheVariants.{Included, Excluded}
use Rattle.afr_base.specs.declared.ids.Gfid.{Gfid}
use Rattle.afr_lines.specs.declared.lock.Domain.{Domain}
use Rattle.afr_range_locks.specs.Granted.{key_cmp, key_of}
use Rattle.afr_range_locks.specs.Reached.{is_in}
use Rattle.afr_range_locks.specs.declared.lockable.Place.{Place}
use Rattle.afr_range_locks.specs.declared.lockable.Span.{Span}
use Rattle.afr_range_locks.specs.declared.table.Key.{Key}

key_total : IsTotalOrder key_cmp
key_total =
    then_total (on_total (λ (k : Key). k.domain) nat_cmp_total) (then_total (on_total (λ (k : Key). k.gfid.0) nat_cmp_total) (then_total (on_total (λ (k : Key). k.start) nat_cmp_total) (on_total (λ (k : Key). k.grant) nat_cmp_total)))

-- the three ways in which a number stands to another
by_cmp : (m n : ℕ) (P : Ordering → Type 0) → (m < n → P Less) → (m ≡ n → P Equal) → (n < m → P Greater) → P (nat_cmp m n)
by_cmp m n P less same more = go (nat_cmp m n) (ranks m n)
  where
    go : (r : Ordering) → MatchOrdering r (m < n) (m ≡ n) (n < m) → P r
    go Less h = less h
    go Equal h = same h
    go Greater h = more h

nat_itself : (n : ℕ) → nat_cmp n n ≡ Equal
nat_itself n = tied_itself nat_cmp_total n

nat_equal : (m n : ℕ) → nat_cmp m n ≡ Equal → m ≡ n
nat_equal m n = by_cmp m n (λ r. r ≡ Equal → m ≡ n) (λ h e. absurd (cc)) (λ h e. h) (λ h e. absurd (cc))

nat_less : (m n : ℕ) → nat_cmp m n ≡ Less → m < n
nat_less m n = by_cmp m n (λ r. r ≡ Less → m < n) (λ h e. h) (λ h e. absurd (cc)) (λ h e. absurd (cc))

then_equal : (r s : Ordering) → ordering_then r s ≡ Equal → s ≡ Equal
then_equal Less s e = absurd (cc)
then_equal Equal s e = e
then_equal Greater s e = absurd (cc)

-- keys of two grants differ
pub same_grant : (a b : Key) → key_cmp a b ≡ Equal → a.grant ≡ b.grant
same_grant a b e =
    let last = nat_cmp a.grant b.grant in
    let third = ordering_then (nat_cmp a.start b.start) last in
    let second = ordering_then (nat_cmp a.gfid.0 b.gfid.0) third in
    nat_equal a.grant b.grant (then_equal (nat_cmp a.start b.start) last (then_equal (nat_cmp a.gfid.0 b.gfid.0) third (then_equal (nat_cmp a.domain b.domain) second e)))

pub key_itself : (k : Key) → is_eq (key_cmp k k) ≡ true
key_itself k = ap is_eq (tied_itself key_total k)

-- a key isn't at one that comes before it
pub not_before : (a b : Key) → key_cmp a b ≡ Less → is_eq (key_cmp b a) ≡ false
not_before a b e = ap is_eq (key_total.antisymm b a ∙ ap ordering_reverse e)

-- keys of one place are in the order of their grants
at_one_place : (domain : Domain) (place : Place) (m n : ℕ) → key_cmp (key_of domain place m) (key_of domain place n) ≡ nat_cmp m n
at_one_place domain place m n = simp nat_itself

pub granted_later : (domain : Domain) (place : Place) (m n : ℕ) → key_cmp (key_of domain place m) (key_of domain place n) ≡ Less → m < n
granted_later domain place m n e = nat_less m n (sym (at_one_place domain place m n) ∙ e)

isnt_greater : (m n : ℕ) → m ≤ n → is_gt (nat_cmp m n) ≡ false
isnt_greater m n h = by_cmp m n (λ r. is_gt r ≡ false) (λ less. refl) (λ same. refl) (λ more. absurd (omega (arith, more, h)))

is_low : (m n : ℕ) → m ≤ n → is_le (nat_cmp m n) ≡ true
is_low m n h = by_cmp m n (λ r. is_le r ≡ true) (λ less. refl) (λ same. refl) (λ more. absurd (omega (arith, more, h)))

isnt_low : (m n : ℕ) → n < m → is_le (nat_cmp m n) ≡ false
isnt_low m n h = by_cmp m n (λ r. is_le r ≡ false) (λ less. absurd (omega (arith, less, h))) (λ same. absurd (omega (arith, same, h))) (λ more. refl)

pub at_place_forward : (domain : Domain) (place : Place) (m n : ℕ) → m ≤ n → is_gt (key_cmp (key_of domain place m) (key_of domain place n)) ≡ false
at_place_forward domain place m n h = ap is_gt (at_one_place domain place m n) ∙ isnt_greater m n h

pub at_place_contains : (domain : Domain) (place : Place) (from next n : ℕ) → from ≤ n → n < next
    → range_contains key_cmp (Included (key_of domain place from)) (Excluded (key_of domain place next)) (key_of domain place n) ≡ true
at_place_contains domain place from next n low high =
    ap₂ (λ (a b : Bool). a && not b) (ap is_le (at_one_place domain place from n) ∙ is_low from n low) (ap is_le (at_one_place domain place next n) ∙ isnt_low next n high)

-- keys of one object are in the order of their starts and grants
on_one_object : (domain : Domain) (g : Gfid) (s t m n : ℕ)
    → key_cmp (key_of domain (record { gfid = g; start = s }) m) (key_of domain (record { gfid = g; start = t }) n) ≡ ordering_then (nat_cmp s t) (nat_cmp m n)
on_one_object domain g s t m n = simp nat_itself

starts_forward : (s t n : ℕ) → s ≤ t → is_gt (ordering_then (nat_cmp s t) (nat_cmp 0 n)) ≡ false
starts_forward s t n h = by_cmp s t (λ r. is_gt (ordering_then r (nat_cmp 0 n)) ≡ false) (λ less. refl) (λ same. isnt_greater 0 n (omega arith)) (λ more. absurd (omega (arith, more, h)))

starts_low : (s t n : ℕ) → s ≤ t → is_le (ordering_then (nat_cmp s t) (nat_cmp 0 n)) ≡ true
starts_low s t n h = by_cmp s t (λ r. is_le (ordering_then r (nat_cmp 0 n)) ≡ true) (λ less. refl) (λ same. is_low 0 n (omega arith)) (λ more. absurd (omega (arith, more, h)))

starts_high : (s t m n : ℕ) → t ≤ s → n < m → is_le (ordering_then (nat_cmp s t) (nat_cmp m n)) ≡ false
starts_high s t m n h high = by_cmp s t (λ r. is_le (ordering_then r (nat_cmp m n)) ≡ false) (λ less. absurd (omega (arith, less, h))) (λ same. isnt_low m n high) (λ more. refl)

pub span_forward : (domain : Domain) (g : Gfid) (span : Span) (next : ℕ) → span.from ≤ span.to
    → is_gt (key_cmp (key_of domain (record { gfid = g; start = span.from }) 0) (key_of domain (record { gfid = g; start = span.to }) next)) ≡ false
span_forward domain g span next h = ap is_gt (on_one_object domain g span.from span.to 0 next) ∙ starts_forward span.from span.to next h

is_in_parts : (span : Span) (start : ℕ) → is_in span start ≡ true → (span.from ≤ start) × (start ≤ span.to)
is_in_parts span start e = (grind (arith, nat_tests, e), grind (arith, nat_tests, e))

pub span_contains : (domain : Domain) (place : Place) (span : Span) (next n : ℕ) → is_in span place.start ≡ true → n < next
    → range_contains key_cmp (Included (key_of domain (record { gfid = place.gfid; start = span.from }) 0)) (Excluded (key_of domain (record { gfid = place.gfid; start = span.to }) next)) (key_of domain place n) ≡ true
span_contains domain place span next n e high =
    let p = is_in_parts span place.start e in
    ap₂ (λ (a b : Bool). a && not b) (ap is_le (on_one_object domain place.gfid span.from place.start 0 n) ∙ starts_low span.from place.start n p.0)
    (ap is_le (on_one_object domain place.gfid span.to place.start next n) ∙ starts_high span.to place.start next n p.1 high)
