-- Of two conflicts the one that was granted earlier, whatever the order in which they are met.
use Rattle.std.proofs.Common.{◌≡◌, Bool, true, false, ◌||◌, refl, sym, ap, ◌∙◌, arith, eqb, ltb, if◌then◌else◌, Some, None, Option}
use Rattle.std.proofs.lemmas.Bool.Decides.{nat_tests}
use Rattle.std.specs.Option.{IfSome}
use Rattle.afr_range_locks.specs.Granted.{earlier}
use Rattle.afr_range_locks.specs.declared.table.Conflict.{Conflict}

pub earlier_none : (a : Option Conflict) → earlier a None ≡ a
earlier_none None = refl
earlier_none (Some a) = refl

pub earlier_assoc : (a b c : Option Conflict) → earlier (earlier a b) c ≡ earlier a (earlier b c)
earlier_assoc None b c = refl
earlier_assoc (Some a) None c = refl
earlier_assoc (Some a) (Some b) None = go (ltb b.grant a.grant)
  where
    go : (t : Bool) → earlier (if t then Some b else Some a) None ≡ (if t then Some b else Some a)
    go true = refl
    go false = refl
earlier_assoc (Some a) (Some b) (Some c) = go (ltb b.grant a.grant) (ltb c.grant b.grant) refl refl
  where
    go : (t u : Bool) → ltb b.grant a.grant ≡ t → ltb c.grant b.grant ≡ u → earlier (if t then Some b else Some a) (Some c) ≡ earlier (Some a) (if u then Some c else Some b)
    go true true ba cb = let ca : ltb c.grant a.grant ≡ true = grind (arith, nat_tests, ba, cb) in rw (cb, ca) refl
    go true false ba cb = rw (cb, ba) refl
    go false true ba cb = refl
    go false false ba cb = let ca : ltb c.grant a.grant ≡ false = grind (arith, nat_tests, ba, cb) in rw (ca, ba) refl

-- where the two have different numbers, the order of the two doesn't matter
pub earlier_swap : (a b : Option Conflict) → IfSome a (λ x. IfSome b (λ y. eqb x.grant y.grant ≡ false)) → earlier a b ≡ earlier b a
earlier_swap None None h = refl
earlier_swap None (Some b) h = refl
earlier_swap (Some a) None h = refl
earlier_swap (Some a) (Some b) h = go (ltb b.grant a.grant) (ltb a.grant b.grant) refl refl
  where
    go : (t u : Bool) → ltb b.grant a.grant ≡ t → ltb a.grant b.grant ≡ u → (if t then Some b else Some a) ≡ (if u then Some a else Some b)
    go true true ba ab = absurd (grind (arith, nat_tests, ba, ab))
    go true false ba ab = refl
    go false true ba ab = refl
    go false false ba ab = absurd (grind (arith, nat_tests, ba, ab, h))

earlier_itself : (c : Option Conflict) → earlier c c ≡ c
earlier_itself None = refl
earlier_itself (Some c) = let same : ltb c.grant c.grant ≡ false = grind (arith, nat_tests) in rw same refl

past : (c x y : Option Conflict) → earlier c x ≡ earlier x c → earlier x (earlier c y) ≡ earlier c (earlier x y)
past c x y swap = sym (earlier_assoc x c y) ∙ ap (λ (z : Option Conflict). earlier z y) (sym swap) ∙ earlier_assoc c x y

-- one that is looked at in either of two searches, or in both
pub either_search : (a b : Bool) (c x y : Option Conflict) → earlier c x ≡ earlier x c → (a || b) ≡ true → earlier c (earlier x y) ≡ earlier (if a then earlier c x else x) (if b then earlier c y else y)
either_search true true c x y swap some =
    ap (λ (z : Option Conflict). earlier z (earlier x y)) (sym (earlier_itself c)) ∙ earlier_assoc c c (earlier x y) ∙ ap (earlier c) (sym (past c x y swap)) ∙ sym (earlier_assoc c x (earlier c y))
either_search true false c x y swap some = sym (earlier_assoc c x y)
either_search false true c x y swap some = sym (past c x y swap)
either_search false false c x y swap some = absurd (cc)

pub earlier_of : (P : Conflict → Type 0) (a b : Option Conflict) → IfSome a P → IfSome b P → IfSome (earlier a b) P
earlier_of P None b ha hb = hb
earlier_of P (Some a) None ha hb = ha
earlier_of P (Some a) (Some b) ha hb = go (ltb b.grant a.grant)
  where
    go : (t : Bool) → IfSome (if t then Some b else Some a) P
    go true = hb
    go false = ha
