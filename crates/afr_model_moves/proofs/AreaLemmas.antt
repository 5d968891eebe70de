-- Areas that a test calls the same are the same, and what an unlock of the Heal domain frees.
use Rattle.afr_model_moves.specs.Lines.{range_of, name_of}
use Rattle.afr_lines.specs.Overlap.{same_area}
use Rattle.std.proofs.Common.{◌≡◌, ℕ, Bool, true, false, ◌&&◌, if◌then◌else◌, refl, subst, sym, ap, arith}
use Rattle.std.specs.Prelude.{Option, None, Some, ◌==◌}
use Rattle.afr_lines.specs.declared.request.Area.{Area}
use Rattle.afr_lines.specs.declared.request.Area.TheVariants.{Range, Name}
use Rattle.afr_model_moves.specs.Rules.{Register, heal_area, heal_freed, is_area}
use Rattle.afr_model_moves.specs.Sets.{without}
use Rattle.std.proofs.lemmas.Bool.{eqb-true, and_parts}
use Rattle.afr_model_moves.proofs.Tests.{same_self, three_parts, without_in}

pub same_area_is : (a b : Area) → same_area a b ≡ true → a ≡ b
same_area_is (Range g from to) (Range h start stop) e = three g.0 h.0 from start to stop (three_parts (g.0 == h.0) (from == start) (to == stop) e)
  where
    three : (g h from start to stop : ℕ) → ((g == h) ≡ true) × ((from == start) ≡ true) × ((to == stop) ≡ true) → range_of g from to ≡ range_of h start stop
    three g h from start to stop w = λ i. range_of (eqb-true g h w.0 i) (eqb-true from start w.1 i) (eqb-true to stop w.2 i)
same_area_is (Name g None) (Name h None) e = two g.0 h.0 (and_parts (g.0 == h.0) true e).0
  where
    two : (g h : ℕ) → (g == h) ≡ true → name_of g None ≡ name_of h None
    two g h w = λ i. name_of (eqb-true g h w i) None
same_area_is (Name g (Some n)) (Name h (Some m)) e = two g.0 h.0 n.0 m.0 (and_parts (g.0 == h.0) (n.0 == m.0) e)
  where
    two : (g h n m : ℕ) → ((g == h) ≡ true) × ((n == m) ≡ true) → name_of g (Some (record { 0 = n })) ≡ name_of h (Some (record { 0 = m }))
    two g h n m w = λ i. name_of (eqb-true g h w.0 i) (Some (record { 0 = eqb-true n m w.1 i }))
same_area_is (Range g from to) (Name h None) e = absurd (cc e)
same_area_is (Range g from to) (Name h (Some m)) e = absurd (cc e)
same_area_is (Name g None) (Range h start stop) e = absurd (cc e)
same_area_is (Name g (Some n)) (Range h start stop) e = absurd (cc e)
same_area_is (Name g None) (Name h (Some m)) e = absurd (no_and (g.0 == h.0) e)
  where
    no_and : (x : Bool) → (x && false) ≡ true → ⊥
    no_and x e = grind arith
same_area_is (Name g (Some n)) (Name h None) e = absurd (no_and (g.0 == h.0) e)
  where
    no_and : (x : Bool) → (x && false) ≡ true → ⊥
    no_and x e = grind arith

pub is_area_is : (of : Option Area) (area : Area) → is_area of area ≡ true → of ≡ Some area
is_area_is None area e = absurd (cc e)
is_area_is (Some mine) area e = ap (λ (o : Area). Some o) (same_area_is mine area e)

-- an area is the same as itself
pub same_area_self : (area : Area) → same_area area area ≡ true
same_area_self (Range g from to) = rw (same_self g.0, same_self from, same_self to) refl
same_area_self (Name g None) = rw (same_self g.0) refl
same_area_self (Name g (Some name)) = rw (same_self g.0, same_self name.0) refl

pub own_area : (of : Option Area) (area : Area) → of ≡ Some area → is_area of area ≡ true
own_area of area e = subst (λ (o : Option Area). is_area o area ≡ true) (sym e) (same_area_self area)

-- an unlock of the Heal lock's own area frees it
pub heal_freed_own : (r : Register) (b : ℕ) → heal_freed r (heal_area r.object) b ≡ without r.healing b
heal_freed_own r b = go (same_area (heal_area r.object) (heal_area r.object)) (same_area_self (heal_area r.object))
  where
    go : (own : Bool) → own ≡ true → (if own then without r.healing b else r.healing) ≡ without r.healing b
    go true e = refl
    go false e = absurd (cc e)

-- no unlock gets one
pub heal_freed_in : (r : Register) (area : Area) (b x : ℕ) → heal_freed r area b x ≡ true → r.healing x ≡ true
heal_freed_in r area b x = go (same_area (heal_area r.object) area)
  where
    go : (own : Bool) → (if own then without r.healing b else r.healing) x ≡ true → r.healing x ≡ true
    go true h = without_in r.healing b x h
    go false h = h
