-- Where an object is put into a list in order.
use Rattle.std.proofs.Common.{◌≡◌, ℕ, suc, zero, ◌<◌, ◌≤◌, [], ◌∷◌, length, get_or, set, refl, sym, ap, arith}
use Rattle.std.proofs.lemmas.Bool.Decides.{nat_tests}
use Rattle.std.specs.BTreeMap.{insert_entry}
use Rattle.std.specs.List.{insert}
use Rattle.std.specs.declared.cmp.Ordering.TheVariants.{Less, Equal, Greater}
use Rattle.afr_base.specs.declared.ids.Gfid.{Gfid}
use Rattle.afr_base.specs.declared.ids.What.{What}
use Rattle.afr_object.specs.Tables.{gfid_cmp}
use Rattle.afr_index.specs.Listed.{IsSpot, Listed}

-- after so many that are below, the next isn't, or there is none
pub spot : (n : ℕ) (t : Listed) (at : ℕ) (d : Gfid × What) → at ≤ length t → ((k : ℕ) → k < at → (get_or t k d).0.0 < n) → (at < length t → n ≤ (get_or t at d).0.0) → IsSpot n t at
spot n [] zero d l low high = tt
spot n [] (suc at) d l low high = absurd (omega arith)
spot n (x ∷ t) zero d l low high = high (omega arith)
spot n (x ∷ t) (suc at) d l low high = (low 0 (omega arith), spot n t at d (omega arith) (λ k h. low (suc k) (omega arith)) (λ h. high (omega arith)))

pub spot_within : (n : ℕ) (t : Listed) (at : ℕ) → IsSpot n t at → at ≤ length t
spot_within n [] zero is = omega arith
spot_within n [] (suc at) is = absurd is
spot_within n (x ∷ t) zero is = omega arith
spot_within n (x ∷ t) (suc at) is = let more = spot_within n t at is.1 in omega arith

-- an object that isn't there goes before the next
pub put_new : (g : Gfid) (what : What) (t : Listed) (at : ℕ) (d : Gfid × What) → IsSpot g.0 t at → (at < length t → (get_or t at d).0.0 ≡ g.0 → ⊥) → insert t at (g, what) ≡ insert_entry gfid_cmp t g what
put_new g what [] zero d is new = refl
put_new g what [] (suc at) d is new = absurd is
put_new g what (x ∷ t) zero d is new =
    let apart : x.0.0 ≡ g.0 → ⊥ = new (omega arith) in
    let less : gfid_cmp g x.0 ≡ Less = grind (arith, nat_tests, is, apart) in
    rw less refl
put_new g what (x ∷ t) (suc at) d is new =
    let low = is.0 in
    let more : gfid_cmp g x.0 ≡ Greater = grind (arith, nat_tests, low) in
    rw more (ap (λ (rest : Listed). x ∷ rest) (put_new g what t at d is.1 (λ l. new (omega arith))))

-- one that is there is replaced
pub put_same : (g : Gfid) (what : What) (t : Listed) (at : ℕ) (d : Gfid × What) → IsSpot g.0 t at → at < length t → (get_or t at d).0.0 ≡ g.0 → set t at (g, what) ≡ insert_entry gfid_cmp t g what
put_same g what [] at d is l same = absurd (omega arith)
put_same g what (x ∷ t) zero d is l same =
    let equal : gfid_cmp g x.0 ≡ Equal = grind (arith, nat_tests, same) in
    let key : g ≡ x.0 = ap (λ (n : ℕ). record { 0 = n }) (sym same) in
    rw (equal, ← key) refl
put_same g what (x ∷ t) (suc at) d is l same =
    let low = is.0 in
    let more : gfid_cmp g x.0 ≡ Greater = grind (arith, nat_tests, low) in
    rw more (ap (λ (rest : Listed). x ∷ rest) (put_same g what t at d is.1 (omega arith) same))
