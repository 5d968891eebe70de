-- Names as the bytes of a set's keys, and the names of the opening files.
use Rattle.std.proofs.Common.{◌≡◌, ℕ, ◌+◌, ◌<◌, ◌^◌, List, [], ◌∷◌, ◌++◌, refl, ap, ◌∙◌, arith, Bool, true, false, cond, map, not, ◌||◌, suc, zero, drop}
use Rattle.std.specs.Prelude.{decimal}
use Rattle.std.specs.Cmp.{IsEquivalence}
use Rattle.std.specs.List.{list_any, position_or_len, IsDistinct}
use Rattle.std.specs.Str.{bytes_eq}
use Rattle.std.proofs.lemmas.Cmp.{nat_list_eq_equiv}
use Rattle.std.proofs.lemmas.Fmt.{decimal_injective}
use Rattle.std.proofs.lemmas.Slice.Eq.{bytes_eq-Decides}
use Rattle.std.proofs.lemmas.List.Folds.{list_any-append}
use Rattle.indexmap.specs.IndexSet.{insert_all}
use Rattle.indexmap.proofs.SetLemmas.{set_all_distinct}
use Rattle.afr_plan_read.specs.declared.keyed.Word.{Word}
use Rattle.afr_plan.specs.Names.{with_name, file_name, file_names}

abbrev pub bytes : Word → List ℕ
bytes v = v.bytes.items

pub place-map : (w : List ℕ) (ks : List (Word)) → position_or_len (bytes_eq w) (map bytes ks) ≡ position_or_len (λ k. bytes_eq w (bytes k)) ks
place-map w [] = refl
place-map w (k ∷ ks) = ap (λ (n : ℕ). cond (not (bytes_eq w (bytes k))) (1 + n) 0) (place-map w ks)

any-map : (w : List ℕ) (ks : List (Word)) → list_any (bytes_eq w) (map bytes ks) ≡ list_any (λ k. bytes_eq w (bytes k)) ks
any-map w [] = refl
any-map w (k ∷ ks) = ap (λ (b : Bool). bytes_eq w (bytes k) || b) (any-map w ks)

map-append : (xs ys : List (Word)) → map bytes (xs ++ ys) ≡ map bytes xs ++ map bytes ys
map-append [] ys = refl
map-append (x ∷ xs) ys = ap (λ (t : List (List ℕ)). bytes x ∷ t) (map-append xs ys)

pub insert-map : (w : Word) (ks : List (Word)) → map bytes (cond (list_any (λ k. bytes_eq (bytes w) (bytes k)) ks) ks (ks ++ w ∷ [])) ≡ with_name (map bytes ks) (bytes w)
insert-map w ks = rw (any-map (bytes w) ks) (step (list_any (λ k. bytes_eq (bytes w) (bytes k)) ks))
  where
    step : (c : Bool) → map bytes (cond c ks (ks ++ w ∷ [])) ≡ cond c (map bytes ks) (map bytes ks ++ bytes w ∷ [])
    step true = refl
    step false = map-append ks (w ∷ [])

-- ---- hashing the names anew
abbrev pub same_name : Word → Word → Bool
same_name v w = bytes_eq (bytes v) (bytes w)

names_laws : IsEquivalence same_name
names_laws = record {
  refl = λ x. nat_list_eq_equiv.refl (bytes x);
  symm = λ x y. nat_list_eq_equiv.symm (bytes x) (bytes y);
  congr = λ x y z. nat_list_eq_equiv.congr (bytes x) (bytes y) (bytes z);
}

-- names of which no two are equal, inserted in their order into an empty set, are those names
pub inserted_again : (ks : List (Word)) → IsDistinct same_name ks → insert_all same_name [] ks ≡ ks
inserted_again ks d = set_all_distinct names_laws [] ks d

-- ---- the opening files
-- two numbers have two names
other_name : (n k : ℕ) → k < n → n < 2 ^ 64 → bytes_eq (file_name n) (file_name k) ≡ false
other_name n k l h = step (bytes_eq (file_name n) (file_name k)) refl
  where
    step : (c : Bool) → bytes_eq (file_name n) (file_name k) ≡ c → c ≡ false
    step false e = refl
    step true e =
        let same : file_name n ≡ file_name k = (bytes_eq-Decides (file_name n) (file_name k)).0 e in
        let digits : decimal n ≡ decimal k = ap (drop 1) same in
        let small : k < 2 ^ 64 = omega arith in
        let equal : n ≡ k = decimal_injective n k h small digits in
        absurd (omega (arith, equal))

not_among : (n k : ℕ) → k < n → n < 2 ^ 64 → list_any (bytes_eq (file_name n)) (file_names k) ≡ false
not_among n zero l h = refl
not_among n (suc k) l h =
    let one : bytes_eq (file_name n) (file_name (suc k)) ≡ false = other_name n (suc k) l h in
    let older : list_any (bytes_eq (file_name n)) (file_names k) ≡ false = not_among n k (omega arith) h in
    list_any-append (bytes_eq (file_name n)) (file_names k) (file_name (suc k) ∷ []) ∙ rw (older, one) refl

-- each opening file has a name of its own
pub next_file : (i k : ℕ) → k ≡ suc i → k < 2 ^ 64 → with_name (file_names i) (file_name k) ≡ file_names k
next_file i k e h =
    let new : list_any (bytes_eq (file_name k)) (file_names i) ≡ false = not_among k i (omega (arith, e)) h in
    rw new (rw e refl)
