-- What every brick of a plan has at the beginning, as numbers.
use Rattle.std.proofs.Common.{◌≡◌, ℕ, suc, zero, ◌<◌, ◌≤◌, ◌^◌, Bool, true, false, ◌&&◌, refl, sym, ◌∙◌, subst, arith, None, Some, ◌==◌, if◌then◌else◌}
use Rattle.std.proofs.lemmas.Bool.Decides.{nat_tests}
use Rattle.afr_base.specs.declared.ids.What.{What}
use Rattle.afr_base.specs.declared.ids.What.TheVariants.{File, Dir}
use Rattle.afr_object.specs.Tables.{new_object, opening, opening_gfid, root}
use Rattle.afr_object.specs.declared.change.Change.{Change}
use Rattle.afr_object.specs.declared.change.Change.TheVariants.{Make}
use Rattle.afr_object.specs.TablesLemmas.{same_gfid}
use Rattle.afr_model_moves.specs.Cells.{Entry, what_code, entry_code, fits, touches, leaves}
use Rattle.afr_law_tables.specs.Codes.{kind_code, kind_in, code_in}
use Rattle.afr_model_moves.specs.Past.{keep}
use Rattle.afr_law_tables.proofs.Entries.{entry_same, entry_some}
use Rattle.afr_law_tables.proofs.Copies.{kind_applied}
use Rattle.afr_law_tables.proofs.Values.{code_applied}
use Rattle.afr_law_tables.proofs.Sound.{sound_opening}

-- the change that makes the next opening file
abbrev pub opening_make : ℕ → Change
opening_make i = Make root (record { 0 = i }) (opening_gfid (suc i)) File

keep_some : (k new : ℕ) → (k ≡ 0 → ⊥) → keep k new ≡ k
keep_some zero new h = absurd (h refl)
keep_some (suc k) new h = refl

pub opening_root : (i : ℕ) → kind_in (opening i) 1 ≡ 2
opening_root zero = refl
opening_root (suc i) = kind_applied true (opening_make i) (opening i) 1 ∙ rw (opening_root i) refl

opening_other : (i g : ℕ) → (g == 1) ≡ false → kind_in (opening i) g ≤ 1
opening_other zero g other = (let none : kind_in (opening 0) g ≡ 0 = start (same_gfid (record { 0 = g }) root ∙ other) in omega (arith, none))
  where
    start : {is : Bool} → is ≡ false → kind_code (if is then Some (new_object Dir) else None) ≡ 0
    start e = rw e refl
opening_other (suc i) g other = (let is = kind_applied true (opening_make i) (opening i) g in let w = go (kind_in (opening i) g) (opening_other i g other) (kind_in (opening i) 1 == 0) ((opening_gfid (suc i)).0 == g) in omega (arith, is, w))
  where
    go : (k : ℕ) → k ≤ 1 → (lacks hit : Bool) → keep k (if lacks then 0 else (if hit then 1 else 0)) ≤ 1
    go zero h true hit = omega arith
    go zero h false true = omega arith
    go zero h false false = omega arith
    go (suc k) h lacks hit = h

above_root : (i : ℕ) → ((opening_gfid i).0 == 1) ≡ false
above_root i = grind (arith, nat_tests)

-- nothing but the root and the opening files is there
pub opening_none : (i g : ℕ) → (g ≡ 1 → ⊥) → g < 2 ^ 64 → kind_in (opening i) g ≡ 0
opening_none zero g other low = start (same_gfid (record { 0 = g }) root ∙ apart g other)
  where
    start : {is : Bool} → is ≡ false → kind_code (if is then Some (new_object Dir) else None) ≡ 0
    start e = rw e refl

    apart : (g : ℕ) → (g ≡ 1 → ⊥) → (g == 1) ≡ false
    apart g other = grind (arith, nat_tests)
opening_none (suc i) g other low = kind_applied true (opening_make i) (opening i) g ∙ rw (opening_none i g other low, above g (opening_gfid (suc i)).0 (omega (arith, low))) (none (kind_in (opening i) 1 == 0))
  where
    above : (g k : ℕ) → g < k → (k == g) ≡ false
    above g k low = grind (arith, nat_tests)

    none : (lacks : Bool) → keep 0 (if lacks then 0 else 0) ≡ 0
    none true = refl
    none false = refl

-- each entry leads to an object of its kind
pub opening_named : (i d m g : ℕ) (what : What) → code_in (opening i) (Entry d m) ≡ entry_code g what → kind_in (opening i) g ≡ what_code what
unfolding leaves
opening_named zero d m g what e = absurd (entry_some g what (sym e ∙ start))
  where
    of_test : (is : Bool) → Rattle.afr_law_tables.proofs.Values.code_of (Entry d m) (if is then Some (new_object Dir) else None) ≡ 0
    of_test true = refl
    of_test false = refl

    start : code_in (opening 0) (Entry d m) ≡ 0
    start = of_test _
opening_named (suc i) d m g what e = go (fits (kind_in (opening i) d) (Entry d m) && touches (opening_make i) (Entry d m)) (sym (code_applied true (opening_make i) (opening i) (Entry d m) refl (λ k. refl) (λ h o k. (sound_opening i i (omega arith) h o k).0)) ∙ e) (λ k. opening_named i d m g what k)
  where
    is_kind : kind_in (opening (suc i)) g ≡ keep (kind_in (opening i) g) (if kind_in (opening i) 1 == 0 then 0 else (if (opening_gfid (suc i)).0 == g then 1 else 0))
    is_kind = kind_applied true (opening_make i) (opening i) g

    one : (k : ℕ) → k ≤ 1 → keep k 1 ≡ 1
    one zero h = refl
    one (suc k) h = omega arith

    new : (opening_gfid (suc i)).0 ≡ g → kind_in (opening (suc i)) g ≡ 1
    new same =
        let apart : (g == 1) ≡ false = subst (λ (k : ℕ). (k == 1) ≡ false) same (above_root (suc i)) in
        let hit : ((opening_gfid (suc i)).0 == g) ≡ true = grind (arith, nat_tests) in
        is_kind ∙ rw (opening_root i, hit) (one (kind_in (opening i) g) (opening_other i g apart))

    what_some : (w : What) (k : ℕ) → k ≡ what_code w → k ≡ 0 → ⊥
    what_some File k e f = omega (arith, e, f)
    what_some Dir k e f = omega (arith, e, f)

    go : (hit : Bool) → (if hit then entry_code (opening_gfid (suc i)).0 File else code_in (opening i) (Entry d m)) ≡ entry_code g what → (code_in (opening i) (Entry d m) ≡ entry_code g what → kind_in (opening i) g ≡ what_code what) → kind_in (opening (suc i)) g ≡ what_code what
    go true k rest = (let w = entry_same (opening_gfid (suc i)).0 g File what k in new w.0 ∙ w.1)
    go false k rest = (let was = rest k in is_kind ∙ keep_some _ _ (what_some what _ was) ∙ was)
