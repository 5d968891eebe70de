-- The numbers that objects can have: the root's, those of the opening files, and those that the lines of a log give.
use Rattle.std.proofs.Common.{◌≡◌, ◌∙◌, ℕ, zero, suc, ◌+◌, ◌==◌, ◌⊎◌, inl, inr, Bool, true, false, refl, sym, ap, arith, List, [], ◌∷◌, ◌++◌, length, Some, None}
use Rattle.std.specs.Prelude.{if◌then◌else◌}
use Rattle.std.proofs.lemmas.Bool.{eqb-true}
use Rattle.std.proofs.lemmas.Bool.Decides.{nat_tests}
use Rattle.afr_law_bound.proofs.Ends.Sums.{in_left, in_right}
use Rattle.afr_object.specs.TablesLemmas.{same_gfid}
use Rattle.afr_lines.specs.Log.{from_oldest}
use Rattle.afr_lines.specs.declared.line.Line.TheVariants.{Begin}
use Rattle.afr_lines.specs.declared.line.Line.{Line}
use Rattle.afr_model_moves.specs.Past.{keep, made}
use Rattle.afr_object.specs.Tables.{new_object, opening, opening_gfid, root}
use Rattle.afr_object.specs.declared.change.Change.TheVariants.{Make}
use Rattle.afr_base.specs.declared.ids.What.TheVariants.{Dir}
use Rattle.afr_law_tables.proofs.Copies.{kind_applied}
use Rattle.afr_law_tables.proofs.Opening.{opening_make}
use Rattle.afr_law_tables.specs.Codes.{kind_code, kind_in}
use Rattle.afr_model_moves.specs.Cells.{what_code}
use Rattle.afr_law_bound.proofs.Circle.{In}

-- ---- at the start
abbrev pub opening_numbers : ℕ → List ℕ
opening_numbers zero = 1 ∷ []
opening_numbers (suc i) = (opening_gfid (suc i)).0 ∷ opening_numbers i

pub opening_count : (i : ℕ) → length (opening_numbers i) ≡ 1 + i
opening_count zero = refl
opening_count (suc i) = (let h = opening_count i in omega (arith, h))

pub opening_has : (i g k : ℕ) → kind_in (opening i) g ≡ suc k → In g (opening_numbers i)
opening_has zero g k e = go (g == 1) refl (ap of_test (sym (same_gfid (record { 0 = g }) root)) ∙ e)
  where
    of_test : Bool → ℕ
    of_test is = kind_code (if is then Some (new_object Dir) else None)

    go : (hit : Bool) → (g == 1) ≡ hit → kind_code (if hit then Some (new_object Dir) else None) ≡ suc k → (g ≡ 1) ⊎ ⊥
    go true h e = inl (eqb-true g 1 h)
    go false h e = absurd (omega (arith, e))
opening_has (suc i) g k e = go (kind_in (opening i) g) refl (kind_in (opening i) 1 == 0) ((opening_gfid (suc i)).0 == g) refl (sym (kind_applied true (opening_make i) (opening i) g) ∙ e) (λ j was. opening_has i g j was)
  where
    go : (was : ℕ) → kind_in (opening i) g ≡ was → (lacks hit : Bool) → ((opening_gfid (suc i)).0 == g) ≡ hit → keep was (if lacks then 0 else (if hit then 1 else 0)) ≡ suc k → ((j : ℕ) → kind_in (opening i) g ≡ suc j → In g (opening_numbers i))
        → (g ≡ (opening_gfid (suc i)).0) ⊎ In g (opening_numbers i)
    go (suc j) was lacks hit h e rest = inr (rest j was)
    go zero was true hit h e rest = absurd (omega (arith, e))
    go zero was false true h e rest = inl (sym (eqb-true (opening_gfid (suc i)).0 g h))
    go zero was false false h e rest = absurd (omega (arith, e))

-- ---- by lines
-- the number that a line at this position gives to what it makes: one that stands for an older object is none of its own
abbrev pub numbers_in : ℕ → Line → List ℕ
numbers_in at (Begin x (Make dir name g what)) = if g.0 == at + 2 then g.0 ∷ [] else []
numbers_in at line = []

abbrev pub made_numbers : List Line → List ℕ
made_numbers [] = []
made_numbers (line ∷ older) = numbers_in (length older) line ++ made_numbers older

in_line : (line : Line) (at g k : ℕ) → g ≡ at + 2 → made g (Some line) ≡ suc k → In g (numbers_in at line)
in_line (Begin x (Make dir name h what)) at g k own e = go (h.0 == g) refl e
  where
    go : (hit : Bool) → (h.0 == g) ≡ hit → (if hit then what_code what else 0) ≡ suc k → In g (if h.0 == at + 2 then h.0 ∷ [] else [])
    go true f e =
        let same : h.0 ≡ g = eqb-true h.0 g f in
        let mine : (h.0 == at + 2) ≡ true = grind (arith, nat_tests, same, own) in
        rw mine (inl (sym same))
    go false f e = absurd (omega (arith, e))
in_line line at g k own e = absurd (omega (arith, e))

in_log : (log : List Line) (q g k : ℕ) → g ≡ q + 2 → made g (from_oldest q log) ≡ suc k → In g (made_numbers log)
in_log [] q g k own e = absurd (omega (arith, e))
in_log (line ∷ older) q g k own e = go (q == length older) refl e (λ h. in_log older q g k own h)
  where
    go : (here : Bool) → (q == length older) ≡ here → made g (if here then Some line else from_oldest q older) ≡ suc k → (made g (from_oldest q older) ≡ suc k → In g (made_numbers older)) → In g (numbers_in (length older) line ++ made_numbers older)
    go true f e rest =
        let at : q ≡ length older = eqb-true q (length older) f in
        in_left g (numbers_in (length older) line) (made_numbers older) (in_line line (length older) g k (omega (arith, at, own)) e)
    go false f e rest = in_right g (numbers_in (length older) line) (made_numbers older) (rest e)

-- ---- both
abbrev pub known_numbers : ℕ → List Line → List ℕ
known_numbers files log = opening_numbers files ++ made_numbers log

pub known_has : (files : ℕ) (log : List Line) (q g k : ℕ) → (made g (from_oldest q log) ≡ suc k → g ≡ q + 2) → keep (kind_in (opening files) g) (made g (from_oldest q log)) ≡ suc k → In g (known_numbers files log)
known_has files log q g k own e = go (kind_in (opening files) g) refl e
  where
    go : (was : ℕ) → kind_in (opening files) g ≡ was → keep was (made g (from_oldest q log)) ≡ suc k → In g (known_numbers files log)
    go zero was e = in_right g (opening_numbers files) (made_numbers log) (in_log log q g k (own e) e)
    go (suc j) was e = in_left g (opening_numbers files) (made_numbers log) (opening_has files g j was)
