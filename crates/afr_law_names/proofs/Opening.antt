-- The opening entries stand in the root, and lead to files of numbers that no command makes.
use Rattle.std.proofs.Common.{◌≡◌, ℕ, zero, suc, ◌<◌, ◌^◌, ◌&&◌, ◌==◌, Bool, true, false, refl, sym, ◌∙◌, arith, None, Some, if◌then◌else◌}
use Rattle.afr_base.specs.Bricks.{and_right}
use Rattle.afr_base.specs.declared.ids.What.TheVariants.{Dir, File}
use Rattle.afr_base.specs.declared.ids.What.{What}
use Rattle.afr_model_moves.proofs.Tests.{first_equal}
use Rattle.afr_model_moves.specs.Cells.{Entry, entry_code, fits, leaves, touches, what_code}
use Rattle.afr_object.specs.Tables.{new_object, opening, opening_gfid}
use Rattle.afr_law_tables.proofs.Entries.{entry_same, entry_some}
use Rattle.afr_law_tables.proofs.Opening.{opening_make, opening_named}
use Rattle.afr_law_tables.proofs.Sound.{sound_opening}
use Rattle.afr_law_tables.proofs.Values.{code_applied, code_of}
use Rattle.afr_law_tables.specs.Codes.{code_in, kind_in}

-- an opening entry stands in the root, and leads to a file of a number above 2^64
pub opening_leads : (i d m g : ℕ) (what : What) → code_in (opening i) (Entry d m) ≡ entry_code g what → (d ≡ 1) × (2 ^ 64 < g) × (what_code what ≡ 1)
unfolding leaves touches
opening_leads zero d m g what e = absurd (entry_some g what (sym e ∙ start))
  where
    of_test : (is : Bool) → code_of (Entry d m) (if is then Some (new_object Dir) else None) ≡ 0
    of_test true = refl
    of_test false = refl

    start : code_in (opening 0) (Entry d m) ≡ 0
    start = of_test _
opening_leads (suc i) d m g what e = go (fits (kind_in (opening i) d) (Entry d m) && touches (opening_make i) (Entry d m)) refl (sym (code_applied true (opening_make i) (opening i) (Entry d m) refl (λ k. refl) (λ h o k. (sound_opening i i (omega arith) h o k).0)) ∙ e) (λ k. opening_leads i d m g what k)
  where
    go : (hit : Bool) → (fits (kind_in (opening i) d) (Entry d m) && touches (opening_make i) (Entry d m)) ≡ hit → (if hit then entry_code (opening_gfid (suc i)).0 File else code_in (opening i) (Entry d m)) ≡ entry_code g what
        → (code_in (opening i) (Entry d m) ≡ entry_code g what → (d ≡ 1) × (2 ^ 64 < g) × (what_code what ≡ 1)) → (d ≡ 1) × (2 ^ 64 < g) × (what_code what ≡ 1)
    go true h k rest = (
        let w = entry_same (opening_gfid (suc i)).0 g File what k in
        let at : 1 ≡ d = first_equal 1 d (i == m) (and_right (fits (kind_in (opening i) d) (Entry d m)) (touches (opening_make i) (Entry d m)) h) in
        let high : (opening_gfid (suc i)).0 ≡ g = w.0 in
        (sym at, omega (arith, high), sym w.1)
        )
    go false h k rest = rest k

-- so it leads to a file
pub opening_file : (i d m g : ℕ) (what : What) → code_in (opening i) (Entry d m) ≡ entry_code g what → kind_in (opening i) g ≡ 1
opening_file i d m g what e = opening_named i d m g what e ∙ (opening_leads i d m g what e).2
