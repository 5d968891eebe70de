-- One clear look of the only brick lets it be read; an accusing one, or one that wasn't told, lets nothing.
use Rattle.std.proofs.Common.{[], arith, refl, subst, sym, true, ℕ, ◌∷◌, ◌≡◌}
use Rattle.std.specs.Prelude.{slice_get, ◌==◌}
use Rattle.afr_base.specs.declared.ids.Kind.TheVariants.{Attrs, Bytes}
use Rattle.afr_base.specs.declared.ids.What.TheVariants.{File}
use Rattle.afr_lines.specs.declared.answer.Told.TheVariants.{NotConnected, Seen}
use Rattle.afr_object.specs.declared.entry.View.{View}
use Rattle.afr_law.specs.FreshReads.{ClearLook, LooksLet, ShowsNoMiss}
use Rattle.afr_law.proofs.Samples.Attr.{every_kind, lines, view, zeros}

-- from position 1 on, and before 2
let_1 : LooksLet 1 every_kind (slice_get lines) 1 1 2 50 Attrs 0
let_1 = record { below = omega arith; copy = refl; among = λ x. x == 0; majority = omega arith; looks = λ x low inside. first x (omega (arith, low)) }
  where
    at_0 : ClearLook (slice_get lines) 1 1 2 0 50 Attrs 0
    at_0 = record { l = 1; told = Seen view; took = true; is = refl; after = omega arith; past = omega arith; clear = refl }

    first : (x : ℕ) → x ≡ 0 → ClearLook (slice_get lines) 1 1 2 x 50 Attrs 0
    first x e = subst (λ (y : ℕ). ClearLook (slice_get lines) 1 1 2 y 50 Attrs 0) (sym e) at_0

-- a view with a number against brick 1
abbrev accusing : View
accusing = record { what = File; len = 0; marks = record { bytes = zeros; attrs = record { dirty = 0; pending = 0 ∷ 3 ∷ 0 ∷ 0 ∷ 0 ∷ [] }; names = zeros } }

no_clear : ShowsNoMiss Attrs 1 (Seen accusing) → ⊥
no_clear e = omega (arith, e)

other_kind : ShowsNoMiss Bytes 1 (Seen accusing)
other_kind = refl

no_answer : ShowsNoMiss Attrs 1 NotConnected → ⊥
no_answer e = e
