-- Numbers of entries: each tells its object and what it is.
use Rattle.std.proofs.Common.{◌≡◌, ℕ, refl, arith}
use Rattle.afr_base.specs.declared.ids.What.{What}
use Rattle.afr_base.specs.declared.ids.What.TheVariants.{File, Dir}
use Rattle.afr_model_moves.specs.Cells.{what_code, entry_code}

pub entry_some : (g : ℕ) (what : What) → entry_code g what ≡ 0 → ⊥
unfolding entry_code
entry_some g File e = omega (arith, e)
entry_some g Dir e = omega (arith, e)

pub entry_same : (g h : ℕ) (what other : What) → entry_code g what ≡ entry_code h other → (g ≡ h) × (what_code what ≡ what_code other)
unfolding entry_code
entry_same g h File File e = (omega (arith, e), refl)
entry_same g h Dir Dir e = (omega (arith, e), refl)
entry_same g h File Dir e = absurd (omega (arith, e))
entry_same g h Dir File e = absurd (omega (arith, e))
