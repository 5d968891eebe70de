-- Which copies have to be current, and which cells are.
use Rattle.std.specs.Prelude.{◌≡◌, ℕ, ◌<◌, ◌&&◌, not, Bool, true, List}
use Rattle.afr_base.specs.Keeping.{keeps}
use Rattle.afr_base.specs.Majority.{is_most}
use Rattle.afr_base.specs.declared.ids.Gfid.{Gfid}
use Rattle.afr_base.specs.declared.ids.KeyId.{KeyId}
use Rattle.afr_base.specs.declared.ids.Kind.{Kind}
use Rattle.afr_base.specs.declared.ids.Kind.TheVariants.{Bytes, Attrs, Names}
use Rattle.afr_base.specs.declared.ids.NameId.{NameId}
use Rattle.afr_lines.specs.declared.line.Line.{Line}
use Rattle.afr_plan.specs.declared.plan.Plan.{Plan}
use Rattle.afr_model.specs.Attempts.{IsCurrent}
use Rattle.afr_model.specs.Cells.{Attr, Byte, Name}
use Rattle.afr_model.specs.Safe.{accuses}
use Rattle.afr_model.specs.Sums.{has_object}

-- a copy is good in some majority: the brick has it and keeps what the kind is about, and the bricks that don't accuse it, itself among them, are a majority
abbrev pub is_judged : Plan → List Line → Gfid → Kind → ℕ → Bool
is_judged p log g kind b = has_object p log g b && keeps p.shape kind b && not (accuses p log g kind b b) && is_most p.shape.n (λ x. not (accuses p log g kind x b))

-- every cell of a kind of an object is current on brick b
abbrev pub AllCurrent : Plan → List Line → ℕ → Gfid → Kind → Type 0
AllCurrent p log b g Bytes = (i : ℕ) → IsCurrent p log b (Byte g i)
AllCurrent p log b g Attrs = (key : KeyId) → IsCurrent p log b (Attr g key)
AllCurrent p log b g Names = (name : NameId) → IsCurrent p log b (Name g name)

-- so it is where the copy has to be
abbrev pub IsKindSafe : Plan → List Line → Gfid → ℕ → Kind → Type 0
IsKindSafe p log g b kind = is_judged p log g kind b ≡ true → AllCurrent p log b g kind

-- for each kind
abbrev pub IsBrickSafe : Plan → List Line → Gfid → ℕ → Type 0
IsBrickSafe p log g b = (kind : Kind) → IsKindSafe p log g b kind

-- on each brick
abbrev pub IsObjectSafe : Plan → List Line → Gfid → Type 0
IsObjectSafe p log g = (b : ℕ) → b < p.shape.n → IsBrickSafe p log g b
