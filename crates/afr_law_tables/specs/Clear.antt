-- When nothing is recorded of an object: all its numbers are 0.
use Rattle.std.specs.Prelude.{◌≡◌, ℕ, ◌<◌, List}
use Rattle.afr_base.specs.declared.ids.Gfid.{Gfid}
use Rattle.afr_base.specs.declared.ids.Kind.{Kind}
use Rattle.afr_lines.specs.declared.line.Line.{Line}
use Rattle.afr_model.specs.Sums.{dirty_of, pending_of}
use Rattle.afr_plan.specs.declared.plan.Plan.{Plan}

-- brick x has no operation that another brick missed
abbrev pub BlamesNone : Plan → List Line → Gfid → Kind → ℕ → Type 0
BlamesNone p log g kind x = (c : ℕ) → c < p.shape.n → pending_of p log x c g kind ≡ 0

-- all numbers of brick x are 0
abbrev pub IsClearOn : Plan → List Line → Gfid → Kind → ℕ → Type 0
IsClearOn p log g kind x = (dirty_of p log x g kind ≡ 0) × BlamesNone p log g kind x

-- on every brick all the numbers of the object and kind are 0
abbrev pub IsClear : Plan → List Line → Gfid → Kind → Type 0
IsClear p log g kind = (x : ℕ) → x < p.shape.n → IsClearOn p log g kind x
