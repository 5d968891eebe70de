-- Which texts are plans, and which plan each of them is.
use Rattle.std.specs.Prelude.{◌≡◌, ℕ, List, [], ◌∷◌, true, false}
use Rattle.std.specs.List.{list_all}
use Rattle.afr_plan.specs.declared.plan.Plan.{Plan}
use Rattle.afr_plan.specs.Bytes.{plain}
use Rattle.afr_plan.specs.TextLines.{bytes_of}
use Rattle.afr_plan.specs.Said.{Said, IsSaid}
use Rattle.afr_plan.specs.Rules.{is_over, may_stand, is_versioned, is_beyond, is_disordered, passes_total}
use Rattle.afr_plan.specs.PlanOf.{plan_of}

-- a line has the form of what it says, and breaks no rule after the lines before it
pub record IsLine (before : List Said) (line : List ℕ) (s : Said) : Type 0 where
  pub bytes : list_all plain line ≡ true
  pub form : IsSaid line s
  pub version : is_versioned before s ≡ true
  pub place : may_stand before s ≡ true
  pub limits : is_beyond s ≡ false
  pub order : is_disordered before s ≡ false
  pub totals : passes_total before s ≡ false

-- lines say what all say after some lines, the newest first, and the last of them is `end`
abbrev pub AreLines : List (List ℕ) → List Said → List Said → Type 0
AreLines [] before all = (is_over before ≡ true) × (before ≡ all)
AreLines (line ∷ lines) before all = (s : Said) × IsLine before line s × AreLines lines (s ∷ before) all

-- the bytes are lines, each with its line feed, up to `end`, and these say all
abbrev pub Says : List ℕ → List Said → Type 0
Says bytes all = (lines : List (List ℕ)) × (bytes ≡ bytes_of lines) × AreLines lines [] all

-- the bytes spell a plan: it is the one that their lines give
abbrev pub Spells : List ℕ → Plan → Type 0
Spells bytes plan = (all : List Said) × Says bytes all × (plan ≡ plan_of all)
