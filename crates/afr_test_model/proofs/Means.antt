-- The means of the samples: how two values are told apart, and how a fact of every brick is computed.
use Rattle.std.specs.Prelude.{◌≡◌, ℕ, ◌<◌, ◌==◌, Bool, true, false, List, Option, Some, None}
use Rattle.std.proofs.Common.{ap, subst, sym, ◌∙◌}
use Rattle.afr_base.specs.Bricks.{IsIn, is_nothing, minus, passes_below, from_table}
use Rattle.afr_base.specs.SetLemmas.{none_left}
use Rattle.afr_base.specs.declared.ids.Gfid.{Gfid}
use Rattle.afr_lines.specs.Overlap.{same_area}
use Rattle.afr_lines.specs.declared.request.Area.{Area}

-- values of which a test passes one alone aren't equal
pub told_apart : {A : Type 0} (test : A → Bool) (one another : A) → test one ≡ true → test another ≡ false → one ≡ another → ⊥
told_apart test one another first second same = absurd (cc (sym first ∙ ap test same ∙ second))

-- a test that fails doesn't pass
pub fails : {A : Type 0} → false ≡ true → A
fails same = absurd (cc same)

-- a test that passes doesn't fail
pub passes : {A : Type 0} → true ≡ false → A
passes same = absurd (cc same)

-- a set with nothing outside another is in it
pub all_in : (s t : List ℕ) → is_nothing (minus s t) ≡ true → IsIn s t
all_in s t nothing = none_left s t nothing

-- a test of each of three bricks
pub each_of_three : (test : ℕ → Bool) → passes_below 3 test ≡ true → (b : ℕ) → b < 3 → test b ≡ true
each_of_three test all b below = from_table 3 test all b below

-- what holds of the one holds of the other
pub from_some : {A : Type 0} (P : A → Type 0) (one another : A) → P one → Some one ≡ Some another → P another
from_some P one another first same = subst P (inside same) first
  where
    inside : Some one ≡ Some another → one ≡ another
    inside equal = cc equal

-- nothing isn't something
pub from_none : {A B : Type 0} (one : A) → None ≡ Some one → B
from_none one same = absurd (cc same)

-- nothing is given
abbrev pub is_none : {A : Type 0} → Option A → Bool
is_none None = true
is_none (Some one) = false

-- the object is this one
abbrev pub is_object : Gfid → Option Gfid → Bool
is_object of None = false
is_object of (Some one) = one.0 == of.0

-- the area is this one
abbrev pub is_area : Area → Option Area → Bool
is_area area None = false
is_area area (Some one) = same_area one area

-- facts of two lines, the newer first, and what is known of those before them
pub two : {A B C : Type 0} → A → B → C → A × (B × C)
two newer older before = (newer, (older, before))

-- the same of three lines
pub three : {A B C D : Type 0} → A → B → C → D → A × (B × (C × D))
three newest newer older before = (newest, (newer, (older, before)))
