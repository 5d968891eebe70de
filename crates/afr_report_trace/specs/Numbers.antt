-- Numbers with commas between them, and the bricks that missed an operation.
use Rattle.std.specs.Prelude.{ℕ, Bool, true, false, if◌then◌else◌, List, [], ◌∷◌, ◌++◌, Option, Some, None, codes, decimal, filter}
use Rattle.afr_base.specs.Bricks.{all_five, member}

-- what stands before a number: a comma, but for the first
abbrev pub comma : Bool → List ℕ
comma first = if first then [] else codes ","

-- these numbers, each behind a comma, but for the first of all
abbrev pub commas_from : Bool → List ℕ → List ℕ
commas_from first [] = []
commas_from first (n ∷ more) = comma first ++ decimal n ++ commas_from false more

-- numbers with commas between them
abbrev pub with_commas : List ℕ → List ℕ
with_commas numbers = commas_from true numbers

-- the numbers that there are
abbrev pub given : List (Option ℕ) → List ℕ
given [] = []
given (None ∷ more) = given more
given (Some n ∷ more) = n ∷ given more

-- some bricks, rising, with commas between them, or a dash where there are none
abbrev pub bricks_text : List ℕ → List ℕ
bricks_text [] = codes "-"
bricks_text (b ∷ bs) = with_commas (filter (member (b ∷ bs)) all_five)
