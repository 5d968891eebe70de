-- How the lists within a request are read: the bricks that missed an operation, the reads of merged names, and changelog numbers.
use Rattle.std.specs.Prelude.{ℕ, ◌+◌, ◌^◌, ◌==◌, Bool, not, List, [], ◌∷◌, ◌++◌, Option, Some, None, codes, if◌then◌else◌}
use Rattle.afr_base.specs.Bricks.{added, is_nothing, member}
use Rattle.afr_base.specs.declared.marks.Marks.{Marks}
use Rattle.afr_plan.specs.Reading.{Reader, after, checked, word, word_then, both, as_a, either, give}
use Rattle.afr_report_trace.specs.Numbers.{comma}
use Rattle.afr_trace_read.specs.Forms.{number_below}

-- ---- bricks
-- a brick's number, behind a comma, but for the first
abbrev pub brick_word : Bool → ℕ → List ℕ
brick_word first b = comma first ++ (48 + b) ∷ []

-- the brick is in the set where something follows its number
abbrev pub with_brick : ℕ → List ℕ × List ℕ → Option (List ℕ) → List ℕ × List ℕ
with_brick b x None = x
with_brick b x (Some rest) = (added b x.0, rest)

-- a set of bricks and what follows it, with one brick more where its number stands next
abbrev pub then_brick : ℕ → List ℕ × List ℕ → List ℕ × List ℕ
then_brick b x = with_brick b x (after (brick_word (is_nothing x.0) b) x.1)

-- the bricks whose numbers stand in front, rising, with commas between them
abbrev pub front_bricks : List ℕ → List ℕ × List ℕ
front_bricks xs = then_brick 4 (then_brick 3 (then_brick 2 (then_brick 1 (then_brick 0 ([], xs)))))

-- a set that isn't empty
abbrev pub some_bricks : List ℕ × List ℕ → Option (List ℕ × List ℕ)
some_bricks x = checked (not (is_nothing x.0)) x

-- such a set, in front of some bytes
abbrev pub listed_bricks : Reader (List ℕ)
listed_bricks xs = some_bricks (front_bricks xs)

-- the bricks that missed an operation, or a dash for none
unfoldable pub missed_at : Reader (List ℕ)
missed_at = either (word (codes "-") []) listed_bricks

-- which of five bricks are in a set
abbrev pub flags_of : List ℕ → List Bool
flags_of s = member s 0 ∷ member s 1 ∷ member s 2 ∷ member s 3 ∷ member s 4 ∷ []

-- the bricks from a number on whose flags are set
abbrev pub flagged : ℕ → List Bool → List ℕ
flagged b [] = []
flagged b (flag ∷ flags) = if flag then b ∷ flagged (b + 1) flags else flagged (b + 1) flags

-- ---- positions of reads
-- a number behind a comma
unfoldable pub next_at : Reader ℕ
next_at = word_then (codes ",") (number_below (2 ^ 32))

-- a number, and what follows it
abbrev pub some_front : {A : Type 0} → ℕ × A → Option ℕ × A
some_front x = (Some x.0, x.1)

-- a number behind a comma and what follows it, or neither
abbrev pub maybe_then : {A : Type 0} → A → Reader A → Reader (Option ℕ × A)
maybe_then none q = either (as_a some_front (both next_at q)) (give (None, none))

-- up to one number, each behind a comma
unfoldable pub one_more : Reader (Option ℕ)
one_more = either (as_a Some next_at) (give None)

-- up to two
unfoldable pub two_more : Reader (Option ℕ × Option ℕ)
two_more = maybe_then None one_more

-- up to three
unfoldable pub three_more : Reader (Option ℕ × (Option ℕ × Option ℕ))
three_more = maybe_then (None, None) two_more

-- up to four
unfoldable pub four_more : Reader (Option ℕ × (Option ℕ × (Option ℕ × Option ℕ)))
four_more = maybe_then (None, (None, None)) three_more

-- five numbers, of which the first is there
abbrev pub reads_of : ℕ × (Option ℕ × (Option ℕ × (Option ℕ × Option ℕ))) → List (Option ℕ)
reads_of x = Some x.0 ∷ x.1.0 ∷ x.1.1.0 ∷ x.1.1.1.0 ∷ x.1.1.1.1 ∷ []

-- one to five positions with commas between them
unfoldable pub reads_at : Reader (List (Option ℕ))
reads_at = as_a reads_of (both (number_below (2 ^ 32)) four_more)

-- ---- changelog numbers
-- a number behind a space
unfoldable pub spaced_at : Reader ℕ
spaced_at = word_then (codes " ") (number_below (2 ^ 32))

-- the pending numbers for bricks 0 to 2
unfoldable pub three_at : Reader ((ℕ × ℕ) × ℕ)
three_at = both (both spaced_at spaced_at) spaced_at

-- those for bricks 3 and 4, where there are five bricks
unfoldable pub last_at : ℕ → Reader (ℕ × ℕ)
last_at n xs = if n == 5 then both spaced_at spaced_at xs else (if n == 3 then Some ((0, 0), xs) else None)

-- the numbers as changelog numbers
abbrev pub marks_of : (ℕ × ((ℕ × ℕ) × ℕ)) × (ℕ × ℕ) → Marks
marks_of x = record { dirty = x.0.0; pending = x.0.1.0.0 ∷ x.0.1.0.1 ∷ x.0.1.1 ∷ x.1.0 ∷ x.1.1 ∷ [] }

-- a dirty number, and a pending one for each of n bricks
unfoldable pub marks_at : ℕ → Reader Marks
marks_at n = as_a marks_of (both (both (number_below (2 ^ 32)) three_at) (last_at n))
