-- Each line of a heal that counts brings it nearer to its end.
use Rattle.std.specs.Prelude.{ℕ, ◌≡◌, ◌+◌, ◌<◌, ◌≤◌, Bool, true}
use Rattle.afr_base.specs.declared.ids.Gfid.{Gfid}
use Rattle.afr_base.specs.declared.ids.Kind.{Kind}
use Rattle.afr_heal.specs.Answers.{PicksOne, asked_for, begun_at, fits, source_after}
use Rattle.afr_heal.specs.Engine.{Ask, Begins, Ends, NextOfHeal, next_of}
use Rattle.afr_heal.specs.Standing.{AtFirst, Standing}
use Rattle.afr_law_cost.specs.Left.{Rooted, Short, heal_cost, lines_left, taken}
use Rattle.afr_lines.specs.declared.answer.Told.{Told}
use Rattle.afr_lines.specs.declared.request.Request.{Request}
use Rattle.afr_model_moves.specs.Register.{Exact}

-- whatever is told, or once a part has begun, fewer lines are left
abbrev pub Nearer : (n : ℕ) → (ℕ → Kind → Bool) → ((ℕ → Bool) → ℕ) → Exact → ℕ → Gfid → Kind → NextOfHeal → Type 0
Nearer n keeps pick r s g kind (Ask b request) =
    (t : ℕ) (told : Told) → fits request told ≡ true
    → lines_left n keeps (asked_for n keeps r t b request told) (source_after n keeps pick (asked_for n keeps r t b request told) s) kind + taken request told ≤ lines_left n keeps r s kind
Nearer n keeps pick r s g kind Begins = (t : ℕ) → lines_left n keeps (begun_at n keeps r t g kind) s kind + 1 ≤ lines_left n keeps r s kind
Nearer n keeps pick r s g kind Ends = Unit {0}

-- each next line of a heal that stands, whatever its bricks answer
abbrev pub HealComesNearer : Type 0
HealComesNearer = (n : ℕ) (keeps : ℕ → Kind → Bool) (pick : (ℕ → Bool) → ℕ) (r : Exact) (s : ℕ) (g : Gfid) (kind : Kind) → 0 < n → n ≤ 5 → PicksOne n pick → Standing n keeps r s g kind → Rooted r → Short r
    → Nearer n keeps pick r s g kind (next_of n keeps r s g kind)

-- the end is left
abbrev pub HealKeepsEnd : Type 0
HealKeepsEnd = (n : ℕ) (keeps : ℕ → Kind → Bool) (r : Exact) (s : ℕ) (kind : Kind) → 0 < n → 1 ≤ lines_left n keeps r s kind

-- at first its cost is left
abbrev pub HealStartsWithin : Type 0
HealStartsWithin = (n : ℕ) (keeps : ℕ → Kind → Bool) (r : Exact) (s : ℕ) (kind : Kind) → AtFirst n r → lines_left n keeps r s kind ≤ heal_cost n kind

-- ---- the area
-- an answer leaves no Work lock without an area
abbrev pub StaysRooted : Type 0
StaysRooted = (n : ℕ) (keeps : ℕ → Kind → Bool) (r : Exact) (t b : ℕ) (request : Request) (told : Told) → fits request told ≡ true → Rooted r → Rooted (asked_for n keeps r t b request told)

-- nor does the beginning of a part
abbrev pub BegunRooted : Type 0
BegunRooted = (n : ℕ) (keeps : ℕ → Kind → Bool) (r : Exact) (t : ℕ) (g : Gfid) (kind : Kind) → Rooted r → Rooted (begun_at n keeps r t g kind)

-- at first none is held
abbrev pub StartsRooted : Type 0
StartsRooted = (n : ℕ) (r : Exact) → AtFirst n r → Rooted r
