-- Whose turn it is in a step of a heal, and what the heal takes back.
use Rattle.std.specs.Prelude.{ℕ, zero, suc, ◌+◌, nat_lt, Bool, if◌then◌else◌, Option, None, Some, ◌&&◌, slice_index, ◌∷◌, []}
use Rattle.afr_base.specs.declared.marks.Marks.{Marks}
use Rattle.afr_object.specs.declared.entry.View.{View}
use Rattle.afr_model_moves.specs.Honest.{view_marks}
use Rattle.afr_base.specs.declared.ids.BrickId.{BrickId}
use Rattle.afr_base.specs.declared.ids.Kind.{Kind}
use Rattle.afr_model_moves.specs.Register.{Exact, Step, all, holder}
use Rattle.afr_model_moves.specs.Steps.{changed, goes_on, raised, turn}

-- the one that is there, or else n where it passes
abbrev pub later : Option ℕ → ℕ → Bool → Option ℕ
later (Some b) n here = Some b
later None n here = if here then Some n else None

-- the lowest number below n that passes
abbrev pub find : ℕ → (ℕ → Bool) → Option ℕ
find zero p = None
find (suc n) p = later (find n p) n (p n)

-- whose turn it is in a step
abbrev pub turn_of : ℕ → (ℕ → Kind → Bool) → Exact → ℕ → Step → Option ℕ
turn_of n keeps r s step = find n (turn n keeps r s step)

-- the brick of this number
abbrev pub brick_of : Option ℕ → Option BrickId
brick_of None = None
brick_of (Some b) = Some (record { 0 = b })

-- a copy that may be the source, and lets the heal go on
abbrev pub candidate : ℕ → (ℕ → Kind → Bool) → Exact → ℕ → Bool
candidate n keeps r x = r.possible x && goes_on n keeps r x

-- what is held against a changed holder below n
abbrev pub pending_less : ℕ → Exact → ℕ → Kind → Marks → ℕ → ℕ
pending_less n r s kind marks c = if nat_lt c n && changed r s kind c then slice_index marks.pending c else 0

-- the begun changes, and the heal's own where it raised them, if all n bricks are holders
abbrev pub dirty_less : ℕ → (ℕ → Kind → Bool) → Exact → ℕ → ℕ → Kind → Marks → ℕ
dirty_less n keeps r s b kind marks = if all n (holder r.first_views) then marks.dirty + (if raised keeps r s kind b then 1 else 0) else 0

-- the numbers that a view shows, or none
abbrev pub marks_in : Kind → Option View → Marks
marks_in kind None = record { dirty = 0; pending = 0 ∷ 0 ∷ 0 ∷ 0 ∷ 0 ∷ [] }
marks_in kind (Some view) = view_marks view kind

-- what is taken back at a brick that showed these numbers
abbrev pub less_by : ℕ → (ℕ → Kind → Bool) → Exact → ℕ → ℕ → Kind → Marks → Marks
less_by n keeps r s b kind marks = record {
  dirty = dirty_less n keeps r s b kind marks;
  pending = pending_less n r s kind marks 0 ∷ pending_less n r s kind marks 1 ∷ pending_less n r s kind marks 2 ∷ pending_less n r s kind marks 3 ∷ pending_less n r s kind marks 4 ∷ [];
}

-- what is taken back at a brick, by its first view
abbrev pub less_in : ℕ → (ℕ → Kind → Bool) → Exact → ℕ → Kind → ℕ → Marks
less_in n keeps r s kind b = less_by n keeps r s b kind (marks_in kind (r.first_views b))
