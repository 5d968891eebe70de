-- Lines that take nothing from numbers that isn't there.
use Rattle.std.specs.Prelude.{◌≡◌, ℕ, ◌<◌, ◌≤◌, true, List, Some, slice_index}
use Rattle.afr_base.specs.Marks.{marks_of}
use Rattle.afr_object.specs.Tables.{copy_at}
use Rattle.afr_object.specs.Object.{Object}
use Rattle.afr_lines.specs.declared.line.Line.{Line}
use Rattle.afr_lines.specs.declared.line.Line.TheVariants.{Ask}
use Rattle.afr_lines.specs.declared.request.Request.TheVariants.{Post, Settle}
use Rattle.afr_plan.specs.declared.plan.Plan.{Plan}
use Rattle.afr_model.specs.Tables.{holds}

-- a post-op that a brick with the object carries out closes an operation that is open there, and a settling takes back no more than there is
abbrev pub FitsSums : Plan → Line → List Line → Type 0
FitsSums p (Ask a y (Post attempt g kind missed) told took) older = took ≡ true → (o : Object) → copy_at g (holds p older y.0) ≡ Some o → 0 < (marks_of kind o.marks).dirty
FitsSums p (Ask a y (Settle g kind less) told took) older =
    took ≡ true → (o : Object) → copy_at g (holds p older y.0) ≡ Some o
    → (less.dirty ≤ (marks_of kind o.marks).dirty) × ((c : ℕ) → c < 5 → slice_index less.pending c ≤ slice_index (marks_of kind o.marks).pending c)
FitsSums p line older = Unit {0}
