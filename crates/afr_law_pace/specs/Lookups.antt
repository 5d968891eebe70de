-- How many lines a read has left at most: those of its walk, looks at what it found, one read, and its end.
use Rattle.std.specs.Prelude.{◌≡◌, ℕ, ◌+◌, ◌*◌, ◌≤◌, true, List, length}
use Rattle.afr_base.specs.declared.ids.BrickId.{BrickId}
use Rattle.afr_base.specs.declared.ids.NameId.{NameId}
use Rattle.afr_base.specs.declared.ids.Shape.{Shape}
use Rattle.afr_client_read.specs.Lookup.{IsLookup, Lookup, answered, is_asking, lookup_from}
use Rattle.afr_client_read.specs.declared.job.LookupJob.{LookupJob}
use Rattle.afr_client_read.specs.declared.stage.LookupStage.TheVariants.{Ending, Looking, Reading, Walking}
use Rattle.afr_client_read.specs.declared.stage.LookupStage.{LookupStage}
use Rattle.afr_lines.specs.declared.answer.Answer.{Answer}
use Rattle.afr_law_pace.specs.Left.{count}
use Rattle.afr_law_pace.specs.Walks.{walk_left}
use Rattle.afr_client_walk.specs.Looks.{left_to_look}
use Rattle.afr_client_walk.specs.declared.walk.Walk.{Walk}

-- the lines that a read has left
abbrev pub read_left_at : LookupStage → Walk → ℕ
read_left_at Walking w = walk_left w + w.shape.n + 2
read_left_at (Looking s) w = count w.shape.n (left_to_look w.shape.n s) + 2
read_left_at (Reading b of) w = 2
read_left_at (Ending said) w = 1

abbrev pub read_left : Lookup → ℕ
read_left m = read_left_at m.stage m.walk

-- each request that is answered
abbrev pub ReadComesNearer : Type 0
ReadComesNearer = (m : Lookup) → IsLookup m.walk m.stage → is_asking m.stage ≡ true → (chosen : BrickId) (a : Answer) (at : ℕ) → read_left (answered chosen a at m) + 1 ≤ read_left m

-- the end is left, and at the beginning looks and a read for each name, and once more
abbrev pub ReadKeepsEnd : Type 0
ReadKeepsEnd = (m : Lookup) → 1 ≤ read_left m

abbrev pub ReadStartsWithin : Type 0
ReadStartsWithin = (shape : Shape) (path : List NameId) (job : LookupJob) → read_left (lookup_from shape path job) ≤ length path * (shape.n + 1) + shape.n + 2
