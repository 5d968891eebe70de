-- Where a command stands: on its path, at which object, with which locks.
use Rattle.std.specs.Prelude.{ℕ, ◌==◌, ◌&&◌, ◌||◌, not, nat_le, Bool, true, false, List, [], ◌∷◌, Option, Some, None, length, if◌then◌else◌}
use Rattle.afr_base.specs.Bricks.{added, removed, minus, is_nothing}
use Rattle.afr_base.specs.Majority.{is_majority}
use Rattle.afr_base.specs.declared.ids.Gfid.{Gfid}
use Rattle.afr_base.specs.declared.ids.Kind.{Kind}
use Rattle.afr_base.specs.declared.ids.Shape.{Shape}
use Rattle.afr_choice.specs.Verdict.{good_copies}
use Rattle.afr_choice.specs.declared.looked.Looked.{Looked}
use Rattle.afr_object.specs.declared.change.Change.{Change}
use Rattle.afr_lines.specs.Log.{change_of}
use Rattle.afr_lines.specs.Work.{Work}
use Rattle.afr_lines.specs.declared.answer.Told.TheVariants as as_told
use Rattle.afr_lines.specs.declared.line.Line.{Line}
use Rattle.afr_lines.specs.declared.line.Line.TheVariants.{Ask}
use Rattle.afr_lines.specs.declared.request.Area.{Area}
use Rattle.afr_lines.specs.declared.request.Area.TheVariants.{Name}
use Rattle.afr_lines.specs.declared.request.Request.TheVariants as request
use Rattle.afr_lines.specs.declared.lock.Domain.TheVariants.{Work as WorkDomain}
use Rattle.afr_plan.specs.declared.command.Command.{Command}
use Rattle.afr_plan.specs.declared.plan.Plan.{Plan}
use Rattle.afr_model.specs.Commands.{path_of, is_on_name, is_rmdir, steps_of, area_on}
use Rattle.afr_lines.specs.Overlap.{same_area}
use Rattle.afr_model.specs.Showing.{Path, At, root_entry, path_after, path_by, has, is_held, is_granted}

-- ---- the path
-- the path stays where it has led after k names
abbrev pub kept_at : ℕ → Path → Path → Path
kept_at k (At read object) next = if read == k then At read object else next
kept_at k was next = next

-- where the first k names have led
abbrev pub path_upto : ℕ → Plan → Work → Path
path_upto k p [] = At 0 root_entry
path_upto k p (x ∷ w) = kept_at k (path_upto k p w) (path_after p x.0 x.1 (path_upto k p w))

-- where the path to the object of a command has led: the whole path, or all but its last name
abbrev pub place_by : Plan → Command → Work → Path
place_by p c w = if is_on_name c then path_upto (steps_of c) p w else path_by p w

-- the object at which a command looks where its path stands: each on the way, the command's own, and the directory that an rmdir removes
abbrev pub looks_here : Command → Path → Option Gfid
looks_here c (At read object) = if nat_le read (steps_of c) || is_rmdir c then Some object.gfid else None
looks_here c other = None

-- what it locks there: the area of its change, and then for an rmdir the whole directory
abbrev pub area_here : Command → Path → Option Area
area_here c (At read object) = if read == steps_of c then area_on object.gfid c else (if is_rmdir c && (read == length (path_of c)) then Some (Name object.gfid None) else None)
area_here c other = None

-- ---- parts of a work
-- up to its last line that passes
abbrev pub up_to : (Line → Bool) → Work → Work
up_to test [] = []
up_to test (x ∷ w) = if test x.0 then x ∷ w else up_to test w

-- from its first line that passes on
abbrev pub since : (Line → Bool) → Work → Work
since test [] = []
since test (x ∷ w) = if has test w then x ∷ since test w else (if test x.0 then x ∷ [] else [])

-- a line asks a name
abbrev pub asks_name : Line → Bool
asks_name (Ask a b (request.ReadName g name) told took) = true
asks_name line = false

-- ---- locks of an area
-- a line asks for a lock of the area
abbrev pub locks_area : Area → Line → Bool
locks_area area (Ask a b (request.Lock WorkDomain other) told took) = same_area area other
locks_area area line = false

-- any Work lock
abbrev pub locks_any : Line → Bool
locks_any (Ask a b (request.Lock WorkDomain area) told took) = true
locks_any line = false

-- the brick is in the set exactly where the flag is set
abbrev pub marked : Bool → ℕ → List ℕ → List ℕ
marked flag b s = if flag then added b s else removed b s

-- the bricks that were asked for it, and weren't told last that another holds it
abbrev pub asking : Area → Line → List ℕ → List ℕ
asking area (Ask a b (request.Lock WorkDomain other) told took) s = if same_area area other then marked (not (is_held told)) b.0 s else s
asking area line s = s

-- those that granted it
abbrev pub getting : Area → Line → List ℕ → List ℕ
getting area (Ask a b (request.Lock WorkDomain other) told took) s = if same_area area other && is_granted told then added b.0 s else s
getting area line s = s

-- those where it is held: it was granted, and neither released nor lost since
abbrev pub holding : Area → Line → List ℕ → List ℕ
holding area (Ask a b (request.Lock WorkDomain other) as_told.Granted took) s = if same_area area other then added b.0 s else s
holding area (Ask a b (request.Unlock WorkDomain other) as_told.Done took) s = if same_area area other then removed b.0 s else s
holding area (Ask a b request as_told.NotConnected took) s = removed b.0 s
holding area line s = s

-- ---- the attempt
-- the change of the work's last attempt
abbrev pub change_after : Option Change → Option Change → Option Change
change_after (Some change) was = Some change
change_after None was = was

-- the same of all lines of a work
abbrev pub change_by : Work → Option Change
change_by [] = None
change_by (x ∷ w) = change_after (change_of x.0) (change_by w)

-- a majority with a good copy
abbrev pub suffices : Shape → Kind → Looked → List ℕ → Bool
suffices shape kind looked s = is_majority shape.n s && not (is_nothing (minus (good_copies shape looked kind) (minus (good_copies shape looked kind) s)))
