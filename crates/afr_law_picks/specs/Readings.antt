-- What the read rule was asked for, by the lines of a client's work, and what it answered.
use Rattle.std.specs.Prelude.{◌≡◌, ℕ, ◌==◌, ◌&&◌, not, nat_lt, Bool, false, List, [], ◌∷◌, Option, Some, None, filter, is_some, length, slice_get, if◌then◌else◌}
use Rattle.afr_base.specs.Bricks.{added, all_five, below, is_nothing, member, minus}
use Rattle.afr_base.specs.declared.ids.Gfid.{Gfid}
use Rattle.afr_base.specs.declared.ids.NameId.{NameId}
use Rattle.afr_base.specs.declared.ids.Kind.{Kind}
use Rattle.afr_base.specs.declared.ids.Kind.TheVariants.{Names}
use Rattle.afr_lines.specs.Work.{Work, ended, is_of, work}
use Rattle.afr_lines.specs.declared.line.Line.{Line}
use Rattle.afr_lines.specs.declared.line.Line.TheVariants.{Ask}
use Rattle.afr_lines.specs.declared.request.Area.{Area}
use Rattle.afr_lines.specs.declared.request.Area.TheVariants.{Name}
use Rattle.afr_lines.specs.declared.request.Request.TheVariants as request
use Rattle.afr_model.specs.Actors.{script_of}
use Rattle.afr_model.specs.Chosen.{Picks, candidates_of}
use Rattle.afr_model.specs.Commands.{area_on, change_on, kind_looked, path_of}
use Rattle.afr_model.specs.Parts.{Part, Walks, Makes, Removes, part_at, the_walk, the_make, the_removal}
use Rattle.afr_model.specs.Refusals.{refusal}
use Rattle.afr_model.specs.Showing.{Path, At, among, has, locks, looked_by, looking, path_by}
use Rattle.afr_model.specs.Standing.{getting, holding, place_by}
use Rattle.afr_plan.specs.declared.command.Command.{Command}
use Rattle.afr_plan.specs.declared.command.Command.TheVariants as command
use Rattle.afr_plan.specs.declared.plan.Plan.{Plan}

-- the lines of a client's latest work: the present one, or the one that has ended last
abbrev pub latest : ℕ → List Line → Work
latest a [] = []
latest a (line ∷ log) = if is_of a line then (line, log) ∷ work a log else latest a log

-- ---- when the looks at an object are over
-- the bricks that were looked at since the last name was read
abbrev pub looked_here : Line → List ℕ → List ℕ
looked_here (Ask a b (request.Look g) told took) s = added b.0 s
looked_here (Ask a b (request.ReadName g name) told took) s = []
looked_here line s = s

-- the bricks that granted a lock of an area, where there is one
abbrev pub granted : Option Area → Work → List ℕ
granted None w = []
granted (Some area) w = among (getting area) w

-- whether a brick holds it
abbrev pub holds_lock : Option Area → Work → ℕ → Bool
holds_lock None w b = false
holds_lock (Some area) w b = member (among (holding area) w) b

-- what a command locks of the object that its path has led to
abbrev pub area_at : Command → Path → Option Area
area_at c (At read object) = area_on object.gfid c
area_at c path = None

-- the bricks that are looked at under its locks: those that granted that of its name, and for the directory that an rmdir removes those that hold both
abbrev pub locked_here : Plan → Command → Path → Work → List ℕ
locked_here p c (At read object) w =
    if read == length (path_of c) then filter (λ b. holds_lock (area_at c (place_by p c w)) w b && holds_lock (Some (Name object.gfid None)) w b) all_five
    else granted (area_on object.gfid c) w
locked_here p c path w = []

-- all were looked at: those, or without a lock every brick
abbrev pub are_over : Plan → Command → Gfid → Work → Bool
are_over p c g w = if has (locks g) w then is_nothing (minus (locked_here p c (path_by p w) w) (among (looking g) w)) else is_nothing (minus (below p.shape.n) (among looked_here w))

-- ---- what the rule was asked for
-- the kind of which a good copy is read of the object where the path stands, once it was looked at: a write, a cut and a setattr read nothing of theirs
abbrev pub kind_here : Command → Path → Option Kind
kind_here c (At read object) = if nat_lt read (length (path_of c)) then Some Names else (if is_some (change_on object.gfid c) then None else Some (kind_looked c object.what))
kind_here c path = None

-- after a look at an object: its good copies, where the looks at it are over and refuse nothing
abbrev pub asked_at : Plan → Command → Gfid → Option Kind → Work → List (ℕ × ℕ)
asked_at p c g None w = []
asked_at p c g (Some kind) w = if are_over p c g w && not (is_some (refusal p c w)) then candidates_of p.shape kind (looked_by g w) else []

-- the same of these lines, if the last of them is a look
abbrev pub asked_by : Plan → Command → Line → Work → Option (List (ℕ × ℕ))
asked_by p c (Ask a b (request.Look g) told took) w = Some (asked_at p c g (kind_here c (path_by p w)) w)
asked_by p c line w = None

abbrev pub or_before : Option (List (ℕ × ℕ)) → List (ℕ × ℕ) → List (ℕ × ℕ)
or_before None before = before
or_before (Some now) before = now

-- what the rule was asked for at the last look of a work's lines
abbrev pub asked_for : Plan → Command → Work → List (ℕ × ℕ)
asked_for p c [] = []
asked_for p c (x ∷ w) = or_before (asked_by p c x.0 (x ∷ w)) (asked_for p c w)

-- the same of a rename's lines, by the part to which this one belongs
abbrev pub asked_by_part : Part → Plan → List NameId → List NameId → Line → Work → Option (List (ℕ × ℕ))
asked_by_part Walks p from to line w = asked_by p (command.Stat from) line (the_walk from w)
asked_by_part Makes p from to line w = asked_by p (command.Create to) line (the_make from w)
asked_by_part Removes p from to line w = asked_by p (command.Unlink from) line (the_removal from w)

-- what it was asked for at the last look of a rename's lines
abbrev pub asked_for_rename : Plan → List NameId → List NameId → Work → List (ℕ × ℕ)
asked_for_rename p from to [] = []
asked_for_rename p from to (x ∷ w) = or_before (asked_by_part (part_at from x.0 w) p from to x.0 (x ∷ w)) (asked_for_rename p from to w)

-- the same of any command's
abbrev pub asked_for_command : Plan → Command → Work → List (ℕ × ℕ)
asked_for_command p (command.Rename from to) w = asked_for_rename p from to w
asked_for_command p c w = asked_for p c w

-- the command of a client's latest work, whose newest line came after so many of its works had ended
abbrev pub command_by : Plan → ℕ → Work → Option Command
command_by p a [] = None
command_by p a (x ∷ w) = slice_get (script_of p a) (ended a x.1)

abbrev pub asked_in : Plan → Option Command → Work → List (ℕ × ℕ)
asked_in p None w = []
asked_in p (Some c) w = asked_for_command p c w

-- what the rule was asked for at the last look of a client's latest work
abbrev pub asked_of : Plan → ℕ → List Line → List (ℕ × ℕ)
asked_of p a log = asked_in p (command_by p a (latest a log)) (latest a log)

-- ---- what it answered
-- one of these, and none exactly where it was asked for nothing
abbrev pub PickAnswers : Picks → List (ℕ × ℕ) → Option ℕ → Type 0
PickAnswers picks from None = from ≡ []
PickAnswers picks from (Some b) = picks from b
