-- The words of the samples: a plan of three bricks with one file, and the lines of its client and its healer, put on those before them.
use Rattle.std.specs.Prelude.{ℕ, ◌+◌, ◌^◌, not, false, List, [], ◌∷◌, Some, None}
use Rattle.afr_base.specs.Marks.{closed_op, no_marks, zero_marks}
use Rattle.afr_base.specs.declared.ids.ActorId.{ActorId}
use Rattle.afr_base.specs.declared.ids.BrickId.{BrickId}
use Rattle.afr_base.specs.declared.ids.Gfid.{Gfid}
use Rattle.afr_base.specs.declared.ids.Kind.{Kind}
use Rattle.afr_base.specs.declared.ids.Kind.TheVariants.{Bytes, Names}
use Rattle.afr_base.specs.declared.ids.NameId.{NameId}
use Rattle.afr_base.specs.declared.ids.What.TheVariants.{File, Dir}
use Rattle.afr_object.specs.Tables.{root}
use Rattle.afr_object.specs.declared.change.Change.{Change}
use Rattle.afr_object.specs.declared.change.Change.TheVariants as change
use Rattle.afr_object.specs.declared.entry.Entry.{Entry}
use Rattle.afr_object.specs.declared.entry.View.{View}
use Rattle.afr_lines.specs.Work.{Work, work}
use Rattle.afr_lines.specs.declared.answer.Told.{Told}
use Rattle.afr_lines.specs.declared.answer.Told.TheVariants as told
use Rattle.afr_lines.specs.declared.line.Line.{Line}
use Rattle.afr_lines.specs.declared.line.Line.TheVariants.{Ask, Begin, End}
use Rattle.afr_lines.specs.declared.reply.Good.TheVariants as good
use Rattle.afr_lines.specs.declared.reply.Reply.{Reply}
use Rattle.afr_lines.specs.declared.reply.Reply.TheVariants as reply
use Rattle.afr_lines.specs.declared.request.Area.{Area}
use Rattle.afr_lines.specs.declared.request.Area.TheVariants.{Range, Name}
use Rattle.afr_lines.specs.declared.request.Request.{Request}
use Rattle.afr_lines.specs.declared.request.Request.TheVariants as request
use Rattle.afr_lines.specs.declared.lock.Domain.TheVariants.{Work as WorkDomain}
use Rattle.afr_plan.specs.declared.command.Command.{Command}
use Rattle.afr_plan.specs.declared.command.Command.TheVariants as command
use Rattle.afr_plan.specs.declared.plan.Plan.{Plan}
use Rattle.afr_model.specs.Showing.{is_fault}
use Rattle.afr_model.specs.State.{no_plan}

-- ---- names
-- the number of a brick
abbrev pub brick : ℕ → BrickId
brick number = record { 0 = number }

-- the client
abbrev pub client : ActorId
client = record { 0 = 1 }

-- the healer
abbrev pub healer : ActorId
healer = record { 0 = 17 }

-- another actor, which holds what is asked for
abbrev pub other : ActorId
other = record { 0 = 18 }

-- the object with a number
abbrev pub object : ℕ → Gfid
object number = record { 0 = number }

-- the opening file
abbrev pub file : Gfid
file = object (2 ^ 64 + 1)

-- its name in the root
abbrev pub file_name : NameId
file_name = record { 0 = 0 }

-- a name that the root doesn't have
abbrev pub new_name : NameId
new_name = record { 0 = 5 }

-- the opening file, as its name gives it
abbrev pub file_entry : Entry
file_entry = record { gfid = file; what = File }

-- ---- commands
-- the path to the file
abbrev pub file_path : List NameId
file_path = file_name ∷ []

-- the path to a new name
abbrev pub new_path : List NameId
new_path = new_name ∷ []

-- a write of five bytes
abbrev pub writes : Command
writes = command.Write file_path 0 (1 ∷ 2 ∷ 3 ∷ 4 ∷ 5 ∷ [])

-- a read of five bytes
abbrev pub reads : Command
reads = command.Read file_path 0 5

-- a new file
abbrev pub creates : Command
creates = command.Create new_path

-- ---- the plan
-- three bricks, one file, a client with one command, and a healer with a round of brick 0
abbrev pub plan_of : Command → Plan
plan_of first = record no_plan { shape = record { n = 3; arbiter = false }; files = 1; turns = 100; clients = (first ∷ []) ∷ []; healers = (brick 0 ∷ []) ∷ [] }

-- the plan whose client writes
abbrev pub plan : Plan
plan = plan_of writes

-- ---- lines
-- the client asked a brick and was told this; a brick that tells a fault didn't carry the request out
abbrev pub ask : ℕ → Request → Told → Line
ask b asked said = Ask client (brick b) asked said (not (is_fault said))

-- the healer asked a brick
abbrev pub heal_ask : ℕ → Request → Told → Line
heal_ask b asked said = Ask healer (brick b) asked said (not (is_fault said))

-- a line at each of the three bricks
abbrev pub at_each : (ℕ → Line) → List Line → List Line
at_each line older = line 2 ∷ line 1 ∷ line 0 ∷ older

-- a line at bricks 0 and 1
abbrev pub at_two : (ℕ → Line) → List Line → List Line
at_two line older = line 1 ∷ line 0 ∷ older

-- what a look at an empty directory shows
abbrev pub dir_view : View
dir_view = record { what = Dir; len = 0; marks = no_marks }

-- what a look at an empty file shows
abbrev pub file_view : View
file_view = record { what = File; len = 0; marks = no_marks }

-- a look at the root
abbrev pub look_root : ℕ → Line
look_root b = ask b (request.Look root) (told.Seen dir_view)

-- a look at the file
abbrev pub look_file : ℕ → Line
look_file b = ask b (request.Look file) (told.Seen file_view)

-- a look that failed
abbrev pub look_failed : Gfid → ℕ → Line
look_failed of b = ask b (request.Look of) told.Failed

-- one told that the brick lacks the object
abbrev pub look_lacking : Gfid → ℕ → Line
look_lacking of b = ask b (request.Look of) told.NoObject

-- a view of the file with one write that this brick missed
abbrev pub accusing_view : ℕ → View
accusing_view accused = record file_view { marks = record no_marks { bytes = closed_op (accused ∷ []) zero_marks } }

-- a look that shows it
abbrev pub look_accusing : ℕ → ℕ → Line
look_accusing accused b = ask b (request.Look file) (told.Seen (accusing_view accused))

-- a name read in the root
abbrev pub name_line : NameId → Line
name_line name = ask 0 (request.ReadName root name) told.Given

-- a lock that was granted
abbrev pub lock : Area → ℕ → Line
lock area b = ask b (request.Lock WorkDomain area) told.Granted

-- a lock that failed
abbrev pub lock_failed : Area → ℕ → Line
lock_failed area b = ask b (request.Lock WorkDomain area) told.Failed

-- a lock that another holds
abbrev pub lock_held : Area → ℕ → Line
lock_held area b = ask b (request.Lock WorkDomain area) (told.Held other)

-- a lock that is released
abbrev pub unlock : Area → ℕ → Line
unlock area b = ask b (request.Unlock WorkDomain area) told.Done

-- the area of the write
abbrev pub write_area : Area
write_area = Range file 0 5

-- the name in the root that a create locks
abbrev pub name_area : NameId → Area
name_area name = Name root (Some name)

-- ---- an attempt
-- the change of the write
abbrev pub write_change : Change
write_change = change.Write file 0 (1 ∷ 2 ∷ 3 ∷ 4 ∷ 5 ∷ [])

-- its start
abbrev pub begin : Change → Line
begin change = Begin client change

-- its pre-op
abbrev pub pre : Gfid → Kind → ℕ → Line
pre of kind b = ask b (request.Pre of kind) told.Done

-- its operation
abbrev pub apply : ℕ → ℕ → Line
apply attempt b = ask b (request.Apply attempt) told.Done

-- its post-op, which accuses these bricks
abbrev pub post : ℕ → Gfid → Kind → List ℕ → ℕ → Line
post attempt of kind missed b = ask b (request.Post attempt of kind missed) told.Done

-- the end of a command
abbrev pub ends : Reply → Line
ends reply = End client reply

-- ---- a directory
-- the directory that an attempt at line 0 makes
abbrev pub child : Gfid
child = object 2

-- its entry
abbrev pub child_entry : Entry
child_entry = record { gfid = child; what = Dir }

-- a client that removes it
abbrev pub removes : Command
removes = command.Rmdir new_path

-- a look at it
abbrev pub look_child : ℕ → Line
look_child b = ask b (request.Look child) (told.Seen dir_view)

-- its area
abbrev pub child_area : Area
child_area = Name child None

-- it was made at each brick by a command that has ended
abbrev pub child_made : List Line
child_made = ends (reply.Ok good.Done) ∷ at_each (apply 0) (begin (change.Make root new_name child Dir) ∷ [])

-- then its name was locked, the root looked at, and the name read
abbrev pub child_found : List Line
child_found = name_line new_name ∷ at_each look_root (at_each (lock (name_area new_name)) child_made)

-- ---- logs
-- the client's present work
abbrev pub work_of : List Line → Work
work_of log = work 1 log

-- the path to the file was looked at and read
abbrev pub led_to_file : List Line
led_to_file = name_line file_name ∷ at_each look_root []

-- then the file was locked and looked at on each brick
abbrev pub ready : List Line
ready = at_each look_file (at_each (lock write_area) led_to_file)

-- then the bytes were written on each
abbrev pub written : List Line
written = at_each (post 10 file Bytes []) (at_each (apply 10) (at_each (pre file Bytes) (begin write_change ∷ ready)))

-- or on bricks 0 and 1 alone, where brick 2 failed its pre-op
abbrev pub half_done : List Line
half_done = at_two (apply 10) (ask 2 (request.Pre file Bytes) told.Failed ∷ at_two (pre file Bytes) (begin write_change ∷ ready))

-- and these two accused it
abbrev pub half_written : List Line
half_written = at_two (post 10 file Bytes (2 ∷ [])) half_done

-- ---- an rmdir
-- its child was locked, looked at and listed
abbrev pub child_listed : List Line
child_listed = ask 0 (request.List child) told.Given ∷ at_each look_child (at_each (lock child_area) child_found)

-- and its name removed on each brick
abbrev pub child_removed : List Line
child_removed = at_each (post 19 root Names []) (at_each (apply 19) (at_each (pre root Names) (begin (change.Remove root new_name Dir) ∷ child_listed)))
