-- Why a command can't go on from where it stands: the first cause that applies.
use Rattle.std.specs.Prelude.{ℕ, ◌+◌, not, nat_lt, Bool, true, List, [], ◌∷◌, Option, Some, None, filter, length, if◌then◌else◌}
use Rattle.afr_base.specs.Bricks.{member, is_nothing}
use Rattle.afr_base.specs.Majority.{is_majority}
use Rattle.afr_base.specs.declared.ids.Gfid.{Gfid}
use Rattle.afr_base.specs.declared.ids.Kind.{Kind}
use Rattle.afr_base.specs.declared.ids.Kind.TheVariants.{Bytes, Attrs, Names}
use Rattle.afr_base.specs.declared.ids.Shape.{Shape}
use Rattle.afr_choice.specs.Verdict.{verdict_of, holders_of, good_copies}
use Rattle.afr_choice.specs.declared.looked.Looked.{Looked}
use Rattle.afr_choice.specs.declared.verdict.Verdict.{Verdict}
use Rattle.afr_choice.specs.declared.verdict.Verdict.TheVariants as verdict
use Rattle.afr_object.specs.Tables.{is_dir, is_file}
use Rattle.afr_object.specs.declared.entry.Entry.{Entry}
use Rattle.afr_object.specs.declared.entry.View.{View}
use Rattle.afr_lines.specs.Areas.{object_of_area}
use Rattle.afr_lines.specs.Work.{Work}
use Rattle.afr_lines.specs.declared.line.Line.{Line}
use Rattle.afr_lines.specs.declared.reply.Good.TheVariants as good
use Rattle.afr_lines.specs.declared.reply.Reply.{Reply}
use Rattle.afr_lines.specs.declared.reply.Reply.TheVariants as reply
use Rattle.afr_lines.specs.declared.request.Area.{Area}
use Rattle.afr_lines.specs.declared.request.Area.TheVariants.{Name}
use Rattle.afr_plan.specs.declared.command.Command.{Command}
use Rattle.afr_plan.specs.declared.command.Command.TheVariants as command
use Rattle.afr_plan.specs.declared.plan.Plan.{Plan}
use Rattle.afr_model.specs.Commands.{path_of, is_on_name, steps_of, area_on, kind_looked}
use Rattle.afr_model.specs.Showing.{Path, At, NoName, Untold, path_by, looked_by, among, has, looks_at, locks, refuses_read, Reading, Gave, reading_by}
use Rattle.afr_model.specs.Standing.{place_by, up_to, getting, holding, suffices}

-- the first cause, or else the next
abbrev pub or_else : Option Reply → Option Reply → Option Reply
or_else (Some reply) next = Some reply
or_else None next = next

-- a write that ends past the longest file
abbrev pub too_large : Command → Option Reply
too_large (command.Write path at bytes) = if nat_lt 1048576 (at + length bytes) then Some reply.TooLarge else None
too_large other = None

-- a read was refused: it isn't tried again
abbrev pub read_refused : Work → Option Reply
read_refused w = if has refuses_read w then Some reply.Failed else None

-- ---- looks without locks
-- a verdict without a good copy
abbrev pub without_source : Verdict → List (Option View) → Option Reply
without_source verdict.Short views = Some reply.NoQuorum
without_source verdict.Bare views = Some reply.FewCopies
without_source verdict.Split views = Some (reply.SplitBrain views)
without_source (verdict.Sources sources) views = None

-- the same of what the last looks at an object show
abbrev pub by_looks : Shape → Kind → Looked → Option Reply
by_looks shape kind looked = without_source (verdict_of shape looked kind) looked.views

-- an object before the path's end: a file, or a directory without a good copy
abbrev pub on_way : Shape → Entry → Work → Option Reply
on_way shape object w = if is_dir object.what then by_looks shape Names (looked_by object.gfid w) else Some reply.NotDir

-- ---- locks
-- too few looks, too few copies, or no good one
abbrev pub by_views : Shape → Kind → Looked → Option Reply
by_views shape kind looked =
    if not (is_majority shape.n looked.reached) then Some reply.NoQuorum
    else (if not (is_majority shape.n (holders_of looked)) then Some reply.FewCopies
    else (if is_nothing (good_copies shape looked kind) then Some (reply.SplitBrain looked.views) else None))

-- too few locks of an area, or what the looks after them show
abbrev pub by_locks : Shape → Kind → Area → Work → Option Reply
by_locks shape kind area w = if not (is_majority shape.n (among (getting area) w)) then Some reply.NoQuorum else by_views shape kind (looked_by (object_of_area area) w)

-- the same where the command locks an area; without one nothing stops it here
abbrev pub by_area : Shape → Kind → Option Area → Work → Option Reply
by_area shape kind None w = None
by_area shape kind (Some area) w = by_locks shape kind area w

-- ---- the directory that an rmdir removes
-- a line looks at the object or locks it
abbrev pub meets : Gfid → Line → Bool
meets g line = if looks_at g line then true else locks g line

-- the holders of a directory where the name and the whole child were locked after the last look at the child, or lock of it
abbrev pub both_locked : Option Area → Gfid → Gfid → Work → List ℕ
both_locked None dir child w = []
both_locked (Some name) dir child w = filter (member (among (holding name) (up_to (meets child) w))) (filter (member (among (holding (Name child None)) (up_to (meets child) w))) (holders_of (looked_by dir w)))

-- a list showed a name
abbrev pub by_list : Reading → Option Reply
by_list (Gave (good.Names (x ∷ names))) = Some reply.NotEmpty
by_list other = None

-- too few locks of the child, too few holders of the directory with both, what the looks at the child show, or a name in it
abbrev pub by_child : Plan → Command → Entry → Entry → Work → Option Reply
by_child p c dir child w =
    if not (is_majority p.shape.n (among (getting (Name child.gfid None)) w)) then Some reply.NoQuorum
    else (if not (suffices p.shape Names (looked_by dir.gfid w) (both_locked (area_on dir.gfid c) dir.gfid child.gfid w)) then Some reply.NoQuorum
    else or_else (by_views p.shape Names (looked_by child.gfid w)) (by_list (reading_by p w)))

-- ---- the object of a command
-- a lookup or a change of an object that the path has led to
abbrev pub at_object : Plan → Command → Entry → Work → Option Reply
at_object p (command.Write path at bytes) object w = if is_dir object.what then Some reply.IsDir else by_area p.shape Bytes (area_on object.gfid (command.Write path at bytes)) w
at_object p (command.Cut path len) object w = if is_dir object.what then Some reply.IsDir else by_area p.shape Bytes (area_on object.gfid (command.Cut path len)) w
at_object p (command.SetAttr path key value) object w = by_area p.shape Attrs (area_on object.gfid (command.SetAttr path key value)) w
at_object p (command.Read path at len) object w = if is_dir object.what then Some reply.IsDir else by_looks p.shape Bytes (looked_by object.gfid w)
at_object p (command.Ls path) object w = if is_file object.what then Some reply.NotDir else by_looks p.shape Names (looked_by object.gfid w)
at_object p other object w = by_looks p.shape (kind_looked other object.what) (looked_by object.gfid w)

-- what the last name gave, where it was asked
abbrev pub by_name : Plan → Command → Entry → Path → Work → Option Reply
by_name p (command.Create path) dir NoName w = None
by_name p (command.Mkdir path) dir NoName w = None
by_name p c dir NoName w = Some reply.NoEntry
by_name p c dir Untold w = Some reply.Failed
by_name p (command.Unlink path) dir (At read object) w = if nat_lt read (length path) then None else (if is_dir object.what then Some reply.IsDir else None)
by_name p (command.Rmdir path) dir (At read object) w = if nat_lt read (length path) then None else (if is_file object.what then Some reply.NotDir else by_child p (command.Rmdir path) dir object w)
by_name p c dir (At read object) w = if nat_lt read (length (path_of c)) then None else Some reply.Exists

-- a change of a name in the directory that the path has led to
abbrev pub in_directory : Plan → Command → Entry → Work → Option Reply
in_directory p c dir w = if is_file dir.what then Some reply.NotDir else or_else (by_area p.shape Names (area_on dir.gfid c) w) (by_name p c dir (path_by p w) w)

-- the command at its own object
abbrev pub at_end : Plan → Command → Entry → Work → Option Reply
at_end p c object w = if is_on_name c then in_directory p c object w else at_object p c object w

-- where the path has led
abbrev pub by_path : Plan → Command → Path → Work → Option Reply
by_path p c NoName w = Some reply.NoEntry
by_path p c Untold w = Some reply.Failed
by_path p c (At read object) w = if nat_lt read (steps_of c) then on_way p.shape object w else at_end p c object w

-- why the command can't go on, or nothing
abbrev pub refusal : Plan → Command → Work → Option Reply
refusal p c w = or_else (too_large c) (or_else (read_refused w) (by_path p c (place_by p c w) w))
