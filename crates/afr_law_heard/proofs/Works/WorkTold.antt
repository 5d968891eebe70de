-- The lines of a client's present work, by the machine of its command.
use Rattle.std.proofs.Common.{◌≡◌, ℕ, Bool, true, false, List, [], ◌∷◌, ◌++◌, length, refl, sym, ap, ◌∙◌, subst}
use Rattle.afr_base.specs.Bricks.{and_left, and_right}
use Rattle.afr_base.specs.declared.ids.ActorId.{ActorId}
use Rattle.afr_base.specs.declared.ids.BrickId.{BrickId}
use Rattle.afr_base.specs.declared.ids.NameId.{NameId}
use Rattle.afr_law_names.specs.Descent.Descent.{has_one_path}
use Rattle.afr_lines.specs.Work.{Work as Lines}
use Rattle.afr_lines.specs.declared.answer.Answer.{Answer}
use Rattle.afr_lines.specs.declared.answer.Told.{Told}
use Rattle.afr_lines.specs.declared.answer.Told.TheVariants.{Done}
use Rattle.afr_lines.specs.declared.line.Line.{Line}
use Rattle.afr_lines.specs.declared.line.Line.TheVariants.{Ask, Begin, End}
use Rattle.afr_lines.specs.declared.line.Next.{Next}
use Rattle.afr_lines.specs.declared.line.Next.TheVariants as next
use Rattle.afr_lines.specs.declared.reply.Reply.{Reply}
use Rattle.afr_lines.specs.declared.request.Request.{Request}
use Rattle.afr_lines.specs.declared.request.Request.TheVariants as request
use Rattle.afr_lines.specs.Work as lines_of
use Rattle.afr_object.specs.declared.change.Change.{Change}
use Rattle.afr_object.specs.declared.change.Change.TheVariants.{Remove}
use Rattle.afr_plan.specs.declared.command.Command.{Command}
use Rattle.afr_plan.specs.declared.command.Command.TheVariants as command
use Rattle.afr_plan.specs.declared.plan.Plan.{Plan}
use Rattle.afr_model.specs.Answered.{IsAbout, IsAnswered}
use Rattle.afr_model.specs.Blamed.{Blames}
use Rattle.afr_model.specs.Following.{KeepsToCommand}
use Rattle.afr_model.specs.Keeping.{KeepsTo}
use Rattle.afr_model.specs.Kept.{IsKept}
use Rattle.afr_model.specs.Parts.{Makes, Part, Removes, Walks, part_at}
use Rattle.afr_model.specs.Renamed.{IsRenamed, KeepsToPart}
use Rattle.afr_model.specs.Replied.{IsOf}
use Rattle.afr_model.specs.Showing.{begins_attempt, has}
use Rattle.afr_client_walk.specs.Walk as walk
use Rattle.afr_client_walk.specs.declared.walk.Walk.{Walk}
use Rattle.afr_client_walk.specs.declared.walk.WalkStep.{WalkStep}
use Rattle.afr_client_walk.specs.declared.walk.WalkStep.TheVariants as walking
use Rattle.afr_client_read.specs.Lookup.{Lookup as LookupValue, IsLookup, asked_at, next_at, next_of, walk_after}
use Rattle.afr_client_read.specs.declared.job.Wanted.TheVariants as content
use Rattle.afr_client_read.specs.declared.job.LookupJob.{LookupJob}
use Rattle.afr_client_read.specs.declared.job.LookupJob.TheVariants as read_job
use Rattle.afr_client_read.specs.declared.stage.LookupStage.{LookupStage}
use Rattle.afr_client_read.specs.declared.stage.LookupStage.TheVariants as reading
use Rattle.afr_client_write.specs.declared.job.WriteJob.TheVariants as job
use Rattle.afr_client_entry.specs.Entry.{entry_from}
use Rattle.afr_client_entry.specs.declared.job.EntryJob.{EntryJob}
use Rattle.afr_client_entry.specs.declared.job.EntryJob.TheVariants as name
use Rattle.afr_law_client.specs.Read.ReadTelling.{ReadTells, command_of}
use Rattle.afr_law_client.proofs.Read.ReadsMore.{about as read_about, ends as read_ends, follows as read_follows, tells_more as read_more}
use Rattle.afr_law_client.proofs.Read.ReadsTell.{begins as read_begins}
use Rattle.afr_law_client.specs.About.{BlamesNext}
use Rattle.afr_law_client.specs.Laws.{IsNextLine}
use Rattle.afr_law_client.proofs.Small.{no_change}
use Rattle.afr_law_client.proofs.Write.Begins.{begins as write_begins}
use Rattle.afr_law_client.proofs.Write.Ends as write
use Rattle.afr_law_client.specs.Entry.EntryTelling as entry_of
use Rattle.afr_law_client.specs.Entry.EntryTelling.{EntryTells}
use Rattle.afr_law_client.proofs.Entry.Begins.{begins as entry_begins}
use Rattle.afr_law_client.proofs.Entry.Ends as entry
use Rattle.afr_client.proofs.PathLemmas.{path_is, some_names}
use Rattle.afr_client.proofs.WorkLemmas.{never_begins}
use Rattle.afr_client_entry.specs.Renames.Paths.{front, last}
use Rattle.afr_client_entry.proofs.Renames.RenameLemmas.{walked_path}
use Rattle.afr_law_client.specs.Rename.RenameTelling.{to_of}
use Rattle.afr_law_client.specs.Rename.RenameLaws.{RenameAbout, RenameBegins, RenameBegun, RenameBlames, RenameEnds, RenameKeepsName, RenameTellsMore}
use Rattle.afr_plan.specs.OnNames.{has_name}
use Rattle.afr_client.specs.Work as work
use Rattle.afr_client.specs.declared.work.WorkMachine.TheVariants.{Idle, Lookup, Write, Entry, Rename}
use Rattle.afr_law_heard.specs.Works.WorkLaws.{BlamedLines, WorkAbout, WorkBegins, WorkBegun, WorkBlames, WorkEnds, WorkKeepsName, WorkTellsMore}

-- ---- the first line
-- a path is that of its last name, in the directory before it
by_name : (p : Plan) (path : List NameId) (of : List NameId → Command) (j : EntryJob) → has_name path ≡ true → EntryTells p (of (front path ++ last path ∷ [])) (entry_from p.shape (front path) j) [] → EntryTells p (of path) (entry_from p.shape (front path) j) []
by_name p path of j h tells = subst (λ (x : List NameId). EntryTells p (of x) (entry_from p.shape (front path) j) []) (path_is path h) tells

-- no lines show a work that begins
pub begins : RenameBegins → WorkBegins
begins rename p (command.Write path at bytes) few some h = (refl, write_begins p path (job.Write at bytes) few some)
begins rename p (command.Cut path len) few some h = (refl, write_begins p path (job.Cut len) few some)
begins rename p (command.SetAttr path key value) few some h = (refl, write_begins p path (job.SetAttr key value) few some)
begins rename p (command.Read path at len) few some h = (refl, read_begins p path (read_job.Read at len) few some)
begins rename p (command.GetAttr path key) few some h = (refl, read_begins p path (read_job.GetAttr key) few some)
begins rename p (command.Ls path) few some h = (refl, read_begins p path read_job.Ls few some)
begins rename p (command.Stat path) few some h = (refl, read_begins p path read_job.Stat few some)
begins rename p (command.Create path) few some h = by_name p path (λ x. command.Create x) (name.Create (last path)) h (entry_begins p (front path) (name.Create (last path)) few some)
begins rename p (command.Mkdir path) few some h = by_name p path (λ x. command.Mkdir x) (name.Mkdir (last path)) h (entry_begins p (front path) (name.Mkdir (last path)) few some)
begins rename p (command.Unlink path) few some h = by_name p path (λ x. command.Unlink x) (name.Unlink (last path)) h (entry_begins p (front path) (name.Unlink (last path)) few some)
begins rename p (command.Rmdir path) few some h = by_name p path (λ x. command.Rmdir x) (name.Rmdir (last path)) h (entry_begins p (front path) (name.Rmdir (last path)) few some)
begins rename p (command.Rename from to) few some h = rename p from to few some (some_names (length from) (and_left (has_name from) (has_name to) h)) (some_names (length to) (and_right (has_name from) (has_name to) h))

-- ---- after a line
-- a read goes on along the same path
same_path : (chosen : BrickId) (stage : LookupStage) (heard : Answer) (at : ℕ) (w : Walk) → (walk_after chosen stage heard at w).path ≡ w.path
same_path chosen reading.Walking heard at w = walked_path chosen heard at w
same_path chosen (reading.Looking s) heard at w = refl
same_path chosen (reading.Reading b of) heard at w = refl
same_path chosen (reading.Ending said) heard at w = refl

-- whatever was told and whichever good copy is read then, the lines show where the work stands
pub more : RenameTellsMore → WorkTellsMore
more rename p c Idle lines a b request chosen heard took log sound k e can among = absurd can
more rename p c (Lookup m) lines a b request chosen heard took log sound k e can among =
    (k.0 ∙ ap (λ (path : List NameId). command_of m.job path) (sym (same_path chosen m.stage heard (length log) m.walk)), read_more p m lines a b request chosen heard took log (length log) sound k.1 e can among)
more rename p c (Write m) lines a b request chosen heard took log sound k e can among = (k.0, write.more p c m lines a b request chosen heard took log sound k.1 e can among)
more rename p c (Entry m) lines a b request chosen heard took log sound k e can among = entry.more p c m lines a b request chosen heard took log sound k e can among
more rename p c (Rename m) lines a b request chosen heard took log sound k e can among = rename p c m lines a b request chosen heard took log sound k e can among

-- and after the Begin line, which no read has
pub begun : RenameBegun → WorkBegun
begun rename p c Idle lines a change chosen log sound k e = absurd k
begun rename p c (Lookup m) lines a change chosen log sound k e = absurd (never_begins m.stage m.walk change e)
begun rename p c (Write m) lines a change chosen log sound k e = (k.0, write.begun p c m lines a change chosen log sound k.1 e)
begun rename p c (Entry m) lines a change chosen log sound k e = entry.begun p c m lines a change chosen log sound k e
begun rename p c (Rename m) lines a change chosen log sound k e = rename p c m lines a change chosen log sound k e

-- ---- each line
-- a read's next line is a request
asks_line : (P : Line → Type 0) (stage : LookupStage) (w : Walk) (a : ActorId) (told : Told) (line : Line) → IsNextLine a (next_at stage w) told line
    → ((took : Bool) → next_at stage w ≡ next.Ask (asked_at stage w).0 (asked_at stage w).1 → P (Ask a (asked_at stage w).0 (asked_at stage w).1 told took)) → P line
asks_line P reading.Walking w a told line is h = subst P (sym is.1) (h is.0 refl)
asks_line P (reading.Looking s) w a told line is h = subst P (sym is.1) (h is.0 refl)
asks_line P (reading.Reading b of) w a told line is h = subst P (sym is.1) (h is.0 refl)
asks_line P (reading.Ending said) w a told line is h = absurd is

read_line : (p : Plan) (m : LookupValue) (lines : Lines) (a : ActorId) (told : Told) (line : Line) (at : ℕ) → IsLookup m.walk m.stage → ReadTells p m lines → IsNextLine a (next_of m) told line
    → IsAbout p (command_of m.job m.walk.path) line lines × KeepsTo p (command_of m.job m.walk.path) line at lines
read_line p m lines a told line at sound k is =
    asks_line (λ (x : Line). IsAbout p (command_of m.job m.walk.path) x lines × KeepsTo p (command_of m.job m.walk.path) x at lines) m.stage m.walk a told line is
    (λ took e. (read_about p m lines a (asked_at m.stage m.walk).0 (asked_at m.stage m.walk).1 told took sound k e, read_follows p m lines a (asked_at m.stage m.walk).0 (asked_at m.stage m.walk).1 told took at sound k e))

-- what a command along one path keeps to and is about
abbrev Words : Plan → Command → Line → ℕ → Lines → Type 0
Words p c line at lines = IsAbout p c line lines × KeepsTo p c line at lines

-- that is all of its line
of_one : (p : Plan) (c : Command) (line : Line) (at : ℕ) (lines : Lines) → has_one_path c ≡ true → Words p c line at lines → IsOf p c line lines × KeepsToCommand p c line at lines
of_one p (command.Rename from to) line at lines one k = absurd (cc one)
of_one p c line at lines one k = k

read_one : (j : LookupJob) (path : List NameId) → has_one_path (command_of j path) ≡ true
read_one (read_job.Read at len) path = refl
read_one (read_job.GetAttr key) path = refl
read_one read_job.Ls path = refl
read_one read_job.Stat path = refl

pub entry_one : (j : EntryJob) (path : List NameId) → has_one_path (entry_of.command_of j path) ≡ true
entry_one (name.Create n) path = refl
entry_one (name.Mkdir n) path = refl
entry_one (name.Unlink n) path = refl
entry_one (name.Rmdir n) path = refl

-- so it is of the command that it is
pub one_of : (c d : Command) → c ≡ d → has_one_path d ≡ true → has_one_path c ≡ true
one_of c d e h = subst (λ (x : Command). has_one_path x ≡ true) (sym e) h

-- the next line is about what the words of the command name, and keeps to them
pub about : RenameAbout → WorkAbout
about rename p c Idle lines a told line log sound k is = absurd k
about rename p c (Lookup m) lines a told line log sound k is =
    of_one p c line (length log) lines (one_of c (command_of m.job m.walk.path) k.0 (read_one m.job m.walk.path))
    (subst (λ (x : Command). Words p x line (length log) lines) (sym k.0) (read_line p m lines a told line (length log) sound k.1 is))
about rename p c (Write m) lines a told line log sound k is = of_one p c line (length log) lines k.0 (write.about p c m lines a told line log sound k.1 is)
about rename p c (Entry m) lines a told line log sound k is =
    of_one p c line (length log) lines (one_of c (entry_of.command_of m.job m.walk.path) k.named (entry_one m.job m.walk.path)) (entry.about p c m lines a told line log sound k is)
about rename p c (Rename m) lines a told line log sound k is = rename p c m lines a told line log sound k is

-- ---- accusations
walk_blames : (p : Plan) (lines : Lines) (step : WalkStep) (w : Walk) → walk.is_walking step ≡ true → BlamesNext p lines (next.Ask (walk.next_at step w).0 (walk.next_at step w).1)
walk_blames p lines (walking.Looking s) w h = tt
walk_blames p lines (walking.Naming b) w h = tt
walk_blames p lines walking.Arrived w h = absurd (cc h)
walk_blames p lines (walking.Stopped why) w h = absurd (cc h)

read_blames : (p : Plan) (lines : Lines) (stage : LookupStage) (w : Walk) → IsLookup w stage → BlamesNext p lines (next_at stage w)
read_blames p lines reading.Walking w sound = walk_blames p lines w.step w sound.ready
read_blames p lines (reading.Looking s) w sound = tt
read_blames p lines (reading.Reading b (content.Bytes at len)) w sound = tt
read_blames p lines (reading.Reading b (content.Value key)) w sound = tt
read_blames p lines (reading.Reading b content.Names) w sound = tt
read_blames p lines (reading.Ending said) w sound = tt

-- each post-op accuses exactly those that missed the operation, with the cause
pub blames : RenameBlames → WorkBlames
blames rename p c Idle lines at sound k = absurd k
blames rename p c (Lookup m) lines at sound k = read_blames p lines m.stage m.walk sound
blames rename p c (Write m) lines at sound k = write.blames p c m lines at sound k.1
blames rename p c (Entry m) lines at sound k = entry.blames p c m lines at sound k
blames rename p c (Rename m) lines at sound k = rename p c m lines at sound k

-- a line does what is said of the next one
line_blames : (p : Plan) (a : ActorId) (told : Told) (line : Line) (log : List Line) (of : Next) → IsNextLine a of told line → BlamesNext p (lines_of.work a.0 log) of → Blames p line log
line_blames p a told line log (next.Ask b asked) is h = subst (λ (x : Line). Blames p x log) (sym is.1) (go asked h)
  where
    go : (asked : Request) → BlamesNext p (lines_of.work a.0 log) (next.Ask b asked) → Blames p (Ask a b asked told is.0) log
    go (request.Post attempt g kind missed) h = h
    go asked h = tt
line_blames p a told line log (next.Begin change) is h = subst (λ (x : Line). Blames p x log) (sym is) tt
line_blames p a told line log of is h = absurd is

-- so does the line itself, in the log
pub blamed : RenameBlames → BlamedLines
blamed rename p c w a told line log sound k is = line_blames p a told line log (work.next_of (length log) w) is (blames rename p c w (lines_of.work a.0 log) (length log) sound k)

-- ---- the end
-- an end keeps to its command
keeps_end : (p : Plan) (from to : List NameId) (part : Part) (a : ActorId) (said : Reply) (at : ℕ) (lines : Lines) → KeepsToPart part p from to (End a said) at lines
keeps_end p from to Walks a said at lines = tt
keeps_end p from to Makes a said at lines = tt
keeps_end p from to Removes a said at lines = tt

rename_ends : (p : Plan) (c : Command) (from to : List NameId) (lines : Lines) (at : ℕ) (said : Reply) → c ≡ command.Rename from to → IsRenamed p from to lines said
    → (a : ActorId) → IsOf p c (End a said) lines × KeepsToCommand p c (End a said) at lines
rename_ends p c from to lines at said named k a =
    subst (λ (x : Command). IsOf p x (End a said) lines × KeepsToCommand p x (End a said) at lines) (sym named) (k, keeps_end p from to (part_at from (End a said) lines) a said at lines)

-- the reply has its cause
pub ends : RenameEnds → WorkEnds
ends rename p c Idle lines at said sound k e a = absurd k
ends rename p c (Lookup m) lines at said sound k e a =
    of_one p c (End a said) at lines (one_of c (command_of m.job m.walk.path) k.0 (read_one m.job m.walk.path))
    (subst (λ (x : Command). IsAnswered p x lines said) (sym k.0) (read_ends p m lines said k.1 e), tt)
ends rename p c (Write m) lines at said sound k e a = of_one p c (End a said) at lines k.0 (write.ends p c m lines at said sound k.1 e, tt)
ends rename p c (Entry m) lines at said sound k e a =
    of_one p c (End a said) at lines (one_of c (entry_of.command_of m.job m.walk.path) k.named (entry_one m.job m.walk.path)) (entry.ends p c m lines at said sound k e, tt)
ends rename p c (Rename m) lines at said sound k e a = rename_ends p c m.paths.first.path (to_of m.paths) lines at said k.named (rename p c m lines at said sound k e) a

-- ---- the old name
-- where nothing was begun before, no name is given up after a making
unbegun_kept : (p : Plan) (a : ActorId) (change : Change) (log : List Line) → has begins_attempt (lines_of.work a.0 log) ≡ false → IsKept p (Begin a change) log
unbegun_kept p a (Remove dir n what) log none = λ d m g made e. absurd (cc (no_change (lines_of.work a.0 log) none, e))
unbegun_kept p a change log none = tt

-- where the next line is a Begin line, that is the line
begin_line : (a : ActorId) (of : Next) (change : Change) → of ≡ next.Begin change → IsNextLine a of Done (Begin a change)
begin_line a of change e = subst (λ (x : Next). IsNextLine a x Done (Begin a change)) (sym e) refl

-- a name is given up after a making only once the object that was made stands
pub keeps_name : RenameKeepsName → WorkKeepsName
keeps_name rename p c Idle a change log sound k e = absurd k
keeps_name rename p c (Lookup m) a change log sound k e = absurd (never_begins m.stage m.walk change e)
keeps_name rename p c (Write m) a change log sound k e =
    unbegun_kept p a change log (write.about p c m (lines_of.work a.0 log) a Done (Begin a change) log sound k.1 (begin_line a (work.next_of (length log) (Write m)) change e)).1.0
keeps_name rename p c (Entry m) a change log sound k e =
    unbegun_kept p a change log (entry.about p c m (lines_of.work a.0 log) a Done (Begin a change) log sound k (begin_line a (work.next_of (length log) (Entry m)) change e)).1.0
keeps_name rename p c (Rename m) a change log sound k e = rename p c m log a change sound k e
