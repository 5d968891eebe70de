-- While the new name is locked, read and made: each line is about it.
use Rattle.std.proofs.Common.{◌≡◌, ℕ, ◌==◌, Bool, true, false, List, Option, Some, None, length, refl, sym, ap, ◌∙◌, subst, if◌then◌else◌}
use Rattle.std.specs.Option.{option_map}
use Rattle.afr_base.specs.declared.ids.ActorId.{ActorId}
use Rattle.afr_base.specs.declared.ids.BrickId.{BrickId}
use Rattle.afr_base.specs.declared.ids.Gfid.{Gfid}
use Rattle.afr_base.specs.declared.ids.NameId.{NameId}
use Rattle.afr_base.specs.declared.ids.What.TheVariants.{File}
use Rattle.afr_lines.specs.Work.{Work}
use Rattle.afr_lines.specs.declared.answer.Told.{Told}
use Rattle.afr_lines.specs.declared.line.Line.{Line}
use Rattle.afr_lines.specs.declared.line.Line.TheVariants.{Ask, Begin}
use Rattle.afr_lines.specs.declared.line.Next.TheVariants as next
use Rattle.afr_lines.specs.declared.request.Request.{Request}
use Rattle.afr_object.specs.declared.change.Change.{Change}
use Rattle.afr_object.specs.declared.change.Change.TheVariants as change_of
use Rattle.afr_object.specs.declared.entry.Entry.{Entry}
use Rattle.afr_plan.specs.declared.command.Command.{Command}
use Rattle.afr_plan.specs.declared.command.Command.TheVariants as command
use Rattle.afr_plan.specs.declared.plan.Plan.{Plan}
use Rattle.afr_model.specs.Answered.{IsAbout}
use Rattle.afr_model.specs.Commands.{last_of}
use Rattle.afr_model.specs.Keeping.{KeepsTo}
use Rattle.afr_model.specs.Parts.{Part, is_again, the_make}
use Rattle.afr_model.specs.Renamed.{IsOfPart, IsOfRename, KeepsToPart, KeepsToRename, MakesLink}
use Rattle.afr_model.specs.Showing.{begins_attempt, has}
use Rattle.afr_client_transaction.specs.Progress.{TransactionProgress, gfid_at, is_beginning, is_over, next_at as next_change, numbered, request_at}
use Rattle.afr_client_transaction.specs.declared.stage.Stage.{Stage}
use Rattle.afr_client_transaction.specs.declared.stage.Stage.TheVariants.{Beginning}
use Rattle.afr_law_client.specs.About.{Led}
use Rattle.afr_law_client.specs.Laws.{IsNextLine}
use Rattle.afr_law_client.specs.Tells.{During}
use Rattle.afr_law_client.proofs.GivenUpLemmas.{given_up_about}
use Rattle.afr_client_entry.specs.Job.{change_of as change_for, reply_to}
use Rattle.afr_client_entry.specs.declared.job.EntryJob.{EntryJob}
use Rattle.afr_client_entry.specs.declared.job.EntryJob.TheVariants.{Create}
use Rattle.afr_client_entry.specs.declared.stage.Found.{Found}
use Rattle.afr_client_entry.specs.declared.stage.Found.TheVariants.{Unread, Fits, Refused}
use Rattle.afr_law_client.specs.Entry.EntryTelling.{TransactionGoes}
use Rattle.afr_law_client.proofs.Entry.Changing.{each_line, keeps_request, led_fits, led_unread, line_about, name_line}
use Rattle.afr_law_client.proofs.Entry.Words.{named_is}
use Rattle.afr_client_entry.specs.Renames.Paths.{reads_new}
use Rattle.afr_client_entry.specs.Renames.Rename.{IsMaking}
use Rattle.afr_client_entry.specs.Renames.Under.{next_under}
use Rattle.afr_client_entry.specs.declared.renaming.paths.Paths.{Paths}
use Rattle.afr_law_client.specs.Rename.RenameTelling.{MakesNewName, to_of}
use Rattle.afr_law_client.proofs.Rename.Cut.{line_makes}
use Rattle.afr_law_client.proofs.Rename.MakingMore.{like, stage_waits}
use Rattle.afr_law_client.proofs.Rename.MakingWalked.{waits_unlocked}

-- ---- the change of the Begin line
-- the last name of the second path is the new one
named_alike : (g : Gfid) (q : Gfid) (n : NameId) (o : Option NameId) → option_map (λ (name : NameId). change_of.Make g name q File) o ≡ Some (change_of.Make g n q File) → o ≡ Some n
named_alike g q n None e = absurd (cc e)
named_alike g q n (Some m) e = let same : m ≡ n = cc e in ap (λ (y : NameId). Some y) same

last_new : (x : Paths) → last_of (to_of x) ≡ Some x.new_name
last_new x = named_alike (record { 0 = 0 }) (record { 0 = 2 }) x.new_name (last_of (to_of x)) (named_is (Create x.new_name) x.second.path (record { 0 = 0 }) 0)

-- a file that has a number keeps it
pub keeps_number : (at : ℕ) (g : Gfid) → (g.0 == 0) ≡ false → gfid_at at g ≡ g
keeps_number at g e = rw e refl

module _ (p : Plan) (x : Paths) (t : TransactionProgress) (found : Found) (lines : Work) (a : ActorId) (log : List Line) (k : MakesNewName p x t found lines) (sound : IsMaking x t found) where
  abbrev from : List NameId
  from = x.first.path

  abbrev make : Work
  make = the_make from lines

  abbrev dir : Entry
  dir = x.second.object

  abbrev job : EntryJob
  job = Create x.new_name

  abbrev c : Command
  c = command.Create (to_of x)

  -- what is shown of each line
  abbrev pub About : Line → Type 0
  About line = IsOfRename p from (to_of x) line lines × KeepsToRename p from (to_of x) line (length log) lines

  ask_about : (b : BrickId) (request : Request) (told : Told) (took : Bool) → is_again (Ask a b request told took) lines ≡ false → IsAbout p c (Ask a b request told took) make → KeepsTo p c (Ask a b request told took) (length log) make
      → About (Ask a b request told took)
  ask_about b request told took waits about keeps =
      subst (λ (part : Part). IsOfPart part p from (to_of x) (Ask a b request told took) lines × KeepsToPart part p from (to_of x) (Ask a b request told took) (length log) lines) (sym (line_makes from (Ask a b request told took) lines waits k.on.walked.all))
      (((x.first.object.gfid, k.on.walked.found), about), keeps)

  -- the attempt gives the new name to the file
  links : MakesLink p from (to_of x) lines (numbered (length log) t.change)
  links = subst (λ (y : Change). MakesLink p from (to_of x) lines (numbered (length log) y)) (sym sound.under.of) (record {
    file = x.first.object.gfid;
    found = k.on.walked.found;
    dir = dir;
    led = k.tells.place;
    named = ap (option_map (λ (name : NameId). change_of.Make dir.gfid name x.first.object.gfid File)) (last_new x)
        ∙ ap (λ (g : Gfid). Some (change_of.Make dir.gfid x.new_name g File)) (sym (keeps_number (length log) x.first.object.gfid k.on.walked.numbered));
  })

  begin_about : IsAbout p c (Begin a (numbered (length log) t.change)) make → has begins_attempt make ≡ false → About (Begin a (numbered (length log) t.change))
  begin_about about unbegun =
      subst (λ (part : Part). IsOfPart part p from (to_of x) (Begin a (numbered (length log) t.change)) lines × KeepsToPart part p from (to_of x) (Begin a (numbered (length log) t.change)) (length log) lines)
      (sym (line_makes from (Begin a (numbered (length log) t.change)) lines (waits_unlocked p x lines k.on (Begin a (numbered (length log) t.change)) refl) k.on.walked.all))
      (((x.first.object.gfid, k.on.walked.found), about), (unbegun, links))

  -- ---- a line of the transaction
  own_line : (told : Told) (line : Line) → (t.stage ≡ Beginning → has begins_attempt make ≡ false) → IsNextLine a (next_change t.stage (length log) t) told line → IsAbout p c line make → About line
  own_line told line unbegun is about =
      each_line t a log (λ (y : Line). IsAbout p c y make → About y)
      (λ stage b told took now about. ask_about b (request_at stage t) told took (stage_waits p x t found lines a log k sound stage b told took now) about (keeps_request p c make t a (length log) stage b told took))
      (λ now about. begin_about about (unbegun now))
      told line is about

  goes_line : TransactionGoes p t make → Led t.stage p c (change_for dir.gfid job) make → (told : Told) (line : Line) → IsNextLine a (next_change t.stage (length log) t) told line → About line
  goes_line g led told line is =
      own_line told line (λ now. (subst (λ (stage : Stage). During stage p.shape t make) now g.tells.during).idle.unbegun) is
      (line_about p job x.second make t k.tells.place k.tells.directory k.tells.unread a log sound.under.sound g (like p x t found lines a log k sound) told line led is)

-- ---- each line under the locks
pub making_line : (p : Plan) (x : Paths) (t : TransactionProgress) (found : Found) (lines : Work) (a : ActorId) (log : List Line) (told : Told) (line : Line) → MakesNewName p x t found lines → IsMaking x t found → IsNextLine a (next_under found (length log) (reads_new x) t) told line
    → IsOfRename p x.first.path (to_of x) line lines × KeepsToRename p x.first.path (to_of x) line (length log) lines
making_line p x t (Unread copy) lines a log told line k sound is = go (is_beginning t.stage) refl is
  where
    read : (took : Bool) → is_beginning t.stage ≡ true → About p x t (Unread copy) lines a log k sound (Ask a copy (reads_new x) told took)
    read took f =
        let l = name_line p (Create x.new_name) x.second (the_make x.first.path lines) t k.tells.place k.tells.directory k.tells.unread a log copy sound.under.sound (like p x t (Unread copy) lines a log k sound) sound.under.reads k.tells.on.0 k.tells.name f told took in
        ask_about p x t (Unread copy) lines a log k sound copy (reads_new x) told took (waits_unlocked p x lines k.on (Ask a copy (reads_new x) told took) refl) l.0 l.1

    go : (y : Bool) → is_beginning t.stage ≡ y → IsNextLine a (if y then next.Ask copy (reads_new x) else next_change t.stage (length log) t) told line → About p x t (Unread copy) lines a log k sound line
    go true f (took, e) = subst (λ (y : Line). About p x t (Unread copy) lines a log k sound y) (sym e) (read took f)
    go false f is =
        goes_line p x t (Unread copy) lines a log k sound k.tells.on.0
        (led_unread p (Create x.new_name) x.second (the_make x.first.path lines) t k.tells.place k.tells.directory k.tells.unread k.tells.name t.stage f) told line is
making_line p x t Fits lines a log told line k sound is =
    goes_line p x t Fits lines a log k sound k.tells.on
    (led_fits p (Create x.new_name) x.second (the_make x.first.path lines) t k.tells.place k.tells.directory k.tells.unread refl k.tells.name t.stage sound.under.in_turn) told line is
making_line p x t (Refused why) lines a log told line k sound is = go (is_over t.stage t) is
  where
    go : (y : Bool) → IsNextLine a (if y then next.End (reply_to why) else next_change t.stage (length log) t) told line → About p x t (Refused why) lines a log k sound line
    go true is = absurd is
    go false is =
        own_line p x t (Refused why) lines a log k sound told line (λ now. let f = k.tells.on.closing in absurd (cc (now, f))) is
        (given_up_about p (command.Create (to_of x)) (the_make x.first.path lines) t a told line log k.tells.on is)
