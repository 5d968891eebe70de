-- The name was found to lead to a directory: its removal begins.
use Rattle.std.proofs.Common.{◌≡◌, ℕ, ◌==◌, Bool, true, false, List, [], ◌∷◌, ◌++◌, Some, None, length, refl, sym, ap, ◌∙◌, subst, arith, if◌then◌else◌}
use Rattle.std.proofs.lemmas.Option.{same_Some}
use Rattle.afr_base.specs.Bricks.{member}
use Rattle.afr_base.specs.declared.ids.ActorId.{ActorId}
use Rattle.afr_base.specs.declared.ids.BrickId.{BrickId}
use Rattle.afr_base.specs.declared.ids.Gfid.{Gfid}
use Rattle.afr_base.specs.declared.ids.NameId.{NameId}
use Rattle.afr_base.specs.declared.ids.What.{What}
use Rattle.afr_base.specs.declared.ids.What.TheVariants.{Dir}
use Rattle.afr_discipline.specs.declared.register.Register.{Register}
use Rattle.afr_lines.specs.Areas.{area_for}
use Rattle.afr_lines.specs.Told.{told_by}
use Rattle.afr_lines.specs.Work.{Work}
use Rattle.afr_lines.specs.declared.answer.Answer.{Answer}
use Rattle.afr_lines.specs.declared.answer.Answer.TheVariants as answer
use Rattle.afr_lines.specs.declared.answer.Told.TheVariants as as_told
use Rattle.afr_lines.specs.declared.line.Line.{Line}
use Rattle.afr_lines.specs.declared.line.Line.TheVariants.{Ask}
use Rattle.afr_object.specs.Tables.{is_dir, object_of}
use Rattle.afr_object.specs.declared.change.Change.{Change}
use Rattle.afr_object.specs.declared.entry.Entry.{Entry}
use Rattle.afr_plan.specs.declared.plan.Plan.{Plan}
use Rattle.afr_model.specs.Commands.{steps_of}
use Rattle.afr_model.specs.Showing.{At, NotAsked, among, reading_by}
use Rattle.afr_model.specs.Standing.{holding, place_by}
use Rattle.afr_model.specs.Tables.{entry_at, holds}
use Rattle.afr_client_transaction.specs.Progress.{TransactionProgress, is_beginning}
use Rattle.afr_client_transaction.proofs.Requests.{noted_is}
use Rattle.afr_client_transaction.proofs.ReadLemmas.{begins_at}
use Rattle.afr_client_walk.specs.declared.walk.Walk.{Walk}
use Rattle.afr_client_entry.specs.Entry.{IsChanging, found_by, name_noted, or_removes, reads_name, settled}
use Rattle.afr_client_entry.specs.Job.{child_by, ruled_out}
use Rattle.afr_client_entry.specs.declared.job.EntryJob.{EntryJob}
use Rattle.afr_client_entry.specs.declared.job.EntryJob.TheVariants.{Create, Mkdir, Unlink, Rmdir}
use Rattle.afr_client_entry.specs.declared.refusal.Refusal.TheVariants as refusal_of
use Rattle.afr_client_entry.specs.declared.stage.Found.TheVariants.{Unread}
use Rattle.afr_client_entry.specs.Removals.Removal.{removing}
use Rattle.afr_client_entry.specs.Removals.Sound.{IsRemoval}
use Rattle.afr_law_client.specs.Removal.RemovalTelling.{HasLed, IsOfPath, RemovalTells, dir_at}
use Rattle.afr_law_client.proofs.Removal.First.{begins}
use Rattle.afr_law_client.specs.Entry.EntryTelling.{CanName, HoldsName, IsUnread, TellsIn, TransactionGoes, WasGiven, command_of}
use Rattle.afr_law_client.proofs.Entry.Changing.{given, goes_on}
use Rattle.afr_law_client.proofs.Entry.Names as name_told
use Rattle.afr_law_client.proofs.Entry.Names.{NameTold}
use Rattle.afr_law_client.proofs.Entry.Under.{place_more}
use Rattle.afr_law_client.proofs.Entry.Words.{again, area_is, dir_is, longer, named_is}

-- an entry that leads to a directory
entry_is : (entry : Entry) (g : Gfid) → is_dir entry.what ≡ true → entry.gfid ≡ g → entry ≡ dir_at g
entry_is entry g d e = let what : entry.what ≡ Dir = dir_is entry.what d in rebuilt what
  where
    rebuilt : entry.what ≡ Dir → entry ≡ dir_at g
    rebuilt w = ap (λ (x : What). let y : Entry = record { gfid = entry.gfid; what = x } in y) w ∙ ap dir_at e

module _ (p : Plan) (name : NameId) (w : Walk) (lines : Work) (t : TransactionProgress) (place : place_by p (command_of (Rmdir name) w.path) lines ≡ At (steps_of (command_of (Rmdir name) w.path)) w.object) (directory : is_dir w.object.what ≡ true) (unread : reading_by p lines ≡ NotAsked) (a : ActorId) (log : List Line) (b : BrickId) (sound : IsChanging w (Rmdir name) t (Unread b)) (k : TransactionGoes p t lines) (n : IsUnread p (command_of (Rmdir name) w.path) w.object lines) (at_begin : is_beginning t.stage ≡ true) (holds_name : HoldsName t.change t.register lines) (took : Bool) where
  abbrev job : EntryJob
  job = Rmdir name

  abbrev path : List NameId
  path = w.path ++ name ∷ []

  abbrev more : Work
  more = (Ask a b (reads_name job w) as_told.Given took, log) ∷ lines

  abbrev after : TransactionProgress
  after = name_noted b job w as_told.Given (length log) t

  object_same : object_of t.change ≡ w.object.gfid
  object_same = ap object_of sound.of_job

  held_now : (c : ℕ) → member after.register.held c ≡ member (among (holding (area_for t.change)) more) c
  held_now c = subst (λ (q : Register). member q.held c ≡ member (among (holding (area_for t.change)) lines) c) (sym (noted_is t.register (length log) b.0 (reads_name job w) as_told.Given sound.sound.base.outside)) (holds_name.held c)

  module _ (entry : Entry) (found : is_dir entry.what ≡ true) (shows : entry_at w.object.gfid name (holds p log b.0) ≡ Some entry) (apart : (entry.gfid.0 == w.object.gfid.0) ≡ false) where
    was_given : WasGiven p (command_of job w.path) w.object (Some entry) more
    was_given = given p job w lines t place directory unread a log b sound k n at_begin took (Some entry) shows

    led : HasLed p path (object_of t.change) entry.gfid more
    led = record {
      place = place_more p job w.path w.object (Ask a b (reads_name job w) as_told.Given took) log lines place ∙ ap (λ (x : Entry). At (steps_of (command_of job w.path)) x) (entry_is w.object (object_of t.change) directory (sym object_same));
      leads = was_given.path ∙ ap (λ (x : ℕ). At x entry) (again w.path name) ∙ ap (λ (x : Entry). At (length path) x) (entry_is entry entry.gfid found refl);
    }

    words : IsOfPath path t.change entry.gfid
    words = subst (λ (x : Change). IsOfPath path x entry.gfid) (sym sound.of_job) (record {
      some = let e = longer w.path name in omega (arith, e);
      area = area_is job w.path w.object.gfid;
      named = λ at. named_is job w.path w.object.gfid at;
      apart = apart;
    })

    tells_removal : RemovalTells p path (removing t.change after.register entry.gfid) more
    tells_removal =
        let g = goes_on p job w lines t place directory unread a log b sound k n at_begin as_told.Given took in
        begins p path entry.gfid after more g.1 (record {
          stage = begins_at t.stage at_begin;
          removes = subst (λ (x : Change). IsRemoval x) (sym sound.of_job) tt;
          tells = g.0.tells;
          excused = g.0.excused;
          calm = g.0.calm;
          words = words;
          led = led;
          unrefused = was_given.unrefused;
          unread = unread;
          held = held_now;
          kept = holds_name.kept;
          just_read = refl;
        })

-- ---- so the lines show its removal
abbrev pub Removed : Plan → EntryJob → Walk → Work → TransactionProgress → ActorId → List Line → BrickId → Answer → Bool → Gfid → Type 0
Removed p job w lines t a log b heard took child =
    TellsIn p (command_of job w.path) job (or_removes (Some child) (settled (ruled_out job heard) (name_noted b job w (told_by heard) (length log) t)) (found_by (ruled_out job heard))) w
    ((Ask a b (reads_name job w) (told_by heard) took, log) ∷ lines)

-- what was told of an entry, the table shows
pub shown : (p : Plan) (b : ℕ) (g : Gfid) (name : NameId) (log : List Line) (entry : Entry) → NameTold p b g name log (answer.Entry (Some entry)) → entry_at g name (holds p log b) ≡ Some entry
shown p b g name log entry (name_told.Found found e f) = f ∙ sym (is_entry e)
  where
    is_entry : answer.Entry (Some entry) ≡ answer.Entry found → Some entry ≡ found
    is_entry h = cc h
shown p b g name log entry (name_told.Lost e) = absurd (cc e)
shown p b g name log entry (name_told.Fails e) = absurd (cc e)

pub read_removes : (p : Plan) (job : EntryJob) (w : Walk) (lines : Work) (t : TransactionProgress) → place_by p (command_of job w.path) lines ≡ At (steps_of (command_of job w.path)) w.object → is_dir w.object.what ≡ true → reading_by p lines ≡ NotAsked
    → (a : ActorId) (log : List Line) (b : BrickId) → IsChanging w job t (Unread b) → TransactionGoes p t lines → IsUnread p (command_of job w.path) w.object lines → is_beginning t.stage ≡ true → HoldsName t.change t.register lines → (heard : Answer) (took : Bool) (child : Gfid)
    → child_by job heard ≡ Some child → CanName p w.object b.0 (reads_name job w) log heard → Removed p job w lines t a log b heard took child
read_removes p (Rmdir name) w lines t place directory unread a log b sound k n at_begin held (answer.Entry (Some entry)) took child some can = go (is_dir entry.what) refl some
  where
    shows : entry_at w.object.gfid name (holds p log b.0) ≡ Some entry
    shows = shown p b.0 w.object.gfid name log entry (name_told.name_told p b.0 w.object.gfid name log (answer.Entry (Some entry)) can.answers)

    go : (d : Bool) → is_dir entry.what ≡ d → (if d then Some entry.gfid else None) ≡ Some child
        → TellsIn p (command_of (Rmdir name) w.path) (Rmdir name)
        (or_removes (Some child) (settled (if d then None else Some refusal_of.NotDir) (name_noted b (Rmdir name) w as_told.Given (length log) t)) (found_by (if d then None else Some refusal_of.NotDir))) w
        ((Ask a b (reads_name (Rmdir name) w) as_told.Given took, log) ∷ lines)
    go true f e = record {
      name = name;
      is_job = refl;
      tells = subst (λ (g : Gfid). RemovalTells p (w.path ++ name ∷ []) (removing t.change (name_noted b (Rmdir name) w as_told.Given (length log) t).register g) ((Ask a b (reads_name (Rmdir name) w) as_told.Given took, log) ∷ lines))
          (same_Some entry.gfid child e) (tells_removal p name w lines t place directory unread a log b sound k n at_begin held took entry f shows (can.elsewhere entry refl));
    }
    go false f e = absurd (cc e)
read_removes p (Rmdir name) w lines t place directory unread a log b sound k n at_begin held heard took child some can = absurd (cc some)
read_removes p (Create name) w lines t place directory unread a log b sound k n at_begin held heard took child some can = absurd (cc some)
read_removes p (Mkdir name) w lines t place directory unread a log b sound k n at_begin held heard took child some can = absurd (cc some)
read_removes p (Unlink name) w lines t place directory unread a log b sound k n at_begin held heard took child some can = absurd (cc some)
