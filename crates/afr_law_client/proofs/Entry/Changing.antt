-- While a name is locked and read: what each line is about, and what the read of the name leaves.
use Rattle.std.proofs.Common.{◌≡◌, ℕ, ◌<◌, nat_le, Bool, true, false, List, [], ◌∷◌, ◌++◌, Option, Some, None, length, slice_get, refl, sym, ap, ◌∙◌, subst, arith, if◌then◌else◌}
use Rattle.std.proofs.lemmas.Bool.Decides.{nat_tests}
use Rattle.afr_base.specs.Bricks.{is_nothing, member}
use Rattle.afr_base.specs.declared.ids.ActorId.{ActorId}
use Rattle.afr_base.specs.declared.ids.BrickId.{BrickId}
use Rattle.afr_base.specs.declared.ids.Gfid.{Gfid}
use Rattle.afr_base.specs.declared.ids.Kind.{Kind}
use Rattle.afr_base.specs.declared.ids.Kind.TheVariants as kind_named
use Rattle.afr_base.specs.declared.ids.NameId.{NameId}
use Rattle.afr_base.specs.declared.ids.Shape.{Shape}
use Rattle.afr_base.specs.Majority.{is_majority}
use Rattle.afr_choice.specs.Verdict.{good_copies}
use Rattle.afr_choice.specs.VerdictLemmas.{good_below}
use Rattle.afr_choice.specs.declared.looked.Looked.{Looked}
use Rattle.afr_lines.specs.Areas.{area_for, kind_for}
use Rattle.afr_lines.specs.Told.{told_by}
use Rattle.afr_lines.specs.Work.{Work}
use Rattle.afr_lines.specs.declared.answer.Answer.{Answer}
use Rattle.afr_lines.specs.declared.answer.Answer.TheVariants as answer
use Rattle.afr_lines.specs.declared.answer.Told.{Told}
use Rattle.afr_lines.specs.declared.line.Line.{Line}
use Rattle.afr_lines.specs.declared.line.Line.TheVariants.{Ask, Begin}
use Rattle.afr_lines.specs.declared.line.Next.TheVariants as next
use Rattle.afr_lines.specs.declared.request.Area.{Area}
use Rattle.afr_object.specs.Tables.{is_dir, object_of}
use Rattle.afr_object.specs.declared.change.Change.{Change}
use Rattle.afr_object.specs.declared.entry.Entry.{Entry}
use Rattle.afr_plan.specs.declared.command.Command.{Command}
use Rattle.afr_plan.specs.declared.plan.Plan.{Plan}
use Rattle.afr_model.specs.Answered.{IsAbout}
use Rattle.afr_model.specs.Commands.{is_rmdir, steps_of}
use Rattle.afr_model.specs.Keeping.{KeepsTo, Names}
use Rattle.afr_model.specs.Refusals.{by_locks, by_name}
use Rattle.afr_model.specs.Showing.{Path, At, NotAsked, has, looked_by, path_by, reading_by, refuses_read}
use Rattle.afr_model.specs.Standing.{area_here, looks_here, place_by}
use Rattle.afr_model.specs.Tables.{entry_at, holds}
use Rattle.afr_client_transaction.specs.Outcome.{reply_of}
use Rattle.afr_client_transaction.specs.Progress.{TransactionProgress, asks, is_beginning, next_at as next_change, numbered, request_at}
use Rattle.afr_client_transaction.specs.Sound.{Sound}
use Rattle.afr_client_transaction.specs.declared.stage.Stage.{Stage}
use Rattle.afr_client_transaction.specs.declared.stage.Stage.TheVariants.{Locking, Looking, Beginning, Preparing, Applying, Posting, Closing}
use Rattle.afr_client_transaction.proofs.ReadLemmas.{begins_at}
use Rattle.afr_client_walk.specs.declared.walk.Walk.{Walk}
use Rattle.afr_client_entry.specs.Entry.{HasReader, IsChanging, fits_stage, found_by, name_noted, reads_name, settled}
use Rattle.afr_client_entry.specs.Job.{change_of, name_of, ruled_by, ruled_out}
use Rattle.afr_client_entry.specs.declared.job.EntryJob.{EntryJob}
use Rattle.afr_client_entry.specs.declared.refusal.Refusal.{Refusal}
use Rattle.afr_client_entry.specs.declared.stage.Found.TheVariants.{Unread, Fits}
use Rattle.afr_law_client.specs.About.{Led}
use Rattle.afr_law_client.specs.Laws.{IsNextLine}
use Rattle.afr_law_client.specs.Tells.{During}
use Rattle.afr_law_client.proofs.About.{about_next, passes}
use Rattle.afr_law_client.proofs.GivenUpLemmas.{gives_up}
use Rattle.afr_law_client.proofs.ReadsLemmas.{reads_kept}
use Rattle.afr_law_client.specs.Entry.EntryTelling.{ByFault, ByName, ChangesName, FitsName, IsUnread, NameTells, TransactionGoes, WasGiven, command_of}
use Rattle.afr_law_client.proofs.Entry.Names as name_told
use Rattle.afr_law_client.proofs.Entry.Names.{NameTold}
use Rattle.afr_law_client.proofs.Entry.Under.{area_there, place_more, refused_by_locks}
use Rattle.afr_law_client.proofs.Entry.Words.{asked_is, given_fits, name_at, named_is, object_is, path_is, steps_are, unread_fits}

le_self : (n : ℕ) → nat_le n n ≡ true
le_self n = grind (arith, nat_tests)

-- ---- changes that are locked, looked at and counted alike, as those that give one name to different objects
pub record IsLike (change like : Change) : Type 0 where
  pub area : area_for change ≡ area_for like
  pub kind : kind_for change ≡ kind_for like
  pub object : object_of change ≡ object_of like

pub like_same : (change like : Change) → change ≡ like → IsLike change like
like_same change like e = record { area = ap area_for e; kind = ap kind_for e; object = ap object_of e }

pub passed_like : (p : Plan) (change like : Change) (lines : Work) → IsLike change like → by_locks p.shape (kind_for change) (area_for change) lines ≡ None → by_locks p.shape (kind_for like) (area_for like) lines ≡ None
passed_like p change like lines k none =
    subst (λ (x : Kind). by_locks p.shape x (area_for like) lines ≡ None) k.kind
    (subst (λ (x : Area). by_locks p.shape (kind_for change) x lines ≡ None) k.area none)

led_like : (p : Plan) (c : Command) (change like : Change) (lines : Work) → IsLike change like → (stage : Stage) → Led stage p c like lines → Led stage p c change lines
led_like p c change like lines k Locking led = led ∙ ap (λ (x : Area). Some x) (sym k.area)
led_like p c change like lines k Looking led = record {
  object = led.object ∙ ap (λ (x : Gfid). Some x) (sym k.object);
  area = led.area ∙ ap (λ (x : Area). Some x) (sym k.area);
  unread = led.unread;
}
led_like p c change like lines k Beginning led = record { refuses = λ none. led.refuses (passed_like p change like lines k none); asked = led.asked }
led_like p c change like lines k Preparing led = tt
led_like p c change like lines k Applying led = tt
led_like p c change like lines k Posting led = tt
led_like p c change like lines k Closing led = tt

-- what holds of each request of a transaction, and of its Begin line, holds of its next line
pub each_line : (t : TransactionProgress) (a : ActorId) (log : List Line) (K : Line → Type 0) → ((stage : Stage) (b : BrickId) (told : Told) (took : Bool) → t.stage ≡ stage → K (Ask a b (request_at stage t) told took))
    → (t.stage ≡ Beginning → K (Begin a (numbered (length log) t.change))) → (told : Told) (line : Line) → IsNextLine a (next_change t.stage (length log) t) told line → K line
each_line t a log K asked begun told line is = go t.stage refl is
  where
    by : (stage : Stage) (b : BrickId) (took : Bool) → t.stage ≡ stage → line ≡ Ask a b (request_at stage t) told took → K line
    by stage b took now e = subst K (sym e) (asked stage b told took now)

    unlock : (x : Bool) → t.stage ≡ Closing → IsNextLine a (if x then next.End (reply_of t.change t.register) else asks Closing t) told line → K line
    unlock true now is = absurd is
    unlock false now (took, e) = by Closing _ took now e

    go : (stage : Stage) → t.stage ≡ stage → IsNextLine a (next_change stage (length log) t) told line → K line
    go Locking now (took, e) = by Locking _ took now e
    go Looking now (took, e) = by Looking _ took now e
    go Beginning now e = subst K (sym e) (begun now)
    go Preparing now (took, e) = by Preparing _ took now e
    go Applying now (took, e) = by Applying _ took now e
    go Posting now (took, e) = by Posting _ took now e
    go Closing now is = unlock (is_nothing t.register.held) now is

-- a request of a transaction reads no name
pub keeps_request : (p : Plan) (c : Command) (lines : Work) (t : TransactionProgress) (a : ActorId) (at : ℕ) (stage : Stage) (b : BrickId) (told : Told) (took : Bool) → KeepsTo p c (Ask a b (request_at stage t) told took) at lines
keeps_request p c lines t a at Locking b told took = tt
keeps_request p c lines t a at Looking b told took = tt
keeps_request p c lines t a at Beginning b told took = tt
keeps_request p c lines t a at Preparing b told took = tt
keeps_request p c lines t a at Applying b told took = tt
keeps_request p c lines t a at Posting b told took = tt
keeps_request p c lines t a at Closing b told took = tt

module _ (p : Plan) (job : EntryJob) (w : Walk) (lines : Work) (t : TransactionProgress) where
  abbrev c : Command
  c = command_of job w.path

  abbrev dir : Entry
  dir = w.object

  abbrev change : Change
  change = change_of dir.gfid job

  -- nothing but the locks could refuse it, whose name wasn't read or fits
  abbrev IsFree : Type 0
  IsFree = by_name p c dir (path_by p lines) lines ≡ None

  free_unread : IsUnread p c dir lines → IsFree
  free_unread k = subst (λ (x : Path). by_name p c dir x lines ≡ None) (sym k.path) (unread_fits p job w.path dir lines)

  free_fits : is_rmdir c ≡ false → FitsName p c job dir lines → IsFree
  free_fits plain k = subst (λ (x : Path). by_name p c dir x lines ≡ None) (sym k.given.path) (given_fits p job w.path dir lines k.entry plain k.rule)

  pub unrefused_unread : IsUnread p c dir lines → IsFree × (has refuses_read lines ≡ false)
  unrefused_unread k = (free_unread k, k.unrefused)

  pub unrefused_fits : is_rmdir c ≡ false → FitsName p c job dir lines → IsFree × (has refuses_read lines ≡ false)
  unrefused_fits plain k = (free_fits plain k, k.given.unrefused)

  -- ---- where its command has led it
  module _ (place : place_by p c lines ≡ At (steps_of c) dir) (directory : is_dir dir.what ≡ true) (unread : reading_by p lines ≡ NotAsked) where
    locks_here : IsUnread p c dir lines → area_here c (path_by p lines) ≡ Some (area_for change)
    locks_here k = subst (λ (x : Path). area_here c x ≡ Some (area_for change)) (place ∙ sym k.path) (area_there p job w.path dir lines place directory)

    looks_there : IsUnread p c dir lines → looks_here c (path_by p lines) ≡ Some (object_of change)
    looks_there k = subst (λ (x : Path). looks_here c x ≡ Some (object_of change)) (sym k.path) (subst (λ (g : Gfid). looks_here c (At (steps_of c) dir) ≡ Some g) (sym (object_is dir.gfid job)) here)
      where
        here : looks_here c (At (steps_of c) dir) ≡ Some dir.gfid
        here = rw (le_self (steps_of c)) refl

    pub led_unread : IsUnread p c dir lines → (stage : Stage) → is_beginning stage ≡ false → Led stage p c change lines
    led_unread k Locking e = locks_here k
    led_unread k Looking e = record { object = looks_there k; area = locks_here k; unread = unread }
    led_unread k Beginning e = absurd (cc e)
    led_unread k Preparing e = tt
    led_unread k Applying e = tt
    led_unread k Posting e = tt
    led_unread k Closing e = tt

    pub led_fits : is_rmdir c ≡ false → FitsName p c job dir lines → (stage : Stage) → fits_stage Fits stage ≡ true → Led stage p c change lines
    led_fits plain k Locking e = absurd (cc e)
    led_fits plain k Looking e = absurd (cc e)
    led_fits plain k Beginning e = record {
      refuses = λ none. refused_by_locks p job w.path dir lines place directory k.given.unrefused (free_fits plain k) ∙ none;
      asked = asked_is p job w.path dir lines k.entry plain k.rule k.given.path;
    }
    led_fits plain k Preparing e = tt
    led_fits plain k Applying e = tt
    led_fits plain k Posting e = tt
    led_fits plain k Closing e = tt

    -- ---- a line of the transaction
    module _ (a : ActorId) (log : List Line) (sound : Sound t) (k : TransactionGoes p t lines) where
      -- it is about the command, whichever object it gives the name to
      pub line_about : IsLike t.change change → (told : Told) (line : Line) → Led t.stage p c change lines → IsNextLine a (next_change t.stage (length log) t) told line → IsAbout p c line lines
      line_about like told line led is = about_next p c lines t a told line log sound k.tells (led_like p c t.change change lines like t.stage led) is

      begins_named : t.change ≡ change → t.stage ≡ Beginning → KeepsTo p c (Begin a (numbered (length log) t.change)) (length log) lines
      begins_named of now = (
        (subst (λ (stage : Stage). During stage p.shape t lines) now k.tells.during).idle.unbegun,
        subst (λ (x : Change). Names p c lines (length log) (numbered (length log) x)) (sym of) (record { object = dir; led = place; named = named_is job w.path dir.gfid (length log) }),
      )

      line_keeps : t.change ≡ change → (told : Told) (line : Line) → IsNextLine a (next_change t.stage (length log) t) told line → KeepsTo p c line (length log) lines
      line_keeps of told line is = each_line t a log (λ (x : Line). KeepsTo p c x (length log) lines) (λ stage b told took now. keeps_request p c lines t a (length log) stage b told took) (begins_named of) told line is

    pub change_line : (a : ActorId) (log : List Line) → Sound t → t.change ≡ change → TransactionGoes p t lines → (told : Told) (line : Line) → Led t.stage p c change lines → IsNextLine a (next_change t.stage (length log) t) told line
        → IsAbout p c line lines × KeepsTo p c line (length log) lines
    change_line a log sound of k told line led is = (line_about a log sound k (like_same t.change change of) told line led is, line_keeps a log sound k of told line is)

    -- ---- the read of the name
    module _ (a : ActorId) (log : List Line) (b : BrickId) (sound : Sound t) (like : IsLike t.change change) (reads : HasReader t (Unread b)) (k : TransactionGoes p t lines) (n : IsUnread p c dir lines) (at_begin : is_beginning t.stage ≡ true) where
      d : During Beginning p.shape t lines
      d = subst (λ (stage : Stage). During stage p.shape t lines) (begins_at t.stage at_begin) k.tells.during

      object_same : object_of t.change ≡ dir.gfid
      object_same = like.object ∙ object_is dir.gfid job

      -- the copy that is asked is a good one
      shown : t.register.looked ≡ looked_by dir.gfid lines
      shown = d.looks.shows ∙ ap (λ (g : Gfid). looked_by g lines) object_same

      is_good : member (good_copies t.register.shape t.register.looked kind_named.Names) b.0 ≡ true
      is_good = reads at_begin

      small : b.0 < 5
      small = good_below t.register.shape t.register.looked kind_named.Names b.0 is_good

      passed : by_locks p.shape (kind_for change) (area_for change) lines ≡ None
      passed = passed_like p t.change change lines like (passes p lines t sound k.tells d.allows)

      pub name_line : (told : Told) (took : Bool) → IsAbout p c (Ask a b (reads_name job w) told took) lines × KeepsTo p c (Ask a b (reads_name job w) told took) (length log) lines
      name_line told took = (
        record {
          unbegun = d.idle.unbegun;
          goes_on = refused_by_locks p job w.path dir lines place directory n.unrefused (free_unread n) ∙ passed;
          answered = subst (λ (g : Gfid). is_majority p.shape.n (looked_by g lines).reached ≡ true) object_same d.allows.quorum.reached;
          good =
              subst (λ (x : Looked). member (good_copies p.shape x kind_named.Names) b.0 ≡ true) shown
              (subst (λ (x : Shape). member (good_copies x t.register.looked kind_named.Names) b.0 ≡ true) k.tells.shape_is is_good);
        },
        record {
          read = steps_of c;
          object = dir;
          stands = n.path;
          asked = refl;
          next = subst (λ (x : List NameId). slice_get x (steps_of c) ≡ Some (name_of job)) (sym (path_is job w.path))
              (subst (λ (x : ℕ). slice_get (w.path ++ name_of job ∷ []) x ≡ Some (name_of job)) (sym (steps_are job w.path)) (name_at w.path (name_of job)));
        },
      )

      -- after it
      abbrev pub more : Told → Bool → Work
      more told took = (Ask a b (reads_name job w) told took, log) ∷ lines

      abbrev pub after : Told → TransactionProgress
      after told = name_noted b job w told (length log) t

      pub name_goes : (told : Told) (took : Bool) → TransactionGoes p (after told) (more told took) × Sound (after told)
      name_goes told took = let h = reads_kept p lines t a b (reads_name job w) told took log small tt (begins_at t.stage at_begin) sound k.tells in (
        record { tells = h.tells; excused = h.excused k.excused; calm = h.calm k.calm; fitting = k.fitting },
        h.sound,
      )

      abbrev pub Left : Option Refusal → Told → Bool → Type 0
      Left why told took = ChangesName p c job dir (settled why (after told)) (found_by why) (more told took)

      pub left : (told : Told) (took : Bool) (why : Option Refusal) → NameTells (found_by why) p c job dir (more told took) → Left why told took
      left told took None name = record { place = place_more p job w.path dir (Ask a b (reads_name job w) told took) log lines place; directory = directory; unread = unread; name = name; on = (name_goes told took).0 }
      left told took (Some why) name = record {
        place = place_more p job w.path dir (Ask a b (reads_name job w) told took) log lines place;
        directory = directory;
        unread = unread;
        name = name;
        on = (gives_up p (more told took) (after told) (begins_at t.stage at_begin) (name_goes told took).1 (name_goes told took).0.tells).1;
      }

      pub name_given : (took : Bool) (entry : Option Entry) → entry_at dir.gfid (name_of job) (holds p log b.0) ≡ entry → WasGiven p c dir entry (more (told_by (answer.Entry entry)) took)
      name_given took entry e = record { path = rw (e, n.path) refl; unrefused = n.unrefused }

      by_rule : (took : Bool) (entry : Option Entry) → WasGiven p c dir entry (more (told_by (answer.Entry entry)) took) → (why : Option Refusal) → ruled_by job entry ≡ why
          → NameTells (found_by why) p c job dir (more (told_by (answer.Entry entry)) took)
      by_rule took entry g None e = record { entry = entry; rule = e; given = g }
      by_rule took entry g (Some why) e = ByName entry e g

      pub name_read : (heard : Answer) (took : Bool) → NameTold p b.0 dir.gfid (name_of job) log heard → Left (ruled_out job heard) (told_by heard) took
      name_read heard took (name_told.Found entry e f) =
          subst (λ (x : Answer). Left (ruled_out job x) (told_by x) took) (sym e) (left (told_by (answer.Entry entry)) took (ruled_by job entry) (by_rule took entry (name_given took entry f) (ruled_by job entry) refl))
      name_read heard took (name_told.Lost e) = subst (λ (x : Answer). Left (ruled_out job x) (told_by x) took) (sym e) (left (told_by answer.NotConnected) took (ruled_out job answer.NotConnected) (ByFault refl refl refl))
      name_read heard took (name_told.Fails e) = subst (λ (x : Answer). Left (ruled_out job x) (told_by x) took) (sym e) (left (told_by answer.Failed) took (ruled_out job answer.Failed) (ByFault refl refl refl))

    -- ---- so it is of a command with one path
    module _ (a : ActorId) (log : List Line) (b : BrickId) (sound : IsChanging w job t (Unread b)) (k : TransactionGoes p t lines) (n : IsUnread p c dir lines) (at_begin : is_beginning t.stage ≡ true) where
      like : IsLike t.change change
      like = like_same t.change change sound.of_job

      pub read_line : (told : Told) (took : Bool) → IsAbout p c (Ask a b (reads_name job w) told took) lines × KeepsTo p c (Ask a b (reads_name job w) told took) (length log) lines
      read_line told took = name_line a log b sound.sound like sound.reads k n at_begin told took

      pub goes_on : (told : Told) (took : Bool) → TransactionGoes p (name_noted b job w told (length log) t) ((Ask a b (reads_name job w) told took, log) ∷ lines) × Sound (name_noted b job w told (length log) t)
      goes_on told took = name_goes a log b sound.sound like sound.reads k n at_begin told took

      pub given : (took : Bool) (entry : Option Entry) → entry_at dir.gfid (name_of job) (holds p log b.0) ≡ entry → WasGiven p c dir entry ((Ask a b (reads_name job w) (told_by (answer.Entry entry)) took, log) ∷ lines)
      given took entry e = name_given a log b sound.sound like sound.reads k n at_begin took entry e

      pub read_more : (heard : Answer) (took : Bool) → NameTold p b.0 dir.gfid (name_of job) log heard
          → ChangesName p c job dir (settled (ruled_out job heard) (name_noted b job w (told_by heard) (length log) t)) (found_by (ruled_out job heard)) ((Ask a b (reads_name job w) (told_by heard) took, log) ∷ lines)
      read_more heard took told = name_read a log b sound.sound like sound.reads k n at_begin heard took told
