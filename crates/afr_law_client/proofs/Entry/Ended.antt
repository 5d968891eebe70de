-- The end of a command whose name was locked: its transaction's reply, or why its name ruled it out.
use Rattle.std.proofs.Common.{◌≡◌, ℕ, ◌+◌, Bool, true, false, [], Option, Some, None, length, refl, sym, ap, ◌∙◌, subst, arith, if◌then◌else◌, inl, inr}
use Rattle.afr_base.specs.Bricks.{is_nothing}
use Rattle.afr_discipline.specs.Tests.{ends_low}
use Rattle.afr_lines.specs.Areas.{area_for, kind_for}
use Rattle.afr_lines.specs.Work.{Work}
use Rattle.afr_lines.specs.declared.request.Area.{Area}
use Rattle.afr_lines.specs.declared.line.Next.TheVariants as next
use Rattle.afr_lines.specs.declared.reply.Reply.{Reply}
use Rattle.afr_lines.specs.declared.reply.Reply.TheVariants as reply
use Rattle.afr_object.specs.Tables.{is_dir, object_of}
use Rattle.afr_object.specs.declared.change.Change.{Change}
use Rattle.afr_object.specs.declared.entry.Entry.{Entry}
use Rattle.afr_plan.specs.declared.command.Command.{Command}
use Rattle.afr_plan.specs.declared.command.Command.TheVariants as command
use Rattle.afr_plan.specs.declared.plan.Plan.{Plan}
use Rattle.afr_model.specs.Answered.{IsAnswered, Refuses, by_posts, is_by_views}
use Rattle.afr_model.specs.Commands.{is_rmdir, path_of, steps_of}
use Rattle.afr_model.specs.Refusals.{by_locks, by_name, or_else, read_refused, refusal}
use Rattle.afr_model.specs.Showing.{Path, At, begins_attempt, has, locks, looked_by, path_by, refuses_read, root_entry}
use Rattle.afr_model.specs.Skipped.{AsksAll, SkipsNothing}
use Rattle.afr_model.specs.Standing.{looks_here, place_by}
use Rattle.afr_client_transaction.specs.Outcome.{reply_of}
use Rattle.afr_client_transaction.specs.Progress.{TransactionProgress, asks, is_over, next_at as next_change}
use Rattle.afr_client_transaction.specs.Sound.{Sound}
use Rattle.afr_client_transaction.specs.declared.stage.Stage.{Stage}
use Rattle.afr_client_transaction.specs.declared.stage.Stage.TheVariants.{Closing}
use Rattle.afr_client_walk.specs.declared.walk.Walk.{Walk}
use Rattle.afr_client_entry.specs.Job.{change_of, reply_to, ruled_by}
use Rattle.afr_client_entry.specs.declared.job.EntryJob.{EntryJob}
use Rattle.afr_client_entry.specs.declared.job.EntryJob.TheVariants.{Create, Mkdir, Unlink, Rmdir}
use Rattle.afr_client_entry.specs.declared.refusal.Refusal.{Refusal}
use Rattle.afr_client_entry.specs.declared.refusal.Refusal.TheVariants as refusal_of
use Rattle.afr_law_client.specs.About.{IsFitting}
use Rattle.afr_law_client.specs.GivenUp.{GaveUp, HasGivenUp}
use Rattle.afr_law_client.specs.Tells.{During, OnUnlocks, TooFew, Tried, Unfit}
use Rattle.afr_law_client.proofs.GivenUpLemmas.{given_up_ends}
use Rattle.afr_law_client.proofs.Over.{asks_all_for_locks, ends_answered, failed_by_brick, replies_exactly, skips_none}
use Rattle.afr_law_client.proofs.Small.{no_change}
use Rattle.afr_law_client.proofs.Write.Goes.{ended_stage}
use Rattle.afr_law_client.specs.Entry.EntryTelling.{ByFault, ByName, IsUnread, RulesOut, TransactionGoes, command_of}
use Rattle.afr_law_client.proofs.Entry.Begins.{ended}
use Rattle.afr_law_client.proofs.Entry.Under.{area_there, refused_by_locks}
use Rattle.afr_law_client.proofs.Entry.Words.{answer_is, given_refuses, given_told, low_is, refused_there}

-- what rules a job out is no reply by views
pub no_views : (why : Refusal) → is_by_views (reply_to why) ≡ false
no_views refusal_of.Failed = refl
no_views refusal_of.NoEntry = refl
no_views refusal_of.Exists = refl
no_views refusal_of.IsDir = refl
no_views refusal_of.NotDir = refl

-- the reply that the operation failed is that of a refused read alone
is_failed : (why : Refusal) → reply_to why ≡ reply.Failed → why ≡ refusal_of.Failed
is_failed refusal_of.Failed e = refl
is_failed refusal_of.NoEntry e = absurd (cc e)
is_failed refusal_of.Exists e = absurd (cc e)
is_failed refusal_of.IsDir e = absurd (cc e)
is_failed refusal_of.NotDir e = absurd (cc e)

-- where a path stands
abbrev object_in : Path → Entry
object_in (At read object) = object
object_in other = root_entry

-- the object of a transaction that has gone as far as it could was locked
pub was_locked : (p : Plan) (t : TransactionProgress) (lines : Work) → OnUnlocks p.shape t.change t.register.looked t.asked.looked_at lines → has (locks (object_of t.change)) lines ≡ true
was_locked p t lines (TooFew idle locked looks few none) = locked.locked
was_locked p t lines (Unfit idle locked looks most all unfit) = locked.locked
was_locked p t lines (Tried under whole) = under.allows.locked.locked

module _ (p : Plan) (job : EntryJob) (w : Walk) (lines : Work) (place : place_by p (command_of job w.path) lines ≡ At (steps_of (command_of job w.path)) w.object) (directory : is_dir w.object.what ≡ true) where
  abbrev c : Command
  c = command_of job w.path

  abbrev dir : Entry
  dir = w.object

  abbrev change : Change
  change = change_of dir.gfid job

  -- ---- no attempt was begun, and its name has led to no directory that it removes
  skips_before : (q : Command) → SkipsNothing p q lines → has begins_attempt lines ≡ false → (is_rmdir c ≡ true → (child : Entry) → path_by p lines ≡ At (length (path_of c)) child → is_dir child.what ≡ true → ⊥) → SkipsNothing p c lines
  skips_before q k unbegun none = record {
    looked = k.looked;
    locked = k.locked;
    child = λ is read d e name there leads found named. absurd (none is e leads found);
    carried = λ changed e. let no = no_change lines unbegun in absurd (cc (e, no));
  }

  no_further : (child : Entry) → At (steps_of c) dir ≡ At (length (path_of c)) child → ⊥
  no_further child e = ended p job w.path (steps_of c) (omega arith) dir child e

  -- ---- its name has ruled it out
  -- what it leads to is no directory that is removed
  no_child : (why : Refusal) → RulesOut p c job dir why lines → is_rmdir c ≡ true → (child : Entry) → path_by p lines ≡ At (length (path_of c)) child → is_dir child.what ≡ true → ⊥
  no_child why (ByFault e f lost) is child leads found = let h = sym lost ∙ leads in cc h
  no_child why (ByName None e g) is child leads found = let h = sym g.path ∙ leads in cc h
  no_child why (ByName (Some entry) e g) is child leads found =
      let same : At (steps_of c + 1) entry ≡ At (length (path_of c)) child = sym g.path ∙ leads in
      ruled job is e (subst (λ (x : Entry). is_dir x.what ≡ true) (sym (ap object_in same)) found)
    where
      ruled : (of : EntryJob) → is_rmdir (command_of of w.path) ≡ true → ruled_by of (Some entry) ≡ Some why → is_dir entry.what ≡ true → ⊥
      ruled (Create name) is e d = cc is
      ruled (Mkdir name) is e d = cc is
      ruled (Unlink name) is e d = cc is
      ruled (Rmdir name) is e d = go (is_dir entry.what) d e
        where
          go : (x : Bool) → x ≡ true → (if x then None else Some refusal_of.NotDir) ≡ Some why → ⊥
          go true d e = cc e
          go false d e = cc d

  pub refused : (why : Refusal) → RulesOut p c job dir why lines → by_locks p.shape (kind_for change) (area_for change) lines ≡ None → refusal p c lines ≡ Some (reply_to why)
  refused why k passed = refused_there p job w.path dir lines place directory ∙ locks_pass ∙ go k
    where
      locks_pass : or_else (read_refused lines) (or_else (by_locks p.shape (kind_for change) (area_for change) lines) (by_name p c dir (path_by p lines) lines)) ≡ or_else (read_refused lines) (by_name p c dir (path_by p lines) lines)
      locks_pass = ap (λ (x : Option Reply). or_else (read_refused lines) (or_else x (by_name p c dir (path_by p lines) lines))) passed

      go : RulesOut p c job dir why lines → or_else (read_refused lines) (by_name p c dir (path_by p lines) lines) ≡ Some (reply_to why)
      go (ByFault e f lost) = by_fault ∙ ap (λ (x : Refusal). Some (reply_to x)) (sym e)
        where
          by_fault : or_else (read_refused lines) (by_name p c dir (path_by p lines) lines) ≡ Some reply.Failed
          by_fault = rw f refl
      go (ByName entry e g) = free ∙ subst (λ (x : Path). by_name p c dir x lines ≡ Some (reply_to why)) (sym g.path) (given_refuses p job w.path dir lines entry why e)
        where
          free : or_else (read_refused lines) (by_name p c dir (path_by p lines) lines) ≡ by_name p c dir (path_by p lines) lines
          free = let none = g.unrefused in rw none refl

  pub by_read : (why : Refusal) → RulesOut p c job dir why lines → reply_to why ≡ reply.Failed → has refuses_read lines ≡ true
  by_read why (ByFault e f lost) same = f
  by_read why (ByName entry e g) same = absurd (given_told job entry (e ∙ ap (λ (x : Refusal). Some x) (is_failed why same)))

  -- ---- its transaction has gone as far as it could
  module _ (t : TransactionProgress) (sound : Sound t) (of : t.change ≡ change) where
    pub change_end : is_rmdir c ≡ false → TransactionGoes p t lines → has refuses_read lines ≡ false → by_name p c dir (path_by p lines) lines ≡ None → (at : ℕ) (said : Reply) → next_change t.stage at t ≡ next.End said → IsAnswered p c lines said
    change_end plain k unrefused free at said e =
        let over = ended_stage t.stage at t said e in
        let locked = was_locked p t lines (subst (λ (x : Stage). During x p.shape t lines) over.0 k.tells.during) in
        subst (λ (x : Reply). IsAnswered p c lines x) over.1
        (ends_answered p c lines t sound k.tells over.0 (record { low = subst (λ (x : Change). ends_low x ≡ true) (sym of) (low_is dir.gfid job); fits = k.fitting locked }) k.calm (record {
          object = dir;
          led = place;
          area = area_there p job w.path dir lines place directory ∙ ap (λ (x : Change). Some (area_for x)) (sym of);
          refuses = refused_by_locks p job w.path dir lines place directory unrefused free ∙ ap (λ (x : Change). by_locks p.shape (kind_for x) (area_for x) lines) (sym of);
          answers = answer_is p job w.path lines;
          plain = plain;
        }))

    -- its locks or looks have failed
    pub unread_end : TransactionGoes p t lines → IsUnread p c dir lines → by_name p c dir (path_by p lines) lines ≡ None → (at : ℕ) (said : Reply) → next_change t.stage at t ≡ next.End said → IsAnswered p c lines said
    unread_end k n free at said e =
        let over = ended_stage t.stage at t said e in
        let locked = was_locked p t lines (subst (λ (x : Stage). During x p.shape t lines) over.0 k.tells.during) in
        let fitting : IsFitting p.shape.n t.change (looked_by (object_of t.change) lines) = record { low = subst (λ (x : Change). ends_low x ≡ true) (sym of) (low_is dir.gfid job); fits = k.fitting locked } in
        subst (λ (x : Reply). IsAnswered p c lines x) over.1 (record {
          caused = Refuses (by_locks_alone over.0 fitting);
          asked = λ views. subst (λ (x : Option Area). AsksAll p.shape.n (looks_here c (place_by p c lines)) x lines) (sym (area_there p job w.path dir lines place directory ∙ ap (λ (x : Change). Some (area_for x)) (sym of))) (asks_all_for_locks p lines t k.tells over.0);
          failed = λ f. inl (failed_by_brick p lines t sound k.tells over.0 fitting k.calm f);
          undisturbed = λ begun calm. let no = n.unbegun in absurd (cc (begun, no));
          whole = skips_before (command.Ls []) (skips_none p (command.Ls []) lines t k.tells over.0 refl) n.unbegun (λ is child leads found. no_further child (sym n.path ∙ leads));
        })
      where
        none_posted : by_posts p.shape lines ≡ None
        none_posted = let no = n.unbegun in rw no refl

        or_none : (x : Option Reply) → or_else x None ≡ x
        or_none None = refl
        or_none (Some y) = refl

        by_locks_alone : t.stage ≡ Closing → IsFitting p.shape.n t.change (looked_by (object_of t.change) lines) → refusal p c lines ≡ Some (reply_of t.change t.register)
        by_locks_alone closed fitting =
            refused_by_locks p job w.path dir lines place directory n.unrefused free
            ∙ ap (λ (x : Change). by_locks p.shape (kind_for x) (area_for x) lines) (sym of)
            ∙ sym (ap (λ (x : Option Reply). or_else (by_locks p.shape (kind_for t.change) (area_for t.change) lines) x) none_posted ∙ or_none (by_locks p.shape (kind_for t.change) (area_for t.change) lines))
            ∙ replies_exactly p lines t sound k.tells closed fitting

    ruled_out : (why : Refusal) → RulesOut p c job dir why lines → HasGivenUp p lines t → IsAnswered p c lines (reply_to why)
    ruled_out why k g = record {
      caused = Refuses (refused why k (subst (λ (x : Change). by_locks p.shape (kind_for x) (area_for x) lines ≡ None) of g.passes));
      asked = λ h. let no = no_views why in absurd (cc (h, no));
      failed = λ h. inr (by_read why k h);
      undisturbed = λ h calm. let no = g.unbegun in absurd (cc (h, no));
      whole = skips_before (command.Ls []) (g.skips (command.Ls []) refl) g.unbegun (no_child why k);
    }

    -- the reply is said once no lock is left
    pub refused_end : (why : Refusal) → RulesOut p c job dir why lines → GaveUp p lines t → (at : ℕ) (said : Reply) → (if is_over t.stage t then next.End (reply_to why) else next_change t.stage at t) ≡ next.End said → IsAnswered p c lines said
    refused_end why k g at said e = go t.stage g.closing e
      where
        answered : IsAnswered p c lines (reply_to why)
        answered = ruled_out why k (given_up_ends p lines t g)

        by_held : (x : Bool) → (if x then next.End (reply_to why) else (if x then next.End (reply_of t.change t.register) else asks Closing t)) ≡ next.End said → IsAnswered p c lines said
        by_held true f = let same : reply_to why ≡ said = cc f in subst (λ (y : Reply). IsAnswered p c lines y) same answered
        by_held false f = absurd (cc f)

        go : (stage : Stage) → stage ≡ Closing → (if is_over stage t then next.End (reply_to why) else next_change stage at t) ≡ next.End said → IsAnswered p c lines said
        go Closing h f = by_held (is_nothing t.register.held) f
        go stage h f = absurd (cc h)
