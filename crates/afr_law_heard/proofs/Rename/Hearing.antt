-- A client hears what its rename asks of the bricks' answers, by where the rename stands.
use Rattle.std.proofs.Common.{◌≡◌, ℕ, ◌==◌, Bool, true, false, arith, List, Option, Some, None, length, refl, sym, ap, ◌∙◌, subst, if◌then◌else◌}
use Rattle.afr_base.specs.declared.ids.ActorId.{ActorId}
use Rattle.afr_base.specs.declared.ids.BrickId.{BrickId}
use Rattle.afr_base.specs.declared.ids.NameId.{NameId}
use Rattle.afr_lines.specs.Told.{told_by}
use Rattle.afr_lines.specs.Work.{Work, work}
use Rattle.afr_lines.specs.declared.answer.Answer.{Answer}
use Rattle.afr_lines.specs.declared.answer.Answer.TheVariants as answer
use Rattle.afr_lines.specs.declared.line.Line.{Line}
use Rattle.afr_lines.specs.declared.line.Next.TheVariants as next
use Rattle.afr_lines.specs.declared.request.Request.{Request}
use Rattle.afr_lines.specs.declared.request.Request.TheVariants.{ReadName}
use Rattle.afr_object.specs.Tables.{copy_at, object_of, view_of}
use Rattle.afr_object.specs.declared.change.Change.{Change}
use Rattle.afr_object.specs.declared.entry.Entry.{Entry}
use Rattle.afr_object.specs.Object.{Object}
use Rattle.afr_plan.specs.declared.command.Command.{Command}
use Rattle.afr_plan.specs.declared.command.Command.TheVariants as command
use Rattle.afr_plan.specs.declared.plan.Plan.{Plan}
use Rattle.afr_model.specs.Following.{Follows}
use Rattle.afr_model.specs.Honest.{copy_answer}
use Rattle.afr_model.specs.Parts.{the_make, the_removal}
use Rattle.afr_model.specs.Showing.{At, path_by}
use Rattle.afr_model.specs.Tables.{holds}
use Rattle.afr_law_names.specs.Numbered.{EntriesAreNumbered}
use Rattle.afr_client_walk.specs.Walk as walk
use Rattle.afr_client_walk.specs.Walk.{is_walking, next_in}
use Rattle.afr_client_walk.specs.declared.walk.Walk.{Walk}
use Rattle.afr_client_walk.specs.declared.walk.WalkStep.{WalkStep}
use Rattle.afr_client_walk.specs.declared.walk.WalkStep.TheVariants as walking
use Rattle.afr_client_transaction.specs.Outcome.{outcome_of}
use Rattle.afr_client_transaction.specs.Progress.{TransactionProgress, is_over, next_at as next_change}
use Rattle.afr_client_transaction.specs.declared.stage.Stage.TheVariants.{Locking}
use Rattle.afr_client_entry.specs.Job.{reply_to}
use Rattle.afr_client_entry.specs.declared.job.EntryJob.{EntryJob}
use Rattle.afr_client_entry.specs.declared.job.EntryJob.TheVariants.{Create}
use Rattle.afr_client_entry.specs.declared.stage.Found.{Found}
use Rattle.afr_client_entry.specs.declared.stage.Found.TheVariants.{Unread, Fits, Refused}
use Rattle.afr_law_client.specs.Read.Lines.{CanAnswer, is_look}
use Rattle.afr_law_client.specs.Read.WalkTelling.{TellsAt}
use Rattle.afr_law_client.proofs.Read.ReadsMore.{asks_same}
use Rattle.afr_law_client.specs.Write.WriteTelling.{CanTell}
use Rattle.afr_law_client.proofs.Write.Goes.{asked_stage}
use Rattle.afr_law_client.specs.Entry.EntryTelling.{CanHearUnder, NameTells, OnChange}
use Rattle.afr_law_client.proofs.Entry.Names.{name_told}
use Rattle.afr_law_client.proofs.Entry.Removing.{shown}
use Rattle.afr_client_entry.specs.Renames.Against.{half_reply}
use Rattle.afr_client_entry.specs.Renames.Paths.{making_of, reads_new, reads_old, removal_of}
use Rattle.afr_client_entry.specs.Renames.Rename.{IsMaking, IsRemoving, IsSound, is_done, next_at, turned}
use Rattle.afr_client_entry.specs.Renames.Under.{IsUnder, next_under}
use Rattle.afr_client_entry.specs.declared.renaming.paths.Paths.{Paths}
use Rattle.afr_client_entry.specs.declared.renaming.stage.RenameStage.{RenameStage}
use Rattle.afr_client_entry.specs.declared.renaming.stage.RenameStage.TheVariants.{Finding, Walking, Making, Removing, Ending}
use Rattle.afr_law_client.specs.Rename.RenameTelling.{CanFind, CanHear, CanHearMaking, MakesNewName, OldTells, Removes, TellsIn, old_dir, to_of}
use Rattle.afr_law_heard.specs.Hears.{IsHeard}
use Rattle.afr_law_heard.proofs.Hearing.{step_there}
use Rattle.afr_law_heard.proofs.SomeLines.{AreIn, work_in}
use Rattle.afr_law_heard.proofs.Told.{IsThere, can_answer}
use Rattle.afr_law_heard.proofs.Entry.Under.{fits_hears, refused_hears, told_without, unread_hears}
use Rattle.afr_law_heard.proofs.Rename.PartLines.{make_in, removal_in}
use Rattle.afr_law_heard.specs.Rename.RenameHears.{RenameHears}

-- a look isn't answered with an entry
no_entry : (entry : Entry) (o : Option Object) → answer.Entry (Some entry) ≡ copy_answer (λ x. answer.Seen (view_of x)) o → ⊥
no_entry entry None e = cc e
no_entry entry (Some o) e = cc e

-- until the name is read the path has led to its directory
abbrev IsLedTo : Found → Plan → Entry → Work → Type 0
IsLedTo (Unread copy) p dir w = (read : ℕ) × (path_by p w ≡ At read dir)
IsLedTo found p dir w = Unit {0}

led_new : (found : Found) (p : Plan) (c : Command) (job : EntryJob) (dir : Entry) (w : Work) → NameTells found p c job dir w → IsLedTo found p dir w
led_new (Unread copy) p c job dir w k = (_, k.path)
led_new Fits p c job dir w k = tt
led_new (Refused why) p c job dir w k = tt

led_old : (found : Found) (p : Plan) (x : Paths) (w : Work) → OldTells found p x w → IsLedTo found p (old_dir x) w
led_old (Unread copy) p x w k = (_, k.path)
led_old Fits p x w k = tt
led_old (Refused why) p x w k = tt

module _ (p : Plan) (log : List Line) (a : ActorId) (b : BrickId) (request : Request) (heard : Answer) (took : Bool) (h : IsHeard p log a b request heard took) where
  -- ---- on the two walks
  can_walk : (c : Command) (lines : Work) → AreIn log lines → (w : Walk) → is_walking w.step ≡ true → TellsAt p c w.step w.read w.object lines → next.Ask (next_in w).0 (next_in w).1 ≡ next.Ask b request → CanAnswer p b.0 request log heard
  can_walk c lines is w going t e =
      can_answer p log a b request heard took h (asks_same (λ (y : BrickId) (r : Request). IsThere p log y.0 r) (next_in w).0 b (next_in w).1 request e (step_there p c log lines is w h.honest w.step going t))

  -- what a name leads to has a number
  module _ (numbers : EntriesAreNumbered) (w : Walk) where
    by_step : (step : WalkStep) → is_walking step ≡ true → CanAnswer p (walk.next_at step w).0.0 (walk.next_at step w).1 log heard → (entry : Entry) → heard ≡ answer.Entry (Some entry) → (entry.gfid.0 == 0) ≡ false
    by_step (walking.Looking s) going can entry is =
        let seen = can.given (ap told_by is) in
        absurd (no_entry entry (copy_at w.object.gfid (holds p log (walk.next_at (walking.Looking s) w).0.0)) (sym is ∙ seen))
    by_step (walking.Naming c) going can entry is =
        let named = name_told p c.0 w.object.gfid (walk.name_in w) log (answer.Entry (Some entry)) (subst (λ (y : Answer). CanAnswer p c.0 (ReadName w.object.gfid (walk.name_in w)) log y) is can) in
        numbers p log c.0 w.object.gfid (walk.name_in w) entry h.few (omega (arith, h.short)) h.honest h.lawful (shown p c.0 w.object.gfid (walk.name_in w) log entry named)
    by_step walking.Arrived going can entry is = absurd (cc going)
    by_step (walking.Stopped why) going can entry is = absurd (cc going)

    can_find : is_walking w.step ≡ true → next.Ask (next_in w).0 (next_in w).1 ≡ next.Ask b request → CanAnswer p b.0 request log heard → CanFind p b.0 request log heard
    can_find going e can = record {
      answers = can;
      numbered = asks_same (λ (y : BrickId) (r : Request). CanAnswer p y.0 r log heard → (entry : Entry) → heard ≡ answer.Entry (Some entry) → (entry.gfid.0 == 0) ≡ false) (next_in w).0 b (next_in w).1 request e
          (λ k entry is. by_step w.step going k entry is) can;
    }

  -- ---- under the locks
  under : (crawl : Bool) → Follows crawl p log → (lines : Work) → AreIn log lines → (dir : Entry) (name : NameId) (change : Change) → object_of change ≡ dir.gfid → (t : TransactionProgress) (found : Found) → IsUnder change t found → OnChange found p t lines → IsLedTo found p dir lines
      → next_under found (length log) (ReadName dir.gfid name) t ≡ next.Ask b request → CanHearUnder found t.stage p dir b.0 request log heard
  under crawl follows lines is dir name change of t (Unread copy) u on led e = unread_hears p log a b request heard took h crawl follows lines is dir name t (ap object_of u.of ∙ of) on.0.tells led.0 led.1 copy u.reads e
  under crawl follows lines is dir name change of t Fits u on led e = fits_hears p log a b request heard took h dir t u.in_turn e
  under crawl follows lines is dir name change of t (Refused why) u on led e = refused_hears p log a b request heard took h dir t why u.in_turn (reply_to why) e

  -- a lock of the old name shows nothing
  can_turn : (x : Paths) (t : TransactionProgress) → next_change Locking (length log) (turned x t) ≡ next.Ask b request → CanTell (old_dir x) request (told_by heard)
  can_turn x t e = told_without p log a b request heard took h (old_dir x) (subst (λ (r : Request). is_look r ≡ false) (asked_stage Locking (length log) (turned x t) b request e).1 refl)

  making : (crawl : Bool) → Follows crawl p log → (x : Paths) (t : TransactionProgress) (found : Found) → IsMaking x t found → MakesNewName p x t found (work a.0 log) → next_at (length log) (Making t found) x ≡ next.Ask b request → CanHear (Making t found) p x b.0 request log heard
  making crawl follows x t found sound k e = go (is_done t) e
    where
      go : (done : Bool) → (if done then next_change Locking (length log) (turned x t) else next_under found (length log) (reads_new x) t) ≡ next.Ask b request
          → CanHearMaking done found t.stage p x b.0 request log heard
      go true e = can_turn x t e
      go false e =
          under crawl follows (the_make x.first.path (work a.0 log)) (make_in log x.first.path (work a.0 log) (work_in a.0 log)) x.second.object x.new_name (making_of x x.second.object.gfid) refl t found sound.under k.tells.on
          (led_new found p (command.Create (to_of x)) (Create x.new_name) x.second.object (the_make x.first.path (work a.0 log)) k.tells.name) e

  removing : (crawl : Bool) → Follows crawl p log → (x : Paths) (t : TransactionProgress) (found : Found) → IsRemoving x t found → Removes p x t found (work a.0 log) → next_at (length log) (Removing t found) x ≡ next.Ask b request → CanHear (Removing t found) p x b.0 request log heard
  removing crawl follows x t found sound k e = go (is_over t.stage t) e
    where
      go : (over : Bool) → (if over then next.End (half_reply (outcome_of t.change t.register)) else next_under found (length log) (reads_old x) t) ≡ next.Ask b request → CanHearUnder found t.stage p (old_dir x) b.0 request log heard
      go true e = absurd (cc e)
      go false e =
          under crawl follows (the_removal x.first.path (work a.0 log)) (removal_in log x.first.path (work a.0 log) (work_in a.0 log)) (old_dir x) x.old_name (removal_of x) refl t found sound.under k.tells.on
          (led_old found p x (the_removal x.first.path (work a.0 log)) k.tells.name) e

pub rename_hears : EntriesAreNumbered → RenameHears
rename_hears numbers p c m log a b request heard took sound k e h crawl follows = go m.stage sound.sound k.stage e
  where
    x : Paths
    x = m.paths

    go : (stage : RenameStage) → IsSound x stage → TellsIn p stage x (work a.0 log) → next_at (length log) stage x ≡ next.Ask b request → CanHear stage p x b.0 request log heard
    go Finding ready t e =
        can_find p log a b request heard took h numbers x.first ready e
        (can_walk p log a b request heard took h (command.Stat x.first.path) (work a.0 log) (work_in a.0 log) x.first ready t.tells.step e)
    go Walking ready t e =
        can_walk p log a b request heard took h (command.Ls x.second.path) (the_make x.first.path (work a.0 log)) (make_in log x.first.path (work a.0 log) (work_in a.0 log)) x.second ready.0 t.tells.tells.step e
    go (Making t found) ready told e = making p log a b request heard took h crawl follows x t found ready told e
    go (Removing t found) ready told e = removing p log a b request heard took h crawl follows x t found ready told e
    go (Ending said) ready t e = tt
