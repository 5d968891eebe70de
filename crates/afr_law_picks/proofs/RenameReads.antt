-- Whom a rename asks for its names is a copy that the rule picked by the last looks of the whole work; and no reply of its is a stat's.
use Rattle.std.proofs.Common.{◌≡◌, ℕ, ◌≤◌, Bool, true, false, List, refl, sym, subst, if◌then◌else◌}
use Rattle.afr_base.specs.declared.ids.ActorId.{ActorId}
use Rattle.afr_base.specs.declared.ids.BrickId.{BrickId}
use Rattle.afr_base.specs.declared.ids.NameId.{NameId}
use Rattle.afr_base.specs.declared.ids.Shape.{Shape}
use Rattle.afr_client_entry.specs.Job.{reply_to}
use Rattle.afr_client_entry.specs.declared.stage.Found.{Found}
use Rattle.afr_client_entry.specs.declared.stage.Found.TheVariants.{Fits, Refused, Unread}
use Rattle.afr_law_client.specs.Entry.EntryTelling.{OnChange}
use Rattle.afr_law_client.specs.Read.WalkTelling.{TellsAt}
use Rattle.afr_lines.specs.Work.{Work, work}
use Rattle.afr_lines.specs.declared.answer.Told.{Told}
use Rattle.afr_lines.specs.declared.line.Line.{Line}
use Rattle.afr_lines.specs.declared.line.Line.TheVariants.{Ask}
use Rattle.afr_lines.specs.declared.line.Next.TheVariants as next
use Rattle.afr_lines.specs.declared.reply.Good.TheVariants as good
use Rattle.afr_lines.specs.declared.reply.Reply.{Reply}
use Rattle.afr_lines.specs.declared.reply.Reply.TheVariants as reply
use Rattle.afr_lines.specs.declared.request.Request.{Request}
use Rattle.afr_model.specs.Chosen.{Picks, ReadsPicked}
use Rattle.afr_model.specs.Parts.{the_make, the_removal}
use Rattle.afr_model.specs.Showing.{has, locks, looked_by}
use Rattle.afr_object.specs.Tables.{object_of}
use Rattle.afr_object.specs.declared.change.Change.{Change}
use Rattle.afr_plan.specs.declared.command.Command.{Command}
use Rattle.afr_plan.specs.declared.command.Command.TheVariants as command
use Rattle.afr_plan.specs.declared.plan.Plan.{Plan}
use Rattle.afr_law_picks.proofs.Asks.{ask_same, end_same}
use Rattle.afr_law_picks.proofs.Entry.{refusal_ends}
use Rattle.afr_law_picks.proofs.Rename.{locked_there, looks_same}
use Rattle.afr_law_picks.proofs.Walk.{walk_reads}
use Rattle.afr_law_picks.proofs.Write.{change_ends, change_reads}
use Rattle.afr_law_picks.specs.Picked.{PickedEnd, PickedRename, PickedStep, PickedUnder}
use Rattle.afr_client_entry.specs.Renames.Against.{half_reply, is_acknowledged}
use Rattle.afr_client_entry.specs.Renames.Paths.{reads_new, reads_old}
use Rattle.afr_client_entry.specs.Renames.Rename.{IsRename, Renaming, is_done, next_at, next_of, turned}
use Rattle.afr_client_entry.specs.Renames.Under.{next_under}
use Rattle.afr_client_entry.specs.declared.renaming.stage.RenameStage.{RenameStage}
use Rattle.afr_client_entry.specs.declared.renaming.stage.RenameStage.TheVariants.{Ending, Finding, Making, Removing, Walking}
use Rattle.afr_law_client.proofs.Rename.Looks.{make_looks, removal_looks, walk_looks}
use Rattle.afr_law_client.specs.Rename.RenameTelling.{RenameTells, TellsIn}
use Rattle.afr_client_transaction.specs.Outcome.{outcome_of}
use Rattle.afr_client_transaction.specs.Progress as transaction
use Rattle.afr_client_transaction.specs.Progress.{TransactionProgress, is_beginning, is_over}
use Rattle.afr_client_transaction.specs.declared.stage.Stage.TheVariants.{Locking}
use Rattle.afr_client_walk.specs.Walk.{is_walking, next_in}
use Rattle.afr_client_walk.specs.Walk as walks
use Rattle.afr_client_walk.specs.declared.walk.WalkStep.{WalkStep}
use Rattle.afr_client_walk.specs.declared.walk.WalkStep.TheVariants as walking

module _ (picks : Picks) (p : Plan) (m : Renaming) (a : ActorId) (log : List Line) where
  abbrev own : List NameId
  own = m.paths.first.path

  abbrev lines : Work
  lines = work a.0 log

  -- ---- by the looks of the work
  module _ (b : BrickId) (request : Request) (told : Told) (took : Bool) where
    abbrev Reads : BrickId → Request → Type 0
    Reads y r = ReadsPicked picks p (Ask a y r told took) log

    -- the second walk
    second_reads : (few : p.shape.n ≤ 5) → TellsIn p Walking m.paths lines → is_walking m.paths.second.step ≡ true → PickedRename picks p Walking m.paths lines → Reads (next_in m.paths.second).0 (next_in m.paths.second).1
    second_reads few k moving was = by m.paths.second.step moving k.tells.tells.step was
      where
        by : (step : WalkStep) → is_walking step ≡ true → TellsAt p (command.Ls m.paths.second.path) step m.paths.second.read m.paths.second.object (the_make own lines) → PickedStep picks p step m.paths.second.object.gfid (the_make own lines)
            → Reads (walks.next_at step m.paths.second).0 (walks.next_at step m.paths.second).1
        by (walking.Looking s) h t was = tt
        by (walking.Naming copy) h (goes, dir, source, all) was = λ client. looks_same picks p m.paths.second.object.gfid (the_make own lines) lines copy.0 (sym (walk_looks p.shape.n own lines m.paths.second.object.gfid few k.on.first k.on.walked.goes.only goes.only all source.answered)) was
        by walking.Arrived h t was = absurd (cc h)
        by (walking.Stopped why) h t was = absurd (cc h)

    -- under the locks of a name: before the attempt it is read
    under_reads : (found : Found) (asked : Request) (t : TransactionProgress) (at : ℕ) → ((copy : BrickId) → found ≡ Unread copy → is_beginning t.stage ≡ true → Reads copy asked) → next_under found at asked t ≡ next.Ask b request → Reads b request
    under_reads Fits asked t at reads e = change_reads picks p t t.stage at a b request told took log e
    under_reads (Unread copy) asked t at reads e = go (is_beginning t.stage) (λ f. reads copy refl f) e
      where
        go : (x : Bool) → (x ≡ true → Reads copy asked) → (if x then next.Ask copy asked else transaction.next_at t.stage at t) ≡ next.Ask b request → Reads b request
        go true reads e = ask_same Reads copy b asked request e (reads refl)
        go false reads e = change_reads picks p t t.stage at a b request told took log e
    under_reads (Refused why) asked t at reads e = go (is_over t.stage t) e
      where
        go : (x : Bool) → (if x then next.End (reply_to why) else transaction.next_at t.stage at t) ≡ next.Ask b request → Reads b request
        go true e = absurd (cc e)
        go false e = change_reads picks p t t.stage at a b request told took log e

    -- before it begins, the directory was locked in the part
    make_same : (t : TransactionProgress) (found : Found) → TellsIn p (Making t found) m.paths lines → IsRename m.paths (Making t found) → (copy : BrickId) → found ≡ Unread copy → is_beginning t.stage ≡ true → looked_by m.paths.second.object.gfid (the_make own lines) ≡ looked_by m.paths.second.object.gfid lines
    make_same t found k sound copy unread e = sym (make_looks own lines m.paths.second.object.gfid k.on.first (subst (λ (c : Change). has (locks (object_of c)) (the_make own lines) ≡ true) sound.sound.under.of (on found k.tells.on unread)))
      where
        on : (f : Found) → OnChange f p t (the_make own lines) → f ≡ Unread copy → has (locks (object_of t.change)) (the_make own lines) ≡ true
        on (Unread b) h f = locked_there p (the_make own lines) t h.0.tells e
        on Fits h f = absurd (cc f)
        on (Refused why) h f = absurd (cc f)

    removal_same : (t : TransactionProgress) (found : Found) → TellsIn p (Removing t found) m.paths lines → IsRename m.paths (Removing t found) → (copy : BrickId) → found ≡ Unread copy → is_beginning t.stage ≡ true → looked_by m.paths.dir (the_removal own lines) ≡ looked_by m.paths.dir lines
    removal_same t found k sound copy unread e = sym (removal_looks own lines m.paths.dir k.walked.unlocked (subst (λ (c : Change). has (locks (object_of c)) (the_removal own lines) ≡ true) sound.sound.under.of (on found k.tells.on unread)))
      where
        on : (f : Found) → OnChange f p t (the_removal own lines) → f ≡ Unread copy → has (locks (object_of t.change)) (the_removal own lines) ≡ true
        on (Unread b) h f = locked_there p (the_removal own lines) t h.0.tells e
        on Fits h f = absurd (cc f)
        on (Refused why) h f = absurd (cc f)

    makes_reads : (t : TransactionProgress) (found : Found) (at : ℕ) → TellsIn p (Making t found) m.paths lines → IsRename m.paths (Making t found) → next_at at (Making t found) m.paths ≡ next.Ask b request → PickedRename picks p (Making t found) m.paths lines → Reads b request
    makes_reads t found at k sound e was = go (is_done t) e
      where
        go : (done : Bool) → (if done then transaction.next_at Locking at (turned m.paths t) else next_under found at (reads_new m.paths) t) ≡ next.Ask b request → Reads b request
        go true e = change_reads picks p (turned m.paths t) Locking at a b request told took log e
        go false e =
            under_reads found (reads_new m.paths) t at
            (λ copy f g client. looks_same picks p m.paths.second.object.gfid (the_make own lines) lines copy.0 (make_same t found k sound copy f g) (subst (λ (x : Found). PickedUnder picks p m.paths.second.object.gfid t x (the_make own lines)) f was g)) e

    removes_reads : (t : TransactionProgress) (found : Found) (at : ℕ) → TellsIn p (Removing t found) m.paths lines → IsRename m.paths (Removing t found) → next_at at (Removing t found) m.paths ≡ next.Ask b request → PickedRename picks p (Removing t found) m.paths lines → Reads b request
    removes_reads t found at k sound e was = go (is_over t.stage t) e
      where
        go : (over : Bool) → (if over then next.End (half_reply (outcome_of t.change t.register)) else next_under found at (reads_old m.paths) t) ≡ next.Ask b request → Reads b request
        go true e = absurd (cc e)
        go false e =
            under_reads found (reads_old m.paths) t at
            (λ copy f g client. looks_same picks p m.paths.dir (the_removal own lines) lines copy.0 (removal_same t found k sound copy f g) (subst (λ (x : Found). PickedUnder picks p m.paths.dir t x (the_removal own lines)) f was g)) e

    pub rename_reads : (c : Command) (at : ℕ) → IsRename m.paths m.stage → RenameTells p c m lines → next_of at m ≡ next.Ask b request → PickedRename picks p m.stage m.paths lines → Reads b request
    rename_reads c at sound k e was = by m.stage sound k.stage e was
      where
        few : p.shape.n ≤ 5
        few = subst (λ (x : Shape). x.n ≤ 5) k.shape sound.paths.first.few

        by : (stage : RenameStage) → IsRename m.paths stage → TellsIn p stage m.paths lines → next_at at stage m.paths ≡ next.Ask b request → PickedRename picks p stage m.paths lines → Reads b request
        by Finding sound k e was = ask_same Reads (next_in m.paths.first).0 b (next_in m.paths.first).1 request e (walk_reads picks p m.paths.first a told took log sound.sound was)
        by Walking sound k e was = ask_same Reads (next_in m.paths.second).0 b (next_in m.paths.second).1 request e (second_reads few k sound.sound.0 was)
        by (Making t found) sound k e was = makes_reads t found at k sound e was
        by (Removing t found) sound k e was = removes_reads t found at k sound e was
        by (Ending said) sound k e was = absurd (cc e)

-- ---- what it ends with
module _ (picks : Picks) (p : Plan) (m : Renaming) (lines : Work) (said : Reply) (at : ℕ) where
  under_ends : (found : Found) (asked : Request) (t : TransactionProgress) → next_under found at asked t ≡ next.End said → PickedEnd picks p said lines
  under_ends Fits asked t e = change_ends picks p t t.stage at said lines e
  under_ends (Unread copy) asked t e = go (is_beginning t.stage) e
    where
      go : (x : Bool) → (if x then next.Ask copy asked else transaction.next_at t.stage at t) ≡ next.End said → PickedEnd picks p said lines
      go true e = absurd (cc e)
      go false e = change_ends picks p t t.stage at said lines e
  under_ends (Refused why) asked t e = go (is_over t.stage t) e
    where
      go : (x : Bool) → (if x then next.End (reply_to why) else transaction.next_at t.stage at t) ≡ next.End said → PickedEnd picks p said lines
      go true e = end_same (λ x. PickedEnd picks p x lines) (reply_to why) said e (refusal_ends picks p why lines)
      go false e = change_ends picks p t t.stage at said lines e

  half_ends : (done : Bool) → PickedEnd picks p (if done then reply.Ok good.Done else reply.Half) lines
  half_ends true = tt
  half_ends false = tt

  pub rename_ends : next_of at m ≡ next.End said → PickedRename picks p m.stage m.paths lines → PickedEnd picks p said lines
  rename_ends e was = by m.stage e was
    where
      making : (t : TransactionProgress) (found : Found) (done : Bool) → (if done then transaction.next_at Locking at (turned m.paths t) else next_under found at (reads_new m.paths) t) ≡ next.End said → PickedEnd picks p said lines
      making t found true e = change_ends picks p (turned m.paths t) Locking at said lines e
      making t found false e = under_ends found (reads_new m.paths) t e

      removing : (t : TransactionProgress) (found : Found) (over : Bool) → (if over then next.End (half_reply (outcome_of t.change t.register)) else next_under found at (reads_old m.paths) t) ≡ next.End said → PickedEnd picks p said lines
      removing t found true e = end_same (λ x. PickedEnd picks p x lines) (half_reply (outcome_of t.change t.register)) said e (half_ends (is_acknowledged (outcome_of t.change t.register)))
      removing t found false e = under_ends found (reads_old m.paths) t e

      by : (stage : RenameStage) → next_at at stage m.paths ≡ next.End said → PickedRename picks p stage m.paths lines → PickedEnd picks p said lines
      by Finding e was = absurd (cc e)
      by Walking e was = absurd (cc e)
      by (Making t found) e was = making t found (is_done t) e
      by (Removing t found) e was = removing t found (is_over t.stage t) e
      by (Ending saying) e was = end_same (λ x. PickedEnd picks p x lines) saying said e was
