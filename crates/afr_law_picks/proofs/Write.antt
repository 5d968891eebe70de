-- A write, a cut or a setattr reads the names of its path alone, each at a copy that the rule picked.
use Rattle.std.proofs.Common.{◌≡◌, ℕ, Bool, true, false, List, [], ◌∷◌, Option, refl, sym, subst, length, ◌&&◌, if◌then◌else◌}
use Rattle.afr_base.specs.Bricks.{is_nothing}
use Rattle.afr_base.specs.declared.ids.ActorId.{ActorId}
use Rattle.afr_base.specs.declared.ids.BrickId.{BrickId}
use Rattle.afr_base.specs.declared.ids.NameId.{NameId}
use Rattle.afr_client_write.specs.Job.{change_of, is_empty, is_of_bytes, is_too_large}
use Rattle.afr_client_write.specs.Write.{IsWrite, IsStage, Write, after_step, after_walk, answered, at_object, choices_at, next_at, next_of, stage_after, stage_begun, walk_after, write_from}
use Rattle.afr_client_write.specs.declared.job.WriteJob.{WriteJob}
use Rattle.afr_client_write.specs.declared.stage.WriteStage.{WriteStage}
use Rattle.afr_client_write.specs.declared.stage.WriteStage.TheVariants.{Changing, Ending, Walking}
use Rattle.afr_lines.specs.Told.{told_by}
use Rattle.afr_lines.specs.Work.{Work, work}
use Rattle.afr_lines.specs.declared.answer.Answer.{Answer}
use Rattle.afr_lines.specs.declared.answer.Told.{Told}
use Rattle.afr_lines.specs.declared.line.Line.{Line}
use Rattle.afr_lines.specs.declared.line.Line.TheVariants.{Ask, Begin}
use Rattle.afr_lines.specs.declared.line.Next.TheVariants as next
use Rattle.afr_lines.specs.declared.reply.Good.TheVariants as good
use Rattle.afr_lines.specs.declared.reply.Reply.{Reply}
use Rattle.afr_lines.specs.declared.reply.Reply.TheVariants as reply
use Rattle.afr_lines.specs.declared.request.Request.{Request}
use Rattle.afr_model.specs.Chosen.{Picks, ReadsPicked}
use Rattle.afr_object.specs.Tables.{is_dir}
use Rattle.afr_object.specs.declared.change.Change.{Change}
use Rattle.afr_plan.specs.declared.command.Command.{Command}
use Rattle.afr_plan.specs.declared.plan.Plan.{Plan}
use Rattle.afr_law_picks.proofs.Asks.{ask_same, end_same}
use Rattle.afr_law_picks.proofs.Read.{end_begun, stop_ends}
use Rattle.afr_law_picks.proofs.Rule.{Picked}
use Rattle.afr_law_picks.proofs.Walk.{walk_begins, walk_begun, walk_picked, walk_reads}
use Rattle.afr_law_picks.specs.Picked.{PickedEnd, PickedStep, PickedWalk, PickedWrite}
use Rattle.afr_client_transaction.specs.Outcome as outcome
use Rattle.afr_client_transaction.specs.Progress as transaction
use Rattle.afr_client_transaction.specs.Progress.{TransactionProgress, asks, starting}
use Rattle.afr_client_transaction.specs.declared.reply.TransactionOutcome.{TransactionOutcome}
use Rattle.afr_client_transaction.specs.declared.reply.TransactionOutcome.TheVariants as outcome_of
use Rattle.afr_client_transaction.specs.declared.stage.Stage.{Stage}
use Rattle.afr_client_transaction.specs.declared.stage.Stage.TheVariants as stages
use Rattle.afr_client_walk.specs.Choosing.{reader_of}
use Rattle.afr_client_walk.specs.Walk.{next_in, walk_from, walked}
use Rattle.afr_client_walk.specs.declared.walk.Walk.{Walk}
use Rattle.afr_client_walk.specs.declared.walk.WalkStep.{WalkStep}
use Rattle.afr_client_walk.specs.declared.walk.WalkStep.TheVariants as walking
use Rattle.afr_law_client.specs.Write.WriteTelling.{TellsIn, WriteTells}

module _ (picks : Picks) (p : Plan) where
  -- ---- a transaction reads nothing
  pub change_reads : (t : TransactionProgress) (stage : Stage) (at : ℕ) (a : ActorId) (b : BrickId) (request : Request) (told : Told) (took : Bool) (log : List Line) → transaction.next_at stage at t ≡ next.Ask b request
      → ReadsPicked picks p (Ask a b request told took) log
  change_reads t stages.Beginning at a b request told took log e = absurd (cc e)
  change_reads t stages.Locking at a b request told took log e = ask_same (λ x r. ReadsPicked picks p (Ask a x r told took) log) _ b _ request e tt
  change_reads t stages.Looking at a b request told took log e = ask_same (λ x r. ReadsPicked picks p (Ask a x r told took) log) _ b _ request e tt
  change_reads t stages.Preparing at a b request told took log e = ask_same (λ x r. ReadsPicked picks p (Ask a x r told took) log) _ b _ request e tt
  change_reads t stages.Applying at a b request told took log e = ask_same (λ x r. ReadsPicked picks p (Ask a x r told took) log) _ b _ request e tt
  change_reads t stages.Posting at a b request told took log e = ask_same (λ x r. ReadsPicked picks p (Ask a x r told took) log) _ b _ request e tt
  change_reads t stages.Closing at a b request told took log e = go (is_nothing t.register.held) e
    where
      go : (none : Bool) → (if none then next.End (outcome.reply_of t.change t.register) else asks stages.Closing t) ≡ next.Ask b request → ReadsPicked picks p (Ask a b request told took) log
      go true e = absurd (cc e)
      go false e = ask_same (λ x r. ReadsPicked picks p (Ask a x r told took) log) _ b _ request e tt

  -- and no reply of one is a stat's
  outcome_ends : (made : TransactionOutcome) (lines : Work) → PickedEnd picks p (outcome.reply_for made) lines
  outcome_ends outcome_of.Acknowledged lines = tt
  outcome_ends outcome_of.NoQuorum lines = tt
  outcome_ends outcome_of.FewCopies lines = tt
  outcome_ends (outcome_of.SplitBrain views) lines = tt
  outcome_ends outcome_of.Failed lines = tt

  pub change_ends : (t : TransactionProgress) (stage : Stage) (at : ℕ) (said : Reply) (lines : Work) → transaction.next_at stage at t ≡ next.End said → PickedEnd picks p said lines
  change_ends t stages.Closing at said lines e = go (is_nothing t.register.held) e
    where
      go : (none : Bool) → (if none then next.End (outcome.reply_of t.change t.register) else asks stages.Closing t) ≡ next.End said → PickedEnd picks p said lines
      go true e = end_same (λ x. PickedEnd picks p x lines) (outcome.reply_of t.change t.register) said e (outcome_ends (outcome.outcome_of t.change t.register) lines)
      go false e = absurd (cc e)
  change_ends t stages.Locking at said lines e = absurd (cc e)
  change_ends t stages.Looking at said lines e = absurd (cc e)
  change_ends t stages.Beginning at said lines e = absurd (cc e)
  change_ends t stages.Preparing at said lines e = absurd (cc e)
  change_ends t stages.Applying at said lines e = absurd (cc e)
  change_ends t stages.Posting at said lines e = absurd (cc e)

  -- ---- where a walk leaves the write
  arrived : (job : WriteJob) (w : Walk) (lines : Work) → PickedWrite picks p (at_object w.object w.register job) w lines
  arrived job w lines = go (is_of_bytes job && is_dir w.object.what) (is_empty job)
    where
      go : (d e : Bool) → PickedWrite picks p (if d then Ending reply.IsDir else (if e then Ending (reply.Ok good.Done) else Changing (starting (change_of w.object.gfid job) w.register))) w lines
      go true e = tt
      go false true = tt
      go false false = tt

  moved : (job : WriteJob) (w : Walk) (lines : Work) → PickedWalk picks p w lines → PickedWrite picks p (after_walk job w) w lines
  moved job w lines k = go w.step refl k
    where
      go : (step : WalkStep) → w.step ≡ step → PickedStep picks p step w.object.gfid lines → PickedWrite picks p (after_step step job w) w lines
      go (walking.Looking s) e k = subst (λ (x : WalkStep). PickedStep picks p x w.object.gfid lines) (sym e) k
      go (walking.Naming b) e k = subst (λ (x : WalkStep). PickedStep picks p x w.object.gfid lines) (sym e) k
      go walking.Arrived e none = arrived job w lines
      go (walking.Stopped why) e k = stop_ends picks p why lines

  -- no lines, and a write that begins
  pub write_begins : (path : List NameId) (job : WriteJob) → PickedWrite picks p (write_from p.shape path job).stage (write_from p.shape path job).walk []
  write_begins path job = go (is_too_large job)
    where
      w : Walk
      w = walk_from p.shape path

      go : (large : Bool) → PickedWrite picks p (if large then Ending reply.TooLarge else after_walk job (walk_from p.shape path)) (walk_from p.shape path) []
      go true = tt
      go false = moved job (walk_from p.shape path) [] (walk_begins picks p p.shape (length path) (walk_from p.shape path).object)

  -- ---- a line of a write
  pub write_picked : (c : Command) (m : Write) (lines : Work) (a : ActorId) (b : BrickId) (request : Request) (picked : Option BrickId) (heard : Answer) (took : Bool) (log : List Line) (at : ℕ) → IsWrite m.walk m.stage → WriteTells p c m lines
      → next_of at m ≡ next.Ask b request → Picked picks (choices_at m.stage heard m.walk) picked → PickedWrite picks p m.stage m.walk lines
      → PickedWrite picks p (answered (reader_of picked) heard at m).stage (answered (reader_of picked) heard at m).walk ((Ask a b request (told_by heard) took, log) ∷ lines)
  write_picked c m lines a b request picked heard took log at sound k e answers was = by m.stage sound.ready k.stage e answers was
    where
      by : (stage : WriteStage) → IsStage m.walk stage → TellsIn p c stage m.walk lines → next_at at stage m.walk ≡ next.Ask b request → Picked picks (choices_at stage heard m.walk) picked → PickedWrite picks p stage m.walk lines
          → PickedWrite picks p (stage_after stage heard at (walk_after (reader_of picked) stage heard at m.walk)) (walk_after (reader_of picked) stage heard at m.walk) ((Ask a b request (told_by heard) took, log) ∷ lines)
      by (Walking job) i t e answers was =
          moved job (walked (reader_of picked) heard at m.walk) ((Ask a b request (told_by heard) took, log) ∷ lines)
          (ask_same (λ x r. PickedWalk picks p (walked (reader_of picked) heard at m.walk) ((Ask a x r (told_by heard) took, log) ∷ lines)) (next_in m.walk).0 b (next_in m.walk).1 request e
          (walk_picked picks p c m.walk lines a picked heard took log at sound.sound i.0 t.tells answers was))
      by (Changing t) i k e answers was = tt
      by (Ending said) i k e answers was = absurd (cc e)

  pub write_begun : (m : Write) (lines : Work) (a : ActorId) (change : Change) (log : List Line) (at : ℕ) → PickedWrite picks p m.stage m.walk lines → PickedWrite picks p (stage_begun m.stage at) m.walk ((Begin a change, log) ∷ lines)
  write_begun m lines a change log at was = by m.stage was
    where
      by : (stage : WriteStage) → PickedWrite picks p stage m.walk lines → PickedWrite picks p (stage_begun stage at) m.walk ((Begin a change, log) ∷ lines)
      by (Walking job) was = walk_begun picks p m.walk lines a change log was
      by (Changing t) was = tt
      by (Ending said) was = end_begun picks p said lines a change log was

  -- ---- whom it asks, and what it ends with
  pub write_reads : (m : Write) (a : ActorId) (b : BrickId) (request : Request) (told : Told) (took : Bool) (log : List Line) (at : ℕ) → IsWrite m.walk m.stage → next_of at m ≡ next.Ask b request
      → PickedWrite picks p m.stage m.walk (work a.0 log) → ReadsPicked picks p (Ask a b request told took) log
  write_reads m a b request told took log at sound e was = by m.stage sound.ready e was
    where
      by : (stage : WriteStage) → IsStage m.walk stage → next_at at stage m.walk ≡ next.Ask b request → PickedWrite picks p stage m.walk (work a.0 log) → ReadsPicked picks p (Ask a b request told took) log
      by (Walking job) i e was = ask_same (λ x r. ReadsPicked picks p (Ask a x r told took) log) (next_in m.walk).0 b (next_in m.walk).1 request e (walk_reads picks p m.walk a told took log i.0 was)
      by (Changing t) i e was = change_reads t t.stage at a b request told took log e
      by (Ending said) i e was = absurd (cc e)

  pub write_ends : (m : Write) (lines : Work) (said : Reply) (at : ℕ) → next_of at m ≡ next.End said → PickedWrite picks p m.stage m.walk lines → PickedEnd picks p said lines
  write_ends m lines said at e was = by m.stage e was
    where
      by : (stage : WriteStage) → next_at at stage m.walk ≡ next.End said → PickedWrite picks p stage m.walk lines → PickedEnd picks p said lines
      by (Walking job) e was = absurd (cc e)
      by (Changing t) e was = change_ends t t.stage at said lines e
      by (Ending saying) e was = end_same (λ x. PickedEnd picks p x lines) saying said e was
