-- A command on a name reads it at a copy that the rule picked by the last looks under its locks.
use Rattle.std.proofs.Common.{◌≡◌, ◌∙◌, ℕ, Bool, true, false, List, [], ◌∷◌, ◌++◌, Option, None, Some, refl, sym, ap, subst, length, if◌then◌else◌}
use Rattle.afr_base.specs.declared.ids.ActorId.{ActorId}
use Rattle.afr_base.specs.declared.ids.BrickId.{BrickId}
use Rattle.afr_base.specs.declared.ids.Gfid.{Gfid}
use Rattle.afr_base.specs.declared.ids.Kind.TheVariants.{Names}
use Rattle.afr_base.specs.declared.ids.NameId.{NameId}
use Rattle.afr_base.specs.declared.ids.Shape.{Shape}
use Rattle.afr_base.specs.SetLemmas.{some_member}
use Rattle.afr_choice.specs.Verdict.{good_copies}
use Rattle.afr_choice.specs.declared.looked.Looked.{Looked}
use Rattle.afr_client_entry.specs.Entry.{Entering, HasReader, IsEntry, IsStage, after_step, after_walk, answered, at_directory, choices_at, choices_under, entry_from, found_by, next_at, next_of, name_noted, next_under, offered, or_removes, progress_begun, reads_name, settled, stage_after, stage_begun, walk_after}
use Rattle.afr_client_entry.specs.Job.{change_of, child_by, reply_to, ruled_out}
use Rattle.afr_client_entry.specs.declared.job.EntryJob.{EntryJob}
use Rattle.afr_client_entry.specs.declared.refusal.Refusal.{Refusal}
use Rattle.afr_client_entry.specs.declared.refusal.Refusal.TheVariants as refusal_of
use Rattle.afr_client_entry.specs.declared.stage.EntryStage.{EntryStage}
use Rattle.afr_client_entry.specs.declared.stage.EntryStage.TheVariants.{Changing, Ending, Removes, Walking}
use Rattle.afr_client_entry.specs.declared.stage.Found.{Found}
use Rattle.afr_client_entry.specs.declared.stage.Found.TheVariants.{Fits, Refused, Unread}
use Rattle.afr_law_client.proofs.Entry.Words.{object_is}
use Rattle.afr_law_client.specs.Entry.EntryTelling.{EntryTells, TellsIn}
use Rattle.afr_lines.specs.Told.{told_by}
use Rattle.afr_lines.specs.Work.{Work, work}
use Rattle.afr_lines.specs.declared.answer.Answer.{Answer}
use Rattle.afr_lines.specs.declared.answer.Told.{Told}
use Rattle.afr_lines.specs.declared.line.Line.{Line}
use Rattle.afr_lines.specs.declared.line.Line.TheVariants.{Ask, Begin}
use Rattle.afr_lines.specs.declared.line.Next.TheVariants as next
use Rattle.afr_lines.specs.declared.reply.Reply.{Reply}
use Rattle.afr_lines.specs.declared.reply.Reply.TheVariants as reply
use Rattle.afr_lines.specs.declared.request.Request.{Request}
use Rattle.afr_model.specs.Chosen as model
use Rattle.afr_model.specs.Chosen.{Picks, ReadsPicked}
use Rattle.afr_model.specs.Showing.{looked_by}
use Rattle.afr_object.specs.Tables.{is_dir, object_of}
use Rattle.afr_object.specs.declared.change.Change.{Change}
use Rattle.afr_plan.specs.declared.command.Command.{Command}
use Rattle.afr_plan.specs.declared.command.Command.TheVariants as command
use Rattle.afr_plan.specs.declared.plan.Plan.{Plan}
use Rattle.afr_law_picks.proofs.Asks.{ask_same, end_same}
use Rattle.afr_law_picks.proofs.Read.{end_begun, stop_ends}
use Rattle.afr_law_picks.proofs.Removal.{removal_begins, removal_begun, removal_ends, removal_picked, removal_reads}
use Rattle.afr_law_picks.proofs.Rule.{Picked, one_picked}
use Rattle.afr_law_picks.proofs.Walk.{walk_begins, walk_begun, walk_picked, walk_reads}
use Rattle.afr_law_picks.proofs.Write.{change_ends, change_reads}
use Rattle.afr_law_picks.specs.Picked.{PickedEnd, PickedEntry, PickedStep, PickedUnder, PickedWalk, PicksOf}
use Rattle.afr_client_transaction.specs.Progress as transaction
use Rattle.afr_client_transaction.specs.Progress.{TransactionProgress, fed, is_beginning, is_over, starting}
use Rattle.afr_client_transaction.specs.declared.stage.Stage.{Stage}
use Rattle.afr_client_transaction.proofs.ReadLemmas.{begins_at}
use Rattle.afr_law_client.specs.Tells.{During, OnBegin, Tells}
use Rattle.afr_client_walk.specs.Choosing.{candidates_of, reader_of}
use Rattle.afr_client_walk.specs.Walk.{next_in, walk_from, walked}
use Rattle.afr_client_walk.specs.declared.walk.Walk.{Walk}
use Rattle.afr_client_walk.specs.declared.walk.WalkStep.{WalkStep}
use Rattle.afr_client_walk.specs.declared.walk.WalkStep.TheVariants as walking

-- before the attempt the transaction's looks are those of its lines
pub looks_of_lines : (p : Plan) (w : Work) (t : TransactionProgress) → Tells p w t → is_beginning t.stage ≡ true → t.register.looked ≡ looked_by (object_of t.change) w
looks_of_lines p w t tells e = begins (subst (λ (s : Stage). During s p.shape t w) (begins_at t.stage e) tells.during)
  where
    begins : OnBegin p.shape t.change t.register.looked t.asked.looked_at w → t.register.looked ≡ looked_by (object_of t.change) w
    begins k = k.looks.shows

module _ (picks : Picks) (p : Plan) where
  -- ---- under the lock of the name
  -- the looks are over: the copy that is asked for it was picked by them
  pub under_picked : (g : Gfid) (t : TransactionProgress) (picked : Option BrickId) (lines : Work) → Tells p lines t → object_of t.change ≡ g → HasReader t (Unread (reader_of picked)) → Picked picks (offered t) picked
      → PickedUnder picks p g t (Unread (reader_of picked)) lines
  under_picked g t picked lines tells object reads k e =
      let k2 : Picked picks (candidates_of t.register.shape t.register.looked Names) picked =
      subst (λ (x : Bool). Picked picks (if x then candidates_of t.register.shape t.register.looked Names else []) picked) e k
      in
      let some = some_member (good_copies t.register.shape t.register.looked Names) (reader_of picked).0 (reads e) in
      let b : picks (model.candidates_of t.register.shape Names t.register.looked) (reader_of picked).0 = one_picked picks t.register.shape t.register.looked Names picked some k2 in
      let c : picks (model.candidates_of p.shape Names t.register.looked) (reader_of picked).0 = subst (λ (s : Shape). picks (model.candidates_of s Names t.register.looked) (reader_of picked).0) tells.shape_is b in
      let d : PicksOf picks p (object_of t.change) Names lines (reader_of picked).0 = subst (λ (l : Looked). picks (model.candidates_of p.shape Names l) (reader_of picked).0) (looks_of_lines p lines t tells e) c in
      subst (λ (g : Gfid). PicksOf picks p g Names lines (reader_of picked).0) object d

  -- the name was read
  name_found : (child : Option Gfid) (t : TransactionProgress) (why : Option Refusal) (w : Walk) (lines : Work) → PickedEntry picks p (or_removes child t (found_by why)) w lines
  name_found (Some child) t why w lines = removal_begins picks p t.change t.register child lines
  name_found None t None w lines = tt
  name_found None t (Some why) w lines = tt

  -- ---- where a walk leaves the command
  arrived : (job : EntryJob) (w : Walk) (lines : Work) → PickedEntry picks p (at_directory w.object w.register job) w lines
  arrived job w lines = go (is_dir w.object.what)
    where
      go : (d : Bool) → PickedEntry picks p (if d then Changing (starting (change_of w.object.gfid job) w.register) (Unread (record { 0 = 0 })) else Ending reply.NotDir) w lines
      go true = λ e. absurd (cc e)
      go false = tt

  moved : (job : EntryJob) (w : Walk) (lines : Work) → PickedWalk picks p w lines → PickedEntry picks p (after_walk job w) w lines
  moved job w lines k = go w.step refl k
    where
      go : (step : WalkStep) → w.step ≡ step → PickedStep picks p step w.object.gfid lines → PickedEntry picks p (after_step step job w) w lines
      go (walking.Looking s) e k = subst (λ (x : WalkStep). PickedStep picks p x w.object.gfid lines) (sym e) k
      go (walking.Naming b) e k = subst (λ (x : WalkStep). PickedStep picks p x w.object.gfid lines) (sym e) k
      go walking.Arrived e none = arrived job w lines
      go (walking.Stopped why) e k = stop_ends picks p why lines

  -- no lines, and a command that begins
  pub entry_begins : (path : List NameId) (job : EntryJob) → PickedEntry picks p (entry_from p.shape path job).stage (walk_from p.shape path) []
  entry_begins path job = moved job (walk_from p.shape path) [] (walk_begins picks p p.shape (length path) (walk_from p.shape path).object)

  -- ---- a line of a command
  module _ (c : Command) (m : Entering) (lines : Work) (a : ActorId) (b : BrickId) (request : Request) (picked : Option BrickId) (heard : Answer) (took : Bool) (log : List Line) (at : ℕ) where
    abbrev more : Work
    more = (Ask a b request (told_by heard) took, log) ∷ lines

    abbrev chosen : BrickId
    chosen = reader_of picked

    abbrev w : EntryStage → Walk
    w stage = walk_after chosen stage heard at m.walk

    abbrev now : EntryStage → EntryStage
    now stage = stage_after chosen stage heard at m.job (w stage)

    changed : (t : TransactionProgress) (found : Found) → TellsIn p c m.job (now (Changing t found)) m.walk more → IsStage m.walk m.job (now (Changing t found)) → Picked picks (choices_under found heard at t) picked
        → PickedEntry picks p (now (Changing t found)) m.walk more
    changed t Fits tells sound k = tt
    changed t (Refused why) tells sound k = tt
    changed t (Unread copy) tells sound k = go (is_beginning t.stage) tells sound k
      where
        go : (e : Bool)
            → TellsIn p c m.job (or_removes (if e then child_by m.job heard else None) (if e then settled (ruled_out m.job heard) (name_noted copy m.job m.walk (told_by heard) at t) else fed t.stage (told_by heard) at t) (if e then found_by (ruled_out m.job heard) else Unread chosen)) m.walk more
            → IsStage m.walk m.job (or_removes (if e then child_by m.job heard else None) (if e then settled (ruled_out m.job heard) (name_noted copy m.job m.walk (told_by heard) at t) else fed t.stage (told_by heard) at t) (if e then found_by (ruled_out m.job heard) else Unread chosen))
            → Picked picks (if e then [] else offered (fed t.stage (told_by heard) at t)) picked
            → PickedEntry picks p (or_removes (if e then child_by m.job heard else None) (if e then settled (ruled_out m.job heard) (name_noted copy m.job m.walk (told_by heard) at t) else fed t.stage (told_by heard) at t) (if e then found_by (ruled_out m.job heard) else Unread chosen)) m.walk more
        go true tells sound k = name_found (child_by m.job heard) (settled (ruled_out m.job heard) (name_noted copy m.job m.walk (told_by heard) at t)) (ruled_out m.job heard) m.walk more
        go false tells sound k = under_picked m.walk.object.gfid (fed t.stage (told_by heard) at t) picked more tells.on.0.tells (ap object_of sound.of_job ∙ object_is m.walk.object.gfid m.job) sound.reads k

    pub entry_picked : IsEntry m.walk m.job m.stage → EntryTells p c m lines → next_of at m ≡ next.Ask b request → EntryTells p c (answered chosen heard at m) more → IsEntry (answered chosen heard at m).walk m.job (answered chosen heard at m).stage
        → Picked picks (choices_at m.stage heard at m.walk) picked → PickedEntry picks p m.stage m.walk lines → PickedEntry picks p (answered chosen heard at m).stage (answered chosen heard at m).walk more
    entry_picked sound k e tells kept answers was = by m.stage sound.ready k.stage e tells.stage kept.ready answers was
      where
        by : (stage : EntryStage) → IsStage m.walk m.job stage → TellsIn p c m.job stage m.walk lines → next_at at stage m.job m.walk ≡ next.Ask b request → TellsIn p c m.job (now stage) (w stage) more → IsStage (w stage) m.job (now stage)
            → Picked picks (choices_at stage heard at m.walk) picked → PickedEntry picks p stage m.walk lines → PickedEntry picks p (now stage) (w stage) more
        by Walking i t e tells kept answers was =
            moved m.job (walked chosen heard at m.walk) more
            (ask_same (λ x r. PickedWalk picks p (walked chosen heard at m.walk) ((Ask a x r (told_by heard) took, log) ∷ lines)) (next_in m.walk).0 b (next_in m.walk).1 request e
            (walk_picked picks p (command.Ls m.walk.path) m.walk lines a picked heard took log at sound.sound i t.tells answers was))
        by (Changing t found) i k e tells kept answers was = changed t found tells kept answers
        by (Removes r) i k e tells kept answers was = removal_picked picks p (m.walk.path ++ tells.name ∷ []) r b request picked heard at more e answers tells.tells kept.sound
        by (Ending said) i k e tells kept answers was = absurd (cc e)

  under_begun : (g : Gfid) (t : TransactionProgress) (found : Found) (lines : Work) (a : ActorId) (change : Change) (log : List Line) (at : ℕ) → PickedUnder picks p g t found lines
      → PickedUnder picks p g (progress_begun found at t) found ((Begin a change, log) ∷ lines)
  under_begun g t (Unread b) lines a change log at was = was
  under_begun g t Fits lines a change log at was = tt
  under_begun g t (Refused why) lines a change log at was = tt

  pub entry_begun : (m : Entering) (lines : Work) (a : ActorId) (change : Change) (log : List Line) (at : ℕ) → PickedEntry picks p m.stage m.walk lines → PickedEntry picks p (stage_begun m.stage at) m.walk ((Begin a change, log) ∷ lines)
  entry_begun m lines a change log at was = by m.stage was
    where
      by : (stage : EntryStage) → PickedEntry picks p stage m.walk lines → PickedEntry picks p (stage_begun stage at) m.walk ((Begin a change, log) ∷ lines)
      by Walking was = walk_begun picks p m.walk lines a change log was
      by (Changing t found) was = under_begun m.walk.object.gfid t found lines a change log at was
      by (Removes r) was = removal_begun picks p r lines a change log at was
      by (Ending said) was = end_begun picks p said lines a change log was

  -- ---- whom it asks, and what it ends with
  pub entry_reads : (m : Entering) (a : ActorId) (b : BrickId) (request : Request) (told : Told) (took : Bool) (log : List Line) (at : ℕ) → IsEntry m.walk m.job m.stage → next_of at m ≡ next.Ask b request
      → PickedEntry picks p m.stage m.walk (work a.0 log) → ReadsPicked picks p (Ask a b request told took) log
  entry_reads m a b request told took log at sound e was = by m.stage sound.ready e was
    where
      reads : (t : TransactionProgress) (found : Found) → next_under found at m.job m.walk t ≡ next.Ask b request → PickedUnder picks p m.walk.object.gfid t found (work a.0 log) → ReadsPicked picks p (Ask a b request told took) log
      reads t Fits e was = change_reads picks p t t.stage at a b request told took log e
      reads t (Unread copy) e was = go (is_beginning t.stage) e was
        where
          go : (x : Bool) → (if x then next.Ask copy (reads_name m.job m.walk) else transaction.next_at t.stage at t) ≡ next.Ask b request → (x ≡ true → PicksOf picks p m.walk.object.gfid Names (work a.0 log) copy.0)
              → ReadsPicked picks p (Ask a b request told took) log
          go true e was = ask_same (λ x r. ReadsPicked picks p (Ask a x r told took) log) copy b (reads_name m.job m.walk) request e (λ client. was refl)
          go false e was = change_reads picks p t t.stage at a b request told took log e
      reads t (Refused why) e was = go (is_over t.stage t) e
        where
          go : (x : Bool) → (if x then next.End (reply_to why) else transaction.next_at t.stage at t) ≡ next.Ask b request → ReadsPicked picks p (Ask a b request told took) log
          go true e = absurd (cc e)
          go false e = change_reads picks p t t.stage at a b request told took log e

      by : (stage : EntryStage) → IsStage m.walk m.job stage → next_at at stage m.job m.walk ≡ next.Ask b request → PickedEntry picks p stage m.walk (work a.0 log) → ReadsPicked picks p (Ask a b request told took) log
      by Walking i e was = ask_same (λ x r. ReadsPicked picks p (Ask a x r told took) log) (next_in m.walk).0 b (next_in m.walk).1 request e (walk_reads picks p m.walk a told took log i was)
      by (Changing t found) i e was = reads t found e was
      by (Removes r) i e was = removal_reads picks p r a b request told took log e was
      by (Ending said) i e was = absurd (cc e)

  pub refusal_ends : (why : Refusal) (lines : Work) → PickedEnd picks p (reply_to why) lines
  refusal_ends refusal_of.Failed lines = tt
  refusal_ends refusal_of.NoEntry lines = tt
  refusal_ends refusal_of.Exists lines = tt
  refusal_ends refusal_of.IsDir lines = tt
  refusal_ends refusal_of.NotDir lines = tt

  pub entry_ends : (m : Entering) (lines : Work) (said : Reply) (at : ℕ) → next_of at m ≡ next.End said → PickedEntry picks p m.stage m.walk lines → PickedEnd picks p said lines
  entry_ends m lines said at e was = by m.stage e was
    where
      under_ends : (t : TransactionProgress) (found : Found) → next_under found at m.job m.walk t ≡ next.End said → PickedEnd picks p said lines
      under_ends t Fits e = change_ends picks p t t.stage at said lines e
      under_ends t (Unread copy) e = go (is_beginning t.stage) e
        where
          go : (x : Bool) → (if x then next.Ask copy (reads_name m.job m.walk) else transaction.next_at t.stage at t) ≡ next.End said → PickedEnd picks p said lines
          go true e = absurd (cc e)
          go false e = change_ends picks p t t.stage at said lines e
      under_ends t (Refused why) e = go (is_over t.stage t) e
        where
          go : (x : Bool) → (if x then next.End (reply_to why) else transaction.next_at t.stage at t) ≡ next.End said → PickedEnd picks p said lines
          go true e = end_same (λ x. PickedEnd picks p x lines) (reply_to why) said e (refusal_ends why lines)
          go false e = change_ends picks p t t.stage at said lines e

      by : (stage : EntryStage) → next_at at stage m.job m.walk ≡ next.End said → PickedEntry picks p stage m.walk lines → PickedEnd picks p said lines
      by Walking e was = absurd (cc e)
      by (Changing t found) e was = under_ends t found e
      by (Removes r) e was = removal_ends picks p r lines said e
      by (Ending saying) e was = end_same (λ x. PickedEnd picks p x lines) saying said e was
