-- A client hears what its machine of a command on a name asks of the bricks' answers, by where the machine stands.
use Rattle.std.proofs.Common.{◌≡◌, Bool, List, [], ◌∷◌, ◌++◌, length, refl, sym, ap, ◌∙◌, subst}
use Rattle.afr_base.specs.declared.ids.ActorId.{ActorId}
use Rattle.afr_base.specs.declared.ids.BrickId.{BrickId}
use Rattle.afr_base.specs.declared.ids.Kind.TheVariants.{Names}
use Rattle.afr_base.specs.declared.ids.NameId.{NameId}
use Rattle.afr_lines.specs.Told.{told_by}
use Rattle.afr_lines.specs.Work.{work}
use Rattle.afr_lines.specs.declared.answer.Answer.{Answer}
use Rattle.afr_lines.specs.declared.line.Line.{Line}
use Rattle.afr_lines.specs.declared.line.Line.TheVariants.{Ask}
use Rattle.afr_lines.specs.declared.line.Next.{Next}
use Rattle.afr_lines.specs.declared.line.Next.TheVariants as next
use Rattle.afr_lines.specs.declared.request.Request.{Request}
use Rattle.afr_lines.specs.declared.request.Request.TheVariants as request_of
use Rattle.afr_object.specs.Tables.{object_of}
use Rattle.afr_plan.specs.declared.command.Command.{Command}
use Rattle.afr_plan.specs.declared.command.Command.TheVariants as command
use Rattle.afr_plan.specs.declared.plan.Plan.{Plan}
use Rattle.afr_model.specs.Following.{Follows}
use Rattle.afr_model.specs.Showing.{root_entry}
use Rattle.afr_law.specs.ModelKinds.{Top}
use Rattle.afr_client_transaction.specs.Progress.{TransactionProgress}
use Rattle.afr_client_walk.specs.Walk.{next_in}
use Rattle.afr_client_walk.specs.declared.walk.Walk.{Walk}
use Rattle.afr_client_entry.specs.Entry.{IsChanging, IsStage, next_at, next_under}
use Rattle.afr_client_entry.specs.Job.{name_of, reply_to}
use Rattle.afr_client_entry.specs.declared.job.EntryJob.{EntryJob}
use Rattle.afr_client_entry.specs.declared.stage.EntryStage.{EntryStage}
use Rattle.afr_client_entry.specs.declared.stage.EntryStage.TheVariants.{Walking, Changing, Removes, Ending}
use Rattle.afr_client_entry.specs.declared.stage.Found.{Found}
use Rattle.afr_client_entry.specs.declared.stage.Found.TheVariants.{Unread, Fits, Refused}
use Rattle.afr_client_entry.specs.Removals.Removal as removal
use Rattle.afr_client_entry.specs.Removals.Removal.{Removing}
use Rattle.afr_client_entry.specs.Removals.Sound as removal_sound
use Rattle.afr_client_entry.specs.declared.removing.stage.RemovalStage.{RemovalStage}
use Rattle.afr_client_entry.specs.declared.removing.stage.RemovalStage.TheVariants as removal_stage
use Rattle.afr_client_entry.specs.declared.removing.stage.RemovalStage.TheVariants.{Listing}
use Rattle.afr_law_client.specs.Removal.RemovalTelling as removal_telling
use Rattle.afr_law_client.specs.Removal.RemovalTelling.{RemovalTells}
use Rattle.afr_law_client.proofs.Removal.About.{about as removal_about}
use Rattle.afr_law_client.specs.Fits.{FitsPhase}
use Rattle.afr_law_client.specs.Laws.{IsNextLine}
use Rattle.afr_law_client.proofs.HonestFits.{honest_fits}
use Rattle.afr_law_client.specs.Read.Lines.{CanAnswer}
use Rattle.afr_law_client.proofs.Read.ReadsMore.{asks_same}
use Rattle.afr_law_client.specs.Entry.EntryTelling.{CanHear, CanHearUnder, ChangesName, TellsIn, command_of}
use Rattle.afr_law_client.proofs.Entry.Words.{object_is}
use Rattle.afr_law_heard.specs.Hears.{IsHeard}
use Rattle.afr_law_heard.proofs.Hearing.{step_there}
use Rattle.afr_law_heard.proofs.Seen.{good_in}
use Rattle.afr_law_heard.proofs.SomeLines.{work_in}
use Rattle.afr_law_heard.proofs.Told.{IsThere, can_answer, can_tell}
use Rattle.afr_law_heard.specs.Entry.EntryHears.{EntryHears}
use Rattle.afr_law_heard.proofs.Entry.Under.{fits_hears, refused_hears, unread_hears}

module _ (p : Plan) (log : List Line) (a : ActorId) (b : BrickId) (request : Request) (heard : Answer) (took : Bool) (h : IsHeard p log a b request heard took) where
  -- ---- of the child of a removal
  phase_of : (asked : Request) → IsHeard p log a b asked heard took → FitsPhase asked (told_by heard)
  phase_of (request_of.Look g) k = tt
  phase_of asked k = (can_tell p log a b heard took root_entry (Top refl refl) asked k tt).phase

  of_child : removal_telling.CanTell request heard
  of_child = record { fits = honest_fits p (Ask a b request (told_by heard) took) log h.said; phase = phase_of request h }

  removes : (path : List NameId) (r : Removing) → removal_sound.Sound r → RemovalTells p path r (work a.0 log) → removal.next_at r.stage r ≡ next.Ask b request → removal_telling.CanHear r.stage p b.0 request log heard
  removes path r sound t e = go r.stage refl
    where
      there : r.stage ≡ Listing → IsThere p log (removal.brick_at Listing r) (request_of.List r.child.gfid)
      there at =
          let asked : removal.next_at r.stage r ≡ removal.asks Listing r = ap (λ (s : RemovalStage). removal.next_at s r) at in
          let line = removal_about p path r (work a.0 log) a (told_by heard) (Ask a (record { 0 = removal.brick_at Listing r }) (request_of.List r.child.gfid) (told_by heard) took) log sound t
          (subst (λ (n : Next). IsNextLine a n (told_by heard) (Ask a (record { 0 = removal.brick_at Listing r }) (request_of.List r.child.gfid) (told_by heard) took)) (sym asked) (took, refl)) in
          record { free = refl; has = good_in p log (work a.0 log) (work_in a.0 log) r.child.gfid Names (removal.brick_at Listing r) h.honest line.0.0.good }

      listing : r.stage ≡ Listing → CanAnswer p b.0 request log heard
      listing at =
          can_answer p log a b request heard took h
          (asks_same (λ (x : BrickId) (q : Request). IsThere p log x.0 q) (record { 0 = removal.brick_at Listing r }) b (request_of.List r.child.gfid) request (sym (ap (λ (s : RemovalStage). removal.next_at s r) at) ∙ e) (there at))

      go : (stage : RemovalStage) → r.stage ≡ stage → removal_telling.CanHear stage p b.0 request log heard
      go Listing at = listing at
      go removal_stage.Locking at = of_child
      go removal_stage.Looking at = of_child
      go removal_stage.Beginning at = of_child
      go removal_stage.Preparing at = of_child
      go removal_stage.Applying at = of_child
      go removal_stage.Posting at = of_child
      go (removal_stage.Closing why) at = of_child

  -- ---- under the lock of the name
  under : (crawl : Bool) → Follows crawl p log → (job : EntryJob) (w : Walk) (t : TransactionProgress) (found : Found) → IsChanging w job t found → ChangesName p (command_of job w.path) job w.object t found (work a.0 log) → next_under found (length log) job w t ≡ next.Ask b request
      → CanHearUnder found t.stage p w.object b.0 request log heard
  under crawl follows job w t (Unread copy) sound k e =
      unread_hears p log a b request heard took h crawl follows (work a.0 log) (work_in a.0 log) w.object (name_of job) t (ap object_of sound.of_job ∙ object_is w.object.gfid job) k.on.0.tells _ k.name.path copy sound.reads e
  under crawl follows job w t Fits sound k e = fits_hears p log a b request heard took h w.object t sound.in_turn e
  under crawl follows job w t (Refused why) sound k e = refused_hears p log a b request heard took h w.object t why sound.in_turn (reply_to why) e

pub entry_hears : EntryHears
entry_hears p c m log a b request heard took sound k e h crawl follows = go m.stage sound.ready k.stage e
  where
    w : Walk
    w = m.walk

    go : (stage : EntryStage) → IsStage w m.job stage → TellsIn p c m.job stage w (work a.0 log) → next_at (length log) stage m.job w ≡ next.Ask b request → CanHear stage p w.object b.0 request log heard
    go Walking ready t e =
        can_answer p log a b request heard took h
        (asks_same (λ (x : BrickId) (r : Request). IsThere p log x.0 r) (next_in w).0 b (next_in w).1 request e (step_there p (command.Ls w.path) log (work a.0 log) (work_in a.0 log) w h.honest w.step ready t.tells.step))
    go (Changing t found) ready x e = under p log a b request heard took h crawl follows m.job w t found ready (subst (λ (y : Command). ChangesName p y m.job w.object t found (work a.0 log)) k.named x) e
    go (Removes r) ready t e = removes p log a b request heard took h (w.path ++ t.name ∷ []) r ready.sound t.tells e
    go (Ending said) ready t e = absurd (cc e)
