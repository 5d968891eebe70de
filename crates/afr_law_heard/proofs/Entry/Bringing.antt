-- What goes with the requests of a command on a name, and what its Begin lines make.
use Rattle.std.proofs.Common.{◌≡◌, ℕ, Bool, true, false, List, [], ◌∷◌, ◌++◌, Some, length, refl, sym, ap, ◌∙◌, subst, if◌then◌else◌}
use Rattle.afr_base.specs.declared.ids.ActorId.{ActorId}
use Rattle.afr_base.specs.declared.ids.BrickId.{BrickId}
use Rattle.afr_base.specs.declared.ids.Gfid.{Gfid}
use Rattle.afr_base.specs.declared.ids.NameId.{NameId}
use Rattle.afr_lines.specs.Log.{change_at}
use Rattle.afr_lines.specs.Work.{work}
use Rattle.afr_lines.specs.declared.line.Line.{Line}
use Rattle.afr_lines.specs.declared.line.Next.{Next}
use Rattle.afr_lines.specs.declared.line.Next.TheVariants as next
use Rattle.afr_lines.specs.declared.request.Request.{Request}
use Rattle.afr_lines.specs.declared.request.Request.TheVariants as request_of
use Rattle.afr_object.specs.declared.change.Change.{Change}
use Rattle.afr_object.specs.declared.change.Change.TheVariants.{Remove}
use Rattle.afr_object.specs.declared.change.Load.{Load}
use Rattle.afr_object.specs.declared.change.Load.TheVariants as load
use Rattle.afr_plan.specs.declared.command.Command.{Command}
use Rattle.afr_plan.specs.declared.plan.Plan.{Plan}
use Rattle.afr_model.specs.Tables.{Past, held_before}
use Rattle.afr_law_next.specs.Begun.{HasNewGfid}
use Rattle.afr_server.specs.Carried.{Brings}
use Rattle.afr_client_transaction.specs.Made.{attempted}
use Rattle.afr_client_transaction.specs.Progress.{CarriesAt, TransactionProgress, number_in, numbered}
use Rattle.afr_client_walk.specs.Walk.{next_in}
use Rattle.afr_client_walk.specs.declared.walk.Walk.{Walk}
use Rattle.afr_law_client.specs.Removal.RemovalTelling.{During}
use Rattle.afr_client_entry.specs.Removals.Removal as removal
use Rattle.afr_client_entry.specs.Removals.Removal.{Removing}
use Rattle.afr_client_entry.specs.Removals.Sound.{IsRemoval}
use Rattle.afr_client_entry.specs.declared.removing.stage.RemovalStage.{RemovalStage}
use Rattle.afr_client_entry.specs.declared.removing.stage.RemovalStage.TheVariants as removing
use Rattle.afr_client_entry.specs.Entry.{CarriesNext, IsChanging, IsStage, next_at, next_under, reads_name}
use Rattle.afr_client_entry.specs.Job.{change_of, name_of, reply_to}
use Rattle.afr_client_entry.specs.declared.job.EntryJob.{EntryJob}
use Rattle.afr_client_entry.specs.declared.job.EntryJob.TheVariants.{Create, Mkdir, Unlink, Rmdir}
use Rattle.afr_client_entry.specs.declared.stage.EntryStage.{EntryStage}
use Rattle.afr_client_entry.specs.declared.stage.EntryStage.TheVariants.{Walking, Changing, Removes, Ending}
use Rattle.afr_client_entry.specs.declared.stage.Found.{Found}
use Rattle.afr_client_entry.specs.declared.stage.Found.TheVariants.{Unread, Fits, Refused}
use Rattle.afr_law_client.proofs.Read.ReadsMore.{asks_same}
use Rattle.afr_law_client.specs.Entry.EntryTelling.{ChangesName, TellsIn}
use Rattle.afr_law_heard.proofs.Bringing.{step_brings}
use Rattle.afr_law_heard.proofs.SomeLines.{work_in}
use Rattle.afr_law_heard.proofs.Stood.{finds_attempt}
use Rattle.afr_law_heard.proofs.Entry.Under.{begun_in, fits_begins, goes_brings, refused_begins, refused_brings, unread_begins, unread_brings}
use Rattle.afr_law_heard.specs.Entry.EntryHears.{EntryBrings, EntryMakesNew}

-- ---- loads
module _ (p : Plan) (c : Command) (log : List Line) (a : ActorId) (b : BrickId) (request : Request) (past : Past) (job : EntryJob) (w : Walk) (t : TransactionProgress) (carried : Load) (brought : CarriesAt t.stage carried (attempted t)) where
  under_brings : (found : Found) → IsChanging w job t found → ChangesName p c job w.object t found (work a.0 log) → next_under found (length log) job w t ≡ next.Ask b request → Brings request carried log past
  under_brings (Unread copy) sound k e = unread_brings p log (work a.0 log) (work_in a.0 log) b request past t carried brought k.on.0.tells copy w.object.gfid (name_of job) e
  under_brings Fits sound k e = goes_brings p log (work a.0 log) (work_in a.0 log) b request past t carried brought k.on.tells e
  under_brings (Refused why) sound k e = refused_brings p log (work a.0 log) (work_in a.0 log) b request past t carried brought why sound.in_turn (reply_to why) e

-- ---- a removal
module _ (p : Plan) (log : List Line) (a : ActorId) (b : BrickId) (request : Request) (past : Past) (path : List NameId) (m : Removing) (carried : Load) where
  -- where nothing has to go with the request
  asks_free : (stage : RemovalStage) → Brings (removal.request_at stage m) carried log past → removal.asks stage m ≡ next.Ask b request → Brings request carried log past
  asks_free stage free e = asks_same (λ (x : BrickId) (r : Request). Brings r carried log past) (record { 0 = removal.brick_at stage m }) b (removal.request_at stage m) request e free

  -- with the operation goes the change of its attempt
  applies_brings : During removing.Applying p path m (work a.0 log) → (x : Load) → removal.CarriesAt removing.Applying x m.change → Brings (request_of.Apply (number_in m.register.begun)) x log past
  applies_brings d (load.Change change) k =
      let begun = d.1.begun in
      ap (λ (n : ℕ). change_at n log) (ap number_in (d.0.sets.number ∙ begun.number))
      ∙ finds_attempt a.0 log begun.attempt begun.number
      ∙ begun.is_change
      ∙ ap (λ (x : Change). Some x) (sym k)
  applies_brings d other k = absurd k

  removal_brings : (stage : RemovalStage) → During stage p path m (work a.0 log) → removal.CarriesAt stage carried m.change → removal.next_at stage m ≡ next.Ask b request → Brings request carried log past
  removal_brings removing.Locking d k e = asks_free removing.Locking tt e
  removal_brings removing.Looking d k e = asks_free removing.Looking tt e
  removal_brings removing.Listing d k e = asks_free removing.Listing tt e
  removal_brings removing.Beginning d k e = absurd (cc e)
  removal_brings removing.Preparing d k e = asks_free removing.Preparing tt e
  removal_brings removing.Applying d k e = asks_free removing.Applying (applies_brings d carried k) e
  removal_brings removing.Posting d k e = asks_free removing.Posting tt e
  removal_brings (removing.Closing why) d k e = go (removal.is_over (removing.Closing why) m) e
    where
      go : (x : Bool) → (if x then next.End (removal.reply_of why m.register) else removal.asks (removing.Closing why) m) ≡ next.Ask b request → Brings request carried log past
      go true e = absurd (cc e)
      go false e = asks_free (removing.Closing why) tt e

pub entry_brings : EntryBrings
entry_brings p c m log a b request carried sound k e brought = go m.stage sound.ready k.stage e brought
  where
    w : Walk
    w = m.walk

    past : Past
    past = held_before p log

    go : (stage : EntryStage) → IsStage w m.job stage → TellsIn p c m.job stage w (work a.0 log) → next_at (length log) stage m.job w ≡ next.Ask b request → CarriesNext stage carried → Brings request carried log past
    go Walking ready t e h =
        let here : Brings request load.Nothing log past = asks_same (λ (x : BrickId) (r : Request). Brings r load.Nothing log past) (next_in w).0 b (next_in w).1 request e (step_brings log past w w.step) in
        subst (λ (x : Load). Brings request x log past) (sym h) here
    go (Changing t found) ready k2 e h = under_brings p c log a b request past m.job w t carried h found ready k2 e
    go (Removes r) ready t e h = removal_brings p log a b request past (w.path ++ t.name ∷ []) r carried r.stage t.tells h e
    go (Ending said) ready t e h = absurd (cc e)

-- ---- the Begin line
-- a new object has the number 0 until then
numbered_new : (at : ℕ) (g : Gfid) (job : EntryJob) → HasNewGfid at (numbered at (change_of g job))
numbered_new at g (Create name) = refl
numbered_new at g (Mkdir name) = refl
numbered_new at g (Unlink name) = tt
numbered_new at g (Rmdir name) = tt

under_new : (found : Found) (at : ℕ) (job : EntryJob) (w : Walk) (t : TransactionProgress) (change : Change) → HasNewGfid at (numbered at t.change) → next_under found at job w t ≡ next.Begin change → HasNewGfid at change
under_new (Unread copy) at job w t change new e = unread_begins (HasNewGfid at) at t change new copy (reads_name job w) e
under_new Fits at job w t change new e = fits_begins (HasNewGfid at) at t change new e
under_new (Refused why) at job w t change new e = refused_begins (HasNewGfid at) at t change new (reply_to why) e

-- a removal makes nothing
removed_new : (at : ℕ) (change : Change) → IsRemoval change → HasNewGfid at change
removed_new at (Remove dir name what) k = tt
removed_new at other k = absurd k

removal_stage_new : (stage : RemovalStage) (at : ℕ) (m : Removing) (change : Change) → IsRemoval m.change → removal.next_at stage m ≡ next.Begin change → HasNewGfid at change
removal_stage_new removing.Locking at m change removes e = absurd (cc e)
removal_stage_new removing.Looking at m change removes e = absurd (cc e)
removal_stage_new removing.Listing at m change removes e = absurd (cc e)
removal_stage_new removing.Beginning at m change removes e = subst (HasNewGfid at) (ap (λ (line : Next). begun_in line m.change) e) (removed_new at m.change removes)
removal_stage_new removing.Preparing at m change removes e = absurd (cc e)
removal_stage_new removing.Applying at m change removes e = absurd (cc e)
removal_stage_new removing.Posting at m change removes e = absurd (cc e)
removal_stage_new (removing.Closing why) at m change removes e = absurd (go (removal.is_over (removing.Closing why) m) e)
  where
    go : (x : Bool) → (if x then next.End (removal.reply_of why m.register) else removal.asks (removing.Closing why) m) ≡ next.Begin change → ⊥
    go true e = cc e
    go false e = cc e

pub entry_makes_new : EntryMakesNew
entry_makes_new m at change sound e = go m.stage sound.ready e
  where
    go : (stage : EntryStage) → IsStage m.walk m.job stage → next_at at stage m.job m.walk ≡ next.Begin change → HasNewGfid at change
    go Walking ready e = absurd (cc e)
    go (Changing t found) ready e = under_new found at m.job m.walk t change (subst (λ (x : Change). HasNewGfid at (numbered at x)) (sym ready.of_job) (numbered_new at m.walk.object.gfid m.job)) e
    go (Removes r) ready e = removal_stage_new r.stage at r change ready.sound.removes e
    go (Ending said) ready e = absurd (cc e)
