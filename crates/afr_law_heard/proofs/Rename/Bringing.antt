-- What goes with the requests of a rename, and what its Begin lines give a name.
use Rattle.std.proofs.Common.{◌≡◌, ◌==◌, ℕ, Bool, true, false, List, Some, length, refl, sym, subst, if◌then◌else◌}
use Rattle.afr_base.specs.declared.ids.ActorId.{ActorId}
use Rattle.afr_base.specs.declared.ids.BrickId.{BrickId}
use Rattle.afr_base.specs.declared.ids.Gfid.{Gfid}
use Rattle.afr_base.specs.declared.ids.NameId.{NameId}
use Rattle.afr_base.specs.declared.ids.What.TheVariants.{File}
use Rattle.afr_lines.specs.Work.{Work, work}
use Rattle.afr_lines.specs.declared.line.Line.{Line}
use Rattle.afr_lines.specs.declared.line.Line.TheVariants.{Begin}
use Rattle.afr_lines.specs.declared.line.Next.TheVariants as next
use Rattle.afr_lines.specs.declared.request.Request.{Request}
use Rattle.afr_lines.specs.declared.request.Request.TheVariants.{ReadName}
use Rattle.afr_object.specs.declared.change.Change.{Change}
use Rattle.afr_object.specs.declared.change.Change.TheVariants.{Make}
use Rattle.afr_object.specs.declared.change.Load.{Load}
use Rattle.afr_object.specs.declared.change.Load.TheVariants as load
use Rattle.afr_plan.specs.declared.plan.Plan.{Plan}
use Rattle.afr_model.specs.Parts.{the_make, the_removal}
use Rattle.afr_model.specs.Tables.{Past, held_before}
use Rattle.afr_model_moves.specs.Discipline.{BeginsKnown}
use Rattle.afr_model_moves.specs.Positions.{by_position}
use Rattle.afr_law.specs.Beginning.{start_of}
use Rattle.afr_law.specs.Exactly.{name_bound}
use Rattle.afr_server.specs.Carried.{Brings}
use Rattle.afr_law_names.specs.Links.Links.{FoundIsKnown}
use Rattle.afr_client_walk.specs.Walk.{next_in}
use Rattle.afr_client_walk.specs.declared.walk.Walk.{Walk}
use Rattle.afr_client_transaction.specs.Made.{attempted}
use Rattle.afr_client_transaction.specs.Outcome.{outcome_of}
use Rattle.afr_client_transaction.specs.Progress.{CarriesAt, TransactionProgress, gfid_at, is_over, next_at as next_change, numbered}
use Rattle.afr_client_transaction.specs.declared.stage.Stage.TheVariants.{Locking}
use Rattle.afr_client_entry.specs.Job.{reply_to}
use Rattle.afr_client_entry.specs.declared.stage.Found.{Found}
use Rattle.afr_client_entry.specs.declared.stage.Found.TheVariants.{Unread, Fits, Refused}
use Rattle.afr_law_client.proofs.Read.ReadsMore.{asks_same}
use Rattle.afr_law_client.proofs.Write.Goes.{asked_stage}
use Rattle.afr_law_client.specs.Entry.EntryTelling.{OnChange}
use Rattle.afr_client_entry.specs.Renames.Against.{half_reply}
use Rattle.afr_client_entry.specs.Renames.Paths.{making_of, reads_new, reads_old, removal_of}
use Rattle.afr_client_entry.specs.Renames.Rename.{CarriesNext, IsSound, is_done, next_at, turned}
use Rattle.afr_client_entry.specs.Renames.Under.{IsUnder, next_under}
use Rattle.afr_client_entry.specs.declared.renaming.paths.Paths.{Paths}
use Rattle.afr_client_entry.specs.declared.renaming.stage.RenameStage.{RenameStage}
use Rattle.afr_client_entry.specs.declared.renaming.stage.RenameStage.TheVariants.{Finding, Walking, Making, Removing, Ending}
use Rattle.afr_law_client.specs.Rename.RenameTelling.{TellsIn}
use Rattle.afr_law_heard.proofs.Bringing.{step_brings}
use Rattle.afr_law_heard.proofs.SomeLines.{AreIn, work_in}
use Rattle.afr_law_heard.proofs.Entry.Under.{fits_begins, goes_brings, refused_begins, refused_brings, unread_begins, unread_brings}
use Rattle.afr_law_heard.proofs.Rename.PartLines.{make_in, removal_in}
use Rattle.afr_law_heard.specs.Rename.RenameHears.{RenameBrings, RenameMakesKnown}

-- ---- loads
module _ (p : Plan) (log : List Line) (b : BrickId) (request : Request) (past : Past) (carried : Load) where
  walk_brings : (w : Walk) → next.Ask (next_in w).0 (next_in w).1 ≡ next.Ask b request → carried ≡ load.Nothing → Brings request carried log past
  walk_brings w e none =
      let here : Brings request load.Nothing log past = asks_same (λ (y : BrickId) (r : Request). Brings r load.Nothing log past) (next_in w).0 b (next_in w).1 request e (step_brings log past w w.step) in
      subst (λ (y : Load). Brings request y log past) (sym none) here

  under_brings : (lines : Work) → AreIn log lines → (dir : Gfid) (name : NameId) (change : Change) (t : TransactionProgress) (found : Found) → IsUnder change t found → OnChange found p t lines → CarriesAt t.stage carried (attempted t)
      → next_under found (length log) (ReadName dir name) t ≡ next.Ask b request → Brings request carried log past
  under_brings lines is dir name change t (Unread copy) u on brought e = unread_brings p log lines is b request past t carried brought on.0.tells copy dir name e
  under_brings lines is dir name change t Fits u on brought e = goes_brings p log lines is b request past t carried brought on.tells e
  under_brings lines is dir name change t (Refused why) u on brought e = refused_brings p log lines is b request past t carried brought why u.in_turn (reply_to why) e

  -- nothing has to go with the lock of the old name
  turn_brings : (x : Paths) (t : TransactionProgress) → next_change Locking (length log) (turned x t) ≡ next.Ask b request → Brings request carried log past
  turn_brings x t e = subst (λ (r : Request). Brings r carried log past) (asked_stage Locking (length log) (turned x t) b request e).1 tt

pub rename_brings : RenameBrings
rename_brings p c m log a b request carried sound k e brought = go m.stage sound.sound k.stage e brought
  where
    x : Paths
    x = m.paths

    past : Past
    past = held_before p log

    go : (stage : RenameStage) → IsSound x stage → TellsIn p stage x (work a.0 log) → next_at (length log) stage x ≡ next.Ask b request → CarriesNext stage carried → Brings request carried log past
    go Finding ready told e h = walk_brings p log b request past carried x.first e h
    go Walking ready told e h = walk_brings p log b request past carried x.second e h
    go (Making t found) ready told e h = pick (is_done t) e
      where
        pick : (done : Bool) → (if done then next_change Locking (length log) (turned x t) else next_under found (length log) (reads_new x) t) ≡ next.Ask b request → Brings request carried log past
        pick true e = turn_brings p log b request past carried x t e
        pick false e =
            under_brings p log b request past carried (the_make x.first.path (work a.0 log)) (make_in log x.first.path (work a.0 log) (work_in a.0 log)) x.second.object.gfid x.new_name (making_of x x.second.object.gfid) t found ready.under told.tells.on h e
    go (Removing t found) ready told e h = pick (is_over t.stage t) e
      where
        pick : (over : Bool) → (if over then next.End (half_reply (outcome_of t.change t.register)) else next_under found (length log) (reads_old x) t) ≡ next.Ask b request → Brings request carried log past
        pick true e = absurd (cc e)
        pick false e =
            under_brings p log b request past carried (the_removal x.first.path (work a.0 log)) (removal_in log x.first.path (work a.0 log) (work_in a.0 log)) x.dir x.old_name (removal_of x) t found ready.under told.tells.on h e
    go (Ending said) ready told e h = absurd (cc e)

-- ---- the Begin lines
under_begins : (P : Change → Type 0) (at : ℕ) (t : TransactionProgress) (change : Change) → P (numbered at t.change) → (found : Found) (asked : Request) → next_under found at asked t ≡ next.Begin change → P change
under_begins P at t change of (Unread copy) asked e = unread_begins P at t change of copy asked e
under_begins P at t change of Fits asked e = fits_begins P at t change of e
under_begins P at t change of (Refused why) asked e = refused_begins P at t change of (reply_to why) e

-- what the actor begins next is known
abbrev IsKnown : Plan → List Line → ActorId → Change → Type 0
IsKnown p log a begun = BeginsKnown (start_of p (name_bound p)) (by_position log) (length log) (Some (Begin a begun))

-- a file that is found keeps its number
gfid_kept : (at : ℕ) (g : Gfid) → (g.0 == 0) ≡ false → g ≡ gfid_at at g
gfid_kept at g some = rw some refl

pub rename_makes_known : FoundIsKnown → RenameMakesKnown
rename_makes_known known p c m log a change few short honest lawful sound k e = go m.stage sound.sound k.stage e
  where
    x : Paths
    x = m.paths

    go : (stage : RenameStage) → IsSound x stage → TellsIn p stage x (work a.0 log) → next_at (length log) stage x ≡ next.Begin change → IsKnown p log a change
    go Finding ready told e = absurd (cc e)
    go Walking ready told e = absurd (cc e)
    go (Making t found) ready told e = pick (is_done t) e
      where
        linked : IsKnown p log a (Make x.second.object.gfid x.new_name x.first.object.gfid File)
        linked = known p a log x.first.path x.first.object.gfid x.second.object.gfid x.new_name few short honest lawful told.on.walked.found

        of : IsKnown p log a (numbered (length log) t.change)
        of =
            subst (λ (y : Change). IsKnown p log a (numbered (length log) y)) (sym ready.under.of)
            (subst (λ (g : Gfid). IsKnown p log a (Make x.second.object.gfid x.new_name g File)) (gfid_kept (length log) x.first.object.gfid told.on.walked.numbered) linked)

        pick : (done : Bool) → (if done then next_change Locking (length log) (turned x t) else next_under found (length log) (reads_new x) t) ≡ next.Begin change → IsKnown p log a change
        pick true e = absurd (cc e)
        pick false e = under_begins (IsKnown p log a) (length log) t change of found (reads_new x) e
    go (Removing t found) ready told e = pick (is_over t.stage t) e
      where
        of : IsKnown p log a (numbered (length log) t.change)
        of = subst (λ (y : Change). IsKnown p log a (numbered (length log) y)) (sym ready.under.of) tt

        pick : (over : Bool) → (if over then next.End (half_reply (outcome_of t.change t.register)) else next_under found (length log) (reads_old x) t) ≡ next.Begin change → IsKnown p log a change
        pick true e = absurd (cc e)
        pick false e = under_begins (IsKnown p log a) (length log) t change of found (reads_old x) e
    go (Ending said) ready told e = absurd (cc e)
