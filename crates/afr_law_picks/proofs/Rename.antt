-- A rename reads each name at a copy that the rule picked by the last looks of the part to which the line belongs.
use Rattle.std.proofs.Common.{◌≡◌, ℕ, Bool, true, false, List, [], ◌∷◌, Option, None, Some, refl, sym, ap, subst, length, if◌then◌else◌}
use Rattle.afr_base.specs.declared.ids.ActorId.{ActorId}
use Rattle.afr_base.specs.declared.ids.BrickId.{BrickId}
use Rattle.afr_base.specs.declared.ids.Gfid.{Gfid}
use Rattle.afr_base.specs.declared.ids.Kind.TheVariants.{Names}
use Rattle.afr_base.specs.declared.ids.NameId.{NameId}
use Rattle.afr_choice.specs.declared.looked.Looked.{Looked}
use Rattle.afr_client_entry.specs.Entry.{found_by, offered, progress_begun, settled}
use Rattle.afr_client_entry.specs.declared.refusal.Refusal.{Refusal}
use Rattle.afr_client_entry.specs.declared.stage.Found.{Found}
use Rattle.afr_client_entry.specs.declared.stage.Found.TheVariants.{Fits, Refused, Unread}
use Rattle.afr_law_client.specs.Entry.EntryTelling.{OnChange}
use Rattle.afr_lines.specs.Told.{told_by}
use Rattle.afr_lines.specs.Work.{Work}
use Rattle.afr_lines.specs.declared.answer.Answer.{Answer}
use Rattle.afr_lines.specs.declared.answer.Told.{Told}
use Rattle.afr_lines.specs.declared.line.Line.{Line}
use Rattle.afr_lines.specs.declared.line.Line.TheVariants.{Ask, Begin}
use Rattle.afr_lines.specs.declared.line.Next.TheVariants as next
use Rattle.afr_lines.specs.declared.reply.Reply.TheVariants as reply
use Rattle.afr_lines.specs.declared.request.Request.{Request}
use Rattle.afr_model.specs.Chosen as model
use Rattle.afr_model.specs.Chosen.{Picks}
use Rattle.afr_model.specs.Parts.{the_make, the_removal}
use Rattle.afr_model.specs.Showing.{has, locks, looked_by}
use Rattle.afr_model.proofs.Cut.Cut.{make_grows, make_waits}
use Rattle.afr_object.specs.Tables.{is_dir, object_of}
use Rattle.afr_object.specs.declared.change.Change.{Change}
use Rattle.afr_plan.specs.declared.command.Command.{Command}
use Rattle.afr_plan.specs.declared.command.Command.TheVariants as command
use Rattle.afr_plan.specs.declared.plan.Plan.{Plan}
use Rattle.afr_law_picks.proofs.Asks.{ask_same}
use Rattle.afr_law_picks.proofs.BegunParts.{make_begun, removal_looked}
use Rattle.afr_law_picks.proofs.Entry.{under_picked}
use Rattle.afr_law_picks.proofs.Read.{end_begun, stop_ends}
use Rattle.afr_law_picks.proofs.Rule.{Picked}
use Rattle.afr_law_picks.proofs.Walk.{walk_begins, walk_begun, walk_picked}
use Rattle.afr_law_picks.specs.Picked.{PickedRename, PickedStep, PickedUnder, PickedWalk, PicksOf}
use Rattle.afr_client_entry.specs.Renames.Against.{against_new, against_old}
use Rattle.afr_client_entry.specs.Renames.Paths.{making_of, reads_new, reads_old, removal_of}
use Rattle.afr_client_entry.specs.Renames.Rename.{IsRename, IsSound, Renaming, after_first, after_second, answered, choices_at, first_left, is_done, making_after, next_at, next_of, paths_after, rename_from, second_begun, second_left, stage_after, stage_begun, turned, unread}
use Rattle.afr_client_entry.specs.Renames.Under.{IsUnder, choices_under, found_after, progress_after}
use Rattle.afr_client_entry.specs.declared.renaming.paths.Paths.{Paths}
use Rattle.afr_client_entry.specs.declared.renaming.stage.RenameStage.{RenameStage}
use Rattle.afr_client_entry.specs.declared.renaming.stage.RenameStage.TheVariants.{Ending, Finding, Making, Removing, Walking}
use Rattle.afr_client_entry.proofs.Renames.RenameLemmas.{walked_path, after_lock}
use Rattle.afr_law_client.proofs.Rename.Walks.{finds_again, not_all_asked, walks_again}
use Rattle.afr_law_client.specs.Rename.RenameTelling.{RenameTells, TellsIn}
use Rattle.afr_client_transaction.specs.Between.{noted_read}
use Rattle.afr_client_transaction.specs.Progress.{TransactionProgress, fed, is_beginning, starting}
use Rattle.afr_client_transaction.specs.declared.stage.Stage.{Stage}
use Rattle.afr_client_transaction.proofs.ReadLemmas.{begins_at}
use Rattle.afr_law_client.specs.Tells.{During, OnBegin, Tells}
use Rattle.afr_client_walk.specs.Choosing.{reader_of}
use Rattle.afr_client_walk.specs.Walk.{next_in, walk_from, walked}
use Rattle.afr_client_walk.specs.Walk as walks
use Rattle.afr_client_walk.specs.declared.walk.Walk.{Walk}
use Rattle.afr_client_walk.specs.declared.walk.WalkStep.{WalkStep}
use Rattle.afr_client_walk.specs.declared.walk.WalkStep.TheVariants as walking

-- where an attempt is about to begin its object was locked
pub locked_there : (p : Plan) (w : Work) (t : TransactionProgress) → Tells p w t → is_beginning t.stage ≡ true → has (locks (object_of t.change)) w ≡ true
locked_there p w t tells e = begins (subst (λ (s : Stage). During s p.shape t w) (begins_at t.stage e) tells.during)
  where
    begins : OnBegin p.shape t.change t.register.looked t.asked.looked_at w → has (locks (object_of t.change)) w ≡ true
    begins k = k.allows.locked.locked

module _ (picks : Picks) (p : Plan) where
  -- no lines, and a rename that begins
  pub rename_begins : (from to : List NameId) → PickedRename picks p (rename_from p.shape from to).stage (rename_from p.shape from to).paths []
  rename_begins from to = walk_begins picks p p.shape (length from) (walk_from p.shape from).object

  -- ---- where the walks leave it
  arrived : (x : Paths) (lines : Work) (d : Bool) → PickedRename picks p (if d then Making (starting (making_of x x.second.object.gfid) x.second.register) unread else Ending reply.NotDir) x lines
  arrived x lines true = λ e. absurd (cc e)
  arrived x lines false = tt

  second_moved : (x : Paths) (lines : Work) → PickedWalk picks p x.second (the_make x.first.path lines) → PickedRename picks p (after_second x) x lines
  second_moved x lines k = go x.second.step refl k
    where
      go : (step : WalkStep) → x.second.step ≡ step → PickedStep picks p step x.second.object.gfid (the_make x.first.path lines) → PickedRename picks p (second_left step x) x lines
      go (walking.Looking s) e k = subst (λ (y : WalkStep). PickedStep picks p y x.second.object.gfid (the_make x.first.path lines)) (sym e) k
      go (walking.Naming b) e k = subst (λ (y : WalkStep). PickedStep picks p y x.second.object.gfid (the_make x.first.path lines)) (sym e) k
      go walking.Arrived e none = arrived x lines (is_dir x.second.object.what)
      go (walking.Stopped why) e k = stop_ends picks p why lines

  first_moved : (x : Paths) (lines : Work) → PickedWalk picks p x.second (the_make x.first.path lines) → PickedWalk picks p x.first lines → PickedRename picks p (after_first x) x lines
  first_moved x lines second k = go x.first.step refl k
    where
      led : (d : Bool) → PickedRename picks p (if d then Ending reply.IsDir else after_second x) x lines
      led true = tt
      led false = second_moved x lines second

      go : (step : WalkStep) → x.first.step ≡ step → PickedStep picks p step x.first.object.gfid lines → PickedRename picks p (first_left step x) x lines
      go (walking.Looking s) e k = subst (λ (y : WalkStep). PickedStep picks p y x.first.object.gfid lines) (sym e) k
      go (walking.Naming b) e k = subst (λ (y : WalkStep). PickedStep picks p y x.first.object.gfid lines) (sym e) k
      go walking.Arrived e none = led (is_dir x.first.object.what)
      go (walking.Stopped why) e k = stop_ends picks p why lines

  -- ---- under the locks of a name
  found_picked : (g : Gfid) (t : TransactionProgress) (why : Option Refusal) (w : Work) → PickedUnder picks p g t (found_by why) w
  found_picked g t None w = tt
  found_picked g t (Some why) w = tt

  under_more : (change : Change) (found : Found) (why : Option Refusal) (asked : Request) (told : Told) (at : ℕ) (t : TransactionProgress) (w : Work) (picked : Option BrickId)
      → OnChange (found_after (reader_of picked) found why t.stage) p (progress_after found why asked told at t) w → IsUnder change (progress_after found why asked told at t) (found_after (reader_of picked) found why t.stage) → Picked picks (choices_under found told at t) picked
      → PickedUnder picks p (object_of change) (progress_after found why asked told at t) (found_after (reader_of picked) found why t.stage) w
  under_more change Fits why asked told at t w picked on sound k = tt
  under_more change (Refused against) why asked told at t w picked on sound k = tt
  under_more change (Unread copy) why asked told at t w picked on sound k = go (is_beginning t.stage) on sound k
    where
      go : (e : Bool) → OnChange (if e then found_by why else Unread (reader_of picked)) p (if e then settled why (noted_read copy.0 asked told at t) else fed t.stage told at t) w
          → IsUnder change (if e then settled why (noted_read copy.0 asked told at t) else fed t.stage told at t) (if e then found_by why else Unread (reader_of picked)) → Picked picks (if e then [] else offered (fed t.stage told at t)) picked
          → PickedUnder picks p (object_of change) (if e then settled why (noted_read copy.0 asked told at t) else fed t.stage told at t) (if e then found_by why else Unread (reader_of picked)) w
      go true on sound k = found_picked (object_of change) (settled why (noted_read copy.0 asked told at t)) why w
      go false on sound k = under_picked picks p (object_of change) (fed t.stage told at t) picked w on.0.tells (ap object_of sound.of) sound.reads k

  -- ---- a line of a rename
  module _ (c : Command) (m : Renaming) (lines : Work) (a : ActorId) (b : BrickId) (request : Request) (picked : Option BrickId) (heard : Answer) (took : Bool) (log : List Line) (at : ℕ) where
    abbrev more : Work
    more = (Ask a b request (told_by heard) took, log) ∷ lines

    abbrev chosen : BrickId
    chosen = reader_of picked

    abbrev own : List NameId
    own = m.paths.first.path

    abbrev x : RenameStage → Paths
    x stage = paths_after chosen stage heard at m.paths

    abbrev now : RenameStage → RenameStage
    now stage = stage_after chosen stage heard at (x stage)

    finding : IsRename m.paths Finding → TellsIn p Finding m.paths lines → next.Ask (next_in m.paths.first).0 (next_in m.paths.first).1 ≡ next.Ask b request → Picked picks (walks.choices_of heard m.paths.first) picked → PickedWalk picks p m.paths.first lines
        → PickedRename picks p (now Finding) (x Finding) more
    finding sound k e answers was =
        ask_same (λ y r. PickedRename picks p (now Finding) (x Finding) ((Ask a y r (told_by heard) took, log) ∷ lines)) (next_in m.paths.first).0 b (next_in m.paths.first).1 request e
        (first_moved (x Finding) ((Ask a (next_in m.paths.first).0 (next_in m.paths.first).1 (told_by heard) took, log) ∷ lines) second
        (walk_picked picks p (command.Stat own) m.paths.first lines a picked heard took log at sound.paths.first sound.sound k.tells answers was))
      where
        none : the_make own ((Ask a (next_in m.paths.first).0 (next_in m.paths.first).1 (told_by heard) took, log) ∷ lines) ≡ []
        none = make_waits own (Ask a (next_in m.paths.first).0 (next_in m.paths.first).1 (told_by heard) took, log) lines (not_all_asked p m.paths lines k sound.paths.first sound.sound) (finds_again p m.paths lines k sound.paths.first sound.sound a (told_by heard) took)

        -- the second walk waits, and no line is its own yet
        waits : PickedWalk picks p (x Finding).second []
        waits = subst (λ (w : Walk). PickedStep picks p w.step w.object.gfid []) (sym k.waits) (walk_begins picks p p.shape (length m.paths.second.path) (walk_from p.shape m.paths.second.path).object)

        second : PickedWalk picks p (x Finding).second (the_make (walked chosen heard at m.paths.first).path ((Ask a (next_in m.paths.first).0 (next_in m.paths.first).1 (told_by heard) took, log) ∷ lines))
        second = subst (λ (names : List NameId). PickedWalk picks p (x Finding).second (the_make names ((Ask a (next_in m.paths.first).0 (next_in m.paths.first).1 (told_by heard) took, log) ∷ lines))) (sym (walked_path chosen heard at m.paths.first))
            (subst (λ (v : Work). PickedWalk picks p (x Finding).second v) (sym none) waits)

    walking_on : IsRename m.paths Walking → TellsIn p Walking m.paths lines → next.Ask (next_in m.paths.second).0 (next_in m.paths.second).1 ≡ next.Ask b request → Picked picks (walks.choices_of heard m.paths.second) picked
        → PickedWalk picks p m.paths.second (the_make own lines) → PickedRename picks p (now Walking) (x Walking) more
    walking_on sound k e answers was =
        ask_same (λ y r. PickedRename picks p (now Walking) (x Walking) ((Ask a y r (told_by heard) took, log) ∷ lines)) (next_in m.paths.second).0 b (next_in m.paths.second).1 request e
        (second_moved (x Walking) ((Ask a (next_in m.paths.second).0 (next_in m.paths.second).1 (told_by heard) took, log) ∷ lines)
        (subst (λ (v : Work). PickedWalk picks p (walked chosen heard at m.paths.second) v) (sym grows)
        (walk_picked picks p (command.Ls m.paths.second.path) m.paths.second (the_make own lines) a picked heard took log at sound.paths.second sound.sound.0 k.tells.tells answers was)))
      where
        grows : the_make own ((Ask a (next_in m.paths.second).0 (next_in m.paths.second).1 (told_by heard) took, log) ∷ lines) ≡ (Ask a (next_in m.paths.second).0 (next_in m.paths.second).1 (told_by heard) took, log) ∷ the_make own lines
        grows = make_grows own (Ask a (next_in m.paths.second).0 (next_in m.paths.second).1 (told_by heard) took, log) lines k.on.walked.all k.on.first (walks_again p m.paths lines k sound.paths.second sound.sound.0 a (told_by heard) took)

    making : (t : TransactionProgress) (found : Found) → TellsIn p (now (Making t found)) m.paths more → IsSound m.paths (now (Making t found)) → Picked picks (choices_at (Making t found) heard at m.paths) picked → PickedRename picks p (now (Making t found)) m.paths more
    making t found tells sound answers = go (is_done t) tells sound answers
      where
        go : (done : Bool) → TellsIn p (if done then second_begun (told_by heard) at m.paths t else making_after chosen found heard at m.paths t) m.paths more
            → IsSound m.paths (if done then second_begun (told_by heard) at m.paths t else making_after chosen found heard at m.paths t) → Picked picks (if done then [] else choices_under found (told_by heard) at t) picked
            → PickedRename picks p (if done then second_begun (told_by heard) at m.paths t else making_after chosen found heard at m.paths t) m.paths more
        go true tells sound answers = λ e. absurd (let f = after_lock (told_by heard) at (turned m.paths t) in cc (e, f))
        go false tells sound answers = under_more (making_of m.paths m.paths.second.object.gfid) found (against_new heard) (reads_new m.paths) (told_by heard) at t (the_make own more) picked tells.tells.on sound.under answers

    pub rename_picked : IsRename m.paths m.stage → RenameTells p c m lines → next_of at m ≡ next.Ask b request → RenameTells p c (answered chosen heard at m) more → IsRename (answered chosen heard at m).paths (answered chosen heard at m).stage
        → Picked picks (choices_at m.stage heard at m.paths) picked → PickedRename picks p m.stage m.paths lines → PickedRename picks p (answered chosen heard at m).stage (answered chosen heard at m).paths more
    rename_picked sound k e tells kept answers was = by m.stage sound k.stage e tells.stage kept.sound answers was
      where
        by : (stage : RenameStage) → IsRename m.paths stage → TellsIn p stage m.paths lines → next_at at stage m.paths ≡ next.Ask b request → TellsIn p (now stage) (x stage) more → IsSound (x stage) (now stage) → Picked picks (choices_at stage heard at m.paths) picked
            → PickedRename picks p stage m.paths lines → PickedRename picks p (now stage) (x stage) more
        by Finding sound k e tells kept answers was = finding sound k e answers was
        by Walking sound k e tells kept answers was = walking_on sound k e answers was
        by (Making t found) sound k e tells kept answers was = making t found tells kept answers
        by (Removing t found) sound k e tells kept answers was = under_more (removal_of m.paths) found (against_old m.paths.first.object.gfid heard) (reads_old m.paths) (told_by heard) at t (the_removal own more) picked tells.tells.on kept.under answers
        by (Ending said) sound k e tells kept answers was = absurd (cc e)

  -- ---- a Begin line leaves all as it was
  pub looks_same : (g : Gfid) (v w : Work) (b : ℕ) → looked_by g v ≡ looked_by g w → PicksOf picks p g Names v b → PicksOf picks p g Names w b
  looks_same g v w b e was = subst (λ (l : Looked). picks (model.candidates_of p.shape Names l) b) e was

  under_begun : (g : Gfid) (t : TransactionProgress) (found : Found) (v w : Work) (at : ℕ) → looked_by g v ≡ looked_by g w → PickedUnder picks p g t found v → PickedUnder picks p g (progress_begun found at t) found w
  under_begun g t (Unread b) v w at e was = λ h. looks_same g v w b.0 e (was h)
  under_begun g t Fits v w at e was = tt
  under_begun g t (Refused why) v w at e was = tt

  pub rename_begun : (m : Renaming) (lines : Work) (a : ActorId) (change : Change) (log : List Line) (at : ℕ) → PickedRename picks p m.stage m.paths lines → PickedRename picks p (stage_begun m.stage at) m.paths ((Begin a change, log) ∷ lines)
  rename_begun m lines a change log at was = by m.stage was
    where
      by : (stage : RenameStage) → PickedRename picks p stage m.paths lines → PickedRename picks p (stage_begun stage at) m.paths ((Begin a change, log) ∷ lines)
      by Finding was = walk_begun picks p m.paths.first lines a change log was
      by Walking was = make_begun m.paths.first.path a change log lines (λ v. PickedWalk picks p m.paths.second v) (λ v k. walk_begun picks p m.paths.second v a change log k) was
      by (Making t found) was =
          make_begun m.paths.first.path a change log lines (λ v. PickedUnder picks p m.paths.second.object.gfid (progress_begun found at t) found v)
          (λ v k. looked_on v k) (under_begun m.paths.second.object.gfid t found (the_make m.paths.first.path lines) (the_make m.paths.first.path lines) at refl was)
        where
          looked_on : (v : Work) → PickedUnder picks p m.paths.second.object.gfid (progress_begun found at t) found v → PickedUnder picks p m.paths.second.object.gfid (progress_begun found at t) found ((Begin a change, log) ∷ v)
          looked_on v k = on found k
            where
              on : (f : Found) → PickedUnder picks p m.paths.second.object.gfid (progress_begun found at t) f v → PickedUnder picks p m.paths.second.object.gfid (progress_begun found at t) f ((Begin a change, log) ∷ v)
              on (Unread b) k = k
              on Fits k = tt
              on (Refused why) k = tt
      by (Removing t found) was = under_begun m.paths.dir t found (the_removal m.paths.first.path lines) (the_removal m.paths.first.path ((Begin a change, log) ∷ lines)) at (sym (removal_looked m.paths.first.path a change log lines m.paths.dir)) was
      by (Ending said) was = end_begun picks p said lines a change log was
