-- What the rule is asked for by a rename is what its lines say, those of the part to which the look belongs.
use Rattle.std.proofs.Common.{◌≡◌, ◌∙◌, ℕ, ◌-◌, ◌<◌, nat_le, Bool, true, false, List, [], ◌∷◌, ◌++◌, Some, arith, Option, refl, sym, ap, subst, length, if◌then◌else◌}
use Rattle.std.specs.Prelude.{slice_get}
use Rattle.std.proofs.lemmas.Option.{slice_get-get_or, slice_get_within}
use Rattle.afr_base.specs.declared.ids.ActorId.{ActorId}
use Rattle.afr_base.specs.declared.ids.BrickId.{BrickId}
use Rattle.afr_base.specs.declared.ids.Gfid.{Gfid}
use Rattle.afr_base.specs.declared.ids.NameId.{NameId}
use Rattle.afr_discipline.specs.Tests.{ends_low}
use Rattle.afr_client_entry.specs.Entry.{fits_stage, found_by, offered, settled}
use Rattle.afr_client_entry.specs.Job.{change_of, reply_to}
use Rattle.afr_client_entry.specs.declared.job.EntryJob.{EntryJob}
use Rattle.afr_client_entry.specs.declared.job.EntryJob.TheVariants.{Create, Unlink}
use Rattle.afr_client_entry.specs.declared.refusal.Refusal.{Refusal}
use Rattle.afr_client_entry.specs.declared.stage.Found.{Found}
use Rattle.afr_client_entry.specs.declared.stage.Found.TheVariants.{Fits, Refused, Unread}
use Rattle.afr_law_client.proofs.Entry.Changing.{IsLike}
use Rattle.afr_law_client.specs.Entry.EntryTelling.{ChangesName, OnChange, command_of}
use Rattle.afr_law_client.specs.Read.Lines.{is_look}
use Rattle.afr_lines.specs.Told.{told_by}
use Rattle.afr_lines.specs.Work.{Work}
use Rattle.afr_lines.specs.declared.answer.Answer.{Answer}
use Rattle.afr_lines.specs.declared.answer.Told.{Told}
use Rattle.afr_lines.specs.declared.line.Line.{Line}
use Rattle.afr_lines.specs.declared.line.Line.TheVariants.{Ask}
use Rattle.afr_lines.specs.declared.line.Next.TheVariants as next
use Rattle.afr_lines.specs.declared.request.Request.{Request}
use Rattle.afr_lines.specs.declared.request.Request.TheVariants as request
use Rattle.afr_model.specs.Chosen.{Picks}
use Rattle.afr_model.specs.Parts.{Makes, Part, Removes, Walks, is_again, names_asked, part_at, second_part, the_make, the_removal, the_walk}
use Rattle.afr_model.specs.Showing.{path_by}
use Rattle.afr_model.specs.Standing.{locks_any}
use Rattle.afr_model.proofs.Cut.Cut.{make_grows, removal_grows, walk_grows}
use Rattle.afr_object.specs.declared.change.Change.{Change}
use Rattle.afr_object.specs.declared.entry.Entry.{Entry}
use Rattle.afr_plan.specs.declared.command.Command.{Command}
use Rattle.afr_plan.specs.declared.command.Command.TheVariants as command
use Rattle.afr_plan.specs.declared.plan.Plan.{Plan}
use Rattle.afr_law_picks.proofs.Asked.{AsksAs, AsksOf, walk_asks}
use Rattle.afr_law_picks.proofs.AskedEntry.{fits_asks, only_closing, stage_asks, walks_front}
use Rattle.afr_law_picks.proofs.AskedFiles.{step_asked, walks_whole}
use Rattle.afr_law_picks.proofs.Asks.{ask_same}
use Rattle.afr_law_picks.specs.Picked.{PickedRename}
use Rattle.afr_law_picks.specs.Readings.{asked_at, asked_by_part, asked_for_rename, kind_here, or_before}
use Rattle.afr_client_entry.specs.Renames.Against.{against_new, against_old, half_reply}
use Rattle.afr_client_entry.specs.Renames.Paths.{front, last, reads_new, reads_old}
use Rattle.afr_client_entry.specs.Renames.Rename.{IsMaking, IsRemoving, IsRename, IsSound, Renaming, answered, choices_at, is_done, making_after, next_at, next_of, paths_after, second_begun, stage_after, turned}
use Rattle.afr_client_entry.specs.Renames.Under.{choices_under, found_after, next_under, progress_after}
use Rattle.afr_client_entry.specs.declared.renaming.paths.Paths.{Paths}
use Rattle.afr_client_entry.specs.declared.renaming.stage.RenameStage.{RenameStage}
use Rattle.afr_client_entry.specs.declared.renaming.stage.RenameStage.TheVariants.{Ending, Finding, Making, Removing, Walking}
use Rattle.afr_client_entry.proofs.Renames.PathLemmas.{front_last}
use Rattle.afr_law_client.proofs.Rename.Cut.{line_makes, line_removes, line_walks, not_again}
use Rattle.afr_law_client.proofs.Rename.Walks.{finds_again, finds_walk, not_all_asked, walks_again}
use Rattle.afr_law_client.specs.Rename.RenameTelling.{DropsOldName, MakesNewName as MakesName, Removes as RemovesName, RenameTells, TellsIn, old_dir, to_of}
use Rattle.afr_rule.specs.declared.candidate.Candidate.{Candidate}
use Rattle.afr_client_transaction.specs.Between.{noted_read}
use Rattle.afr_client_transaction.specs.Outcome.{outcome_of}
use Rattle.afr_client_transaction.specs.Progress as transaction
use Rattle.afr_client_transaction.specs.Progress.{TransactionProgress, fed, is_beginning, is_over}
use Rattle.afr_client_transaction.specs.Sound.{Sound}
use Rattle.afr_client_transaction.specs.declared.stage.Stage.TheVariants.{Locking}
use Rattle.afr_client_walk.specs.Walk.{choices_of, next_in}

-- ---- by the part of a line
module _ (p : Plan) (from to : List NameId) (lines : Work) (a : ActorId) (b : BrickId) (told : Told) (took : Bool) (log : List Line) (copies : List Candidate) (v : Work) where
  abbrev more : Request → Work
  more asked = (Ask a b asked told took, log) ∷ lines

  abbrev said_by : Part → Gfid → List (ℕ × ℕ)
  said_by part g = or_before (asked_by_part part p from to (Ask a b (request.Look g) told took) (more (request.Look g))) (asked_for_rename p from to lines)

  pub to_walk : (asked : Request) → (is_look asked ≡ true → part_at from (Ask a b asked told took) lines ≡ Walks) → (is_look asked ≡ true → the_walk from (more asked) ≡ v) → AsksAs p (command.Stat from) asked v copies → AsksOf p (command.Rename from to) asked (more asked) copies
  to_walk (request.Look g) part is k = ap (λ (q : Part). said_by q g) (part refl) ∙ ap (λ (u : Work). asked_at p (command.Stat from) g (kind_here (command.Stat from) (path_by p u)) u) (is refl) ∙ k
  to_walk asked part is k = k

  pub to_make : (asked : Request) → (is_look asked ≡ true → part_at from (Ask a b asked told took) lines ≡ Makes) → (is_look asked ≡ true → the_make from (more asked) ≡ v) → AsksAs p (command.Create to) asked v copies → AsksOf p (command.Rename from to) asked (more asked) copies
  to_make (request.Look g) part is k = ap (λ (q : Part). said_by q g) (part refl) ∙ ap (λ (u : Work). asked_at p (command.Create to) g (kind_here (command.Create to) (path_by p u)) u) (is refl) ∙ k
  to_make asked part is k = k

  pub to_removal : (asked : Request) → (is_look asked ≡ true → part_at from (Ask a b asked told took) lines ≡ Removes) → (is_look asked ≡ true → the_removal from (more asked) ≡ v) → AsksAs p (command.Unlink from) asked v copies → AsksOf p (command.Rename from to) asked (more asked) copies
  to_removal (request.Look g) part is k = ap (λ (q : Part). said_by q g) (part refl) ∙ ap (λ (u : Work). asked_at p (command.Unlink from) g (kind_here (command.Unlink from) (path_by p u)) u) (is refl) ∙ k
  to_removal asked part is k = k

look_no_lock : (a : ActorId) (b : BrickId) (asked : Request) (told : Told) (took : Bool) → is_look asked ≡ true → locks_any (Ask a b asked told took) ≡ false
look_no_lock a b (request.Look g) told took e = refl
look_no_lock a b asked told took e = absurd (cc e)

-- a line of the first transaction
not_second : (x : Line × List Line) (w : Work) → second_part (x ∷ w) ≡ [] → is_again x.0 w ≡ false
not_second x w e = go (is_again x.0 w) e
  where
    go : (again : Bool) → (if again then x ∷ second_part w else []) ≡ [] → again ≡ false
    go true e = absurd (cc e)
    go false e = refl

-- ---- under the locks of a name
module _ (p : Plan) (job : EntryJob) (path : List NameId) (dir : Entry) (g : Gfid) (name : NameId) (t : TransactionProgress) (w : Work) (a : ActorId) (b : BrickId) (asked : Request) (chosen : BrickId) (told : Told) (took : Bool) (log : List Line) (at : ℕ) where
  abbrev c : Command
  c = command_of job path

  abbrev put : Work
  put = (Ask a b asked told took, log) ∷ w

  module _ (like : IsLike t.change (change_of dir.gfid job)) (low : ends_low t.change ≡ true) (why : Option Refusal) (T : TransactionProgress → Found → Type 0) (shows : (u : TransactionProgress) → T u (Unread chosen) → ChangesName p c job dir u (Unread chosen) put × Sound u) where
    pub under_as : (found : Found) → fits_stage found t.stage ≡ true → OnChange found p t w → next_under found at (request.ReadName g name) t ≡ next.Ask b asked → T (progress_after found why (request.ReadName g name) told at t) (found_after chosen found why t.stage)
        → AsksAs p c asked put (choices_under found told at t)
    under_as Fits fits on e tells = fits_asks p job path dir t w a b asked told took log at t.stage fits e
    under_as (Refused against) fits on e tells = go (is_over t.stage t) e
      where
        go : (over : Bool) → (if over then next.End (reply_to against) else transaction.next_at t.stage at t) ≡ next.Ask b asked → AsksAs p c asked put []
        go true e = absurd (cc e)
        go false e = fits_asks p job path dir t w a b asked told took log at t.stage (only_closing p job path dir t w a b asked told took log at t.stage against fits) e
    under_as (Unread copy) fits on e tells = go (is_beginning t.stage) refl e tells
      where
        go : (x : Bool) → is_beginning t.stage ≡ x → (if x then next.Ask copy (request.ReadName g name) else transaction.next_at t.stage at t) ≡ next.Ask b asked
            → T (if x then settled why (noted_read copy.0 (request.ReadName g name) told at t) else fed t.stage told at t) (if x then found_by why else Unread chosen) → AsksAs p c asked put (if x then [] else offered (fed t.stage told at t))
        go true is e tells = ask_same (λ y r. AsksAs p c r ((Ask a y r told took, log) ∷ w) []) copy b (request.ReadName g name) asked e refl
        go false is e tells = (let k = shows (fed t.stage told at t) tells in stage_asks p job path dir t w a b asked told took log at copy chosen like low on.0.tells.sets t.stage on.0.tells.during fits is e k.0 k.1)

-- the first path is the names before the old one, and that
ends_in : (path : List NameId) (name : NameId) → slice_get path (length path - 1) ≡ Some name → front path ++ name ∷ [] ≡ path
ends_in path name e = ap (λ (n : NameId). front path ++ n ∷ []) (sym same) ∙ front_last path (omega (arith, low))
  where
    low : length path - 1 < length path
    low = slice_get_within path (length path - 1) name e

    same : last path ≡ name
    same = let here = slice_get-get_or path (length path - 1) (record { 0 = 0 }) low in cc (here, e)

-- ---- a line of a rename
module _ (picks : Picks) (p : Plan) (m : Renaming) (lines : Work) (a : ActorId) (b : BrickId) (asked : Request) (chosen : BrickId) (heard : Answer) (took : Bool) (log : List Line) (at : ℕ) where
  abbrev x : Paths
  x = m.paths

  abbrev own : List NameId
  own = m.paths.first.path

  abbrev other : List NameId
  other = to_of m.paths

  abbrev here : Work
  here = (Ask a b asked (told_by heard) took, log) ∷ lines

  abbrev As : List Candidate → BrickId → Request → Type 0
  As copies y r = AsksOf p (command.Rename own other) r ((Ask a y r (told_by heard) took, log) ∷ lines) copies

  abbrev now : RenameStage → RenameStage
  now stage = stage_after chosen stage heard at (paths_after chosen stage heard at m.paths)

  finding_asks : IsRename m.paths Finding → TellsIn p Finding m.paths lines → PickedRename picks p Finding m.paths lines → As (choices_of heard m.paths.first) (next_in m.paths.first).0 (next_in m.paths.first).1
  finding_asks sound k was =
      to_walk p own other lines a (next_in m.paths.first).0 (told_by heard) took log (choices_of heard m.paths.first) ((Ask a (next_in m.paths.first).0 (next_in m.paths.first).1 (told_by heard) took, log) ∷ lines) (next_in m.paths.first).1
      (λ h. line_walks own (Ask a (next_in m.paths.first).0 (next_in m.paths.first).1 (told_by heard) took) lines again early)
      (λ h. walk_grows own (Ask a (next_in m.paths.first).0 (next_in m.paths.first).1 (told_by heard) took, log) lines early ∙ ap (λ (w : Work). (Ask a (next_in m.paths.first).0 (next_in m.paths.first).1 (told_by heard) took, log) ∷ w) (finds_walk p m.paths lines k sound.paths.first sound.sound))
      (walk_asks p (command.Stat own) (command.Stat own) m.paths.first lines a heard took log sound.paths.first sound.sound k.tells (walks_whole p (command.Stat own) m.paths.first lines refl refl refl) (step_asked picks p m.paths.first.step m.paths.first.object.gfid lines was))
    where
      early : nat_le (length own) (names_asked lines) ≡ false
      early = not_all_asked p m.paths lines k sound.paths.first sound.sound

      again : is_again (Ask a (next_in m.paths.first).0 (next_in m.paths.first).1 (told_by heard) took) lines ≡ false
      again = finds_again p m.paths lines k sound.paths.first sound.sound a (told_by heard) took

  walking_asks : IsRename m.paths Walking → TellsIn p Walking m.paths lines → PickedRename picks p Walking m.paths lines → As (choices_of heard m.paths.second) (next_in m.paths.second).0 (next_in m.paths.second).1
  walking_asks sound k was =
      to_make p own other lines a (next_in m.paths.second).0 (told_by heard) took log (choices_of heard m.paths.second) ((Ask a (next_in m.paths.second).0 (next_in m.paths.second).1 (told_by heard) took, log) ∷ the_make own lines) (next_in m.paths.second).1
      (λ h. line_makes own (Ask a (next_in m.paths.second).0 (next_in m.paths.second).1 (told_by heard) took) lines again k.on.walked.all)
      (λ h. make_grows own (Ask a (next_in m.paths.second).0 (next_in m.paths.second).1 (told_by heard) took, log) lines k.on.walked.all k.on.first again)
      (walk_asks p (command.Create other) (command.Ls m.paths.second.path) m.paths.second (the_make own lines) a heard took log sound.paths.second sound.sound.0 k.tells.tells (walks_front p (Create m.paths.new_name) m.paths.second (the_make own lines) k.tells.upto) (step_asked picks p m.paths.second.step m.paths.second.object.gfid (the_make own lines) was))
    where
      again : is_again (Ask a (next_in m.paths.second).0 (next_in m.paths.second).1 (told_by heard) took) lines ≡ false
      again = walks_again p m.paths lines k sound.paths.second sound.sound.0 a (told_by heard) took

  -- the making
  makes_asks : (t : TransactionProgress) (found : Found) → IsRename m.paths (Making t found) → TellsIn p (Making t found) m.paths lines → next_at at (Making t found) m.paths ≡ next.Ask b asked → TellsIn p (now (Making t found)) m.paths here → IsSound m.paths (now (Making t found))
      → As (choices_at (Making t found) heard at m.paths) b asked
  makes_asks t found sound k e tells after = go (is_done t) e tells after
    where
      like : IsLike t.change (change_of m.paths.second.object.gfid (Create m.paths.new_name))
      like = subst (λ (change : Change). IsLike change (change_of m.paths.second.object.gfid (Create m.paths.new_name))) (sym sound.sound.under.of) (record { area = refl; kind = refl; object = refl })

      low : ends_low t.change ≡ true
      low = subst (λ (change : Change). ends_low change ≡ true) (sym sound.sound.under.of) refl

      shows : (u : TransactionProgress) → MakesName p m.paths u (Unread chosen) here × IsMaking m.paths u (Unread chosen) → ChangesName p (command.Create other) (Create m.paths.new_name) m.paths.second.object u (Unread chosen) ((Ask a b asked (told_by heard) took, log) ∷ the_make own lines) × Sound u
      shows u (tells, after) = (
        subst (λ (w : Work). ChangesName p (command.Create other) (Create m.paths.new_name) m.paths.second.object u (Unread chosen) w)
            (make_grows own (Ask a b asked (told_by heard) took, log) lines k.on.walked.all k.on.first (not_second (Ask a b asked (told_by heard) took, log) lines tells.on.first)) tells.tells,
        after.under.sound,
      )

      go : (done : Bool) → (if done then transaction.next_at Locking at (turned m.paths t) else next_under found at (reads_new m.paths) t) ≡ next.Ask b asked
          → TellsIn p (if done then second_begun (told_by heard) at m.paths t else making_after chosen found heard at m.paths t) m.paths here
          → IsSound m.paths (if done then second_begun (told_by heard) at m.paths t else making_after chosen found heard at m.paths t)
          → As (if done then [] else choices_under found (told_by heard) at t) b asked
      go true e tells after = ask_same (As []) _ b _ asked e refl
      go false e tells after =
          to_make p own other lines a b (told_by heard) took log (choices_under found (told_by heard) at t) ((Ask a b asked (told_by heard) took, log) ∷ the_make own lines) asked
          (λ h. line_makes own (Ask a b asked (told_by heard) took) lines (again h) k.on.walked.all)
          (λ h. make_grows own (Ask a b asked (told_by heard) took, log) lines k.on.walked.all k.on.first (again h))
          (under_as p (Create m.paths.new_name) m.paths.second.path m.paths.second.object m.paths.second.object.gfid m.paths.new_name t (the_make own lines) a b asked chosen (told_by heard) took log at like low (against_new heard)
          (λ u f. MakesName p m.paths u f here × IsMaking m.paths u f) shows found sound.sound.under.in_turn k.tells.on e (tells, after))
        where
          again : is_look asked ≡ true → is_again (Ask a b asked (told_by heard) took) lines ≡ false
          again h = not_again (Ask a b asked (told_by heard) took) lines k.on.first (look_no_lock a b asked (told_by heard) took h)

  -- the removal
  removes_asks : (t : TransactionProgress) (found : Found) → IsRename m.paths (Removing t found) → TellsIn p (Removing t found) m.paths lines → next_at at (Removing t found) m.paths ≡ next.Ask b asked → TellsIn p (now (Removing t found)) m.paths here → IsSound m.paths (now (Removing t found))
      → As (choices_under found (told_by heard) at t) b asked
  removes_asks t found sound k e tells after = go (is_over t.stage t) e
    where
      whole : front own ++ m.paths.old_name ∷ [] ≡ own
      whole = ends_in own m.paths.old_name sound.paths.old

      grows : the_removal own here ≡ (Ask a b asked (told_by heard) took, log) ∷ the_removal own lines
      grows = removal_grows own (Ask a b asked (told_by heard) took, log) lines k.walked.all (k.again (Ask a b asked (told_by heard) took))

      like : IsLike t.change (change_of m.paths.dir (Unlink m.paths.old_name))
      like = subst (λ (change : Change). IsLike change (change_of m.paths.dir (Unlink m.paths.old_name))) (sym sound.sound.under.of) (record { area = refl; kind = refl; object = refl })

      low : ends_low t.change ≡ true
      low = subst (λ (change : Change). ends_low change ≡ true) (sym sound.sound.under.of) refl

      as_unlink : (u : TransactionProgress) (w : Work) → DropsOldName p m.paths u (Unread chosen) w → ChangesName p (command.Unlink own) (Unlink m.paths.old_name) (old_dir m.paths) u (Unread chosen) w
      as_unlink u w d = record { place = d.place; directory = refl; unread = d.unread; name = d.name; on = d.on }

      shows : (u : TransactionProgress) → RemovesName p m.paths u (Unread chosen) here × IsRemoving m.paths u (Unread chosen)
          → ChangesName p (command.Unlink (front own ++ m.paths.old_name ∷ [])) (Unlink m.paths.old_name) (old_dir m.paths) u (Unread chosen) ((Ask a b asked (told_by heard) took, log) ∷ the_removal own lines) × Sound u
      shows u (tells, after) = (
        subst (λ (names : List NameId). ChangesName p (command.Unlink names) (Unlink m.paths.old_name) (old_dir m.paths) u (Unread chosen) ((Ask a b asked (told_by heard) took, log) ∷ the_removal own lines)) (sym whole)
            (subst (λ (w : Work). ChangesName p (command.Unlink own) (Unlink m.paths.old_name) (old_dir m.paths) u (Unread chosen) w) grows (as_unlink u (the_removal own here) tells.tells)),
        after.under.sound,
      )

      go : (over : Bool) → (if over then next.End (half_reply (outcome_of t.change t.register)) else next_under found at (reads_old m.paths) t) ≡ next.Ask b asked → As (choices_under found (told_by heard) at t) b asked
      go true e = absurd (cc e)
      go false e =
          to_removal p own other lines a b (told_by heard) took log (choices_under found (told_by heard) at t) ((Ask a b asked (told_by heard) took, log) ∷ the_removal own lines) asked
          (λ h. line_removes own (Ask a b asked (told_by heard) took) lines (k.again (Ask a b asked (told_by heard) took))) (λ h. grows)
          (subst (λ (names : List NameId). AsksAs p (command.Unlink names) asked ((Ask a b asked (told_by heard) took, log) ∷ the_removal own lines) (choices_under found (told_by heard) at t)) whole
          (under_as p (Unlink m.paths.old_name) (front own) (old_dir m.paths) m.paths.dir m.paths.old_name t (the_removal own lines) a b asked chosen (told_by heard) took log at like low (against_old m.paths.first.object.gfid heard)
          (λ u f. RemovesName p m.paths u f here × IsRemoving m.paths u f) shows found sound.sound.under.in_turn k.tells.on e (tells, after)))

  pub rename_asks : (c : Command) → IsRename m.paths m.stage → RenameTells p c m lines → next_of at m ≡ next.Ask b asked → RenameTells p c (answered chosen heard at m) here → IsRename (answered chosen heard at m).paths (answered chosen heard at m).stage → PickedRename picks p m.stage m.paths lines
      → AsksOf p c asked here (choices_at m.stage heard at m.paths)
  rename_asks c sound k e tells after was = subst (λ (c : Command). AsksOf p c asked here (choices_at m.stage heard at m.paths)) (sym k.named) (by m.stage sound k.stage e tells.stage after.sound was)
    where
      by : (stage : RenameStage) → IsRename m.paths stage → TellsIn p stage m.paths lines → next_at at stage m.paths ≡ next.Ask b asked → TellsIn p (now stage) (paths_after chosen stage heard at m.paths) here → IsSound (paths_after chosen stage heard at m.paths) (now stage)
          → PickedRename picks p stage m.paths lines → As (choices_at stage heard at m.paths) b asked
      by Finding sound k e tells after was = ask_same (As (choices_of heard m.paths.first)) (next_in m.paths.first).0 b (next_in m.paths.first).1 asked e (finding_asks sound k was)
      by Walking sound k e tells after was = ask_same (As (choices_of heard m.paths.second)) (next_in m.paths.second).0 b (next_in m.paths.second).1 asked e (walking_asks sound k was)
      by (Making t found) sound k e tells after was = makes_asks t found sound k e tells after
      by (Removing t found) sound k e tells after was = removes_asks t found sound k e tells after
      by (Ending said) sound k e tells after was = absurd (cc e)
