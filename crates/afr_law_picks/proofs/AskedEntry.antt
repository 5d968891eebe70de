-- What the rule is asked for by a command on a name is what its lines say.
use Rattle.std.proofs.Common.{◌≡◌, ◌∙◌, ℕ, ◌+◌, ◌<◌, ◌==◌, nat_lt, Bool, true, false, List, [], ◌∷◌, ◌++◌, None, refl, sym, ap, subst, arith, length, if◌then◌else◌}
use Rattle.std.proofs.lemmas.Bool.Decides.{nat_tests}
use Rattle.afr_base.specs.Bricks.{is_nothing, lowest}
use Rattle.afr_base.specs.Majority.{is_majority}
use Rattle.afr_base.specs.declared.ids.ActorId.{ActorId}
use Rattle.afr_base.specs.declared.ids.BrickId.{BrickId}
use Rattle.afr_base.specs.declared.ids.Kind.TheVariants.{Names}
use Rattle.afr_base.specs.declared.ids.NameId.{NameId}
use Rattle.afr_client_entry.specs.Entry.{Entering, IsChanging, IsEntry, IsStage, answered, choices_at, choices_under, fits_stage, found_by, name_noted, next_at, next_of, next_under, offered, or_removes, reads_name, settled, stage_after, walk_after}
use Rattle.afr_client_entry.specs.Job.{change_of, child_by, name_of, reply_to, ruled_out}
use Rattle.afr_client_entry.specs.declared.job.EntryJob.{EntryJob}
use Rattle.afr_client_entry.specs.declared.job.EntryJob.TheVariants.{Rmdir}
use Rattle.afr_client_entry.specs.declared.stage.EntryStage.{EntryStage}
use Rattle.afr_client_entry.specs.declared.stage.EntryStage.TheVariants.{Changing, Ending, Removes, Walking}
use Rattle.afr_client_entry.specs.declared.stage.Found.{Found}
use Rattle.afr_client_entry.specs.declared.stage.Found.TheVariants.{Fits, Refused, Unread}
use Rattle.afr_discipline.specs.Tests.{ends_low}
use Rattle.afr_law_client.proofs.Entry.Changing.{IsLike, like_same}
use Rattle.afr_law_client.proofs.Entry.Names.{upto_more}
use Rattle.afr_law_client.proofs.Entry.Words.{longer, low_is, path_is, place_upto, small_is, steps_are}
use Rattle.afr_law_client.specs.Entry.EntryTelling.{ChangesName, EntryTells, RemovesChild, TellsIn, command_of}
use Rattle.afr_lines.specs.Told.{told_by}
use Rattle.afr_lines.specs.Work.{Work}
use Rattle.afr_lines.specs.declared.answer.Answer.{Answer}
use Rattle.afr_lines.specs.declared.answer.Told.{Told}
use Rattle.afr_lines.specs.declared.answer.Told.TheVariants.{Done}
use Rattle.afr_lines.specs.declared.line.Line.{Line}
use Rattle.afr_lines.specs.declared.line.Line.TheVariants.{Ask}
use Rattle.afr_lines.specs.declared.line.Next.TheVariants as next
use Rattle.afr_lines.specs.declared.request.Request.{Request}
use Rattle.afr_lines.specs.declared.request.Request.TheVariants as request
use Rattle.afr_model.specs.Answered.{IsAbout}
use Rattle.afr_model.specs.Chosen.{Picks}
use Rattle.afr_model.specs.Commands.{path_of}
use Rattle.afr_model.specs.Refusals.{refusal}
use Rattle.afr_model.specs.Showing.{path_by}
use Rattle.afr_model.specs.Standing.{path_upto}
use Rattle.afr_object.specs.declared.change.Change.{Change}
use Rattle.afr_object.specs.declared.entry.Entry.{Entry}
use Rattle.afr_plan.specs.declared.command.Command.{Command}
use Rattle.afr_plan.specs.declared.command.Command.TheVariants as command
use Rattle.afr_plan.specs.declared.plan.Plan.{Plan}
use Rattle.afr_law_picks.proofs.Asked.{AsksAs, WalksFor, walk_asks}
use Rattle.afr_law_picks.proofs.AskedFiles.{step_asked}
use Rattle.afr_law_picks.proofs.AskedRemoval.{removal_asks}
use Rattle.afr_law_picks.proofs.AskedUnder.{under_asks}
use Rattle.afr_law_picks.proofs.Asks.{ask_same}
use Rattle.afr_law_picks.specs.Picked.{PickedEntry}
use Rattle.afr_client_entry.specs.Removals.Removal as removal
use Rattle.afr_client_entry.specs.Removals.Removal.{Removing}
use Rattle.afr_client_entry.specs.declared.removing.stage.RemovalStage.{RemovalStage}
use Rattle.afr_law_client.specs.Removal.RemovalTelling.{RemovalTells}
use Rattle.afr_rule.specs.declared.candidate.Candidate.{Candidate}
use Rattle.afr_client_transaction.specs.Outcome.{reply_of}
use Rattle.afr_client_transaction.specs.Progress as transaction
use Rattle.afr_client_transaction.specs.Progress.{TransactionProgress, answered_by, asks, fed, is_beginning, is_over, left}
use Rattle.afr_client_transaction.specs.Sound.{Sound}
use Rattle.afr_client_transaction.specs.declared.stage.Stage.{Stage}
use Rattle.afr_client_transaction.specs.declared.stage.Stage.TheVariants as stages
use Rattle.afr_law_client.specs.Tells.{During, HasSets}
use Rattle.afr_client_walk.specs.Choosing.{candidates_of}
use Rattle.afr_client_walk.specs.Walk.{choices_of, next_in}
use Rattle.afr_client_walk.specs.declared.walk.Walk.{Walk}

-- ---- the walk to the directory
-- a name that isn't the last one
before_last : (job : EntryJob) (path : List NameId) (read : ℕ) → read < length path → nat_lt read (length (path_of (command_of job path))) ≡ true
before_last job path read l =
    let e : length (path_of (command_of job path)) ≡ length path + 1 = ap (λ (names : List NameId). length names) (path_is job path) ∙ longer path (name_of job) in
    grind (arith, nat_tests, e, l)

pub walks_front : (p : Plan) (job : EntryJob) (w : Walk) (lines : Work) → path_upto (length w.path) p lines ≡ path_by p lines → WalksFor p (command_of job w.path) w lines
walks_front p job w lines upto = record {
  small = small_is job w.path;
  steps = λ l. let e = steps_are job w.path in grind (arith, nat_tests, e, l);
  names = λ l. before_last job w.path w.read l;
  place = λ line log l now was.
      place_upto p job w.path ((line, log) ∷ lines) ∙ ap (λ (k : ℕ). path_upto k p ((line, log) ∷ lines)) (steps_are job w.path) ∙ upto_more (length w.path) p lines line log w.read w.object upto was (apart l) ∙ now;
}
  where
    apart : w.read < length w.path → (w.read == length w.path) ≡ false
    apart l = grind (arith, nat_tests, l)

-- ---- under the lock of the name
module _ (p : Plan) (job : EntryJob) (path : List NameId) (dir : Entry) (t : TransactionProgress) (lines : Work) (a : ActorId) (b : BrickId) (asked : Request) (told : Told) (took : Bool) (log : List Line) (at : ℕ) where
  abbrev c : Command
  c = command_of job path

  abbrev As : List Candidate → BrickId → Request → Type 0
  As from y r = AsksAs p c r ((Ask a y r told took, log) ∷ lines) from

  -- once the name was read it looks at nothing
  pub fits_asks : (stage : Stage) → fits_stage Fits stage ≡ true → transaction.next_at stage at t ≡ next.Ask b asked → As [] b asked
  fits_asks stages.Locking f e = absurd (cc f)
  fits_asks stages.Looking f e = absurd (cc f)
  fits_asks stages.Beginning f e = absurd (cc e)
  fits_asks stages.Preparing f e = ask_same (As []) _ b _ asked e refl
  fits_asks stages.Applying f e = ask_same (As []) _ b _ asked e refl
  fits_asks stages.Posting f e = ask_same (As []) _ b _ asked e refl
  fits_asks stages.Closing f e = unlocks (is_nothing t.register.held) e
    where
      unlocks : (none : Bool) → (if none then next.End (reply_of t.change t.register) else asks stages.Closing t) ≡ next.Ask b asked → As [] b asked
      unlocks true e = absurd (cc e)
      unlocks false e = ask_same (As []) _ b _ asked e refl

  pub only_closing : (stage : Stage) (why : _) → fits_stage (Refused why) stage ≡ true → fits_stage Fits stage ≡ true
  only_closing stages.Closing why f = refl
  only_closing stages.Locking why f = absurd (cc f)
  only_closing stages.Looking why f = absurd (cc f)
  only_closing stages.Beginning why f = absurd (cc f)
  only_closing stages.Preparing why f = absurd (cc f)
  only_closing stages.Applying why f = absurd (cc f)
  only_closing stages.Posting why f = absurd (cc f)

  -- before that it is asked for at the end of the looks alone
  module _ (copy chosen : BrickId) (like : IsLike t.change (change_of dir.gfid job)) (low : ends_low t.change ≡ true) (sets : HasSets t lines) where
    abbrev There : Stage → BrickId → Request → Type 0
    There stage y r = ChangesName p c job dir (fed stage told at t) (Unread chosen) ((Ask a y r told took, log) ∷ lines)

    locks_ask : offered (fed stages.Locking told at t) ≡ []
    locks_ask = go (is_nothing (left stages.Locking x)) (is_majority x.register.shape.n x.asked.locked_on)
      where
        x : TransactionProgress
        x = answered_by stages.Locking (lowest (left stages.Locking t)) told at t

        go : (o m : Bool) → (if is_beginning (if o then (if m then stages.Looking else stages.Closing) else stages.Locking) then candidates_of (fed stages.Locking told at t).register.shape (fed stages.Locking told at t).register.looked Names else []) ≡ []
        go true true = refl
        go true false = refl
        go false m = refl

    unlocks_ask : offered (fed stages.Closing told at t) ≡ []
    unlocks_ask = go (is_nothing (fed stages.Closing told at t).register.held)
      where
        go : (o : Bool) → (if is_beginning (if o then stages.Closing else stages.Closing) then candidates_of (fed stages.Closing told at t).register.shape (fed stages.Closing told at t).register.looked Names else []) ≡ []
        go true = refl
        go false = refl

    pub stage_asks : (stage : Stage) → During stage p.shape t lines → fits_stage (Unread copy) stage ≡ true → is_beginning stage ≡ false → transaction.next_at stage at t ≡ next.Ask b asked → There stage b asked → Sound (fed stage told at t)
        → As (offered (fed stage told at t)) b asked
    stage_asks stages.Locking d f e is tells sound = ask_same (As (offered (fed stages.Locking told at t))) _ b _ asked is locks_ask
    stage_asks stages.Looking d f e is tells sound =
        ask_same (λ y r. There stages.Looking y r → As (offered (fed stages.Looking told at t)) y r) _ b _ asked is (λ tells. under_asks p job path dir t chosen lines a told took log at like low sets d tells sound) tells
    stage_asks stages.Beginning d f e is tells sound = absurd (cc e)
    stage_asks stages.Preparing d f e is tells sound = absurd (cc f)
    stage_asks stages.Applying d f e is tells sound = absurd (cc f)
    stage_asks stages.Posting d f e is tells sound = absurd (cc f)
    stage_asks stages.Closing d f e is tells sound = go (is_nothing t.register.held) is
      where
        go : (none : Bool) → (if none then next.End (reply_of t.change t.register) else asks stages.Closing t) ≡ next.Ask b asked → As (offered (fed stages.Closing told at t)) b asked
        go true is = absurd (cc is)
        go false is = ask_same (As (offered (fed stages.Closing told at t))) _ b _ asked is unlocks_ask

-- ---- a line of a command on a name
module _ (picks : Picks) (p : Plan) (m : Entering) (lines : Work) (a : ActorId) (b : BrickId) (asked : Request) (chosen : BrickId) (heard : Answer) (took : Bool) (log : List Line) (at later : ℕ) where
  abbrev of : Command
  of = command_of m.job m.walk.path

  abbrev more : Work
  more = (Ask a b asked (told_by heard) took, log) ∷ lines

  abbrev walk : EntryStage → Walk
  walk stage = walk_after chosen stage heard at m.walk

  abbrev now : EntryStage → EntryStage
  now stage = stage_after chosen stage heard at m.job (walk stage)

  abbrev removal_now : Removing → Removing
  removal_now r = if removal.is_beginning r.stage then r else removal.answered chosen r.stage heard at r

  -- the next request after it is about the command
  abbrev IsAboutNext : EntryStage → Type 0
  IsAboutNext stage = (y : BrickId) (r : Request) → next_at later (now stage) m.job (walk stage) ≡ next.Ask y r → IsAbout p of (Ask a y r Done true) more

  under : (t : TransactionProgress) (found : Found) → IsChanging m.walk m.job t found → ChangesName p of m.job m.walk.object t found lines → next_under found at m.job m.walk t ≡ next.Ask b asked → TellsIn p of m.job (now (Changing t found)) m.walk more
      → IsStage m.walk m.job (now (Changing t found)) → AsksAs p of asked more (choices_under found heard at t)
  under t Fits sound k e tells after = fits_asks p m.job m.walk.path m.walk.object t lines a b asked (told_by heard) took log at t.stage sound.in_turn e
  under t (Refused why) sound k e tells after = go (is_over t.stage t) e
    where
      go : (over : Bool) → (if over then next.End (reply_to why) else transaction.next_at t.stage at t) ≡ next.Ask b asked → AsksAs p of asked more []
      go true e = absurd (cc e)
      go false e = fits_asks p m.job m.walk.path m.walk.object t lines a b asked (told_by heard) took log at t.stage (only_closing p m.job m.walk.path m.walk.object t lines a b asked (told_by heard) took log at t.stage why sound.in_turn) e
  under t (Unread copy) sound k e tells after = go (is_beginning t.stage) refl e tells after
    where
      go : (x : Bool) → is_beginning t.stage ≡ x → (if x then next.Ask copy (reads_name m.job m.walk) else transaction.next_at t.stage at t) ≡ next.Ask b asked
          → TellsIn p of m.job (or_removes (if x then child_by m.job heard else None) (if x then settled (ruled_out m.job heard) (name_noted copy m.job m.walk (told_by heard) at t) else fed t.stage (told_by heard) at t) (if x then found_by (ruled_out m.job heard) else Unread chosen)) m.walk more
          → IsStage m.walk m.job (or_removes (if x then child_by m.job heard else None) (if x then settled (ruled_out m.job heard) (name_noted copy m.job m.walk (told_by heard) at t) else fed t.stage (told_by heard) at t) (if x then found_by (ruled_out m.job heard) else Unread chosen))
          → AsksAs p of asked more (if x then [] else offered (fed t.stage (told_by heard) at t))
      go true is e tells after = ask_same (λ y r. AsksAs p of r ((Ask a y r (told_by heard) took, log) ∷ lines) []) copy b (reads_name m.job m.walk) asked e refl
      go false is e tells after =
          stage_asks p m.job m.walk.path m.walk.object t lines a b asked (told_by heard) took log at copy chosen (like_same t.change (change_of m.walk.object.gfid m.job) sound.of_job) (subst (λ (x : Change). ends_low x ≡ true) (sym sound.of_job) (low_is m.walk.object.gfid m.job)) k.on.0.tells.sets t.stage k.on.0.tells.during sound.in_turn is e tells after.sound

  removes : (r : Removing) → RemovesChild p m.job m.walk.path r lines → removal.next_at r.stage r ≡ next.Ask b asked → RemovesChild p m.job m.walk.path (removal_now r) more → IsStage m.walk m.job (now (Removes r)) → IsAboutNext (Removes r)
      → IsStage m.walk m.job (Removes r) → AsksAs p of asked more (if removal.is_beginning r.stage then [] else removal.choices_at r.stage heard at r)
  removes r k e tells after about sound =
      subst (λ (c : Command). AsksAs p c asked more (if removal.is_beginning r.stage then [] else removal.choices_at r.stage heard at r)) (sym command_is)
      (removal_asks p path r lines a b asked chosen heard took log at sound.sound k.tells e after.sound
      (subst (λ (n : NameId). RemovalTells p (m.walk.path ++ n ∷ []) (removal_now r) more) (sym same_name) tells.tells)
      (λ is. subst (λ (c : Command). refusal p c more ≡ None) command_is (about _ (request.List (removal_now r).child.gfid) (ap (λ (s : RemovalStage). removal.next_at s (removal_now r)) is)).0.goes_on))
    where
      path : List NameId
      path = m.walk.path ++ k.name ∷ []

      command_is : of ≡ command.Rmdir (m.walk.path ++ k.name ∷ [])
      command_is = ap (λ (job : EntryJob). command_of job m.walk.path) k.is_job

      name_in : EntryJob → NameId
      name_in (Rmdir name) = name
      name_in job = k.name

      same_name : k.name ≡ tells.name
      same_name = ap name_in (sym k.is_job ∙ tells.is_job)

  pub entry_asks : IsEntry m.walk m.job m.stage → EntryTells p of m lines → next_of at m ≡ next.Ask b asked → EntryTells p of (answered chosen heard at m) more → IsEntry (answered chosen heard at m).walk m.job (answered chosen heard at m).stage → IsAboutNext m.stage
      → PickedEntry picks p m.stage m.walk lines → AsksAs p of asked more (choices_at m.stage heard at m.walk)
  entry_asks sound k e tells after about was = by m.stage sound.ready k.stage e tells.stage after.ready about was
    where
      by : (stage : EntryStage) → IsStage m.walk m.job stage → TellsIn p of m.job stage m.walk lines → next_at at stage m.job m.walk ≡ next.Ask b asked → TellsIn p of m.job (now stage) (walk stage) more → IsStage (walk stage) m.job (now stage) → IsAboutNext stage
          → PickedEntry picks p stage m.walk lines → AsksAs p of asked more (choices_at stage heard at m.walk)
      by Walking i t e tells after about was =
          ask_same (λ y r. AsksAs p of r ((Ask a y r (told_by heard) took, log) ∷ lines) (choices_of heard m.walk)) (next_in m.walk).0 b (next_in m.walk).1 asked e
          (walk_asks p of (command.Ls m.walk.path) m.walk lines a heard took log sound.sound i t.tells (walks_front p m.job m.walk lines t.upto) (step_asked picks p m.walk.step m.walk.object.gfid lines was))
      by (Changing t found) i k e tells after about was = under t found i k e tells after
      by (Removes r) i k e tells after about was = removes r k e tells after about i
      by (Ending said) i k e tells after about was = absurd (cc e)
