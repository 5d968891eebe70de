-- The machine of a command on a name and its lines: by its walk, its transaction and its end.
use Rattle.std.proofs.Common.{◌≡◌, ℕ, Bool, true, false, List, [], ◌∷◌, ◌++◌, length, refl, sym, ap, ◌∙◌, subst, if◌then◌else◌}
use Rattle.afr_base.specs.Bricks.{is_nothing}
use Rattle.afr_base.specs.declared.ids.ActorId.{ActorId}
use Rattle.afr_base.specs.declared.ids.BrickId.{BrickId}
use Rattle.afr_base.specs.declared.ids.NameId.{NameId}
use Rattle.afr_lines.specs.Told.{told_by}
use Rattle.afr_lines.specs.Work.{Work}
use Rattle.afr_lines.specs.declared.answer.Answer.{Answer}
use Rattle.afr_lines.specs.declared.answer.Told.{Told}
use Rattle.afr_lines.specs.declared.line.Line.{Line}
use Rattle.afr_lines.specs.declared.line.Line.TheVariants.{Ask, Begin}
use Rattle.afr_lines.specs.declared.line.Next.TheVariants as next
use Rattle.afr_lines.specs.declared.reply.Reply.{Reply}
use Rattle.afr_lines.specs.declared.request.Request.{Request}
use Rattle.afr_object.specs.declared.change.Change.{Change}
use Rattle.afr_object.specs.declared.entry.Entry.{Entry}
use Rattle.afr_plan.specs.declared.command.Command.{Command}
use Rattle.afr_plan.specs.declared.command.Command.TheVariants as command
use Rattle.afr_plan.specs.declared.plan.Plan.{Plan}
use Rattle.afr_model.specs.Answered.{IsAbout, IsAnswered}
use Rattle.afr_model.specs.Commands.{is_rmdir}
use Rattle.afr_model.specs.Keeping.{KeepsTo}
use Rattle.afr_client_transaction.specs.Outcome.{reply_of}
use Rattle.afr_client_transaction.specs.Progress.{TransactionProgress, asks, is_beginning, is_over, next_at as next_change}
use Rattle.afr_client_transaction.specs.declared.stage.Stage.{Stage}
use Rattle.afr_client_transaction.specs.declared.stage.Stage.TheVariants.{Closing}
use Rattle.afr_client_walk.specs.Choosing.{IsAmong}
use Rattle.afr_client_walk.specs.Walk.{is_walking, next_in, walked}
use Rattle.afr_client_walk.specs.Walk as walk
use Rattle.afr_client_walk.specs.declared.walk.Walk.{Walk}
use Rattle.afr_client_walk.specs.declared.walk.WalkStep.{WalkStep}
use Rattle.afr_client_walk.specs.declared.walk.WalkStep.TheVariants as walking
use Rattle.afr_client_entry.specs.Entry.{IsChanging, IsStage, after_walk, choices_at, fits_job, next_at, next_under, progress_begun, reads_name, removal_after, removal_begun, stage_after, stage_begun, walk_after}
use Rattle.afr_client_entry.specs.Job.{reply_to}
use Rattle.afr_client_entry.specs.declared.job.EntryJob.{EntryJob}
use Rattle.afr_client_entry.specs.declared.job.EntryJob.TheVariants.{Create, Mkdir, Unlink, Rmdir}
use Rattle.afr_client_entry.specs.declared.stage.EntryStage.{EntryStage}
use Rattle.afr_client_entry.specs.declared.stage.EntryStage.TheVariants.{Walking, Changing, Removes, Ending}
use Rattle.afr_client_entry.specs.declared.stage.Found.{Found}
use Rattle.afr_client_entry.specs.declared.stage.Found.TheVariants.{Unread, Fits, Refused}
use Rattle.afr_law_client.specs.Read.Lines.{CanAnswer}
use Rattle.afr_law_client.proofs.Read.ReadsMore.{asks_same}
use Rattle.afr_client_entry.specs.Removals.Removal as removal
use Rattle.afr_client_entry.specs.Removals.Removal.{Removing}
use Rattle.afr_client_entry.proofs.Removals.NoteLemmas.{asks_elsewhere, begins_there}
use Rattle.afr_law_client.specs.Removal.RemovalTelling.{RemovalTells}
use Rattle.afr_law_client.proofs.Removal.About.{about as removal_about, blames as removal_blames, ends as removal_ends}
use Rattle.afr_law_client.proofs.Removal.More.{begun_on, more as removal_more}
use Rattle.afr_law_client.specs.About.{BlamesNext}
use Rattle.afr_law_client.specs.Laws.{IsNextLine}
use Rattle.afr_law_client.proofs.About.{blames_kept}
use Rattle.afr_law_client.proofs.GivenUpLemmas.{given_up_about}
use Rattle.afr_law_client.proofs.Write.Goes.{begun_stage}
use Rattle.afr_law_client.specs.Entry.EntryLaws.{EntryAbout, EntryBegun, EntryBlames, EntryEnds, EntryTellsMore}
use Rattle.afr_law_client.specs.Entry.EntryTelling.{CanHear, ChangesName, EntryTells, TellsIn, command_of}
use Rattle.afr_law_client.proofs.Entry.Begins.{about_walk}
use Rattle.afr_law_client.proofs.Entry.Changing.{change_line, led_fits, led_unread, read_line, unrefused_fits, unrefused_unread}
use Rattle.afr_law_client.proofs.Entry.Ended.{change_end, refused_end, unread_end}
use Rattle.afr_law_client.proofs.Entry.Heard.{under_more}
use Rattle.afr_law_client.proofs.Entry.Names.{quiet}
use Rattle.afr_law_client.proofs.Entry.Under.{begun_more, name_more, place_more}
use Rattle.afr_law_client.proofs.Entry.Walks.{walks_more}

-- a change that goes on is of no rmdir
goes_plain : (job : EntryJob) (path : List NameId) → fits_job Fits job ≡ true → is_rmdir (command_of job path) ≡ false
goes_plain (Create name) path h = refl
goes_plain (Mkdir name) path h = refl
goes_plain (Unlink name) path h = refl
goes_plain (Rmdir name) path h = absurd (cc h)

module _ (p : Plan) (job : EntryJob) (w : Walk) (lines : Work) (t : TransactionProgress) where
  abbrev c : Command
  c = command_of job w.path

  abbrev dir : Entry
  dir = w.object

  -- ---- the Begin line
  under_begun : (found : Found) (a : ActorId) (change : Change) (log : List Line) → IsChanging w job t found → ChangesName p c job dir t found lines → next_under found (length log) job w t ≡ next.Begin change
      → ChangesName p c job dir (progress_begun found (length log) t) found ((Begin a change, log) ∷ lines)
  under_begun (Unread copy) a change log sound k e = absurd (go (is_beginning t.stage) refl e)
    where
      go : (x : Bool) → is_beginning t.stage ≡ x → (if x then next.Ask copy (reads_name job w) else next_change t.stage (length log) t) ≡ next.Begin change → ⊥
      go true f e = cc e
      go false f e = let g = ap is_beginning (begun_stage t.stage (length log) t change e) in cc (f, g)
  under_begun Fits a change log sound k e =
      let q = quiet p (Begin a change) log lines refl in
      record {
        place = place_more p job w.path dir (Begin a change) log lines k.place;
        directory = k.directory;
        unread = q.reading ∙ k.unread;
        name = name_more Fits p c job dir (Begin a change) log lines q (λ x e. absurd (cc e)) k.name;
        on = begun_more p lines a log t sound.sound k.on change e;
      }
  under_begun (Refused why) a change log sound k e = absurd (go (is_over t.stage t) e)
    where
      closed : next_change t.stage (length log) t ≡ next.Begin change → ⊥
      closed e = let g = begun_stage t.stage (length log) t change e in let h = k.on.closing in cc (g, h)

      go : (x : Bool) → (if x then next.End (reply_to why) else next_change t.stage (length log) t) ≡ next.Begin change → ⊥
      go true e = cc e
      go false e = closed e

  -- ---- each line under the lock
  under_line : (found : Found) (a : ActorId) (told : Told) (line : Line) (log : List Line) → IsChanging w job t found → ChangesName p c job dir t found lines → IsNextLine a (next_under found (length log) job w t) told line
      → IsAbout p c line lines × KeepsTo p c line (length log) lines
  under_line (Unread copy) a told line log sound k is = go (is_beginning t.stage) refl is
    where
      go : (x : Bool) → is_beginning t.stage ≡ x → IsNextLine a (if x then next.Ask copy (reads_name job w) else next_change t.stage (length log) t) told line → IsAbout p c line lines × KeepsTo p c line (length log) lines
      go true f (took, e) =
          subst (λ (x : Line). IsAbout p c x lines × KeepsTo p c x (length log) lines) (sym e)
          (read_line p job w lines t k.place k.directory k.unread a log copy sound k.on.0 k.name f told took)
      go false f is = change_line p job w lines t k.place k.directory k.unread a log sound.sound sound.of_job k.on.0 told line (led_unread p job w lines t k.place k.directory k.unread k.name t.stage f) is
  under_line Fits a told line log sound k is =
      change_line p job w lines t k.place k.directory k.unread a log sound.sound sound.of_job k.on told line (led_fits p job w lines t k.place k.directory k.unread (goes_plain job w.path sound.fits) k.name t.stage sound.in_turn) is
  under_line (Refused why) a told line log sound k is = go (is_over t.stage t) is
    where
      free_end : (x : Bool) → IsNextLine a (if x then next.End (reply_of t.change t.register) else asks Closing t) told line → KeepsTo p c line (length log) lines
      free_end true is = absurd is
      free_end false (took, e) = subst (λ (x : Line). KeepsTo p c x (length log) lines) (sym e) tt

      free : (stage : Stage) → stage ≡ Closing → IsNextLine a (next_change stage (length log) t) told line → KeepsTo p c line (length log) lines
      free Closing e is = free_end (is_nothing t.register.held) is
      free stage e is = absurd (cc e)

      go : (x : Bool) → IsNextLine a (if x then next.End (reply_to why) else next_change t.stage (length log) t) told line → IsAbout p c line lines × KeepsTo p c line (length log) lines
      go true is = absurd is
      go false is = (given_up_about p c lines t a told line log k.on is, free t.stage k.on.closing is)

  -- ---- who is accused
  under_blames : (found : Found) (at : ℕ) → IsChanging w job t found → ChangesName p c job dir t found lines → BlamesNext p lines (next_under found at job w t)
  under_blames (Unread copy) at sound k = go (is_beginning t.stage)
    where
      go : (x : Bool) → BlamesNext p lines (if x then next.Ask copy (reads_name job w) else next_change t.stage at t)
      go true = tt
      go false = blames_kept p lines t at sound.sound k.on.0.tells k.on.0.excused
  under_blames Fits at sound k = blames_kept p lines t at sound.sound k.on.tells k.on.excused
  under_blames (Refused why) at sound k = go (is_over t.stage t)
    where
      by_held : (x : Bool) → BlamesNext p lines (if x then next.End (reply_of t.change t.register) else asks Closing t)
      by_held true = tt
      by_held false = tt

      unlocks : (stage : Stage) → stage ≡ Closing → BlamesNext p lines (next_change stage at t)
      unlocks Closing e = by_held (is_nothing t.register.held)
      unlocks stage e = absurd (cc e)

      go : (x : Bool) → BlamesNext p lines (if x then next.End (reply_to why) else next_change t.stage at t)
      go true = tt
      go false = unlocks t.stage k.on.closing

  -- ---- the end
  under_ends : (found : Found) (at : ℕ) (said : Reply) → IsChanging w job t found → ChangesName p c job dir t found lines → next_under found at job w t ≡ next.End said → IsAnswered p c lines said
  under_ends (Unread copy) at said sound k e = go (is_beginning t.stage) e
    where
      go : (x : Bool) → (if x then next.Ask copy (reads_name job w) else next_change t.stage at t) ≡ next.End said → IsAnswered p c lines said
      go true e = absurd (cc e)
      go false e = unread_end p job w lines k.place k.directory t sound.sound sound.of_job k.on.0 k.name (unrefused_unread p job w lines t k.name).0 at said e
  under_ends Fits at said sound k e =
      let plain = goes_plain job w.path sound.fits in
      let free = unrefused_fits p job w lines t plain k.name in
      change_end p job w lines k.place k.directory t sound.sound sound.of_job plain k.on free.1 free.0 at said e
  under_ends (Refused why) at said sound k e = refused_end p job w lines k.place k.directory t sound.sound sound.of_job why k.name k.on at said e

-- ---- a removal
after_answer : (r : Removing) (chosen : BrickId) (heard : Answer) (at : ℕ) → removal.is_beginning r.stage ≡ false → removal_after chosen heard at r ≡ removal.answered chosen r.stage heard at r
after_answer r chosen heard at e = rw e refl

after_begin : (r : Removing) (at : ℕ) → removal.is_beginning r.stage ≡ true → removal_begun at r ≡ removal.begun at r
after_begin r at e = rw e refl

removes_is : (c : Command) (job : EntryJob) (path : List NameId) (name : NameId) → c ≡ command_of job path → job ≡ Rmdir name → c ≡ command.Rmdir (path ++ name ∷ [])
removes_is c job path name named is = named ∙ ap (λ (x : EntryJob). command_of x path) is

-- ---- the laws
pub more : EntryTellsMore
more p c m lines a b request chosen heard took log sound k e can among = go m.stage sound.ready k.stage e can among
  where
    w : Walk
    w = m.walk

    go : (stage : EntryStage) → IsStage w m.job stage → TellsIn p c m.job stage w lines → next_at (length log) stage m.job w ≡ next.Ask b request → CanHear stage p w.object b.0 request log heard
        → IsAmong (choices_at stage heard (length log) w) chosen
        → EntryTells p c (record { walk = walk_after chosen stage heard (length log) w; job = m.job; stage = stage_after chosen stage heard (length log) m.job (walk_after chosen stage heard (length log) w) }) ((Ask a b request (told_by heard) took, log) ∷ lines)
    go Walking ready t e can among =
        asks_same (λ (b : BrickId) (r : Request). CanAnswer p b.0 r log heard → EntryTells p c (record { walk = walked chosen heard (length log) w; job = m.job; stage = after_walk m.job (walked chosen heard (length log) w) }) ((Ask a b r (told_by heard) took, log) ∷ lines))
        (next_in w).0 b (next_in w).1 request e (λ can. walks_more p w lines a chosen heard took log sound.sound t c m.job ready k.named can among) can
    go (Changing t found) ready x e can among = record {
      shape = k.shape;
      named = k.named;
      stage = subst (λ (y : Command). TellsIn p y m.job (stage_after chosen (Changing t found) heard (length log) m.job w) w ((Ask a b request (told_by heard) took, log) ∷ lines)) (sym k.named)
          (under_more p m.job w lines a log t found ready (subst (λ (y : Command). ChangesName p y m.job w.object t found lines) k.named x) b request chosen heard took e can);
    }
    go (Removes r) ready t e can among = record {
      shape = k.shape;
      named = k.named;
      stage = record {
        name = t.name;
        is_job = t.is_job;
        tells = subst (λ (x : Removing). RemovalTells p (w.path ++ t.name ∷ []) x ((Ask a b request (told_by heard) took, log) ∷ lines)) (sym (after_answer r chosen heard (length log) (asks_elsewhere r.stage r b request e)))
            (removal_more p (w.path ++ t.name ∷ []) r lines a b request chosen heard took log ready.sound t.tells e can);
      };
    }
    go (Ending said) ready t e can among = absurd (cc e)

pub begun : EntryBegun
begun p c m lines a change chosen log sound k e = go m.stage sound.ready k.stage e
  where
    w : Walk
    w = m.walk

    go : (stage : EntryStage) → IsStage w m.job stage → TellsIn p c m.job stage w lines → next_at (length log) stage m.job w ≡ next.Begin change → EntryTells p c (record { walk = w; job = m.job; stage = stage_begun stage (length log) }) ((Begin a change, log) ∷ lines)
    go Walking ready t e = absurd (cc e)
    go (Changing t found) ready x e = record {
      shape = k.shape;
      named = k.named;
      stage = subst (λ (y : Command). TellsIn p y m.job (stage_begun (Changing t found) (length log)) w ((Begin a change, log) ∷ lines)) (sym k.named)
          (under_begun p m.job w lines t found a change log ready (subst (λ (y : Command). ChangesName p y m.job w.object t found lines) k.named x) e);
    }
    go (Removes r) ready t e = record {
      shape = k.shape;
      named = k.named;
      stage = record {
        name = t.name;
        is_job = t.is_job;
        tells = subst (λ (x : Removing). RemovalTells p (w.path ++ t.name ∷ []) x ((Begin a change, log) ∷ lines)) (sym (after_begin r (length log) (begins_there r.stage r change e)))
            (begun_on p (w.path ++ t.name ∷ []) r lines a change log ready.sound t.tells e);
      };
    }
    go (Ending said) ready t e = absurd (cc e)

pub about : EntryAbout
about p c m lines a told line log sound k is = go m.stage sound.ready k.stage is
  where
    w : Walk
    w = m.walk

    go : (stage : EntryStage) → IsStage w m.job stage → TellsIn p c m.job stage w lines → IsNextLine a (next_at (length log) stage m.job w) told line → IsAbout p c line lines × KeepsTo p c line (length log) lines
    go Walking ready t (took, e) =
        subst (λ (x : Line). IsAbout p c x lines × KeepsTo p c x (length log) lines) (sym e)
        (subst (λ (x : Command). IsAbout p x (Ask a (next_in w).0 (next_in w).1 told took) lines × KeepsTo p x (Ask a (next_in w).0 (next_in w).1 told took) (length log) lines) (sym k.named)
        (about_walk p m.job w.path w lines a told took (length log) refl sound.sound ready t.tells t.upto))
    go (Changing t found) ready x is =
        subst (λ (y : Command). IsAbout p y line lines × KeepsTo p y line (length log) lines) (sym k.named)
        (under_line p m.job w lines t found a told line log ready (subst (λ (y : Command). ChangesName p y m.job w.object t found lines) k.named x) is)
    go (Removes r) ready t is =
        subst (λ (y : Command). IsAbout p y line lines × KeepsTo p y line (length log) lines) (sym (removes_is c m.job w.path t.name k.named t.is_job))
        (removal_about p (w.path ++ t.name ∷ []) r lines a told line log ready.sound t.tells is)
    go (Ending said) ready t is = absurd is

pub blames : EntryBlames
blames p c m lines at sound k = go m.stage sound.ready k.stage
  where
    by_step : (step : WalkStep) → is_walking step ≡ true → BlamesNext p lines (next.Ask (walk.next_at step m.walk).0 (walk.next_at step m.walk).1)
    by_step (walking.Looking s) h = tt
    by_step (walking.Naming b) h = tt
    by_step walking.Arrived h = absurd (cc h)
    by_step (walking.Stopped why) h = absurd (cc h)

    go : (stage : EntryStage) → IsStage m.walk m.job stage → TellsIn p c m.job stage m.walk lines → BlamesNext p lines (next_at at stage m.job m.walk)
    go Walking ready t = by_step m.walk.step ready
    go (Changing t found) ready x = under_blames p m.job m.walk lines t found at ready (subst (λ (y : Command). ChangesName p y m.job m.walk.object t found lines) k.named x)
    go (Removes r) ready t = removal_blames p (m.walk.path ++ t.name ∷ []) r lines ready.sound t.tells
    go (Ending said) ready t = tt

pub ends : EntryEnds
ends p c m lines at said sound k e = go m.stage sound.ready k.stage e
  where
    go : (stage : EntryStage) → IsStage m.walk m.job stage → TellsIn p c m.job stage m.walk lines → next_at at stage m.job m.walk ≡ next.End said → IsAnswered p c lines said
    go Walking ready t e = absurd (cc e)
    go (Changing t found) ready x e =
        subst (λ (y : Command). IsAnswered p y lines said) (sym k.named)
        (under_ends p m.job m.walk lines t found at said ready (subst (λ (y : Command). ChangesName p y m.job m.walk.object t found lines) k.named x) e)
    go (Removes r) ready t e =
        subst (λ (y : Command). IsAnswered p y lines said) (sym (removes_is c m.job m.walk.path t.name k.named t.is_job)) (removal_ends p (m.walk.path ++ t.name ∷ []) r lines said t.tells e)
    go (Ending x) ready t e = let same : x ≡ said = cc e in subst (λ (y : Reply). IsAnswered p c lines y) same t
