-- A read asks a copy that the rule picked by the last looks of its lines, and a stat tells the length that one showed.
use Rattle.std.proofs.Common.{◌≡◌, ℕ, ◌≤◌, ◌==◌, Bool, true, false, List, [], ◌∷◌, Option, refl, sym, ap, subst, length, if◌then◌else◌}
use Rattle.afr_base.specs.Bricks.{added, is_nothing, lowest}
use Rattle.afr_base.specs.declared.ids.ActorId.{ActorId}
use Rattle.afr_base.specs.declared.ids.BrickId.{BrickId}
use Rattle.afr_base.specs.declared.ids.Kind.{Kind}
use Rattle.afr_base.specs.declared.ids.NameId.{NameId}
use Rattle.afr_base.specs.declared.ids.Shape.{Shape}
use Rattle.afr_base.specs.declared.ids.What.{What}
use Rattle.afr_base.specs.declared.ids.What.TheVariants.{Dir, File}
use Rattle.afr_choice.specs.Verdict.{verdict_of}
use Rattle.afr_choice.specs.declared.looked.Looked.{Looked}
use Rattle.afr_choice.specs.declared.verdict.Verdict.{Verdict}
use Rattle.afr_choice.specs.declared.verdict.Verdict.TheVariants.{Bare, Short, Sources, Split}
use Rattle.afr_client_read.specs.Job.{kind_of, reply_to, request_of}
use Rattle.afr_client_read.specs.Lookup.{IsLookup, IsStage, Lookup, after_step, after_walk, answered, asked_at, at_object, choices_at, choices_of, from_copy, is_asking, lookup_from, object_judged, object_looked, stage_after, walk_after}
use Rattle.afr_client_read.specs.declared.job.Wanted.{Wanted}
use Rattle.afr_client_read.specs.declared.job.Wanted.TheVariants as content
use Rattle.afr_client_read.specs.declared.job.LookupJob.{LookupJob}
use Rattle.afr_client_read.specs.declared.job.LookupJob.TheVariants.{GetAttr, Ls, Read, Stat}
use Rattle.afr_client_read.specs.declared.stage.LookupStage.{LookupStage}
use Rattle.afr_client_read.specs.declared.stage.LookupStage.TheVariants.{Ending, Looking, Reading, Walking}
use Rattle.afr_law_client.proofs.Read.LookHeard.{LookTells, look_known, look_line}
use Rattle.afr_law_client.specs.Read.ReadTelling.{IsNamed, ReadTells, TellsIn, command_of}
use Rattle.afr_lines.specs.Told.{told_by}
use Rattle.afr_lines.specs.Work.{Work, work}
use Rattle.afr_lines.specs.declared.answer.Answer.{Answer}
use Rattle.afr_lines.specs.declared.answer.Answer.TheVariants as answer
use Rattle.afr_lines.specs.declared.answer.Told.{Told}
use Rattle.afr_lines.specs.declared.line.Line.{Line}
use Rattle.afr_lines.specs.declared.line.Line.TheVariants.{Ask, Begin, End}
use Rattle.afr_lines.specs.declared.reply.Good.TheVariants as good
use Rattle.afr_lines.specs.declared.reply.Reply.{Reply}
use Rattle.afr_lines.specs.declared.reply.Reply.TheVariants as reply
use Rattle.afr_lines.specs.declared.request.Request.TheVariants as request
use Rattle.afr_model.specs.Chosen.{Picks, ReadsPicked}
use Rattle.afr_model.specs.Commands.{kind_looked}
use Rattle.afr_model.specs.Showing.{among, looked_by}
use Rattle.afr_object.specs.Tables.{is_dir, is_file}
use Rattle.afr_object.specs.declared.change.Change.{Change}
use Rattle.afr_object.specs.declared.entry.Entry.{Entry}
use Rattle.afr_plan.specs.declared.command.Command.TheVariants as command
use Rattle.afr_plan.specs.declared.plan.Plan.{Plan}
use Rattle.afr_law_picks.proofs.Rule.{Picked, source_picked}
use Rattle.afr_law_picks.proofs.Walk.{picked_by_lines, walk_begins, walk_begun, walk_picked, walk_reads}
use Rattle.afr_law_picks.specs.Picked.{PickedEnd, PickedRead, PickedStep, PickedWalk, PicksOf}
use Rattle.afr_law_picks.specs.Readings.{looked_here}
use Rattle.afr_client_walk.specs.Choosing.{choices, choices_after, reader_of}
use Rattle.afr_client_walk.specs.Looks.{IsLooks, heard_look, left_to_look, no_look}
use Rattle.afr_client_walk.specs.Stops.{reply_of}
use Rattle.afr_client_walk.specs.Walk.{next_in, noted, walk_from, walked}
use Rattle.afr_client_walk.specs.declared.looks.Looks.{Looks}
use Rattle.afr_client_walk.specs.declared.stop.Stop.{Stop}
use Rattle.afr_client_walk.specs.declared.stop.Stop.TheVariants as stop
use Rattle.afr_client_walk.specs.declared.walk.Walk.{Walk}
use Rattle.afr_client_walk.specs.declared.walk.WalkStep.{WalkStep}
use Rattle.afr_client_walk.specs.declared.walk.WalkStep.TheVariants as walking

-- a stat goes by the numbers of what it finds
pub kind_shown : (path : List NameId) (what : What) → kind_looked (command.Stat path) what ≡ kind_of Stat what
kind_shown path File = refl
kind_shown path Dir = refl

module _ (picks : Picks) (p : Plan) where
  -- ---- where a walk leaves the read
  pub stop_ends : (why : Stop) (lines : Work) → PickedEnd picks p (reply_of why) lines
  stop_ends stop.NoEntry lines = tt
  stop_ends stop.NotDir lines = tt
  stop_ends stop.IsDir lines = tt
  stop_ends stop.NoQuorum lines = tt
  stop_ends stop.FewCopies lines = tt
  stop_ends (stop.SplitBrain views) lines = tt
  stop_ends stop.Failed lines = tt

  arrived : (job : LookupJob) (w : Walk) (lines : Work) → among looked_here lines ≡ [] → PickedRead picks p job (at_object job w.object.what) w lines
  arrived (Read at len) w lines none = go (is_dir w.object.what)
    where
      go : (d : Bool) → PickedRead picks p (Read at len) (if d then Ending reply.IsDir else Looking no_look) w lines
      go true = tt
      go false = sym none
  arrived Ls w lines none = go (is_file w.object.what)
    where
      go : (d : Bool) → PickedRead picks p Ls (if d then Ending reply.NotDir else Looking no_look) w lines
      go true = tt
      go false = sym none
  arrived (GetAttr key) w lines none = sym none
  arrived Stat w lines none = sym none

  moved : (job : LookupJob) (w : Walk) (lines : Work) → PickedWalk picks p w lines → PickedRead picks p job (after_walk job w) w lines
  moved job w lines k = go w.step refl k
    where
      go : (step : WalkStep) → w.step ≡ step → PickedStep picks p step w.object.gfid lines → PickedRead picks p job (after_step step job w) w lines
      go (walking.Looking s) e k = subst (λ (x : WalkStep). PickedStep picks p x w.object.gfid lines) (sym e) k
      go (walking.Naming b) e k = subst (λ (x : WalkStep). PickedStep picks p x w.object.gfid lines) (sym e) k
      go walking.Arrived e none = arrived job w lines none
      go (walking.Stopped why) e k = stop_ends why lines

  -- no lines, and a read that begins
  pub read_begins : (path : List NameId) (job : LookupJob) → PickedRead picks p job (lookup_from p.shape path job).stage (walk_from p.shape path) []
  read_begins path job = moved job (walk_from p.shape path) [] (walk_begins picks p p.shape (length path) (walk_from p.shape path).object)

  -- ---- the looks at the object
  module _ (w : Walk) (lines : Work) (picked : Option BrickId) where
    copy_picked : (job : LookupJob) → PicksOf picks p w.object.gfid (kind_of job w.object.what) lines (reader_of picked).0 → PickedRead picks p job (from_copy job w.object (looked_by w.object.gfid lines) (reader_of picked)) w lines
    copy_picked (Read at len) k = go (len == 0)
      where
        go : (e : Bool) → PickedRead picks p (Read at len) (if e then Ending (reply.Ok (good.Bytes [])) else Reading (reader_of picked) (content.Bytes at len)) w lines
        go true = tt
        go false = k
    copy_picked (GetAttr key) k = k
    copy_picked Ls k = k
    copy_picked Stat k = (
      (reader_of picked).0,
      subst (λ (kind : Kind). PicksOf picks p w.object.gfid kind lines (reader_of picked).0) (sym (kind_shown [] w.object.what)) k,
      refl,
    )

    judged : (job : LookupJob) → Picked picks (choices p.shape (looked_by w.object.gfid lines) (kind_of job w.object.what)) picked → (v : Verdict) → verdict_of p.shape (looked_by w.object.gfid lines) (kind_of job w.object.what) ≡ v
        → PickedRead picks p job (object_judged (reader_of picked) job w.object v (looked_by w.object.gfid lines)) w lines
    judged job k Short e = tt
    judged job k Bare e = tt
    judged job k Split e = tt
    judged job k (Sources s) e = copy_picked job (source_picked picks p.shape (looked_by w.object.gfid lines) (kind_of job w.object.what) s picked e k)

    looked_at : (job : LookupJob) (after : Looks) → LookTells p w.read w.object after lines → after.asked ≡ among looked_here lines → Picked picks (choices_after p.shape (kind_of job w.object.what) after) picked
        → PickedRead picks p job (object_looked (reader_of picked) p.shape job w.object after) w lines
    looked_at job after known asked k = go (is_nothing (left_to_look p.shape.n after)) refl
      where
        kind : Kind
        kind = kind_of job w.object.what

        go : (e : Bool) → is_nothing (left_to_look p.shape.n after) ≡ e
            → PickedRead picks p job (if e then object_judged (reader_of picked) job w.object (verdict_of p.shape after.looked kind) after.looked else Looking after) w lines
        go true over =
            subst (λ (x : Looked). PickedRead picks p job (object_judged (reader_of picked) job w.object (verdict_of p.shape x kind) x) w lines) (sym (known.same over))
            (judged job (picked_by_lines picks p w.read w.object after lines kind picked known over k) (verdict_of p.shape (looked_by w.object.gfid lines) kind) refl)
        go false over = asked

  -- ---- a line of a read
  reply_ends : (heard : Answer) (lines : Work) → PickedEnd picks p (reply_to heard) lines
  reply_ends (answer.Bytes bytes) lines = tt
  reply_ends (answer.Names names) lines = tt
  reply_ends (answer.Value value) lines = tt
  reply_ends heard lines = tt

  pub read_picked : (m : Lookup) (lines : Work) (a : ActorId) (picked : Option BrickId) (heard : Answer) (took : Bool) (log : List Line) (at : ℕ) → IsLookup m.walk m.stage → is_asking m.stage ≡ true → ReadTells p m lines
      → Picked picks (choices_of heard m) picked → PickedRead picks p m.job m.stage m.walk lines
      → PickedRead picks p m.job (answered (reader_of picked) heard at m).stage (answered (reader_of picked) heard at m).walk ((Ask a (asked_at m.stage m.walk).0 (asked_at m.stage m.walk).1 (told_by heard) took, log) ∷ lines)
  read_picked m lines a picked heard took log at sound asks k answers was = by m.stage asks sound.ready k.stage answers was
    where
      w : Walk
      w = m.walk

      few : p.shape.n ≤ 5
      few = subst (λ (x : Shape). x.n ≤ 5) k.shape sound.sound.few

      by : (stage : LookupStage) → is_asking stage ≡ true → IsStage m.walk.shape.n m.walk.step stage → TellsIn p m.job stage m.walk lines → Picked picks (choices_at stage heard m.job m.walk) picked → PickedRead picks p m.job stage m.walk lines
          → PickedRead picks p m.job (stage_after (reader_of picked) stage heard m.job (walk_after (reader_of picked) stage heard at m.walk)) (walk_after (reader_of picked) stage heard at m.walk)
          ((Ask a (asked_at stage m.walk).0 (asked_at stage m.walk).1 (told_by heard) took, log) ∷ lines)
      by Walking asks i t answers was =
          moved m.job (walked (reader_of picked) heard at m.walk) ((Ask a (next_in m.walk).0 (next_in m.walk).1 (told_by heard) took, log) ∷ lines)
          (walk_picked picks p (command_of m.job m.walk.path) m.walk lines a picked heard took log at sound.sound i t answers was)
      by (Looking s) asks i (there, agree, but) answers was =
          subst (λ (x : Shape). PickedRead picks p m.job (object_looked (reader_of picked) x m.job m.walk.object (heard_look x.n (told_by heard) s)) (noted (asked_at (Looking s) m.walk) (told_by heard) at m.walk)
          ((Ask a (record { 0 = lowest (left_to_look x.n s) }) (request.Look m.walk.object.gfid) (told_by heard) took, log) ∷ lines)) (sym k.shape)
          (looked_at (noted (asked_at (Looking s) m.walk) (told_by heard) at m.walk) (look_line p m.walk.object a took log s (told_by heard) lines) picked m.job (heard_look p.shape.n (told_by heard) s)
          (look_known p few m.walk.read m.walk.object lines a took log s (told_by heard) (subst (λ (x : Shape). IsLooks x.n s) k.shape i) there.goes agree but)
          (ap (added (lowest (left_to_look p.shape.n s))) was)
          (subst (λ (x : Shape). Picked picks (choices_after x (kind_of m.job m.walk.object.what) (heard_look x.n (told_by heard) s)) picked) k.shape answers))
      by (Reading b of) asks i t answers was = reply_ends heard ((Ask a b (request_of m.walk.object.gfid of) (told_by heard) took, log) ∷ lines)
      by (Ending said) asks i t answers was = absurd (cc asks)

  -- ---- whom it asks
  reads_copy : (job : LookupJob) (of : Wanted) (object : Entry) (a : ActorId) (b : BrickId) (told : Told) (took : Bool) (log : List Line) → IsNamed job of → PicksOf picks p object.gfid (kind_of job object.what) (work a.0 log) b.0
      → ReadsPicked picks p (Ask a b (request_of object.gfid of) told took) log
  reads_copy (Read at len) of object a b told took log n k = subst (λ (x : Wanted). ReadsPicked picks p (Ask a b (request_of object.gfid x) told took) log) (sym n.0) (λ client. k)
  reads_copy (GetAttr key) of object a b told took log n k = subst (λ (x : Wanted). ReadsPicked picks p (Ask a b (request_of object.gfid x) told took) log) (sym n) (λ client. k)
  reads_copy Ls of object a b told took log n k = subst (λ (x : Wanted). ReadsPicked picks p (Ask a b (request_of object.gfid x) told took) log) (sym n) (λ client. k)
  reads_copy Stat of object a b told took log n k = absurd n

  pub read_reads : (m : Lookup) (a : ActorId) (told : Told) (took : Bool) (log : List Line) → IsLookup m.walk m.stage → is_asking m.stage ≡ true → ReadTells p m (work a.0 log) → PickedRead picks p m.job m.stage m.walk (work a.0 log)
      → ReadsPicked picks p (Ask a (asked_at m.stage m.walk).0 (asked_at m.stage m.walk).1 told took) log
  read_reads m a told took log sound asks k was = by m.stage asks sound.ready k.stage was
    where
      by : (stage : LookupStage) → is_asking stage ≡ true → IsStage m.walk.shape.n m.walk.step stage → TellsIn p m.job stage m.walk (work a.0 log) → PickedRead picks p m.job stage m.walk (work a.0 log)
          → ReadsPicked picks p (Ask a (asked_at stage m.walk).0 (asked_at stage m.walk).1 told took) log
      by Walking asks i t was = walk_reads picks p m.walk a told took log i was
      by (Looking s) asks i t was = tt
      by (Reading b of) asks i (there, named, source, all) was = reads_copy m.job of m.walk.object a b told took log named was
      by (Ending said) asks i t was = absurd (cc asks)

  -- what it ends with
  pub end_reads : (a : ActorId) (said : Reply) (log : List Line) → PickedEnd picks p said (work a.0 log) → ReadsPicked picks p (End a said) log
  end_reads a (reply.Ok (good.Stat entry len)) log k = k
  end_reads a said log k = tt

  -- ---- a Begin line leaves all as it was
  pub end_begun : (said : Reply) (lines : Work) (a : ActorId) (change : Change) (log : List Line) → PickedEnd picks p said lines → PickedEnd picks p said ((Begin a change, log) ∷ lines)
  end_begun (reply.Ok (good.Stat entry len)) lines a change log was = was
  end_begun said lines a change log was = tt

  pub read_begun : (m : Lookup) (lines : Work) (a : ActorId) (change : Change) (log : List Line) → PickedRead picks p m.job m.stage m.walk lines → PickedRead picks p m.job m.stage m.walk ((Begin a change, log) ∷ lines)
  read_begun m lines a change log was = by m.stage was
    where
      by : (stage : LookupStage) → PickedRead picks p m.job stage m.walk lines → PickedRead picks p m.job stage m.walk ((Begin a change, log) ∷ lines)
      by Walking was = walk_begun picks p m.walk lines a change log was
      by (Looking s) was = was
      by (Reading b of) was = was
      by (Ending said) was = end_begun said lines a change log was
