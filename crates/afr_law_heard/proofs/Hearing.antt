-- A client hears what its machine asks of the bricks' answers, by where the machine stands.
use Rattle.std.proofs.Common.{◌≡◌, ℕ, Bool, true, false, List, length, refl, ap, subst, if◌then◌else◌}
use Rattle.afr_base.specs.Bricks.{is_nothing}
use Rattle.afr_base.specs.declared.ids.BrickId.{BrickId}
use Rattle.afr_base.specs.declared.ids.Gfid.{Gfid}
use Rattle.afr_base.specs.declared.ids.Kind.TheVariants.{Names}
use Rattle.afr_client_read.specs.Job.{kind_of, request_of}
use Rattle.afr_client_read.specs.Lookup as reading
use Rattle.afr_client_read.specs.declared.job.Wanted.{Wanted}
use Rattle.afr_client_read.specs.declared.job.Wanted.TheVariants as content
use Rattle.afr_client_read.specs.declared.stage.LookupStage.{LookupStage}
use Rattle.afr_client_read.specs.declared.stage.LookupStage.TheVariants as lookup_stage
use Rattle.afr_law_client.proofs.Read.ReadsMore.{asks_same}
use Rattle.afr_law_client.specs.Read.ReadTelling as read_telling
use Rattle.afr_law_client.specs.Read.WalkTelling.{TellsAt}
use Rattle.afr_client_write.specs.Write as writing
use Rattle.afr_client_write.specs.declared.stage.WriteStage.{WriteStage}
use Rattle.afr_client_write.specs.declared.stage.WriteStage.TheVariants as write_stage
use Rattle.afr_lines.specs.Work.{Work as Lines, work}
use Rattle.afr_lines.specs.declared.line.Line.{Line}
use Rattle.afr_lines.specs.declared.line.Next.{Next}
use Rattle.afr_lines.specs.declared.line.Next.TheVariants as next
use Rattle.afr_lines.specs.declared.request.Request.{Request}
use Rattle.afr_lines.specs.declared.request.Request.TheVariants as request_of_kind
use Rattle.afr_model.specs.Honest.{Honest}
use Rattle.afr_model.specs.Sums.{has_object}
use Rattle.afr_object.specs.Tables.{object_of}
use Rattle.afr_object.specs.declared.entry.Entry.{Entry}
use Rattle.afr_plan.specs.declared.command.Command.{Command}
use Rattle.afr_plan.specs.declared.plan.Plan.{Plan}
use Rattle.afr_client_transaction.specs.Outcome.{reply_of}
use Rattle.afr_client_transaction.specs.Progress.{TransactionProgress, asks, request_at}
use Rattle.afr_client_transaction.specs.Progress as transaction
use Rattle.afr_client_transaction.specs.declared.stage.Stage.{Stage}
use Rattle.afr_client_transaction.specs.declared.stage.Stage.TheVariants.{Locking, Looking, Beginning, Preparing, Applying, Posting, Closing}
use Rattle.afr_client_walk.specs.Walk.{is_walking, next_in}
use Rattle.afr_client_walk.specs.Walk as walk
use Rattle.afr_client_walk.specs.declared.walk.Walk.{Walk}
use Rattle.afr_client_walk.specs.declared.walk.WalkStep.{WalkStep}
use Rattle.afr_client_walk.specs.declared.walk.WalkStep.TheVariants as walking
use Rattle.afr_law_client.specs.Write.WriteTelling.{CanHear}
use Rattle.afr_law_client.specs.Write.WriteTelling as write_telling
use Rattle.afr_law_heard.proofs.Seen.{finds_source, good_in}
use Rattle.afr_law_heard.proofs.SomeLines.{AreIn, work_in}
use Rattle.afr_law_heard.proofs.Stood.{finds_path}
use Rattle.afr_law_heard.proofs.Told.{IsAtObject, IsThere, can_answer, can_tell}
use Rattle.afr_law_heard.specs.Hears.{LookupHears, WriteHears}

-- ---- while the path is walked
-- what a walk asks is there
pub step_there : (p : Plan) (c : Command) (log : List Line) (lines : Lines) → AreIn log lines → (w : Walk) → Honest p log → (step : WalkStep) → is_walking step ≡ true → TellsAt p c step w.read w.object lines
    → IsThere p log (walk.next_at step w).0.0 (walk.next_at step w).1
step_there p c log lines is w honest (walking.Looking s) going t = record { free = refl; has = tt }
step_there p c log lines is w honest (walking.Naming b) going t = record { free = refl; has = good_in p log lines is w.object.gfid Names b.0 honest t.2.good }
step_there p c log lines is w honest walking.Arrived going t = absurd (cc going)
step_there p c log lines is w honest (walking.Stopped why) going t = absurd (cc going)

-- ---- reads
content_there : (p : Plan) (log : List Line) (g : Gfid) (b : ℕ) (of : Wanted) → has_object p log g b ≡ true → IsThere p log b (request_of g of)
content_there p log g b (content.Bytes at len) h = record { free = refl; has = h }
content_there p log g b (content.Value key) h = record { free = refl; has = h }
content_there p log g b content.Names h = record { free = refl; has = h }

pub lookup_hears : LookupHears
lookup_hears p m log a b request heard took sound k e h = can_answer p log a b request heard took h (go m.stage sound.ready k.stage e)
  where
    w : Walk
    w = m.walk

    go : (stage : LookupStage) → reading.IsStage w.shape.n w.step stage → read_telling.TellsIn p m.job stage w (work a.0 log) → reading.next_at stage w ≡ next.Ask b request → IsThere p log b.0 request
    go lookup_stage.Walking ready t e =
        asks_same (λ (x : BrickId) (r : Request). IsThere p log x.0 r) (next_in w).0 b (next_in w).1 request e (step_there p (read_telling.command_of m.job w.path) log (work a.0 log) (work_in a.0 log) w h.honest w.step ready t.step)
    go (lookup_stage.Looking s) ready t e = asks_same (λ (x : BrickId) (r : Request). IsThere p log x.0 r) (reading.asked_at (lookup_stage.Looking s) w).0 b (request_of_kind.Look w.object.gfid) request e (record { free = refl; has = tt })
    go (lookup_stage.Reading c of) ready t e =
        asks_same (λ (x : BrickId) (r : Request). IsThere p log x.0 r) c b (request_of w.object.gfid of) request e
        (content_there p log w.object.gfid c.0 of (finds_source p a.0 log w.object.gfid (kind_of m.job w.object.what) c.0 h.honest t.2))
    go (lookup_stage.Ending said) ready t e = absurd (cc e)

-- ---- changes
abbrev request_in : Next → Request
request_in (next.Ask b request) = request
request_in other = request_of_kind.Index

-- a request is that of its stage
pub asked_stage : (stage : Stage) (at : ℕ) (t : TransactionProgress) (b : BrickId) (request : Request) → transaction.next_at stage at t ≡ next.Ask b request → request_at stage t ≡ request
asked_stage Locking at t b request e = ap request_in e
asked_stage Looking at t b request e = ap request_in e
asked_stage Beginning at t b request e = absurd (cc e)
asked_stage Preparing at t b request e = ap request_in e
asked_stage Applying at t b request e = ap request_in e
asked_stage Posting at t b request e = ap request_in e
asked_stage Closing at t b request e = go (is_nothing t.register.held) e
  where
    go : (x : Bool) → (if x then next.End (reply_of t.change t.register) else asks Closing t) ≡ next.Ask b request → request_at Closing t ≡ request
    go true e = absurd (cc e)
    go false e = ap request_in e

-- its looks are at the object of the change
pub stage_object : (stage : Stage) (t : TransactionProgress) (object : Entry) → object_of t.change ≡ object.gfid → IsAtObject object (request_at stage t)
stage_object Locking t object e = tt
stage_object Looking t object e = e
stage_object Beginning t object e = e
stage_object Preparing t object e = tt
stage_object Applying t object e = tt
stage_object Posting t object e = tt
stage_object Closing t object e = tt

pub write_hears : WriteHears
write_hears p c m log a b request heard took sound k e h = go m.stage sound.ready k.stage e
  where
    w : Walk
    w = m.walk

    go : (stage : WriteStage) → writing.IsStage w stage → write_telling.TellsIn p c stage w (work a.0 log) → writing.next_at (length log) stage w ≡ next.Ask b request → CanHear stage p w.object b.0 request log heard
    go (write_stage.Walking job) ready t e =
        can_answer p log a b request heard took h
        (asks_same (λ (x : BrickId) (r : Request). IsThere p log x.0 r) (next_in w).0 b (next_in w).1 request e (step_there p c log (work a.0 log) (work_in a.0 log) w h.honest w.step ready.0 t.tells.step))
    go (write_stage.Changing t) ready k2 e =
        can_tell p log a b heard took w.object (finds_path p a.0 log _ w.object k2.led.led) request h
        (subst (IsAtObject w.object) (asked_stage t.stage (length log) t b request e) (stage_object t.stage t w.object ready.1))
    go (write_stage.Ending said) ready t e = absurd (cc e)
