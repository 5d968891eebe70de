-- What goes with the requests of a client, and what its Begin lines begin.
use Rattle.std.proofs.Common.{◌≡◌, ℕ, Bool, true, false, List, Some, length, refl, sym, ap, ◌∙◌, subst, if◌then◌else◌}
use Rattle.afr_base.specs.Bricks.{is_nothing}
use Rattle.afr_base.specs.declared.ids.BrickId.{BrickId}
use Rattle.afr_base.specs.declared.ids.Gfid.{Gfid}
use Rattle.afr_base.proofs.TestLemmas.{one_value}
use Rattle.afr_client_read.specs.Job.{request_of}
use Rattle.afr_client_read.specs.Lookup as reading
use Rattle.afr_client_read.specs.declared.job.Wanted.{Wanted}
use Rattle.afr_client_read.specs.declared.job.Wanted.TheVariants as content
use Rattle.afr_client_read.specs.declared.stage.LookupStage.{LookupStage}
use Rattle.afr_client_read.specs.declared.stage.LookupStage.TheVariants as lookup_stage
use Rattle.afr_law_client.proofs.Read.ReadsMore.{asks_same}
use Rattle.afr_law_client.specs.Read.ChangeLaws.{IsChangeOf}
use Rattle.afr_client_write.specs.Write as writing
use Rattle.afr_client_write.specs.declared.stage.WriteStage.{WriteStage}
use Rattle.afr_client_write.specs.declared.stage.WriteStage.TheVariants as write_stage
use Rattle.afr_lines.specs.Log.{change_at}
use Rattle.afr_lines.specs.Work.{Work, work}
use Rattle.afr_lines.specs.declared.line.Line.{Line}
use Rattle.afr_lines.specs.declared.line.Next.{Next}
use Rattle.afr_lines.specs.declared.line.Next.TheVariants as next
use Rattle.afr_lines.specs.declared.request.Request.{Request}
use Rattle.afr_lines.specs.declared.request.Request.TheVariants as request_of_kind
use Rattle.afr_model.specs.Tables.{Past, held_before}
use Rattle.afr_object.specs.declared.change.Change.{Change}
use Rattle.afr_object.specs.declared.change.Change.TheVariants as change_of
use Rattle.afr_object.specs.declared.change.Load.{Load}
use Rattle.afr_object.specs.declared.change.Load.TheVariants as load
use Rattle.afr_object.specs.declared.entry.Entry.{Entry}
use Rattle.afr_plan.specs.declared.command.Command.{Command}
use Rattle.afr_plan.specs.declared.command.Command.TheVariants as command
use Rattle.afr_plan.specs.declared.plan.Plan.{Plan}
use Rattle.afr_server.specs.Carried.{Brings}
use Rattle.afr_client_transaction.specs.Outcome.{reply_of}
use Rattle.afr_client_transaction.specs.Made.{attempted}
use Rattle.afr_client_transaction.specs.Progress.{CarriesAt, TransactionProgress, asks, number_in, numbered, request_at}
use Rattle.afr_client_transaction.specs.Progress as transaction
use Rattle.afr_client_transaction.specs.declared.stage.Stage.{Stage}
use Rattle.afr_client_transaction.specs.declared.stage.Stage.TheVariants.{Locking, Looking, Beginning, Preparing, Applying, Posting, Closing}
use Rattle.afr_law_client.specs.Tells.{During, HasSets}
use Rattle.afr_client_walk.specs.Walk.{next_in}
use Rattle.afr_client_walk.specs.Walk as walk
use Rattle.afr_client_walk.specs.declared.walk.Walk.{Walk}
use Rattle.afr_client_walk.specs.declared.walk.WalkStep.{WalkStep}
use Rattle.afr_client_walk.specs.declared.walk.WalkStep.TheVariants as walking
use Rattle.afr_law_client.specs.Write.WriteTelling as write_telling
use Rattle.afr_law_heard.proofs.Hearing.{asked_stage}
use Rattle.afr_law_heard.proofs.SomeLines.{AreIn, work_in}
use Rattle.afr_law_heard.proofs.Stood.{change_in}
use Rattle.afr_law_heard.specs.Hears.{LookupBrings, MakesNothing, WriteBrings, WriteMakesNothing}

-- ---- reads
-- neither a walk nor a read asks for what would need a load
pub step_brings : (log : List Line) (past : Past) (w : Walk) (step : WalkStep) → Brings (walk.next_at step w).1 load.Nothing log past
step_brings log past w (walking.Looking s) = tt
step_brings log past w (walking.Naming b) = tt
step_brings log past w walking.Arrived = tt
step_brings log past w (walking.Stopped why) = tt

content_brings : (log : List Line) (past : Past) (g : Gfid) (of : Wanted) → Brings (request_of g of) load.Nothing log past
content_brings log past g (content.Bytes at len) = tt
content_brings log past g (content.Value key) = tt
content_brings log past g content.Names = tt

pub lookup_brings : LookupBrings
lookup_brings m log past b request e = go m.stage e
  where
    w : Walk
    w = m.walk

    go : (stage : LookupStage) → reading.next_at stage w ≡ next.Ask b request → Brings request load.Nothing log past
    go lookup_stage.Walking e = asks_same (λ (x : BrickId) (r : Request). Brings r load.Nothing log past) (next_in w).0 b (next_in w).1 request e (step_brings log past w w.step)
    go (lookup_stage.Looking s) e = asks_same (λ (x : BrickId) (r : Request). Brings r load.Nothing log past) (reading.asked_at (lookup_stage.Looking s) w).0 b (request_of_kind.Look w.object.gfid) request e tt
    go (lookup_stage.Reading c of) e = asks_same (λ (x : BrickId) (r : Request). Brings r load.Nothing log past) c b (request_of w.object.gfid of) request e (content_brings log past w.object.gfid of)
    go (lookup_stage.Ending said) e = absurd (cc e)

-- ---- the change of a command
-- its words make nothing
named_nothing : (c : Command) (object : Entry) (change : Change) → IsChangeOf c object change → MakesNothing change
named_nothing (command.Write path at bytes) object change k = subst MakesNothing (one_value (change_of.Write object.gfid at bytes) change k.named) tt
named_nothing (command.Cut path len) object change k = subst MakesNothing (one_value (change_of.Cut object.gfid len) change k.named) tt
named_nothing (command.SetAttr path key value) object change k = subst MakesNothing (one_value (change_of.SetAttr object.gfid key value) change k.named) tt
named_nothing other object change k = absurd (cc k.named)

-- so its Begin line has it as it is
numbered_same : (at : ℕ) (change : Change) → MakesNothing change → numbered at change ≡ change
numbered_same at (change_of.Write g start bytes) k = refl
numbered_same at (change_of.Cut g len) k = refl
numbered_same at (change_of.SetAttr g key value) k = refl
numbered_same at (change_of.Make dir name g what) k = absurd k
numbered_same at (change_of.Remove dir name what) k = refl

-- ---- what goes with a request of a change
module _ (p : Plan) (log : List Line) (w : Work) (t : TransactionProgress) (past : Past) (is : AreIn log w) (sets : HasSets t w) where
  -- with the operation goes the change of its attempt
  pub stage_brings : (stage : Stage) → During stage p.shape t w → (x : Load) → CarriesAt stage x (attempted t) → Brings (request_at stage t) x log past
  stage_brings Applying d (load.Change change) k =
      let number_is : number_in t.register.begun ≡ d.0.attempt.attempt = ap number_in (sets.number ∙ d.0.attempt.number) in
      ap (λ (n : ℕ). change_at n log) number_is
      ∙ change_in log w is d.0.attempt.attempt d.0.attempt.number
      ∙ d.0.attempt.is_change
      ∙ ap (λ (n : ℕ). Some (numbered n t.change)) (sym number_is)
      ∙ ap (λ (x : Change). Some x) (sym k)
  stage_brings Applying d other k = absurd k
  stage_brings stage d x k = tt

pub write_brings : WriteBrings
write_brings p c m log a b request carried sound k e brought = go m.stage k.stage e brought
  where
    w : Walk
    w = m.walk

    past : Past
    past = held_before p log

    go : (stage : WriteStage) → write_telling.TellsIn p c stage w (work a.0 log) → writing.next_at (length log) stage w ≡ next.Ask b request → writing.CarriesNext stage carried → Brings request carried log past
    go (write_stage.Walking job) t e h =
        let here : Brings request load.Nothing log past = asks_same (λ (x : BrickId) (r : Request). Brings r load.Nothing log past) (next_in w).0 b (next_in w).1 request e (step_brings log past w w.step) in
        subst (λ (x : Load). Brings request x log past) (sym h) here
    go (write_stage.Changing t) k2 e h =
        subst (λ (r : Request). Brings r carried log past) (asked_stage t.stage (length log) t b request e)
        (stage_brings p log (work a.0 log) t past (work_in a.0 log) k2.tells.sets t.stage k2.tells.during carried h)
    go (write_stage.Ending said) t e h = absurd (cc e)

-- ---- the Begin line
abbrev begun_in : Next → Change → Change
begun_in (next.Begin change) other = change
begun_in line other = other

stage_begins : (stage : Stage) (at : ℕ) (t : TransactionProgress) (change : Change) → MakesNothing t.change → transaction.next_at stage at t ≡ next.Begin change → MakesNothing change
stage_begins Locking at t change k e = absurd (cc e)
stage_begins Looking at t change k e = absurd (cc e)
stage_begins Beginning at t change k e = subst MakesNothing (sym (numbered_same at t.change k) ∙ ap (λ (line : Next). begun_in line t.change) e) k
stage_begins Preparing at t change k e = absurd (cc e)
stage_begins Applying at t change k e = absurd (cc e)
stage_begins Posting at t change k e = absurd (cc e)
stage_begins Closing at t change k e = absurd (go (is_nothing t.register.held) e)
  where
    go : (x : Bool) → (if x then next.End (reply_of t.change t.register) else asks Closing t) ≡ next.Begin change → ⊥
    go true e = cc e
    go false e = cc e

pub write_makes_nothing : WriteMakesNothing
write_makes_nothing p c m lines at change sound k e = go m.stage k.stage e
  where
    go : (stage : WriteStage) → write_telling.TellsIn p c stage m.walk lines → writing.next_at at stage m.walk ≡ next.Begin change → MakesNothing change
    go (write_stage.Walking job) t e = absurd (cc e)
    go (write_stage.Changing t) k2 e = stage_begins t.stage at t change (named_nothing c m.walk.object t.change k2.words) e
    go (write_stage.Ending said) t e = absurd (cc e)
