-- A write has somebody left to ask, the discipline allows what it asks, and its register notes it.
use Rattle.std.proofs.Common.{◌≡◌, ℕ, ◌&&◌, Bool, true, false, refl, sym, subst, ap, ◌∙◌, arith, inl, inr, if◌then◌else◌}
use Rattle.std.proofs.lemmas.Bool.Decides.{nat_tests}
use Rattle.afr_base.specs.Bricks.{lowest, is_nothing}
use Rattle.afr_base.specs.declared.ids.BrickId.{BrickId}
use Rattle.afr_base.specs.declared.ids.Gfid.{Gfid}
use Rattle.afr_base.specs.declared.ids.Shape.{Shape}
use Rattle.afr_object.specs.Tables.{is_dir, object_of}
use Rattle.afr_object.specs.declared.change.Change.{Change}
use Rattle.afr_lines.specs.Told.{told_by}
use Rattle.afr_lines.specs.declared.answer.Answer.{Answer}
use Rattle.afr_lines.specs.declared.answer.Told.{Told}
use Rattle.afr_lines.specs.declared.line.Heard.TheVariants as heard
use Rattle.afr_lines.specs.declared.line.Next.{Next}
use Rattle.afr_lines.specs.declared.line.Next.TheVariants as next
use Rattle.afr_lines.specs.declared.reply.Good.TheVariants as good
use Rattle.afr_lines.specs.declared.reply.Reply.TheVariants as reply
use Rattle.afr_lines.specs.declared.request.Request.{Request}
use Rattle.afr_discipline.specs.Notes.{noted_ask, noted_begin}
use Rattle.afr_discipline.specs.Stands.{no_lines}
use Rattle.afr_discipline.specs.declared.register.Move.{Move}
use Rattle.afr_discipline.specs.declared.register.Move.TheVariants as move
use Rattle.afr_discipline.specs.declared.register.Register.{Register}
use Rattle.afr_discipline.specs.declared.register.Step.TheVariants as step
use Rattle.afr_discipline.specs.Free.{Allows, IsFree, IsMoveOf}
use Rattle.afr_rule.specs.Choosing.{Calls}
use Rattle.afr_client_walk.specs.Choosing.{IsAmong, reader_of}
use Rattle.afr_client_walk.specs.Walk.{next_in, noted, walked, IsWalk}
use Rattle.afr_client_walk.specs.declared.walk.Walk.{Walk}
use Rattle.afr_client_walk.specs.declared.walk.WalkStep.{WalkStep}
use Rattle.afr_client_walk.specs.declared.walk.WalkStep.TheVariants as walking
use Rattle.afr_discipline.proofs.FreeLemmas.{allows_end, shape_is}
use Rattle.afr_client_walk.proofs.ChoosingLemmas.{answers_among}
use Rattle.afr_client_walk.proofs.WalkLemmas.{asks_allowed, is_walked, walked_notes}
use Rattle.afr_client_transaction.specs.Laws as transaction
use Rattle.afr_client_transaction.specs.Outcome.{reply_of}
use Rattle.afr_client_transaction.specs.Progress as progress
use Rattle.afr_client_transaction.specs.Progress.{TransactionProgress, asks, begun, fed, is_beginning, left, request_at, starting, told_to}
use Rattle.afr_client_transaction.specs.Sound.{IsUnused, Suits}
use Rattle.afr_client_transaction.specs.declared.stage.Stage.{Stage}
use Rattle.afr_client_transaction.specs.declared.stage.Stage.TheVariants.{Locking, Looking, Beginning, Preparing, Applying, Posting, Closing}
use Rattle.afr_client_transaction.proofs.Allowed.{allowed_moves}
use Rattle.afr_client_transaction.proofs.Kept.{asks_or_begins, kept_begin, more_left as transaction_more, sound_first, stays_sound as transaction_stays}
use Rattle.afr_client_transaction.proofs.ReadLemmas.{begins_at}
use Rattle.afr_client_transaction.proofs.NoteLemmas.{fed_change}
use Rattle.afr_client_write.specs.Job.{IsJob, change_of, is_empty, is_of_bytes}
use Rattle.afr_client_write.specs.Laws.{AllowedNext, FedIsAnswered, NotesBegin, NotesEach, StaysSound}
use Rattle.afr_client_write.specs.Write.{IsStage, IsWrite, Write, after_step, after_walk, at_object, begun_in, choices_at, choices_heard, is_over, next_at, register_at, stage_after, stage_begun, walk_after}
use Rattle.afr_client_write.specs.declared.job.WriteJob.{WriteJob}
use Rattle.afr_client_write.specs.declared.job.WriteJob.TheVariants as job
use Rattle.afr_client_write.specs.declared.stage.WriteStage.{WriteStage}
use Rattle.afr_client_write.specs.declared.stage.WriteStage.TheVariants.{Walking, Changing, Ending}

-- ---- where a transaction begins
-- a walk leaves a register that nothing was locked in
pub unused : (shape : Shape) (r : Register) → IsFree shape r → IsUnused r
unused shape r (inl e) = inl (e ∙ ap no_lines (sym (shape_is shape r (inl e))))
unused shape r (inr e) = inr (e ∙ ap (λ (s : Shape). record (no_lines s) { step = step.Open }) (sym (shape_is shape r (inr e))))

-- what a job that isn't empty changes has an area
pub suits : (g : Gfid) (j : WriteJob) → IsJob j → is_empty j ≡ false → Suits (change_of g j)
suits g (job.Write at bytes) h some = record { valid = grind (arith, nat_tests, h, some); kind = grind (arith, nat_tests, h, some) }
suits g (job.Cut len) h some = record { valid = grind (arith, nat_tests, h); kind = grind (arith, nat_tests, h) }
suits g (job.SetAttr key value) h some = record { valid = refl; kind = refl }

object_is : (g : Gfid) (j : WriteJob) → object_of (change_of g j) ≡ g
object_is g (job.Write at bytes) = refl
object_is g (job.Cut len) = refl
object_is g (job.SetAttr key value) = refl

is_at_object : (w : Walk) (j : WriteJob) → IsWalk w → IsJob j → IsStage w (at_object w.object w.register j)
is_at_object w j k fits = kind (is_of_bytes j && is_dir w.object.what)
  where
    shape : w.register.shape ≡ w.shape
    shape = shape_is w.shape w.register k.free

    some_bytes : (e : Bool) → is_empty j ≡ e → IsStage w (if e then Ending (reply.Ok good.Done) else Changing (starting (change_of w.object.gfid j) w.register))
    some_bytes true e = tt
    some_bytes false e =
        (sound_first w.register (change_of w.object.gfid j) (unused w.shape w.register k.free) (rw shape k.few) (rw shape k.some) (suits w.object.gfid j fits e), object_is w.object.gfid j)

    kind : (d : Bool) → IsStage w (if d then Ending reply.IsDir else (if is_empty j then Ending (reply.Ok good.Done) else Changing (starting (change_of w.object.gfid j) w.register)))
    kind true = tt
    kind false = some_bytes (is_empty j) refl

pub is_after_walk : (j : WriteJob) (w : Walk) → IsWalk w → IsJob j → IsWrite w (after_walk j w)
is_after_walk j w k fits = record { sound = k; ready = go w.step refl }
  where
    go : (step : WalkStep) → w.step ≡ step → IsStage w (after_step step j w)
    go (walking.Looking s) e = (rw e refl, fits)
    go (walking.Naming b) e = (rw e refl, fits)
    go walking.Arrived e = is_at_object w j k fits
    go (walking.Stopped why) e = tt

-- ---- what is asked
-- a move of a line is one for the transaction too
moves : (line : Next) (of : Move) → IsMoveOf line of → transaction.IsMoveOf line of
moves (next.Ask b request) (move.Ask c asked) is = is
moves (next.Begin change) (move.Begin of) is = is
moves (next.End said) (move.End ok) is = is
moves line of is = absurd is

allowed_at : (stage : WriteStage) (w : Walk) → IsWrite w stage → (at : ℕ) → Allows (register_at stage w) (next_at at stage w)
allowed_at (Walking j) w k at = asks_allowed w k.sound k.ready.0
allowed_at (Changing t) w k at = λ of is. allowed_moves t k.ready.0 at of (moves (next_at at (Changing t) w) of is)
allowed_at (Ending said) w k at = allows_end w.shape w.register said k.sound.free

-- whatever the bricks have answered so far, the next line is allowed
pub allowed_next : AllowedNext
allowed_next m k at = allowed_at m.stage m.walk k at

-- ---- what is heard
told_sound : (w : Walk) (t : TransactionProgress) (told : Told) (at : ℕ) → IsStage w (Changing t) → is_over (Changing t) ≡ false → IsStage w (Changing (told_to told at t))
told_sound w t told at k more = go (is_beginning t.stage)
  where
    go : (e : Bool) → IsStage w (Changing (if e then t else fed t.stage told at t))
    go true = k
    go false = (transaction_stays t k.0 more told at, ap object_of (fed_change t.stage told at t) ∙ k.1)

begun_sound : (w : Walk) (t : TransactionProgress) (at : ℕ) → IsStage w (Changing t) → IsStage w (Changing (begun_in at t))
begun_sound w t at k = go (is_beginning t.stage) refl
  where
    go : (e : Bool) → is_beginning t.stage ≡ e → IsStage w (Changing (if e then begun at t else t))
    go true e = (kept_begin t k.0 (begins_at t.stage e) at, k.1)
    go false e = k

-- where a transaction has asked, it takes the answer
pub told_answers : (stage : Stage) (told : Told) (at : ℕ) (t : TransactionProgress) (brick : BrickId) (request : Request) → progress.next_at stage at t ≡ next.Ask brick request
    → progress.answered stage told at t ≡ (if is_beginning stage then t else fed stage told at t)
told_answers Locking told at t brick request e = refl
told_answers Looking told at t brick request e = refl
told_answers Beginning told at t brick request e = absurd (cc e)
told_answers Preparing told at t brick request e = refl
told_answers Applying told at t brick request e = refl
told_answers Posting told at t brick request e = refl
told_answers Closing told at t brick request e = refl

-- where the next line is a request or a Begin line, more is left than the end
pub more_left : (stage : WriteStage) (w : Walk) (at : ℕ) → asks_or_begins (next_at at stage w) ≡ true → is_over stage ≡ false
more_left (Walking j) w at e = refl
more_left (Changing t) w at e = transaction_more t.stage t at e
more_left (Ending said) w at e = absurd (cc e)

pub kept_answer : (chosen : BrickId) (stage : WriteStage) (a : Answer) (at : ℕ) (w : Walk) → IsWrite w stage → is_over stage ≡ false → IsAmong (choices_at stage a w) chosen
    → IsWrite (walk_after chosen stage a at w) (stage_after stage a at (walk_after chosen stage a at w))
kept_answer chosen (Walking j) a at w k more among = is_after_walk j (walked chosen a at w) (is_walked chosen a at w k.sound k.ready.0 among) k.ready.1
kept_answer chosen (Changing t) a at w k more among = record { sound = k.sound; ready = told_sound w t (told_by a) at k.ready more }
kept_answer chosen (Ending said) a at w k more among = absurd (cc more)

-- a transaction's answer leaves the write sound
pub told_kept : (stage : WriteStage) (t t' : TransactionProgress) (a : Answer) (told : Told) (at : ℕ) (w : Walk) → stage ≡ Changing t → IsWrite w stage → is_over stage ≡ false → told ≡ told_by a → t' ≡ told_to told at t → IsWrite w (Changing t')
told_kept stage t t' a told at w es k more el et =
    subst (λ (x : TransactionProgress). IsWrite w (Changing x)) (sym (et ∙ ap (λ (x : Told). told_to x at t) el))
    (record { sound = k.sound; ready = told_sound w t (told_by a) at (subst (λ (x : WriteStage). IsStage w x) es k.ready) (subst (λ (x : WriteStage). is_over x ≡ false) es more) })

pub kept_begun : (stage : WriteStage) (at : ℕ) (w : Walk) → IsWrite w stage → IsWrite w (stage_begun stage at)
kept_begun (Walking j) at w k = k
kept_begun (Changing t) at w k = record { sound = k.sound; ready = begun_sound w t at k.ready }
kept_begun (Ending said) at w k = k

-- whatever is heard of the next line, a write stays sound
pub stays_sound : StaysSound
stays_sound m k more chosen (heard.Answer a at) among = kept_answer chosen m.stage a at m.walk k more among
stays_sound m k more chosen (heard.Begun at) among = kept_begun m.stage at m.walk k

-- what a write has heard by some rule, it has heard by any rule
pub fed_is_answered : {F : Type 0} (calls : Calls F) (choose : F) → FedIsAnswered calls choose
fed_is_answered calls choose of old new k = record { chosen = reader_of k.picked; among = answers_among calls choose (choices_heard of old) k.picked k.answers; value = k.value }

-- ---- the register
-- whom a line asks, and for what
abbrev brick_in : BrickId → Next → BrickId
brick_in b (next.Ask c request) = c
brick_in b line = b

abbrev request_in : Request → Next → Request
request_in r (next.Ask c request) = request
request_in r line = r

noted_as : (r : Register) (at : ℕ) (b c : BrickId) (asked request : Request) (told : Told) → next.Ask b asked ≡ next.Ask c request → noted_ask r at b.0 asked told ≡ noted_ask r at c.0 request told
noted_as r at b c asked request told e =
    ap (λ (x : BrickId). noted_ask r at x.0 asked told) (ap (brick_in b) e) ∙ ap (λ (x : Request). noted_ask r at c.0 x told) (ap (request_in asked) e)

left_register : (step : WalkStep) (j : WriteJob) (w : Walk) → register_at (after_step step j w) w ≡ w.register
left_register (walking.Looking s) j w = refl
left_register (walking.Naming b) j w = refl
left_register walking.Arrived j w = kind (is_of_bytes j && is_dir w.object.what)
  where
    some_bytes : (e : Bool) → register_at (if e then Ending (reply.Ok good.Done) else Changing (starting (change_of w.object.gfid j) w.register)) w ≡ w.register
    some_bytes true = refl
    some_bytes false = refl

    kind : (d : Bool) → register_at (if d then Ending reply.IsDir else (if is_empty j then Ending (reply.Ok good.Done) else Changing (starting (change_of w.object.gfid j) w.register))) w ≡ w.register
    kind true = refl
    kind false = some_bytes (is_empty j)
left_register (walking.Stopped why) j w = refl

-- a transaction's register notes its request
told_notes : (stage : Stage) (t : TransactionProgress) (at : ℕ) (brick : BrickId) (request : Request) (told : Told) → progress.next_at stage at t ≡ next.Ask brick request
    → (if is_beginning stage then t else fed stage told at t).register ≡ noted_ask t.register at brick.0 request told
told_notes Locking t at brick request told e = noted_as t.register at (record { 0 = lowest (left Locking t) }) brick (request_at Locking t) request told e
told_notes Looking t at brick request told e = noted_as t.register at (record { 0 = lowest (left Looking t) }) brick (request_at Looking t) request told e
told_notes Beginning t at brick request told e = absurd (cc e)
told_notes Preparing t at brick request told e = noted_as t.register at (record { 0 = lowest (left Preparing t) }) brick (request_at Preparing t) request told e
told_notes Applying t at brick request told e = noted_as t.register at (record { 0 = lowest (left Applying t) }) brick (request_at Applying t) request told e
told_notes Posting t at brick request told e = noted_as t.register at (record { 0 = lowest (left Posting t) }) brick (request_at Posting t) request told e
told_notes Closing t at brick request told e = go (is_nothing t.register.held) e
  where
    go : (none : Bool) → (if none then next.End (reply_of t.change t.register) else asks Closing t) ≡ next.Ask brick request → (fed Closing told at t).register ≡ noted_ask t.register at brick.0 request told
    go true e = absurd (cc e)
    go false e = noted_as t.register at (record { 0 = lowest (left Closing t) }) brick (request_at Closing t) request told e

notes_at : (stage : WriteStage) (w : Walk) (at : ℕ) (brick : BrickId) (request : Request) → next_at at stage w ≡ next.Ask brick request → (chosen : BrickId) (a : Answer)
    → register_at (stage_after stage a at (walk_after chosen stage a at w)) (walk_after chosen stage a at w) ≡ noted_ask (register_at stage w) at brick.0 request (told_by a)
notes_at (Walking j) w at brick request e chosen a =
    left_register (walked chosen a at w).step j (walked chosen a at w) ∙ walked_notes chosen w.step a (noted (next_in w) (told_by a) at w) ∙ noted_as w.register at (next_in w).0 brick (next_in w).1 request (told_by a) e
notes_at (Changing t) w at brick request e chosen a = told_notes t.stage t at brick request (told_by a) e
notes_at (Ending said) w at brick request e chosen a = absurd (cc e)

-- the register notes each request, and what was told
pub notes_each : NotesEach
notes_each m at brick request e chosen a = notes_at m.stage m.walk at brick request e chosen a

begun_notes : (stage : Stage) (t : TransactionProgress) (at : ℕ) (change : Change) → progress.next_at stage at t ≡ next.Begin change → (if is_beginning stage then begun at t else t).register ≡ noted_begin t.register at
begun_notes Locking t at change e = absurd (cc e)
begun_notes Looking t at change e = absurd (cc e)
begun_notes Beginning t at change e = refl
begun_notes Preparing t at change e = absurd (cc e)
begun_notes Applying t at change e = absurd (cc e)
begun_notes Posting t at change e = absurd (cc e)
begun_notes Closing t at change e = go (is_nothing t.register.held) e
  where
    go : (none : Bool) → (if none then next.End (reply_of t.change t.register) else asks Closing t) ≡ next.Begin change → t.register ≡ noted_begin t.register at
    go true e = absurd (cc e)
    go false e = absurd (cc e)

begins_notes : (stage : WriteStage) (w : Walk) (at : ℕ) (change : Change) → next_at at stage w ≡ next.Begin change → register_at (stage_begun stage at) w ≡ noted_begin (register_at stage w) at
begins_notes (Walking j) w at change e = absurd (cc e)
begins_notes (Changing t) w at change e = begun_notes t.stage t at change e
begins_notes (Ending said) w at change e = absurd (cc e)

-- and the number of each attempt
pub notes_begin : NotesBegin
notes_begin m at change e chosen = begins_notes m.stage m.walk at change e
