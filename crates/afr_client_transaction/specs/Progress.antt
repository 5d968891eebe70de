-- How far a transaction is, what it asks next, and what an answer leaves of it.
use Rattle.std.specs.Prelude.{◌≡◌, ℕ, ◌+◌, ◌==◌, not, ◌&&◌, nat_lt, Bool, true, false, List, [], Option, Some, None, if◌then◌else◌}
use Rattle.afr_base.specs.Bricks.{added, added_if, below, lowest, member, minus, is_nothing}
use Rattle.afr_base.specs.Majority.{is_majority}
use Rattle.afr_base.specs.declared.ids.Gfid.{Gfid}
use Rattle.afr_base.specs.declared.ids.Kind.{Kind}
use Rattle.afr_object.specs.Tables.{object_of}
use Rattle.afr_object.specs.declared.change.Change.{Change}
use Rattle.afr_object.specs.declared.change.Load.{Load}
use Rattle.afr_object.specs.declared.change.Load.TheVariants as load
use Rattle.afr_object.specs.declared.change.Change.TheVariants.{Write, Cut, SetAttr, Make, Remove}
use Rattle.afr_choice.specs.Verdict.{holders_of}
use Rattle.afr_lines.specs.declared.lock.Domain.TheVariants.{Work}
use Rattle.afr_lines.specs.Areas.{area_for, kind_for}
use Rattle.afr_lines.specs.declared.answer.Told.{Told}
use Rattle.afr_lines.specs.declared.line.Next.{Next}
use Rattle.afr_lines.specs.declared.line.Next.TheVariants as next
use Rattle.afr_lines.specs.declared.request.Request.{Request}
use Rattle.afr_lines.specs.declared.request.Request.TheVariants as request
use Rattle.afr_model_moves.specs.Keeps.{keeps_in}
use Rattle.afr_model_moves.specs.Lines.{is_ok}
use Rattle.afr_model_moves.specs.Note.{is_granted, is_held}
use Rattle.afr_discipline.specs.Notes.{asked_at, noted_ask, noted_begin}
use Rattle.afr_discipline.specs.Stands.{seen_as, views_of}
use Rattle.afr_discipline.specs.Tests.{may_ask_outside, may_begin, may_end, suffices_by}
use Rattle.afr_discipline.specs.declared.register.Register.{Register}
use Rattle.afr_discipline.specs.declared.register.Step.TheVariants as step
use Rattle.afr_client_transaction.specs.Outcome.{reply_of}
use Rattle.afr_client_transaction.specs.declared.stage.LocksAndLooks.{LocksAndLooks}
use Rattle.afr_client_transaction.specs.declared.stage.Stage.{Stage}
use Rattle.afr_client_transaction.specs.declared.stage.Stage.TheVariants.{Locking, Looking, Beginning, Preparing, Applying, Posting, Closing}

-- the change, the register of the lines so far, the stage, and the bricks that were asked for locks and lookups
pub record TransactionProgress : Type 0 where
  pub change : Change
  pub register : Register
  pub stage : Stage
  pub asked : LocksAndLooks

-- a transaction of which nothing was asked, in a work with this register
abbrev pub starting : Change → Register → TransactionProgress
starting change r = record { change = change; register = r; stage = Locking; asked = record { lock_asked = []; locked_on = []; looked_at = [] } }

-- the number of an attempt
abbrev pub number_in : Option ℕ → ℕ
number_in None = 0
number_in (Some q) = q

-- an object that has a number keeps it; a new one, which has the number 0 until then, takes it from its position
abbrev pub gfid_at : ℕ → Gfid → Gfid
gfid_at at g = if g.0 == 0 then record { 0 = at + 2 } else g

-- the change of a Begin line at this position: a new object takes its number from there
abbrev pub numbered : ℕ → Change → Change
numbered at (Write g start bytes) = Write g start bytes
numbered at (Cut g len) = Cut g len
numbered at (SetAttr g key value) = SetAttr g key value
numbered at (Make dir name g what) = Make dir name (gfid_at at g) what
numbered at (Remove dir name what) = Remove dir name what

-- the bricks that are still to be asked: for the lock, for a view, for pre-op where there is a copy, for the operation
-- where pre-op was done, for post-op where the operation was done, and for the unlock where the lock is held
abbrev pub left_in : Stage → Register → LocksAndLooks → List ℕ
left_in Locking r asked = minus (below r.shape.n) asked.lock_asked
left_in Looking r asked = minus asked.locked_on asked.looked_at
left_in Beginning r asked = []
left_in Preparing r asked = minus (holders_of r.looked) (asked_at r step.Pres)
left_in Applying r asked = minus r.pre (asked_at r step.Applies)
left_in Posting r asked = minus r.done (asked_at r step.Posts)
left_in Closing r asked = r.held

-- the same of a whole transaction
abbrev pub left : Stage → TransactionProgress → List ℕ
left stage m = left_in stage m.register m.asked

-- what is asked at a stage: post-op accuses each brick that hasn't done the operation
abbrev pub request_in : Stage → Change → Register → Request
request_in Locking change r = request.Lock Work (area_for change)
request_in Looking change r = request.Look (object_of change)
request_in Beginning change r = request.Look (object_of change)
request_in Preparing change r = request.Pre (object_of change) (kind_for change)
request_in Applying change r = request.Apply (number_in r.begun)
request_in Posting change r = request.Post (number_in r.begun) (object_of change) (kind_for change) (minus (below r.shape.n) r.done)
request_in Closing change r = request.Unlock Work (area_for change)

-- the same of a whole transaction
abbrev pub request_at : Stage → TransactionProgress → Request
request_at stage m = request_in stage m.change m.register

-- the lowest of these bricks is asked
abbrev pub asks : Stage → TransactionProgress → Next
asks stage m = next.Ask (record { 0 = lowest (left stage m) }) (request_at stage m)

-- no lock is left to release
abbrev pub is_over : Stage → TransactionProgress → Bool
is_over Closing m = is_nothing m.register.held
is_over stage m = false

-- the next line gives the attempt its number
abbrev pub is_beginning : Stage → Bool
is_beginning Beginning = true
is_beginning stage = false

-- the contents that go with the next request: the change, where the operation is asked for
abbrev pub CarriesAt : Stage → Load → Change → Type 0
CarriesAt Applying (load.Change carried) change = carried.now ≡ change
CarriesAt Applying other change = ⊥
CarriesAt stage load.Nothing change = Unit {0}
CarriesAt stage other change = ⊥

-- the next line, if it is written at this position
abbrev pub next_at : Stage → ℕ → TransactionProgress → Next
next_at Beginning at m = next.Begin (numbered at m.change)
next_at Closing at m = if is_nothing m.register.held then next.End (reply_of m.change m.register) else asks Closing m
next_at stage at m = asks stage m

-- the bricks are a majority with a good copy, by the discipline's test
abbrev pub enough : Register → Kind → List ℕ → Bool
enough r kind s = suffices_by r.shape.n (keeps_in r.shape) kind (views_of r.looked) (member s)

-- the discipline allows the attempt
abbrev pub may_start : Register → Change → Bool
may_start r change = may_begin r.shape.n (keeps_in r.shape) (seen_as r) change

-- the next stage, where nobody is left to ask: a phase that too few have done is the last before the unlocks
abbrev pub gone_on : Stage → Change → Register → LocksAndLooks → Stage
gone_on Locking change r asked = if is_majority r.shape.n asked.locked_on then Looking else Closing
gone_on Looking change r asked = if may_start r change then Beginning else Closing
gone_on Beginning change r asked = Preparing
gone_on Preparing change r asked = if enough r (kind_for change) r.pre then Applying else Closing
gone_on Applying change r asked = if enough r (kind_for change) r.done then Posting else Closing
gone_on Posting change r asked = Closing
gone_on Closing change r asked = Closing

-- the stage after an answer
abbrev pub after : Stage → TransactionProgress → Stage
after stage m = if is_nothing (left stage m) then gone_on stage m.change m.register m.asked else stage

-- who was asked, after an answer: a brick where another actor holds a lock is asked again
abbrev pub asked_by : Stage → ℕ → Told → LocksAndLooks → LocksAndLooks
asked_by Locking b told s = record { lock_asked = added_if (not (is_held told)) b s.lock_asked; locked_on = added_if (is_granted told) b s.locked_on; looked_at = s.looked_at }
asked_by Looking b told s = record { lock_asked = s.lock_asked; locked_on = s.locked_on; looked_at = added b s.looked_at }
asked_by Beginning b told s = s
asked_by Preparing b told s = s
asked_by Applying b told s = s
asked_by Posting b told s = s
asked_by Closing b told s = s

-- the register after an answer, and who was asked
abbrev pub sets_after : Stage → ℕ → Told → Register → TransactionProgress → TransactionProgress
sets_after stage b told r m = record { change = m.change; register = r; stage = m.stage; asked = asked_by stage b told m.asked }

-- a brick has answered
abbrev pub answered_by : Stage → ℕ → Told → ℕ → TransactionProgress → TransactionProgress
answered_by stage b told at m = sets_after stage b told (noted_ask m.register at b (request_at stage m) told) m

-- the transaction at another stage
abbrev pub on_stage : Stage → TransactionProgress → TransactionProgress
on_stage stage m = record { change = m.change; register = m.register; stage = stage; asked = m.asked }

-- the transaction after its request was answered
abbrev pub answered : Stage → Told → ℕ → TransactionProgress → TransactionProgress
answered stage told at m = (let x = answered_by stage (lowest (left stage m)) told at m in on_stage (after stage x) x)

-- the attempt has its number
abbrev pub begun : ℕ → TransactionProgress → TransactionProgress
begun at m = record { change = m.change; register = noted_begin m.register at; stage = Preparing; asked = m.asked }

-- the transaction after its next line, at this position, and what was told there
abbrev pub fed : Stage → Told → ℕ → TransactionProgress → TransactionProgress
fed Beginning told at m = begun at m
fed stage told at m = answered stage told at m

-- the transaction has its answer, where it has asked
abbrev pub told_to : Told → ℕ → TransactionProgress → TransactionProgress
told_to told at t = if is_beginning t.stage then t else fed t.stage told at t

-- the discipline allows the line, outside a heal
abbrev pub allowed : Register → Next → Bool
allowed r (next.Ask b request) = nat_lt b.0 r.shape.n && may_ask_outside r.shape.n (keeps_in r.shape) (seen_as r) b.0 request
allowed r (next.Begin change) = may_start r change
allowed r (next.End said) = may_end r.shape.n (seen_as r) (is_ok said)
allowed r other = false
