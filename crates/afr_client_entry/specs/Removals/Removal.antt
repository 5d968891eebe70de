-- How far a removal is, what it asks next, and what an answer leaves of it.
use Rattle.std.specs.Prelude.{◌≡◌, ℕ, not, Bool, true, false, List, [], ◌∷◌, Option, Some, None, if◌then◌else◌}
use Rattle.afr_base.specs.Bricks.{added, added_if, below, common, lowest, minus, is_nothing}
use Rattle.afr_base.specs.Majority.{is_majority}
use Rattle.afr_base.specs.declared.ids.BrickId.{BrickId}
use Rattle.afr_base.specs.declared.ids.Gfid.{Gfid}
use Rattle.afr_base.specs.declared.ids.Kind.TheVariants.{Names}
use Rattle.afr_base.specs.declared.ids.Shape.{Shape}
use Rattle.afr_object.specs.Tables.{object_of}
use Rattle.afr_object.specs.declared.change.Change.{Change}
use Rattle.afr_object.specs.declared.change.Load.{Load}
use Rattle.afr_object.specs.declared.change.Load.TheVariants as load
use Rattle.afr_choice.specs.Looks.{no_looks}
use Rattle.afr_choice.specs.Verdict.{holders_of, good_copies}
use Rattle.afr_choice.specs.declared.looked.Looked.{Looked}
use Rattle.afr_lines.specs.declared.lock.Domain.TheVariants.{Work}
use Rattle.afr_lines.specs.Areas.{area_for}
use Rattle.afr_lines.specs.Told.{told_by}
use Rattle.afr_lines.specs.declared.answer.Answer.{Answer}
use Rattle.afr_lines.specs.declared.answer.Answer.TheVariants as answer
use Rattle.afr_lines.specs.declared.answer.Told.{Told}
use Rattle.afr_lines.specs.declared.line.Next.{Next}
use Rattle.afr_lines.specs.declared.line.Next.TheVariants as next
use Rattle.afr_lines.specs.declared.reply.Good.TheVariants as good
use Rattle.afr_lines.specs.declared.reply.Reply.{Reply}
use Rattle.afr_lines.specs.declared.reply.Reply.TheVariants as reply
use Rattle.afr_lines.specs.declared.request.Area.{Area}
use Rattle.afr_lines.specs.declared.request.Area.TheVariants.{Name}
use Rattle.afr_lines.specs.declared.request.Request.{Request}
use Rattle.afr_lines.specs.declared.request.Request.TheVariants as request
use Rattle.afr_model_moves.specs.Note.{is_held}
use Rattle.afr_discipline.specs.Notes.{asked_at, noted_ask, noted_begin}
use Rattle.afr_discipline.specs.declared.register.Register.{Register}
use Rattle.afr_discipline.specs.declared.register.Step.TheVariants as step
use Rattle.afr_rule.specs.declared.candidate.Candidate.{Candidate}
use Rattle.afr_client_walk.specs.Choosing.{candidates_of}
use Rattle.afr_client_walk.specs.Looks.{noted_look}
use Rattle.afr_client_transaction.specs.Progress.{enough, may_start, number_in}
use Rattle.afr_client_entry.specs.declared.removing.child.Child.{Child}
use Rattle.afr_client_entry.specs.declared.removing.stage.RemovalEnding.{RemovalEnding}
use Rattle.afr_client_entry.specs.declared.removing.stage.RemovalEnding.TheVariants.{Counted, NoQuorum, FewCopies, SplitBrain, NotEmpty, Failed}
use Rattle.afr_client_entry.specs.declared.removing.stage.RemovalStage.{RemovalStage}
use Rattle.afr_client_entry.specs.declared.removing.stage.RemovalStage.TheVariants.{Locking, Looking, Listing, Beginning, Preparing, Applying, Posting, Closing}

-- the change of the directory's name, the register of the lines so far, the stage, and what is known of the child
pub record Removing : Type 0 where
  pub change : Change
  pub register : Register
  pub stage : RemovalStage
  pub child : Child

-- a child of which nothing was asked
abbrev pub untouched : Gfid → Child
untouched g = record { gfid = g; lock_asked = []; look_asked = []; looked = no_looks; takers = []; reader = record { 0 = 0 } }

-- the whole child
abbrev pub whole : Child → Area
whole c = Name c.gfid None

-- the bricks where the name and the whole child are locked
abbrev pub both_held : Register → List ℕ
both_held r = common r.held r.second_held

-- the holders of the directory among them, which take part in the attempt
abbrev pub takers_of : Register → List ℕ
takers_of r = common (holders_of r.looked) (both_held r)

-- they are a majority with a good copy of the directory
abbrev pub has_takers : Register → Bool
has_takers r = enough r Names (takers_of r)

-- ---- what is asked
-- the bricks that are still to be asked: for a lock of the child where the name is locked, for a look at it where both
-- are, for the phases of the attempt, and for the unlocks, those of the child first
abbrev pub left_in : RemovalStage → Register → Child → List ℕ
left_in Locking r c = minus r.held c.lock_asked
left_in Looking r c = minus (both_held r) c.look_asked
left_in Listing r c = []
left_in Beginning r c = []
left_in Preparing r c = minus c.takers (asked_at r step.Pres)
left_in Applying r c = minus r.pre (asked_at r step.Applies)
left_in Posting r c = minus r.done (asked_at r step.Posts)
left_in (Closing why) r c = if is_nothing r.second_held then r.held else r.second_held

-- the same of a whole removal
abbrev pub left : RemovalStage → Removing → List ℕ
left stage m = left_in stage m.register m.child

-- the area that is released next
abbrev pub unlocks : Change → Register → Child → Area
unlocks change r c = if is_nothing r.second_held then area_for change else whole c

-- what is asked at a stage: post-op accuses each brick that hasn't done the operation
abbrev pub request_in : RemovalStage → Change → Register → Child → Request
request_in Locking change r c = request.Lock Work (whole c)
request_in Looking change r c = request.Look c.gfid
request_in Listing change r c = request.List c.gfid
request_in Beginning change r c = request.List c.gfid
request_in Preparing change r c = request.Pre (object_of change) Names
request_in Applying change r c = request.Apply (number_in r.begun)
request_in Posting change r c = request.Post (number_in r.begun) (object_of change) Names (minus (below r.shape.n) r.done)
request_in (Closing why) change r c = request.Unlock Work (unlocks change r c)

-- the same of a whole removal
abbrev pub request_at : RemovalStage → Removing → Request
request_at stage m = request_in stage m.change m.register m.child

-- the good copies of the child
abbrev pub sources : Removing → List ℕ
sources m = good_copies m.register.shape m.child.looked Names

-- who is asked: the lowest brick that is left, and for the list the copy of the child that was chosen
abbrev pub brick_at : RemovalStage → Removing → ℕ
brick_at Listing m = m.child.reader.0
brick_at stage m = lowest (left stage m)

-- the request of a stage
abbrev pub asks : RemovalStage → Removing → Next
asks stage m = next.Ask (record { 0 = brick_at stage m }) (request_at stage m)

-- the reply: a change that was begun is acknowledged where a majority has done post-op
abbrev pub reply_of : RemovalEnding → Register → Reply
reply_of Counted r = if is_majority r.shape.n r.post then reply.Ok good.Done else reply.Failed
reply_of NoQuorum r = reply.NoQuorum
reply_of FewCopies r = reply.FewCopies
reply_of (SplitBrain views) r = reply.SplitBrain views
reply_of NotEmpty r = reply.NotEmpty
reply_of Failed r = reply.Failed

-- no lock is left to release
abbrev pub is_over : RemovalStage → Removing → Bool
is_over (Closing why) m = is_nothing (left (Closing why) m)
is_over stage m = false

-- the next line gives the attempt its number
abbrev pub is_beginning : RemovalStage → Bool
is_beginning Beginning = true
is_beginning stage = false

-- the next line
abbrev pub next_at : RemovalStage → Removing → Next
next_at Beginning m = next.Begin m.change
next_at (Closing why) m = if is_over (Closing why) m then next.End (reply_of why m.register) else asks (Closing why) m
next_at stage m = asks stage m

-- the contents that go with the next request: the change, where the operation is asked for
abbrev pub CarriesAt : RemovalStage → Load → Change → Type 0
CarriesAt Applying (load.Change carried) change = carried.now ≡ change
CarriesAt Applying other change = ⊥
CarriesAt stage load.Nothing change = Unit {0}
CarriesAt stage other change = ⊥

-- ---- what follows
-- what the looks at the child rule out: too few of them, too few copies, or no good one
abbrev pub against : Shape → Looked → Option RemovalEnding
against shape looked =
    if not (is_majority shape.n looked.reached) then Some NoQuorum
    else (if not (is_majority shape.n (holders_of looked)) then Some FewCopies
    else (if is_nothing (good_copies shape looked Names) then Some (SplitBrain looked.views) else None))

-- a stage, or the end
abbrev pub or_close : Option RemovalEnding → RemovalStage → RemovalStage
or_close None stage = stage
or_close (Some why) stage = Closing why

-- the next stage, where nobody is left to ask
abbrev pub gone_on : RemovalStage → Register → Child → RemovalStage
gone_on Locking r c = if has_takers r then Looking else Closing NoQuorum
gone_on Looking r c = if has_takers r then or_close (against r.shape c.looked) Listing else Closing NoQuorum
gone_on Preparing r c = if enough r Names r.pre then Applying else Closing Counted
gone_on Applying r c = if enough r Names r.done then Posting else Closing Counted
gone_on Posting r c = Closing Counted
gone_on stage r c = stage

-- the stage by who is left to ask
abbrev pub after : RemovalStage → Removing → RemovalStage
after stage m = if is_nothing (left stage m) then gone_on stage m.register m.child else stage

-- the list was told: a name rules the removal out
abbrev pub listed : Answer → Change → Register → RemovalStage
listed (answer.Names []) change r = if may_start r change then Beginning else Closing Failed
listed (answer.Names (x ∷ names)) change r = Closing NotEmpty
listed other change r = Closing Failed

-- what is known of the child after an answer; a brick where another actor holds a lock is asked again
abbrev pub child_after : RemovalStage → ℕ → Told → Register → Child → Child
child_after Locking b told r c = record c { lock_asked = added_if (not (is_held told)) b c.lock_asked }
child_after Looking b told r c = record c { look_asked = added b c.look_asked; looked = noted_look b told c.looked; takers = takers_of r }
child_after stage b told r c = c

-- the removal at another stage
abbrev pub on_stage : RemovalStage → Removing → Removing
on_stage stage m = record { change = m.change; register = m.register; stage = stage; child = m.child }

-- a brick has told this, and the register is this
abbrev pub sets_after : RemovalStage → ℕ → Told → Register → Removing → Removing
sets_after stage b told r m = record { change = m.change; register = r; stage = m.stage; child = child_after stage b told r m.child }

-- the stage after an answer
abbrev pub stage_after : RemovalStage → Answer → Removing → RemovalStage
stage_after Listing a m = listed a m.change m.register
stage_after stage a m = after stage m

-- what the rule is asked for, where the looks at the child have led to this stage: its good copies, if it is to be listed
abbrev pub offered : RemovalStage → Shape → Looked → List Candidate
offered Listing shape looked = candidates_of shape looked Names
offered stage shape looked = []

-- it is asked after the looks alone
abbrev pub offered_after : RemovalStage → RemovalStage → Shape → Looked → List Candidate
offered_after Looking stage shape looked = offered stage shape looked
offered_after was stage shape looked = []

-- the same at an answer, by what the removal has come to with it
abbrev pub choices_in : RemovalStage → Answer → Removing → List Candidate
choices_in stage a m = offered_after stage (stage_after stage a m) m.register.shape m.child.looked

-- the copy of the child that is to be listed was chosen
abbrev pub child_reads : BrickId → RemovalStage → Child → Child
child_reads chosen Looking c = record c { reader = chosen }
child_reads chosen stage c = c

-- the same of a whole removal
abbrev pub reads_at : BrickId → RemovalStage → Removing → Removing
reads_at chosen stage m = record { change = m.change; register = m.register; stage = m.stage; child = child_reads chosen stage m.child }

-- the removal, its register being this after the answer of a brick; this copy is listed next, where there is one to choose
abbrev pub moved : BrickId → RemovalStage → ℕ → Answer → Register → Removing → Removing
moved chosen stage b a r m = on_stage (stage_after stage a (sets_after stage b (told_by a) r m)) (reads_at chosen stage (sets_after stage b (told_by a) r m))

-- the register after the request was answered
abbrev pub register_after : RemovalStage → Answer → ℕ → Removing → Register
register_after stage a at m = noted_ask m.register at (brick_at stage m) (request_at stage m) (told_by a)

-- the removal after its request was answered
abbrev pub answered : BrickId → RemovalStage → Answer → ℕ → Removing → Removing
answered chosen stage a at m = moved chosen stage (brick_at stage m) a (register_after stage a at m) m

-- what the rule is asked for by an answer
abbrev pub choices_at : RemovalStage → Answer → ℕ → Removing → List Candidate
choices_at stage a at m = choices_in stage a (sets_after stage (brick_at stage m) (told_by a) (register_after stage a at m) m)

-- the attempt has its number
abbrev pub begun : ℕ → Removing → Removing
begun at m = record { change = m.change; register = noted_begin m.register at; stage = Preparing; child = m.child }

-- a removal of which nothing was asked
abbrev pub starting : Change → Register → Gfid → Removing
starting change r g = record { change = change; register = r; stage = Locking; child = untouched g }

-- a removal that begins: where the name is locked nowhere any more, it ends
abbrev pub removing : Change → Register → Gfid → Removing
removing change r g = on_stage (after Locking (starting change r g)) (starting change r g)
