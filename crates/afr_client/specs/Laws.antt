-- What holds of all works at once.
use Rattle.std.specs.Prelude.{◌≡◌, ℕ, ◌<◌, ◌≤◌, true, false}
use Rattle.afr_base.specs.declared.ids.BrickId.{BrickId}
use Rattle.afr_base.specs.declared.ids.Shape.{Shape}
use Rattle.afr_object.specs.declared.change.Change.{Change}
use Rattle.afr_lines.specs.Told.{told_by}
use Rattle.afr_lines.specs.declared.answer.Answer.{Answer}
use Rattle.afr_lines.specs.declared.line.Heard.{Heard}
use Rattle.afr_lines.specs.declared.line.Heard.TheVariants as heard
use Rattle.afr_lines.specs.declared.line.Next.TheVariants as next
use Rattle.afr_lines.specs.declared.request.Request.{Request}
use Rattle.afr_plan.specs.declared.command.Command.{Command}
use Rattle.afr_discipline.specs.Notes.{noted_ask, noted_begin}
use Rattle.afr_discipline.specs.Stands.{HasFive, no_lines}
use Rattle.afr_rule.specs.Choosing.{Calls}
use Rattle.afr_client_walk.specs.Choosing.{IsAmong}
use Rattle.afr_discipline.specs.Free.{Allows}
use Rattle.afr_client.specs.Begin.{has_machine, work_from}
use Rattle.afr_client.specs.Work.{IsAnswered, IsFed, IsWork, choices_heard, heard_by, is_over, next_of, register_of}
use Rattle.afr_client.specs.declared.work.WorkMachine.{WorkMachine}

-- a work that begins has the register of no lines
abbrev pub BeginsFresh : Type 0
BeginsFresh = (shape : Shape) (c : Command) → has_machine c ≡ true → register_of (work_from shape c) ≡ no_lines shape

-- the discipline allows the next line, wherever it stands
abbrev pub AllowedNext : Type 0
AllowedNext = (w : WorkMachine) → IsWork w → (at : ℕ) → Allows (register_of w) (next_of at w)

-- whatever is heard of the next line, and whichever good copy is read then, a work stays sound
abbrev pub StaysSound : Type 0
StaysSound = (w : WorkMachine) → IsWork w → is_over w ≡ false → (chosen : BrickId) (of : Heard) → IsAmong (choices_heard of w) chosen → IsWork (heard_by chosen of w)

-- where the next line is a request, more is left than the end
abbrev pub AsksMore : Type 0
AsksMore = (w : WorkMachine) (at : ℕ) (b : BrickId) (request : Request) → next_of at w ≡ next.Ask b request → is_over w ≡ false

-- and where it is a Begin line
abbrev pub BeginsMore : Type 0
BeginsMore = (w : WorkMachine) (at : ℕ) (change : Change) → next_of at w ≡ next.Begin change → is_over w ≡ false

-- the register notes each request, and what was told
abbrev pub NotesEach : Type 0
NotesEach =
    (w : WorkMachine) (at : ℕ) (b : BrickId) (request : Request) → next_of at w ≡ next.Ask b request → (chosen : BrickId) (a : Answer)
    → register_of (heard_by chosen (heard.Answer a at) w) ≡ noted_ask (register_of w) at b.0 request (told_by a)

-- and the number of each attempt
abbrev pub NotesBegin : Type 0
NotesBegin = (w : WorkMachine) (at : ℕ) (change : Change) → next_of at w ≡ next.Begin change → (chosen : BrickId) → register_of (heard_by chosen (heard.Begun at) w) ≡ noted_begin (register_of w) at

-- the volume has five bricks at most
abbrev pub HasFew : Type 0
HasFew = (w : WorkMachine) → IsWork w → (register_of w).shape.n ≤ 5

-- each list of a register that begins has five places
abbrev pub BeginsWithFive : Type 0
BeginsWithFive = (shape : Shape) (c : Command) → has_machine c ≡ true → HasFive (register_of (work_from shape c))

-- and after a request
abbrev pub KeepsFive : Type 0
KeepsFive =
    (w : WorkMachine) → IsWork w → HasFive (register_of w) → (at : ℕ) (b : BrickId) (request : Request) → next_of at w ≡ next.Ask b request → (chosen : BrickId) (a : Answer)
    → HasFive (register_of (heard_by chosen (heard.Answer a at) w))

-- and after a Begin line
abbrev pub KeepsFiveBegun : Type 0
KeepsFiveBegun = (w : WorkMachine) → HasFive (register_of w) → (at : ℕ) (change : Change) → next_of at w ≡ next.Begin change → (chosen : BrickId) → HasFive (register_of (heard_by chosen (heard.Begun at) w))

-- a client's work is no heal
abbrev pub StaysOutside : Type 0
StaysOutside = (w : WorkMachine) → IsWork w → (register_of w).inside ≡ false

-- a request goes to one of the five bricks
abbrev pub AsksLow : Type 0
AsksLow = (w : WorkMachine) → IsWork w → (at : ℕ) (b : BrickId) (request : Request) → next_of at w ≡ next.Ask b request → b.0 < 5

-- what a work has heard by some rule, it has heard by any rule
abbrev pub FedIsAnswered : {F : Type 0} → Calls F → F → Type 0
FedIsAnswered calls choose = (of : Heard) (old new : WorkMachine) → IsFed calls choose of old new → IsAnswered of old new
