-- What holds of all renames at once.
use Rattle.std.specs.Prelude.{◌≡◌, ℕ, false}
use Rattle.afr_base.specs.declared.ids.BrickId.{BrickId}
use Rattle.afr_object.specs.declared.change.Change.{Change}
use Rattle.afr_lines.specs.Told.{told_by}
use Rattle.afr_lines.specs.declared.answer.Answer.{Answer}
use Rattle.afr_lines.specs.declared.line.Heard.{Heard}
use Rattle.afr_lines.specs.declared.line.Heard.TheVariants as heard
use Rattle.afr_lines.specs.declared.line.Next.TheVariants as next
use Rattle.afr_lines.specs.declared.request.Request.{Request}
use Rattle.afr_discipline.specs.Notes.{noted_ask, noted_begin}
use Rattle.afr_rule.specs.Choosing.{Calls}
use Rattle.afr_client_walk.specs.Choosing.{IsAmong}
use Rattle.afr_discipline.specs.Free.{Allows}
use Rattle.afr_client_entry.specs.Renames.Rename.{IsAnswered, IsFed, IsRename, Renaming, choices_heard, heard_by, is_over, next_of, register_of}

-- the discipline allows the next line, wherever it stands
abbrev pub AllowedNext : Type 0
AllowedNext = (m : Renaming) → IsRename m.paths m.stage → (at : ℕ) → Allows (register_of m) (next_of at m)

-- whatever is heard of the next line, and whichever good copy is read then, a rename stays sound
abbrev pub StaysSound : Type 0
StaysSound =
    (m : Renaming) → IsRename m.paths m.stage → is_over m.stage ≡ false → (chosen : BrickId) (of : Heard) → IsAmong (choices_heard of m) chosen
    → IsRename (heard_by chosen of m).paths (heard_by chosen of m).stage

-- the register notes each request, and what was told
abbrev pub NotesEach : Type 0
NotesEach =
    (m : Renaming) (at : ℕ) (brick : BrickId) (request : Request) → next_of at m ≡ next.Ask brick request → (chosen : BrickId) (a : Answer)
    → register_of (heard_by chosen (heard.Answer a at) m) ≡ noted_ask (register_of m) at brick.0 request (told_by a)

-- and the number of each attempt
abbrev pub NotesBegin : Type 0
NotesBegin = (m : Renaming) (at : ℕ) (change : Change) → next_of at m ≡ next.Begin change → (chosen : BrickId) → register_of (heard_by chosen (heard.Begun at) m) ≡ noted_begin (register_of m) at

-- what a rename has heard by some rule, it has heard by any rule
abbrev pub FedIsAnswered : {F : Type 0} → Calls F → F → Type 0
FedIsAnswered calls choose = (of : Heard) (old new : Renaming) → IsFed calls choose of old new → IsAnswered of old new
