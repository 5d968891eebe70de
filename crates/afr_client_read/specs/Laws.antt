-- What holds of all reads at once.
use Rattle.std.specs.Prelude.{◌≡◌, ℕ, true}
use Rattle.afr_base.specs.declared.ids.BrickId.{BrickId}
use Rattle.afr_lines.specs.Told.{told_by}
use Rattle.afr_lines.specs.declared.answer.Answer.{Answer}
use Rattle.afr_lines.specs.declared.line.Heard.{Heard}
use Rattle.afr_discipline.specs.Notes.{noted_ask}
use Rattle.afr_rule.specs.Choosing.{Calls}
use Rattle.afr_client_walk.specs.Choosing.{IsAmong}
use Rattle.afr_discipline.specs.Free.{Allows}
use Rattle.afr_client_read.specs.Lookup.{Lookup, IsAnswered, IsFed, IsLookup, answered, asked_at, choices_of, is_asking, next_of}

-- the discipline allows the next line, wherever it stands
abbrev pub AllowedNext : Type 0
AllowedNext = (m : Lookup) → IsLookup m.walk m.stage → Allows m.walk.register (next_of m)

-- whatever is told at the next line, and whichever good copy is read then, a read stays sound
abbrev pub StaysSound : Type 0
StaysSound =
    (m : Lookup) → IsLookup m.walk m.stage → is_asking m.stage ≡ true → (chosen : BrickId) (a : Answer) (at : ℕ) → IsAmong (choices_of a m) chosen
    → IsLookup (answered chosen a at m).walk (answered chosen a at m).stage

-- the register notes each request, and what was told
abbrev pub NotesEach : Type 0
NotesEach =
    (m : Lookup) → is_asking m.stage ≡ true → (chosen : BrickId) (a : Answer) (at : ℕ)
    → (answered chosen a at m).walk.register ≡ noted_ask m.walk.register at (asked_at m.stage m.walk).0.0 (asked_at m.stage m.walk).1 (told_by a)

-- what a read has heard by some rule, it has heard by any rule
abbrev pub FedIsAnswered : {F : Type 0} → Calls F → F → Type 0
FedIsAnswered calls choose = (of : Heard) (old new : Lookup) → IsFed calls choose of old new → IsAnswered of old new
