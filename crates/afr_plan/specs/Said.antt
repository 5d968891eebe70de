-- What a line of a plan says, and which bytes say it.
use Rattle.std.specs.Prelude.{◌≡◌, ℕ, List, true, false, codes}
use Rattle.afr_base.specs.declared.ids.Shape.{Shape}
use Rattle.afr_lines.specs.declared.fault.Fault.{Fault}
use Rattle.afr_lines.specs.declared.fault.Fault.TheVariants.{Fail, Lost}
use Rattle.afr_plan.specs.Happening.{Who, IsWho, Happening, IsHappening}
use Rattle.afr_plan.specs.Spelling.{IsNumber, IsSmall, WordThen, Word, Both, Either}
use Rattle.afr_plan.specs.Action.{Action, IsCommand}
use Rattle.afr_plan.specs.declared.version.Version.{Version}
use Rattle.afr_plan.specs.declared.version.Version.TheVariants.{One, Two}

-- one line, by its kind: the first two with the version that they are spelled in, and the names of a path as their bytes
pub data Said : Type 0 where
  Afr : (version : Version) → Said
  Volume : (version : Version) (shape : Shape) → Said
  Files : (k : ℕ) → Said
  Turns : (t : ℕ) → Said
  Client : (i : ℕ) → Said
  Command : (path : List (List ℕ)) (action : Action) → Said
  Healer : (j : ℕ) → Said
  Round : (brick : ℕ) → Said
  Faulty : (brick at : ℕ) (fault : Fault) → Said
  At : (at : ℕ) (event : Happening) → Said
  Go : (who : Who) (count : ℕ) → Said
  End : Said

-- ---- volumes
-- three bricks that all keep bytes
abbrev pub three_replicas : Shape
three_replicas = record { n = 3; arbiter = false }

-- three bricks, the last of them an arbiter
abbrev pub three_with_arbiter : Shape
three_with_arbiter = record { n = 3; arbiter = true }

-- five bricks that all keep bytes
abbrev pub five_replicas : Shape
five_replicas = record { n = 5; arbiter = false }

-- in version 1 `replica` or `arbiter`; in version 2 `replica 3`, `replica 5` or `arbiter 3`
abbrev pub IsShape : Version → List ℕ → Shape → Type 0
IsShape One = Either (Word (codes "replica") three_replicas) (Word (codes "arbiter") three_with_arbiter)
IsShape Two = Either (Word (codes "replica 3") three_replicas) (Either (Word (codes "replica 5") five_replicas) (Word (codes "arbiter 3") three_with_arbiter))

-- the first line of a plan in each version
abbrev pub IsHead : Version → List ℕ → Type 0
IsHead One line = line ≡ codes "afr 1"
IsHead Two line = line ≡ codes "afr 2"

-- ---- lines

-- `fail`, or `lost`
abbrev pub IsFault : List ℕ → Fault → Type 0
IsFault = Either (Word (codes "fail") Fail) (Word (codes "lost") Lost)

-- the bytes of a line, without its line feed, say this
abbrev pub IsSaid : List ℕ → Said → Type 0
IsSaid line (Afr version) = IsHead version line
IsSaid line (Volume version shape) = WordThen (codes "volume ") (IsShape version) line shape
IsSaid line (Files k) = WordThen (codes "files ") IsNumber line k
IsSaid line (Turns t) = WordThen (codes "turns ") IsNumber line t
IsSaid line (Client i) = WordThen (codes "client ") IsNumber line i
IsSaid line (Command path action) = IsCommand line path action
IsSaid line (Healer j) = WordThen (codes "healer ") IsNumber line j
IsSaid line (Round brick) = WordThen (codes "round ") IsSmall line brick
IsSaid line (Faulty brick at fault) = WordThen (codes "fault ") (Both IsSmall (WordThen (codes " ") (Both IsNumber (WordThen (codes " ") IsFault)))) line (brick, (at, fault))
IsSaid line (At at event) = WordThen (codes "at ") (Both IsNumber (WordThen (codes " ") IsHappening)) line (at, event)
IsSaid line (Go who count) = WordThen (codes "go ") (Both IsWho (WordThen (codes " ") IsNumber)) line (who, count)
IsSaid line End = line ≡ codes "end"
