-- How a line of a plan is printed.
use Rattle.std.specs.Prelude.{ℕ, List, [], ◌∷◌, ◌++◌, Bool, true, false, codes, decimal, flat_map}
use Rattle.afr_base.specs.declared.ids.Shape.{Shape}
use Rattle.afr_lines.specs.declared.fault.Fault.{Fault}
use Rattle.afr_lines.specs.declared.fault.Fault.TheVariants.{Fail, Lost}
use Rattle.afr_plan.specs.Happening.{Who, OfClient, OfHealer, Happening, Stop, Start, Cut, Join, Kill}
use Rattle.afr_plan.specs.Action.{Action, action_word, Write, Read, SetAttr, GetAttr, Rename}
use Rattle.afr_plan.specs.Action as action
use Rattle.afr_plan.specs.Said.{Said, Afr, Volume, Files, Turns, Client, Command, Healer, Round, Faulty, At, Go, End}
use Rattle.afr_plan.specs.declared.version.Version.{Version}
use Rattle.afr_plan.specs.declared.version.Version.TheVariants.{One, Two}
use Rattle.afr_plan_print.specs.PrintedData.{data_text}

-- each name after a slash
abbrev pub slashed : List (List ℕ) → List ℕ
slashed names = flat_map (λ name. codes "/" ++ name) names

-- the names of a path, or a slash alone
abbrev pub path_text : List (List ℕ) → List ℕ
path_text [] = codes "/"
path_text (name ∷ more) = slashed (name ∷ more)

-- what a command does after its path
abbrev pub work_text : Action → List ℕ
work_text (Write at bytes) = codes " " ++ (decimal at ++ (codes " " ++ data_text bytes))
work_text (action.Cut len) = codes " " ++ decimal len
work_text (Read at len) = codes " " ++ (decimal at ++ (codes " " ++ decimal len))
work_text (SetAttr key value) = codes " " ++ (key ++ (codes " " ++ value))
work_text (GetAttr key) = codes " " ++ key
work_text (Rename to) = codes " " ++ path_text to
work_text w = []

-- an actor
abbrev pub who_text : Who → List ℕ
who_text (OfClient i) = codes "c" ++ decimal i
who_text (OfHealer j) = codes "h" ++ decimal j

-- an event
abbrev pub event_text : Happening → List ℕ
event_text (Stop brick) = codes "stop " ++ decimal brick
event_text (Start brick) = codes "start " ++ decimal brick
event_text (Cut who brick) = codes "cut " ++ (who_text who ++ (codes " " ++ decimal brick))
event_text (Join who brick) = codes "join " ++ (who_text who ++ (codes " " ++ decimal brick))
event_text (Kill who) = codes "kill " ++ who_text who

-- the first line of a plan
abbrev pub version_text : Version → List ℕ
version_text One = codes "afr 1"
version_text Two = codes "afr 2"

-- the kind of a volume
abbrev pub kind_text : Bool → List ℕ
kind_text true = codes "arbiter"
kind_text false = codes "replica"

-- a volume: its kind, and in version 2 the number of its bricks
abbrev pub shape_text : Version → Shape → List ℕ
shape_text One shape = kind_text shape.arbiter
shape_text Two shape = kind_text shape.arbiter ++ (codes " " ++ decimal shape.n)

-- what goes wrong
abbrev pub fault_text : Fault → List ℕ
fault_text Fail = codes "fail"
fault_text Lost = codes "lost"

-- a command: its word, its path, and the rest
abbrev pub command_text : List (List ℕ) → Action → List ℕ
command_text path w = action_word w ++ (codes " " ++ (path_text path ++ work_text w))

-- a line, without its line feed
abbrev pub line_text : Said → List ℕ
line_text (Afr version) = version_text version
line_text (Volume version shape) = codes "volume " ++ shape_text version shape
line_text (Files k) = codes "files " ++ decimal k
line_text (Turns t) = codes "turns " ++ decimal t
line_text (Client i) = codes "client " ++ decimal i
line_text (Command path w) = command_text path w
line_text (Healer j) = codes "healer " ++ decimal j
line_text (Round brick) = codes "round " ++ decimal brick
line_text (Faulty brick at fault) = codes "fault " ++ (decimal brick ++ (codes " " ++ (decimal at ++ (codes " " ++ fault_text fault))))
line_text (At at event) = codes "at " ++ (decimal at ++ (codes " " ++ event_text event))
line_text (Go who count) = codes "go " ++ (who_text who ++ (codes " " ++ decimal count))
line_text End = codes "end"

-- lines, each with its line feed
abbrev pub lines_text : List Said → List ℕ
lines_text lines = flat_map (λ s. line_text s ++ codes "\n") lines
