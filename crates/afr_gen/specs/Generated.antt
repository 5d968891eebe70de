-- The plan of a generated load, by its number n: four clients with n commands each, one healer, and a brick that is away for a time.
use Rattle.std.specs.Prelude.{ℕ, zero, suc, ◌+◌, ◌*◌, ◌/◌, ◌%◌, ◌==◌, Bool, false, ◌||◌, List, [], ◌∷◌, ◌++◌, codes, decimal, if◌then◌else◌, length, replicate}
use Rattle.afr_base.specs.declared.ids.BrickId.{BrickId}
use Rattle.afr_base.specs.declared.ids.NameId.{NameId}
use Rattle.afr_lines.specs.declared.line.Event.TheVariants.{Stop, Start}
use Rattle.afr_plan.specs.Names.{file_names}
use Rattle.afr_plan.specs.declared.command.Command.{Command}
use Rattle.afr_plan.specs.declared.command.Command.TheVariants.{Write, Read, SetAttr}
use Rattle.afr_plan.specs.declared.plan.Plan.{Plan}
use Rattle.afr_plan.specs.declared.plan.Words.{Words}
use Rattle.afr_plan.specs.declared.schedule.PlannedEvent.{PlannedEvent}

-- ---- the numbers drawn
-- the number that comes after x
abbrev pub next : ℕ → ℕ
next x = (x * 1103515245 + 12345) % 2147483648

-- the number that comes k after n
abbrev pub drawn : ℕ → ℕ → ℕ
drawn n zero = n
drawn n (suc k) = next (drawn n k)

-- what decides the command that comes after k others of its client, and this after c other clients: one number is drawn for each command before it
abbrev pub lot : ℕ → ℕ → ℕ → ℕ
lot n c k = next (drawn n (c * n + k)) / 65536

-- ---- the commands
-- one of the eight files, by its place among the names
abbrev pub path : ℕ → List NameId
path r = record { 0 = r / 4 % 8 } ∷ []

-- one of sixteen places in the file
abbrev pub offset : ℕ → ℕ
offset r = r / 32 % 16 * 1024

-- 1,024 bytes of the value that stands for a client: `a` for the first
unfoldable pub block : ℕ → List ℕ
block i = replicate 1024 (96 + i)

-- whether a lot makes its client set an attribute
abbrev pub sets : ℕ → Bool
sets r = r % 4 == 2

-- the command of client i at a lot; v is the place of the client's own value
abbrev pub command : ℕ → ℕ → ℕ → Command
command i v r = if sets r then SetAttr (path r) (record { 0 = 0 }) (record { 0 = v }) else (if r % 4 == 1 then Read (path r) (offset r) 1024 else Write (path r) (offset r) (block i))

-- the first k commands of the client that comes after c others
abbrev pub script : ℕ → ℕ → ℕ → ℕ → List Command
script n c v zero = []
script n c v (suc k) = script n c v k ++ command (c + 1) v (lot n c k) ∷ []

-- ---- the words
-- whether one of its first k commands sets an attribute
abbrev pub has_set : ℕ → ℕ → ℕ → Bool
has_set n c zero = false
has_set n c (suc k) = has_set n c k || sets (lot n c k)

-- the value that client i gives
abbrev pub value : ℕ → List ℕ
value i = codes "c" ++ decimal i

-- the values of the first c clients, of each that sets an attribute
abbrev pub values : ℕ → ℕ → List (List ℕ)
values n zero = []
values n (suc c) = if has_set n c n then values n c ++ value (c + 1) ∷ [] else values n c

-- the one key, where it is given a value
abbrev pub keys : List (List ℕ) → List (List ℕ)
keys [] = []
keys (v ∷ more) = codes "owner" ∷ []

-- the files, and what the clients set
abbrev pub words : List (List ℕ) → Words
words vs = record { names = file_names 8; keys = keys vs; values = vs }

-- ---- the plan
-- the commands of the first c clients, each with its own value after those of the clients before
abbrev pub scripts : ℕ → ℕ → List (List Command)
scripts n zero = []
scripts n (suc c) = scripts n c ++ script n c (length (values n c)) n ∷ []

-- one round over each of the three bricks
abbrev pub rounds : List BrickId
rounds = record { 0 = 0 } ∷ record { 0 = 1 } ∷ record { 0 = 2 } ∷ []

-- the last brick is away from position 50 to position 400
abbrev pub events : List PlannedEvent
events = record { at = 50; event = Stop (record { 0 = 2 }) } ∷ record { at = 400; event = Start (record { 0 = 2 }) } ∷ []

-- the whole plan, by its clients' commands and their values
abbrev pub plan_with : List (List Command) → List (List ℕ) → Plan
plan_with clients vs = record { shape = record { n = 3; arbiter = false }; files = 8; turns = 4000000; clients = clients; healers = rounds ∷ []; faults = []; events = events; go = []; words = words vs }

-- the generated plan
unfoldable pub generated : ℕ → Plan
generated n = plan_with (scripts n 4) (values n 4)
