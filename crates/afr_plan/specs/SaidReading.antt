-- How what a line says is read.
use Rattle.std.specs.Prelude.{ℕ, List, [], ◌∷◌, Option, None, codes}
use Rattle.afr_base.specs.declared.ids.Shape.{Shape}
use Rattle.afr_lines.specs.declared.fault.Fault.{Fault}
use Rattle.afr_lines.specs.declared.fault.Fault.TheVariants.{Fail, Lost}
use Rattle.afr_plan.specs.Bytes.{hex_digit}
use Rattle.afr_plan.specs.Data.{hex_bytes, is_paired, is_pair, quoted_of, filled_of}
use Rattle.afr_plan.specs.Happening.{Who, OfClient, OfHealer, Happening, Stop, Start, Cut, Join, Kill}
use Rattle.afr_plan.specs.Reading.{Reader, word_then, word, both, as_a, either, or_else, run_of, whole, path_at, named_path_at, key_at, number_at, small_at, text_at}
use Rattle.afr_plan.specs.Said.{three_replicas, three_with_arbiter, five_replicas, Said, Afr, Volume, Files, Turns, Client, Command, Healer, Round, Faulty, At, Go, End}
use Rattle.afr_plan.specs.Action.{Action, Write, Read, Create, Mkdir, Unlink, Rmdir, Ls, Stat, SetAttr, GetAttr, Rename}
use Rattle.afr_plan.specs.Action as action
use Rattle.afr_plan.specs.declared.version.Version.TheVariants.{One, Two}

-- ---- data
-- a text between quotation marks
unfoldable pub quoted_at : Reader (List ℕ)
quoted_at = as_a quoted_of (word_then (codes "\"") (both text_at (word (codes "\"") tt)))

-- pairs of digits
unfoldable pub hexed_at : Reader (List ℕ)
hexed_at = as_a hex_bytes (word_then (codes "hex:") (run_of hex_digit is_paired))

-- so many bytes of one value
unfoldable pub filled_at : Reader (List ℕ)
filled_at = as_a filled_of (word_then (codes "fill:") (both number_at (word_then (codes ":") (run_of hex_digit is_pair))))

-- data in one of its forms
unfoldable pub data_at : Reader (List ℕ)
data_at = either quoted_at (either hexed_at filled_at)

-- ---- actors and events
-- a client, a healer, and one of the two
unfoldable pub client_who_at : Reader Who
client_who_at = as_a OfClient (word_then (codes "c") small_at)

-- a healer
unfoldable pub healer_who_at : Reader Who
healer_who_at = as_a OfHealer (word_then (codes "h") small_at)

-- a client or a healer
unfoldable pub who_at : Reader Who
who_at = either client_who_at healer_who_at

-- the cut of an actor from a brick, and its end, of their parts
abbrev pub cut_event : Who × ℕ → Happening
cut_event x = Cut x.0 x.1

-- the end of such a cut
abbrev pub join_event : Who × ℕ → Happening
join_event x = Join x.0 x.1

-- an actor and a brick
unfoldable pub pair_at : Reader (Who × ℕ)
pair_at = both who_at (word_then (codes " ") small_at)

-- each event
unfoldable pub stop_at : Reader Happening
stop_at = as_a Stop (word_then (codes "stop ") small_at)

-- a start
unfoldable pub start_at : Reader Happening
start_at = as_a Start (word_then (codes "start ") small_at)

-- a cut of an actor from a brick
unfoldable pub cut_event_at : Reader Happening
cut_event_at = as_a cut_event (word_then (codes "cut ") pair_at)

-- the end of a cut
unfoldable pub join_event_at : Reader Happening
join_event_at = as_a join_event (word_then (codes "join ") pair_at)

-- a death
unfoldable pub kill_at : Reader Happening
kill_at = as_a Kill (word_then (codes "kill ") who_at)

-- one of them
unfoldable pub happening_at : Reader Happening
happening_at = either stop_at (either start_at (either cut_event_at (either join_event_at kill_at)))

-- ---- commands, of their parts
abbrev pub write_of : List (List ℕ) × (ℕ × List ℕ) → Said
write_of x = Command x.0 (Write x.1.0 x.1.1)

-- a cut of a file
abbrev pub cut_of : List (List ℕ) × ℕ → Said
cut_of x = Command x.0 (action.Cut x.1)

-- a read
abbrev pub read_of : List (List ℕ) × (ℕ × ℕ) → Said
read_of x = Command x.0 (Read x.1.0 x.1.1)

-- a set attribute
abbrev pub set_of : List (List ℕ) × (List ℕ × List ℕ) → Said
set_of x = Command x.0 (SetAttr x.1.0 x.1.1)

-- a read attribute
abbrev pub get_of : List (List ℕ) × List ℕ → Said
get_of x = Command x.0 (GetAttr x.1)

-- a rename
abbrev pub rename_of : List (List ℕ) × List (List ℕ) → Said
rename_of x = Command x.0 (Rename x.1)

-- a command that has a path alone
abbrev pub on_path : Action → List (List ℕ) → Said
on_path w path = Command path w

-- ---- lines
-- a volume in version 1: `replica` or `arbiter`
unfoldable pub shape_one_at : Reader Shape
shape_one_at = either (word (codes "replica") three_replicas) (word (codes "arbiter") three_with_arbiter)

-- in version 2: the same with the number of bricks
unfoldable pub shape_two_at : Reader Shape
shape_two_at = either (word (codes "replica 3") three_replicas) (either (word (codes "replica 5") five_replicas) (word (codes "arbiter 3") three_with_arbiter))

-- the volume, in version 1
unfoldable pub volume_one_at : Reader Said
volume_one_at = as_a (Volume One) (word_then (codes "volume ") shape_one_at)

-- and in version 2
unfoldable pub volume_two_at : Reader Said
volume_two_at = as_a (Volume Two) (word_then (codes "volume ") shape_two_at)

-- the number of opening files
unfoldable pub files_at : Reader Said
files_at = as_a Files (word_then (codes "files ") number_at)

-- the number of lines that the log may have
unfoldable pub turns_at : Reader Said
turns_at = as_a Turns (word_then (codes "turns ") number_at)

-- the head of a client's script
unfoldable pub client_at : Reader Said
client_at = as_a Client (word_then (codes "client ") number_at)

-- a write of data at an offset
unfoldable pub write_at : Reader Said
write_at = as_a write_of (word_then (codes "write ") (both path_at (word_then (codes " ") (both number_at (word_then (codes " ") data_at)))))

-- a cut to a length
unfoldable pub cut_at : Reader Said
cut_at = as_a cut_of (word_then (codes "cut ") (both path_at (word_then (codes " ") number_at)))

-- a read of so many bytes from an offset on
unfoldable pub read_at : Reader Said
read_at = as_a read_of (word_then (codes "read ") (both path_at (word_then (codes " ") (both number_at (word_then (codes " ") number_at)))))

-- a command on a path, which may be `/`
unfoldable pub path_line : List ℕ → Action → Reader Said
path_line text w = as_a (on_path w) (word_then text path_at)

-- the same where the path isn't `/`
unfoldable pub named_line : List ℕ → Action → Reader Said
named_line text w = as_a (on_path w) (word_then text named_path_at)

-- a key's new value
unfoldable pub set_at : Reader Said
set_at = as_a set_of (word_then (codes "setattr ") (both path_at (word_then (codes " ") (both key_at (word_then (codes " ") key_at)))))

-- a question for a key's value
unfoldable pub get_at : Reader Said
get_at = as_a get_of (word_then (codes "getattr ") (both path_at (word_then (codes " ") key_at)))

-- two paths, neither of which is `/`
unfoldable pub rename_at : Reader Said
rename_at = as_a rename_of (word_then (codes "rename ") (both named_path_at (word_then (codes " ") named_path_at)))

-- the head of a healer
unfoldable pub healer_at : Reader Said
healer_at = as_a Healer (word_then (codes "healer ") number_at)

-- a round at a brick
unfoldable pub round_at : Reader Said
round_at = as_a Round (word_then (codes "round ") small_at)

-- `fail` or `lost`
unfoldable pub kind_at : Reader Fault
kind_at = either (word (codes "fail") Fail) (word (codes "lost") Lost)

-- a fault, of its parts
abbrev pub fault_of : ℕ × (ℕ × Fault) → Said
fault_of x = Faulty x.0 x.1.0 x.1.1

-- a fault of a brick at a request
unfoldable pub fault_at : Reader Said
fault_at = as_a fault_of (word_then (codes "fault ") (both small_at (word_then (codes " ") (both number_at (word_then (codes " ") kind_at)))))

-- an event, of its parts
abbrev pub event_of : ℕ × Happening → Said
event_of x = At x.0 x.1

-- an event at a position
unfoldable pub event_at : Reader Said
event_at = as_a event_of (word_then (codes "at ") (both number_at (word_then (codes " ") happening_at)))

-- an order, of its parts
abbrev pub order_of : Who × ℕ → Said
order_of x = Go x.0 x.1

-- an order for so many turns
unfoldable pub order_at : Reader Said
order_at = as_a order_of (word_then (codes "go ") (both who_at (word_then (codes " ") number_at)))

-- the first of some forms that a whole line has
abbrev pub one_of : List (Reader Said) → List ℕ → Option Said
one_of [] line = None
one_of (form ∷ forms) line = or_else (whole form line) (one_of forms line)

-- the forms of commands, each with a first word of its own
abbrev pub command_forms : List (Reader Said)
command_forms = write_at ∷ cut_at ∷ read_at ∷ named_line (codes "create ") Create ∷ named_line (codes "mkdir ") Mkdir ∷ named_line (codes "unlink ") Unlink ∷ named_line (codes "rmdir ") Rmdir ∷ path_line (codes "ls ") Ls ∷ path_line (codes "stat ") Stat ∷ set_at ∷ get_at ∷ rename_at ∷ []

-- the forms of all other lines
abbrev pub line_forms : List (Reader Said)
line_forms = word (codes "afr 1") (Afr One) ∷ word (codes "afr 2") (Afr Two) ∷ volume_one_at ∷ volume_two_at ∷ files_at ∷ turns_at ∷ client_at ∷ healer_at ∷ round_at ∷ fault_at ∷ event_at ∷ order_at ∷ word (codes "end") End ∷ []

-- what a line says, where it has one of the forms
unfoldable pub said : List ℕ → Option Said
said line = or_else (one_of command_forms line) (one_of line_forms line)
