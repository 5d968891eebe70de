-- Which line may stand after some lines, by what all of them say. Of the lines before, the newest comes first.
use Rattle.std.specs.Prelude.{ℕ, ◌+◌, ◌==◌, List, [], ◌∷◌, length, Bool, true, false, not, ◌&&◌, ◌||◌, nat_lt, nat_le, codes, count_by, sum_by}
use Rattle.std.specs.List.{list_any}
use Rattle.std.specs.Str.{bytes_eq}
use Rattle.afr_plan.specs.Happening.{Cut, Happening, Join, Kill, OfClient, OfHealer, Start, Stop, Who}
use Rattle.afr_plan.specs.Said.{Afr, At, Client, Command, End, Faulty, Files, Go, Healer, Round, Said, Turns, Volume}
use Rattle.afr_plan.specs.Action.{Action, action_word}
use Rattle.afr_plan.specs.Action as action
use Rattle.afr_plan.specs.declared.version.Version.{Version}
use Rattle.afr_plan.specs.declared.version.Version.TheVariants.{One, Two}

-- ---- places
-- the word that a line begins with
abbrev pub word_of : Said → List ℕ
word_of (Afr version) = codes "afr"
word_of (Volume version shape) = codes "volume"
word_of (Files k) = codes "files"
word_of (Turns t) = codes "turns"
word_of (Client i) = codes "client"
word_of (Command path w) = action_word w
word_of (Healer j) = codes "healer"
word_of (Round brick) = codes "round"
word_of (Faulty brick at fault) = codes "fault"
word_of (At at event) = codes "at"
word_of (Go who count) = codes "go"
word_of End = codes "end"

-- the words that may begin a line after an order, an event, a fault, and the last healer
abbrev pub after_go : List (List ℕ)
after_go = codes "go" ∷ codes "end" ∷ []

-- after an event
abbrev pub after_event : List (List ℕ)
after_event = codes "at" ∷ after_go

-- after a fault
abbrev pub after_fault : List (List ℕ)
after_fault = codes "fault" ∷ after_event

-- after the last healer
abbrev pub after_healers : List (List ℕ)
after_healers = codes "healer" ∷ after_fault

-- the same after the head of a healer and after a round, and after the turns
abbrev pub after_round : List (List ℕ)
after_round = codes "round" ∷ after_healers

-- after the turns
abbrev pub after_turns : List (List ℕ)
after_turns = codes "client" ∷ after_healers

-- the same after the head of a script and after a command: one of the twelve commands, or what may stand after the turns
abbrev pub after_changes : List (List ℕ)
after_changes = codes "ls" ∷ codes "stat" ∷ codes "setattr" ∷ codes "getattr" ∷ after_turns

-- after a command, from the commands on names on
abbrev pub after_bytes : List (List ℕ)
after_bytes = codes "create" ∷ codes "mkdir" ∷ codes "unlink" ∷ codes "rmdir" ∷ codes "rename" ∷ after_changes

-- after a command
abbrev pub after_command : List (List ℕ)
after_command = codes "write" ∷ codes "cut" ∷ codes "read" ∷ after_bytes

-- the words that may begin a line after this one
abbrev pub words_after : Said → List (List ℕ)
words_after (Afr version) = codes "volume" ∷ []
words_after (Volume version shape) = codes "files" ∷ []
words_after (Files k) = codes "turns" ∷ []
words_after (Turns t) = after_turns
words_after (Client i) = after_command
words_after (Command path w) = after_command
words_after (Healer j) = after_round
words_after (Round brick) = after_round
words_after (Faulty brick at fault) = after_fault
words_after (At at event) = after_event
words_after (Go who count) = after_go
words_after End = []

-- the words that may begin a line after these lines
abbrev pub next_words : List Said → List (List ℕ)
next_words [] = codes "afr" ∷ []
next_words (newest ∷ older) = words_after newest

-- a word is one of some words
abbrev pub is_one_of : List (List ℕ) → List ℕ → Bool
is_one_of words word = list_any (λ w. bytes_eq word w) words

-- a line that says this may stand after these lines
abbrev pub may_stand : List Said → Said → Bool
may_stand before s = is_one_of (next_words before) (word_of s)

-- the newest line is `end`
abbrev pub is_over : List Said → Bool
is_over (End ∷ older) = true
is_over before = false

-- ---- versions
-- both are the same version
abbrev pub is_same : Version → Version → Bool
is_same One One = true
is_same Two Two = true
is_same version other = false

-- a volume after a first line is spelled in the version of this line
abbrev pub is_spelled_after : Said → Said → Bool
is_spelled_after (Afr version) (Volume spelled shape) = is_same version spelled
is_spelled_after newest s = true

-- a volume is spelled in the version of the line before it
abbrev pub is_versioned : List Said → Said → Bool
is_versioned [] s = true
is_versioned (newest ∷ older) s = is_spelled_after newest s

-- ---- limits
-- a name, a key or a value is too long
abbrev pub is_long : List ℕ → Bool
is_long word = nat_lt 255 (length word)

-- there are more than 16 names, or one is too long
abbrev pub is_path_beyond : List (List ℕ) → Bool
is_path_beyond path = nat_lt 16 (length path) || list_any is_long path

-- a number, a key, a value, a piece of data or a second path is beyond its limit
abbrev pub is_work_beyond : Action → Bool
is_work_beyond (action.Write at bytes) = nat_lt 1048576 at || nat_lt 65536 (length bytes)
is_work_beyond (action.Cut len) = nat_lt 1048576 len
is_work_beyond (action.Read at len) = nat_lt 1048576 at || nat_lt 65536 len
is_work_beyond (action.SetAttr key value) = is_long key || is_long value
is_work_beyond (action.GetAttr key) = is_long key
is_work_beyond (action.Rename to) = is_path_beyond to
is_work_beyond w = false

-- no volume has so high a brick
abbrev pub is_brick_beyond : ℕ → Bool
is_brick_beyond brick = nat_le 5 brick

-- a plan has at most 16 clients and 3 healers
abbrev pub is_who_beyond : Who → Bool
is_who_beyond (OfClient i) = nat_lt 16 i
is_who_beyond (OfHealer j) = nat_lt 3 j

-- an actor or a brick of an event is beyond its limit
abbrev pub is_event_beyond : Happening → Bool
is_event_beyond (Stop brick) = is_brick_beyond brick
is_event_beyond (Start brick) = is_brick_beyond brick
is_event_beyond (Cut who brick) = is_who_beyond who || is_brick_beyond brick
is_event_beyond (Join who brick) = is_who_beyond who || is_brick_beyond brick
is_event_beyond (Kill who) = is_who_beyond who

-- not from 1 to 4,000,000
abbrev pub is_count_beyond : ℕ → Bool
is_count_beyond n = nat_lt n 1 || nat_lt 4000000 n

-- something in the line is beyond its limit
abbrev pub is_beyond : Said → Bool
is_beyond (Files k) = nat_lt 1000 k
is_beyond (Turns t) = is_count_beyond t
is_beyond (Client i) = nat_lt 16 i
is_beyond (Command path w) = is_path_beyond path || is_work_beyond w
is_beyond (Healer j) = nat_lt 3 j
is_beyond (Round brick) = is_brick_beyond brick
is_beyond (Faulty brick at fault) = is_brick_beyond brick || is_count_beyond at
is_beyond (At at event) = nat_lt 4000000 at || is_event_beyond event
is_beyond (Go who count) = is_who_beyond who || is_count_beyond count
is_beyond s = false

-- ---- what the lines before say
-- the head of a client
abbrev pub is_client : Said → Bool
is_client (Client i) = true
is_client s = false

-- a command
abbrev pub is_command : Said → Bool
is_command (Command path w) = true
is_command s = false

-- a command `ls`
abbrev pub is_ls : Action → Bool
is_ls action.Ls = true
is_ls w = false

-- a line with the command `ls`
abbrev pub is_listing : Said → Bool
is_listing (Command path w) = is_ls w
is_listing s = false

-- the head of a healer
abbrev pub is_healer : Said → Bool
is_healer (Healer j) = true
is_healer s = false

-- a round
abbrev pub is_round : Said → Bool
is_round (Round brick) = true
is_round s = false

-- a fault
abbrev pub is_fault : Said → Bool
is_fault (Faulty brick at fault) = true
is_fault s = false

-- a fault of this brick at this request
abbrev pub is_fault_of : ℕ → ℕ → Said → Bool
is_fault_of brick at (Faulty b n fault) = brick == b && at == n
is_fault_of brick at s = false

-- an event
abbrev pub is_event : Said → Bool
is_event (At at event) = true
is_event s = false

-- an order
abbrev pub is_order : Said → Bool
is_order (Go who count) = true
is_order s = false

-- the position of the newest event, or 0
abbrev pub last_at : List Said → ℕ
last_at [] = 0
last_at (At at event ∷ older) = at
last_at (s ∷ older) = last_at older

-- how many bricks the volume has, or 0 before its line
abbrev pub bricks_of : List Said → ℕ
bricks_of [] = 0
bricks_of (Volume version shape ∷ older) = shape.n
bricks_of (s ∷ older) = bricks_of older

-- how far into the file a write goes
abbrev pub work_end : Action → ℕ
work_end (action.Write at bytes) = at + length bytes
work_end w = 0

-- how far into the file the write of a line goes
abbrev pub write_end : Said → ℕ
write_end (Command path w) = work_end w
write_end s = 0

-- how many bytes a read asks for
abbrev pub work_len : Action → ℕ
work_len (action.Read at len) = len
work_len w = 0

-- how many bytes the read of a line asks for
abbrev pub read_len : Said → ℕ
read_len (Command path w) = work_len w
read_len s = 0

-- ---- order
-- the volume has no such brick
abbrev pub lacks_brick : List Said → ℕ → Bool
lacks_brick before brick = nat_le (bricks_of before) brick

-- the plan has no such actor
abbrev pub lacks_who : List Said → Who → Bool
lacks_who before (OfClient i) = i == 0 || nat_lt (count_by is_client before) i
lacks_who before (OfHealer j) = j == 0 || nat_lt (count_by is_healer before) j

-- an event names an actor or a brick that the plan doesn't have
abbrev pub is_event_disordered : List Said → Happening → Bool
is_event_disordered before (Stop brick) = lacks_brick before brick
is_event_disordered before (Start brick) = lacks_brick before brick
is_event_disordered before (Cut who brick) = lacks_who before who || lacks_brick before brick
is_event_disordered before (Join who brick) = lacks_who before who || lacks_brick before brick
is_event_disordered before (Kill who) = lacks_who before who

-- a number isn't the next one, a brick or an actor isn't there, a fault stands before, or a position falls
abbrev pub is_disordered : List Said → Said → Bool
is_disordered before (Client i) = not (i == count_by is_client before + 1)
is_disordered before (Healer j) = not (j == count_by is_healer before + 1)
is_disordered before (Round brick) = lacks_brick before brick
is_disordered before (Faulty brick at fault) = lacks_brick before brick || list_any (is_fault_of brick at) before
is_disordered before (At at event) = nat_lt at (last_at before) || is_event_disordered before event
is_disordered before (Go who count) = lacks_who before who
is_disordered before s = false

-- ---- totals
-- 256 `ls`, 268,435,456 for the ends of writes, 67,108,864 for the lengths of reads: one of these is passed
abbrev pub passes_work : List Said → Action → Bool
passes_work before (action.Write at bytes) = nat_lt 268435456 (sum_by write_end before + (at + length bytes))
passes_work before (action.Read at len) = nat_lt 67108864 (sum_by read_len before + len)
passes_work before action.Ls = nat_le 256 (count_by is_listing before)
passes_work before w = false

-- 16,384 commands, 1,024 rounds, faults, events and orders each, and the totals of commands: one of these is passed
abbrev pub passes_total : List Said → Said → Bool
passes_total before (Command path w) = nat_le 16384 (count_by is_command before) || passes_work before w
passes_total before (Round brick) = nat_le 1024 (count_by is_round before)
passes_total before (Faulty brick at fault) = nat_le 1024 (count_by is_fault before)
passes_total before (At at event) = nat_le 1024 (count_by is_event before)
passes_total before (Go who count) = nat_le 1024 (count_by is_order before)
passes_total before s = false
