-- The text of a plan: its lines, in the order of a plan.
use Rattle.std.specs.Prelude.{ℕ, ◌-◌, ◌==◌, List, [], ◌∷◌, ◌++◌, suc, nat_le, nat_lt, codes, map, slice_get, Option, Some, None, if◌then◌else◌}
use Rattle.std.specs.List.{list_all}
use Rattle.afr_base.specs.declared.ids.ActorId.{ActorId}
use Rattle.afr_base.specs.declared.ids.BrickId.{BrickId}
use Rattle.afr_base.specs.declared.ids.NameId.{NameId}
use Rattle.afr_base.specs.declared.ids.Shape.{Shape}
use Rattle.afr_lines.specs.declared.line.Event.{Event}
use Rattle.afr_lines.specs.declared.line.Event.TheVariants as event
use Rattle.afr_plan.specs.declared.command.Command.{Command}
use Rattle.afr_plan.specs.declared.command.Command.TheVariants as command
use Rattle.afr_plan.specs.declared.plan.Plan.{Plan}
use Rattle.afr_plan.specs.declared.plan.Words.{Words}
use Rattle.afr_plan.specs.declared.schedule.Go.{Go}
use Rattle.afr_plan.specs.declared.schedule.PlannedEvent.{PlannedEvent}
use Rattle.afr_plan.specs.declared.schedule.PlannedFault.{PlannedFault}
use Rattle.afr_plan.specs.declared.version.Version.{Version}
use Rattle.afr_plan.specs.declared.version.Version.TheVariants.{One, Two}
use Rattle.afr_plan.specs.Happening.{Who, OfClient, OfHealer, Happening, Stop, Start, Cut, Join, Kill}
use Rattle.afr_plan.specs.Action as action
use Rattle.afr_plan.specs.Said as said
use Rattle.afr_plan.specs.Said.{Said}
use Rattle.afr_plan_print.specs.PrintedLine.{lines_text}

-- ---- words
-- a word of ASCII as it stands, else a question mark
abbrev pub as_ascii : List ℕ → List ℕ
as_ascii word = if list_all (λ b. nat_lt b 128) word then word else codes "?"

-- the same where there is a word
abbrev pub or_mark : Option (List ℕ) → List ℕ
or_mark None = codes "?"
or_mark (Some word) = as_ascii word

-- the word at a place; a plan that was read has one at each place that it names, and it is ASCII
abbrev pub word_at : List (List ℕ) → ℕ → List ℕ
word_at words place = or_mark (slice_get words place)

-- the names of a path
abbrev pub names_of : Words → List NameId → List (List ℕ)
names_of words path = map (λ id. word_at words.names id.0) path

-- ---- what is said
-- a command, with its words
abbrev pub said_command : Words → Command → Said
said_command words (command.Write path at bytes) = said.Command (names_of words path) (action.Write at bytes)
said_command words (command.Cut path len) = said.Command (names_of words path) (action.Cut len)
said_command words (command.Read path at len) = said.Command (names_of words path) (action.Read at len)
said_command words (command.Create path) = said.Command (names_of words path) action.Create
said_command words (command.Mkdir path) = said.Command (names_of words path) action.Mkdir
said_command words (command.Unlink path) = said.Command (names_of words path) action.Unlink
said_command words (command.Rmdir path) = said.Command (names_of words path) action.Rmdir
said_command words (command.Ls path) = said.Command (names_of words path) action.Ls
said_command words (command.Stat path) = said.Command (names_of words path) action.Stat
said_command words (command.SetAttr path key value) = said.Command (names_of words path) (action.SetAttr (word_at words.keys key.0) (word_at words.values value.0))
said_command words (command.GetAttr path key) = said.Command (names_of words path) (action.GetAttr (word_at words.keys key.0))
said_command words (command.Rename from to) = said.Command (names_of words from) (action.Rename (names_of words to))

-- a round
abbrev pub said_round : BrickId → Said
said_round brick = said.Round brick.0

-- a fault
abbrev pub said_fault : PlannedFault → Said
said_fault f = said.Faulty f.brick.0 f.at f.fault

-- an actor: up to 16 the clients, and then the healers
abbrev pub said_who : ActorId → Who
said_who actor = if nat_le actor.0 16 then OfClient actor.0 else OfHealer (actor.0 - 16)

-- an event
abbrev pub happening_of : Event → Happening
happening_of (event.Stop brick) = Stop brick.0
happening_of (event.Start brick) = Start brick.0
happening_of (event.Cut actor brick) = Cut (said_who actor) brick.0
happening_of (event.Join actor brick) = Join (said_who actor) brick.0
happening_of (event.Kill actor) = Kill (said_who actor)

-- an event at its position
abbrev pub said_event : PlannedEvent → Said
said_event e = said.At e.at (happening_of e.event)

-- an order
abbrev pub said_order : Go → Said
said_order go = said.Go (said_who go.actor) go.count

-- ---- all lines
-- three bricks are printed in version 1, any other number of them in version 2
abbrev pub version_of : Shape → Version
version_of shape = if shape.n == 3 then One else Two

-- the first four lines
abbrev pub head_lines : Plan → List Said
head_lines p = said.Afr (version_of p.shape) ∷ said.Volume (version_of p.shape) p.shape ∷ said.Files p.files ∷ said.Turns p.turns ∷ []

-- numbered heads, the first of them being number i, each with its own lines
abbrev pub group_lines : {A : Type 0} → (ℕ → Said) → (A → Said) → ℕ → List (List A) → List Said
group_lines head line i [] = []
group_lines head line i (group ∷ more) = head i ∷ (map line group ++ group_lines head line (suc i) more)

-- the clients with their commands
abbrev pub client_lines : Words → List (List Command) → List Said
client_lines words scripts = group_lines said.Client (said_command words) 1 scripts

-- the healers with their rounds
abbrev pub healer_lines : List (List BrickId) → List Said
healer_lines healers = group_lines said.Healer said_round 1 healers

-- a plan's lines: its head, clients, healers, faults, events, orders and end
abbrev pub plan_lines : Plan → List Said
plan_lines p = head_lines p ++ (client_lines p.words p.clients ++ (healer_lines p.healers ++ (map said_fault p.faults ++ (map said_event p.events ++ (map said_order p.go ++ said.End ∷ [])))))

-- the text of a plan
abbrev pub plan_text : Plan → List ℕ
plan_text p = lines_text (plan_lines p)
