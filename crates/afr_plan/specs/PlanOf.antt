-- The plan that some lines give.
use Rattle.std.specs.Prelude.{ℕ, List, [], ◌∷◌, ◌++◌, ◌+◌}
use Rattle.afr_base.specs.declared.ids.ActorId.{ActorId}
use Rattle.afr_base.specs.declared.ids.NameId.{NameId}
use Rattle.afr_lines.specs.declared.line.Event.{Event}
use Rattle.afr_lines.specs.declared.line.Event.TheVariants as event
use Rattle.afr_plan.specs.declared.command.Command.{Command}
use Rattle.afr_plan.specs.declared.command.Command.TheVariants as command
use Rattle.afr_plan.specs.declared.plan.Plan.{Plan}
use Rattle.afr_plan.specs.declared.plan.Words.{Words}
use Rattle.afr_plan.specs.Happening.{Who, OfClient, OfHealer, Happening, Stop, Start, Cut, Join, Kill}
use Rattle.afr_plan.specs.Names.{with_name, with_names, number_of, file_names}
use Rattle.afr_plan.specs.Said.{three_replicas, Said, Volume, Files, Turns, Client, Healer, Round, Faulty, At, Go}
use Rattle.afr_plan.specs.Said as said
use Rattle.afr_plan.specs.Action.{Action, Write, Read, Create, Mkdir, Unlink, Rmdir, Ls, Stat, SetAttr, GetAttr, Rename}
use Rattle.afr_plan.specs.Action as action

-- three bricks without an arbiter, and nothing else
abbrev pub empty_plan : Plan
empty_plan = record { shape = three_replicas; files = 0; turns = 0; clients = []; healers = []; faults = []; events = []; go = []; words = record { names = []; keys = []; values = [] } }

-- an item more at the end of the last list
abbrev pub onto_last : {A : Type 0} → A → List (List A) → List (List A)
onto_last c [] = []
onto_last c (script ∷ []) = (script ++ c ∷ []) ∷ []
onto_last c (script ∷ next ∷ more) = script ∷ onto_last c (next ∷ more)

-- the numbers of a path's names, each new one after those before it
abbrev pub path_of : List (List ℕ) → List (List ℕ) → List NameId
path_of names [] = []
path_of names (name ∷ path) = record { 0 = number_of names name } ∷ path_of (with_name names name) path

-- a command, its words numbered beside those before
abbrev pub command_of : Words → List (List ℕ) → Action → Command
command_of words path (Write at bytes) = command.Write (path_of words.names path) at bytes
command_of words path (action.Cut len) = command.Cut (path_of words.names path) len
command_of words path (Read at len) = command.Read (path_of words.names path) at len
command_of words path Create = command.Create (path_of words.names path)
command_of words path Mkdir = command.Mkdir (path_of words.names path)
command_of words path Unlink = command.Unlink (path_of words.names path)
command_of words path Rmdir = command.Rmdir (path_of words.names path)
command_of words path Ls = command.Ls (path_of words.names path)
command_of words path Stat = command.Stat (path_of words.names path)
command_of words path (SetAttr key value) = command.SetAttr (path_of words.names path) (record { 0 = number_of words.keys key }) (record { 0 = number_of words.values value })
command_of words path (GetAttr key) = command.GetAttr (path_of words.names path) (record { 0 = number_of words.keys key })
command_of words path (Rename to) = command.Rename (path_of words.names path) (path_of (with_names words.names path) to)

-- the words with those of a command
abbrev pub words_with : Words → List (List ℕ) → Action → Words
words_with words path (SetAttr key value) = record words { names = with_names words.names path; keys = with_name words.keys key; values = with_name words.values value }
words_with words path (GetAttr key) = record words { names = with_names words.names path; keys = with_name words.keys key }
words_with words path (Rename to) = record words { names = with_names (with_names words.names path) to }
words_with words path w = record words { names = with_names words.names path }

-- client i is i, healer j is 16 + j
abbrev pub actor_of : Who → ActorId
actor_of (OfClient i) = record { 0 = i }
actor_of (OfHealer j) = record { 0 = 16 + j }

-- an event of the log
abbrev pub event_of : Happening → Event
event_of (Stop brick) = event.Stop (record { 0 = brick })
event_of (Start brick) = event.Start (record { 0 = brick })
event_of (Cut who brick) = event.Cut (actor_of who) (record { 0 = brick })
event_of (Join who brick) = event.Join (actor_of who) (record { 0 = brick })
event_of (Kill who) = event.Kill (actor_of who)

-- what a line adds to a plan
abbrev pub with_line : Said → Plan → Plan
with_line (Volume version shape) p = record p { shape = shape }
with_line (Files k) p = record p { files = k; words = record p.words { names = file_names k } }
with_line (Turns t) p = record p { turns = t }
with_line (Client i) p = record p { clients = p.clients ++ [] ∷ [] }
with_line (said.Command path w) p = record p { clients = onto_last (command_of p.words path w) p.clients; words = words_with p.words path w }
with_line (Healer j) p = record p { healers = p.healers ++ [] ∷ [] }
with_line (Round brick) p = record p { healers = onto_last (record { 0 = brick }) p.healers }
with_line (Faulty brick at fault) p = record p { faults = p.faults ++ record { brick = record { 0 = brick }; at = at; fault = fault } ∷ [] }
with_line (At at happening) p = record p { events = p.events ++ record { at = at; event = event_of happening } ∷ [] }
with_line (Go who count) p = record p { go = p.go ++ record { actor = actor_of who; count = count } ∷ [] }
with_line s p = p

-- the plan that lines give, of which the newest comes first
abbrev pub plan_of : List Said → Plan
plan_of [] = empty_plan
plan_of (s ∷ older) = with_line s (plan_of older)
