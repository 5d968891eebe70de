-- What a line says, without where its words lie in memory.
use Rattle.std.specs.Prelude.{ℕ, List, replicate}
use Rattle.afr_plan.specs.Data.{hex_bytes}
use Rattle.afr_plan.specs.Happening.{Who, Happening}
use Rattle.afr_plan.specs.Happening as happening
use Rattle.afr_plan.specs.Paths.{names_in}
use Rattle.afr_plan.specs.Said.{Said}
use Rattle.afr_plan.specs.Said as said
use Rattle.afr_plan.specs.Action.{Action}
use Rattle.afr_plan.specs.Action as action
use Rattle.afr_plan_line.specs.declared.spoken.SpokenData.{SpokenData}
use Rattle.afr_plan_line.specs.declared.spoken.SpokenData.TheVariants.{Text, Hex, Fill}
use Rattle.afr_plan_line.specs.declared.spoken.SpokenWho.{SpokenWho}
use Rattle.afr_plan_line.specs.declared.spoken.SpokenWho.TheVariants.{OfClient, OfHealer}
use Rattle.afr_plan_line.specs.declared.spoken.SpokenEvent.{SpokenEvent}
use Rattle.afr_plan_line.specs.declared.spoken.SpokenEvent.TheVariants as event
use Rattle.afr_plan_line.specs.declared.spoken.SpokenAction.{SpokenAction}
use Rattle.afr_plan_line.specs.declared.spoken.SpokenAction.TheVariants.{Write, Cut, Read, Create, Mkdir, Unlink, Rmdir, Ls, Stat, SetAttr, GetAttr, Rename}
use Rattle.afr_plan_line.specs.declared.spoken.Spoken.{Spoken}
use Rattle.afr_plan_line.specs.declared.spoken.Spoken.TheVariants.{Afr, Volume, Files, Turns, Client, Command, Healer, Round, Faulty, At, Go, End}

-- the bytes that data stands for
abbrev pub seen_data : SpokenData → List ℕ
seen_data (Text text) = text.now
seen_data (Hex digits) = hex_bytes digits.now
seen_data (Fill count byte) = replicate count byte

-- what a command does, its words as their bytes
abbrev pub seen_action : SpokenAction → Action
seen_action (Write at d) = action.Write at (seen_data d)
seen_action (Cut len) = action.Cut len
seen_action (Read at len) = action.Read at len
seen_action Create = action.Create
seen_action Mkdir = action.Mkdir
seen_action Unlink = action.Unlink
seen_action Rmdir = action.Rmdir
seen_action Ls = action.Ls
seen_action Stat = action.Stat
seen_action (SetAttr key value) = action.SetAttr key.now value.now
seen_action (GetAttr key) = action.GetAttr key.now
seen_action (Rename to) = action.Rename (names_in to.now)

-- an actor
abbrev pub seen_who : SpokenWho → Who
seen_who (OfClient i) = happening.OfClient i
seen_who (OfHealer j) = happening.OfHealer j

-- an event
abbrev pub seen_event : SpokenEvent → Happening
seen_event (event.Stop brick) = happening.Stop brick
seen_event (event.Start brick) = happening.Start brick
seen_event (event.Cut who brick) = happening.Cut (seen_who who) brick
seen_event (event.Join who brick) = happening.Join (seen_who who) brick
seen_event (event.Kill who) = happening.Kill (seen_who who)

-- the words of the text, as their bytes
abbrev pub seen : Spoken → Said
seen (Afr version) = said.Afr version
seen (Volume version shape) = said.Volume version shape
seen (Files k) = said.Files k
seen (Turns t) = said.Turns t
seen (Client i) = said.Client i
seen (Command path w) = said.Command (names_in path.now) (seen_action w)
seen (Healer j) = said.Healer j
seen (Round brick) = said.Round brick
seen (Faulty brick at fault) = said.Faulty brick at fault
seen (At at e) = said.At at (seen_event e)
seen (Go who count) = said.Go (seen_who who) count
seen End = said.End
