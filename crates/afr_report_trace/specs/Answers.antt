-- The texts of answers and events.
use Rattle.std.specs.Prelude.{ℕ, Bool, List, ◌++◌, codes, decimal, if◌then◌else◌}
use Rattle.afr_lines.specs.declared.answer.Told.{Told}
use Rattle.afr_lines.specs.declared.answer.Told.TheVariants as told
use Rattle.afr_lines.specs.declared.line.Event.{Event}
use Rattle.afr_lines.specs.declared.line.Event.TheVariants as event
use Rattle.afr_model.specs.ReportReplies.{actor_text}

-- an answer; one that is lost differs from none by what the brick did
abbrev pub told_text : Told → Bool → List ℕ
told_text told.Granted took = codes "granted"
told_text (told.Held owner) took = codes "held " ++ actor_text owner
told_text (told.Seen view) took = codes "seen"
told_text told.Done took = codes "done"
told_text told.Given took = codes "ok"
told_text told.NoObject took = codes "absent"
told_text told.NotConnected took = if took then codes "lost" else codes "gone"
told_text told.Failed took = codes "failed"

-- an event, as a plan has it
abbrev pub event_text : Event → List ℕ
event_text (event.Stop b) = codes "stop " ++ decimal b.0
event_text (event.Start b) = codes "start " ++ decimal b.0
event_text (event.Cut actor b) = codes "cut " ++ actor_text actor ++ codes " " ++ decimal b.0
event_text (event.Join actor b) = codes "join " ++ actor_text actor ++ codes " " ++ decimal b.0
event_text (event.Kill actor) = codes "kill " ++ actor_text actor
