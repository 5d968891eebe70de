-- The ends of the lines of requests, from the space before the answer.
use Rattle.std.specs.Prelude.{ℕ, List, ◌++◌, codes}
use Rattle.afr_model.specs.ReportReplies.{actor_text}
use Rattle.afr_report_trace.specs.declared.endings.LineEnding.{LineEnding}
use Rattle.afr_report_trace.specs.declared.endings.LineEnding.TheVariants as ending

-- an end of a line
abbrev pub ending_text : LineEnding → List ℕ
ending_text ending.Granted = codes " granted\n"
ending_text (ending.Held owner) = codes " held " ++ actor_text owner ++ codes "\n"
ending_text ending.Seen = codes " seen\n"
ending_text ending.Done = codes " done\n"
ending_text ending.Given = codes " ok\n"
ending_text ending.NoObject = codes " absent\n"
ending_text ending.Lost = codes " lost\n"
ending_text ending.Gone = codes " gone\n"
ending_text ending.Failed = codes " failed\n"
