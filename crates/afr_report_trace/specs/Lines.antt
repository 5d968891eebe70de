-- The text of each line of a log, and of the whole.
use Rattle.std.specs.Prelude.{ℕ, List, [], ◌∷◌, ◌++◌, codes, decimal, length}
use Rattle.afr_base.specs.declared.ids.Gfid.{Gfid}
use Rattle.afr_base.specs.declared.ids.Kind.{Kind}
use Rattle.afr_lines.specs.declared.line.Line.{Line}
use Rattle.afr_lines.specs.declared.line.Line.TheVariants as line_of
use Rattle.afr_plan.specs.declared.plan.Plan.{Plan}
use Rattle.afr_model.specs.ReportReplies.{actor_text, heal_text, kind_text, reply_text}
use Rattle.afr_report_trace.specs.Answers.{event_text, told_text}
use Rattle.afr_report_trace.specs.Changes.{change_text}
use Rattle.afr_report_trace.specs.Objects.{object_text}
use Rattle.afr_report_trace.specs.Requests.{request_text}

-- what a heal is about: a kind and an object
abbrev pub healed_text : Plan → Gfid → Kind → List ℕ
healed_text p g kind = kind_text kind ++ codes " " ++ object_text p g

-- what a line says: who asked which brick for what and was told what, who began or ended what, or what happened
abbrev pub said_text : Plan → Line → List ℕ
said_text p (line_of.Ask actor b request told took) = actor_text actor ++ codes " b" ++ decimal b.0 ++ codes " " ++ request_text p request ++ codes " " ++ told_text told took
said_text p (line_of.Begin actor change) = actor_text actor ++ codes " begin " ++ change_text p change
said_text p (line_of.HealBegin actor g kind) = actor_text actor ++ codes " begin " ++ codes "heal " ++ healed_text p g kind
said_text p (line_of.End actor reply) = actor_text actor ++ codes " end " ++ reply_text p.words reply
said_text p (line_of.HealEnd actor g kind reply) = actor_text actor ++ codes " end " ++ healed_text p g kind ++ codes " " ++ heal_text reply
said_text p (line_of.Event event) = codes "event " ++ event_text event

-- the text of the line at a position: the position, and what the line says
abbrev pub line_text : Plan → ℕ → Line → List ℕ
line_text p position line = decimal position ++ codes " " ++ said_text p line ++ codes "\n"

-- the text of a log: its lines, the oldest first
abbrev pub trace_of : Plan → List Line → List ℕ
trace_of p [] = []
trace_of p (line ∷ older) = trace_of p older ++ line_text p (length older) line
