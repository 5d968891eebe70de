-- What each form of the program's words reads and writes.
use Rattle.std.specs.Prelude.{ℕ, List, Bool, true, false}
use Rattle.afr_lines.specs.declared.line.Line.{Line}
use Rattle.afr_plan.specs.declared.plan.Plan.{Plan}
use Rattle.afr_model.specs.ReportHealers.{info_of, report_of}
use Rattle.afr_report.specs.Summary.Summary.{summary_of}
use Rattle.afr_report_trace.specs.Lines.{trace_of}
use Rattle.afr_words.specs.declared.form.Form.{Form}
use Rattle.afr_words.specs.declared.form.Form.TheVariants as kind

-- the form reads its plan from the source; a generated load is made from its number alone, and a replay reads an image
abbrev pub reads : Form → Bool
reads (kind.Gen n) = false
reads (kind.Replay turns) = false
reads form = true

-- the form makes a recorded run again
abbrev pub is_replay : Form → Bool
is_replay (kind.Replay turns) = true
is_replay form = false

-- what a form writes of a plan that was run: the report, the trace of the log, the report from its `reach` line on, or the
-- summary of a generated load; of a replay the report
abbrev pub text_of : Form → Plan → List Line → List ℕ
text_of kind.Run p log = report_of p log
text_of kind.Trace p log = trace_of p log
text_of kind.Info p log = info_of p log
text_of (kind.Gen n) p log = summary_of p log n
text_of (kind.Replay turns) p log = report_of p log
