-- The text of a line as its text says it.
use Rattle.std.specs.Prelude.{ℕ, ◌+◌, List, [], ◌++◌, Option, Some, None, codes, decimal, slice_index_or}
use Rattle.afr_plan.specs.declared.plan.Plan.{Plan}
use Rattle.afr_model.specs.ReportReplies.{actor_text, kind_text}
use Rattle.afr_report_trace.specs.Answers.{event_text}
use Rattle.afr_report_trace.specs.Objects.{object_text, range_text, name_text, key_text}
use Rattle.afr_report_trace.specs.Changes.{make_word, remove_word}
use Rattle.afr_report_trace.specs.Numbers.{bricks_text, given, with_commas}
use Rattle.afr_report_trace.specs.Repairs.{marks_text}
use Rattle.afr_report_trace.specs.Requests.{domain_text}
use Rattle.afr_trace_read.specs.Lists.{flagged}
use Rattle.afr_trace_read.specs.declared.kinds.Span.{Span}
use Rattle.afr_trace_read.specs.declared.kinds.Span.TheVariants as span
use Rattle.afr_trace_read.specs.declared.kinds.SpelledRequest.{SpelledRequest}
use Rattle.afr_trace_read.specs.declared.kinds.SpelledRequest.TheVariants as asked
use Rattle.afr_trace_read.specs.declared.kinds.Answered.{Answered}
use Rattle.afr_trace_read.specs.declared.kinds.Answered.TheVariants as answered
use Rattle.afr_trace_read.specs.declared.kinds.SpelledChange.{SpelledChange}
use Rattle.afr_trace_read.specs.declared.kinds.SpelledChange.TheVariants as changing
use Rattle.afr_trace_read.specs.declared.kinds.Healed.{Healed}
use Rattle.afr_trace_read.specs.declared.kinds.Healed.TheVariants as healed
use Rattle.afr_trace_read.specs.declared.kinds.SpelledReply.{SpelledReply}
use Rattle.afr_trace_read.specs.declared.kinds.SpelledReply.TheVariants as replied
use Rattle.afr_trace_read.specs.declared.kinds.Doing.{Doing}
use Rattle.afr_trace_read.specs.declared.kinds.Doing.TheVariants as doing
use Rattle.afr_trace_read.specs.declared.kinds.TraceLine.{TraceLine}
use Rattle.afr_trace_read.specs.declared.kinds.TraceLine.TheVariants as trace_line

-- the end of a range, which may be open
abbrev pub upto_text : Option ℕ → List ℕ
upto_text (Some to) = decimal to ++ codes ")"
upto_text None = codes "end)"

-- what of an object a lock covers
abbrev pub span_text : Plan → Span → List ℕ
span_text p span.Meta = codes "[meta]"
span_text p (span.Range from to) = codes "[" ++ decimal from ++ codes "," ++ upto_text to
span_text p span.AllNames = codes "/*"
span_text p (span.OfName name) = codes "/" ++ slice_index_or p.words.names name.0 []

-- a request
abbrev pub asked_text : Plan → SpelledRequest → List ℕ
asked_text p (asked.Lock domain g s) = codes "lock " ++ domain_text domain ++ object_text p g ++ span_text p s
asked_text p (asked.Unlock domain g s) = codes "unlock " ++ domain_text domain ++ object_text p g ++ span_text p s
asked_text p (asked.Look g) = codes "look " ++ object_text p g
asked_text p (asked.ReadBytes g at len) = codes "read " ++ range_text p g at (at + len)
asked_text p (asked.ReadName dir name) = codes "name " ++ name_text p dir name
asked_text p (asked.ReadAttr g key) = codes "attr " ++ key_text p g key
asked_text p (asked.List g) = codes "list " ++ object_text p g
asked_text p (asked.ReadAttrs g) = codes "attrs " ++ object_text p g
asked_text p asked.Index = codes "index"
asked_text p (asked.Pre g kind) = codes "pre " ++ object_text p g ++ codes " " ++ kind_text kind
asked_text p (asked.Apply attempt) = codes "apply " ++ decimal attempt
asked_text p (asked.Post attempt missed) = codes "post " ++ decimal attempt ++ codes " " ++ bricks_text (flagged 0 missed)
asked_text p (asked.CutTo g len) = codes "cut " ++ object_text p g ++ codes " " ++ decimal len
asked_text p (asked.Copy g at long read) = codes "copy " ++ range_text p g at (at + long) ++ codes " from " ++ decimal read
asked_text p (asked.PutAttrs g read) = codes "put-attrs " ++ object_text p g ++ codes " from " ++ decimal read
asked_text p (asked.PutNames g reads) = codes "put-names " ++ object_text p g ++ codes " from " ++ with_commas (given reads)
asked_text p (asked.Settle g kind less) = codes "settle " ++ object_text p g ++ codes " " ++ kind_text kind ++ codes " " ++ marks_text p less

-- an answer
abbrev pub answered_text : Answered → List ℕ
answered_text answered.Granted = codes "granted"
answered_text (answered.Held owner) = codes "held " ++ actor_text owner
answered_text answered.Seen = codes "seen"
answered_text answered.Done = codes "done"
answered_text answered.Given = codes "ok"
answered_text answered.NoObject = codes "absent"
answered_text answered.Lost = codes "lost"
answered_text answered.Gone = codes "gone"
answered_text answered.Failed = codes "failed"

-- a change
abbrev pub changing_text : Plan → SpelledChange → List ℕ
changing_text p (changing.Write g at len) = codes "write " ++ object_text p g ++ codes " " ++ decimal at ++ codes " " ++ decimal len
changing_text p (changing.Cut g len) = codes "cut " ++ object_text p g ++ codes " " ++ decimal len
changing_text p (changing.SetAttr g key value) = codes "setattr " ++ key_text p g key ++ codes " " ++ slice_index_or p.words.values value.0 []
changing_text p (changing.Make what dir name g) = make_word what ++ name_text p dir name ++ codes " " ++ object_text p g
changing_text p (changing.Remove what dir name) = remove_word what ++ name_text p dir name

-- the end of a heal
abbrev pub healed_end : Healed → List ℕ
healed_end healed.Nothing = codes "nothing"
healed_end healed.Settled = codes "settled"
healed_end healed.Split = codes "split"
healed_end (healed.Busy owner) = codes "busy " ++ actor_text owner
healed_end healed.Short = codes "short"
healed_end (healed.Moved b) = codes "moved " ++ decimal b.0
healed_end healed.Failed = codes "failed"

-- the end of a command that gave nothing
abbrev pub replied_text : SpelledReply → List ℕ
replied_text replied.Ok = codes "ok"
replied_text replied.NoEntry = codes "no-entry"
replied_text replied.Exists = codes "exists"
replied_text replied.NotDir = codes "not-dir"
replied_text replied.IsDir = codes "is-dir"
replied_text replied.NotEmpty = codes "not-empty"
replied_text replied.NoQuorum = codes "no-quorum"
replied_text replied.FewCopies = codes "few-copies"
replied_text replied.SplitBrain = codes "split-brain"
replied_text replied.Failed = codes "failed"
replied_text replied.TooLarge = codes "too-large"
replied_text replied.Half = codes "half"

-- what stands after the actor
abbrev pub doing_text : Plan → Doing → List ℕ
doing_text p (doing.Ask b a told) = codes " b" ++ decimal b.0 ++ codes " " ++ asked_text p a ++ codes " " ++ answered_text told
doing_text p (doing.HealBegin kind g) = codes " begin heal " ++ kind_text kind ++ codes " " ++ object_text p g
doing_text p (doing.Begin change) = codes " begin " ++ changing_text p change
doing_text p (doing.HealEnd kind g h) = codes " end " ++ kind_text kind ++ codes " " ++ object_text p g ++ codes " " ++ healed_end h
doing_text p (doing.End reply) = codes " end " ++ replied_text reply

-- what stands after the position
abbrev pub content_text : Plan → TraceLine → List ℕ
content_text p (trace_line.Event event) = codes "event " ++ event_text event
content_text p (trace_line.Of actor d) = actor_text actor ++ doing_text p d

-- the text of a line, without its line feed
abbrev pub trace_line_text : Plan → ℕ → TraceLine → List ℕ
trace_line_text p position s = decimal position ++ codes " " ++ content_text p s

-- the same with what its command gave
abbrev pub spelled_text : Plan → ℕ → TraceLine × List ℕ → List ℕ
spelled_text p position x = trace_line_text p position x.0 ++ x.1
