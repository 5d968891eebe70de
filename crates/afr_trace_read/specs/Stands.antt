-- What the text of a line of the log says, and what a command gave; none for lists that no line of a log has.
use Rattle.std.specs.Prelude.{List, [], ◌∷◌, not, nat_le, filter, zero, suc, ℕ, ◌^◌, ◌==◌, Bool, Option, Some, None, if◌then◌else◌, length, option_map}
use Rattle.afr_base.specs.Bricks.{all_five, is_nothing, member}
use Rattle.afr_base.specs.declared.marks.Marks.{Marks}
use Rattle.afr_plan.specs.Reading.{checked}
use Rattle.afr_plan.specs.declared.plan.Plan.{Plan}
use Rattle.afr_report_trace.specs.Numbers.{given}
use Rattle.afr_trace_read.specs.Contents.{contents_text}
use Rattle.afr_trace_read.specs.Lists.{flags_of}
use Rattle.afr_base.specs.declared.ids.ActorId.{ActorId}
use Rattle.afr_base.specs.declared.ids.BrickId.{BrickId}
use Rattle.afr_object.specs.declared.change.Change.{Change}
use Rattle.afr_object.specs.declared.change.Change.TheVariants as change
use Rattle.afr_object.specs.declared.change.Repair.TheVariants as repair
use Rattle.afr_lines.specs.declared.answer.Told.{Told}
use Rattle.afr_lines.specs.declared.answer.Told.TheVariants as told
use Rattle.afr_lines.specs.declared.line.Line.{Line}
use Rattle.afr_lines.specs.declared.line.Line.TheVariants as line
use Rattle.afr_lines.specs.declared.reply.HealReply.{HealReply}
use Rattle.afr_lines.specs.declared.reply.HealReply.TheVariants as heal
use Rattle.afr_lines.specs.declared.reply.Reply.{Reply}
use Rattle.afr_lines.specs.declared.reply.Reply.TheVariants as reply
use Rattle.afr_lines.specs.declared.request.Area.TheVariants.{Range, Name}
use Rattle.afr_lines.specs.declared.request.Request.{Request}
use Rattle.afr_lines.specs.declared.request.Request.TheVariants as request
use Rattle.afr_trace_read.specs.declared.kinds.Span.{Span}
use Rattle.afr_trace_read.specs.declared.kinds.Span.TheVariants as span
use Rattle.afr_trace_read.specs.declared.kinds.SpelledRequest.{SpelledRequest}
use Rattle.afr_trace_read.specs.declared.kinds.SpelledRequest.TheVariants as asked
use Rattle.afr_trace_read.specs.declared.kinds.Answered.{Answered}
use Rattle.afr_trace_read.specs.declared.kinds.Answered.TheVariants as answered
use Rattle.afr_trace_read.specs.declared.kinds.SpelledChange.{SpelledChange}
use Rattle.afr_trace_read.specs.declared.kinds.SpelledChange.TheVariants as changing
use Rattle.afr_trace_read.specs.declared.kinds.Healed.{Healed}
use Rattle.afr_trace_read.specs.declared.kinds.Healed.TheVariants as healed
use Rattle.afr_trace_read.specs.declared.kinds.SpelledReply.{SpelledReply}
use Rattle.afr_trace_read.specs.declared.kinds.SpelledReply.TheVariants as replied
use Rattle.afr_trace_read.specs.declared.kinds.Doing.{Doing}
use Rattle.afr_trace_read.specs.declared.kinds.Doing.TheVariants as doing
use Rattle.afr_trace_read.specs.declared.kinds.TraceLine.{TraceLine}
use Rattle.afr_trace_read.specs.declared.kinds.TraceLine.TheVariants as trace_line

-- the end of a range, which may be open
abbrev pub upto_of : ℕ → Option ℕ
upto_of to = if to == 2 ^ 63 then None else Some to

-- what a lock's range covers
abbrev pub span_from : ℕ → ℕ → Span
span_from from to = if from == 2 ^ 63 then span.Meta else span.Range from (upto_of to)

-- so many places for numbers, of which the first are there
abbrev pub filled : ℕ → List ℕ → List (Option ℕ)
filled zero ns = []
filled (suc k) [] = None ∷ filled k []
filled (suc k) (n ∷ ns) = Some n ∷ filled k ns

-- the positions of the reads of merged names; the text of none is that of no line
abbrev pub reads_from : List ℕ → Option (List (Option ℕ))
reads_from [] = None
reads_from (n ∷ ns) = checked (nat_le (length ns) 4) (filled 5 (n ∷ ns))

-- pending numbers with 0 for each brick from n on
abbrev pub blanked : ℕ → List ℕ → List ℕ
blanked n [] = []
blanked zero (x ∷ xs) = 0 ∷ blanked zero xs
blanked (suc n) (x ∷ xs) = x ∷ blanked n xs

-- changelog numbers of a volume of n bricks
abbrev pub marks_from : ℕ → Marks → Marks
marks_from n marks = record { dirty = marks.dirty; pending = blanked n marks.pending }

-- bricks that missed an operation; a list of other numbers alone is no set of bricks
abbrev pub missed_from : List ℕ → Option (List Bool)
missed_from [] = Some (flags_of [])
missed_from (b ∷ bs) = checked (not (is_nothing (filter (member (b ∷ bs)) all_five))) (flags_of (b ∷ bs))

-- a request
abbrev pub asked_of : Plan → Request → Option SpelledRequest
asked_of p (request.Lock d (Range g from to)) = Some (asked.Lock d g (span_from from to))
asked_of p (request.Lock d (Name g None)) = Some (asked.Lock d g span.AllNames)
asked_of p (request.Lock d (Name g (Some name))) = Some (asked.Lock d g (span.OfName name))
asked_of p (request.Unlock d (Range g from to)) = Some (asked.Unlock d g (span_from from to))
asked_of p (request.Unlock d (Name g None)) = Some (asked.Unlock d g span.AllNames)
asked_of p (request.Unlock d (Name g (Some name))) = Some (asked.Unlock d g (span.OfName name))
asked_of p (request.Look g) = Some (asked.Look g)
asked_of p (request.ReadBytes g at len) = Some (asked.ReadBytes g at len)
asked_of p (request.ReadName dir name) = Some (asked.ReadName dir name)
asked_of p (request.ReadAttr g key) = Some (asked.ReadAttr g key)
asked_of p (request.List g) = Some (asked.List g)
asked_of p (request.ReadAttrs g) = Some (asked.ReadAttrs g)
asked_of p request.Index = Some asked.Index
asked_of p (request.Pre g kind) = Some (asked.Pre g kind)
asked_of p (request.Apply attempt) = Some (asked.Apply attempt)
asked_of p (request.Post attempt g kind missed) = option_map (asked.Post attempt) (missed_from missed)
asked_of p (request.Mend (repair.CutTo g len)) = Some (asked.CutTo g len)
asked_of p (request.Mend (repair.Copy g at long read)) = Some (asked.Copy g at long read)
asked_of p (request.Mend (repair.PutAttrs g read)) = Some (asked.PutAttrs g read)
asked_of p (request.Mend (repair.PutNames g reads)) = option_map (asked.PutNames g) (reads_from (given reads))
asked_of p (request.Settle g kind less) = Some (asked.Settle g kind (marks_from p.shape.n less))

-- an answer
abbrev pub answered_of : Told → Bool → Answered
answered_of told.Granted took = answered.Granted
answered_of (told.Held owner) took = answered.Held owner
answered_of (told.Seen view) took = answered.Seen
answered_of told.Done took = answered.Done
answered_of told.Given took = answered.Given
answered_of told.NoObject took = answered.NoObject
answered_of told.NotConnected took = if took then answered.Lost else answered.Gone
answered_of told.Failed took = answered.Failed

-- a change
abbrev pub changing_of : Change → SpelledChange
changing_of (change.Write g at bytes) = changing.Write g at (length bytes)
changing_of (change.Cut g len) = changing.Cut g len
changing_of (change.SetAttr g key value) = changing.SetAttr g key value
changing_of (change.Make dir name g what) = changing.Make what dir name g
changing_of (change.Remove dir name what) = changing.Remove what dir name

-- the end of a heal
abbrev pub healed_of : HealReply → Healed
healed_of heal.Nothing = healed.Nothing
healed_of heal.Settled = healed.Settled
healed_of (heal.Split views) = healed.Split
healed_of (heal.Busy owner) = healed.Busy owner
healed_of heal.Short = healed.Short
healed_of (heal.Moved b) = healed.Moved b
healed_of heal.Failed = healed.Failed

-- the end of a command, without what it gave
abbrev pub replied_of : Reply → SpelledReply
replied_of (reply.Ok given) = replied.Ok
replied_of reply.NoEntry = replied.NoEntry
replied_of reply.Exists = replied.Exists
replied_of reply.NotDir = replied.NotDir
replied_of reply.IsDir = replied.IsDir
replied_of reply.NotEmpty = replied.NotEmpty
replied_of reply.NoQuorum = replied.NoQuorum
replied_of reply.FewCopies = replied.FewCopies
replied_of (reply.SplitBrain views) = replied.SplitBrain
replied_of reply.Failed = replied.Failed
replied_of reply.TooLarge = replied.TooLarge
replied_of reply.Half = replied.Half

-- an actor's line
abbrev pub by : ActorId → Doing → TraceLine
by actor d = trace_line.Of actor d

-- a question and its answer
abbrev pub asks : BrickId → Answered → SpelledRequest → Doing
asks b told a = doing.Ask b a told

-- a line
abbrev pub trace_line_of : Plan → Line → Option TraceLine
trace_line_of p (line.Ask actor b r told took) = option_map (by actor) (option_map (asks b (answered_of told took)) (asked_of p r))
trace_line_of p (line.Begin actor c) = Some (trace_line.Of actor (doing.Begin (changing_of c)))
trace_line_of p (line.HealBegin actor g kind) = Some (trace_line.Of actor (doing.HealBegin kind g))
trace_line_of p (line.End actor r) = Some (trace_line.Of actor (doing.End (replied_of r)))
trace_line_of p (line.HealEnd actor g kind r) = Some (trace_line.Of actor (doing.HealEnd kind g (healed_of r)))
trace_line_of p (line.Event event) = Some (trace_line.Event event)

-- what a reply gave, behind its word
abbrev pub given_text : Plan → Reply → List ℕ
given_text p (reply.Ok given) = contents_text p.words given
given_text p other = []

-- what a line's command gave, behind the line's own text
abbrev pub contents_of : Plan → Line → List ℕ
contents_of p (line.End actor r) = given_text p r
contents_of p other = []
