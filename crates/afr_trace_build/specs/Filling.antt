-- The line that a text stands for at its position, by the lines before it.
use Rattle.std.specs.Prelude.{ℕ, ◌==◌, ◌&&◌, nat_lt, Bool, true, List, Option, Some, None, length, slice_get, if◌then◌else◌}
use Rattle.afr_base.specs.declared.ids.ActorId.{ActorId}
use Rattle.afr_base.specs.declared.ids.BrickId.{BrickId}
use Rattle.afr_base.specs.declared.ids.Gfid.{Gfid}
use Rattle.afr_lines.specs.Work.{ended}
use Rattle.afr_lines.specs.declared.line.Event.{Event}
use Rattle.afr_lines.specs.declared.line.Event.TheVariants as event
use Rattle.afr_lines.specs.declared.line.Line.{Line}
use Rattle.afr_lines.specs.declared.line.Line.TheVariants as line
use Rattle.afr_lines.specs.declared.reply.HealReply.{HealReply}
use Rattle.afr_lines.specs.declared.reply.HealReply.TheVariants as heal
use Rattle.afr_lines.specs.declared.reply.Reply.{Reply}
use Rattle.afr_lines.specs.declared.reply.Reply.TheVariants as reply
use Rattle.afr_lines.specs.declared.request.Request.{Request}
use Rattle.afr_model.specs.Actors.{script_of, works_of}
use Rattle.afr_object.specs.declared.change.Change.TheVariants as change
use Rattle.afr_plan.specs.declared.command.Command.{Command}
use Rattle.afr_plan.specs.declared.command.Command.TheVariants as command
use Rattle.afr_plan.specs.declared.plan.Plan.{Plan}
use Rattle.afr_trace_build.specs.Given.{good_from}
use Rattle.afr_trace_build.specs.Requests.{is_actor, is_answer, is_brick, request_from, told_from, took_from}
use Rattle.afr_trace_build.specs.Shown.{listed_in, shown_by, views_in}
use Rattle.afr_trace_build.specs.declared.filling.Filled.{Filled}
use Rattle.afr_trace_build.specs.declared.filling.Filled.TheVariants as filled
use Rattle.afr_trace_build.specs.declared.showing.Shown.{Shown}
use Rattle.afr_trace_read.specs.declared.kinds.Answered.{Answered}
use Rattle.afr_trace_read.specs.declared.kinds.Doing.{Doing}
use Rattle.afr_trace_read.specs.declared.kinds.Doing.TheVariants as doing
use Rattle.afr_trace_read.specs.declared.kinds.Healed.{Healed}
use Rattle.afr_trace_read.specs.declared.kinds.Healed.TheVariants as healed
use Rattle.afr_trace_read.specs.declared.kinds.SpelledChange.{SpelledChange}
use Rattle.afr_trace_read.specs.declared.kinds.SpelledChange.TheVariants as changing
use Rattle.afr_trace_read.specs.declared.kinds.SpelledReply.{SpelledReply}
use Rattle.afr_trace_read.specs.declared.kinds.SpelledReply.TheVariants as replied
use Rattle.afr_trace_read.specs.declared.kinds.TraceLine.{TraceLine}
use Rattle.afr_trace_read.specs.declared.kinds.TraceLine.TheVariants as trace_line

-- ---- questions
-- a question, where its request is there
abbrev pub asked_line : ActorId → BrickId → Shown → Answered → Option Request → Filled
asked_line a b known told None = filled.NoLine
asked_line a b known told (Some r) = filled.Stands (line.Ask a b r (told_from known told) (took_from told))

-- ---- begins
-- the actor's present command; a healer has none
abbrev pub present : Plan → ActorId → List Line → Option Command
present p a older = slice_get (script_of p a.0) (ended a.0 older)

-- a write of so many bytes, with those of the present command
abbrev pub begun_write : ActorId → Gfid → ℕ → ℕ → Option Command → Filled
begun_write a g at len (Some (command.Write path off bytes)) = if length bytes == len then filled.Stands (line.Begin a (change.Write g at bytes)) else filled.OtherWords
begun_write a g at len other = filled.OtherWords

-- an attempt
abbrev pub begun : Plan → List Line → ActorId → SpelledChange → Filled
begun p older a (changing.Write g at len) = begun_write a g at len (present p a older)
begun p older a (changing.Cut g len) = filled.Stands (line.Begin a (change.Cut g len))
begun p older a (changing.SetAttr g key value) = filled.Stands (line.Begin a (change.SetAttr g key value))
begun p older a (changing.Make what dir name g) = filled.Stands (line.Begin a (change.Make dir name g what))
begun p older a (changing.Remove what dir name) = filled.Stands (line.Begin a (change.Remove dir name what))

-- ---- ends
-- what the end of a heal names is the plan's
abbrev pub is_heal_end : Plan → Healed → Bool
is_heal_end p (healed.Busy owner) = is_actor p owner.0
is_heal_end p (healed.Moved b) = is_brick p b.0
is_heal_end p other = true

-- the end of a heal
abbrev pub heal_reply_from : Shown → Healed → HealReply
heal_reply_from known healed.Nothing = heal.Nothing
heal_reply_from known healed.Settled = heal.Settled
heal_reply_from known healed.Split = heal.Split (views_in known)
heal_reply_from known (healed.Busy owner) = heal.Busy owner
heal_reply_from known healed.Short = heal.Short
heal_reply_from known (healed.Moved b) = heal.Moved b
heal_reply_from known healed.Failed = heal.Failed

-- the end of a command
abbrev pub reply_from : Plan → List Line → Shown → ActorId → SpelledReply → List ℕ → Reply
reply_from p older known a replied.Ok text = reply.Ok (good_from p (present p a older) (listed_in known) text)
reply_from p older known a replied.NoEntry text = reply.NoEntry
reply_from p older known a replied.Exists text = reply.Exists
reply_from p older known a replied.NotDir text = reply.NotDir
reply_from p older known a replied.IsDir text = reply.IsDir
reply_from p older known a replied.NotEmpty text = reply.NotEmpty
reply_from p older known a replied.NoQuorum text = reply.NoQuorum
reply_from p older known a replied.FewCopies text = reply.FewCopies
reply_from p older known a replied.SplitBrain text = reply.SplitBrain (views_in known)
reply_from p older known a replied.Failed text = reply.Failed
reply_from p older known a replied.TooLarge text = reply.TooLarge
reply_from p older known a replied.Half text = reply.Half

-- ---- lines
-- where what it names is the plan's
abbrev pub where_named : Bool → Filled → Filled
where_named named x = if named then x else filled.NoLine

-- what an actor does
abbrev pub done_by : Plan → List Line → Shown → ActorId → Doing → List ℕ → Filled
done_by p older known a (doing.Ask b r told) text = where_named (is_brick p b.0 && is_answer p told) (asked_line a b known told (request_from p older known r))
done_by p older known a (doing.HealBegin kind g) text = filled.Stands (line.HealBegin a g kind)
done_by p older known a (doing.Begin spelled) text = begun p older a spelled
done_by p older known a (doing.HealEnd kind g end) text = where_named (is_heal_end p end) (filled.Stands (line.HealEnd a g kind (heal_reply_from known end)))
done_by p older known a (doing.End end) text = filled.Stands (line.End a (reply_from p older known a end text))

-- the actors and bricks of an event are the plan's
abbrev pub is_event_of : Plan → Event → Bool
is_event_of p (event.Stop b) = is_brick p b.0
is_event_of p (event.Start b) = is_brick p b.0
is_event_of p (event.Cut a b) = is_actor p a.0 && is_brick p b.0
is_event_of p (event.Join a b) = is_actor p a.0 && is_brick p b.0
is_event_of p (event.Kill a) = is_actor p a.0

-- an actor of the plan has a command or a round left
abbrev pub has_work : Plan → List Line → ActorId → Bool
has_work p older a = is_actor p a.0 && nat_lt (ended a.0 older) (works_of p a.0)

-- the line that a text stands for, by what the lines before it show
abbrev pub fill_with : Plan → List Line → Shown → TraceLine × List ℕ → Filled
fill_with p older known (trace_line.Event happens, text) = where_named (is_event_of p happens) (filled.Stands (line.Event happens))
fill_with p older known (trace_line.Of a does, text) = where_named (has_work p older a) (done_by p older known a does text)

-- the line that a text stands for after these lines
abbrev pub fill : Plan → List Line → TraceLine × List ℕ → Filled
fill p older x = fill_with p older (shown_by p older x.0) x
