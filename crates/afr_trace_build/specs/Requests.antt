-- The request that a text stands for, by the lines before it; none where it names what isn't there.
use Rattle.std.specs.Prelude.{ℕ, ◌+◌, ◌^◌, ◌&&◌, ◌||◌, not, nat_le, nat_lt, Bool, true, false, List, [], ◌∷◌, Option, Some, None, length, slice_index_or, slice_set, if◌then◌else◌, option_map}
use Rattle.afr_base.specs.Bricks.{added_if}
use Rattle.afr_base.specs.declared.ids.Gfid.{Gfid}
use Rattle.afr_lines.specs.Areas.{kind_for}
use Rattle.afr_lines.specs.Log.{change_at, from_oldest}
use Rattle.afr_lines.specs.declared.answer.Told.{Told}
use Rattle.afr_lines.specs.declared.answer.Told.TheVariants as told
use Rattle.afr_lines.specs.declared.line.Line.{Line}
use Rattle.afr_lines.specs.declared.line.Line.TheVariants.{Ask}
use Rattle.afr_lines.specs.declared.request.Area.{Area}
use Rattle.afr_lines.specs.declared.request.Area.TheVariants.{Range, Name}
use Rattle.afr_lines.specs.declared.request.Request.{Request}
use Rattle.afr_lines.specs.declared.request.Request.TheVariants as request
use Rattle.afr_object.specs.Tables.{object_of}
use Rattle.afr_object.specs.declared.change.Change.{Change}
use Rattle.afr_object.specs.declared.change.Repair.TheVariants as repair
use Rattle.afr_plan.specs.Reading.{checked}
use Rattle.afr_plan.specs.declared.plan.Plan.{Plan}
use Rattle.afr_trace_build.specs.Shown.{len_in, view_in}
use Rattle.afr_trace_build.specs.declared.showing.Shown.{Shown}
use Rattle.afr_trace_read.specs.declared.kinds.Answered.{Answered}
use Rattle.afr_trace_read.specs.declared.kinds.Answered.TheVariants as answered
use Rattle.afr_trace_read.specs.declared.kinds.Span.{Span}
use Rattle.afr_trace_read.specs.declared.kinds.Span.TheVariants as span
use Rattle.afr_trace_read.specs.declared.kinds.SpelledRequest.{SpelledRequest}
use Rattle.afr_trace_read.specs.declared.kinds.SpelledRequest.TheVariants as asked

-- ---- what the plan has
-- an actor
abbrev pub is_actor : Plan → ℕ → Bool
is_actor p a = (nat_le 1 a && nat_le a (length p.clients)) || (nat_le 17 a && nat_le a (16 + length p.healers))

-- a brick
abbrev pub is_brick : Plan → ℕ → Bool
is_brick p b = nat_lt b p.shape.n

-- ---- what earlier lines hold
-- a request of the form that a repair needs
abbrev pub is_read : Request → Bool
is_read (request.ReadBytes g at len) = true
is_read other = false

-- that of attributes
abbrev pub is_attrs_read : Request → Bool
is_attrs_read (request.ReadAttrs g) = true
is_attrs_read other = false

-- whether a line asks for what passes
abbrev pub asks_for : (Request → Bool) → Option Line → Bool
asks_for form (Some (Ask a b r told took)) = form r
asks_for form other = false

-- the brick that a line listed
abbrev pub listed_brick : Option Line → Option ℕ
listed_brick (Some (Ask a b (request.List g) told took)) = Some b.0
listed_brick other = None

-- ---- parts of a request
-- what of an object a lock covers
abbrev pub area_from : Gfid → Span → Area
area_from g span.Meta = Range g (2 ^ 63) (2 ^ 63 + 1)
area_from g (span.Range from None) = Range g from (2 ^ 63)
area_from g (span.Range from (Some to)) = Range g from to
area_from g span.AllNames = Name g None
area_from g (span.OfName name) = Name g (Some name)

-- the bricks whose flags are set
abbrev pub flagged_bricks : List Bool → List ℕ
flagged_bricks flags = added_if (slice_index_or flags 4 false) 4 (added_if (slice_index_or flags 3 false) 3 (added_if (slice_index_or flags 2 false) 2 (added_if (slice_index_or flags 1 false) 1 (added_if (slice_index_or flags 0 false) 0 []))))

-- brick b is the volume's, or its flag isn't set
abbrev pub may_miss : Plan → List Bool → ℕ → Bool
may_miss p flags b = not (slice_index_or flags b false) || is_brick p b

-- all of these bricks are the volume's
abbrev pub may_all_miss : Plan → List Bool → Bool
may_all_miss p flags = may_miss p flags 0 && may_miss p flags 1 && may_miss p flags 2 && may_miss p flags 3 && may_miss p flags 4

-- the close of an attempt, whose object and kind are those of its change
abbrev pub post_from : Plan → ℕ → List Bool → Option Change → Option Request
post_from p attempt missed None = None
post_from p attempt missed (Some change) = checked (may_all_miss p missed) (request.Post attempt (object_of change) (kind_for change) (flagged_bricks missed))

-- no position yet
abbrev pub no_slots : List (Option ℕ)
no_slots = None ∷ None ∷ None ∷ None ∷ None ∷ []

-- a position at its brick, and those behind it
abbrev pub with_brick : ℕ → ℕ → List (Option ℕ) → Option ℕ → (ℕ → List (Option ℕ) → Option (List (Option ℕ))) → Option (List (Option ℕ))
with_brick next k slots None more = None
with_brick next k slots (Some b) more = if nat_le next b && nat_lt b 5 then more b (slice_set slots b (Some k)) else None

-- the positions of merged lists by their bricks, which rise: the next is at least this one
abbrev pub placed_reads : List Line → ℕ → List (Option ℕ) → List (Option ℕ) → Option (List (Option ℕ))
placed_reads older next slots [] = Some slots
placed_reads older next slots (None ∷ reads) = placed_reads older next slots reads
placed_reads older next slots (Some k ∷ reads) = with_brick next k slots (listed_brick (from_oldest k older)) (λ b more. placed_reads older (b + 1) more reads)

-- ---- requests
-- the request that a text stands for
abbrev pub request_from : Plan → List Line → Shown → SpelledRequest → Option Request
request_from p older known (asked.Lock domain g s) = Some (request.Lock domain (area_from g s))
request_from p older known (asked.Unlock domain g s) = Some (request.Unlock domain (area_from g s))
request_from p older known (asked.Look g) = Some (request.Look g)
request_from p older known (asked.ReadBytes g at len) = Some (request.ReadBytes g at len)
request_from p older known (asked.ReadName dir name) = Some (request.ReadName dir name)
request_from p older known (asked.List g) = Some (request.List g)
request_from p older known (asked.ReadAttr g key) = Some (request.ReadAttr g key)
request_from p older known (asked.ReadAttrs g) = Some (request.ReadAttrs g)
request_from p older known asked.Index = Some request.Index
request_from p older known (asked.Pre g kind) = Some (request.Pre g kind)
request_from p older known (asked.Apply attempt) = option_map (λ (change : Change). request.Apply attempt) (change_at attempt older)
request_from p older known (asked.Post attempt missed) = post_from p attempt missed (change_at attempt older)
request_from p older known (asked.CutTo g len) = Some (request.Mend (repair.CutTo g len))
request_from p older known (asked.Copy g at long read) = checked (asks_for is_read (from_oldest read older) && nat_le (at + long) 1048576 && nat_le (len_in known) long) (request.Mend (repair.Copy g at long read))
request_from p older known (asked.PutAttrs g read) = checked (asks_for is_attrs_read (from_oldest read older)) (request.Mend (repair.PutAttrs g read))
request_from p older known (asked.PutNames g reads) = option_map (λ (slots : List (Option ℕ)). request.Mend (repair.PutNames g slots)) (placed_reads older 0 no_slots reads)
request_from p older known (asked.Settle g kind less) = Some (request.Settle g kind less)

-- ---- answers
-- the actor that an answer names is the plan's
abbrev pub is_answer : Plan → Answered → Bool
is_answer p (answered.Held owner) = is_actor p owner.0
is_answer p other = true

-- the answer that a text stands for
abbrev pub told_from : Shown → Answered → Told
told_from known answered.Granted = told.Granted
told_from known (answered.Held owner) = told.Held owner
told_from known answered.Seen = told.Seen (view_in known)
told_from known answered.Done = told.Done
told_from known answered.Given = told.Given
told_from known answered.NoObject = told.NoObject
told_from known answered.Lost = told.NotConnected
told_from known answered.Gone = told.NotConnected
told_from known answered.Failed = told.Failed

-- whether the brick carried the request out
abbrev pub took_from : Answered → Bool
took_from answered.Gone = false
took_from answered.Failed = false
took_from other = true
