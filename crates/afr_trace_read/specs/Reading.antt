-- How a line of a trace is read.
use Rattle.std.specs.Prelude.{ℕ, ◌+◌, ◌-◌, ◌^◌, Bool, true, false, ◌&&◌, ◌==◌, List, [], ◌∷◌, Option, Some, None, codes, nat_lt, nat_le}
use Rattle.afr_base.specs.declared.ids.ActorId.{ActorId}
use Rattle.afr_base.specs.declared.ids.BrickId.{BrickId}
use Rattle.afr_base.specs.declared.ids.Gfid.{Gfid}
use Rattle.afr_base.specs.declared.ids.KeyId.{KeyId}
use Rattle.afr_base.specs.declared.ids.NameId.{NameId}
use Rattle.afr_base.specs.declared.ids.ValueId.{ValueId}
use Rattle.afr_base.specs.declared.ids.What.{What}
use Rattle.afr_base.specs.declared.ids.What.TheVariants.{File, Dir}
use Rattle.afr_base.specs.declared.ids.Kind.{Kind}
use Rattle.afr_lines.specs.declared.lock.Domain.{Domain}
use Rattle.afr_lines.specs.declared.lock.Domain.TheVariants.{Work, Heal}
use Rattle.afr_plan.specs.declared.plan.Plan.{Plan}
use Rattle.afr_plan.specs.Reading.{◌>>=◌, Reader, checked, give, word, word_then, both, as_a, either}
use Rattle.afr_trace_read.specs.Contents.{is_contents}
use Rattle.afr_trace_read.specs.Forms.{then_word, such_that, number_below}
use Rattle.afr_base.specs.declared.marks.Marks.{Marks}
use Rattle.afr_trace_read.specs.Lists.{flags_of, missed_at, reads_at, marks_at}
use Rattle.afr_trace_read.specs.Parts.{actor_at, brick_at, object_at, kind_at, event_at, name_at, value_at, named_at, keyed_at}
use Rattle.afr_trace_read.specs.declared.kinds.Span.{Span}
use Rattle.afr_trace_read.specs.declared.kinds.Span.TheVariants as span
use Rattle.afr_trace_read.specs.declared.kinds.SpelledRequest.{SpelledRequest}
use Rattle.afr_trace_read.specs.declared.kinds.SpelledRequest.TheVariants as asked
use Rattle.afr_trace_read.specs.declared.kinds.Answered.{Answered}
use Rattle.afr_trace_read.specs.declared.kinds.Answered.TheVariants as answered
use Rattle.afr_trace_read.specs.declared.kinds.SpelledChange.{SpelledChange}
use Rattle.afr_trace_read.specs.declared.kinds.SpelledChange.TheVariants as changing
use Rattle.afr_trace_read.specs.declared.kinds.Healed.{Healed}
use Rattle.afr_trace_read.specs.declared.kinds.Healed.TheVariants as healed
use Rattle.afr_trace_read.specs.declared.kinds.SpelledReply.{SpelledReply}
use Rattle.afr_trace_read.specs.declared.kinds.SpelledReply.TheVariants as replied
use Rattle.afr_trace_read.specs.declared.kinds.Doing.{Doing}
use Rattle.afr_trace_read.specs.declared.kinds.Doing.TheVariants as doing
use Rattle.afr_trace_read.specs.declared.kinds.TraceLine.{TraceLine}
use Rattle.afr_trace_read.specs.declared.kinds.TraceLine.TheVariants as trace_line

-- ---- what a lock covers
-- the end of a range
unfoldable pub upto_at : Reader (Option ℕ)
upto_at = either (as_a Some (then_word (number_below (2 ^ 63)) (codes ")"))) (word (codes "end)") None)

-- a range, of its parts
abbrev pub span_of : ℕ × Option ℕ → Span
span_of x = span.Range x.0 x.1

-- what of an object a lock covers
unfoldable pub span_at : Plan → Reader Span
span_at p = either (as_a span_of (both (then_word (word_then (codes "[") (number_below (2 ^ 63))) (codes ",")) upto_at)) (either (as_a span.OfName (word_then (codes "/") (name_at p))) (either (word (codes "[meta]") span.Meta) (word (codes "/*") span.AllNames)))

-- which locks are meant
unfoldable pub domain_at : Reader Domain
domain_at = either (word (codes "heal ") Heal) (give Work)

-- a lock, of its parts
abbrev pub lock_of : (Domain × Gfid) × Span → SpelledRequest
lock_of x = asked.Lock x.0.0 x.0.1 x.1

-- an unlock
abbrev pub unlock_of : (Domain × Gfid) × Span → SpelledRequest
unlock_of x = asked.Unlock x.0.0 x.0.1 x.1

-- a word, and what a lock covers
unfoldable pub covered_at : Plan → List ℕ → Reader ((Domain × Gfid) × Span)
covered_at p w = both (both (word_then w domain_at) (object_at p)) (span_at p)

-- ---- requests
-- a range of bytes that has its ends in order, and isn't too long
abbrev pub in_order : (Gfid × ℕ) × ℕ → Bool
in_order x = nat_le x.0.1 x.1 && nat_lt x.1 (x.0.1 + 2 ^ 32)

-- a range of bytes
unfoldable pub range_at : Plan → Reader ((Gfid × ℕ) × ℕ)
range_at p = such_that (then_word (both (then_word (both (then_word (object_at p) (codes "[")) (number_below (2 ^ 32))) (codes ",")) (number_below (2 ^ 33))) (codes ")")) in_order

-- a read, of its parts
abbrev pub read_of : (Gfid × ℕ) × ℕ → SpelledRequest
read_of x = asked.ReadBytes x.0.0 x.0.1 (x.1 - x.0.1)

-- a copy
abbrev pub copy_of : ((Gfid × ℕ) × ℕ) × ℕ → SpelledRequest
copy_of x = asked.Copy x.0.0.0 x.0.0.1 (x.0.1 - x.0.0.1) x.1

-- a mark before an operation
abbrev pub pre_of : Gfid × Kind → SpelledRequest
pre_of x = asked.Pre x.0 x.1

-- a cut that repairs
abbrev pub cut_to_of : Gfid × ℕ → SpelledRequest
cut_to_of x = asked.CutTo x.0 x.1

-- attributes that are put
abbrev pub put_of : Gfid × ℕ → SpelledRequest
put_of x = asked.PutAttrs x.0 x.1

-- the close of an attempt
abbrev pub post_of : ℕ × List ℕ → SpelledRequest
post_of x = asked.Post x.0 (flags_of x.1)

-- merged names that are put
abbrev pub put_names_of : Gfid × List (Option ℕ) → SpelledRequest
put_names_of x = asked.PutNames x.0 x.1

-- what a heal takes back
abbrev pub settle_of : (Gfid × Kind) × Marks → SpelledRequest
settle_of x = asked.Settle x.0.0 x.0.1 x.1

-- a look-up of a name, of its parts
abbrev pub read_name_of : Gfid × NameId → SpelledRequest
read_name_of x = asked.ReadName x.0 x.1

-- a look-up of an attribute
abbrev pub read_attr_of : Gfid × KeyId → SpelledRequest
read_attr_of x = asked.ReadAttr x.0 x.1

-- a word, an object, another word and a number
unfoldable pub numbered_at : Plan → List ℕ → List ℕ → Reader (Gfid × ℕ)
numbered_at p w v = both (then_word (word_then w (object_at p)) v) (number_below (2 ^ 32))

-- a request that reads
unfoldable pub reading_at : Plan → Reader SpelledRequest
reading_at p = either (as_a asked.Look (word_then (codes "look ") (object_at p))) (
    either (as_a read_of (word_then (codes "read ") (range_at p))) (
    either (as_a read_name_of (word_then (codes "name ") (named_at p))) (
    either (as_a read_attr_of (word_then (codes "attr ") (keyed_at p))) (
    either (as_a asked.List (word_then (codes "list ") (object_at p))) (
    either (as_a asked.ReadAttrs (word_then (codes "attrs ") (object_at p))) (
    word (codes "index") asked.Index))))))

-- a request of a change's steps
unfoldable pub stepping_at : Plan → Reader SpelledRequest
stepping_at p = either (as_a lock_of (covered_at p (codes "lock "))) (
    either (as_a unlock_of (covered_at p (codes "unlock "))) (
    either (as_a pre_of (both (then_word (word_then (codes "pre ") (object_at p)) (codes " ")) kind_at)) (
    either (as_a asked.Apply (word_then (codes "apply ") (number_below (2 ^ 32)))) (
    as_a post_of (both (then_word (word_then (codes "post ") (number_below (2 ^ 32))) (codes " ")) missed_at)))))

-- a request that repairs
unfoldable pub mending_at : Plan → Reader SpelledRequest
mending_at p = either (as_a cut_to_of (numbered_at p (codes "cut ") (codes " "))) (
    either (as_a copy_of (both (then_word (word_then (codes "copy ") (range_at p)) (codes " from ")) (number_below (2 ^ 32)))) (
    either (as_a put_of (numbered_at p (codes "put-attrs ") (codes " from "))) (
    either (as_a put_names_of (both (then_word (word_then (codes "put-names ") (object_at p)) (codes " from ")) reads_at)) (
    as_a settle_of (both (then_word (both (then_word (word_then (codes "settle ") (object_at p)) (codes " ")) kind_at) (codes " ")) (marks_at p.shape.n))))))

-- a request
unfoldable pub asked_at : Plan → Reader SpelledRequest
asked_at p = either (reading_at p) (either (stepping_at p) (mending_at p))

-- ---- answers, changes and ends
-- an answer
unfoldable pub answered_at : Reader Answered
answered_at = either (word (codes "granted") answered.Granted) (
    either (as_a answered.Held (word_then (codes "held ") actor_at)) (
    either (word (codes "seen") answered.Seen) (
    either (word (codes "done") answered.Done) (
    either (word (codes "ok") answered.Given) (
    either (word (codes "absent") answered.NoObject) (
    either (word (codes "lost") answered.Lost) (
    either (word (codes "gone") answered.Gone) (
    word (codes "failed") answered.Failed))))))))

-- a write, of its parts
abbrev pub write_of : (Gfid × ℕ) × ℕ → SpelledChange
write_of x = changing.Write x.0.0 x.0.1 x.1

-- a cut
abbrev pub cut_change_of : Gfid × ℕ → SpelledChange
cut_change_of x = changing.Cut x.0 x.1

-- a set attribute
abbrev pub set_of : (Gfid × KeyId) × ValueId → SpelledChange
set_of x = changing.SetAttr x.0.0 x.0.1 x.1

-- a new name
abbrev pub make_of : (What × (Gfid × NameId)) × Gfid → SpelledChange
make_of x = changing.Make x.0.0 x.0.1.0 x.0.1.1 x.1

-- a removed name
abbrev pub remove_of : What × (Gfid × NameId) → SpelledChange
remove_of x = changing.Remove x.0 x.1.0 x.1.1

-- the word of a new name, and of a removed one
unfoldable pub made_at : Reader What
made_at = either (word (codes "create ") File) (word (codes "mkdir ") Dir)

-- the word of a removed name
unfoldable pub removed_at : Reader What
removed_at = either (word (codes "unlink ") File) (word (codes "rmdir ") Dir)

-- a change
unfoldable pub changing_at : Plan → Reader SpelledChange
changing_at p = either (as_a write_of (both (then_word (numbered_at p (codes "write ") (codes " ")) (codes " ")) (number_below (2 ^ 64)))) (
    either (as_a cut_change_of (numbered_at p (codes "cut ") (codes " "))) (
    either (as_a set_of (both (then_word (word_then (codes "setattr ") (keyed_at p)) (codes " ")) (value_at p))) (
    either (as_a make_of (both (then_word (both made_at (named_at p)) (codes " ")) (object_at p))) (
    as_a remove_of (both removed_at (named_at p))))))

-- the end of a heal
unfoldable pub healed_at : Reader Healed
healed_at = either (word (codes "nothing") healed.Nothing) (
    either (word (codes "settled") healed.Settled) (
    either (word (codes "split") healed.Split) (
    either (as_a healed.Busy (word_then (codes "busy ") actor_at)) (
    either (word (codes "short") healed.Short) (
    either (as_a healed.Moved (word_then (codes "moved ") brick_at)) (
    word (codes "failed") healed.Failed))))))

-- the end of a command
unfoldable pub replied_at : Reader SpelledReply
replied_at = either (word (codes "ok") replied.Ok) (
    either (word (codes "no-entry") replied.NoEntry) (
    either (word (codes "exists") replied.Exists) (
    either (word (codes "not-dir") replied.NotDir) (
    either (word (codes "is-dir") replied.IsDir) (
    either (word (codes "not-empty") replied.NotEmpty) (
    either (word (codes "no-quorum") replied.NoQuorum) (
    either (word (codes "few-copies") replied.FewCopies) (
    either (word (codes "split-brain") replied.SplitBrain) (
    either (word (codes "failed") replied.Failed) (
    either (word (codes "too-large") replied.TooLarge) (
    word (codes "half") replied.Half)))))))))))

-- ---- lines
-- a question and its answer, of their parts
abbrev pub ask_of : (BrickId × SpelledRequest) × Answered → Doing
ask_of x = doing.Ask x.0.0 x.0.1 x.1

-- the begin of a heal
abbrev pub heal_begin_of : Kind × Gfid → Doing
heal_begin_of x = doing.HealBegin x.0 x.1

-- its end
abbrev pub heal_end_of : (Kind × Gfid) × Healed → Doing
heal_end_of x = doing.HealEnd x.0.0 x.0.1 x.1

-- what a heal is about
unfoldable pub about_at : Plan → List ℕ → Reader (Kind × Gfid)
about_at p w = both (then_word (word_then w kind_at) (codes " ")) (object_at p)

-- what an actor does
unfoldable pub doing_at : Plan → Reader Doing
doing_at p = either (as_a ask_of (both (then_word (both (then_word (word_then (codes " b") brick_at) (codes " ")) (asked_at p)) (codes " ")) answered_at)) (
    either (as_a heal_begin_of (about_at p (codes " begin heal "))) (
    either (as_a doing.Begin (word_then (codes " begin ") (changing_at p))) (
    either (as_a heal_end_of (both (then_word (about_at p (codes " end ")) (codes " ")) healed_at)) (
    as_a doing.End (word_then (codes " end ") replied_at)))))

-- an actor and what it does
abbrev pub of_actor : ActorId × Doing → TraceLine
of_actor x = trace_line.Of x.0 x.1

-- what stands after the position
unfoldable pub content_at : Plan → Reader TraceLine
content_at p = either (as_a trace_line.Event (word_then (codes "event ") event_at)) (as_a of_actor (both actor_at (doing_at p)))

-- a position and a line
unfoldable pub line_at : Plan → Reader (ℕ × TraceLine)
line_at p = both (then_word (number_below (2 ^ 32)) (codes " ")) (content_at p)

-- whether a command was carried out
abbrev pub is_ok : SpelledReply → Bool
is_ok replied.Ok = true
is_ok other = false

-- whether a line is the end of such a command
abbrev pub gives : TraceLine → Bool
gives (trace_line.Of actor (doing.End reply)) = is_ok reply
gives other = false

-- whether a text may stand behind a line's own
abbrev pub may_stand : Plan → Bool → List ℕ → Bool
may_stand p true text = is_contents p text
may_stand p false [] = true
may_stand p false (b ∷ bs) = false

-- the line and what stands behind it, where the position is this one
abbrev pub at_position : Plan → ℕ → (ℕ × TraceLine) × List ℕ → Option (TraceLine × List ℕ)
at_position p k x = checked ((x.0.0 == k) && may_stand p (gives x.0.1) x.1) (x.0.1, x.1)

-- what a text says at a position, and what a command gave, where it is the text of a line
abbrev pub line_told : Plan → ℕ → List ℕ → Option (TraceLine × List ℕ)
line_told p k bytes = line_at p bytes >>= at_position p k
