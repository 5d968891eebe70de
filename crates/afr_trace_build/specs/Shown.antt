-- What the lines before a line show of what its text leaves out.
use Rattle.std.specs.Prelude.{ℕ, ◌==◌, List, [], ◌∷◌, Option, Some, None, length, map, if◌then◌else◌}
use Rattle.afr_base.specs.Bricks.{all_five}
use Rattle.afr_base.specs.declared.ids.Gfid.{Gfid}
use Rattle.afr_base.specs.declared.ids.Kind.{Kind}
use Rattle.afr_base.specs.declared.ids.Kind.TheVariants.{Bytes, Attrs, Names}
use Rattle.afr_base.specs.declared.ids.NameId.{NameId}
use Rattle.afr_base.specs.declared.ids.What.TheVariants.{File}
use Rattle.afr_base.specs.declared.marks.AllMarks.{AllMarks}
use Rattle.afr_base.specs.declared.marks.Marks.{Marks}
use Rattle.afr_choice.specs.Looks.{no_looks}
use Rattle.afr_lines.specs.Log.{from_oldest}
use Rattle.afr_lines.specs.Work.{Work, work}
use Rattle.afr_lines.specs.declared.line.Line.{Line}
use Rattle.afr_lines.specs.declared.line.Line.TheVariants.{Ask}
use Rattle.afr_lines.specs.declared.request.Request.TheVariants as request
use Rattle.afr_model.specs.Healing.{heal_by}
use Rattle.afr_model.specs.Showing.{looked_by}
use Rattle.afr_model.specs.Sums.{dirty_of, pending_of}
use Rattle.afr_model.specs.Tables.{bytes_shown, held_before, holds, names_in}
use Rattle.afr_object.specs.Object.{Object}
use Rattle.afr_object.specs.Tables.{copy_at, new_object, view_of}
use Rattle.afr_object.specs.declared.entry.Entry.{Entry}
use Rattle.afr_object.specs.declared.entry.View.{View}
use Rattle.afr_plan.specs.declared.plan.Plan.{Plan}
use Rattle.afr_trace_build.specs.declared.showing.Shown.{Shown}
use Rattle.afr_trace_build.specs.declared.showing.Shown.TheVariants as shown
use Rattle.afr_trace_read.specs.Fit.{IsNotAmong}
use Rattle.afr_trace_read.specs.declared.kinds.Answered.{Answered}
use Rattle.afr_trace_read.specs.declared.kinds.Answered.TheVariants as answered
use Rattle.afr_trace_read.specs.declared.kinds.Doing.TheVariants as doing
use Rattle.afr_trace_read.specs.declared.kinds.Healed.TheVariants as healed
use Rattle.afr_trace_read.specs.declared.kinds.SpelledReply.TheVariants as replied
use Rattle.afr_trace_read.specs.declared.kinds.SpelledRequest.{SpelledRequest}
use Rattle.afr_trace_read.specs.declared.kinds.SpelledRequest.TheVariants as asked
use Rattle.afr_trace_read.specs.declared.kinds.TraceLine.{TraceLine}
use Rattle.afr_trace_read.specs.declared.kinds.TraceLine.TheVariants as trace_line

-- ---- views
-- the view of an empty file, whose numbers are all 0
abbrev pub empty_view : View
empty_view = view_of (new_object File)

-- the numbers of a copy on brick b, as sums over the log
abbrev pub sums_of : Plan → List Line → ℕ → Gfid → Kind → Marks
sums_of p log b g kind = record { dirty = dirty_of p log b g kind; pending = map (λ c. pending_of p log b c g kind) all_five }

-- those of each kind
abbrev pub all_sums_of : Plan → List Line → ℕ → Gfid → AllMarks
all_sums_of p log b g = record { bytes = sums_of p log b g Bytes; attrs = sums_of p log b g Attrs; names = sums_of p log b g Names }

-- a copy's kind and length, with these numbers; an empty file where the brick has no copy
abbrev pub view_with : AllMarks → Option Object → View
view_with marks None = empty_view
view_with marks (Some o) = record (view_of o) { marks = marks }

-- what a look at brick b shows after a log
abbrev pub view_shown : Plan → List Line → ℕ → Gfid → View
view_shown p log b g = view_with (all_sums_of p log b g) (copy_at g (holds p log b))

-- ---- last looks
-- the object that a line looks at, or else this one
abbrev pub looked_object : Line → Option Gfid → Option Gfid
looked_object (Ask a b (request.Look g) told took) was = Some g
looked_object line was = was

-- the object that a work last looked at
abbrev pub last_object : Work → Option Gfid
last_object [] = None
last_object (x ∷ w) = looked_object x.0 (last_object w)

-- what the last looks at an object show
abbrev pub views_at : Option Gfid → Work → List (Option View)
views_at None w = no_looks.views
views_at (Some g) w = (looked_by g w).views

-- what the last looks of a work show
abbrev pub last_views : Work → List (Option View)
last_views w = views_at (last_object w) w

-- ---- lists
-- the names that a line of actor a listed, or else these
abbrev pub listed_after : Plan → ℕ → Line → List Line → List (NameId × Entry) → List (NameId × Entry)
listed_after p a (Ask x b (request.List g) told took) older was = if x.0 == a then names_in (copy_at g (holds p older b.0)) else was
listed_after p a line older was = was

-- the names that the last List line of actor a showed
abbrev pub last_listed : Plan → ℕ → List Line → List (NameId × Entry)
last_listed p a [] = []
last_listed p a (line ∷ older) = listed_after p a line older (last_listed p a older)

-- ---- what a line needs
-- how many bytes the read at a position showed
abbrev pub read_len : Plan → List Line → ℕ → ℕ
read_len p older k = length (bytes_shown (held_before p older) k (from_oldest k older))

-- what the question and the answer of a line need
abbrev pub ask_shown : Plan → List Line → ℕ → SpelledRequest → Answered → Shown
ask_shown p older b (asked.Look g) answered.Seen = shown.View (view_shown p older b g)
ask_shown p older b (asked.Copy g at long read) told = shown.Bytes (read_len p older read)
ask_shown p older b other told = shown.Nothing

-- what a line needs: a look that was seen its view, a copy the length of its read, a split the last looks, and an end with contents the last list
abbrev pub shown_by : Plan → List Line → TraceLine → Shown
shown_by p older (trace_line.Of a (doing.Ask b r told)) = ask_shown p older b.0 r told
shown_by p older (trace_line.Of a (doing.HealEnd kind g healed.Split)) = shown.Views (last_views (heal_by (work a.0 older)))
shown_by p older (trace_line.Of a (doing.End replied.SplitBrain)) = shown.Views (last_views (work a.0 older))
shown_by p older (trace_line.Of a (doing.End replied.Ok)) = shown.Names (last_listed p a.0 older)
shown_by p older other = shown.Nothing

-- ---- what was handed over
-- a view
abbrev pub view_in : Shown → View
view_in (shown.View view) = view
view_in other = empty_view

-- a length
abbrev pub len_in : Shown → ℕ
len_in (shown.Bytes len) = len
len_in other = 0

-- the views of last looks
abbrev pub views_in : Shown → List (Option View)
views_in (shown.Views views) = views
views_in other = no_looks.views

-- names
abbrev pub listed_in : Shown → List (NameId × Entry)
listed_in (shown.Names names) = names
listed_in other = []

-- each name is listed once
abbrev pub AreOnce : List (NameId × Entry) → Type 0
AreOnce [] = Unit {0}
AreOnce (x ∷ names) = IsNotAmong x.0 names × AreOnce names
