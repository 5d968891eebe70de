-- Which objects of a brick an index lists, by the sums over the log.
use Rattle.std.specs.Prelude.{◌≡◌, ℕ, ◌==◌, ◌||◌, not, Bool, false, List, [], ◌∷◌, Option, Some, None, option_map, if◌then◌else◌}
use Rattle.afr_base.specs.Marks.{is_zero_marks}
use Rattle.afr_base.specs.declared.ids.Gfid.{Gfid}
use Rattle.afr_base.specs.declared.ids.Kind.{Kind}
use Rattle.afr_base.specs.declared.ids.Kind.TheVariants.{Attrs, Bytes, Names}
use Rattle.afr_base.specs.declared.ids.What.{What}
use Rattle.afr_index.specs.Listed.{Listed, kind_at}
use Rattle.afr_lines.specs.Work.{Work}
use Rattle.afr_lines.specs.declared.answer.Told.TheVariants.{Given}
use Rattle.afr_lines.specs.declared.line.Line.{Line}
use Rattle.afr_lines.specs.declared.line.Line.TheVariants.{Ask}
use Rattle.afr_lines.specs.declared.request.Request.TheVariants.{Index, Post, Pre}
use Rattle.afr_model.specs.Sums.{dirty_of, pending_of}
use Rattle.afr_model.specs.Tables.{holds}
use Rattle.afr_object.specs.Object.{Object}
use Rattle.afr_object.specs.Tables.{Table, copy_at}
use Rattle.afr_plan.specs.declared.plan.Plan.{Plan}
use Rattle.afr_trace_tally.specs.Flags.{five}

-- a copy on brick b has a number of this kind above 0
abbrev pub has_number : Plan → List Line → ℕ → Gfid → Kind → Bool
has_number p log b g kind = not (is_zero_marks (record { dirty = dirty_of p log b g kind; pending = five (λ c. pending_of p log b c g kind) }))

-- or of any kind
abbrev pub is_marked : Plan → List Line → ℕ → Gfid → Bool
is_marked p log b g = has_number p log b g Bytes || has_number p log b g Attrs || has_number p log b g Names

-- the objects of a brick's tables that pass a test, in their order, which is that of their gfids
abbrev pub passing : (Gfid → Bool) → Table → List (Gfid × What)
passing test [] = []
passing test (entry ∷ t) = if test entry.0 then (entry.0, entry.1.what) ∷ passing test t else passing test t

-- the objects of brick b with a number above 0
abbrev pub marked_on : Plan → List Line → ℕ → List (Gfid × What)
marked_on p log b = passing (is_marked p log b) (holds p log b)

-- the list that a round's Index line gave
abbrev pub list_after : Plan → Line → List Line → List (Gfid × What) → List (Gfid × What)
list_after p (Ask a b Index Given took) older was = marked_on p older b.0
list_after p line older was = was

-- the same of all lines of a round
abbrev pub list_of : Plan → Work → List (Gfid × What)
list_of p [] = []
list_of p (x ∷ w) = list_after p x.0 x.1 (list_of p w)

-- ---- how it is found
-- the object of which a line may raise a number
abbrev pub raised : Line → Option Gfid
raised (Ask a b (Pre g kind) told took) = Some g
raised (Ask a b (Post attempt g kind missed) told took) = Some g
raised line = None

-- it is this one
abbrev pub is_object : Option Gfid → Gfid → Bool
is_object None q = false
is_object (Some g) q = g.0 == q.0

-- some line of a log may have raised its number
abbrev pub is_raised : Gfid → List Line → Bool
is_raised q [] = false
is_raised q (line ∷ older) = is_object (raised line) q || is_raised q older

-- what the object is, where it has a number above 0
abbrev pub kind_marked : Plan → List Line → ℕ → Gfid → Option What
kind_marked p log b q = if is_marked p log b q then option_map (λ (o : Object). o.what) (copy_at q (holds p log b)) else None

-- those of the objects that some of the lines may have raised are listed
abbrev pub IsListing : Plan → List Line → ℕ → List Line → Listed → Type 0
IsListing p log b lines index = (q : Gfid) → kind_at q index ≡ (if is_raised q lines then kind_marked p log b q else None)
