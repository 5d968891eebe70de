-- What the tables of some bricks show of objects, and the text of it.
use Rattle.std.specs.Prelude.{◌≡◌, ℕ, ◌+◌, ◌&&◌, not, Bool, true, List, [], ◌∷◌, ◌++◌, Option, Some, None, codes, decimal, flat_map, length, map, slice_get, if◌then◌else◌}
use Rattle.std.specs.Option.{option_map}
use Rattle.afr_base.specs.Bricks.{all_five, member}
use Rattle.afr_base.specs.Marks.{is_zero_marks}
use Rattle.afr_base.specs.Text.{gfid_spelling}
use Rattle.afr_base.specs.declared.ids.Gfid.{Gfid}
use Rattle.afr_base.specs.declared.ids.Kind.{Kind}
use Rattle.afr_base.specs.declared.ids.Kind.TheVariants.{Bytes, Attrs, Names}
use Rattle.afr_base.specs.declared.ids.What.{What}
use Rattle.afr_choice.specs.Looks.{view_at}
use Rattle.afr_choice.specs.Verdict.{is_holder}
use Rattle.afr_choice.specs.declared.looked.Looked.{Looked}
use Rattle.afr_choice.specs.declared.verdict.Verdict.{Verdict}
use Rattle.afr_choice.specs.declared.verdict.Verdict.TheVariants.{Sources}
use Rattle.afr_marks.specs.declared.attribute.Which.TheVariants.{Client}
use Rattle.afr_object.specs.Indexed.{index_of}
use Rattle.afr_object.specs.Tables.{Table, copy_at, view_of}
use Rattle.afr_object.specs.declared.entry.View.{View}
use Rattle.afr_lines.specs.declared.line.Line.{Line}
use Rattle.afr_plan.specs.declared.plan.Plan.{Plan}
use Rattle.afr_server.specs.Serving.{Serving}
use Rattle.afr_model.specs.Healing.{marks_in}
use Rattle.afr_model.specs.Report.{reach_text}
use Rattle.afr_model.specs.ReportObjects.{joined_into, mark_line, marks_lines, splits_of, verdict_line}
use Rattle.afr_model.specs.Tables.{holds}
use Rattle.afr_base.specs.Rising.{IsRising}

-- the tables of a brick that is there
abbrev pub table_of : Serving → Table
table_of server = server.copies.objects

-- each of these bricks stands at its number, with the tables that the log has made
abbrev pub HoldTables : Plan → List Line → List ℕ → List Serving → Type 0
HoldTables p log among servers = (b : ℕ) → member among b ≡ true → option_map table_of (slice_get servers b) ≡ Some (holds p log b)

-- ---- what bricks show
-- the view that a brick has of an object
abbrev pub view_in : Gfid → Option Serving → Option View
view_in g None = None
view_in g (Some server) = option_map view_of (copy_at g server.copies.objects)

-- the view that the brick of this number has, if it is of the set
abbrev pub view_shown : List Serving → List ℕ → Gfid → ℕ → Option View
view_shown servers among g b = if member among b then view_in g (slice_get servers b) else None

-- the views that looks at these bricks would show
abbrev pub shown : List Serving → List ℕ → Gfid → Looked
shown servers among g = record { reached = among; views = map (view_shown servers among g) all_five }

-- the objects of a brick with a number above 0
abbrev pub index_in : Option Serving → List (Gfid × What)
index_in None = []
index_in (Some server) = index_of server.copies.objects

-- the objects with a number above 0 on one of the bricks
abbrev pub marked_in : List Serving → List ℕ → List (Gfid × What)
marked_in servers [] = []
marked_in servers (b ∷ more) = joined_into (marked_in servers more) (index_in (slice_get servers b))

-- a brick has the object, with a number of the kind above 0
abbrev pub is_marked_at : Kind → Looked → ℕ → Bool
is_marked_at kind looked b = is_holder looked b && not (is_zero_marks (marks_in kind (view_at b looked)))

-- ---- the text of it
-- a verdict names its bricks in rising order
abbrev pub HasRising : Verdict → Type 0
HasRising (Sources sources) = IsRising 0 sources
HasRising verdict = Unit {0}

-- the value of an attribute on a brick
abbrev pub value_line : ℕ → List ℕ → List ℕ → List ℕ
value_line b name value = codes "b" ++ decimal b ++ codes " " ++ name ++ codes "=" ++ value ++ codes "\n"

-- the operations that each of the bricks missed, as one brick counts them
abbrev pub missed_lines : ℕ → Option View → List ℕ → List ℕ
missed_lines b view missing = flat_map (λ c. mark_line b view (Client (record { 0 = c }))) missing

-- an object, by what the bricks show of it
abbrev pub object_text : Plan → Looked → List ℕ → Gfid → List ℕ
object_text p looked among g =
    codes "object " ++ gfid_spelling g.0 ++ codes "\n"
    ++ verdict_line p looked Bytes ++ verdict_line p looked Attrs ++ verdict_line p looked Names
    ++ flat_map (marks_lines p looked) among

-- each object of a list
abbrev pub lines_shown : Plan → List Serving → List ℕ → List (Gfid × What) → List ℕ
lines_shown p servers among objects = flat_map (λ x. object_text p (shown servers among x.0) among x.0) objects

-- how many kinds of them are split
abbrev pub splits_shown : Plan → List Serving → List ℕ → List (Gfid × What) → ℕ
splits_shown p servers among [] = 0
splits_shown p servers among (x ∷ more) = splits_of p (shown servers among x.0) + splits_shown p servers among more

-- a list of objects, with its length and the number of splits
abbrev pub counted_shown : Plan → List Serving → List ℕ → List (Gfid × What) → List ℕ
counted_shown p servers among objects =
    codes "objects " ++ decimal (length objects) ++ codes "\n" ++ lines_shown p servers among objects ++ codes "split-brain " ++ decimal (splits_shown p servers among objects) ++ codes "\n"

-- the objects that may need heal
abbrev pub objects_shown : Plan → List Serving → List ℕ → List ℕ
objects_shown p servers among = counted_shown p servers among (marked_in servers among)

-- the started bricks, and the objects on them
abbrev pub info_shown : Plan → List Serving → List ℕ → List ℕ
info_shown p servers started = reach_text p.shape.n started ++ objects_shown p servers started
