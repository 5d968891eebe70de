-- The part of a report on objects that may need heal.
use Rattle.std.specs.Prelude.{ℕ, ◌+◌, ◌==◌, Bool, true, false, List, [], ◌∷◌, ◌++◌, Option, Some, None, codes, decimal, flat_map, length, if◌then◌else◌}
use Rattle.std.specs.BTreeMap.{insert_entry}
use Rattle.std.specs.List.{list_all}
use Rattle.afr_base.specs.Bricks.{below}
use Rattle.afr_base.specs.Text.{gfid_spelling}
use Rattle.afr_base.specs.declared.ids.Gfid.{Gfid}
use Rattle.afr_base.specs.declared.ids.Kind.{Kind}
use Rattle.afr_base.specs.declared.ids.Kind.TheVariants.{Bytes, Attrs, Names}
use Rattle.afr_base.specs.declared.ids.What.{What}
use Rattle.afr_choice.specs.Looks.{view_at}
use Rattle.afr_choice.specs.Verdict.{verdict_of}
use Rattle.afr_choice.specs.declared.looked.Looked.{Looked}
use Rattle.afr_choice.specs.declared.verdict.Verdict.{Verdict}
use Rattle.afr_choice.specs.declared.verdict.Verdict.TheVariants as verdict
use Rattle.afr_marks.specs.Values.{name_of, numbers, text_of, value}
use Rattle.afr_marks.specs.declared.attribute.Which.{Which}
use Rattle.afr_marks.specs.declared.attribute.Which.TheVariants.{Dirty, Client}
use Rattle.afr_object.specs.Tables.{gfid_cmp}
use Rattle.afr_object.specs.declared.entry.View.{View}
use Rattle.afr_lines.specs.declared.line.Line.{Line}
use Rattle.afr_plan.specs.declared.plan.Plan.{Plan}
use Rattle.afr_model.specs.HealReplies.{is_clean}
use Rattle.afr_object.specs.Indexed.{index_of}
use Rattle.afr_model.specs.Report.{started_bricks}
use Rattle.afr_model.specs.ReportReplies.{kind_text}
use Rattle.afr_model.specs.Splits.{looked_at}
use Rattle.afr_model.specs.Tables.{holds}

-- ---- which objects
-- the objects of a list among others, in rising gfid, each once
abbrev pub joined_into : List (Gfid × What) → List (Gfid × What) → List (Gfid × What)
joined_into objects [] = objects
joined_into objects (x ∷ more) = insert_entry gfid_cmp (joined_into objects more) x.0 x.1

-- the objects with a number above 0 on one of these bricks
abbrev pub marked_on : Plan → List Line → List ℕ → List (Gfid × What)
marked_on p log [] = []
marked_on p log (b ∷ more) = joined_into (marked_on p log more) (index_of (holds p log b))

-- ---- one object
abbrev pub verdict_text : Verdict → List ℕ
verdict_text verdict.Short = codes "short"
verdict_text verdict.Bare = codes "bare"
verdict_text verdict.Split = codes "split"
verdict_text (verdict.Sources sources) = codes "good" ++ flat_map (λ b. codes " " ++ decimal b) sources

-- a kind with a number above 0 and its verdict
abbrev pub verdict_line : Plan → Looked → Kind → List ℕ
verdict_line p looked kind = if is_clean kind looked then [] else kind_text kind ++ codes " " ++ verdict_text (verdict_of p.shape looked kind) ++ codes "\n"

-- a value that isn't all zero
abbrev pub mark_line : ℕ → Option View → Which → List ℕ
mark_line b None which = []
mark_line b (Some view) which = if list_all (λ n. n == 0) (numbers which view.marks) then [] else codes "b" ++ decimal b ++ codes " " ++ name_of which ++ codes "=" ++ text_of (value (numbers which view.marks)) ++ codes "\n"

-- the values of one brick: the open operations, then those that each brick missed
abbrev pub marks_lines : Plan → Looked → ℕ → List ℕ
marks_lines p looked b = mark_line b (view_at b looked) Dirty ++ flat_map (λ c. mark_line b (view_at b looked) (Client (record { 0 = c }))) (below p.shape.n)

-- an object, its kinds, and its values on each of these bricks
abbrev pub object_lines : Plan → List Line → List ℕ → Gfid → List ℕ
object_lines p log among g =
    codes "object " ++ gfid_spelling g.0 ++ codes "\n"
    ++ verdict_line p (looked_at p log among g) Bytes ++ verdict_line p (looked_at p log among g) Attrs ++ verdict_line p (looked_at p log among g) Names
    ++ flat_map (marks_lines p (looked_at p log among g)) among

-- ---- all of them
-- whether a kind of an object is split among the bricks
abbrev pub is_split_verdict : Verdict → Bool
is_split_verdict verdict.Split = true
is_split_verdict other = false

-- one where the kind has a number above 0 and is split
abbrev pub one_if_split : Plan → Looked → Kind → ℕ
one_if_split p looked kind = if is_clean kind looked then 0 else (if is_split_verdict (verdict_of p.shape looked kind) then 1 else 0)

-- how many kinds of the object are split
abbrev pub splits_of : Plan → Looked → ℕ
splits_of p looked = one_if_split p looked Bytes + one_if_split p looked Attrs + one_if_split p looked Names

-- the same of all these objects together
abbrev pub splits_in : Plan → List Line → List ℕ → List (Gfid × What) → ℕ
splits_in p log among [] = 0
splits_in p log among (x ∷ more) = splits_of p (looked_at p log among x.0) + splits_in p log among more

-- how many objects may need heal, each of them, and how many are split
abbrev pub objects_of : Plan → List Line → List ℕ → List (Gfid × What) → List ℕ
objects_of p log among objects =
    codes "objects " ++ decimal (length objects) ++ codes "\n" ++ flat_map (λ x. object_lines p log among x.0) objects ++ codes "split-brain " ++ decimal (splits_in p log among objects) ++ codes "\n"

-- the objects that may need heal on a started brick
abbrev pub objects_text : Plan → List Line → List ℕ
objects_text p log = objects_of p log (started_bricks p.shape.n log) (marked_on p log (started_bricks p.shape.n log))
