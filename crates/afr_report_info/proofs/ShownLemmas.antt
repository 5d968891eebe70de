-- What the bricks show is what the log says, where they hold the tables that it has made.
use Rattle.std.proofs.Common.{◌≡◌, ℕ, ◌+◌, Bool, true, false, List, [], ◌∷◌, ◌++◌, Option, Some, None, refl, ap, ◌∙◌, map, flat_map, length, slice_get, if◌then◌else◌}
use Rattle.std.specs.Prelude.{codes, decimal}
use Rattle.std.specs.Option.{option_map}
use Rattle.afr_base.specs.Bricks.{all_five, member}
use Rattle.afr_base.specs.declared.ids.Gfid.{Gfid}
use Rattle.afr_base.specs.declared.ids.What.{What}
use Rattle.afr_choice.specs.declared.looked.Looked.{Looked}
use Rattle.afr_object.specs.Indexed.{index_of}
use Rattle.afr_object.specs.Tables.{Table, copy_at, view_of}
use Rattle.afr_object.specs.declared.entry.View.{View}
use Rattle.afr_lines.specs.declared.line.Line.{Line}
use Rattle.afr_plan.specs.declared.plan.Plan.{Plan}
use Rattle.afr_server.specs.Serving.{Serving}
use Rattle.afr_model.specs.Report.{reach_text, started_bricks}
use Rattle.afr_model.specs.ReportHealers.{info_of}
use Rattle.afr_model.specs.ReportObjects.{marked_on, object_lines, objects_of, splits_in, splits_of}
use Rattle.afr_model.specs.Splits.{looked_at, view_among}
use Rattle.afr_model.specs.Tables.{holds}
use Rattle.afr_base.proofs.FiveLemmas.{itself, later}
use Rattle.afr_report_info.specs.Shown.{HoldTables, counted_shown, index_in, info_shown, lines_shown, marked_in, object_text, objects_shown, shown, splits_shown, table_of, view_in, view_shown}

view_of_table : (g : Gfid) (server : Option Serving) (t : Table) → option_map table_of server ≡ Some t → view_in g server ≡ option_map view_of (copy_at g t)
view_of_table g None t h = absurd (cc h)
view_of_table g (Some server) t h = let e : server.copies.objects ≡ t = cc h in ap (λ (u : Table). option_map view_of (copy_at g u)) e

index_of_table : (server : Option Serving) (t : Table) → option_map table_of server ≡ Some t → index_in server ≡ index_of t
index_of_table None t h = absurd (cc h)
index_of_table (Some server) t h = let e : server.copies.objects ≡ t = cc h in ap (λ (u : Table). index_of u) e

abbrev looked_with : List ℕ → List (Option View) → Looked
looked_with among views = record { reached = among; views = views }

flat_map_same : (f g : Gfid × What → List ℕ) → ((x : Gfid × What) → f x ≡ g x) → (xs : List (Gfid × What)) → flat_map f xs ≡ flat_map g xs
flat_map_same f g h [] = refl
flat_map_same f g h (x ∷ xs) = ap (λ (t : List ℕ). t ++ flat_map f xs) (h x) ∙ ap (λ (t : List ℕ). g x ++ t) (flat_map_same f g h xs)

-- the lines of objects between their counts
abbrev with_counts : ℕ → List ℕ → ℕ → List ℕ
with_counts count lines splits = codes "objects " ++ decimal count ++ codes "\n" ++ lines ++ codes "split-brain " ++ decimal splits ++ codes "\n"

module _ (p : Plan) (log : List Line) (among : List ℕ) (servers : List Serving) (hold : HoldTables p log among servers) where
  view_is : (g : Gfid) (b : ℕ) → view_shown servers among g b ≡ view_among p log among g b
  view_is g b = by_member (member among b) refl
    where
      by_member : (m : Bool) → member among b ≡ m → (if m then view_in g (slice_get servers b) else None) ≡ (if m then option_map view_of (copy_at g (holds p log b)) else None)
      by_member true e = view_of_table g (slice_get servers b) (holds p log b) (hold b e)
      by_member false e = refl

  views_are : (g : Gfid) (xs : List ℕ) → map (view_shown servers among g) xs ≡ map (view_among p log among g) xs
  views_are g [] = refl
  views_are g (b ∷ more) = rw (view_is g b, views_are g more) refl

  looked_is : (g : Gfid) → shown servers among g ≡ looked_at p log among g
  looked_is g = ap (looked_with among) (views_are g all_five)

  marked_are : (xs : List ℕ) → ((b : ℕ) → member xs b ≡ true → member among b ≡ true) → marked_in servers xs ≡ marked_on p log xs
  marked_are [] within = refl
  marked_are (b ∷ more) within =
      rw (marked_are more (λ c m. within c (later b c more m)), index_of_table (slice_get servers b) (holds p log b) (hold b (within b (itself b more)))) refl

  lines_are : (objects : List (Gfid × What)) → lines_shown p servers among objects ≡ flat_map (λ x. object_lines p log among x.0) objects
  lines_are objects =
      flat_map_same (λ x. object_text p (shown servers among x.0) among x.0) (λ x. object_lines p log among x.0)
      (λ x. ap (λ (looked : Looked). object_text p looked among x.0) (looked_is x.0)) objects

  splits_are : (objects : List (Gfid × What)) → splits_shown p servers among objects ≡ splits_in p log among objects
  splits_are [] = refl
  splits_are (x ∷ more) =
      ap (λ (looked : Looked). splits_of p looked + splits_shown p servers among more) (looked_is x.0)
      ∙ ap (λ (n : ℕ). splits_of p (looked_at p log among x.0) + n) (splits_are more)

  counted_is : (objects : List (Gfid × What)) → counted_shown p servers among objects ≡ objects_of p log among objects
  counted_is objects =
      ap (λ (lines : List ℕ). with_counts (length objects) lines (splits_shown p servers among objects)) (lines_are objects)
      ∙ ap (λ (n : ℕ). with_counts (length objects) (flat_map (λ x. object_lines p log among x.0) objects) n) (splits_are objects)

  objects_are : objects_shown p servers among ≡ objects_of p log among (marked_on p log among)
  objects_are = ap (counted_shown p servers among) (marked_are among (λ b m. m)) ∙ counted_is (marked_on p log among)

  -- the two counts are those of the log
  pub counts_are : (marked_in servers among ≡ marked_on p log among) × (splits_shown p servers among (marked_in servers among) ≡ splits_in p log among (marked_on p log among))
  counts_are =
      let marked = marked_are among (λ b m. m) in
      (marked, ap (splits_shown p servers among) marked ∙ splits_are (marked_on p log among))

pub info_is : (p : Plan) (log : List Line) (servers : List Serving) (started : List ℕ) → started ≡ started_bricks p.shape.n log → HoldTables p log started servers → info_shown p servers started ≡ info_of p log
info_is p log servers started e hold =
    ap (λ (s : List ℕ). reach_text p.shape.n started ++ s) (objects_are p log started servers hold)
    ∙ ap (λ (s : List ℕ). reach_text p.shape.n s ++ objects_of p log s (marked_on p log s)) e
