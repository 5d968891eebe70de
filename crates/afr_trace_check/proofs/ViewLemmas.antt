-- What a look shows, by the tables without numbers.
use Rattle.std.proofs.Common.{◌≡◌, ◌∙◌, ℕ, List, Option, Some, None, refl, ap}
use Rattle.std.specs.Prelude.{option_map}
use Rattle.afr_base.specs.declared.ids.Gfid.{Gfid}
use Rattle.afr_base.specs.declared.marks.AllMarks.{AllMarks}
use Rattle.afr_lines.specs.declared.line.Line.{Line}
use Rattle.afr_model.specs.Tables.{holds}
use Rattle.afr_object.specs.Object.{Object}
use Rattle.afr_object.specs.Tables.{Table, copy_at, view_of}
use Rattle.afr_object.specs.declared.entry.View.{View}
use Rattle.afr_plan.specs.declared.plan.Plan.{Plan}
use Rattle.afr_trace_build.specs.Shown.{empty_view, view_with}
use Rattle.afr_trace_tables.proofs.BareLaws.{copy_bare}
use Rattle.afr_trace_tables.proofs.PlainLaws.{now_bare}
use Rattle.afr_trace_tables.specs.Plain.{bare_object, plain_tables}

-- what is found without numbers
found : (p : Plan) (log : List Line) (b : ℕ) (g : Gfid) → option_map view_of (copy_at g ((plain_tables p log).now b)) ≡ option_map view_of (option_map bare_object (copy_at g (holds p log b)))
found p log b g =
    ap (λ (t : Table). option_map view_of (copy_at g t)) (now_bare p log b) ∙ ap (λ (o : Option Object). option_map view_of o) (copy_bare g (holds p log b))

-- a view with the sums as its numbers
pub view_there : (p : Plan) (log : List Line) (b : ℕ) (g : Gfid) (marks : AllMarks) (view : View) → Some view ≡ option_map view_of (copy_at g ((plain_tables p log).now b))
    → record { what = view.what; len = view.len; marks = marks } ≡ view_with marks (copy_at g (holds p log b))
view_there p log b g marks view h = by_copy (copy_at g (holds p log b)) (h ∙ found p log b g)
  where
    by_copy : (o : Option Object) → Some view ≡ option_map view_of (option_map bare_object o) → record { what = view.what; len = view.len; marks = marks } ≡ view_with marks o
    by_copy None e = absurd (cc)
    by_copy (Some o) e = let same : view ≡ view_of (bare_object o) = cc in rw same refl

-- without a copy it is that of an empty file
pub view_none : (p : Plan) (log : List Line) (b : ℕ) (g : Gfid) (marks : AllMarks) → None ≡ option_map view_of (copy_at g ((plain_tables p log).now b)) → empty_view ≡ view_with marks (copy_at g (holds p log b))
view_none p log b g marks h = by_copy (copy_at g (holds p log b)) (h ∙ found p log b g)
  where
    by_copy : (o : Option Object) → None ≡ option_map view_of (option_map bare_object o) → empty_view ≡ view_with marks o
    by_copy None e = refl
    by_copy (Some o) e = absurd (cc)
