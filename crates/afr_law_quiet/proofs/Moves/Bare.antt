-- A directory has no bytes, on any brick and at any time.
use Rattle.std.proofs.Common.{◌≡◌, ℕ, Bool, true, false, ◌&&◌, refl, sym, ap, ◌∙◌, true≢false, List, [], ◌∷◌}
use Rattle.std.specs.Prelude.{Option, None, Some, if◌then◌else◌, ◌==◌}
use Rattle.std.specs.BTreeMap.{insert_entry}
use Rattle.afr_base.specs.Bricks.{and_right}
use Rattle.afr_base.specs.Marks.{closed_op, dirtied, taken_back}
use Rattle.afr_base.specs.declared.ids.Gfid.{Gfid}
use Rattle.afr_base.specs.declared.ids.NameId.{NameId}
use Rattle.afr_base.specs.declared.ids.What.{What}
use Rattle.afr_base.specs.declared.ids.What.TheVariants.{Dir, File}
use Rattle.afr_object.specs.Tables.{Table, applied, changed, copy_at, linked, with_copy, is_dir, is_file, name_cmp, with_attr, with_bytes, with_names, with_numbers, new_object}
use Rattle.afr_object.specs.declared.change.Change.{Change}
use Rattle.afr_object.specs.declared.change.Change.TheVariants.{Cut, Make, Remove, SetAttr, Write}
use Rattle.afr_object.specs.declared.entry.Entry.{Entry}
use Rattle.afr_object.specs.Object.{Object}
use Rattle.afr_lines.specs.Log.{change_at}
use Rattle.afr_lines.specs.declared.line.Line.{Line}
use Rattle.afr_lines.specs.declared.line.Line.TheVariants.{Ask}
use Rattle.afr_lines.specs.declared.request.Request.{Request}
use Rattle.afr_lines.specs.declared.request.Request.TheVariants.{Apply, Mend, Post, Pre, Settle}
use Rattle.afr_model.specs.Tables.{Past, asked, carried, effect, held_before, holds, keeps_bytes, step}
use Rattle.afr_plan.specs.declared.plan.Plan.{Plan}
use Rattle.afr_law_tables.specs.CopyLaws.{EachCopy, each_changed, each_made}
use Rattle.afr_law_tables.specs.RepairLaws.{each_mended}
use Rattle.afr_law_tables.specs.TableLaws.{each_opening}
use Rattle.afr_law_quiet.proofs.Moves.Copies.{IsBare}

new_bare : (what : What) → IsBare (new_object what)
new_bare what e = refl

bytes_bare : (keeps : Bool) (f : List ℕ → List ℕ) (o : Object) → IsBare o → IsBare (with_bytes keeps f o)
bytes_bare keeps f o h = go (keeps && is_file o.what) refl
  where
    go : (b : Bool) → (keeps && is_file o.what) ≡ b → IsBare (if b then record o { content = f o.content } else o)
    go true e = λ dir. absurd (true≢false (sym (and_right keeps (is_file o.what) e) ∙ ap is_file dir))
    go false e = h

names_bare : (f : List (NameId × Entry) → List (NameId × Entry)) (o : Object) → IsBare o → IsBare (with_names f o)
names_bare f o h = go (is_dir o.what)
  where
    go : (b : Bool) → IsBare (if b then record o { names = f o.names } else o)
    go true = h
    go false = h

each_linked : (P : Object → Type 0) (dir : Gfid) (name : NameId) (g : Gfid) (what : What) → P (new_object what)
    → ((o : Object) → P o → P (with_names (λ names. insert_entry name_cmp names name (record { gfid = g; what = what })) o)) → (t : Table) → EachCopy P t
    → EachCopy P (linked dir name g what (copy_at dir t) t)
each_linked P dir name g what new named t all = go (copy_at dir t) refl
  where
    f : Object → Object
    f o = with_names (λ names. insert_entry name_cmp names name (record { gfid = g; what = what })) o

    go : (o : Option Object) → copy_at dir t ≡ o → EachCopy P (linked dir name g what o t)
    go None e = all
    go (Some o) e =
        let kept : EachCopy P (changed f dir (copy_at dir t) t) = each_changed P P f named (λ o h. h) dir t all in
        each_made P g what (with_copy dir (f o) t) new (rw e at kept)

applied_bare : (keeps : Bool) (change : Change) (t : Table) → EachCopy IsBare t → EachCopy IsBare (applied keeps change t)
applied_bare keeps (Write g at bytes) t all = each_changed IsBare IsBare _ (bytes_bare keeps _) (λ o h. h) g t all
applied_bare keeps (Cut g len) t all = each_changed IsBare IsBare _ (bytes_bare keeps _) (λ o h. h) g t all
applied_bare keeps (SetAttr g key value) t all = each_changed IsBare IsBare (with_attr key value) (λ o h. h) (λ o h. h) g t all
applied_bare keeps (Make dir name g what) t all = each_linked IsBare dir name g what (new_bare what) (names_bare _) t all
applied_bare keeps (Remove dir name what) t all = each_changed IsBare IsBare _ (names_bare _) (λ o h. h) dir t all

asked_bare : (keeps : Bool) (r : Request) (older : List Line) (past : Past) (t : Table) → EachCopy IsBare t → EachCopy IsBare (asked keeps r older past t)
asked_bare keeps (Apply attempt) older past t all = go (change_at attempt older)
  where
    go : (change : Option Change) → EachCopy IsBare (effect keeps change t)
    go None = all
    go (Some change) = applied_bare keeps change t all
asked_bare keeps (Mend repair) older past t all = each_mended IsBare new_bare bytes_bare (λ attrs o h. h) (carried past older repair) (λ names e o h. names_bare (λ old. names) o h) keeps repair t all
asked_bare keeps (Pre g kind) older past t all = each_changed IsBare IsBare (with_numbers kind dirtied) (λ o h. h) (λ o h. h) g t all
asked_bare keeps (Post attempt g kind missed) older past t all = each_changed IsBare IsBare (with_numbers kind (closed_op missed)) (λ o h. h) (λ o h. h) g t all
asked_bare keeps (Settle g kind less) older past t all = each_changed IsBare IsBare (with_numbers kind (taken_back less)) (λ o h. h) (λ o h. h) g t all
asked_bare keeps r older past t all = all

step_bare : (p : Plan) (line : Line) (b : ℕ) (older : List Line) (past : Past) (t : Table) → EachCopy IsBare t → EachCopy IsBare (step p line b older past t)
step_bare p (Ask a y r told took) b older past t all = go took (y.0 == b)
  where
    go : (f here : Bool) → EachCopy IsBare (if f then (if here then asked (keeps_bytes p b) r older past t else t) else t)
    go true true = asked_bare (keeps_bytes p b) r older past t all
    go true false = all
    go false here = all
step_bare p line b older past t all = all

pub all_bare : (p : Plan) (log : List Line) (b : ℕ) → EachCopy IsBare (holds p log b)
all_bare p [] b = each_opening IsBare (new_bare Dir) (new_bare File) (λ i. names_bare _) p.files
all_bare p (line ∷ older) b = step_bare p line b older (held_before p older) (holds p older b) (all_bare p older b)
