-- Tables that keep no numbers are the tables without their numbers.
use Rattle.std.proofs.Common.{◌≡◌, ℕ, ◌==◌, List, [], ◌∷◌, Option, Some, None, length, refl, sym, ap, ◌∙◌, Bool, true, false, cond, take, drop}
use Rattle.std.specs.Prelude.{option_map}
use Rattle.afr_base.specs.Marks.{closed_op, dirtied, taken_back}
use Rattle.afr_base.specs.declared.ids.KeyId.{KeyId}
use Rattle.afr_base.specs.declared.ids.NameId.{NameId}
use Rattle.afr_base.specs.declared.ids.ValueId.{ValueId}
use Rattle.afr_lines.specs.Log.{change_at, from_oldest}
use Rattle.afr_lines.specs.declared.line.Line.{Line}
use Rattle.afr_lines.specs.declared.line.Line.TheVariants.{Ask}
use Rattle.afr_lines.specs.declared.request.Request.{Request}
use Rattle.afr_lines.specs.declared.request.Request.TheVariants as request
use Rattle.afr_model.specs.Tables.{Past, all_names_shown, asked, attrs_in, attrs_shown, bytes_shown, carried, content_in, effect, keeps_bytes, names_in, names_shown, step, tables}
use Rattle.afr_object.specs.Object.{Object}
use Rattle.afr_object.specs.Repairs.{Contents, Bytes, Attrs, Names, merged, mended}
use Rattle.afr_object.specs.Tables.{Table, copy_at}
use Rattle.afr_object.specs.declared.change.Change.{Change}
use Rattle.afr_object.specs.declared.change.Repair.{Repair}
use Rattle.afr_object.specs.declared.change.Repair.TheVariants as repair
use Rattle.afr_object.specs.declared.entry.Entry.{Entry}
use Rattle.afr_plan.specs.declared.plan.Plan.{Plan}
use Rattle.afr_trace_tables.specs.Plain.{bare, bare_object, plain_step, plain_tables, plainly_asked}
use Rattle.afr_trace_tables.proofs.BareLaws.{applied_bare, copy_bare, mended_bare, numbers_bare, opening_bare}

-- ---- what is read shows no numbers
content_same : (o : Option Object) → content_in (option_map bare_object o) ≡ content_in o
content_same None = refl
content_same (Some o) = refl

attrs_same : (o : Option Object) → attrs_in (option_map bare_object o) ≡ attrs_in o
attrs_same None = refl
attrs_same (Some o) = refl

names_same : (o : Option Object) → names_in (option_map bare_object o) ≡ names_in o
names_same None = refl
names_same (Some o) = refl

-- one past has the tables of another without numbers
abbrev pub IsBare : Past → Past → Type 0
IsBare plain past = (k b : ℕ) → plain k b ≡ bare (past k b)

pub bytes_plain : (plain past : Past) → IsBare plain past → (k : ℕ) (o : Option Line) → bytes_shown plain k o ≡ bytes_shown past k o
bytes_plain plain past h k (Some (Ask a b (request.ReadBytes g at len) told took)) =
    ap (λ (t : Table). take len (drop at (content_in (copy_at g t)))) (h k b.0) ∙ ap (λ (c : List ℕ). take len (drop at c)) (ap content_in (copy_bare g (past k b.0)) ∙ content_same (copy_at g (past k b.0)))
bytes_plain plain past h k other = refl

attrs_plain : (plain past : Past) → IsBare plain past → (k : ℕ) (o : Option Line) → attrs_shown plain k o ≡ attrs_shown past k o
attrs_plain plain past h k (Some (Ask a b (request.ReadAttrs g) told took)) = ap (λ (t : Table). attrs_in (copy_at g t)) (h k b.0) ∙ ap attrs_in (copy_bare g (past k b.0)) ∙ attrs_same (copy_at g (past k b.0))
attrs_plain plain past h k other = refl

pub names_plain : (plain past : Past) → IsBare plain past → (k : ℕ) (o : Option Line) → names_shown plain k o ≡ names_shown past k o
names_plain plain past h k (Some (Ask a b (request.List g) told took)) = ap (λ (t : Table). names_in (copy_at g t)) (h k b.0) ∙ ap names_in (copy_bare g (past k b.0)) ∙ names_same (copy_at g (past k b.0))
names_plain plain past h k other = refl

all_plain : (plain past : Past) → IsBare plain past → (older : List Line) (reads : List (Option ℕ)) → all_names_shown plain older reads ≡ all_names_shown past older reads
all_plain plain past h older [] = refl
all_plain plain past h older (None ∷ reads) = all_plain plain past h older reads
all_plain plain past h older (Some k ∷ reads) =
    ap (λ (names : List (NameId × Entry)). names ∷ all_names_shown plain older reads) (names_plain plain past h k (from_oldest k older)) ∙ ap (λ (more : List (List (NameId × Entry))). names_shown past k (from_oldest k older) ∷ more) (all_plain plain past h older reads)

carried_plain : (plain past : Past) → IsBare plain past → (older : List Line) (r : Repair) → carried plain older r ≡ carried past older r
carried_plain plain past h older (repair.CutTo g len) = refl
carried_plain plain past h older (repair.Copy g at span read) = ap (λ (bytes : List ℕ). Bytes bytes) (bytes_plain plain past h read (from_oldest read older))
carried_plain plain past h older (repair.PutAttrs g read) = ap (λ (attrs : List (KeyId × ValueId)). Attrs attrs) (attrs_plain plain past h read (from_oldest read older))
carried_plain plain past h older (repair.PutNames g reads) = ap (λ (names : List (List (NameId × Entry))). Names (merged names)) (all_plain plain past h older reads)

-- ---- one request
effect_bare : (keeps : Bool) (o : Option Change) (t : Table) → bare (effect keeps o t) ≡ effect keeps o (bare t)
effect_bare keeps None t = refl
effect_bare keeps (Some change) t = applied_bare keeps change t

asked_bare : (keeps : Bool) (r : Request) (older : List Line) (plain past : Past) → IsBare plain past → (t : Table) → plainly_asked keeps r older plain (bare t) ≡ bare (asked keeps r older past t)
asked_bare keeps (request.Apply attempt) older plain past h t = sym (effect_bare keeps (change_at attempt older) t)
asked_bare keeps (request.Mend r) older plain past h t = ap (λ (c : Contents). mended keeps r c (bare t)) (carried_plain plain past h older r) ∙ sym (mended_bare keeps r (carried past older r) t)
asked_bare keeps (request.Pre g kind) older plain past h t = sym (numbers_bare kind dirtied g t)
asked_bare keeps (request.Post attempt g kind missed) older plain past h t = sym (numbers_bare kind (closed_op missed) g t)
asked_bare keeps (request.Settle g kind less) older plain past h t = sym (numbers_bare kind (taken_back less) g t)
asked_bare keeps other older plain past h t = refl

-- ---- one line
step_bare : (p : Plan) (line : Line) (b : ℕ) (older : List Line) (plain past : Past) → IsBare plain past → (s t : Table) → s ≡ bare t → plain_step p line b older plain s ≡ bare (step p line b older past t)
step_bare p (Ask a y r told took) b older plain past h s t e = by took (y.0 == b)
  where
    by : (took here : Bool) → cond took (cond here (plainly_asked (keeps_bytes p b) r older plain s) s) s ≡ bare (cond took (cond here (asked (keeps_bytes p b) r older past t) t) t)
    by true true = ap (plainly_asked (keeps_bytes p b) r older plain) e ∙ asked_bare (keeps_bytes p b) r older plain past h t
    by true false = e
    by false here = e
step_bare p other b older plain past h s t e = e

-- ---- all lines
one_of : (here : Bool) (r s t u : Table) → r ≡ bare t → s ≡ bare u → cond here r s ≡ bare (cond here t u)
one_of true r s t u e f = e
one_of false r s t u e f = f

both_bare : (p : Plan) (log : List Line) → ((b : ℕ) → (plain_tables p log).now b ≡ bare ((tables p log).now b)) × IsBare (plain_tables p log).past (tables p log).past
both_bare p [] = (λ b. sym (opening_bare p.files), λ k b. sym (opening_bare p.files))
both_bare p (line ∷ older) =
    let h = both_bare p older in (
      λ b. step_bare p line b older (plain_tables p older).past (tables p older).past h.1 ((plain_tables p older).now b) ((tables p older).now b) (h.0 b),
      λ k b. one_of (k == length older) ((plain_tables p older).now b) ((plain_tables p older).past k b) ((tables p older).now b) ((tables p older).past k b) (h.0 b) (h.1 k b),
    )

pub now_bare : (p : Plan) (log : List Line) (b : ℕ) → (plain_tables p log).now b ≡ bare ((tables p log).now b)
now_bare p log b = (both_bare p log).0 b

pub past_bare : (p : Plan) (log : List Line) → IsBare (plain_tables p log).past (tables p log).past
past_bare p log = (both_bare p log).1
