-- The numbers of a copy are sums over the log.
use Rattle.std.proofs.Common.{◌≡◌, ℕ, ◌+◌, ◌<◌, ◌≤◌, ◌==◌, ◌&&◌, Bool, true, false, List, [], ◌∷◌, refl, sym, ap, ◌∙◌, subst, arith, length, Option, Some, None, ◌⊎◌, inl, inr, if◌then◌else◌}
use Rattle.std.proofs.lemmas.Bool.Decides.{eqb_tells}
use Rattle.std.specs.Prelude.{is_some, slice_index}
use Rattle.std.specs.Option.{option_map}
use Rattle.std.specs.BTreeMap.{insert_entry}
use Rattle.afr_base.specs.Bricks.{member}
use Rattle.afr_base.specs.Marks.{zero_marks, no_marks, marks_of, with_marks, dirtied, closed_op, taken_back}
use Rattle.afr_base.specs.MarksLemmas.{get_or-less_each, pending_after}
use Rattle.afr_base.specs.declared.ids.Gfid.{Gfid}
use Rattle.afr_base.specs.declared.ids.Kind.{Kind}
use Rattle.afr_base.specs.declared.ids.Kind.TheVariants.{Bytes, Attrs, Names}
use Rattle.afr_base.specs.declared.ids.NameId.{NameId}
use Rattle.afr_base.specs.declared.ids.What.{What}
use Rattle.afr_base.specs.declared.marks.Marks.{Marks}
use Rattle.afr_base.specs.declared.marks.AllMarks.{AllMarks}
use Rattle.afr_object.specs.Repairs.{Contents, all_made, mended, renamed, with_attrs}
use Rattle.afr_object.specs.Repairs as contents
use Rattle.afr_object.specs.Tables.{Table, copy_at, changed, with_copy, made, linked, applied, name_cmp, new_object, with_bytes, with_attr, with_names, with_numbers, is_file, is_dir}
use Rattle.afr_object.specs.declared.change.Change.{Change}
use Rattle.afr_object.specs.declared.change.Change.TheVariants.{Write, Cut, SetAttr, Make, Remove}
use Rattle.afr_object.specs.declared.change.Repair.{Repair}
use Rattle.afr_object.specs.declared.change.Repair.TheVariants.{CutTo, Copy, PutAttrs, PutNames}
use Rattle.afr_object.specs.declared.entry.Entry.{Entry}
use Rattle.afr_object.specs.Object.{Object}
use Rattle.afr_lines.specs.Log.{EachLine, change_at}
use Rattle.afr_lines.specs.declared.line.Line.{Line}
use Rattle.afr_lines.specs.declared.line.Line.TheVariants.{Ask}
use Rattle.afr_lines.specs.declared.request.Request.TheVariants.{Apply, Mend, Pre, Post, Settle}
use Rattle.afr_object.specs.TablesLemmas.{copy_at-changed, copy_at-made}
use Rattle.afr_plan.specs.declared.plan.Plan.{Plan}
use Rattle.afr_base.specs.Kinds.{same_kind}
use Rattle.afr_model.specs.Sums.{has_object, sum_over, opens_op, closes_op, blames, settles_dirty, settles_pending, dirty_of, pending_of}
use Rattle.afr_model.specs.Tables.{keeps_bytes, effect, carried, holds, held_before}
use Rattle.afr_law_tables.specs.Fits.{FitsSums}
use Rattle.afr_law_tables.specs.CopyLaws.{gfid_is}
use Rattle.afr_law_tables.specs.TableLaws.{zeros, numbers_below, five_pending}
use Rattle.std.proofs.lemmas.Bool.{eqb-true}
use Rattle.afr_model_moves.proofs.Tests.{same_kind_yes}

-- ---- the numbers at one brick
-- the numbers of one kind; a brick that lacks the object has none
abbrev pub numbers_if : Kind → Option Object → Marks
numbers_if kind None = zero_marks
numbers_if kind (Some o) = marks_of kind o.marks

-- the numbers of a copy as sums of the lines so far
abbrev pub now_at : Plan → List Line → ℕ → Gfid → Kind → Marks
now_at p log x g kind = numbers_if kind (copy_at g (holds p log x))

-- the numbers of one kind, where those of a kind were replaced
kind_numbers : (f : Marks → Marks) (k kind : Kind) (all : AllMarks) → marks_of kind (with_marks k (f (marks_of k all)) all) ≡ (if same_kind k kind then f (marks_of kind all) else marks_of kind all)
kind_numbers f Bytes Bytes all = refl
kind_numbers f Bytes Attrs all = refl
kind_numbers f Bytes Names all = refl
kind_numbers f Attrs Bytes all = refl
kind_numbers f Attrs Attrs all = refl
kind_numbers f Attrs Names all = refl
kind_numbers f Names Bytes all = refl
kind_numbers f Names Attrs all = refl
kind_numbers f Names Names all = refl

copy_numbers : (f : Marks → Marks) (k kind : Kind) (o : Option Object) → numbers_if kind (option_map (with_numbers k f) o) ≡ (if same_kind k kind && is_some o then f (numbers_if kind o) else numbers_if kind o)
copy_numbers f k kind None = go (same_kind k kind)
  where
    go : (s : Bool) → zero_marks ≡ (if s && false then f zero_marks else zero_marks)
    go true = refl
    go false = refl
copy_numbers f k kind (Some o) = kind_numbers f k kind o.marks ∙ go (same_kind k kind)
  where
    go : (s : Bool) → (if s then f (marks_of kind o.marks) else marks_of kind o.marks) ≡ (if s && true then f (marks_of kind o.marks) else marks_of kind o.marks)
    go true = refl
    go false = refl

-- the numbers of an object after those of one were changed
numbers_changed : (f : Marks → Marks) (k kind : Kind) (h g : Gfid) (t : Table)
    → numbers_if kind (copy_at g (changed (with_numbers k f) h (copy_at h t) t)) ≡ (if (h.0 == g.0) && same_kind k kind && is_some (copy_at g t) then f (numbers_if kind (copy_at g t)) else numbers_if kind (copy_at g t))
numbers_changed f k kind h g t = ap (numbers_if kind) (copy_at-changed (with_numbers k f) h g t) ∙ split (eqb_tells h.0 g.0)
  where
    split : ((h.0 == g.0) ≡ true) × (h.0 ≡ g.0) ⊎ ((h.0 == g.0) ≡ false) × (h.0 ≡ g.0 → ⊥)
        → numbers_if kind (if h.0 == g.0 then option_map (with_numbers k f) (copy_at h t) else copy_at g t)
        ≡ (if (h.0 == g.0) && same_kind k kind && is_some (copy_at g t) then f (numbers_if kind (copy_at g t)) else numbers_if kind (copy_at g t))
    split (inl s) = rw s.0 (ap (λ (q : Gfid). numbers_if kind (option_map (with_numbers k f) (copy_at q t))) (gfid_is h g s.1) ∙ copy_numbers f k kind (copy_at g t))
    split (inr s) = rw s.0 refl

-- a change of a copy that leaves its numbers
numbers_left : (f : Object → Object) → ((o : Object) → (f o).marks ≡ o.marks) → (kind : Kind) (h g : Gfid) (t : Table) → numbers_if kind (copy_at g (changed f h (copy_at h t) t)) ≡ numbers_if kind (copy_at g t)
numbers_left f same kind h g t = ap (numbers_if kind) (copy_at-changed f h g t) ∙ split (eqb_tells h.0 g.0)
  where
    of_copy : (o : Option Object) → numbers_if kind (option_map f o) ≡ numbers_if kind o
    of_copy None = refl
    of_copy (Some o) = ap (marks_of kind) (same o)

    split : ((h.0 == g.0) ≡ true) × (h.0 ≡ g.0) ⊎ ((h.0 == g.0) ≡ false) × (h.0 ≡ g.0 → ⊥) → numbers_if kind (if h.0 == g.0 then option_map f (copy_at h t) else copy_at g t) ≡ numbers_if kind (copy_at g t)
    split (inl s) = rw s.0 (ap (λ (q : Gfid). numbers_if kind (option_map f (copy_at q t))) (gfid_is h g s.1) ∙ of_copy (copy_at g t))
    split (inr s) = rw s.0 refl

no_numbers : (kind : Kind) → marks_of kind no_marks ≡ zero_marks
no_numbers Bytes = refl
no_numbers Attrs = refl
no_numbers Names = refl

numbers_made : (kind : Kind) (h g : Gfid) (what : What) (t : Table) → numbers_if kind (copy_at g (made h what t)) ≡ numbers_if kind (copy_at g t)
numbers_made kind h g what t = ap (numbers_if kind) (copy_at-made h g what t) ∙ go (copy_at h t) refl (eqb_tells h.0 g.0)
  where
    go : (o : Option Object) → copy_at h t ≡ o → ((h.0 == g.0) ≡ true) × (h.0 ≡ g.0) ⊎ ((h.0 == g.0) ≡ false) × (h.0 ≡ g.0 → ⊥)
        → numbers_if kind (if is_some o then copy_at g t else (if h.0 == g.0 then Some (new_object what) else copy_at g t)) ≡ numbers_if kind (copy_at g t)
    go (Some o) e s = refl
    go None e (inl s) =
        let lacks : copy_at g t ≡ None = ap (λ (q : Gfid). copy_at q t) (sym (gfid_is h g s.1)) ∙ e in
        rw (s.0, lacks) (no_numbers kind)
    go None e (inr s) = rw s.0 refl

marks-with_bytes : (keeps : Bool) (f : List ℕ → List ℕ) (o : Object) → (with_bytes keeps f o).marks ≡ o.marks
marks-with_bytes keeps f o = go (keeps && is_file o.what)
  where
    go : (b : Bool) → (if b then record o { content = f o.content } else o).marks ≡ o.marks
    go true = refl
    go false = refl

marks-with_names : (f : List (NameId × Entry) → List (NameId × Entry)) (o : Object) → (with_names f o).marks ≡ o.marks
marks-with_names f o = go (is_dir o.what)
  where
    go : (b : Bool) → (if b then record o { names = f o.names } else o).marks ≡ o.marks
    go true = refl
    go false = refl

numbers_linked : (kind : Kind) (g dir : Gfid) (name : NameId) (h : Gfid) (what : What) (t : Table) → numbers_if kind (copy_at g (linked dir name h what (copy_at dir t) t)) ≡ numbers_if kind (copy_at g t)
numbers_linked kind g dir name h what t = go (copy_at dir t) refl
  where
    f : Object → Object
    f o = with_names (λ names. insert_entry name_cmp names name (record { gfid = h; what = what })) o

    go : (o : Option Object) → copy_at dir t ≡ o → numbers_if kind (copy_at g (linked dir name h what o t)) ≡ numbers_if kind (copy_at g t)
    go None e = refl
    go (Some o) e =
        let named : numbers_if kind (copy_at g (changed f dir (copy_at dir t) t)) ≡ numbers_if kind (copy_at g t) = numbers_left f (marks-with_names _) kind dir g t in
        numbers_made kind h g what (with_copy dir (f o) t) ∙ (rw e at named)

-- no change changes a number
numbers_applied : (kind : Kind) (g : Gfid) (keeps : Bool) (change : Change) (t : Table) → numbers_if kind (copy_at g (applied keeps change t)) ≡ numbers_if kind (copy_at g t)
numbers_applied kind g keeps (Write h at bytes) t = numbers_left _ (marks-with_bytes keeps _) kind h g t
numbers_applied kind g keeps (Cut h len) t = numbers_left _ (marks-with_bytes keeps _) kind h g t
numbers_applied kind g keeps (SetAttr h key value) t = numbers_left (with_attr key value) (λ o. refl) kind h g t
numbers_applied kind g keeps (Make dir name h what) t = numbers_linked kind g dir name h what t
numbers_applied kind g keeps (Remove dir name what) t = numbers_left _ (marks-with_names _) kind dir g t

pub numbers_effect : (kind : Kind) (g : Gfid) (keeps : Bool) (change : Option Change) (t : Table) → numbers_if kind (copy_at g (effect keeps change t)) ≡ numbers_if kind (copy_at g t)
numbers_effect kind g keeps None t = refl
numbers_effect kind g keeps (Some change) t = numbers_applied kind g keeps change t

-- no repair changes a number
numbers_all_made : (kind : Kind) (g : Gfid) (names : List (NameId × Entry)) (t : Table) → numbers_if kind (copy_at g (all_made names t)) ≡ numbers_if kind (copy_at g t)
numbers_all_made kind g [] t = refl
numbers_all_made kind g (x ∷ names) t = numbers_made kind x.1.gfid g x.1.what (all_made names t) ∙ numbers_all_made kind g names t

numbers_renamed : (kind : Kind) (g h : Gfid) (names : List (NameId × Entry)) (t : Table) → numbers_if kind (copy_at g (renamed names h (copy_at h t) t)) ≡ numbers_if kind (copy_at g t)
numbers_renamed kind g h names t = go (copy_at h t) refl
  where
    f : Object → Object
    f o = with_names (λ old. names) o

    go : (o : Option Object) → copy_at h t ≡ o → numbers_if kind (copy_at g (renamed names h o t)) ≡ numbers_if kind (copy_at g t)
    go None e = refl
    go (Some o) e =
        let named : numbers_if kind (copy_at g (changed f h (copy_at h t) t)) ≡ numbers_if kind (copy_at g t) = numbers_left f (marks-with_names _) kind h g t in
        numbers_all_made kind g names (with_copy h (f o) t) ∙ (rw e at named)

pub numbers_mended : (kind : Kind) (g : Gfid) (keeps : Bool) (repair : Repair) (c : Contents) (t : Table) → numbers_if kind (copy_at g (mended keeps repair c t)) ≡ numbers_if kind (copy_at g t)
numbers_mended kind g keeps (CutTo h len) c t = numbers_left _ (marks-with_bytes keeps _) kind h g t
numbers_mended kind g keeps (Copy h at span read) (contents.Bytes bytes) t = numbers_left _ (marks-with_bytes keeps _) kind h g t
numbers_mended kind g keeps (PutAttrs h read) (contents.Attrs attrs) t = numbers_left (with_attrs attrs) (λ o. refl) kind h g t
numbers_mended kind g keeps (PutNames h reads) (contents.Names names) t = numbers_renamed kind g h names t
numbers_mended kind g keeps repair c t = refl

-- ---- one line
-- whether a line counts at a brick for an object and a kind
abbrev pub counts : Plan → ℕ → Gfid → Kind → ℕ → Gfid → Kind → Bool → List Line → Bool
counts p x g kind y h k took older = took && (y == x) && (h.0 == g.0) && same_kind k kind && has_object p older g x

-- the numbers after a request that changes numbers
pub numbers_asked : (p : Plan) (x : ℕ) (g : Gfid) (kind : Kind) (y : ℕ) (h : Gfid) (k : Kind) (took : Bool) (older : List Line) (f : Marks → Marks)
    → numbers_if kind (copy_at g (if took then (if y == x then changed (with_numbers k f) h (copy_at h (holds p older x)) (holds p older x) else holds p older x) else holds p older x))
    ≡ (if counts p x g kind y h k took older then f (now_at p older x g kind) else now_at p older x g kind)
numbers_asked p x g kind y h k took older f = go took (y == x)
  where
    t : Table
    t = holds p older x

    go : (took here : Bool) → numbers_if kind (copy_at g (if took then (if here then changed (with_numbers k f) h (copy_at h (holds p older x)) (holds p older x) else holds p older x) else holds p older x))
        ≡ (if took && here && (h.0 == g.0) && same_kind k kind && has_object p older g x then f (now_at p older x g kind) else now_at p older x g kind)
    go true true = numbers_changed f k kind h g (holds p older x)
    go true false = refl
    go false here = refl

-- the numbers after a request that changes none
pub numbers_same : (kind : Kind) (g : Gfid) (took here : Bool) (new t : Table) → numbers_if kind (copy_at g new) ≡ numbers_if kind (copy_at g t)
    → numbers_if kind (copy_at g (if took then (if here then new else t) else t)) ≡ numbers_if kind (copy_at g t)
numbers_same kind g true true new t e = e
numbers_same kind g true false new t e = refl
numbers_same kind g false here new t e = refl

pub all_true : (a b c d e : Bool) → (a && b && c && d && e) ≡ true → (a ≡ true) × (b ≡ true) × (c ≡ true) × (d ≡ true) × (e ≡ true)
all_true true true true true true h = (refl, refl, refl, refl, refl)
all_true true true true true false h = absurd (cc h)
all_true true true true false e h = absurd (cc h)
all_true true true false d e h = absurd (cc h)
all_true true false c d e h = absurd (cc h)
all_true false b c d e h = absurd (cc h)

-- a fact of the copy that a line counts at is a fact of the numbers there
of_counted : (p : Plan) (x : ℕ) (g : Gfid) (kind : Kind) (y : ℕ) (h : Gfid) (k : Kind) (took : Bool) (older : List Line) (R : Marks → Type 0)
    → (took ≡ true → (o : Object) → copy_at h (holds p older y) ≡ Some o → R (marks_of k o.marks)) → counts p x g kind y h k took older ≡ true → R (now_at p older x g kind)
of_counted p x g kind y h k took older R fact counted = there (copy_at g (holds p older x)) refl parts.4
  where
    parts : (took ≡ true) × ((y == x) ≡ true) × ((h.0 == g.0) ≡ true) × (same_kind k kind ≡ true) × (has_object p older g x ≡ true)
    parts = all_true took (y == x) (h.0 == g.0) (same_kind k kind) (has_object p older g x) counted

    there : (o : Option Object) → copy_at g (holds p older x) ≡ o → is_some o ≡ true → R (numbers_if kind o)
    there None e has = absurd (cc has)
    there (Some o) e has =
        let moved : copy_at h (holds p older y) ≡ Some o =
        ap (λ (q : Gfid). copy_at q (holds p older y)) (gfid_is h g (eqb-true h.0 g.0 parts.2)) ∙ ap (λ (b : ℕ). copy_at g (holds p older b)) (eqb-true y x parts.1) ∙ e in
        subst (λ (q : Kind). R (marks_of q o.marks)) (same_kind_yes k kind parts.3) (fact parts.0 o moved)

-- the numbers before and after, by whether the line counts
pub pre_dirty : (c : Bool) (new old : Marks) → new ≡ (if c then dirtied old else old) → new.dirty + (0 + 0) ≡ old.dirty + (if c then 1 else 0)
pre_dirty true new old e = omega (arith, ap (λ (m : Marks). m.dirty) e)
pre_dirty false new old e = omega (arith, ap (λ (m : Marks). m.dirty) e)

post_dirty : (c : Bool) (missed : List ℕ) (new old : Marks) → new ≡ (if c then closed_op missed old else old) → (c ≡ true → 0 < old.dirty) → new.dirty + ((if c then 1 else 0) + 0) ≡ old.dirty + 0
post_dirty true missed new old e fits = omega (arith, ap (λ (m : Marks). m.dirty) e, fits refl)
post_dirty false missed new old e fits = omega (arith, ap (λ (m : Marks). m.dirty) e)

settle_dirty : (c : Bool) (less new old : Marks) → new ≡ (if c then taken_back less old else old) → (c ≡ true → less.dirty ≤ old.dirty) → new.dirty + (0 + (if c then less.dirty else 0)) ≡ old.dirty + 0
settle_dirty true less new old e fits = omega (arith, ap (λ (m : Marks). m.dirty) e, fits refl)
settle_dirty false less new old e fits = omega (arith, ap (λ (m : Marks). m.dirty) e)

pub same_dirty : (new old : Marks) → new ≡ old → new.dirty + (0 + 0) ≡ old.dirty + 0
same_dirty new old e = omega (arith, ap (λ (m : Marks). m.dirty) e)

pub pre_pending : (c : Bool) (at : ℕ) (new old : Marks) → new ≡ (if c then dirtied old else old) → slice_index new.pending at + 0 ≡ slice_index old.pending at + 0
pre_pending true at new old e = omega (arith, ap (λ (m : Marks). slice_index m.pending at) e)
pre_pending false at new old e = omega (arith, ap (λ (m : Marks). slice_index m.pending at) e)

pub post_pending : (c : Bool) (at : ℕ) (missed : List ℕ) (new old : Marks) → new ≡ (if c then closed_op missed old else old) → at < length old.pending
    → slice_index new.pending at + 0 ≡ slice_index old.pending at + (if c then (if member missed at then 1 else 0) else 0)
post_pending true at missed new old e small = omega (arith, ap (λ (m : Marks). slice_index m.pending at) e, pending_after missed old.pending at small)
post_pending false at missed new old e small = omega (arith, ap (λ (m : Marks). slice_index m.pending at) e)

pub settle_pending : (c : Bool) (at : ℕ) (less new old : Marks) → new ≡ (if c then taken_back less old else old) → (c ≡ true → slice_index less.pending at ≤ slice_index old.pending at)
    → slice_index new.pending at + (if c then slice_index less.pending at else 0) ≡ slice_index old.pending at + 0
settle_pending true at less new old e fits = omega (arith, ap (λ (m : Marks). slice_index m.pending at) e, fits refl, get_or-less_each old.pending less.pending at)
settle_pending false at less new old e fits = omega (arith, ap (λ (m : Marks). slice_index m.pending at) e)

pub same_pending : (at : ℕ) (new old : Marks) → new ≡ old → slice_index new.pending at + 0 ≡ slice_index old.pending at + 0
same_pending at new old e = omega (arith, ap (λ (m : Marks). slice_index m.pending at) e)

pub five_now : (p : Plan) (log : List Line) (x : ℕ) (g : Gfid) (kind : Kind) → length (now_at p log x g kind).pending ≡ 5
five_now p log x g kind = go (copy_at g (holds p log x)) refl
  where
    go : (o : Option Object) → copy_at g (holds p log x) ≡ o → length (numbers_if kind o).pending ≡ 5
    go None e = refl
    go (Some o) e = five_pending p log x g kind o e

-- what one line makes of the numbers
record LineAdds (p : Plan) (x : ℕ) (g : Gfid) (kind : Kind) (line : Line) (older : List Line) : Type 0 where
  dirty : (now_at p (line ∷ older) x g kind).dirty + (closes_op p x g kind line older + settles_dirty p x g kind line older) ≡ (now_at p older x g kind).dirty + opens_op p x g kind line older
  pending : (c : ℕ) → c < 5
      → slice_index (now_at p (line ∷ older) x g kind).pending c + settles_pending p x c g kind line older ≡ slice_index (now_at p older x g kind).pending c + blames p x c g kind line older

line_adds : (p : Plan) (x : ℕ) (g : Gfid) (kind : Kind) (line : Line) (older : List Line) → FitsSums p line older → LineAdds p x g kind line older
line_adds p x g kind (Ask a y (Pre h k) told took) older fits =
    let e = numbers_asked p x g kind y.0 h k took older dirtied in
    let c = counts p x g kind y.0 h k took older in
    record { dirty = pre_dirty c _ _ e; pending = λ at small. pre_pending c at _ _ e }
line_adds p x g kind (Ask a y (Post attempt h k missed) told took) older fits =
    let e = numbers_asked p x g kind y.0 h k took older (closed_op missed) in
    let c = counts p x g kind y.0 h k took older in
    record {
      dirty = post_dirty c missed _ _ e (of_counted p x g kind y.0 h k took older (λ m. 0 < m.dirty) fits);
      pending = λ at small. post_pending c at missed _ _ e (omega (arith, small, five_now p older x g kind));
    }
line_adds p x g kind (Ask a y (Settle h k less) told took) older fits =
    let e = numbers_asked p x g kind y.0 h k took older (taken_back less) in
    let c = counts p x g kind y.0 h k took older in
    record {
      dirty = settle_dirty c less _ _ e (of_counted p x g kind y.0 h k took older (λ m. less.dirty ≤ m.dirty) (λ carried o there. (fits carried o there).0));
      pending = λ at small. settle_pending c at less _ _ e (of_counted p x g kind y.0 h k took older (λ m. slice_index less.pending at ≤ slice_index m.pending at) (λ carried o there. (fits carried o there).1 at small));
    }
line_adds p x g kind (Ask a y (Apply attempt) told took) older fits =
    let e = numbers_same kind g took (y.0 == x) (effect (keeps_bytes p x) (change_at attempt older) (holds p older x)) (holds p older x) (numbers_effect kind g (keeps_bytes p x) (change_at attempt older) (holds p older x)) in
    record { dirty = same_dirty _ _ e; pending = λ at small. same_pending at _ _ e }
line_adds p x g kind (Ask a y (Mend repair) told took) older fits =
    let e = numbers_same kind g took (y.0 == x) (mended (keeps_bytes p x) repair (carried (held_before p older) older repair) (holds p older x)) (holds p older x) (numbers_mended kind g (keeps_bytes p x) repair (carried (held_before p older) older repair) (holds p older x)) in
    record { dirty = same_dirty _ _ e; pending = λ at small. same_pending at _ _ e }
line_adds p x g kind (Ask a y r told took) older fits =
    let e = numbers_same kind g took (y.0 == x) (holds p older x) (holds p older x) refl in
    record { dirty = same_dirty _ _ e; pending = λ at small. same_pending at _ _ e }
line_adds p x g kind line older fits = let old = now_at p older x g kind in record { dirty = same_dirty old old refl; pending = λ at small. same_pending at old old refl }

-- ---- the whole log
-- the numbers, with all that was taken from them, are all that was added
pub record AddsUp (p : Plan) (log : List Line) (x : ℕ) (g : Gfid) (kind : Kind) : Type 0 where
  pub dirty : (now_at p log x g kind).dirty + (sum_over (closes_op p x g kind) log + sum_over (settles_dirty p x g kind) log) ≡ sum_over (opens_op p x g kind) log
  pub pending : (c : ℕ) → c < 5 → slice_index (now_at p log x g kind).pending c + sum_over (settles_pending p x c g kind) log ≡ sum_over (blames p x c g kind) log

pub at_first : (p : Plan) (x : ℕ) (g : Gfid) (kind : Kind) → ((now_at p [] x g kind).dirty ≡ 0) × ((c : ℕ) → c < 5 → slice_index (now_at p [] x g kind).pending c ≡ 0)
at_first p x g kind = go (copy_at g (holds p [] x)) refl
  where
    go : (o : Option Object) → copy_at g (holds p [] x) ≡ o → ((numbers_if kind o).dirty ≡ 0) × ((c : ℕ) → c < 5 → slice_index (numbers_if kind o).pending c ≡ 0)
    go None e = (refl, λ c small. zeros c)
    go (Some o) e =
        let below = numbers_below p [] x g kind o e in
        (omega (arith, below.0), λ c small. omega (arith, below.1 c))

pub adds_up : (p : Plan) (log : List Line) → EachLine (FitsSums p) log → (x : ℕ) (g : Gfid) (kind : Kind) → AddsUp p log x g kind
adds_up p [] fits x g kind = let first = at_first p x g kind in record { dirty = omega (arith, first.0); pending = λ c small. omega (arith, first.1 c small) }
adds_up p (line ∷ older) fits x g kind =
    let before = adds_up p older fits.1 x g kind in
    let adds = line_adds p x g kind line older fits.0 in
    record { dirty = omega (arith, adds.dirty, before.dirty); pending = λ c small. omega (arith, adds.pending c small, before.pending c small) }

-- the numbers at a brick are the sums, which are 0 where it lacks the object
pub numbers_now : (p : Plan) (log : List Line) → EachLine (FitsSums p) log → (x : ℕ) (g : Gfid) (kind : Kind)
    → ((now_at p log x g kind).dirty ≡ dirty_of p log x g kind) × ((c : ℕ) → c < 5 → slice_index (now_at p log x g kind).pending c ≡ pending_of p log x c g kind)
numbers_now p log fits x g kind = let sums = adds_up p log fits x g kind in (omega (arith, sums.dirty), λ c small. omega (arith, sums.pending c small))

-- the numbers of a copy are the sums
pub numbers_are_sums : (p : Plan) (log : List Line) → EachLine (FitsSums p) log → (x : ℕ) (g : Gfid) (kind : Kind) (o : Object) → copy_at g (holds p log x) ≡ Some o
    → ((marks_of kind o.marks).dirty ≡ dirty_of p log x g kind) × ((c : ℕ) → c < 5 → slice_index (marks_of kind o.marks).pending c ≡ pending_of p log x c g kind)
numbers_are_sums p log fits x g kind o e = rw e at (numbers_now p log fits x g kind)

-- where a brick lacks the object, the sums are 0
pub sums_of_absent : (p : Plan) (log : List Line) → EachLine (FitsSums p) log → (x : ℕ) (g : Gfid) (kind : Kind) → copy_at g (holds p log x) ≡ None
    → (dirty_of p log x g kind ≡ 0) × ((c : ℕ) → c < 5 → pending_of p log x c g kind ≡ 0)
sums_of_absent p log fits x g kind e =
    let sums : (zero_marks.dirty ≡ dirty_of p log x g kind) × ((c : ℕ) → c < 5 → slice_index zero_marks.pending c ≡ pending_of p log x c g kind) = rw e at (numbers_now p log fits x g kind) in
    (sym sums.0, λ c small. sym (sums.1 c small) ∙ zeros c)
