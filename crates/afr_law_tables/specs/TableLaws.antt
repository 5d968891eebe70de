-- What holds of every copy after a log: it stays, and its numbers are no more than the lines.
use Rattle.std.proofs.Common.{◌≡◌, ℕ, zero, suc, ◌+◌, ◌≤◌, ◌==◌, Bool, true, false, cond, List, [], ◌∷◌, refl, ◌∙◌, subst, arith, length, Option, Some, None, get_or, if◌then◌else◌, ◌&&◌}
use Rattle.std.specs.Prelude.{is_some, slice_index}
use Rattle.std.specs.BTreeMap.{is_at, insert_entry}
use Rattle.afr_base.specs.Bricks.{member}
use Rattle.afr_base.specs.Marks.{zero_marks, no_marks, marks_of, with_marks, dirtied, closed_op, taken_back, plus_missed}
use Rattle.afr_base.specs.MarksLemmas.{get_or-less_each, length-less_each, length-plus_missed}
use Rattle.afr_base.specs.declared.ids.Gfid.{Gfid}
use Rattle.afr_base.specs.declared.ids.Kind.{Kind}
use Rattle.afr_base.specs.declared.ids.Kind.TheVariants.{Bytes, Attrs, Names}
use Rattle.afr_base.specs.declared.ids.NameId.{NameId}
use Rattle.afr_base.specs.declared.ids.What.{What}
use Rattle.afr_base.specs.declared.ids.What.TheVariants.{File, Dir}
use Rattle.afr_base.specs.declared.marks.Marks.{Marks}
use Rattle.afr_base.specs.declared.marks.AllMarks.{AllMarks}
use Rattle.afr_object.specs.Repairs.{Contents, mended}
use Rattle.afr_object.specs.Tables.{Table, copy_at, changed, with_copy, linked, applied, opening, opening_gfid, root, gfid_cmp, name_cmp, new_object, with_bytes, with_attr, with_names, with_numbers, is_file, is_dir}
use Rattle.afr_object.specs.declared.change.Change.{Change}
use Rattle.afr_object.specs.declared.change.Change.TheVariants.{Write, Cut, SetAttr, Make, Remove}
use Rattle.afr_object.specs.declared.change.Repair.{Repair}
use Rattle.afr_object.specs.declared.entry.Entry.{Entry}
use Rattle.afr_object.specs.Object.{Object}
use Rattle.afr_lines.specs.Log.{change_at}
use Rattle.afr_lines.specs.declared.line.Line.{Line}
use Rattle.afr_lines.specs.declared.line.Line.TheVariants.{Ask}
use Rattle.afr_lines.specs.declared.request.Request.{Request}
use Rattle.afr_lines.specs.declared.request.Request.TheVariants.{Apply, Mend, Pre, Post, Settle}
use Rattle.afr_plan.specs.declared.plan.Plan.{Plan}
use Rattle.afr_model.specs.Tables.{Past, keeps_bytes, effect, carried, asked, step, holds, held_before}
use Rattle.afr_law_tables.specs.CopyLaws.{HasAll, EachCopy, stays_changed, stays_made, some_is, each_changed, each_made}
use Rattle.afr_law_tables.specs.RepairLaws.{stays_mended, each_mended}

-- ---- an object never goes
stays_linked : (dir : Gfid) (name : NameId) (g : Gfid) (what : What) (t : Table) → HasAll t (linked dir name g what (copy_at dir t) t)
stays_linked dir name g what t = go (copy_at dir t) refl
  where
    go : (o : Option Object) → copy_at dir t ≡ o → HasAll t (linked dir name g what o t)
    go None e q h = h
    go (Some o) e q h =
        let f : Object → Object = with_names (λ names. insert_entry name_cmp names name (record { gfid = g; what = what })) in
        let kept = stays_changed f dir t q h in
        stays_made g what (with_copy dir (f o) t) q (rw e at kept)

-- an object stays through every change
pub stays_applied : (keeps : Bool) (change : Change) (t : Table) → HasAll t (applied keeps change t)
stays_applied keeps (Write g at bytes) t = stays_changed _ g t
stays_applied keeps (Cut g len) t = stays_changed _ g t
stays_applied keeps (SetAttr g key value) t = stays_changed _ g t
stays_applied keeps (Make dir name g what) t = stays_linked dir name g what t
stays_applied keeps (Remove dir name what) t = stays_changed _ dir t

stays_effect : (keeps : Bool) (change : Option Change) (t : Table) → HasAll t (effect keeps change t)
stays_effect keeps None t q h = h
stays_effect keeps (Some change) t q h = stays_applied keeps change t q h

-- an object stays through every request
pub stays_asked : (keeps : Bool) (r : Request) (older : List Line) (past : Past) (t : Table) → HasAll t (asked keeps r older past t)
stays_asked keeps (Apply attempt) older past t q h = stays_effect keeps (change_at attempt older) t q h
stays_asked keeps (Mend repair) older past t q h = stays_mended keeps repair (carried past older repair) t q h
stays_asked keeps (Pre g kind) older past t q h = stays_changed _ g t q h
stays_asked keeps (Post attempt g kind missed) older past t q h = stays_changed _ g t q h
stays_asked keeps (Settle g kind less) older past t q h = stays_changed _ g t q h
stays_asked keeps r older past t q h = h

-- an object stays through every line
pub stays_step : (p : Plan) (line : Line) (b : ℕ) (older : List Line) (past : Past) (t : Table) → HasAll t (step p line b older past t)
stays_step p (Ask a y r told took) b older past t q h = go took (y.0 == b)
  where
    go : (f here : Bool) → is_some (copy_at q (if f then (if here then asked (keeps_bytes p b) r older past t else t) else t)) ≡ true
    go true true = stays_asked (keeps_bytes p b) r older past t q h
    go true false = h
    go false here = h
stays_step p line b older past t q h = h

pub copy_stays : (p : Plan) (line : Line) (log : List Line) (b : ℕ) (g : Gfid) → is_some (copy_at g (holds p log b)) ≡ true → is_some (copy_at g (holds p (line ∷ log) b)) ≡ true
copy_stays p line log b g h = stays_step p line b log (held_before p log) (holds p log b) g h

-- ---- what holds of every copy
each_linked : (P : Object → Type 0) (dir : Gfid) (name : NameId) (g : Gfid) (what : What) → P (new_object what)
    → ((o : Object) → P o → P (with_names (λ names. insert_entry name_cmp names name (record { gfid = g; what = what })) o)) → (t : Table) → EachCopy P t
    → EachCopy P (linked dir name g what (copy_at dir t) t)
each_linked P dir name g what new named t all = go (copy_at dir t) refl
  where
    f : Object → Object
    f o = with_names (λ names. insert_entry name_cmp names name (record { gfid = g; what = what })) o

    go : (o : Option Object) → copy_at dir t ≡ o → EachCopy P (linked dir name g what o t)
    go None e = all
    go (Some o) e =
        let kept : EachCopy P (changed f dir (copy_at dir t) t) = each_changed P P f named (λ o h. h) dir t all in
        each_made P g what (with_copy dir (f o) t) new (rw e at kept)

-- ---- the numbers
-- a fact of numbers after so many lines that holds at the start, and that each line keeps
pub record IsKeptByLines (R : ℕ → Marks → Type 0) : Type 0 where
  pub zeros : (n : ℕ) → R n zero_marks
  pub later : (n : ℕ) (m : Marks) → R n m → R (suc n) m
  pub dirty : (n : ℕ) (m : Marks) → R n m → R (suc n) (dirtied m)
  pub closed : (n : ℕ) (missed : List ℕ) (m : Marks) → R n m → R (suc n) (closed_op missed m)
  pub taken : (n : ℕ) (less m : Marks) → R n m → R (suc n) (taken_back less m)

-- it holds of the copy's numbers of each kind
abbrev pub HasEach : (Marks → Type 0) → Object → Type 0
HasEach R o = (kind : Kind) → R (marks_of kind o.marks)

-- a fact of the numbers of each kind, where those of one kind were replaced
pub each_kind : (R : Marks → Type 0) (kind : Kind) (new : Marks) (all : AllMarks) → R new → ((k : Kind) → R (marks_of k all)) → (k : Kind) → R (marks_of k (with_marks kind new all))
each_kind R Bytes new all h others Bytes = h
each_kind R Bytes new all h others Attrs = others Attrs
each_kind R Bytes new all h others Names = others Names
each_kind R Attrs new all h others Bytes = others Bytes
each_kind R Attrs new all h others Attrs = h
each_kind R Attrs new all h others Names = others Names
each_kind R Names new all h others Bytes = others Bytes
each_kind R Names new all h others Attrs = others Attrs
each_kind R Names new all h others Names = h

-- numbers that nothing has happened to
fresh_numbers : (R : Marks → Type 0) → R zero_marks → (kind : Kind) → R (marks_of kind no_marks)
fresh_numbers R h Bytes = h
fresh_numbers R h Attrs = h
fresh_numbers R h Names = h

bytes_keep : (R : Marks → Type 0) (keeps : Bool) (f : List ℕ → List ℕ) (o : Object) → HasEach R o → HasEach R (with_bytes keeps f o)
bytes_keep R keeps f o h = go (keeps && is_file o.what)
  where
    go : (b : Bool) → HasEach R (if b then record o { content = f o.content } else o)
    go true = h
    go false = h

names_keep : (R : Marks → Type 0) (f : List (NameId × Entry) → List (NameId × Entry)) (o : Object) → HasEach R o → HasEach R (with_names f o)
names_keep R f o h = go (is_dir o.what)
  where
    go : (b : Bool) → HasEach R (if b then record o { names = f o.names } else o)
    go true = h
    go false = h

-- a change changes no number
applied_keeps : (R : Marks → Type 0) → R zero_marks → (keeps : Bool) (change : Change) (t : Table) → EachCopy (HasEach R) t → EachCopy (HasEach R) (applied keeps change t)
applied_keeps R zeros keeps (Write g at bytes) t all = each_changed (HasEach R) (HasEach R) _ (bytes_keep R keeps _) (λ o h. h) g t all
applied_keeps R zeros keeps (Cut g len) t all = each_changed (HasEach R) (HasEach R) _ (bytes_keep R keeps _) (λ o h. h) g t all
applied_keeps R zeros keeps (SetAttr g key value) t all = each_changed (HasEach R) (HasEach R) (with_attr key value) (λ o h. h) (λ o h. h) g t all
applied_keeps R zeros keeps (Make dir name g what) t all = each_linked (HasEach R) dir name g what (fresh_numbers R zeros) (names_keep R _) t all
applied_keeps R zeros keeps (Remove dir name what) t all = each_changed (HasEach R) (HasEach R) _ (names_keep R _) (λ o h. h) dir t all

-- a repair changes no number
mended_keeps : (R : Marks → Type 0) → R zero_marks → (keeps : Bool) (repair : Repair) (contents : Contents) (t : Table) → EachCopy (HasEach R) t → EachCopy (HasEach R) (mended keeps repair contents t)
mended_keeps R zeros keeps repair contents t all =
    each_mended (HasEach R) (λ what. fresh_numbers R zeros) (bytes_keep R) (λ attrs o h. h) contents (λ names e o h. names_keep R (λ old. names) o h) keeps repair t all

-- a fact of every copy at the start
each_root : (P : Object → Type 0) → P (new_object Dir) → EachCopy P (opening 0)
each_root P dir g o h = go (is_at (gfid_cmp g) root) h
  where
    go : (f : Bool) → cond f (Some (new_object Dir)) None ≡ Some o → P o
    go true e = subst P (some_is (new_object Dir) o e) dir
    go false e = absurd (cc e)

pub each_opening : (P : Object → Type 0) → P (new_object Dir) → P (new_object File)
    → ((i : ℕ) (o : Object) → P o → P (with_names (λ names. insert_entry name_cmp names (record { 0 = i }) (record { gfid = opening_gfid (suc i); what = File })) o)) → (files : ℕ) → EachCopy P (opening files)
each_opening P dir file named zero = each_root P dir
each_opening P dir file named (suc i) = each_linked P root (record { 0 = i }) (opening_gfid (suc i)) File file (named i) (opening i) (each_opening P dir file named i)

module _ (R : ℕ → Marks → Type 0) (laws : IsKeptByLines R) where
  later_each : (n : ℕ) (t : Table) → EachCopy (HasEach (R n)) t → EachCopy (HasEach (R (suc n))) t
  later_each n t all g o h kind = laws.later n (marks_of kind o.marks) (all g o h kind)

  numbers_keep : (n : ℕ) (kind : Kind) (f : Marks → Marks) → ((m : Marks) → R n m → R (suc n) (f m)) → (g : Gfid) (t : Table) → EachCopy (HasEach (R n)) t
      → EachCopy (HasEach (R (suc n))) (changed (with_numbers kind f) g (copy_at g t) t)
  numbers_keep n kind f new g t all = each_changed (HasEach (R n)) (HasEach (R (suc n))) (with_numbers kind f) there (λ o h k. laws.later n (marks_of k o.marks) (h k)) g t all
    where
      there : (o : Object) → HasEach (R n) o → HasEach (R (suc n)) (with_numbers kind f o)
      there o h = each_kind (R (suc n)) kind (f (marks_of kind o.marks)) o.marks (new (marks_of kind o.marks) (h kind)) (λ k. laws.later n (marks_of k o.marks) (h k))

  asked_keeps : (n : ℕ) (keeps : Bool) (r : Request) (older : List Line) (past : Past) (t : Table) → EachCopy (HasEach (R n)) t → EachCopy (HasEach (R (suc n))) (asked keeps r older past t)
  asked_keeps n keeps (Apply attempt) older past t all = go (change_at attempt older) (later_each n t all)
    where
      go : (change : Option Change) → EachCopy (HasEach (R (suc n))) t → EachCopy (HasEach (R (suc n))) (effect keeps change t)
      go None more = more
      go (Some change) more = applied_keeps (R (suc n)) (laws.zeros (suc n)) keeps change t more
  asked_keeps n keeps (Mend repair) older past t all = mended_keeps (R (suc n)) (laws.zeros (suc n)) keeps repair (carried past older repair) t (later_each n t all)
  asked_keeps n keeps (Pre g kind) older past t all = numbers_keep n kind dirtied (laws.dirty n) g t all
  asked_keeps n keeps (Post attempt g kind missed) older past t all = numbers_keep n kind (closed_op missed) (laws.closed n missed) g t all
  asked_keeps n keeps (Settle g kind less) older past t all = numbers_keep n kind (taken_back less) (laws.taken n less) g t all
  asked_keeps n keeps r older past t all = later_each n t all

  step_keeps : (n : ℕ) (p : Plan) (line : Line) (b : ℕ) (older : List Line) (past : Past) (t : Table) → EachCopy (HasEach (R n)) t → EachCopy (HasEach (R (suc n))) (step p line b older past t)
  step_keeps n p (Ask a y r told took) b older past t all = go took (y.0 == b) (asked_keeps n (keeps_bytes p b) r older past t all) (later_each n t all)
    where
      go : (f here : Bool) → EachCopy (HasEach (R (suc n))) (asked (keeps_bytes p b) r older past t) → EachCopy (HasEach (R (suc n))) t
          → EachCopy (HasEach (R (suc n))) (if f then (if here then asked (keeps_bytes p b) r older past t else t) else t)
      go true true new old = new
      go true false new old = old
      go false here new old = old
  step_keeps n p line b older past t all = later_each n t all

  -- such a fact holds of the numbers of every copy
  pub all_kept : (p : Plan) (log : List Line) (b : ℕ) → EachCopy (HasEach (R (length log))) (holds p log b)
  all_kept p [] b = each_opening (HasEach (R 0)) (fresh_numbers (R 0) (laws.zeros 0)) (fresh_numbers (R 0) (laws.zeros 0)) (λ i. names_keep (R 0) _) p.files
  all_kept p (line ∷ older) b = step_keeps (length older) p line b older (held_before p older) (holds p older b) (all_kept p older b)

-- each number is at most n
abbrev pub AreAtMost : ℕ → Marks → Type 0
AreAtMost n marks = (marks.dirty ≤ n) × ((c : ℕ) → slice_index marks.pending c ≤ n)

-- a number that nothing has happened to
pub zeros : (c : ℕ) → slice_index zero_marks.pending c ≡ 0
zeros zero = refl
zeros (suc zero) = refl
zeros (suc (suc zero)) = refl
zeros (suc (suc (suc zero))) = refl
zeros (suc (suc (suc (suc zero)))) = refl
zeros (suc (suc (suc (suc (suc c))))) = refl

plus_at_most : (k : ℕ) (missed ns : List ℕ) (c : ℕ) → get_or (plus_missed k missed ns) c 0 ≤ get_or ns c 0 + 1
plus_at_most k missed [] c = omega arith
plus_at_most k missed (n ∷ ns) zero = go (member missed k)
  where
    go : (f : Bool) → n + (if f then 1 else 0) ≤ n + 1
    go true = omega arith
    go false = omega arith
plus_at_most k missed (n ∷ ns) (suc c) = plus_at_most (suc k) missed ns c

at_most : IsKeptByLines AreAtMost
at_most = record {
  zeros = λ n. (omega arith, λ c. omega (arith, zeros c));
  later = λ n m h. (omega (arith, h.0), λ c. omega (arith, h.1 c));
  dirty = λ n m h. (omega (arith, h.0), λ c. omega (arith, h.1 c));
  closed = λ n missed m h. (omega (arith, h.0), λ c. omega (arith, h.1 c, plus_at_most 0 missed m.pending c));
  taken = λ n less m h. (omega (arith, h.0), λ c. omega (arith, h.1 c, get_or-less_each m.pending less.pending c));
}

-- no number is above the count of the lines
pub numbers_below : (p : Plan) (log : List Line) (b : ℕ) (g : Gfid) (kind : Kind) (o : Object) → copy_at g (holds p log b) ≡ Some o
    → ((marks_of kind o.marks).dirty ≤ length log) × ((c : ℕ) → slice_index (marks_of kind o.marks).pending c ≤ length log)
numbers_below p log b g kind o h = all_kept AreAtMost at_most p log b g o h kind

-- a number against each of five bricks
five : IsKeptByLines (λ n m. length m.pending ≡ 5)
five = record {
  zeros = λ n. refl;
  later = λ n m h. h;
  dirty = λ n m h. h;
  closed = λ n missed m h. length-plus_missed 0 missed m.pending ∙ h;
  taken = λ n less m h. length-less_each m.pending less.pending ∙ h;
}

pub five_pending : (p : Plan) (log : List Line) (b : ℕ) (g : Gfid) (kind : Kind) (o : Object) → copy_at g (holds p log b) ≡ Some o → length (marks_of kind o.marks).pending ≡ 5
five_pending p log b g kind o h = all_kept (λ n m. length m.pending ≡ 5) five p log b g o h kind
