-- A line leaves the copies as they are of each object that it doesn't touch.
use Rattle.std.proofs.Common.{◌≡◌, ◌∙◌, ◌⊎◌, inl, inr, ℕ, suc, ◌==◌, ◌||◌, Bool, true, false, List, [], ◌∷◌, ◌++◌, Option, Some, None, slice_get, refl, sym, ap, subst, cond, take, if◌then◌else◌}
use Rattle.std.specs.Prelude.{is_some}
use Rattle.std.specs.BTreeMap.{insert_entry, is_at}
use Rattle.std.specs.List.{list_any}
use Rattle.std.specs.Map.{lookup, remove_entry}
use Rattle.std.specs.Ordering.{match_ordering}
use Rattle.std.specs.declared.cmp.Ordering.{Ordering}
use Rattle.std.specs.declared.cmp.Ordering.TheVariants.{Less, Equal, Greater}
use Rattle.std.proofs.lemmas.Bool.{eqb-true, or_right, or_parts, or_cases}
use Rattle.afr_base.specs.declared.ids.Gfid.{Gfid}
use Rattle.afr_base.specs.declared.ids.NameId.{NameId}
use Rattle.afr_base.specs.declared.ids.What.{What}
use Rattle.afr_object.specs.Bytes.{copied_in, written}
use Rattle.afr_object.specs.Object.{Object}
use Rattle.afr_object.specs.Repairs.{all_made, higher, mended, merged, merged_into, outranks, renamed, repaired, with_attrs}
use Rattle.afr_object.specs.Tables.{Table, applied, changed, copy_at, linked, made, name_cmp, new_object, object_of, with_attr, with_bytes, with_copy, with_names}
use Rattle.afr_object.specs.TablesLemmas.{copy_at-changed, copy_at-made}
use Rattle.afr_object.specs.declared.change.Change.{Change}
use Rattle.afr_object.specs.declared.change.Change.TheVariants.{Write, Cut, SetAttr, Make, Remove}
use Rattle.afr_object.specs.declared.change.Repair.{Repair}
use Rattle.afr_object.specs.declared.change.Repair.TheVariants as repair
use Rattle.afr_object.specs.declared.entry.Entry.{Entry}
use Rattle.afr_lines.specs.Log.{change_at, from_oldest}
use Rattle.afr_lines.specs.declared.line.Line.{Line}
use Rattle.afr_lines.specs.declared.line.Line.TheVariants.{Ask}
use Rattle.afr_lines.specs.declared.request.Request.{Request}
use Rattle.afr_lines.specs.declared.request.Request.TheVariants.{Apply, Mend}
use Rattle.afr_plan.specs.declared.plan.Plan.{Plan}
use Rattle.afr_model.specs.Sums.{has_object}
use Rattle.afr_model.specs.Tables.{all_names_shown, attrs_shown, bytes_shown, carried, effect, held_before, holds, keeps_bytes, names_shown}
use Rattle.afr_trace_safe.specs.Touched.{all_lacked, all_read_objects, asked_objects, changed_objects, lacked, made_objects, named_objects, touched}
use Rattle.afr_trace_tables.specs.Plain.{plain_tables, plainly_asked}
use Rattle.afr_trace_tables.proofs.BareLaws.{copy_bare, there_bare}
use Rattle.afr_trace_tables.proofs.PlainLaws.{now_bare}
use Rattle.afr_trace_tally.proofs.TableLemmas.{names_past}

-- ---- lists of objects
abbrev pub lists : List Gfid → ℕ → Bool
lists xs n = list_any (λ x. x.0 == n) xs

pub in_neither : (xs ys : List Gfid) (n : ℕ) → lists (xs ++ ys) n ≡ false → (lists xs n ≡ false) × (lists ys n ≡ false)
in_neither [] ys n h = (refl, h)
in_neither (x ∷ xs) ys n h =
    let s = or_parts (x.0 == n) (lists (xs ++ ys) n) h in
    let more = in_neither xs ys n s.1 in
    (rw s.0 more.0, more.1)

-- what is listed stands at some place
pub listed_at : (xs : List Gfid) (n : ℕ) → lists xs n ≡ true → (j : ℕ) × (g : Gfid) × (slice_get xs j ≡ Some g) × (g.0 ≡ n)
listed_at [] n h = absurd (cc h)
listed_at (x ∷ xs) n h = by (x.0 == n) refl h (listed_at xs n)
  where
    by : (f : Bool) → (x.0 == n) ≡ f → (f || lists xs n) ≡ true → (lists xs n ≡ true → (j : ℕ) × (g : Gfid) × (slice_get xs j ≡ Some g) × (g.0 ≡ n)) → (j : ℕ) × (g : Gfid) × (slice_get (x ∷ xs) j ≡ Some g) × (g.0 ≡ n)
    by true e k more = (0, x, refl, eqb-true x.0 n e)
    by false e k more = let r = more k in (suc r.0, r.1, r.2, r.3)

-- ---- what a brick has
pub has_plain : (p : Plan) (log : List Line) (g : Gfid) (b : ℕ) → is_some (copy_at g ((plain_tables p log).now b)) ≡ has_object p log g b
has_plain p log g b = ap (λ (t : Table). is_some (copy_at g t)) (now_bare p log b) ∙ ap (λ (o : Option Object). is_some o) (copy_bare g (holds p log b)) ∙ there_bare (copy_at g (holds p log b))

abbrev gfid_by : ℕ → Gfid
gfid_by n = record { 0 = n }

pub gfid_is : (f g : Gfid) → (f.0 == g.0) ≡ true → f ≡ g
gfid_is f g h = ap (λ (n : ℕ). gfid_by n) (eqb-true f.0 g.0 h)

-- an object that isn't listed as one that the brick lacks, it has
lacked_held : (p : Plan) (log : List Line) (b : ℕ) (f g : Gfid) → (f.0 == g.0) ≡ true → lists (lacked p log b f) g.0 ≡ false → has_object p log g b ≡ true
lacked_held p log b f g same h = sym (ap (λ (q : Gfid). has_object p log q b) (gfid_is f g same)) ∙ by (has_object p log f b) refl h
  where
    by : (t : Bool) → has_object p log f b ≡ t → lists (if t then [] else f ∷ []) g.0 ≡ false → t ≡ true
    by true e k = refl
    by false e k = let s = or_parts (f.0 == g.0) false k in absurd (cc (s.0, same))

-- ---- one copy changed, one object made
other_stays : (f : Object → Object) (h g : Gfid) (t : Table) → (h.0 == g.0) ≡ false → copy_at g (changed f h (copy_at h t) t) ≡ copy_at g t
other_stays f h g t other = copy_at-changed f h g t ∙ rw other refl

made_stays : (f g : Gfid) (what : What) (new t : Table) → copy_at g new ≡ copy_at g t → ((f.0 == g.0) ≡ true → is_some (copy_at g t) ≡ true) → copy_at g (made f what new) ≡ copy_at g t
made_stays f g what new t same held = copy_at-made f g what new ∙ by (is_some (copy_at f new)) refl (f.0 == g.0) refl
  where
    by : (there : Bool) → is_some (copy_at f new) ≡ there → (here : Bool) → (f.0 == g.0) ≡ here → (if there then copy_at g new else (if here then Some (new_object what) else copy_at g new)) ≡ copy_at g t
    by true e here h = same
    by false e false h = same
    by false e true h =
        let there : is_some (copy_at f new) ≡ true = ap (λ (q : Gfid). is_some (copy_at q new)) (gfid_is f g h) ∙ ap (λ (o : Option Object). is_some o) same ∙ held h in
        absurd (cc (e, there))

-- ---- names
abbrev leads : List (NameId × Entry) → ℕ → Bool
leads names n = list_any (λ x. x.1.gfid.0 == n) names

all_made_stays : (names : List (NameId × Entry)) (g : Gfid) (new t : Table) → copy_at g new ≡ copy_at g t → (leads names g.0 ≡ true → is_some (copy_at g t) ≡ true) → copy_at g (all_made names new) ≡ copy_at g t
all_made_stays [] g new t same held = same
all_made_stays (x ∷ names) g new t same held =
    made_stays x.1.gfid g x.1.what (all_made names new) t (all_made_stays names g new t same (λ k. held (or_right (x.1.gfid.0 == g.0) (leads names g.0) k))) (λ k. held (first k))
  where
    first : (x.1.gfid.0 == g.0) ≡ true → ((x.1.gfid.0 == g.0) || leads names g.0) ≡ true
    first k = rw k refl

inserted_leads : (t : List (NameId × Entry)) (name : NameId) (e : Entry) (n : ℕ) → leads (insert_entry name_cmp t name e) n ≡ true → ((e.gfid.0 == n) ≡ true) ⊎ (leads t n ≡ true)
inserted_leads [] name e n h = or_cases (e.gfid.0 == n) false h
inserted_leads (x ∷ t) name e n h = by (name_cmp name x.0) h (inserted_leads t name e n)
  where
    by : (c : Ordering) → leads (match_ordering c ((name, e) ∷ x ∷ t) ((x.0, e) ∷ t) (x ∷ insert_entry name_cmp t name e)) n ≡ true
        → (leads (insert_entry name_cmp t name e) n ≡ true → ((e.gfid.0 == n) ≡ true) ⊎ (leads t n ≡ true)) → ((e.gfid.0 == n) ≡ true) ⊎ (leads (x ∷ t) n ≡ true)
    by Less k more = or_cases (e.gfid.0 == n) (leads (x ∷ t) n) k
    by Equal k more = elim (or_cases (e.gfid.0 == n) (leads t n) k) as (λ _. ((e.gfid.0 == n) ≡ true) ⊎ (leads (x ∷ t) n ≡ true)) [ inl s ↦ inl s | inr s ↦ inr (or_right (x.1.gfid.0 == n) (leads t n) s) ]
    by Greater k more = split (x.1.gfid.0 == n) k
      where
        later : (f : Bool) → ((e.gfid.0 == n) ≡ true) ⊎ (leads t n ≡ true) → ((e.gfid.0 == n) ≡ true) ⊎ ((f || leads t n) ≡ true)
        later f (inl s) = inl s
        later f (inr s) = inr (or_right f (leads t n) s)

        split : (f : Bool) → (f || leads (insert_entry name_cmp t name e) n) ≡ true → ((e.gfid.0 == n) ≡ true) ⊎ ((f || leads t n) ≡ true)
        split true m = inr refl
        split false m = later false (more m)

looked_leads : (test : NameId → Bool) (t : List (NameId × Entry)) (e : Entry) (n : ℕ) → lookup test t ≡ Some e → (e.gfid.0 == n) ≡ true → leads t n ≡ true
looked_leads test [] e n h k = absurd (cc h)
looked_leads test (x ∷ t) e n h k = by (test x.0) h (λ m. looked_leads test t e n m k)
  where
    by : (f : Bool) → cond f (Some x.1) (lookup test t) ≡ Some e → (lookup test t ≡ Some e → leads t n ≡ true) → ((x.1.gfid.0 == n) || leads t n) ≡ true
    by true m more = let same : (x.1.gfid.0 == n) ≡ true = ap (λ (y : Entry). y.gfid.0 == n) (some_same x.1 e m) ∙ k in rw same refl
      where
        some_same : (a c : Entry) → Some a ≡ Some c → a ≡ c
        some_same a c r = cc r
    by false m more = or_right (x.1.gfid.0 == n) (leads t n) (more m)

higher_leads : (e : Entry) (o : Option Entry) (n : ℕ) → ((higher e o).gfid.0 == n) ≡ true → ((e.gfid.0 == n) ≡ true) ⊎ ((f : Entry) × (o ≡ Some f) × ((f.gfid.0 == n) ≡ true))
higher_leads e None n h = inl h
higher_leads e (Some f) n h = by (outranks e f) h
  where
    by : (t : Bool) → ((if t then e else f).gfid.0 == n) ≡ true → ((e.gfid.0 == n) ≡ true) ⊎ ((g : Entry) × (Some f ≡ Some g) × ((g.gfid.0 == n) ≡ true))
    by true k = inl k
    by false k = inr (f, refl, k)

one_merged : (x : NameId × Entry) (names was old : List (NameId × Entry)) (n : ℕ) → (leads was n ≡ true → (leads names n ≡ true) ⊎ (leads old n ≡ true))
    → leads (insert_entry name_cmp was x.0 (higher x.1 (lookup (is_at (name_cmp x.0)) was))) n ≡ true → (leads (x ∷ names) n ≡ true) ⊎ (leads old n ≡ true)
one_merged x names was old n more h = by (inserted_leads was x.0 (higher x.1 (lookup (is_at (name_cmp x.0)) was)) n h)
  where
    later : (leads names n ≡ true) ⊎ (leads old n ≡ true) → (leads (x ∷ names) n ≡ true) ⊎ (leads old n ≡ true)
    later (inl s) = inl (or_right (x.1.gfid.0 == n) (leads names n) s)
    later (inr s) = inr s

    here : (x.1.gfid.0 == n) ≡ true → leads (x ∷ names) n ≡ true
    here s = rw s refl

    by_higher : ((x.1.gfid.0 == n) ≡ true) ⊎ ((f : Entry) × (lookup (is_at (name_cmp x.0)) was ≡ Some f) × ((f.gfid.0 == n) ≡ true)) → (leads (x ∷ names) n ≡ true) ⊎ (leads old n ≡ true)
    by_higher (inl s) = inl (here s)
    by_higher (inr s) = later (more (looked_leads (is_at (name_cmp x.0)) was s.0 n s.1 s.2))

    by : (((higher x.1 (lookup (is_at (name_cmp x.0)) was)).gfid.0 == n) ≡ true) ⊎ (leads was n ≡ true) → (leads (x ∷ names) n ≡ true) ⊎ (leads old n ≡ true)
    by (inl s) = by_higher (higher_leads x.1 (lookup (is_at (name_cmp x.0)) was) n s)
    by (inr s) = later (more s)

merged_into_leads : (old names : List (NameId × Entry)) (n : ℕ) → leads (merged_into old names) n ≡ true → (leads names n ≡ true) ⊎ (leads old n ≡ true)
merged_into_leads old [] n h = inr h
merged_into_leads old (x ∷ names) n h = one_merged x names (merged_into old names) old n (λ k. merged_into_leads old names n k) h

-- ---- what names lead to that a repair brings
named_held : (p : Plan) (log : List Line) (b : ℕ) (g : Gfid) (names : List (NameId × Entry)) → lists (all_lacked p log b names) g.0 ≡ false → leads names g.0 ≡ true → has_object p log g b ≡ true
named_held p log b g [] h k = absurd (cc k)
named_held p log b g (x ∷ names) h k =
    let s = in_neither (lacked p log b x.1.gfid) (all_lacked p log b names) g.0 h in
    elim (or_cases (x.1.gfid.0 == g.0) (leads names g.0) k) as (λ _. has_object p log g b ≡ true) [ inl m ↦ lacked_held p log b x.1.gfid g m s.0 | inr m ↦ named_held p log b g names s.1 m ]

brought_held : (p : Plan) (log : List Line) (b : ℕ) (g : Gfid) (reads : List (Option ℕ)) → lists (all_read_objects p log b reads) g.0 ≡ false → leads (merged (all_names_shown (plain_tables p log).past log reads)) g.0 ≡ true
    → has_object p log g b ≡ true
brought_held p log b g [] h k = absurd (cc k)
brought_held p log b g (None ∷ reads) h k = brought_held p log b g reads h k
brought_held p log b g (Some r ∷ reads) h k =
    let s = in_neither (all_lacked p log b (names_shown (held_before p log) r (from_oldest r log))) (all_read_objects p log b reads) g.0 h in
    let m = merged_into_leads (merged (all_names_shown (plain_tables p log).past log reads)) (names_shown (plain_tables p log).past r (from_oldest r log)) g.0 k in
    elim m as (λ _. has_object p log g b ≡ true) [
      | inl n ↦ named_held p log b g (names_shown (held_before p log) r (from_oldest r log)) s.0 (ap (λ (names : List (NameId × Entry)). leads names g.0) (sym (names_past p log r)) ∙ n)
      | inr n ↦ brought_held p log b g reads s.1 n
    ]

-- ---- changes
named_stays : (f : List (NameId × Entry) → List (NameId × Entry)) (dir g : Gfid) (o : Object) (t : Table) → copy_at dir t ≡ Some o → (dir.0 == g.0) ≡ false → copy_at g (with_copy dir (with_names f o) t) ≡ copy_at g t
named_stays f dir g o t e other = subst (λ (x : Option Object). copy_at g (changed (with_names f) dir x t) ≡ copy_at g t) e (other_stays (with_names f) dir g t other)

linked_stays : (dir : Gfid) (name : NameId) (f : Gfid) (what : What) (g : Gfid) (t : Table) → (dir.0 == g.0) ≡ false → ((f.0 == g.0) ≡ true → is_some (copy_at g t) ≡ true) → copy_at g (linked dir name f what (copy_at dir t) t) ≡ copy_at g t
linked_stays dir name f what g t other held = by (copy_at dir t) refl
  where
    put : List (NameId × Entry) → List (NameId × Entry)
    put names = insert_entry name_cmp names name (record { gfid = f; what = what })

    by : (o : Option Object) → copy_at dir t ≡ o → copy_at g (linked dir name f what o t) ≡ copy_at g t
    by None e = refl
    by (Some o) e = made_stays f g what (with_copy dir (with_names put o) t) t (named_stays put dir g o t e other) held

renamed_stays : (names : List (NameId × Entry)) (dir g : Gfid) (t : Table) → (dir.0 == g.0) ≡ false → (leads names g.0 ≡ true → is_some (copy_at g t) ≡ true) → copy_at g (renamed names dir (copy_at dir t) t) ≡ copy_at g t
renamed_stays names dir g t other held = by (copy_at dir t) refl
  where
    put : List (NameId × Entry) → List (NameId × Entry)
    put old = names

    by : (o : Option Object) → copy_at dir t ≡ o → copy_at g (renamed names dir o t) ≡ copy_at g t
    by None e = refl
    by (Some o) e = all_made_stays names g (with_copy dir (with_names put o) t) t (named_stays put dir g o t e other) held

module _ (p : Plan) (older : List Line) (b : ℕ) (g : Gfid) (keeps : Bool) (t : Table) (is : t ≡ (plain_tables p older).now b) where
  -- what the brick has
  held : has_object p older g b ≡ true → is_some (copy_at g t) ≡ true
  held h = ap (λ (u : Table). is_some (copy_at g u)) is ∙ has_plain p older g b ∙ h

  applied_stays : (change : Change) → ((object_of change).0 == g.0) ≡ false → lists (made_objects p older b change) g.0 ≡ false → copy_at g (applied keeps change t) ≡ copy_at g t
  applied_stays (Write f at bytes) other new = other_stays (with_bytes keeps (written at bytes)) f g t other
  applied_stays (Cut f len) other new = other_stays (with_bytes keeps (take len)) f g t other
  applied_stays (SetAttr f key value) other new = other_stays (with_attr key value) f g t other
  applied_stays (Make dir name f what) other new = linked_stays dir name f what g t other (λ k. held (lacked_held p older b f g k new))
  applied_stays (Remove dir name what) other new = other_stays (with_names (remove_entry (is_at (name_cmp name)))) dir g t other

  effect_stays : (o : Option Change) → lists (changed_objects p older b o) g.0 ≡ false → copy_at g (effect keeps o t) ≡ copy_at g t
  effect_stays None h = refl
  effect_stays (Some change) h = let s = or_parts ((object_of change).0 == g.0) (lists (made_objects p older b change) g.0) h in applied_stays change s.0 s.1

  mended_stays : (r : Repair) → ((repaired r).0 == g.0) ≡ false → lists (named_objects p older b r) g.0 ≡ false → copy_at g (mended keeps r (carried (plain_tables p older).past older r) t) ≡ copy_at g t
  mended_stays (repair.CutTo f len) other new = other_stays (with_bytes keeps (take len)) f g t other
  mended_stays (repair.Copy f at span read) other new = other_stays (with_bytes keeps (copied_in at span (bytes_shown (plain_tables p older).past read (from_oldest read older)))) f g t other
  mended_stays (repair.PutAttrs f read) other new = other_stays (with_attrs (attrs_shown (plain_tables p older).past read (from_oldest read older))) f g t other
  mended_stays (repair.PutNames f reads) other new =
      renamed_stays (merged (all_names_shown (plain_tables p older).past older reads)) f g t other (λ k. held (brought_held p older b g reads new k))

  asked_stays : (r : Request) → lists (asked_objects p older b r) g.0 ≡ false → copy_at g (plainly_asked keeps r older (plain_tables p older).past t) ≡ copy_at g t
  asked_stays (Apply attempt) h = effect_stays (change_at attempt older) h
  asked_stays (Mend r) h = let s = or_parts ((repaired r).0 == g.0) (lists (named_objects p older b r) g.0) h in mended_stays r s.0 s.1
  asked_stays r h = refl

-- a line leaves the copies of an object that it doesn't touch
pub copy_stays : (p : Plan) (line : Line) (older : List Line) (b : ℕ) (g : Gfid) → lists (touched p line older) g.0 ≡ false → copy_at g ((plain_tables p (line ∷ older)).now b) ≡ copy_at g ((plain_tables p older).now b)
copy_stays p (Ask a y r told took) older b g h = by took (y.0 == b) refl
  where
    asked : y.0 ≡ b → copy_at g (plainly_asked (keeps_bytes p b) r older (plain_tables p older).past ((plain_tables p older).now b)) ≡ copy_at g ((plain_tables p older).now b)
    asked e = asked_stays p older b g (keeps_bytes p b) ((plain_tables p older).now b) refl r (subst (λ (n : ℕ). lists (asked_objects p older n r) g.0 ≡ false) e h)

    by : (took here : Bool) → (y.0 == b) ≡ here
        → copy_at g (cond took (cond here (plainly_asked (keeps_bytes p b) r older (plain_tables p older).past ((plain_tables p older).now b)) ((plain_tables p older).now b)) ((plain_tables p older).now b)) ≡ copy_at g ((plain_tables p older).now b)
    by true true e = asked (eqb-true y.0 b e)
    by true false e = refl
    by false here e = refl
copy_stays p line older b g h = refl
