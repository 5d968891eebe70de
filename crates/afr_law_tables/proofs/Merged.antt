-- The names that a heal brings together: what each leads to, and which objects they name.
use Rattle.std.proofs.Common.{◌≡◌, ℕ, suc, zero, ◌+◌, ◌*◌, ◌<◌, ◌≤◌, max, Bool, true, false, cond, ◌&&◌, ◌||◌, ◌⊎◌, inl, inr, refl, sym, ◌∙◌, ap, subst, arith, List, [], ◌∷◌, Option, None, Some, ◌==◌, if◌then◌else◌}
use Rattle.std.specs.Prelude.{nat_lt}
use Rattle.std.specs.BTreeMap.{is_at, insert_entry}
use Rattle.std.specs.Map.{lookup, remove_entry}
use Rattle.std.proofs.lemmas.Bool.Decides.{eqb_tells, nat_tests}
use Rattle.afr_base.specs.declared.ids.NameId.{NameId}
use Rattle.afr_base.specs.declared.ids.What.{What}
use Rattle.afr_base.specs.declared.ids.What.TheVariants.{File, Dir}
use Rattle.afr_object.specs.Tables.{Table, is_dir, name_cmp}
use Rattle.afr_object.specs.Repairs.{outranks, higher, merged_into, merged, all_made}
use Rattle.afr_object.specs.declared.entry.Entry.{Entry as NameEntry}
use Rattle.afr_model.specs.Cells.{IsEntry}
use Rattle.afr_model_moves.specs.Cells.{what_code, entry_code}
use Rattle.afr_law_tables.specs.Codes.{value_code, kind_in}
use Rattle.afr_law_tables.proofs.Names.{AreAbove, AreRising, by_order, lookup_named, rising_inserted, above_none, same_name_of}
use Rattle.afr_law_tables.proofs.Entries.{entry_some, entry_same}
use Rattle.afr_model_moves.specs.Past.{keep, named_kind}
use Rattle.afr_law_tables.proofs.Copies.{kind_made}
use Rattle.afr_model_moves.proofs.Tests.{same_no}

-- names of a directory, with what they lead to
abbrev pub NameTable : Type 0
NameTable = List (NameId × NameEntry)

-- what name m leads to, as a number
abbrev pub led : ℕ → NameTable → ℕ
led m names = value_code (IsEntry (lookup (is_at (name_cmp (record { 0 = m }))) names))

-- an entry as a number
abbrev pub entry_number : Option NameEntry → ℕ
entry_number e = value_code (IsEntry e)

-- ---- the entry that stands
-- it has the greater number
higher_number : (e : NameEntry) (o : Option NameEntry) → entry_number (Some (higher e o)) ≡ max (entry_number (Some e)) (entry_number o)
unfolding entry_code
higher_number e None = grind arith
higher_number e (Some f) = pick e.what f.what refl refl
  where
    code : What → ℕ → ℕ
    code what g = 2 * g + what_code what

    choice : (b : Bool) (n m : ℕ) → (b ≡ true → m ≤ n) → (b ≡ false → n ≤ m) → entry_number (Some (if b then e else f)) ≡ (if b then entry_number (Some e) else entry_number (Some f))
    choice true n m h k = refl
    choice false n m h k = refl

    take : (b : Bool) → (b ≡ true → entry_number (Some f) ≤ entry_number (Some e)) → (b ≡ false → entry_number (Some e) ≤ entry_number (Some f)) → entry_number (Some (if b then e else f)) ≡ max (entry_number (Some e)) (entry_number (Some f))
    take true h k = (let low = h refl in grind (arith, low))
    take false h k = (let low = k refl in grind (arith, low))

    above : (g h : ℕ) (dir : Bool) → (nat_lt h g || ((g == h) && dir)) ≡ true → (h < g) ⊎ ((g ≡ h) × (dir ≡ true))
    above g h dir k = grind (arith, nat_tests)

    below : (g h : ℕ) (dir : Bool) → (nat_lt h g || ((g == h) && dir)) ≡ false → (g < h) ⊎ ((g ≡ h) × (dir ≡ false))
    below g h dir k = grind (arith, nat_tests)

    least : (w : What) → (1 ≤ what_code w) × (what_code w ≤ 2)
    least File = (omega arith, omega arith)
    least Dir = (omega arith, omega arith)

    of_dir : (w : What) → is_dir w ≡ true → what_code w ≡ 2
    of_dir Dir h = refl
    of_dir File h = absurd (cc h)

    of_file : (w : What) → is_dir w ≡ false → what_code w ≡ 1
    of_file File h = refl
    of_file Dir h = absurd (cc h)

    pick : (v w : What) → e.what ≡ v → f.what ≡ w → entry_number (Some (if outranks e f then e else f)) ≡ max (entry_number (Some e)) (entry_number (Some f))
    pick v w h k =
        take (outranks e f)
        (λ yes. elim (above e.gfid.0 f.gfid.0 (is_dir e.what) yes) [
          | inl more ↦ omega (arith, more, (least e.what).0, (least f.what).1)
          | inr same ↦ omega (arith, same.0, of_dir e.what same.1, (least f.what).1)
        ])
        (λ no. elim (below e.gfid.0 f.gfid.0 (is_dir e.what) no) [
          | inl less ↦ omega (arith, less, (least e.what).1, (least f.what).0)
          | inr same ↦ omega (arith, same.0, of_file e.what same.1, (least f.what).0)
        ])

led_more : (x : NameId × NameEntry) (more : NameTable) (m : ℕ) → led m (x ∷ more) ≡ (if m == x.0.0 then entry_number (Some x.1) else led m more)
led_more x more m = rw (same_name_of (record { 0 = m }) x.0) (go (m == x.0.0))
  where
    go : (b : Bool) → entry_number (if b then Some x.1 else lookup (is_at (name_cmp (record { 0 = m }))) more) ≡ (if b then entry_number (Some x.1) else led m more)
    go true = refl
    go false = refl

-- a name below all others leads to nothing among them
led_none : (m : ℕ) (more : NameTable) (k : ℕ) → m ≤ k → AreAbove k more → led m more ≡ 0
led_none m more k low h = ap entry_number (above_none (record { 0 = m }) k more low h)

-- one list put into another
led_into : (old names : NameTable) (m : ℕ) → AreRising names → led m (merged_into old names) ≡ max (led m names) (led m old)
led_into old [] m h = grind arith
led_into old (x ∷ more) m h =
    ap entry_number (lookup_named x.0 (record { 0 = m }) (higher x.1 (lookup (is_at (name_cmp x.0)) (merged_into old more))) (merged_into old more))
    ∙ split (led_into old more m h.1) (eqb_tells x.0.0 m)
  where
    here : x.0.0 ≡ m → entry_number (Some (higher x.1 (lookup (is_at (name_cmp x.0)) (merged_into old more)))) ≡ max (entry_number (Some x.1)) (led m (merged_into old more))
    here e = subst (λ (k : ℕ). entry_number (Some (higher x.1 (lookup (is_at (name_cmp x.0)) (merged_into old more)))) ≡ max (entry_number (Some x.1)) (led k (merged_into old more))) e (higher_number x.1 (lookup (is_at (name_cmp x.0)) (merged_into old more)))

    turned : (a b : ℕ) → (a == b) ≡ true → (b == a) ≡ true
    turned a b e = grind (arith, nat_tests)

    apart : (a b : ℕ) → (a == b) ≡ false → (b == a) ≡ false
    apart a b e = grind (arith, nat_tests)

    joined : (a b c d : ℕ) → b ≡ max c d → c ≡ 0 → max a b ≡ max a d
    joined a b c d e f = grind (arith, e, f)

    split : led m (merged_into old more) ≡ max (led m more) (led m old) → ((x.0.0 == m) ≡ true) × (x.0.0 ≡ m) ⊎ ((x.0.0 == m) ≡ false) × (x.0.0 ≡ m → ⊥)
        → entry_number (if x.0.0 == m then Some (higher x.1 (lookup (is_at (name_cmp x.0)) (merged_into old more))) else lookup (is_at (name_cmp (record { 0 = m }))) (merged_into old more)) ≡ max (led m (x ∷ more)) (led m old)
    split rest (inl s) =
        let none : led m more ≡ 0 = led_none m more x.0.0 (omega (arith, s.1)) h.0 in
        let first : led m (x ∷ more) ≡ entry_number (Some x.1) = led_more x more m ∙ rw (turned x.0.0 m s.0) refl in
        rw (s.0, first) (here s.1 ∙ joined (entry_number (Some x.1)) (led m (merged_into old more)) (led m more) (led m old) rest none)
    split rest (inr s) =
        let first : led m (x ∷ more) ≡ led m more = led_more x more m ∙ rw (apart x.0.0 m s.0) refl in
        rw (s.0, first) rest

-- lists of names that rise
abbrev pub AllRise : List NameTable → Type 0
AllRise [] = Unit {0}
AllRise (names ∷ more) = AreRising names × AllRise more

-- the greatest of what the lists have under a name
abbrev pub most_led : ℕ → List NameTable → ℕ
most_led m [] = 0
most_led m (names ∷ more) = max (led m names) (most_led m more)

pub led_merged : (lists : List NameTable) (m : ℕ) → AllRise lists → led m (merged lists) ≡ most_led m lists
led_merged [] m h = refl
led_merged (names ∷ more) m h = led_into (merged more) names m h.0 ∙ ap (λ (k : ℕ). max (led m names) k) (led_merged more m h.1)

rising_into : (old names : NameTable) → AreRising old → AreRising (merged_into old names)
rising_into old [] h = h
rising_into old (x ∷ more) h = rising_inserted x.0 (higher x.1 (lookup (is_at (name_cmp x.0)) (merged_into old more))) (merged_into old more) (rising_into old more h)

-- names brought together rise
pub rising_merged : (lists : List NameTable) → AreRising (merged lists)
rising_merged [] = tt
rising_merged (names ∷ more) = rising_into (merged more) names (rising_merged more)

-- ---- names below a bound
abbrev pub AreBelow : ℕ → NameTable → Type 0
AreBelow n [] = Unit {0}
AreBelow n (x ∷ t) = (x.0.0 < n) × AreBelow n t

-- lists of such names
abbrev pub AllBelow : ℕ → List NameTable → Type 0
AllBelow n [] = Unit {0}
AllBelow n (names ∷ more) = AreBelow n names × AllBelow n more

-- ---- the objects that are named
-- the kind that the last of these entries for object g gives it
abbrev pub last_named : ℕ → NameTable → ℕ
last_named g [] = 0
last_named g (x ∷ more) = keep (last_named g more) (if x.1.gfid.0 == g then what_code x.1.what else 0)

keep_twice : (a b c : ℕ) → keep (keep a b) c ≡ keep a (keep b c)
keep_twice zero b c = refl
keep_twice (suc a) b c = refl

pub kind_all_made : (names : NameTable) (t : Table) (g : ℕ) → kind_in (all_made names t) g ≡ keep (kind_in t g) (last_named g names)
kind_all_made [] t g = none (kind_in t g)
  where
    none : (k : ℕ) → k ≡ keep k 0
    none zero = refl
    none (suc k) = refl
kind_all_made (x ∷ more) t g =
    kind_made x.1.gfid x.1.what (all_made more t) g
    ∙ ap (λ (k : ℕ). keep k (if x.1.gfid.0 == g then what_code x.1.what else 0)) (kind_all_made more t g)
    ∙ keep_twice (kind_in t g) (last_named g more) (if x.1.gfid.0 == g then what_code x.1.what else 0)

-- the kind that an entry, as a number, gives object g
abbrev pub given_by : ℕ → ℕ → ℕ
given_by g code = if code == entry_code g File then 1 else if code == entry_code g Dir then 2 else 0

named_step : (n : ℕ) (entries : ℕ → ℕ) (g : ℕ) → named_kind (suc n) entries g ≡ keep (given_by g (entries n)) (named_kind n entries g)
named_step n entries g = go (entries n == entry_code g File) (entries n == entry_code g Dir)
  where
    go : (file dir : Bool) → (if file then 1 else if dir then 2 else named_kind n entries g) ≡ keep (if file then 1 else if dir then 2 else 0) (named_kind n entries g)
    go true dir = refl
    go false true = refl
    go false false = refl

given_none : (g : ℕ) → given_by g 0 ≡ 0
given_none g = (let file : (0 == entry_code g File) ≡ false = no File in let dir : (0 == entry_code g Dir) ≡ false = no Dir in rw (file, dir) refl)
  where
    no : (w : What) → (0 == entry_code g w) ≡ false
    no w = elim (eqb_tells 0 (entry_code g w)) [ inl s ↦ absurd (entry_some g w (sym s.1)) | inr s ↦ s.0 ]

given_entry : (g : ℕ) (e : NameEntry) → given_by g (entry_number (Some e)) ≡ (if e.gfid.0 == g then what_code e.what else 0)
given_entry g e = split (eqb_tells e.gfid.0 g)
  where
    apart : (v w : What) → (e.gfid.0 ≡ g → ⊥) → (entry_code e.gfid.0 v == entry_code g w) ≡ false
    apart v w unlike = elim (eqb_tells (entry_code e.gfid.0 v) (entry_code g w)) [ inl s ↦ absurd (unlike (entry_same e.gfid.0 g v w s.1).0) | inr s ↦ s.0 ]

    other : (v w : What) → (what_code v ≡ what_code w → ⊥) → (entry_code e.gfid.0 v == entry_code g w) ≡ false
    other v w unlike = elim (eqb_tells (entry_code e.gfid.0 v) (entry_code g w)) [ inl s ↦ absurd (unlike (entry_same e.gfid.0 g v w s.1).1) | inr s ↦ s.0 ]

    same : (v : What) → e.gfid.0 ≡ g → (entry_code e.gfid.0 v == entry_code g v) ≡ true
    same v is = elim (eqb_tells (entry_code e.gfid.0 v) (entry_code g v)) [ inl s ↦ s.0 | inr s ↦ absurd (s.1 (ap (λ (k : ℕ). entry_code k v) is)) ]

    here : (v : What) → e.gfid.0 ≡ g → given_by g (entry_code e.gfid.0 v) ≡ what_code v
    here File is = rw (same File is) refl
    here Dir is = rw (other Dir File (λ k. omega (arith, k)), same Dir is) refl

    split : ((e.gfid.0 == g) ≡ true) × (e.gfid.0 ≡ g) ⊎ ((e.gfid.0 == g) ≡ false) × (e.gfid.0 ≡ g → ⊥) → given_by g (entry_code e.gfid.0 e.what) ≡ (if e.gfid.0 == g then what_code e.what else 0)
    split (inl s) = rw s.0 (here e.what s.1)
    split (inr s) = rw (s.0, apart e.what File s.1, apart e.what Dir s.1) refl

-- where no name below n leads anywhere
named_none : (n : ℕ) (entries : ℕ → ℕ) (g : ℕ) → ((m : ℕ) → m < n → entries m ≡ 0) → named_kind n entries g ≡ 0
named_none zero entries g none = refl
named_none (suc n) entries g none = named_step n entries g ∙ rw (none n (omega arith), given_none g) (named_none n entries g (λ m low. none m (omega (arith, low))))

named_empty : (n g : ℕ) → named_kind n (λ m. led m []) g ≡ 0
named_empty n g = named_none n (λ m. led m []) g (λ m low. refl)

-- one name more, before the others
named_more : (n : ℕ) (x : NameId × NameEntry) (more : NameTable) (g : ℕ) → AreAbove x.0.0 more → x.0.0 < n → named_kind n (λ m. led m (x ∷ more)) g ≡ keep (named_kind n (λ m. led m more) g) (if x.1.gfid.0 == g then what_code x.1.what else 0)
named_more zero x more g h low = absurd (omega (arith, low))
named_more (suc n) x more g h low =
    named_step n (λ m. led m (x ∷ more)) g ∙ rw (led_more x more n) (split (λ less. named_more n x more g h less) (eqb_tells n x.0.0)) ∙ ap (λ (k : ℕ). keep k new) (sym (named_step n (λ m. led m more) g))
  where
    new : ℕ
    new = if x.1.gfid.0 == g then what_code x.1.what else 0

    below : (n k : ℕ) → k < suc n → (n ≡ k → ⊥) → k < n
    below n k low apart = grind (arith, low, apart)

    nothing : (m : ℕ) → m < x.0.0 → led m (x ∷ more) ≡ 0
    nothing m less = led_more x more m ∙ rw (same_no m x.0.0 less) (led_none m more x.0.0 (omega (arith, less)) h)

    keep_none : (k : ℕ) → keep k 0 ≡ k
    keep_none zero = refl
    keep_none (suc k) = refl

    split : (x.0.0 < n → named_kind n (λ m. led m (x ∷ more)) g ≡ keep (named_kind n (λ m. led m more) g) new) → ((n == x.0.0) ≡ true) × (n ≡ x.0.0) ⊎ ((n == x.0.0) ≡ false) × (n ≡ x.0.0 → ⊥)
        → keep (given_by g (if n == x.0.0 then entry_number (Some x.1) else led n more)) (named_kind n (λ m. led m (x ∷ more)) g) ≡ keep (keep (given_by g (led n more)) (named_kind n (λ m. led m more) g)) new
    split rest (inl s) =
        let before : named_kind n (λ m. led m (x ∷ more)) g ≡ 0 = named_none n (λ m. led m (x ∷ more)) g (λ m less. nothing m (omega (arith, less, s.1))) in
        let others : named_kind n (λ m. led m more) g ≡ 0 = named_none n (λ m. led m more) g (λ m less. led_none m more x.0.0 (omega (arith, less, s.1)) h) in
        let here : led n more ≡ 0 = led_none n more x.0.0 (omega (arith, s.1)) h in
        rw (s.0, before, others, here, given_none g) (keep_none (given_by g (entry_number (Some x.1))) ∙ given_entry g x.1)
    split rest (inr s) =
        rw (s.0, rest (below n x.0.0 low s.1)) (sym (keep_twice (given_by g (led n more)) (named_kind n (λ m. led m more) g) new))

-- the kind that names below n give object g is that of the last entry for it
pub named_is : (n : ℕ) (names : NameTable) (g : ℕ) → AreRising names → AreBelow n names → named_kind n (λ m. led m names) g ≡ last_named g names
named_is n [] g h low = named_empty n g
named_is n (x ∷ more) g h low = named_more n x more g h.0 low.0 ∙ ap (λ (k : ℕ). keep k (if x.1.gfid.0 == g then what_code x.1.what else 0)) (named_is n more g h.1 low.1)

pub below_inserted : (n : ℕ) (name : NameId) (e : NameEntry) (t : NameTable) → name.0 < n → AreBelow n t → AreBelow n (insert_entry name_cmp t name e)
below_inserted n name e [] low h = (low, tt)
below_inserted n name e (x ∷ t) low h =
    by_order name.0 x.0.0 (AreBelow n) ((name, e) ∷ x ∷ t) ((x.0, e) ∷ t) (x ∷ insert_entry name_cmp t name e) (λ less. (low, h)) (λ same. h) (λ more. (h.0, below_inserted n name e t low h.1))

pub below_removed : (n : ℕ) (test : NameId → Bool) (t : NameTable) → AreBelow n t → AreBelow n (remove_entry test t)
below_removed n test [] h = tt
below_removed n test (x ∷ t) h = go (test x.0) (below_removed n test t h.1)
  where
    go : (hit : Bool) → AreBelow n (remove_entry test t) → AreBelow n (cond hit t (x ∷ remove_entry test t))
    go true more = h.1
    go false more = (h.0, more)

below_into : (n : ℕ) (old names : NameTable) → AreBelow n old → AreBelow n names → AreBelow n (merged_into old names)
below_into n old [] h k = h
below_into n old (x ∷ more) h k = below_inserted n x.0 (higher x.1 (lookup (is_at (name_cmp x.0)) (merged_into old more))) (merged_into old more) k.0 (below_into n old more h k.1)

-- names brought together stay below a bound
pub below_merged : (n : ℕ) (lists : List NameTable) → AllBelow n lists → AreBelow n (merged lists)
below_merged n [] h = tt
below_merged n (names ∷ more) h = below_into n (merged more) names (below_merged n more h.1) h.0
