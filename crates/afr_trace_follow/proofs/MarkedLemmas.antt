-- The list of a brick's objects with a number above 0, found by the lines that may have raised one.
use Rattle.std.proofs.Common.{◌≡◌, ◌∙◌, ◌⊎◌, inl, inr, ℕ, suc, ◌<◌, ◌≤◌, ◌==◌, ◌&&◌, ◌||◌, not, Bool, true, false, List, [], ◌∷◌, Option, Some, None, refl, sym, ap, subst, arith, if◌then◌else◌}
use Rattle.std.specs.BTreeMap.{is_at}
use Rattle.std.specs.Cmp.{ranks}
use Rattle.std.specs.List.{AllByRecursion}
use Rattle.std.specs.List.Sorted.{IsStrictlySortedBy}
use Rattle.std.specs.Map.{keys_of}
use Rattle.std.specs.Ordering.{MatchOrdering, nat_cmp}
use Rattle.std.specs.Prelude.{is_some, nat_le, option_map}
use Rattle.std.proofs.lemmas.Bool.Decides.{eqb_tells, leb_tells, nat_tests}
use Rattle.std.proofs.lemmas.Map.Entries.{lookup_head, lookup_tail}
use Rattle.std.proofs.lemmas.Option.{same_Some}
use Rattle.std.specs.declared.cmp.Ordering.{Ordering}
use Rattle.std.specs.declared.cmp.Ordering.TheVariants.{Less}
use Rattle.std.proofs.lemmas.Bool.{or_parts}
use Rattle.afr_base.specs.Bricks.{member}
use Rattle.afr_base.specs.Kinds.{same_kind}
use Rattle.afr_base.specs.Marks.{is_zero_marks}
use Rattle.afr_base.specs.declared.ids.Gfid.{Gfid}
use Rattle.afr_base.specs.declared.ids.Kind.{Kind}
use Rattle.afr_base.specs.declared.ids.Kind.TheVariants.{Attrs, Bytes, Names}
use Rattle.afr_base.specs.declared.ids.What.{What}
use Rattle.afr_index.specs.Listed.{IsRising, Listed, kind_at}
use Rattle.afr_lines.specs.declared.line.Line.{Line}
use Rattle.afr_lines.specs.declared.line.Line.TheVariants.{Ask}
use Rattle.afr_lines.specs.declared.request.Request.TheVariants.{Post, Pre}
use Rattle.afr_model.specs.Sums.{blames, dirty_of, has_object, opens_op, pending_of, sum_over}
use Rattle.afr_model.specs.Tables.{holds}
use Rattle.afr_object.specs.Object.{Object}
use Rattle.afr_object.specs.Tables.{Table, copy_at, gfid_cmp, view_of}
use Rattle.afr_object.specs.TablesLemmas.{same_gfid}
use Rattle.afr_object.specs.declared.entry.View.{View}
use Rattle.afr_plan.specs.declared.plan.Plan.{Plan}
use Rattle.afr_trace_follow.proofs.RisingLemmas.{sorted}
use Rattle.afr_trace_follow.specs.Marked.{IsListing, has_number, is_marked, is_object, is_raised, kind_marked, marked_on, passing, raised}
use Rattle.afr_trace_tables.proofs.BareLaws.{copy_bare}
use Rattle.afr_trace_tables.proofs.PlainLaws.{now_bare}
use Rattle.afr_trace_tables.specs.Plain.{bare_object, plain_tables}
use Rattle.afr_trace_tally.specs.Flags.{five}

abbrev numbered : ℕ → Gfid
numbered n = record { 0 = n }

-- ---- what a tally finds
look_bare : (p : Plan) (log : List Line) (b : ℕ) (g : Gfid) (o : Option View) → o ≡ option_map view_of (copy_at g ((plain_tables p log).now b)) → o ≡ option_map view_of (option_map bare_object (copy_at g (holds p log b)))
look_bare p log b g o e = e ∙ ap (λ (t : Table). option_map view_of (copy_at g t)) (now_bare p log b) ∙ ap (option_map view_of) (copy_bare g (holds p log b))

pub kind_is : (p : Plan) (log : List Line) (b : ℕ) (g : Gfid) (o : Option View) → o ≡ option_map view_of (copy_at g ((plain_tables p log).now b)) → option_map (λ (v : View). v.what) o ≡ option_map (λ (x : Object). x.what) (copy_at g (holds p log b))
kind_is p log b g o e = ap (λ (x : Option View). option_map (λ (v : View). v.what) x) (look_bare p log b g o e) ∙ by (copy_at g (holds p log b))
  where
    by : (x : Option Object) → option_map (λ (v : View). v.what) (option_map view_of (option_map bare_object x)) ≡ option_map (λ (y : Object). y.what) x
    by None = refl
    by (Some x) = refl

-- ---- a number above 0 was raised
-- what a line about another object counts
not_counted : (took here same kind there : Bool) (n : ℕ) → same ≡ false → (if took && here && same && kind && there then n else 0) ≡ 0
not_counted true true same kind there n e = rw e refl
not_counted true false same kind there n e = refl
not_counted false here same kind there n e = refl

module _ (p : Plan) (b : ℕ) (g : Gfid) (kind : Kind) where
  no_open : (line : Line) (older : List Line) → is_object (raised line) g ≡ false → opens_op p b g kind line older ≡ 0
  no_open (Ask a y (Pre h k) told took) older e = not_counted took (y.0 == b) (h.0 == g.0) (same_kind k kind) (has_object p older g b) 1 e
  no_open line older e = refl

  no_blame : (c : ℕ) (line : Line) (older : List Line) → is_object (raised line) g ≡ false → blames p b c g kind line older ≡ 0
  no_blame c (Ask a y (Post attempt h k missed) told took) older e = not_counted took (y.0 == b) (h.0 == g.0) (same_kind k kind) (has_object p older g b) (if member missed c then 1 else 0) e
  no_blame c line older e = refl

  none_over : (f : Line → List Line → ℕ) → ((line : Line) (older : List Line) → is_object (raised line) g ≡ false → f line older ≡ 0) → (log : List Line) → is_raised g log ≡ false → sum_over f log ≡ 0
  none_over f each [] h = refl
  none_over f each (line ∷ older) h =
      let s = or_parts (is_object (raised line) g) (is_raised g older) h in
      omega (arith, each line older s.0, none_over f each older s.1)

  zero_is : (d : ℕ) (f : ℕ → ℕ) → d ≡ 0 → ((c : ℕ) → f c ≡ 0) → is_zero_marks (record { dirty = d; pending = five f }) ≡ true
  zero_is d f hd hf = rw (hd, hf 0, hf 1, hf 2, hf 3, hf 4) refl

  no_number : (log : List Line) → is_raised g log ≡ false → has_number p log b g kind ≡ false
  no_number log h =
      let opened : sum_over (opens_op p b g kind) log ≡ 0 = none_over (opens_op p b g kind) no_open log h in
      let dirty : dirty_of p log b g kind ≡ 0 = omega (arith, opened) in
      ap not (zero_is (dirty_of p log b g kind) (λ c. pending_of p log b c g kind) dirty (λ c. pending c))
    where
      pending : (c : ℕ) → pending_of p log b c g kind ≡ 0
      pending c =
          let blamed : sum_over (blames p b c g kind) log ≡ 0 = none_over (blames p b c g kind) (no_blame c) log h in
          omega (arith, blamed)

unmarked : (p : Plan) (log : List Line) (b : ℕ) (g : Gfid) → is_raised g log ≡ false → is_marked p log b g ≡ false
unmarked p log b g h = three (has_number p log b g Bytes) (has_number p log b g Attrs) (has_number p log b g Names) (no_number p b g Bytes log h) (no_number p b g Attrs log h) (no_number p b g Names log h)
  where
    three : (x y z : Bool) → x ≡ false → y ≡ false → z ≡ false → (x || y || z) ≡ false
    three x y z hx hy hz = rw (hx, hy, hz) refl

-- ---- the objects that pass a test
passing_at : (test : Gfid → Bool) (q : Gfid) (t : Table) → kind_at q (passing test t) ≡ (if test q then option_map (λ (o : Object). o.what) (copy_at q t) else None)
passing_at test q [] = by (test q)
  where
    by : (f : Bool) → ◌≡◌ {A = Option What} None (if f then None else None)
    by true = refl
    by false = refl
passing_at test q (e ∷ t) = go (test e.0) refl (eqb_tells q.0 e.0.0) (passing_at test q t)
  where
    same : q.0 ≡ e.0.0 → e.0 ≡ q
    same h = ap numbered (sym h)

    at_head : (q.0 == e.0.0) ≡ true → is_at (gfid_cmp q) e.0 ≡ true
    at_head h = same_gfid q e.0 ∙ h

    at_tail : (q.0 == e.0.0) ≡ false → is_at (gfid_cmp q) e.0 ≡ false
    at_tail h = same_gfid q e.0 ∙ h

    found : (f : Bool) (r : Option What) (o : Option Object) → r ≡ (if f then option_map (λ (x : Object). x.what) (copy_at q t) else None) → copy_at q (e ∷ t) ≡ copy_at q t → r ≡ (if f then option_map (λ (x : Object). x.what) (copy_at q (e ∷ t)) else None)
    found f r o h k = h ∙ sym (ap (λ (y : Option Object). if f then option_map (λ (x : Object). x.what) y else None) k)

    go : (f : Bool) → test e.0 ≡ f → ((q.0 == e.0.0) ≡ true) × (q.0 ≡ e.0.0) ⊎ ((q.0 == e.0.0) ≡ false) × (q.0 ≡ e.0.0 → ⊥) → kind_at q (passing test t) ≡ (if test q then option_map (λ (o : Object). o.what) (copy_at q t) else None)
        → kind_at q (if f then (e.0, e.1.what) ∷ passing test t else passing test t) ≡ (if test q then option_map (λ (x : Object). x.what) (copy_at q (e ∷ t)) else None)
    go true h (inl s) more =
        let yes : test q ≡ true = ap test (sym (same s.1)) ∙ h in
        lookup_head (is_at (gfid_cmp q)) (e.0, e.1.what) (passing test t) (at_head s.0)
        ∙ sym (ap (λ (x : Bool). if x then option_map (λ (x : Object). x.what) (copy_at q (e ∷ t)) else None) yes ∙ ap (option_map (λ (x : Object). x.what)) (lookup_head (is_at (gfid_cmp q)) e t (at_head s.0)))
    go true h (inr s) more = lookup_tail (is_at (gfid_cmp q)) (e.0, e.1.what) (passing test t) (at_tail s.0) ∙ found (test q) _ None more (lookup_tail (is_at (gfid_cmp q)) e t (at_tail s.0))
    go false h (inl s) more =
        let no : test q ≡ false = ap test (sym (same s.1)) ∙ h in
        more ∙ ap (λ (x : Bool). if x then option_map (λ (x : Object). x.what) (copy_at q t) else None) no
        ∙ sym (ap (λ (x : Bool). if x then option_map (λ (x : Object). x.what) (copy_at q (e ∷ t)) else None) no)
    go false h (inr s) more = found (test q) _ None more (lookup_tail (is_at (gfid_cmp q)) e t (at_tail s.0))

-- they stand in the order of their gfids
passing_above : (P : Gfid → Type 0) (test : Gfid → Bool) (t : Table) → AllByRecursion P (keys_of t) → AllByRecursion P (keys_of (passing test t))
passing_above P test [] h = tt
passing_above P test (e ∷ t) h = by (test e.0) (passing_above P test t h.1)
  where
    by : (f : Bool) → AllByRecursion P (keys_of (passing test t)) → AllByRecursion P (keys_of (if f then (e.0, e.1.what) ∷ passing test t else passing test t))
    by true more = (h.0, more)
    by false more = more

passing_rising : (test : Gfid → Bool) (t : Table) → IsStrictlySortedBy gfid_cmp (keys_of t) → IsRising (passing test t)
unfolding IsStrictlySortedBy
passing_rising test [] h = tt
passing_rising test (e ∷ t) h = by (test e.0) (passing_rising test t h.1)
  where
    by : (f : Bool) → IsRising (passing test t) → IsRising (if f then (e.0, e.1.what) ∷ passing test t else passing test t)
    by true more = (passing_above (λ y. gfid_cmp e.0 y ≡ Less) test t h.0, more)
    by false more = more

-- ---- two lists in order that have the same objects are the same
less_is : (m n : ℕ) → nat_cmp m n ≡ Less → m < n
less_is m n e = subst (λ (r : Ordering). MatchOrdering r (m < n) (m ≡ n) (n < m)) e (ranks m n)

head_at : (x : Gfid × What) (xs : Listed) → kind_at x.0 (x ∷ xs) ≡ Some x.1
head_at x xs =
    let here : (x.0.0 == x.0.0) ≡ true = grind (arith, nat_tests) in
    lookup_head (is_at (gfid_cmp x.0)) x xs (same_gfid x.0 x.0 ∙ here)

tail_at : (q : Gfid) (x : Gfid × What) (xs : Listed) → (q.0 ≡ x.0.0 → ⊥) → kind_at q (x ∷ xs) ≡ kind_at q xs
tail_at q x xs other =
    let away : (q.0 == x.0.0) ≡ false = grind (arith, nat_tests, other) in
    lookup_tail (is_at (gfid_cmp q)) x xs (same_gfid q x.0 ∙ away)

-- nothing below them is among them
below_none : (g q : Gfid) (xs : Listed) → AllByRecursion (λ y. gfid_cmp g y ≡ Less) (keys_of xs) → q.0 ≤ g.0 → kind_at q xs ≡ None
below_none g q [] h low = refl
below_none g q (x ∷ xs) h low =
    let above : g.0 < x.0.0 = less_is g.0 x.0.0 h.0 in
    tail_at q x xs (λ e. absurd (omega (arith, e, low, above))) ∙ below_none g q xs h.1 low

same_pair : (a b : Gfid) (v w : What) (xs ys : Listed) → a ≡ b → v ≡ w → xs ≡ ys → ◌≡◌ {A = Listed} ((a, v) ∷ xs) ((b, w) ∷ ys)
same_pair a b v w xs ys e f h = rw (e, f, h) refl

never_some : (what : What) → None ≡ Some what → ⊥
never_some what e = absurd (cc e)

same_rising : (one other : Listed) → IsRising one → IsRising other → ((q : Gfid) → kind_at q one ≡ kind_at q other) → one ≡ other
unfolding IsStrictlySortedBy
same_rising [] [] s t h = refl
same_rising [] (y ∷ ys) s t h = absurd (never_some y.1 (h y.0 ∙ head_at y ys))
same_rising (x ∷ xs) [] s t h = absurd (never_some x.1 (sym (h x.0) ∙ head_at x xs))
same_rising (x ∷ xs) (y ∷ ys) s t h = by (λ e. same_rising xs ys s.1 t.1 e) (leb_tells (suc x.0.0) y.0.0) (leb_tells (suc y.0.0) x.0.0)
  where
    low : x.0.0 < y.0.0 → ⊥
    low l = never_some x.1 (sym (tail_at x.0 y ys (λ e. absurd (omega (arith, e, l))) ∙ below_none y.0 x.0 ys t.0 (omega (arith, l))) ∙ sym (h x.0) ∙ head_at x xs)

    high : y.0.0 < x.0.0 → ⊥
    high l = never_some y.1 (sym (tail_at y.0 x xs (λ e. absurd (omega (arith, e, l))) ∙ below_none x.0 y.0 xs s.0 (omega (arith, l))) ∙ h y.0 ∙ head_at y ys)

    tails : x.0 ≡ y.0 → (q : Gfid) → kind_at q xs ≡ kind_at q ys
    tails e q = go (eqb_tells q.0 x.0.0)
      where
        number : x.0.0 ≡ y.0.0
        number = ap (λ (g : Gfid). g.0) e

        go : ((q.0 == x.0.0) ≡ true) × (q.0 ≡ x.0.0) ⊎ ((q.0 == x.0.0) ≡ false) × (q.0 ≡ x.0.0 → ⊥) → kind_at q xs ≡ kind_at q ys
        go (inl k) = below_none x.0 q xs s.0 (omega (arith, k.1)) ∙ sym (below_none y.0 q ys t.0 (omega (arith, k.1, number)))
        go (inr k) = sym (tail_at q x xs k.1) ∙ h q ∙ tail_at q y ys (λ f. k.1 (f ∙ sym number))

    all : (((q : Gfid) → kind_at q xs ≡ kind_at q ys) → xs ≡ ys) → x.0 ≡ y.0 → x ∷ xs ≡ y ∷ ys
    all more e =
        let found : Some x.1 ≡ Some y.1 = sym (head_at x xs) ∙ h x.0 ∙ ap (λ (g : Gfid). kind_at g (y ∷ ys)) e ∙ head_at y ys in
        same_pair x.0 y.0 x.1 y.1 xs ys e (same_Some x.1 y.1 found) (more (tails e))

    by : (((q : Gfid) → kind_at q xs ≡ kind_at q ys) → xs ≡ ys) → ((nat_le (suc x.0.0) y.0.0 ≡ true) × (suc x.0.0 ≤ y.0.0)) ⊎ ((nat_le (suc x.0.0) y.0.0 ≡ false) × (y.0.0 < suc x.0.0)) → ((nat_le (suc y.0.0) x.0.0 ≡ true) × (suc y.0.0 ≤ x.0.0)) ⊎ ((nat_le (suc y.0.0) x.0.0 ≡ false) × (x.0.0 < suc y.0.0)) → x ∷ xs ≡ y ∷ ys
    by more (inl k) l = absurd (low (omega (arith, k.1)))
    by more (inr k) (inl l) = absurd (high (omega (arith, l.1)))
    by more (inr k) (inr l) = all more (ap numbered (same k.1 l.1))
      where
        same : y.0.0 < suc x.0.0 → x.0.0 < suc y.0.0 → x.0.0 ≡ y.0.0
        same k l = omega (arith, k, l)

-- ---- the list
pub none_listed : (p : Plan) (log : List Line) (b : ℕ) (index : Listed) → index ≡ [] → IsListing p log b [] index
none_listed p log b index e q = ap (kind_at q) e

module _ (p : Plan) (log : List Line) (b : ℕ) (line : Line) where
  -- a line that may raise the numbers of an object
  pub listing_more : (g : Gfid) (kind : Option What) (old new : Listed) → Some g ≡ raised line → kind ≡ kind_marked p log b g → ((q : Gfid) → kind_at q new ≡ (if is_some kind && (g.0 == q.0) then kind else kind_at q old)) → (lines : List Line)
      → IsListing p log b lines old → IsListing p log b (line ∷ lines) new
  listing_more g kind old new e hk put lines v q =
      put q ∙ go kind refl (eqb_tells g.0 q.0) ∙ ap (λ (o : Option Gfid). if is_object o q || is_raised q lines then kind_marked p log b q else None) e
    where
      same : g.0 ≡ q.0 → g ≡ q
      same h = ap numbered h

      here : g.0 ≡ q.0 → kind ≡ kind_marked p log b q
      here h = hk ∙ ap (kind_marked p log b) (same h)

      yes : (g.0 == q.0) ≡ true → kind_marked p log b q ≡ (if (g.0 == q.0) || is_raised q lines then kind_marked p log b q else None)
      yes h = sym (ap (λ (t : Bool). if t || is_raised q lines then kind_marked p log b q else None) h)

      none : (t : Bool) (o : Option What) → None ≡ o → (if t then o else None) ≡ o
      none true o h = refl
      none false o h = h

      go : (k : Option What) → kind ≡ k → ((g.0 == q.0) ≡ true) × (g.0 ≡ q.0) ⊎ ((g.0 == q.0) ≡ false) × (g.0 ≡ q.0 → ⊥)
          → (if is_some kind && (g.0 == q.0) then kind else kind_at q old) ≡ (if (g.0 == q.0) || is_raised q lines then kind_marked p log b q else None)
      go (Some what) h (inl s) =
          ap (λ (o : Option What). if is_some o && (g.0 == q.0) then o else kind_at q old) h ∙ ap (λ (t : Bool). if t then Some what else kind_at q old) s.0 ∙ sym h ∙ here s.1 ∙ yes s.0
      go None h (inl s) =
          let gone : None ≡ kind_marked p log b q = sym h ∙ here s.1 in
          ap (λ (o : Option What). if is_some o && (g.0 == q.0) then o else kind_at q old) h ∙ v q ∙ none (is_raised q lines) (kind_marked p log b q) gone ∙ yes s.0
      go (Some what) h (inr s) =
          ap (λ (o : Option What). if is_some o && (g.0 == q.0) then o else kind_at q old) h ∙ ap (λ (t : Bool). if t then Some what else kind_at q old) s.0 ∙ v q
          ∙ sym (ap (λ (t : Bool). if t || is_raised q lines then kind_marked p log b q else None) s.0)
      go None h (inr s) = ap (λ (o : Option What). if is_some o && (g.0 == q.0) then o else kind_at q old) h ∙ v q ∙ sym (ap (λ (t : Bool). if t || is_raised q lines then kind_marked p log b q else None) s.0)

  -- any other
  pub listing_same : (index : Listed) → None ≡ raised line → (lines : List Line) → IsListing p log b lines index → IsListing p log b (line ∷ lines) index
  listing_same index e lines v q = v q ∙ ap (λ (o : Option Gfid). if is_object o q || is_raised q lines then kind_marked p log b q else None) e

-- after all lines
pub marked_is : (p : Plan) (log : List Line) (b : ℕ) (index : Listed) → IsRising index → IsListing p log b log index → index ≡ marked_on p log b
marked_is p log b index rises v =
    same_rising index (marked_on p log b) rises (passing_rising (is_marked p log b) (holds p log b) (sorted p log b)) (λ q. v q ∙ found q (is_raised q log) refl ∙ sym (passing_at (is_marked p log b) q (holds p log b)))
  where
    found : (q : Gfid) (t : Bool) → is_raised q log ≡ t → (if t then kind_marked p log b q else None) ≡ kind_marked p log b q
    found q true h = refl
    found q false h = sym (ap (λ (t : Bool). if t then option_map (λ (o : Object). o.what) (copy_at q (holds p log b)) else None) (unmarked p log b q h))

-- ---- one of three
pub one_of_three : (x one two three a b c other : Bool) → one ≡ a → two ≡ b → three ≡ c → other ≡ (one || two) → x ≡ (other || three) → x ≡ (a || b || c)
one_of_three x one two three a b c other e f g h k = rw (k, h, e, f, g) refl
