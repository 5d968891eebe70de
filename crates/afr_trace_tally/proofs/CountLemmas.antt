-- What is counted of a log, one line more.
use Rattle.std.proofs.Common.{◌≡◌, ℕ, zero, suc, ◌+◌, ◌-◌, ◌*◌, ◌^◌, ◌<◌, ◌≤◌, ◌==◌, ◌&&◌, Bool, true, false, List, [], ◌∷◌, Option, Some, None, length, refl, sym, ap, ◌∙◌, subst, arith, if◌then◌else◌}
use Rattle.std.proofs.lemmas.Bool.Decides.{nat_tests}
use Rattle.std.proofs.lemmas.Bool.{eqb-true}
use Rattle.std.specs.Prelude.{slice_index}
use Rattle.std.specs.BTreeMap.{insert_entry, is_at}
use Rattle.std.specs.Map.{lookup}
use Rattle.afr_base.specs.Bricks.{member, and_left}
use Rattle.afr_base.specs.Kinds.{same_kind}
use Rattle.afr_base.specs.declared.ids.Gfid.{Gfid}
use Rattle.afr_base.specs.declared.ids.Kind.{Kind}
use Rattle.afr_base.specs.declared.ids.Kind.TheVariants.{Bytes, Attrs, Names}
use Rattle.afr_base.specs.declared.marks.Marks.{Marks}
use Rattle.afr_lines.specs.declared.line.Line.{Line}
use Rattle.afr_lines.specs.declared.line.Line.TheVariants.{Ask}
use Rattle.afr_lines.specs.declared.request.Request.TheVariants.{Pre, Post, Settle}
use Rattle.afr_model.specs.Sums.{blames, closes_op, dirty_of, has_object, opens_op, pending_of, settles_dirty, settles_pending, sum_over}
use Rattle.afr_object.specs.Tables.{gfid_cmp}
use Rattle.afr_object.specs.TablesLemmas.{same_gfid}
use Rattle.afr_plan.specs.declared.plan.Plan.{Plan}
use Rattle.afr_trace_tally.specs.Counts.{AreCounted, IsOne, IsSmall, count_at, count_here, count_of, counted_by, counted_in, counts_for, no_count, or_none, plus, with_counts}
use Rattle.afr_trace_tally.specs.Flags.{five}
use Rattle.afr_trace_tally.specs.declared.counts.Count.{Count}
use Rattle.afr_trace_tally.specs.declared.counts.Counted.{Counted}
use Rattle.afr_trace_tally.specs.declared.counts.Counts.{Counts}

-- ---- five numbers
pub five_at : (f : ℕ → ℕ) (b : ℕ) → b < 5 → slice_index (five f) b ≡ f b
five_at f zero l = refl
five_at f (suc zero) l = refl
five_at f (suc (suc zero)) l = refl
five_at f (suc (suc (suc zero))) l = refl
five_at f (suc (suc (suc (suc zero)))) l = refl
five_at f (suc (suc (suc (suc (suc b))))) l = absurd (omega (arith, l))

five_same : (f g : ℕ → ℕ) → ((b : ℕ) → f b ≡ g b) → five f ≡ five g
five_same f g h = rw (h 0, h 1, h 2, h 3, h 4) refl

-- each of five numbers is small
pub five_small : (a b c d e m : ℕ) → a ≤ m → b ≤ m → c ≤ m → d ≤ m → e ≤ m → (k : ℕ) → k < 5 → slice_index (a ∷ b ∷ c ∷ d ∷ e ∷ []) k ≤ m
five_small a b c d e m ha hb hc hd he zero l = ha
five_small a b c d e m ha hb hc hd he (suc zero) l = hb
five_small a b c d e m ha hb hc hd he (suc (suc zero)) l = hc
five_small a b c d e m ha hb hc hd he (suc (suc (suc zero))) l = hd
five_small a b c d e m ha hb hc hd he (suc (suc (suc (suc zero)))) l = he
five_small a b c d e m ha hb hc hd he (suc (suc (suc (suc (suc k))))) l = absurd (omega (arith, l))

-- ---- one line more
abbrev mk : ℕ → ℕ → List ℕ → List ℕ → Count
mk opened closed blamed settled = record { opened = opened; closed = closed; blamed = blamed; settled = settled }

none_step : (o c s : ℕ) (B S : ℕ → ℕ) → mk (0 + o) ((0 + c) + (0 + s)) (five (λ b. 0 + B b)) (five (λ b. 0 + S b)) ≡ plus no_count (mk o (c + s) (five B) (five S))
none_step o c s B S =
    let e : (0 + c) + (0 + s) ≡ 0 + (c + s) = omega arith in
    ap (λ (n : ℕ). mk (0 + o) n (five (λ b. 0 + B b)) (five (λ b. 0 + S b))) e

pre_step : (t : Bool) (o c s : ℕ) (B S : ℕ → ℕ)
    → mk ((if t then 1 else 0) + o) ((0 + c) + (0 + s)) (five (λ b. 0 + B b)) (five (λ b. 0 + S b)) ≡ plus (if t then record no_count { opened = 1 } else no_count) (mk o (c + s) (five B) (five S))
pre_step true o c s B S =
    let e : (0 + c) + (0 + s) ≡ 0 + (c + s) = omega arith in
    ap (λ (n : ℕ). mk (1 + o) n (five (λ b. 0 + B b)) (five (λ b. 0 + S b))) e
pre_step false o c s B S = none_step o c s B S

post_step : (t : Bool) (missed : List ℕ) (o c s : ℕ) (B S : ℕ → ℕ)
    → mk (0 + o) (((if t then 1 else 0) + c) + (0 + s)) (five (λ b. (if t then (if member missed b then 1 else 0) else 0) + B b)) (five (λ b. 0 + S b))
    ≡ plus (if t then record no_count { closed = 1; blamed = five (λ b. if member missed b then 1 else 0) } else no_count) (mk o (c + s) (five B) (five S))
post_step true missed o c s B S =
    let e : (1 + c) + (0 + s) ≡ 1 + (c + s) = omega arith in
    ap (λ (n : ℕ). mk (0 + o) n (five (λ b. (if member missed b then 1 else 0) + B b)) (five (λ b. 0 + S b))) e
post_step false missed o c s B S = none_step o c s B S

settle_step : (t : Bool) (less : Marks) (o c s : ℕ) (B S : ℕ → ℕ)
    → mk (0 + o) ((0 + c) + ((if t then less.dirty else 0) + s)) (five (λ b. 0 + B b)) (five (λ b. (if t then slice_index less.pending b else 0) + S b))
    ≡ plus (if t then record no_count { closed = less.dirty; settled = five (λ b. slice_index less.pending b) } else no_count) (mk o (c + s) (five B) (five S))
settle_step true less o c s B S =
    let e : (0 + c) + (less.dirty + s) ≡ less.dirty + (c + s) = omega arith in
    ap (λ (n : ℕ). mk (0 + o) n (five (λ b. 0 + B b)) (five (λ b. slice_index less.pending b + S b))) e
settle_step false less o c s B S = none_step o c s B S

pre_at : (took here : Bool) (h g : Gfid) (k kind : Kind) (there : Bool) (o c s : ℕ) (B S : ℕ → ℕ)
    → mk ((if took && here && (h.0 == g.0) && same_kind k kind && there then 1 else 0) + o) ((0 + c) + (0 + s)) (five (λ b. 0 + B b)) (five (λ b. 0 + S b))
    ≡ plus (count_here (if took && here then counted_in (Pre h k) else None) g kind there) (mk o (c + s) (five B) (five S))
pre_at true true h g k kind there o c s B S = pre_step ((h.0 == g.0) && same_kind k kind && there) o c s B S
pre_at true false h g k kind there o c s B S = none_step o c s B S
pre_at false here h g k kind there o c s B S = none_step o c s B S

post_at : (took here : Bool) (attempt : ℕ) (h g : Gfid) (k kind : Kind) (missed : List ℕ) (there : Bool) (o c s : ℕ) (B S : ℕ → ℕ)
    → mk (0 + o) (((if took && here && (h.0 == g.0) && same_kind k kind && there then 1 else 0) + c) + (0 + s))
    (five (λ b. (if took && here && (h.0 == g.0) && same_kind k kind && there then (if member missed b then 1 else 0) else 0) + B b)) (five (λ b. 0 + S b))
    ≡ plus (count_here (if took && here then counted_in (Post attempt h k missed) else None) g kind there) (mk o (c + s) (five B) (five S))
post_at true true attempt h g k kind missed there o c s B S = post_step ((h.0 == g.0) && same_kind k kind && there) missed o c s B S
post_at true false attempt h g k kind missed there o c s B S = none_step o c s B S
post_at false here attempt h g k kind missed there o c s B S = none_step o c s B S

settle_at : (took here : Bool) (h g : Gfid) (k kind : Kind) (less : Marks) (there : Bool) (o c s : ℕ) (B S : ℕ → ℕ)
    → mk (0 + o) ((0 + c) + ((if took && here && (h.0 == g.0) && same_kind k kind && there then less.dirty else 0) + s)) (five (λ b. 0 + B b))
    (five (λ b. (if took && here && (h.0 == g.0) && same_kind k kind && there then slice_index less.pending b else 0) + S b))
    ≡ plus (count_here (if took && here then counted_in (Settle h k less) else None) g kind there) (mk o (c + s) (five B) (five S))
settle_at true true h g k kind less there o c s B S = settle_step ((h.0 == g.0) && same_kind k kind && there) less o c s B S
settle_at true false h g k kind less there o c s B S = none_step o c s B S
settle_at false here h g k kind less there o c s B S = none_step o c s B S

other_at : (here : Bool) (g : Gfid) (kind : Kind) (there : Bool) (o c s : ℕ) (B S : ℕ → ℕ)
    → mk (0 + o) ((0 + c) + (0 + s)) (five (λ b. 0 + B b)) (five (λ b. 0 + S b)) ≡ plus (count_here (if here then None else None) g kind there) (mk o (c + s) (five B) (five S))
other_at true g kind there o c s B S = none_step o c s B S
other_at false g kind there o c s B S = none_step o c s B S

-- the sums after a line are what the line counts and the sums before it
pub count_step : (p : Plan) (line : Line) (older : List Line) (x : ℕ) (g : Gfid) (kind : Kind)
    → count_of p (line ∷ older) x g kind ≡ plus (count_here (counted_by x line) g kind (has_object p older g x)) (count_of p older x g kind)
count_step p (Ask a y (Pre h k) told took) older x g kind =
    pre_at took (y.0 == x) h g k kind (has_object p older g x) (sum_over (opens_op p x g kind) older) (sum_over (closes_op p x g kind) older) (sum_over (settles_dirty p x g kind) older)
    (λ b. sum_over (blames p x b g kind) older) (λ b. sum_over (settles_pending p x b g kind) older)
count_step p (Ask a y (Post attempt h k missed) told took) older x g kind =
    post_at took (y.0 == x) attempt h g k kind missed (has_object p older g x) (sum_over (opens_op p x g kind) older) (sum_over (closes_op p x g kind) older) (sum_over (settles_dirty p x g kind) older)
    (λ b. sum_over (blames p x b g kind) older) (λ b. sum_over (settles_pending p x b g kind) older)
count_step p (Ask a y (Settle h k less) told took) older x g kind =
    settle_at took (y.0 == x) h g k kind less (has_object p older g x) (sum_over (opens_op p x g kind) older) (sum_over (closes_op p x g kind) older) (sum_over (settles_dirty p x g kind) older)
    (λ b. sum_over (blames p x b g kind) older) (λ b. sum_over (settles_pending p x b g kind) older)
count_step p (Ask a y request told took) older x g kind =
    other_at (took && (y.0 == x)) g kind (has_object p older g x) (sum_over (opens_op p x g kind) older) (sum_over (closes_op p x g kind) older) (sum_over (settles_dirty p x g kind) older)
    (λ b. sum_over (blames p x b g kind) older) (λ b. sum_over (settles_pending p x b g kind) older)
count_step p line older x g kind =
    none_step (sum_over (opens_op p x g kind) older) (sum_over (closes_op p x g kind) older) (sum_over (settles_dirty p x g kind) older)
    (λ b. sum_over (blames p x b g kind) older) (λ b. sum_over (settles_pending p x b g kind) older)

-- nothing more changes no sums
plus_none : (p : Plan) (log : List Line) (x : ℕ) (g : Gfid) (kind : Kind) → plus no_count (count_of p log x g kind) ≡ count_of p log x g kind
plus_none p log x g kind =
    let o : 0 + sum_over (opens_op p x g kind) log ≡ sum_over (opens_op p x g kind) log = omega arith in
    let c : 0 + (sum_over (closes_op p x g kind) log + sum_over (settles_dirty p x g kind) log) ≡ sum_over (closes_op p x g kind) log + sum_over (settles_dirty p x g kind) log = omega arith in
    let b = five_same (λ b. 0 + sum_over (blames p x b g kind) log) (λ b. sum_over (blames p x b g kind) log) (λ b. zero_plus (sum_over (blames p x b g kind) log)) in
    let s = five_same (λ b. 0 + sum_over (settles_pending p x b g kind) log) (λ b. sum_over (settles_pending p x b g kind) log) (λ b. zero_plus (sum_over (settles_pending p x b g kind) log)) in
    four_same _ _ _ _ _ _ _ _ o c b s
  where
    zero_plus : (n : ℕ) → 0 + n ≡ n
    zero_plus n = omega arith

    four_same : (o o' c c' : ℕ) (b b' s s' : List ℕ) → o ≡ o' → c ≡ c' → b ≡ b' → s ≡ s' → mk o c b s ≡ mk o' c' b' s'
    four_same o o' c c' b b' s s' ho hc hb hs = rw (ho, hc, hb, hs) refl

-- ---- what is kept
found_after : (h g : Gfid) (c : Count) (t : List (Gfid × Count)) → lookup (is_at (gfid_cmp g)) (insert_entry gfid_cmp t h c) ≡ (if h.0 == g.0 then Some c else lookup (is_at (gfid_cmp g)) t)
found_after h g c [] = rw (same_gfid g h) (grind (arith, nat_tests))
found_after h g c (e ∷ t) = grind (arith, nat_tests, same_gfid g h, same_gfid g e.0, found_after h g c t)

-- a count is put into a list
one_list : (h g : Gfid) (c : Count) (t : List (Gfid × Count))
    → count_at g (insert_entry gfid_cmp t h (plus c (count_at h t))) ≡ (if (h.0 == g.0) && true then plus c (count_at g t) else count_at g t)
one_list h g c t = ap or_none (found_after h g (plus c (count_at h t)) t) ∙ by_test (h.0 == g.0) refl
  where
    by_test : (b : Bool) → (h.0 == g.0) ≡ b → or_none (if b then Some (plus c (count_at h t)) else lookup (is_at (gfid_cmp g)) t) ≡ (if b && true then plus c (count_at g t) else count_at g t)
    by_test true e = ap (λ (n : ℕ). plus c (or_none (lookup (is_at (gfid_cmp (record { 0 = n }))) t))) (eqb-true h.0 g.0 e)
    by_test false e = refl

other_list : (b : Bool) (c d : Count) → d ≡ (if b && false then c else d)
other_list true c d = refl
other_list false c d = refl

-- the counts after one was added to
abbrev pub added : Counted → Counts → Counts
added x counts = with_counts x.kind (insert_entry gfid_cmp (counts_for x.kind counts) x.gfid (plus x.count (count_at x.gfid (counts_for x.kind counts)))) counts

new_count : (h g : Gfid) (c : Count) (k kind : Kind) (counts : Counts)
    → count_at g (counts_for kind (with_counts k (insert_entry gfid_cmp (counts_for k counts) h (plus c (count_at h (counts_for k counts)))) counts))
    ≡ (if (h.0 == g.0) && same_kind k kind then plus c (count_at g (counts_for kind counts)) else count_at g (counts_for kind counts))
new_count h g c Bytes Bytes counts = one_list h g c counts.bytes
new_count h g c Attrs Attrs counts = one_list h g c counts.attrs
new_count h g c Names Names counts = one_list h g c counts.names
new_count h g c Bytes Attrs counts = other_list (h.0 == g.0) _ (count_at g counts.attrs)
new_count h g c Bytes Names counts = other_list (h.0 == g.0) _ (count_at g counts.names)
new_count h g c Attrs Bytes counts = other_list (h.0 == g.0) _ (count_at g counts.bytes)
new_count h g c Attrs Names counts = other_list (h.0 == g.0) _ (count_at g counts.names)
new_count h g c Names Bytes counts = other_list (h.0 == g.0) _ (count_at g counts.bytes)
new_count h g c Names Attrs counts = other_list (h.0 == g.0) _ (count_at g counts.attrs)

small_more : (n : ℕ) (c : Count) → IsSmall n c → IsSmall (suc n) c
small_more n c s = record { opened = omega (arith, s.opened); closed = omega (arith, s.closed); blamed = λ b l. omega (arith, s.blamed b l); settled = λ b l. omega (arith, s.settled b l) }

small_plus : (n : ℕ) (d c : Count) → IsOne d → IsSmall n c → IsSmall (suc n) (plus d c)
small_plus n d c o s = record {
  opened = omega (arith, o.opened, s.opened);
  closed = omega (arith, o.closed, s.closed);
  blamed = λ b l. omega (arith, five_at (λ b. slice_index d.blamed b + slice_index c.blamed b) b l, o.blamed b l, s.blamed b l);
  settled = λ b l. omega (arith, five_at (λ b. slice_index d.settled b + slice_index c.settled b) b l, o.settled b l, s.settled b l);
}

small_either : (b : Bool) (n : ℕ) (d c : Count) → IsOne d → IsSmall n c → IsSmall (suc n) (if b then plus d c else c)
small_either true n d c o s = small_plus n d c o s
small_either false n d c o s = small_more n c s

zero_small : (m b : ℕ) → b < 5 → slice_index (five (λ b. 0)) b ≤ m
zero_small m b l = rw (five_at (λ b. 0) b l) (omega arith)

-- what one request counts
pub one_pre : IsOne (record no_count { opened = 1 })
one_pre = record { opened = omega arith; closed = omega arith; blamed = zero_small 1; settled = zero_small (1 * 2 ^ 32) }

pub one_post : (blamed : List ℕ) → ((b : ℕ) → b < 5 → slice_index blamed b ≤ 1) → IsOne (record no_count { closed = 1; blamed = blamed })
one_post blamed h = record { opened = omega arith; closed = omega arith; blamed = h; settled = zero_small (1 * 2 ^ 32) }

pub one_settle : (closed : ℕ) (settled : List ℕ) → closed ≤ 4294967296 → ((b : ℕ) → b < 5 → slice_index settled b ≤ 4294967296) → IsOne (record no_count { closed = closed; settled = settled })
one_settle closed settled hc hs = record { opened = omega arith; closed = omega (arith, hc); blamed = zero_small 1; settled = λ b l. omega (arith, hs b l) }

-- a line that counts nothing here leaves what is kept
pub counted_same : (p : Plan) (line : Line) (older : List Line) (x : ℕ) (counts : Counts) → ((g : Gfid) (kind : Kind) → count_here (counted_by x line) g kind (has_object p older g x) ≡ no_count)
    → AreCounted p older x counts → AreCounted p (line ∷ older) x counts
counted_same p line older x counts nothing was = record {
  sums = λ g kind. was.sums g kind ∙ sym (count_step p line older x g kind ∙ ap (λ (c : Count). plus c (count_of p older x g kind)) (nothing g kind) ∙ plus_none p older x g kind);
  small = λ g kind. small_more (length older) (count_at g (counts_for kind counts)) (was.small g kind);
}

-- a line about an object that the brick lacks
pub counts_absent : (p : Plan) (line : Line) (older : List Line) (x : ℕ) (ct : Counted) → counted_by x line ≡ Some ct → has_object p older ct.gfid x ≡ false
    → (g : Gfid) (kind : Kind) → count_here (counted_by x line) g kind (has_object p older g x) ≡ no_count
counts_absent p line older x ct e lacks g kind = rw e (by_test (ct.gfid.0 == g.0) refl)
  where
    none_if : (b : Bool) → (if b && false then ct.count else no_count) ≡ no_count
    none_if true = refl
    none_if false = refl

    by_test : (b : Bool) → (ct.gfid.0 == g.0) ≡ b → (if b && same_kind ct.kind kind && has_object p older g x then ct.count else no_count) ≡ no_count
    by_test false h = refl
    by_test true h =
        let here : has_object p older g x ≡ false = ap (λ (n : ℕ). has_object p older (record { 0 = n }) x) (sym (eqb-true ct.gfid.0 g.0 h)) ∙ lacks in
        rw here (none_if (same_kind ct.kind kind))

-- a line about an object that the brick has
pub counted_more : (p : Plan) (line : Line) (older : List Line) (x : ℕ) (counts : Counts) (ct : Counted) → counted_by x line ≡ Some ct → has_object p older ct.gfid x ≡ true → IsOne ct.count
    → AreCounted p older x counts → AreCounted p (line ∷ older) x (added ct counts)
counted_more p line older x counts ct e has one was = record { sums = sums; small = small }
  where
    by_test : (g : Gfid) (kind : Kind) (b : Bool) → ((ct.gfid.0 == g.0) && same_kind ct.kind kind) ≡ b
        → (if b then plus ct.count (count_at g (counts_for kind counts)) else count_at g (counts_for kind counts)) ≡ plus (if b && has_object p older g x then ct.count else no_count) (count_of p older x g kind)
    by_test g kind false h = was.sums g kind ∙ sym (plus_none p older x g kind)
    by_test g kind true h =
        let same : ct.gfid.0 ≡ g.0 = eqb-true ct.gfid.0 g.0 (and_left (ct.gfid.0 == g.0) (same_kind ct.kind kind) h) in
        let here : has_object p older g x ≡ true = ap (λ (n : ℕ). has_object p older (record { 0 = n }) x) (sym same) ∙ has in
        rw here (ap (plus ct.count) (was.sums g kind))

    sums : (g : Gfid) (kind : Kind) → count_at g (counts_for kind (added ct counts)) ≡ count_of p (line ∷ older) x g kind
    sums g kind =
        new_count ct.gfid g ct.count ct.kind kind counts ∙ by_test g kind ((ct.gfid.0 == g.0) && same_kind ct.kind kind) refl
        ∙ sym (count_step p line older x g kind ∙ ap (λ (o : Option Counted). plus (count_here o g kind (has_object p older g x)) (count_of p older x g kind)) e)

    small : (g : Gfid) (kind : Kind) → IsSmall (length (line ∷ older)) (count_at g (counts_for kind (added ct counts)))
    small g kind =
        subst (IsSmall (suc (length older))) (sym (new_count ct.gfid g ct.count ct.kind kind counts))
        (small_either ((ct.gfid.0 == g.0) && same_kind ct.kind kind) (length older) ct.count (count_at g (counts_for kind counts)) one (was.small g kind))

-- ---- the numbers
-- what is left of a count
abbrev left_of : Count → Marks
left_of n = record { dirty = n.opened - n.closed; pending = five (λ b. slice_index n.blamed b - slice_index n.settled b) }

-- that is what the sums say
pub marks_are : (p : Plan) (log : List Line) (x : ℕ) (g : Gfid) (kind : Kind) (n : Count) → n ≡ count_of p log x g kind
    → left_of n ≡ (record { dirty = dirty_of p log x g kind; pending = five (λ c. pending_of p log x c g kind) })
marks_are p log x g kind n e = ap (λ (m : Count). left_of m) e
