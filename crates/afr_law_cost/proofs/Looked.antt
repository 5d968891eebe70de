-- What is left at most once the looks of a part are over.
use Rattle.std.proofs.Common.{◌≡◌, ℕ, suc, ◌+◌, ◌*◌, ◌<◌, ◌≤◌, ◌==◌, ◌&&◌, not, Bool, true, false, refl, sym, ◌∙◌, subst, ap, arith}
use Rattle.std.proofs.lemmas.Bool.{eqb-true}
use Rattle.std.proofs.lemmas.Bool.Decides.{nat_tests}
use Rattle.afr_base.specs.Majority.{count_below}
use Rattle.afr_base.specs.declared.ids.Gfid.{Gfid}
use Rattle.afr_base.specs.declared.ids.Kind.{Kind}
use Rattle.afr_base.specs.declared.ids.Kind.TheVariants.{Attrs, Bytes, Names}
use Rattle.afr_heal.proofs.Parts.{not_both}
use Rattle.afr_heal.specs.Engine.{has_part}
use Rattle.afr_heal.specs.Standing.{AfterLooks, Ending, First, Going, Healing, Looking, OfKind, Parting, Standing, Viewing, Working, behind}
use Rattle.afr_model_moves.specs.Register.{Exact, Finish, HealPart, HealPres, Looks, Mends, Opening, Piece, Reads, Settles, Step, holder, is_opening, len_of, over, span}
use Rattle.afr_model_moves.specs.Sets.{empty}
use Rattle.afr_model_moves.specs.Steps.{is_only, looks_at, mends_at, other, pres_at, reads_at, settles_at, sink}
use Rattle.afr_law_cost.specs.Left.{after_looks, done_at, giving, later_rest, left_at, left_in, lines_left, looking, onward, parts_left, parts_of, pieces, rest_of, times}
use Rattle.afr_law_cost.proofs.Counting.{count_but, count_none, count_one, left_most, left_set, pieces_most, times_less}
use Rattle.afr_counting.proofs.Counts.{count_most}
use Rattle.afr_law_cost.proofs.Bounds.{broken_lines, giving_most, going_lines, rest_giving, whole_lines}

-- what a set leaves of its bricks, whoever was asked
left_only : (n s : ℕ) (asked : ℕ → Bool) → left_in n (is_only s) asked ≤ 1
left_only n s asked = (let a = left_set n (is_only s) asked in let b = count_one n (is_only s) s (λ x h. eqb-true x s h) in omega (arith, a, b))

left_empty : (n : ℕ) (asked : ℕ → Bool) → left_in n empty asked ≤ 0
left_empty n asked = count_none n (λ x. empty x && not (asked x)) (λ x. refl)

left_but : (n : ℕ) (set asked : ℕ → Bool) (s : ℕ) → s < n → set s ≡ false → left_in n set asked + 1 ≤ n
left_but n set asked s low out = (let a = left_set n set asked in let b = count_but n set s low out in omega (arith, a, b))

module _ (n : ℕ) (keeps : ℕ → Kind → Bool) (r : Exact) (s : ℕ) where
  self : (s == s) ≡ true
  self = grind (arith, nat_tests)

  no_sink : sink keeps r s s ≡ false
  no_sink = (let e = self in rw e (aside (holder r.first_views s) (keeps s Bytes)))
    where
      aside : (h k : Bool) → (h && not true && k) ≡ false
      aside true k = refl
      aside false k = refl

  no_other : other r s s ≡ false
  no_other = (let e = self in rw e (aside (holder r.first_views s)))
    where
      aside : (h : Bool) → (h && not true) ≡ false
      aside true = refl
      aside false = refl

  -- the asked bricks of each step
  abbrev by_now : Step → ℕ → Bool
  by_now step = behind r step

  -- after the looks of the opening
  opening_rest : (kind : Kind) (part : HealPart) → part ≡ Opening → s < n
      → left_in n (reads_at n keeps r s kind part) (by_now Reads) + left_in n (pres_at keeps r s kind part) (by_now HealPres) + left_in n (mends_at keeps r s kind part) (by_now Mends) + left_in n (settles_at r kind part) (by_now Settles)
      + parts_left n (has_part kind part) (pieces (len_of (r.first_views s)) (done_at r)) + giving n r ≤ rest_of n kind
  opening_rest Attrs Opening e low =
      let a = left_only n s (by_now Reads) in let b = left_but n (other r s) (by_now HealPres) s low no_other in let c = left_but n (other r s) (by_now Mends) s low no_other in
      let d = left_most n (holder r.first_views) (by_now Settles) in let f = count_most n r.law.held in let g = count_most n r.law.healing in
      omega (arith, a, b, c, d, f, g)
  opening_rest Names Opening e low =
      let a = left_most n (reads_at n keeps r s Names Opening) (by_now Reads) in let b = left_most n (holder r.first_views) (by_now HealPres) in let c = left_most n (holder r.first_views) (by_now Mends) in
      let d = left_most n (holder r.first_views) (by_now Settles) in let f = count_most n r.law.held in let g = count_most n r.law.healing in
      omega (arith, a, b, c, d, f, g)
  opening_rest Bytes Opening e low =
      let a = left_empty n (by_now Reads) in let b = left_but n (sink keeps r s) (by_now HealPres) s low no_sink in let c = left_but n (sink keeps r s) (by_now Mends) s low no_sink in
      let d = left_empty n (by_now Settles) in let f = count_most n r.law.held in let g = count_most n r.law.healing in
      let h = times_less (suc (pieces (len_of (r.first_views s)) (done_at r))) 9 (4 * n + 1) (let k = pieces_most span (len_of (r.first_views s)) (done_at r) in omega (arith, k)) in
      let nine : times 9 (4 * n + 1) ≡ 36 * n + 9 = omega arith in
      omega (arith, a, b, c, d, f, g, h, nine)
  opening_rest kind Piece e low = absurd (cc e)
  opening_rest kind Finish e low = absurd (cc e)

  -- after those of a later part
  later_most : (kind : Kind) (part : HealPart) → is_opening part ≡ false → kind ≡ Bytes → s < n
      → left_in n (reads_at n keeps r s kind part) (by_now Reads) + left_in n (pres_at keeps r s kind part) (by_now HealPres) + left_in n (mends_at keeps r s kind part) (by_now Mends) + left_in n (settles_at r kind part) (by_now Settles)
      + count_below n r.law.held ≤ 2 * n
  later_most Bytes Piece e is low =
      let a = left_only n s (by_now Reads) in let b = left_empty n (by_now HealPres) in let c = left_but n (sink keeps r s) (by_now Mends) s low no_sink in
      let d = left_empty n (by_now Settles) in let f = count_most n r.law.held in
      omega (arith, a, b, c, d, f)
  later_most Bytes Finish e is low =
      let a = left_empty n (by_now Reads) in let b = left_empty n (by_now HealPres) in let c = left_empty n (by_now Mends) in
      let d = left_most n (holder r.first_views) (by_now Settles) in let f = count_most n r.law.held in
      omega (arith, a, b, c, d, f)
  later_most Bytes Opening e is low = absurd (cc e)
  later_most Attrs part e is low = absurd (cc is)
  later_most Names part e is low = absurd (cc is)

  later_all : (kind : Kind) (part : HealPart) → is_opening part ≡ false → kind ≡ Bytes → s < n → (p : ℕ)
      → left_in n (reads_at n keeps r s kind part) (by_now Reads) + left_in n (pres_at keeps r s kind part) (by_now HealPres) + left_in n (mends_at keeps r s kind part) (by_now Mends) + left_in n (settles_at r kind part) (by_now Settles)
      + p + giving n r ≤ 2 * n + p + count_below n r.law.healing + 1
  later_all kind part e is low p = (let h = later_most kind part e is low in omega (arith, h))

module _ (n : ℕ) (keeps : ℕ → Kind → Bool) (r : Exact) (s : ℕ) (g : Gfid) (kind : Kind) where
  of_bytes : (kind : Kind) (part : HealPart) → is_opening part ≡ false → OfKind kind part → kind ≡ Bytes
  of_bytes Bytes part e o = refl
  of_bytes Attrs Opening e o = absurd (cc e)
  of_bytes Attrs Piece e o = absurd o
  of_bytes Attrs Finish e o = absurd o
  of_bytes Names Opening e o = absurd (cc e)
  of_bytes Names Piece e o = absurd o
  of_bytes Names Finish e o = absurd o

  after_first : r.part ≡ Opening → AfterLooks n keeps r s g kind → after_looks n keeps r s kind ≤ rest_of n kind
  after_first opening k = rw k.is_kind (opening_rest n keeps r s kind r.part opening k.below)

  after_later : is_opening r.part ≡ false → AfterLooks n keeps r s g kind → after_looks n keeps r s kind ≤ later_rest n r s kind
  after_later later k = rw k.is_kind (later_all n keeps r s kind r.part later (of_bytes kind r.part later k.of_kind) k.below (parts_of n r s kind))

  pub looks_not : (part : HealPart) → r.part ≡ part → r.step ≡ Looks → r.broken ≡ false → over n (looks_at r part) r.asked ≡ false → lines_left n keeps r s kind ≡ left_in n (looks_at r part) r.asked + onward n r s kind (is_opening part)
  looks_not part is at whole more = whole_lines n keeps r s kind whole ∙ ap (left_at n keeps r s kind) at ∙ subst (λ (part : HealPart). over n (looks_at r part) r.asked ≡ false → left_at n keeps r s kind Looks ≡ left_in n (looks_at r part) r.asked + onward n r s kind (is_opening part)) is (λ e. off_looking (over n (looks_at r r.part) r.asked) e) more
    where
      off_looking : (f : Bool) → f ≡ false → looking n keeps r s kind f ≡ left_in n (looks_at r r.part) r.asked + onward n r s kind (is_opening r.part)
      off_looking true e = absurd (not_both true refl e)
      off_looking false e = refl

  -- at the looks of the opening, some left or not
  pub bound_looks : 0 < n → r.step ≡ Looks → r.part ≡ Opening → Standing n keeps r s g kind → lines_left n keeps r s kind ≤ left_in n r.law.held r.asked + rest_of n kind
  bound_looks some at opening (First k) = absurd (cc (sym at ∙ k.step))
  bound_looks some at opening (Healing k) = absurd (cc (sym at ∙ k.step))
  bound_looks some at opening (Working k) = absurd (cc (sym at ∙ k.step))
  bound_looks some at opening (Looking k) = (let h = looks_not Opening opening at k.whole k.more in omega (arith, h))
  bound_looks some at opening (Parting k) = absurd (cc (sym at ∙ k.step))
  bound_looks some at opening (Viewing k) = absurd (not_both (is_opening r.part) (ap is_opening opening) k.part)
  bound_looks some at opening (Going k) = (let h = going_lines n keeps r s kind g k in let j = after_first opening k in omega (arith, h, j))
  bound_looks some at opening (Ending k) = (let h = broken_lines n keeps r s kind k.broken in let j = giving_most n keeps r s kind in let i = rest_giving n keeps r s kind some in omega (arith, h, j, i))

  -- and of a later part
  pub bound_views : r.step ≡ Looks → is_opening r.part ≡ false → Standing n keeps r s g kind → lines_left n keeps r s kind ≤ left_in n r.first_reached r.asked + later_rest n r s kind
  bound_views at later (First k) = absurd (cc (sym at ∙ k.step))
  bound_views at later (Healing k) = absurd (cc (sym at ∙ k.step))
  bound_views at later (Working k) = absurd (cc (sym at ∙ k.step))
  bound_views at later (Looking k) = absurd (not_both (is_opening r.part) (ap is_opening k.opening) later)
  bound_views at later (Parting k) = absurd (cc (sym at ∙ k.step))
  bound_views at later (Viewing k) = part r.part refl later
    where
      part : (part : HealPart) → r.part ≡ part → is_opening part ≡ false → lines_left n keeps r s kind ≤ left_in n r.first_reached r.asked + later_rest n r s kind
      part Opening e h = absurd (cc h)
      part Piece e h = (let h = looks_not Piece e at k.whole k.more in omega (arith, h))
      part Finish e h = (let h = looks_not Finish e at k.whole k.more in omega (arith, h))
  bound_views at later (Going k) = (let h = going_lines n keeps r s kind g k in let j = after_later later k in omega (arith, h, j))
  bound_views at later (Ending k) = (let h = broken_lines n keeps r s kind k.broken in let j = count_most n r.law.held in omega (arith, h, j))
