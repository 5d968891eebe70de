-- Looks at all bricks of a volume show what stands there: which numbers are above 0, and whether a copy is good.
use Rattle.std.proofs.Common.{◌≡◌, ℕ, zero, suc, ◌<◌, ◌≤◌, ◌&&◌, ◌||◌, not, ◌==◌, Bool, true, false, inl, inr, refl, sym, ◌∙◌, subst, ap, arith, List, [], ◌∷◌, filter, Option, Some, None, true≢false}
use Rattle.std.specs.Prelude.{is_some, slice_index, if◌then◌else◌}
use Rattle.std.specs.List.{list_all, list_any}
use Rattle.std.specs.Option.{option_map}
use Rattle.std.proofs.lemmas.Bool.{eqb-true, cases_lt, or_right}
use Rattle.std.proofs.lemmas.Bool.Decides.{nat_tests}
use Rattle.afr_base.specs.Bricks.{all_five, below, is_nothing, member}
use Rattle.afr_base.specs.Keeping.{is_bytes, keeps}
use Rattle.afr_base.specs.Majority.{IsMajority, is_majority, majorities_share}
use Rattle.afr_base.specs.Marks.{is_zero_marks, marks_of}
use Rattle.afr_base.specs.SetLemmas.{below_all, most_same, some_member, within_below}
use Rattle.afr_base.specs.declared.ids.Gfid.{Gfid}
use Rattle.afr_base.specs.declared.ids.Kind.{Kind}
use Rattle.afr_choice.specs.Looks.{view_at}
use Rattle.afr_choice.specs.Verdict.{accuses_at, copies_of, good_copies, holders_of, is_accused, is_copy, is_holder, shown_missed}
use Rattle.afr_choice.specs.VerdictLemmas.{holders_are_reached, member_copies, member_good, member_holders, split_says}
use Rattle.afr_choice.specs.declared.looked.Looked.{Looked}
use Rattle.afr_object.specs.Tables.{copy_at, view_of}
use Rattle.afr_object.specs.declared.entry.View.{View}
use Rattle.afr_object.specs.Object.{Object}
use Rattle.afr_lines.specs.Log.{EachLine}
use Rattle.afr_lines.specs.declared.line.Line.{Line}
use Rattle.afr_plan.specs.declared.plan.Plan.{Plan}
use Rattle.afr_law.proofs.Model.Looks.{but_third, five_at}
use Rattle.afr_model.specs.HealReplies.{is_clean}
use Rattle.afr_model.specs.Healing.{marks_in}
use Rattle.afr_model.specs.Splits.{IsSplit, looked_at, view_among}
use Rattle.afr_model.specs.Sums.{has_object, pending_of}
use Rattle.afr_model.specs.Tables.{holds}
use Rattle.afr_model_moves.proofs.Tests.{most_no}
use Rattle.afr_law_tables.specs.Clear.{IsClear, IsClearOn}
use Rattle.afr_law_tables.specs.Fits.{FitsSums}
use Rattle.afr_law_tables.specs.SumLaws.{numbers_are_sums, sums_of_absent}
use Rattle.afr_law_tables.specs.TableLaws.{five_pending}
use Rattle.afr_law_quiet.proofs.Lists.Firsts.{Shown, view_then}
use Rattle.afr_law_quiet.proofs.Lists.Index.{zero_marks_are, zero_marks_say}

-- ---- tests of each member
all_at : (test : ℕ → Bool) (xs : List ℕ) → list_all test xs ≡ true → (b : ℕ) → member xs b ≡ true → test b ≡ true
all_at test [] h b m = absurd (cc m)
all_at test (x ∷ xs) h b m = go (test x) refl (x == b) refl h m (λ k l. all_at test xs k b l)
  where
    go : (hit : Bool) → test x ≡ hit → (same : Bool) → (x == b) ≡ same → (hit && list_all test xs) ≡ true → (same || member xs b) ≡ true → (list_all test xs ≡ true → member xs b ≡ true → test b ≡ true) → test b ≡ true
    go true e true f h m rest = subst (λ (y : ℕ). test y ≡ true) (eqb-true x b f) e
    go true e false f h m rest = rest h m
    go false e same f h m rest = absurd (cc h)

all_if : (test : ℕ → Bool) (xs : List ℕ) → ((b : ℕ) → member xs b ≡ true → test b ≡ true) → list_all test xs ≡ true
all_if test [] h = refl
all_if test (x ∷ xs) h = rw (h x (let same : (x == x) ≡ true = grind (arith, nat_tests) in rw same refl)) (all_if test xs (λ b m. h b (or_right (x == b) (member xs b) m)))

none_any : (test : ℕ → Bool) (xs : List ℕ) → ((b : ℕ) → test b ≡ false) → list_any test xs ≡ false
none_any test [] h = refl
none_any test (x ∷ xs) h = rw (h x) (none_any test xs h)

-- all bricks are a majority
pub below_most : (n : ℕ) → 0 < n → n ≤ 5 → is_majority n (below n) ≡ true
unfolding below
below_most zero some small = absurd (omega arith)
below_most (suc zero) some small = refl
below_most (suc (suc zero)) some small = refl
below_most (suc (suc (suc zero))) some small = refl
below_most (suc (suc (suc (suc zero)))) some small = refl
below_most (suc (suc (suc (suc (suc zero))))) some small = refl
below_most (suc (suc (suc (suc (suc (suc n)))))) some small = absurd (omega arith)

-- a set that has all bricks is a majority
pub whole_most : (n : ℕ) (s : List ℕ) → 0 < n → n ≤ 5 → ((b : ℕ) → b < n → member s b ≡ true) → is_majority n s ≡ true
whole_most n s some small whole = most_same n (member s) (member (below n)) (λ b low. whole b low ∙ sym (below_all n b small low)) ∙ below_most n some small

module _ (p : Plan) (begun : List Line) (g : Gfid) (kind : Kind) (looked : Looked) (some : 0 < p.shape.n) (small : p.shape.n ≤ 5) (shown : Shown p begun g looked) (whole : (b : ℕ) → b < p.shape.n → member looked.reached b ≡ true)
    (spread : IsMajority p.shape.n (has_object p begun g)) where
  -- ---- who holds the object
  holder_there : (b : ℕ) → b < p.shape.n → is_holder looked b ≡ has_object p begun g b
  holder_there b low = (
      let seen : view_at b looked ≡ view_then p begun g b = shown.seen b (whole b low) in
      rw (whole b low, seen) (mapped (copy_at g (holds p begun b)))
      )
    where
      mapped : (o : Option Object) → is_some (option_map view_of o) ≡ is_some o
      mapped None = refl
      mapped (Some o) = refl

  pub enough : is_majority p.shape.n (holders_of looked) ≡ true
  enough = most_same p.shape.n (member (holders_of looked)) (has_object p begun g) (λ b low. member_holders looked b (omega (arith, low, small)) ∙ holder_there b low) ∙ most_no p.shape.n (has_object p begun g) spread

  -- a copy on a brick that keeps the kind
  record Kept : Type 0 where
    brick : ℕ
    low : brick < p.shape.n
    there : is_copy p.shape looked kind brick ≡ true

  kept : Kept
  kept = (
      let w = majorities_share p.shape.n (has_object p begun g) (λ b. not (b == 2)) spread (but_third p.shape.n some small) in
      record { brick = w.0; low = w.1; there = rw (holder_there w.0 w.1, w.2) (stays p.shape.arbiter (is_bytes kind) (w.0 == 2) w.3) }
      )
    where
      stays : (x y z : Bool) → not z ≡ true → not (x && y && z) ≡ true
      stays x y z h = grind (arith, h)

  -- ---- the verdict of looks at all bricks
  abbrev here : Looked
  here = looked_at p begun (below p.shape.n) g

  same_members : (b : ℕ) → member looked.reached b ≡ member (below p.shape.n) b
  same_members b = go (member looked.reached b) refl (member (below p.shape.n) b) refl
    where
      go : (x : Bool) → member looked.reached b ≡ x → (y : Bool) → member (below p.shape.n) b ≡ y → x ≡ y
      go true e true f = refl
      go false e false f = refl
      go true e false f = absurd (true≢false (sym (below_all p.shape.n b small (shown.within b e)) ∙ f))
      go false e true f = absurd (true≢false (sym (whole b (within_below p.shape.n b f)) ∙ e))

  same_views : (b : ℕ) → member looked.reached b ≡ true → view_at b looked ≡ view_at b here
  same_views b m = (
      let low = shown.within b m in
      shown.seen b m ∙ among (member (below p.shape.n) b) (below_all p.shape.n b small low) ∙ sym (five_at (view_among p begun (below p.shape.n) g) b (omega (arith, low, small)))
      )
    where
      among : (x : Bool) → x ≡ true → view_then p begun g b ≡ (if x then view_then p begun g b else None)
      among true e = refl
      among false e = absurd (true≢false (sym e))

  both : (test : Option View → Bool) (b : ℕ) → (member looked.reached b && test (view_at b looked)) ≡ (member here.reached b && test (view_at b here))
  both test b = go (member looked.reached b) refl (member here.reached b) (same_members b)
    where
      go : (x : Bool) → member looked.reached b ≡ x → (y : Bool) → member looked.reached b ≡ y → (x && test (view_at b looked)) ≡ (y && test (view_at b here))
      go true e true f = ap test (same_views b e)
      go false e false f = refl
      go true e false f = absurd (true≢false (sym e ∙ f))
      go false e true f = absurd (true≢false (sym f ∙ e))

  same_good : good_copies p.shape looked kind ≡ good_copies p.shape here kind
  same_good = λ i. filter (λ b. (both is_some b i && keeps p.shape kind b) && not (list_any (λ x. both (shown_missed kind b) x i) all_five)) all_five

  some_copies : is_nothing (copies_of p.shape here kind) ≡ false
  some_copies = some_member (copies_of p.shape here kind) kept.brick (member_copies p.shape here kind kept.brick (let low = kept.low in omega (arith, low, small)) ∙ (λ i. sym (both is_some kept.brick) i && keeps p.shape kind kept.brick) ∙ kept.there)

  pub split_good : IsSplit p begun (below p.shape.n) g kind → is_nothing (good_copies p.shape looked kind) ≡ true
  split_good e = ap is_nothing same_good ∙ (split_says p.shape here kind e).2

  pub good_split : is_nothing (good_copies p.shape looked kind) ≡ true → IsSplit p begun (below p.shape.n) g kind
  good_split e = rw (below_most p.shape.n some small, some_copies, sym (ap is_nothing same_good) ∙ e) refl

  -- ---- numbers above 0
  module _ (fits : EachLine (FitsSums p) begun) (far : (x c : ℕ) → p.shape.n ≤ c → pending_of p begun x c g kind ≡ 0) where
    copy_seen : (b : ℕ) → b < p.shape.n → (o : Object) → copy_at g (holds p begun b) ≡ Some o → view_at b looked ≡ Some (view_of o)
    copy_seen b low o e = shown.seen b (whole b low) ∙ ap (option_map view_of) e

    pub clean_clear : is_clean kind looked ≡ true → IsClear p begun g kind
    clean_clear clean x low = go (copy_at g (holds p begun x)) refl
      where
        go : (o : Option Object) → copy_at g (holds p begun x) ≡ o → IsClearOn p begun g kind x
        go None e = (let none = sums_of_absent p begun fits x g kind e in (none.0, λ c less. none.1 c (omega (arith, less, small))))
        go (Some o) e = (
            let member_here : member (holders_of looked) x ≡ true = member_holders looked x (omega (arith, low, small)) ∙ holder_there x low ∙ ap is_some e in
            let zero_here : is_zero_marks (marks_in kind (view_at x looked)) ≡ true = all_at (λ b. is_zero_marks (marks_in kind (view_at b looked))) (holders_of looked) clean x member_here in
            let zeros = zero_marks_say (marks_of kind o.marks) (subst (λ (v : Option View). is_zero_marks (marks_in kind v) ≡ true) (copy_seen x low o e) zero_here) in
            let sums = numbers_are_sums p begun fits x g kind o e in
            (sym sums.0 ∙ zeros.0, λ c less. sym (sums.1 c (omega (arith, less, small))) ∙ zeros.1 c)
            )

    pub clear_clean : IsClear p begun g kind → is_clean kind looked ≡ true
    clear_clean clear = all_if (λ b. is_zero_marks (marks_in kind (view_at b looked))) (holders_of looked) each
      where
        each : (b : ℕ) → member (holders_of looked) b ≡ true → is_zero_marks (marks_in kind (view_at b looked)) ≡ true
        each b m = go (copy_at g (holds p begun b)) refl
          where
            low : b < p.shape.n
            low = shown.within b (holders_are_reached looked b m)

            there : has_object p begun g b ≡ true
            there = sym (holder_there b low) ∙ sym (member_holders looked b (omega (arith, low, small))) ∙ m

            go : (o : Option Object) → copy_at g (holds p begun b) ≡ o → is_zero_marks (marks_in kind (view_at b looked)) ≡ true
            go None e = absurd (true≢false (sym there ∙ ap is_some e))
            go (Some o) e = (
                let sums = numbers_are_sums p begun fits b g kind o e in
                let none : (c : ℕ) → c < 5 → slice_index (marks_of kind o.marks).pending c ≡ 0 = (λ c less. sums.1 c less ∙ elim (cases_lt c p.shape.n) [ inl h ↦ (clear b low).1 c h | inr h ↦ far b c h ]) in
                subst (λ (v : Option View). is_zero_marks (marks_in kind v) ≡ true) (sym (copy_seen b low o e)) (zero_marks_are (marks_of kind o.marks) (five_pending p begun b g kind o e) (sums.0 ∙ (clear b low).0) none)
                )

    -- where all numbers are 0 nobody accuses, so a copy is good
    pub clean_good : is_clean kind looked ≡ true → is_nothing (good_copies p.shape looked kind) ≡ false
    clean_good clean = some_member (good_copies p.shape looked kind) kept.brick (member_good p.shape looked kind kept.brick (let low = kept.low in omega (arith, low, small)) ∙ rw (kept.there, quiet) refl)
      where
        view_clean : (x : ℕ) (v : Option View) → view_at x looked ≡ v → member looked.reached x ≡ true → shown_missed kind kept.brick v ≡ false
        view_clean x None e m = refl
        view_clean x (Some view) e m = (
            let low = shown.within x m in
            let holds_it : is_holder looked x ≡ true = rw (m, e) refl in
            let member_here : member (holders_of looked) x ≡ true = member_holders looked x (omega (arith, low, small)) ∙ holds_it in
            let zero_here : is_zero_marks (marks_in kind (view_at x looked)) ≡ true = all_at (λ b. is_zero_marks (marks_in kind (view_at b looked))) (holders_of looked) clean x member_here in
            let zeros = zero_marks_say (marks_of kind view.marks) (subst (λ (v : Option View). is_zero_marks (marks_in kind v) ≡ true) e zero_here) in
            let none = zeros.1 kept.brick in
            rw none refl
            )

        silent : (x : ℕ) → accuses_at kind x kept.brick looked ≡ false
        silent x = go (member looked.reached x) refl
          where
            go : (m : Bool) → member looked.reached x ≡ m → (m && shown_missed kind kept.brick (view_at x looked)) ≡ false
            go true e = view_clean x (view_at x looked) refl e
            go false e = refl

        quiet : is_accused kind looked kept.brick ≡ false
        quiet = none_any (λ x. accuses_at kind x kept.brick looked) all_five silent
