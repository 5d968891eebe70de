-- Where every brick has the object, a split-brain is that each copy is accused by some brick.
use Rattle.std.proofs.Common.{Bool, ap, arith, false, not, refl, sym, true, true≢false, ℕ, ◌&&◌, ◌<◌, ◌∙◌, ◌≡◌, ◌≤◌, List, Some}
use Rattle.std.specs.Prelude.{is_some, nat_lt}
use Rattle.afr_base.specs.Bricks.{and_left, and_right, below, is_nothing, member}
use Rattle.afr_base.specs.Keeping.{is_bytes, keeps}
use Rattle.afr_base.specs.SetLemmas.{below_all, no_member, some_member, within_below}
use Rattle.afr_base.specs.declared.ids.Gfid.{Gfid}
use Rattle.afr_base.specs.declared.ids.Kind.{Kind}
use Rattle.afr_choice.specs.Looks.{view_at}
use Rattle.afr_choice.specs.Verdict.{accuses_at, copies_of, good_copies, is_copy, is_holder}
use Rattle.afr_choice.specs.VerdictLemmas.{good_are_copies, good_below, member_copies, nobody_accuses}
use Rattle.afr_choice.specs.declared.looked.Looked.{Looked}
use Rattle.afr_object.specs.Tables.{copy_at, view_of}
use Rattle.afr_object.specs.Object.{Object}
use Rattle.afr_lines.specs.declared.line.Line.{Line}
use Rattle.afr_plan.specs.declared.plan.Plan.{Plan}
use Rattle.afr_model.specs.Safe.{accuses}
use Rattle.afr_model.specs.Splits.{IsSplit, looked_at, view_among}
use Rattle.afr_model.specs.Sums.{AreSums}
use Rattle.afr_model.specs.Tables.{holds}
use Rattle.afr_law.proofs.Model.Looks.{five_at}
use Rattle.afr_law_promises.proofs.Missed.Views.{split_accused}
use Rattle.afr_law_quiet.specs.Undisturbed.{IsEverywhere}
use Rattle.afr_law_quiet.proofs.Lists.Judged.{below_most}
use Rattle.afr_law_passes.specs.Converged.{IsUnchanged}
use Rattle.afr_law_passes.proofs.Spared.{everywhere_still, has_some}

-- each copy is accused by some brick
abbrev pub AllAccused : Plan → List Line → Gfid → Kind → Type 0
AllAccused p log g kind = (c : ℕ) → c < p.shape.n → keeps p.shape kind c ≡ true → (x : ℕ) × (x < p.shape.n) × (accuses p log g kind x c ≡ true)

-- brick 0 keeps every kind
first_keeps : (p : Plan) (kind : Kind) → keeps p.shape kind 0 ≡ true
first_keeps p kind = go p.shape.arbiter (is_bytes kind)
  where
    go : (x y : Bool) → not (x && y && false) ≡ true
    go true true = refl
    go true false = refl
    go false y = refl

module _ (p : Plan) (log : List Line) (sums : AreSums p log) (five : p.shape.n ≤ 5) (g : Gfid) (kind : Kind) (every : IsEverywhere p log g) where
  abbrev n : ℕ
  n = p.shape.n

  abbrev here : Looked
  here = looked_at p log (below p.shape.n) g

  pub all_accused : IsSplit p log (below p.shape.n) g kind → AllAccused p log g kind
  all_accused split c low kept = (
      let w = split_accused p log sums five (below n) (within_below n) g kind split c (below_all n c five low) (every c low) kept in
      (w.0, within_below n w.0 w.1, w.2)
      )

  view_is : (b : ℕ) (low : b < n) (o : Object) → copy_at g (holds p log b) ≡ Some o → view_at b here ≡ Some (view_of o)
  view_is b low o e = five_at (view_among p log (below n) g) b (omega (arith, low, five)) ∙ rw (below_all n b five low, e) refl

  accuses_here : (x c : ℕ) → x < n → c < n → accuses p log g kind x c ≡ true → accuses_at kind x c here ≡ true
  accuses_here x c low near e = (
      let w = has_some p log x g (every x low) in
      let same = (sums x g kind w.0 w.1).1 c (omega (arith, near, five)) in
      rw (below_all n x five low, view_is x low w.0 w.1) (ap (nat_lt 0) same ∙ e)
      )

  pub split_if : 0 < p.shape.n → AllAccused p log g kind → IsSplit p log (below p.shape.n) g kind
  split_if some all = rw (below_most n some five, copies, none_good) refl
    where
      copies : is_nothing (copies_of p.shape here kind) ≡ false
      copies = (
          let w = has_some p log 0 g (every 0 some) in
          some_member (copies_of p.shape here kind) 0 (member_copies p.shape here kind 0 (omega arith) ∙ rw (below_all n 0 five some, w.1, first_keeps p kind) refl)
          )

      none_good : is_nothing (good_copies p.shape here kind) ≡ true
      none_good = no_member (good_copies p.shape here kind) accused
        where
          accused : (b : ℕ) → member (good_copies p.shape here kind) b ≡ true → ⊥
          accused b m = (
              let small = good_below p.shape here kind b m in
              let copy : is_copy p.shape here kind b ≡ true = sym (member_copies p.shape here kind b small) ∙ good_are_copies p.shape here kind b m in
              let low = within_below n b (and_left (member (below n) b) (is_some (view_at b here)) (and_left (is_holder here b) (keeps p.shape kind b) copy)) in
              let w = all b low (and_right (is_holder here b) (keeps p.shape kind b) copy) in
              true≢false (sym (accuses_here w.0 b w.1 low w.2) ∙ nobody_accuses p.shape here kind b w.0 m (let near = w.1 in omega (arith, near, five)))
              )

-- so a split-brain was one where nothing has changed since
pub split_was : (p : Plan) (was log : List Line) → AreSums p was → AreSums p log → 0 < p.shape.n → p.shape.n ≤ 5 → (g : Gfid) (kind : Kind) → IsEverywhere p was g → IsEverywhere p log g → IsUnchanged p was log g kind → IsSplit p log (below p.shape.n) g kind → IsSplit p was (below p.shape.n) g kind
split_was p was log sums_was sums_log some five g kind every_was every_log u split = split_if p was sums_was five g kind every_was some (λ c low kept. accused c (all_accused p log sums_log five g kind every_log split c low kept))
  where
    accused : (c : ℕ) → (x : ℕ) × (x < p.shape.n) × (accuses p log g kind x c ≡ true) → (x : ℕ) × (x < p.shape.n) × (accuses p was g kind x c ≡ true)
    accused c w = (w.0, w.1, ap (nat_lt 0) (sym (u.pending w.0 c w.1)) ∙ w.2)

-- and stays one as long as nothing changes
pub split_stays : (p : Plan) (was log : List Line) → AreSums p was → AreSums p log → 0 < p.shape.n → p.shape.n ≤ 5 → (g : Gfid) (kind : Kind) → IsEverywhere p was g → IsUnchanged p was log g kind → IsSplit p was (below p.shape.n) g kind → IsSplit p log (below p.shape.n) g kind
split_stays p was log sums_was sums_log some five g kind every u split = split_if p log sums_log five g kind (everywhere_still p was log g kind u every) some (λ c low kept. accused c (all_accused p was sums_was five g kind every split c low kept))
  where
    accused : (c : ℕ) → (x : ℕ) × (x < p.shape.n) × (accuses p was g kind x c ≡ true) → (x : ℕ) × (x < p.shape.n) × (accuses p log g kind x c ≡ true)
    accused c w = (w.0, w.1, ap (nat_lt 0) (u.pending w.0 c w.1) ∙ w.2)
