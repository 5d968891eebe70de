-- How a heal is answered that ends in a later part: it failed, or its source moved.
use Rattle.std.proofs.Common.{ℕ, ◌≡◌, ◌<◌, ◌≤◌, ◌&&◌, ◌||◌, ◌==◌, ◌∙◌, if◌then◌else◌, [], ◌∷◌, Bool, List, None, Option, Some, arith, false, inl, inr, is_some, nat_lt, not, refl, sym, true}
use Rattle.std.proofs.lemmas.Bool.Decides.{eqb_tells, nat_tests}
use Rattle.afr_base.specs.Bricks.{is_nothing, lowest, member, minus}
use Rattle.afr_base.specs.Keeping.{keeps}
use Rattle.afr_base.specs.SetLemmas.{member_minus}
use Rattle.afr_base.specs.declared.ids.Gfid.{Gfid}
use Rattle.afr_base.specs.declared.ids.Kind.{Kind}
use Rattle.afr_base.specs.declared.ids.Kind.TheVariants.{Bytes}
use Rattle.afr_base.specs.declared.ids.Shape.{Shape}
use Rattle.afr_choice.specs.Looks.{view_at}
use Rattle.afr_choice.specs.Verdict.{copies_of, holders_of, is_copy, is_holder}
use Rattle.afr_choice.specs.VerdictLemmas.{copies_below, member_copies, member_holders}
use Rattle.afr_choice.specs.declared.looked.Looked.{Looked}
use Rattle.afr_heal.proofs.Parts.{both, deny, denied, not_both, pair}
use Rattle.afr_law_heal.proofs.PartingLemmas.{some_left}
use Rattle.afr_law_heal.specs.Stages.{IsReached}
use Rattle.afr_lines.specs.Work.{Work}
use Rattle.afr_model.specs.HealReplies.{by_first, by_moved, heal_reply, is_settled}
use Rattle.afr_model.specs.Healing.{busy_by, first_by, settled_at, source_of, whole_of}
use Rattle.afr_model.specs.Moved.{accuser, is_whole_by, moved_by, or_brick, pieces, unlike}
use Rattle.afr_model.specs.Showing.{among, looked_by, prepared}
use Rattle.afr_model_moves.proofs.Tests.{same_self}
use Rattle.afr_model_moves.specs.Keeps.{keeps_in}
use Rattle.afr_model_moves.specs.Register.{holder}
use Rattle.afr_object.specs.declared.entry.View.{View}

-- ---- the reply
module _ (shape : Shape) (g : Gfid) (kind : Kind) (w : Work) where
  -- where no cause came before, and not each holder has settled, it failed or its source moved
  pub late_reply : busy_by w ≡ None → by_first shape kind (first_by w) ≡ None → is_settled w ≡ false → (m : Option ℕ) → moved_by shape g kind w ≡ m → heal_reply shape g kind w ≡ Some (by_moved m)
  late_reply free none unsettled m e = rw (free, none, unsettled, e) refl

  -- where a brick of the first looks is not looked at again, nobody shows that the source moved
  pub moved_unseen : is_nothing (minus (first_by w).looked.reached (looked_by g w).reached) ≡ false → moved_by shape g kind w ≡ None
  moved_unseen e = rw e (go (not (nat_lt 1 (pieces w))) _)
    where
      go : (f : Bool) (rest : Option ℕ) → (if f || true then None else rest) ≡ None
      go true rest = refl
      go false rest = refl

  -- where all are, the present looks say who does
  pub moved_seen : (s : ℕ) (seen looked : Looked) (f : Bool) → nat_lt 1 (pieces w) ≡ true → (first_by w).looked ≡ seen → looked_by g w ≡ looked → is_nothing (minus seen.reached looked.reached) ≡ true → source_of shape kind w ≡ s → is_whole_by (whole_of g kind) w ≡ f
      → moved_by shape g kind w ≡ or_brick (accuser kind s looked) (if f then unlike s (minus (copies_of shape seen kind) (s ∷ [])) looked else None)
  moved_seen s seen looked f more first again all source whole = rw (source, more, whole, first, again, all) refl

-- ---- holders
module _ (shape : Shape) (seen : Looked) (shown : IsReached seen) where
  -- who is a holder by the views has answered
  pub has_view : (v : Option View) → holder (λ x. v) 0 ≡ true → is_some v ≡ true
  has_view None h = absurd (cc h)
  has_view (Some view) h = refl

  view_held : (v : Option View) → is_some v ≡ true → holder (λ x. v) 0 ≡ true
  view_held None h = absurd (cc h)
  view_held (Some view) h = refl

  pub holds_it : (x : ℕ) → holder (λ y. view_at y seen) x ≡ true → is_holder seen x ≡ true
  holds_it x h = let is = has_view (view_at x seen) h in pair (member seen.reached x) (is_some (view_at x seen)) (shown x is) is

  holder_in : (x : ℕ) → x < 5 → holder (λ y. view_at y seen) x ≡ true → member (holders_of seen) x ≡ true
  holder_in x l h = member_holders seen x l ∙ holds_it x h

  -- a holder that has not settled
  pub not_settled : (w : Work) (x : ℕ) → (first_by w).looked ≡ seen → x < 5 → holder (λ y. view_at y seen) x ≡ true → member (among settled_at w) x ≡ false → is_settled w ≡ false
  not_settled w x first l h out = rw first (some_left (holders_of seen) (among settled_at w) x (holder_in x l h) out)

  -- the copy on which the heal raised no number is its source
  pub source_found : (w : Work) (s : ℕ) → shape.n ≤ 5 → (first_by w).looked ≡ seen → ((x : ℕ) → member seen.reached x ≡ true → x < shape.n) → s < shape.n → holder (λ y. view_at y seen) s ≡ true → keeps_in shape s Bytes ≡ true
      → ((x : ℕ) → x < shape.n → member (among prepared w) x ≡ (holder (λ y. view_at y seen) x && not (x == s) && keeps_in shape x Bytes)) → source_of shape Bytes w ≡ s
  source_found w s few first low l h kept opened = rw first (only (minus copies (among prepared w)) (λ x. member_minus copies (among prepared w) x))
    where
      copies : List ℕ
      copies = copies_of shape seen Bytes

      there : member copies s ≡ true
      there = member_copies shape seen Bytes s (omega (arith, few, l)) ∙ pair (is_holder seen s) (keeps shape Bytes s) (holds_it s h) (both (nat_lt s 5) (keeps shape Bytes s) kept).1

      raised_not : member (among prepared w) s ≡ false
      raised_not = opened s l ∙ rw (same_self s) (off (holder (λ y. view_at y seen) s) (keeps_in shape s Bytes))
        where
          off : (a c : Bool) → ((a && false) && c) ≡ false
          off true c = refl
          off false c = refl

      none_else : (x : ℕ) → (x == s) ≡ false → member copies x ≡ true → member (among prepared w) x ≡ true
      none_else x d m =
          let small : x < 5 = copies_below shape seen Bytes x m in
          let copy : is_copy shape seen Bytes x ≡ true = sym (member_copies shape seen Bytes x small) ∙ m in
          let two = both (is_holder seen x) (keeps shape Bytes x) copy in
          let held = both (member seen.reached x) (is_some (view_at x seen)) two.0 in
          let low5 : nat_lt x 5 ≡ true = grind (arith, nat_tests, small) in
          opened x (low x held.0) ∙ pair _ (keeps_in shape x Bytes) (pair (holder (λ y. view_at y seen) x) (not (x == s)) (view_held (view_at x seen) held.1) (deny (x == s) d)) (pair (nat_lt x 5) (keeps shape Bytes x) low5 two.1)

      only : (l : List ℕ) → ((x : ℕ) → member l x ≡ (not (member (among prepared w) x) && member copies x)) → lowest l ≡ s
      only [] k = absurd (no (sym (k s) ∙ refl))
        where
          no : (not (member (among prepared w) s) && member copies s) ≡ false → ⊥
          no h = cc (rw (raised_not, there) at h)
      only (y ∷ ys) k = elim (eqb_tells y s) [
        | inl e ↦ e.1
        | inr e ↦ absurd (
            let two = both (not (member (among prepared w) y)) (member copies y) (sym (k y) ∙ rw (same_self y) refl) in
            not_both (member (among prepared w) y) (none_else y e.0 two.1) (denied (member (among prepared w) y) two.0))
      ]
