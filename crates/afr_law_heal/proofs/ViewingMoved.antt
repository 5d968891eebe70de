-- Where no brick shows in a later part that the source moved, the looks let the heal go on with it.
use Rattle.std.proofs.Common.{ℕ, ◌≡◌, ◌<◌, ◌≤◌, ◌&&◌, ◌||◌, ◌==◌, ◌∙◌, [], ◌∷◌, Bool, None, Option, Some, arith, false, is_some, nat_lt, not, refl, subst, sym, true}
use Rattle.std.proofs.lemmas.Bool.Decides.{nat_tests}
use Rattle.afr_base.specs.Bricks.{all_five, from_table, member, minus}
use Rattle.afr_base.specs.Keeping.{keeps}
use Rattle.afr_base.specs.SetLemmas.{member_minus}
use Rattle.afr_base.specs.declared.ids.Kind.{Kind}
use Rattle.afr_base.specs.declared.ids.Kind.TheVariants.{Bytes}
use Rattle.afr_base.specs.declared.ids.Shape.{Shape}
use Rattle.afr_choice.specs.Looks.{view_at}
use Rattle.afr_choice.specs.Verdict.{accuses_at, copies_of, is_holder, shown_missed}
use Rattle.afr_choice.specs.VerdictLemmas.{member_copies}
use Rattle.afr_choice.specs.declared.looked.Looked.{Looked}
use Rattle.afr_heal.proofs.Parts.{both, denied, pair}
use Rattle.afr_law_heal.proofs.PartingEnds.{holds_it}
use Rattle.afr_law_heal.proofs.PartingLemmas.{filter_none}
use Rattle.afr_law_heal.specs.Stages.{IsReached}
use Rattle.afr_model.specs.Moved.{accuser, len_in, or_brick, unlike}
use Rattle.afr_choice.proofs.Agreement.{accuses_same}
use Rattle.afr_model_moves.proofs.Tests.{all_no, deny}
use Rattle.afr_model_moves.specs.Keeps.{keeps_in}
use Rattle.afr_model_moves.specs.Register.{Exact, Finish, HealPart, Opening, Piece, accuses, all, holder, is_opening, len_of, unaccused}
use Rattle.afr_model_moves.specs.Steps.{goes_on_at, sink}
use Rattle.afr_object.specs.declared.entry.View.{View}
use Rattle.afr_heal_machine.specs.Outcome.{mover}

-- ---- views
none_missed : (kind : Kind) (s : ℕ) (view : Option View) → shown_missed kind s view ≡ false → not (accuses kind view s) ≡ true
none_missed kind s view h = deny (accuses kind view s) (sym (accuses_same kind s view) ∙ h)

not_shown : (kind : Kind) (s : ℕ) (view : Option View) → (is_some view ≡ true → ⊥) → not (accuses kind view s) ≡ true
not_shown kind s None h = refl
not_shown kind s (Some view) h = absurd (h refl)

len_same : (v : Option View) → len_in v ≡ len_of v
len_same None = refl
len_same (Some view) = refl

not_alone : (x s : ℕ) → (x == s) ≡ false → member (s ∷ []) x ≡ false
not_alone x s e = grind (arith, nat_tests, e)

-- the first that is there
first_off : (a b : Option ℕ) → or_brick a b ≡ None → a ≡ None
first_off None b h = refl
first_off (Some x) b h = absurd (cc h)

second_off : (a b : Option ℕ) → or_brick a b ≡ None → b ≡ None
second_off None b h = h
second_off (Some x) b h = absurd (cc h)

module _ (shape : Shape) (kind : Kind) (seen looked : Looked) (s : ℕ) (few : shape.n ≤ 5) (shown : IsReached looked) where
  -- nobody accuses the source
  nobody_blames : accuser kind s looked ≡ None → unaccused shape.n kind (λ x. view_at x looked) s ≡ true
  nobody_blames h = all_no shape.n (λ x. not (accuses kind (view_at x looked) s)) each
    where
      each : (x : ℕ) → x < shape.n → not (accuses kind (view_at x looked) s) ≡ true
      each x l = by (member looked.reached x) refl
          (filter_none (λ x. accuses_at kind x s looked) all_five h x (from_table 5 (member all_five) refl x (omega (arith, l, few))))
        where
          by : (m : Bool) → member looked.reached x ≡ m → (m && shown_missed kind s (view_at x looked)) ≡ false → not (accuses kind (view_at x looked) s) ≡ true
          by true e none = none_missed kind s (view_at x looked) none
          by false e none = not_shown kind s (view_at x looked) (λ is. cc (sym e ∙ shown x is))

module _ (shape : Shape) (r : Exact) (seen looked : Looked) (s : ℕ) (few : shape.n ≤ 5) (held : IsReached seen) (first : r.first_views ≡ (λ x. view_at x seen)) (now : r.views ≡ (λ x. view_at x looked)) where
  -- all sinks are as long as the source
  alike : unlike s (minus (copies_of shape seen Bytes) (s ∷ [])) looked ≡ None → all shape.n (λ x. not (sink (keeps_in shape) r s x) || (len_of (r.views x) == len_of (r.views s))) ≡ true
  alike h = all_no shape.n _ each
    where
      same_len : (x : ℕ) → not (len_in (view_at x looked) == len_in (view_at s looked)) ≡ false → (len_of (r.views x) == len_of (r.views s)) ≡ true
      same_len x e = rw (now, ← len_same (view_at x looked), ← len_same (view_at s looked)) (undo (len_in (view_at x looked) == len_in (view_at s looked)) e)
        where
          undo : (a : Bool) → not a ≡ false → a ≡ true
          undo true e = refl
          undo false e = absurd (cc e)

      each : (x : ℕ) → x < shape.n → (not (sink (keeps_in shape) r s x) || (len_of (r.views x) == len_of (r.views s))) ≡ true
      each x l = by (sink (keeps_in shape) r s x) refl
        where
          by : (f : Bool) → sink (keeps_in shape) r s x ≡ f → (not f || (len_of (r.views x) == len_of (r.views s))) ≡ true
          by false e = refl
          by true e =
              let two = both (holder r.first_views x && not (x == s)) (keeps_in shape x Bytes) e in
              let one = both (holder r.first_views x) (not (x == s)) two.0 in
              let view : holder (λ y. view_at y seen) x ≡ true = subst (λ (views : ℕ → Option View). holder views x ≡ true) first one.0 in
              let copy : member (copies_of shape seen Bytes) x ≡ true = member_copies shape seen Bytes x (omega (arith, l, few)) ∙ pair (is_holder seen x) (keeps shape Bytes x) (holds_it shape seen held x view) (both (nat_lt x 5) (keeps shape Bytes x) two.1).1 in
              let other : member (s ∷ []) x ≡ false = not_alone x s (denied (x == s) one.1) in
              same_len x (filter_none (λ x. not (len_in (view_at x looked) == len_in (view_at s looked))) (minus (copies_of shape seen Bytes) (s ∷ [])) h x (member_minus (copies_of shape seen Bytes) (s ∷ []) x ∙ rw (other, copy) refl))

-- nobody shows that it moved: the present looks let the heal go on
pub goes_unmoved : (shape : Shape) (r : Exact) (part : HealPart) (seen looked : Looked) (s : ℕ) → shape.n ≤ 5 → IsReached seen → IsReached looked → r.law.kind ≡ Bytes → r.first_views ≡ (λ x. view_at x seen) → r.views ≡ (λ x. view_at x looked)
    → is_opening part ≡ false → mover shape Bytes part s seen looked ≡ None → goes_on_at shape.n (keeps_in shape) r s part ≡ true
goes_unmoved shape r Opening seen looked s few held shown is_kind first now later h = absurd (cc later)
goes_unmoved shape r Piece seen looked s few held shown is_kind first now later h = rw (is_kind, now) (nobody_blames shape Bytes seen looked s few shown (first_off _ None h))
goes_unmoved shape r Finish seen looked s few held shown is_kind first now later h =
    pair _ _ (rw (is_kind, now) (nobody_blames shape Bytes seen looked s few shown (first_off _ _ h))) (alike shape r seen looked s few held first now (second_off _ _ h))
