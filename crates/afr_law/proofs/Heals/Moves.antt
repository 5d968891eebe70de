-- The Pre and the Mend of a heal are moves of the weak discipline.
use Rattle.afr_base.specs.Majority.{is_most}
use Rattle.afr_base.specs.declared.ids.Kind.{Kind}
use Rattle.afr_base.specs.declared.ids.Kind.TheVariants.{Attrs, Bytes, Names}
use Rattle.afr_model_moves.specs.Discipline.{MovesExactly, present}
use Rattle.afr_model_moves.specs.Register.{Exact, Finish, HealPart, Opening, Piece, accuses, good, holder, rank, unaccused, whole_area}
use Rattle.afr_model_moves.specs.Steps.{other, same_reads}
use Rattle.afr_law.proofs.Heals.Answers.{Honestly}
use Rattle.afr_law.proofs.Heals.Areas.{opening_or, part_area}
use Rattle.afr_law.proofs.Heals.Mends.{bool_or}
use Rattle.afr_law.proofs.Heals.Raises.{RaisesIn, raise_set, raises_now}
use Rattle.afr_law.proofs.Heals.Reads.{readings_now}
use Rattle.afr_law.proofs.Heals.Sights.{sights_now}
use Rattle.afr_law.proofs.Heals.Views.{SightsIn}
use Rattle.afr_model_moves.specs.Honest.{view_marks}
use Rattle.afr_model_moves.specs.Lines.{ask_by}
use Rattle.afr_model_moves.specs.Past.{Log, holds}
use Rattle.afr_law.proofs.Discipline.Projection.{goes_tally, tally_at}
use Rattle.afr_model_moves.specs.Tally.{Tally, tally}
use Rattle.afr_law.proofs.Discipline.Transactions.{held_view}
use Rattle.afr_lines.specs.declared.answer.Told.TheVariants.{Given}
use Rattle.afr_object.specs.declared.change.Repair.{Repair}
use Rattle.afr_object.specs.declared.change.Repair.TheVariants.{Copy, CutTo, PutAttrs, PutNames}
use Rattle.afr_object.specs.declared.entry.View.{View}
use Rattle.std.proofs.Common.{Bool, [], ap, arith, false, inl, inr, not, refl, subst, suc, sym, true, ℕ, ◌<◌, ◌∙◌, ◌∷◌, ◌≡◌, ◌≤◌, ◌⊎◌}
use Rattle.std.proofs.lemmas.Bool.Decides.{nat_tests}
use Rattle.std.specs.Prelude.{None, Option, Some, nat_lt, slice_index, ◌==◌, ◌^◌, List as Seq}
use Rattle.afr_model_moves.specs.Rules as weak
use Rattle.afr_model_moves.specs.Rules.{CoversAll}
use Rattle.afr_model_moves.specs.Cells.{Attr, Byte, Entry, covers}
use Rattle.afr_law.proofs.Heals.MendsAlong.{Wide}
use Rattle.afr_law.proofs.Heals.Mended.{Fits, read_is}
use Rattle.afr_model_moves.proofs.Tests.{all_yes, most_yes}
use Rattle.afr_base.specs.Bricks.{and_left, and_right}

-- the whole of a kind covers each of its cells
pub whole_covers : (g : ℕ) (kind : Kind) → CoversAll (Some (whole_area g kind)) g kind
unfolding covers
whole_covers g Bytes (Byte o i) real same k = (let low : nat_lt i (2 ^ 63) ≡ true = real in grind (arith, nat_tests))
whole_covers g Attrs (Attr o i) real same k = grind (arith, nat_tests)
whole_covers g Names (Entry o i) real same k = grind (arith, nat_tests)
whole_covers g Bytes (Attr o i) real same k = cc k
whole_covers g Bytes (Entry o i) real same k = cc k
whole_covers g Attrs (Byte o i) real same k = cc k
whole_covers g Attrs (Entry o i) real same k = cc k
whole_covers g Names (Byte o i) real same k = cc k
whole_covers g Names (Attr o i) real same k = cc k

-- the area of a part covers what its repair brings
pub fits_covers : (object : ℕ) (kind : Kind) (part : HealPart) (upto : ℕ) (views : ℕ → Option View) (reads : ℕ → Option ℕ) (s : ℕ) (repair : Repair) → ((part ≡ Opening → ⊥) → kind ≡ Bytes) → (part ≡ Finish → kind ≡ Bytes → ⊥)
    → Fits object kind part upto views reads s repair → weak.CoversMend (Some (part_area object kind upto part)) repair
unfolding covers
fits_covers object kind Opening upto views reads s (CutTo g len) bytes unfinished f (Byte h i) m = (let p = f.0 in rw f.1 (grind (arith, nat_tests)))
fits_covers object kind Piece upto views reads s (CutTo g len) bytes unfinished f cell m = absurd (cc (f.2))
fits_covers object kind Finish upto views reads s (CutTo g len) bytes unfinished f cell m = absurd (cc (f.2))
fits_covers object kind Opening upto views reads s (Copy g at some read) bytes unfinished f cell m = absurd (f.2 refl)
fits_covers object kind Piece upto views reads s (Copy g at some read) bytes unfinished f (Byte h i) m = (let p = f.0 in let q = f.3 in let u = f.4 in grind (arith, nat_tests))
fits_covers object kind Finish upto views reads s (Copy g at some read) bytes unfinished f cell m = absurd (unfinished refl f.1)
fits_covers object kind Opening upto views reads s (PutAttrs g read) bytes unfinished f (Attr h i) m = (let p = f.0 in rw f.1 (grind (arith, nat_tests)))
fits_covers object kind Piece upto views reads s (PutAttrs g read) bytes unfinished f cell m = absurd (cc (sym f.1 ∙ bytes (λ e. cc e)))
fits_covers object kind Finish upto views reads s (PutAttrs g read) bytes unfinished f cell m = absurd (cc (sym f.1 ∙ bytes (λ e. cc e)))
fits_covers object kind Opening upto views reads s (PutNames g from) bytes unfinished f (Entry h i) m = (let p = f.0 in rw f.1 (grind (arith, nat_tests)))
fits_covers object kind Piece upto views reads s (PutNames g from) bytes unfinished f cell m = absurd (cc (sym f.1 ∙ bytes (λ e. cc e)))
fits_covers object kind Finish upto views reads s (PutNames g from) bytes unfinished f cell m = absurd (cc (sym f.1 ∙ bytes (λ e. cc e)))
fits_covers object kind part upto views reads s (CutTo g len) bytes unfinished f (Attr h i) m = cc m
fits_covers object kind part upto views reads s (CutTo g len) bytes unfinished f (Entry h i) m = cc m
fits_covers object kind part upto views reads s (Copy g at some read) bytes unfinished f (Attr h i) m = cc m
fits_covers object kind part upto views reads s (Copy g at some read) bytes unfinished f (Entry h i) m = cc m
fits_covers object kind part upto views reads s (PutAttrs g read) bytes unfinished f (Byte h i) m = cc m
fits_covers object kind part upto views reads s (PutAttrs g read) bytes unfinished f (Entry h i) m = cc m
fits_covers object kind part upto views reads s (PutNames g from) bytes unfinished f (Byte h i) m = cc m
fits_covers object kind part upto views reads s (PutNames g from) bytes unfinished f (Attr h i) m = cc m

-- what a good copy is
good_holds : (n : ℕ) (keeps : ℕ → Kind → Bool) (kind : Kind) (views : ℕ → Option View) (s : ℕ) → good n keeps kind views s ≡ true → (holder views s ≡ true) × (keeps s kind ≡ true) × (unaccused n kind views s ≡ true)
good_holds n keeps kind views s e = (and_left _ _ (and_left _ _ e), and_right _ _ (and_left _ _ e), and_right _ _ e)

not_accused : (n : ℕ) (kind : Kind) (views : ℕ → Option View) (s x : ℕ) (v : View) → unaccused n kind views s ≡ true → x < n → views x ≡ Some v → slice_index (view_marks v kind).pending s ≡ 0
not_accused n kind views s x v e low is = zero (slice_index (view_marks v kind).pending s) (subst (λ (o : Option View). not (accuses kind o s) ≡ true) is (all_yes n (λ y. not (accuses kind (views y) s)) e x low))
  where
    zero : (m : ℕ) → not (not (m == 0)) ≡ true → m ≡ 0
    zero m k = grind (arith, nat_tests)

not_self : (keeps : ℕ → Kind → Bool) (views : ℕ → Option View) (s : ℕ) (kind : Kind) → (kind ≡ Names → ⊥) → raise_set keeps views s kind s ≡ true → ⊥
not_self keeps views s Names other e = other refl
not_self keeps views s Bytes other e = apart s (and_right _ _ (and_left _ _ e))
  where
    apart : (s : ℕ) → not (s == s) ≡ true → ⊥
    apart s e = grind (arith, nat_tests)
not_self keeps views s Attrs other e = apart s (and_right _ _ e)
  where
    apart : (s : ℕ) → not (s == s) ≡ true → ⊥
    apart s e = grind (arith, nat_tests)

names_or : (kind : Kind) → (kind ≡ Names) ⊎ (kind ≡ Names → ⊥)
names_or Names = inl refl
names_or Bytes = inr (λ e. cc e)
names_or Attrs = inr (λ e. cc e)

module _ (n : ℕ) (keeps : ℕ → Kind → Bool) (log : Log) (honest : Honestly log) (wide : Wide log) (moves : MovesExactly n keeps log) (t a : ℕ) where
  abbrev pub at : Exact
  at = present n keeps log t a

  -- a line of a heal from the looks on
  module _ (inside : at.law.heal ≡ true) (whole : at.broken ≡ false) (far : 7 ≤ rank at.step) where
    pub tally_here : tally_at log t a ≡ tally log t a
    tally_here = goes_tally n keeps log t a (λ e. (let z : rank at.step ≡ 0 = ap rank e in omega (arith, far, z)))

    sights : SightsIn n log t a at at.law
    sights = sights_now n keeps log honest moves t a inside whole

    raises : RaisesIn n keeps at at.law (tally log t a)
    raises = subst (λ (k : Tally). RaisesIn n keeps at at.law k) tally_here (raises_now n keeps log honest moves t a inside whole)

    pub first_view : (x : ℕ) → holder at.first_views x ≡ true → (v : View) × (at.law.first x ≡ Some v) × (at.first_views x ≡ Some v)
    first_view x e = (let w = held_view at.first_views x e in (w.0, sights.first x w.0 w.1, w.1))

    -- a majority of present views, none of which accuses s
    pub views_of : (s : ℕ) → s < n → rank at.step ≤ 11 → is_most n (holder at.first_views) ≡ true → good n keeps at.law.kind at.first_views s ≡ true → ((at.part ≡ Opening → ⊥) → (unaccused n at.law.kind at.views s ≡ true) × (8 ≤ rank at.step))
        → ((at.law.kind ≡ Names → ⊥) → at.possible s ≡ true) → weak.UnaccusedViews n keeps log t a at.law s
    views_of s below low most is_good later possible = record {
      among = holder at.first_views;
      majority = most_yes n (holder at.first_views) most;
      member = (good_holds n keeps at.law.kind at.first_views s is_good).0;
      below = below;
      copy = (good_holds n keeps at.law.kind at.first_views s is_good).1;
      aside = elim (names_or at.law.kind) [ inl e ↦ inl e | inr other ↦ inr (aside other (bool_or ((tally log t a).raises s))) ];
      good = λ x low_x holds. here x low_x holds (opening_or at.part);
    }
      where
        aside : (at.law.kind ≡ Names → ⊥) → ((tally log t a).raises s ≡ true) ⊎ ((tally log t a).raises s ≡ false) → (tally log t a).raises s ≡ false
        aside other (inl e) = absurd (not_self keeps at.first_views s at.law.kind other (raises.aside s s e (possible other)))
        aside other (inr e) = e

        here : (x : ℕ) → x < n → holder at.first_views x ≡ true → (at.part ≡ Opening) ⊎ (at.part ≡ Opening → ⊥) → (view : View) × (at.law.view x ≡ Some view) × (slice_index (view_marks view at.law.kind).pending s ≡ 0)
        here x low_x holds (inl first) = (
            let v = held_view at.first_views x holds in
            (v.0, sights.view far low x v.0 (sym (sights.same first far low x) ∙ v.1), not_accused n at.law.kind at.first_views s x v.0 (good_holds n keeps at.law.kind at.first_views s is_good).2 low_x v.1)
            )
        here x low_x holds (inr rest) = (
            let v = held_view at.views x (sights.still rest (later rest).1 low x low_x holds) in
            (v.0, sights.view far low x v.0 v.1, not_accused n at.law.kind at.views s x v.0 (later rest).0 low_x v.1)
            )

    -- a read of this part at a good copy
    pub read_of : (s p : ℕ) → rank at.step ≤ 11 → at.reads s ≡ Some p → weak.UnaccusedViews n keeps log t a at.law s → weak.ReadOf n keeps log t a at.law p
    read_of s p low is source = (
        let w = (readings_now n keeps log moves t a inside whole far s p is).1 in
        record {
          s = s;
          request = w.request;
          is = w.is ∙ ap (λ k. Some (ask_by a s w.request Given k)) (honest.given p a s w.request w.took w.is);
          since = w.since;
          past = w.past;
          source = source;
        }
        )

    pub each_read : (k : ℕ) (from : Seq (Option ℕ)) → rank at.step ≤ 11 → at.law.kind ≡ Names → at.part ≡ Opening → is_most n (holder at.first_views) ≡ true → same_reads at.reads k from ≡ true → weak.EachRead (weak.ReadOf n keeps log t a at.law) from
    each_read k [] low names first most e = tt
    each_read k (None ∷ from) low names first most e = each_read (suc k) from low names first most (and_right _ _ e)
    each_read k (Some p ∷ from) low names first most e = (
        let is : at.reads k ≡ Some p = read_is (at.reads k) (Some p) (and_left _ _ e) in
        let w = (readings_now n keeps log moves t a inside whole far k p is).1 in
        let is_good : good n keeps at.law.kind at.first_views k ≡ true = subst (λ c. good n keeps c at.first_views k ≡ true) (sym names) (w.good_copy names) in
        (read_of k p low is (views_of k w.below low most is_good (λ later. absurd (later first)) (λ other. absurd (other names))), each_read (suc k) from low names first most (and_right _ _ e))
        )
