-- What the last looks of a work show stands in lines of its actor.
use Rattle.std.proofs.Common.{◌≡◌, ◌≢◌, ℕ, suc, ◌<◌, ◌≤◌, Bool, true, false, ◌&&◌, not, ◌⊎◌, inl, inr, refl, sym, ap, ◌∙◌, subst, arith, List, [], ◌∷◌, length, Option, None, Some, ◌==◌, if◌then◌else◌, true≢false, zero}
use Rattle.std.specs.Prelude.{map, nat_lt, slice_index_or}
use Rattle.std.proofs.lemmas.Bool.Decides.{nat_tests}
use Rattle.afr_base.specs.Bricks.{all_five, member, and_left, and_right}
use Rattle.afr_base.specs.Majority.{IsMajority}
use Rattle.afr_base.specs.SetLemmas.{member_added, member_removed}
use Rattle.afr_base.specs.declared.ids.Gfid.{Gfid}
use Rattle.afr_base.specs.declared.ids.Kind.{Kind}
use Rattle.afr_choice.specs.Looks.{no_looks, with_look, without_look, view_at}
use Rattle.afr_choice.specs.LooksLemmas.{view_after_look, view_after_other_look, view_after_other_loss, length_after_look, length_after_loss}
use Rattle.afr_choice.specs.Verdict.{shown_missed}
use Rattle.afr_choice.specs.declared.looked.Looked.{Looked}
use Rattle.afr_object.specs.declared.entry.View.{View}
use Rattle.afr_lines.specs.Areas.{object_of_area}
use Rattle.afr_lines.specs.Log.{from_oldest}
use Rattle.afr_lines.specs.Work.{Work, work, is_of, is_end}
use Rattle.afr_lines.specs.declared.answer.Told.{Told}
use Rattle.afr_lines.specs.declared.answer.Told.TheVariants.{Seen, NoObject}
use Rattle.afr_lines.specs.declared.line.Line.{Line}
use Rattle.afr_lines.specs.declared.line.Line.TheVariants.{Ask}
use Rattle.afr_lines.specs.declared.request.Request.TheVariants as request
use Rattle.afr_lines.specs.declared.lock.Domain.TheVariants.{Work as WorkDomain}
use Rattle.afr_model.specs.Safe.{log_before}
use Rattle.afr_model.specs.Showing.{look_shows, looked_after, looked_by}
use Rattle.afr_law.proofs.Model.Cells.{below_length}
use Rattle.afr_law.specs.FreshReads.{ShowsNoMiss}
use Rattle.afr_model_moves.specs.Lines.{ask_by}
use Rattle.afr_law.specs.ModelFresh.{IsClearLook, IsOneOfLines}
use Rattle.afr_model_moves.proofs.ByPosition.{newest_at, older_at}
use Rattle.std.proofs.lemmas.Bool.{eqb-true}

-- there is a place for each brick's view
five_shown : (c : ℕ) (told : Told) (looked : Looked) → length looked.views ≡ 5 → length (look_shows c told looked).views ≡ 5
five_shown c (Seen view) looked e = length_after_look c (Some view) looked ∙ e
five_shown c NoObject looked e = length_after_look c None looked ∙ e
five_shown c told looked e = length_after_loss c looked ∙ e

five_either : (hit : Bool) (one other : Looked) → length one.views ≡ 5 → length other.views ≡ 5 → length (if hit then one else other).views ≡ 5
five_either true one other e f = e
five_either false one other e f = f

five_after : (g : Gfid) (line : Line) (looked : Looked) → length looked.views ≡ 5 → length (looked_after g line looked).views ≡ 5
five_after g (Ask y z (request.Look h) told took) looked e = five_either (h.0 == g.0) _ _ (five_shown z.0 told looked e) e
five_after g (Ask y z (request.Lock WorkDomain area) told took) looked e = five_either ((object_of_area area).0 == g.0) no_looks looked refl e
five_after g line looked e = e

five_views : (g : Gfid) (w : Work) → length (looked_by g w).views ≡ 5
five_views g [] = refl
five_views g (y ∷ w) = five_after g y.0 (looked_by g w) (five_views g w)

-- one of five values, by its place
pub five_at : (f : ℕ → Option View) (b : ℕ) → b < 5 → slice_index_or (map f all_five) b None ≡ f b
five_at f zero low = refl
five_at f (suc zero) low = refl
five_at f (suc (suc zero)) low = refl
five_at f (suc (suc (suc zero))) low = refl
five_at f (suc (suc (suc (suc zero)))) low = refl
five_at f (suc (suc (suc (suc (suc b))))) low = absurd (omega (arith, low))

-- all bricks but the third are a majority
pub but_third : (n : ℕ) → 0 < n → n ≤ 5 → IsMajority n (λ b. not (b == 2))
but_third zero some small = absurd (omega arith)
but_third (suc zero) some small = omega arith
but_third (suc (suc zero)) some small = omega arith
but_third (suc (suc (suc zero))) some small = omega arith
but_third (suc (suc (suc (suc zero)))) some small = omega arith
but_third (suc (suc (suc (suc (suc zero))))) some small = omega arith
but_third (suc (suc (suc (suc (suc (suc n)))))) some small = absurd (omega arith)

-- the work's first line stands in the log
begun_within : (a : ℕ) (log : List Line) → length (log_before (work a log) log) ≤ length log
begun_within a [] = omega arith
begun_within a (line ∷ log) = go (is_of a line) (is_end line) (work a log) (begun_within a log)
  where
    go : (own last : Bool) (w : Work) → length (log_before w log) ≤ length log → length (log_before (if own then (if last then [] else (line, log) ∷ w) else w) (line ∷ log)) ≤ suc (length log)
    go true true w h = omega arith
    go true false w h = omega (arith, h)
    go false last [] h = omega arith
    go false last (x ∷ w) h = omega (arith, h)

-- a line of the actor that stands in the log, at this position or later
record StandsAt (a : ℕ) (log : List Line) (since : ℕ) (y : Line × List Line) : Type 0 where
  own : is_of a y.0 ≡ true
  stands : from_oldest (length y.1) log ≡ Some y.0
  after : since ≤ length y.1

-- so does each line of the present work
of_work : (a : ℕ) (log : List Line) (y : Line × List Line) → IsOneOfLines y (work a log) → StandsAt a log (length (log_before (work a log) log)) y
of_work a [] y it = absurd it
of_work a (line ∷ log) y it = go (is_of a line) refl (is_end line) (work a log) (begun_within a log) (of_work a log y) it
  where
    later : (since : ℕ) → StandsAt a log since y → StandsAt a (line ∷ log) since y
    later since k = record { own = k.own; stands = older_at line log (length y.1) (below_length log (length y.1) y.0 k.stands) ∙ k.stands; after = k.after }

    go : (own : Bool) → is_of a line ≡ own → (last : Bool) (w : Work) → length (log_before w log) ≤ length log → (IsOneOfLines y w → StandsAt a log (length (log_before w log)) y)
        → IsOneOfLines y (if own then (if last then [] else (line, log) ∷ w) else w) → StandsAt a (line ∷ log) (length (log_before (if own then (if last then [] else (line, log) ∷ w) else w) (line ∷ log))) y
    go true mine true w low before it = absurd it
    go true mine false w low before (inl same) = subst (StandsAt a (line ∷ log) (length (log_before w log))) (sym same) (record { own = mine; stands = newest_at line log; after = low })
    go true mine false w low before (inr it) = later (length (log_before w log)) (before it)
    go false other last [] low before it = absurd it
    go false other last (z ∷ w) low before it = later (length (log_before (z ∷ w) log)) (before it)

module _ (a x : ℕ) (g : Gfid) (kind : Kind) (b : ℕ) (small : x < 5) where
  -- brick x answered its last look, and showed nothing that b missed
  record IsClearBy (looked : Looked) : Type 0 where
    reached : member looked.reached x ≡ true
    clear : shown_missed kind b (view_at x looked) ≡ false

  unlooked : IsClearBy no_looks → ⊥
  unlooked w = true≢false (sym w.reached)

  other_look : (c : ℕ) (view : Option View) (looked : Looked) → (c == x) ≡ false → IsClearBy (with_look c view looked) → IsClearBy looked
  other_look c view looked e w = record {
    reached = sym (member_added c looked.reached x ∙ rw e refl) ∙ w.reached;
    clear = ap (shown_missed kind b) (sym (view_after_other_look c x view looked (apart c e))) ∙ w.clear;
  }
    where
      apart : (c : ℕ) → (c == x) ≡ false → x ≢ c
      apart c e = grind (arith, nat_tests)

  other_loss : (c : ℕ) (looked : Looked) → IsClearBy (without_look c looked) → IsClearBy looked
  other_loss c looked w = record {
    reached = and_right (not (c == x)) (member looked.reached x) there;
    clear = ap (shown_missed kind b) (sym (view_after_other_loss c x looked (apart c (and_left (not (c == x)) (member looked.reached x) there)))) ∙ w.clear;
  }
    where
      there : (not (c == x) && member looked.reached x) ≡ true
      there = sym (member_removed c looked.reached x) ∙ w.reached

      apart : (c : ℕ) → not (c == x) ≡ true → x ≢ c
      apart c e = grind (arith, nat_tests)

  own_look : (c : ℕ) (view : Option View) (looked : Looked) → length looked.views ≡ 5 → (c == x) ≡ true → IsClearBy (with_look c view looked) → shown_missed kind b view ≡ false
  own_look c view looked five e w =
      let same : c ≡ x = eqb-true c x e in
      let here : view_at x (with_look x view looked) ≡ view = view_after_look x view looked (omega (arith, small, five)) in
      let shown : shown_missed kind b (view_at x (with_look x view looked)) ≡ false = subst (λ (d : ℕ). shown_missed kind b (view_at x (with_look d view looked)) ≡ false) same w.clear in
      ap (shown_missed kind b) (sym here) ∙ shown

  no_miss : (m : ℕ) → nat_lt 0 m ≡ false → m ≡ 0
  no_miss m e = grind (arith, nat_tests)

  -- a look's answer, or what was shown before it
  by_answer : (c : ℕ) (told : Told) (looked : Looked) → length looked.views ≡ 5 → (here : Bool) → (c == x) ≡ here → IsClearBy (look_shows c told looked) → ((c ≡ x) × ShowsNoMiss kind b told) ⊎ IsClearBy looked
  by_answer c (Seen view) looked five true e w = inl (eqb-true c x e, no_miss _ (own_look c (Some view) looked five e w))
  by_answer c (Seen view) looked five false e w = inr (other_look c (Some view) looked e w)
  by_answer c NoObject looked five true e w = inl (eqb-true c x e, tt)
  by_answer c NoObject looked five false e w = inr (other_look c None looked e w)
  by_answer c told looked five here e w = inr (other_loss c looked w)

  -- a line that looks at the object from brick x, or the looks before it
  line_look : (line : Line) (older log : List Line) (since : ℕ) (looked : Looked) → is_of a line ≡ true → from_oldest (length older) log ≡ Some line → length looked.views ≡ 5 → since ≤ length older
      → (IsClearBy looked → IsClearLook log a since x g kind b) → IsClearBy (looked_after g line looked) → IsClearLook log a since x g kind b
  line_look (Ask y z (request.Look h) told took) older log since looked mine stands five low before now = go (h.0 == g.0) refl now
    where
      new : h.0 ≡ g.0 → (z.0 ≡ x) × ShowsNoMiss kind b told → IsClearLook log a since x g kind b
      new object at = record {
        position = length older;
        told = told;
        took = took;
        line = stands ∙ (λ i. Some (ask_by (eqb-true y.0 a mine i) (at.0 i) (request.Look (record { 0 = object i })) told took));
        after = low;
        clear = at.1;
      }

      go : (hit : Bool) → (h.0 == g.0) ≡ hit → IsClearBy (if hit then look_shows z.0 told looked else looked) → IsClearLook log a since x g kind b
      go true e w = elim (by_answer z.0 told looked five (z.0 == x) refl w) [
        | inl here ↦ new (eqb-true h.0 g.0 e) here
        | inr was ↦ before was
      ]
      go false e w = before w
  line_look (Ask y z (request.Lock WorkDomain area) told took) older log since looked mine stands five low before now = go ((object_of_area area).0 == g.0) now
    where
      go : (hit : Bool) → IsClearBy (if hit then no_looks else looked) → IsClearLook log a since x g kind b
      go true w = absurd (unlooked w)
      go false w = before w
  line_look line older log since looked mine stands five low before now = before now

  -- a brick that answered the last look among some lines of the actor, and showed nothing, was looked at in one of them
  looked_at : (log : List Line) (since : ℕ) (some : Work) → ((y : Line × List Line) → IsOneOfLines y some → StandsAt a log since y) → IsClearBy (looked_by g some) → IsClearLook log a since x g kind b
  looked_at log since [] each now = absurd (unlooked now)
  looked_at log since (y ∷ some) each now =
      let here = each y (inl refl) in
      line_look y.0 y.1 log since (looked_by g some) here.own here.stands (five_views g some) here.after (λ w. looked_at log since some (λ z it. each z (inr it)) w) now

  pub looked_clear : (log : List Line) (some : Work) → ((y : Line × List Line) → IsOneOfLines y some → IsOneOfLines y (work a log)) → member (looked_by g some).reached x ≡ true → shown_missed kind b (view_at x (looked_by g some)) ≡ false
      → IsClearLook log a (length (log_before (work a log) log)) x g kind b
  looked_clear log some are reached clear = looked_at log (length (log_before (work a log) log)) some (λ y it. of_work a log y (are y it)) (record { reached = reached; clear = clear })
