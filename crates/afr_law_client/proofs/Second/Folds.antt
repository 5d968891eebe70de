-- Who missed something, with other lines before a part, and so a post-op of the second part.
use Rattle.std.proofs.Common.{◌≡◌, ℕ, ◌||◌, ◌==◌, Bool, true, false, List, [], ◌∷◌, ◌++◌, refl, sym, ◌∙◌, subst, if◌then◌else◌}
use Rattle.std.proofs.lemmas.Bool.{or_right}
use Rattle.afr_base.specs.Bricks.{added_if, below, member, minus}
use Rattle.afr_base.specs.SetLemmas.{member_added}
use Rattle.afr_base.specs.declared.ids.Gfid.{Gfid}
use Rattle.afr_base.proofs.TestLemmas.{or_more}
use Rattle.afr_choice.specs.declared.looked.Looked.{Looked}
use Rattle.afr_lines.specs.Work.{Work}
use Rattle.afr_lines.specs.declared.line.Line.{Line}
use Rattle.afr_lines.specs.declared.line.Line.TheVariants.{Ask}
use Rattle.afr_model.specs.Blamed.{misses, missing}
use Rattle.afr_model.specs.Showing.{among, applied_at, has, looked_by}
use Rattle.afr_model.specs.Standing.{locks_any, since, suffices}
use Rattle.afr_model.proofs.Cut.Anew.{same_applied, same_begun, same_change, same_looks, same_posting}
use Rattle.afr_law_client.specs.Second.Second.{BlamedWhole}

-- ---- who missed something
-- a line adds at most its brick
missing_more : (g : Gfid) (line : Line) (s t : List ℕ) (c : ℕ) → (member s c ≡ true → member t c ≡ true) → member (missing g line s) c ≡ true → member (missing g line t) c ≡ true
missing_more g (Ask a b request told took) s t c more h = by (misses g request told) h
  where
    by : (m : Bool) → member (added_if m b.0 s) c ≡ true → member (added_if m b.0 t) c ≡ true
    by true e = member_added b.0 t c ∙ or_more (b.0 == c) (member s c) (member t c) more (sym (member_added b.0 s c) ∙ e)
    by false e = more e
missing_more g line s t c more h = more h

-- without a lock before, what counts from the first lock on is some of the part's own
pub none_since : (u : Work) → has locks_any u ≡ false → since locks_any u ≡ []
none_since [] e = refl
none_since (x ∷ u) e = by (locks_any x.0) (has locks_any u) refl e
  where
    by : (now before : Bool) → has locks_any u ≡ before → (now || before) ≡ false → (if before then x ∷ since locks_any u else (if now then x ∷ [] else [])) ≡ []
    by true before f h = absurd (cc h)
    by false true f h = absurd (cc h)
    by false false f h = refl

-- whoever counts with such lines before counts with lines that have a lock
since_more : (g : Gfid) (s u t : Work) → has locks_any u ≡ false → has locks_any t ≡ true → (c : ℕ) → member (among (missing g) (since locks_any (s ++ u))) c ≡ true → member (among (missing g) (since locks_any (s ++ t))) c ≡ true
since_more g [] u t none some c h = absurd (no_member c (subst (λ (w : Work). member (among (missing g) w) c ≡ true) (none_since u none) h))
  where
    no_member : (c : ℕ) → member [] c ≡ true → ⊥
    no_member c e = cc e
since_more g (x ∷ s) u t none some c h = by (has locks_any (s ++ u)) (has_after s) (since_more g s u t none some c) h
  where
    has_after : (s : Work) → has locks_any (s ++ t) ≡ true
    has_after [] = some
    has_after (y ∷ s) = or_right (locks_any y.0) (has locks_any (s ++ t)) (has_after s)

    one_only : (c : ℕ) → member (missing g x.0 []) c ≡ true → member (missing g x.0 (among (missing g) (since locks_any (s ++ t)))) c ≡ true
    one_only c e = missing_more g x.0 [] (among (missing g) (since locks_any (s ++ t))) c (λ f. absurd (cc f)) e

    kept : has locks_any (s ++ t) ≡ true → member (missing g x.0 (among (missing g) (since locks_any (s ++ t)))) c ≡ true → member (among (missing g) (since locks_any (x ∷ s ++ t))) c ≡ true
    kept e m = rw e m

    by : (before : Bool) → has locks_any (s ++ t) ≡ true → (member (among (missing g) (since locks_any (s ++ u))) c ≡ true → member (among (missing g) (since locks_any (s ++ t))) c ≡ true)
        → member (among (missing g) (if before then x ∷ since locks_any (s ++ u) else (if locks_any x.0 then x ∷ [] else []))) c ≡ true → member (among (missing g) (since locks_any (x ∷ s ++ t))) c ≡ true
    by true e more h = kept e (missing_more g x.0 (among (missing g) (since locks_any (s ++ u))) (among (missing g) (since locks_any (s ++ t))) c more h)
    by false e more h = now (locks_any x.0) h
      where
        now : (n : Bool) → member (among (missing g) (if n then x ∷ [] else [])) c ≡ true → member (among (missing g) (since locks_any (x ∷ s ++ t))) c ≡ true
        now true m = kept e (one_only c m)
        now false m = absurd (cc m)

-- ---- a post-op
pub blamed_whole : BlamedWhole
blamed_whole p attempt g kind missed b s u t begins locked none some k = record {
  change = k.change;
  begun = sym (same_begun s u t begins) ∙ k.begun;
  is_change = sym (same_change s u t begins) ∙ k.is_change;
  object = k.object;
  counted = k.counted;
  once = subst (λ (x : List ℕ). member x b ≡ false) (same_posting s u t begins) k.once;
  did = subst (λ (x : List ℕ). member x b ≡ true) (same_applied s u t begins) k.did;
  enough = subst (λ (x : Looked). suffices p.shape kind x (among applied_at (s ++ t)) ≡ true) (same_looks g s u t locked) (subst (λ (x : List ℕ). suffices p.shape kind (looked_by g (s ++ u)) x ≡ true) (same_applied s u t begins) k.enough);
  others = subst (λ (x : List ℕ). missed ≡ minus (below p.shape.n) x) (same_applied s u t begins) k.others;
  why = λ c m. since_more g s u t none some c (k.why c m);
}
