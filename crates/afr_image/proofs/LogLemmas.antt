-- The steps of the lines up to a place.
use Rattle.std.proofs.Common.{◌≡◌, ℕ, zero, suc, ◌+◌, ◌<◌, ◌^◌, Option, Some, None, List, [], ◌∷◌, ◌++◌, length, map, take, refl, subst, sym, ◌∙◌, ap, add-one, arith}
use Rattle.std.specs.Prelude.{slice_get}
use Rattle.afr_image.specs.Logs.{HasShortActors}
use Rattle.afr_image.specs.declared.step.Step.{Step}
use Rattle.afr_image.specs.Steps.{step_of}
use Rattle.afr_lines.specs.declared.line.Line.{Line}
use Rattle.afr_lines.specs.declared.line.Line.TheVariants.{Ask}
use Rattle.afr_log.specs.Log.{unasked, unasked_line}

pub is_there : (lines : List Line) (i : ℕ) → i < length lines → None ≡ slice_get lines i → ⊥
is_there [] i low e = absurd (omega (arith, low))
is_there (x ∷ more) zero low e = cc e
is_there (x ∷ more) (suc i) low e = is_there more i (omega (arith, low)) e

-- a place has one line
pub step_is : (lines : List Line) (i : ℕ) (made line : Line) → slice_get lines i ≡ Some made → slice_get lines i ≡ Some line → step_of made ≡ step_of line
step_is lines i made line e f = let same : made ≡ line = cc (sym e ∙ f) in ap step_of same

-- ---- a line that is told as no request
-- it is the one that stands there
told_is : (line told : Line) → Some told ≡ unasked_line line → told ≡ line
told_is (Ask actor brick request said took) told e = absurd (cc e)
told_is line told e = cc e

pub told_step_is : (lines : List Line) (i : ℕ) (told line : Line) → Some told ≡ unasked (slice_get lines i) → slice_get lines i ≡ Some line → step_of told ≡ step_of line
told_step_is lines i told line e there = ap step_of (told_is line told (e ∙ ap unasked there))

pub told_short : (lines : List Line) (i : ℕ) (told : Line) → HasShortActors lines → Some told ≡ unasked (slice_get lines i) → (step_of told).who < 2 ^ 8
told_short lines i told short e = go (slice_get lines i) refl e
  where
    go : (o : Option Line) → slice_get lines i ≡ o → Some told ≡ unasked o → (step_of told).who < 2 ^ 8
    go None there e = absurd (cc e)
    go (Some line) there e = subst (λ (l : Line). (step_of l).who < 2 ^ 8) (sym (told_is line told e)) (short.each i line there)

-- ---- one line more
next_step : (lines : List Line) (i : ℕ) (step : Step) → i < length lines → ((line : Line) → slice_get lines i ≡ Some line → step ≡ step_of line) → map step_of (take (suc i) lines) ≡ map step_of (take i lines) ++ step ∷ []
next_step [] i step low h = absurd (omega (arith, low))
next_step (x ∷ more) zero step low h = ap (λ (s : Step). s ∷ []) (sym (h x refl))
next_step (x ∷ more) (suc i) step low h = ap (λ (l : List Step). step_of x ∷ l) (next_step more i step (omega (arith, low)) h)

-- one line more has one step more
pub steps_more : (lines : List Line) (i : ℕ) (step : Step) → i < length lines → ((line : Line) → slice_get lines i ≡ Some line → step ≡ step_of line) → map step_of (take (i + 1) lines) ≡ map step_of (take i lines) ++ step ∷ []
steps_more lines i step low h = rw add-one (next_step lines i step low h)
