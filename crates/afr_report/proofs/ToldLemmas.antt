-- A log that is read from its oldest line on, by those of its lines that are no requests: a request tells of no actor, and stops or starts no brick.
use Rattle.std.proofs.Common.{◌≡◌, ◌∙◌, ◌⊎◌, inl, inr, ℕ, ◌+◌, ◌<◌, ◌≤◌, true, List, ◌∷◌, Option, Some, None, refl, sym, ap, arith, length, take, get_or, reverse, option_and_then, slice_get}
use Rattle.std.proofs.lemmas.Option.{none-some, slice_get_cases, slice_get_within, get_or_from_slice_get}
use Rattle.afr_lines.specs.LogLemmas.{length-before, newest}
use Rattle.afr_lines.specs.declared.line.Line.{Line}
use Rattle.afr_lines.specs.declared.line.Line.TheVariants.{Ask, Begin, HealBegin, End, HealEnd, Event}
use Rattle.afr_log.specs.Log.{unasked, unasked_line}
use Rattle.afr_model.specs.Report.{started_bricks, started_by}
use Rattle.afr_report.specs.BrickLines.{AreBrickLines, IsBrickLine}
use Rattle.afr_report.specs.Own.{is_one, placed, places, subject_of}
use Rattle.afr_report.proofs.BrickLinesLemmas.{brick_line_at}

-- of the lines up to a position the newest is the one that the position shows
pub newest_shown : (log : List Line) (at : ℕ) (line : Line) → slice_get log at ≡ Some line → reverse (take (at + 1) log) ≡ line ∷ reverse (take at log)
newest_shown log at line e = newest log at line (slice_get_within log at line e) (get_or_from_slice_get log at line line e)

-- the line at a position of the log
pub line_there : (log : List Line) (at : ℕ) → at < length log → (line : Line) × (slice_get log at ≡ Some line)
line_there log at small = go (slice_get_cases log at).1
  where
    go : ((line : Line) × (at < length log) × (slice_get log at ≡ Some line) × (get_or log at line ≡ line)) ⊎ ((length log ≤ at) × (slice_get log at ≡ None)) → (line : Line) × (slice_get log at ≡ Some line)
    go (inl e) = (e.0, e.2)
    go (inr e) = absurd (omega (arith, e.0, small))

-- where a line is shown as no request, it is the one that stands there
pub shown : (o : Option Line) (line : Line) → Some line ≡ unasked o → o ≡ Some line
shown None line e = absurd (none-some line (sym e))
shown (Some (Ask actor brick request told took)) line e = absurd (none-some line (sym e))
shown (Some (Begin actor change)) line e = sym e
shown (Some (HealBegin actor g kind)) line e = sym e
shown (Some (End actor reply)) line e = sym e
shown (Some (HealEnd actor g kind reply)) line e = sym e
shown (Some (Event event)) line e = sym e

-- ---- actors
told_unasked : (line : Line) → option_and_then subject_of (unasked_line line) ≡ subject_of line
told_unasked (Ask actor brick request told took) = refl
told_unasked (Begin actor change) = refl
told_unasked (HealBegin actor g kind) = refl
told_unasked (End actor reply) = refl
told_unasked (HealEnd actor g kind reply) = refl
told_unasked (Event event) = refl

-- a line that tells of an actor is no request
pub one_unasked : (a : ℕ) (line : Line) → is_one a (subject_of line) ≡ true → unasked_line line ≡ Some line
one_unasked a (Ask actor brick request told took) h = absurd (grind (arith, h))
one_unasked a (Begin actor change) h = refl
one_unasked a (HealBegin actor g kind) h = refl
one_unasked a (End actor reply) h = refl
one_unasked a (HealEnd actor g kind reply) h = refl
one_unasked a (Event event) h = refl

-- the positions with that of one line more
pub placed_next : (log : List Line) (at : ℕ) → at < length log
    → placed (option_and_then subject_of (unasked (slice_get log at))) at (places (reverse (take at log))) ≡ places (reverse (take (at + 1) log))
placed_next log at small =
    let e = line_there log at small in
    ap (λ (o : Option Line). placed (option_and_then subject_of (unasked o)) at (places (reverse (take at log)))) e.1
    ∙ ap (λ (o : Option ℕ). placed o at (places (reverse (take at log)))) (told_unasked e.0)
    ∙ ap (λ (n : ℕ). placed (subject_of e.0) n (places (reverse (take at log)))) (sym (length-before log at small))
    ∙ ap (λ (lines : List Line). places lines) (sym (newest_shown log at e.0 e.1))

-- ---- bricks
-- a line that is shown names a brick that a volume may have, if it stops or starts one
pub shown_brick : (log : List Line) (at : ℕ) (line : Line) → Some line ≡ unasked (slice_get log at) → AreBrickLines (reverse log) → IsBrickLine line
shown_brick log at line e h =
    let there : slice_get log at ≡ Some line = shown (slice_get log at) line e in
    brick_line_at log at line (slice_get_within log at line there) (sym (get_or_from_slice_get log at line line there)) h

-- the started bricks after it
pub started_shown : (n : ℕ) (log : List Line) (at : ℕ) (line : Line) → Some line ≡ unasked (slice_get log at) → started_by line (started_bricks n (reverse (take at log))) ≡ started_bricks n (reverse (take (at + 1) log))
started_shown n log at line e = ap (λ (lines : List Line). started_bricks n lines) (sym (newest_shown log at line (shown (slice_get log at) line e)))

quiet : (line : Line) (bricks : List ℕ) → None ≡ unasked_line line → bricks ≡ started_by line bricks
quiet (Ask actor brick request told took) bricks e = refl
quiet (Begin actor change) bricks e = absurd (none-some (Begin actor change) e)
quiet (HealBegin actor g kind) bricks e = absurd (none-some (HealBegin actor g kind) e)
quiet (End actor reply) bricks e = absurd (none-some (End actor reply) e)
quiet (HealEnd actor g kind reply) bricks e = absurd (none-some (HealEnd actor g kind reply) e)
quiet (Event event) bricks e = absurd (none-some (Event event) e)

-- and after a request
pub started_asked : (n : ℕ) (log : List Line) (at : ℕ) → at < length log → None ≡ unasked (slice_get log at) → started_bricks n (reverse (take at log)) ≡ started_bricks n (reverse (take (at + 1) log))
started_asked n log at small e =
    let there = line_there log at small in
    quiet there.0 (started_bricks n (reverse (take at log))) (e ∙ ap unasked there.1)
    ∙ ap (λ (lines : List Line). started_bricks n lines) (sym (newest_shown log at there.0 there.1))

-- and after any line
pub started_next : (n : ℕ) (log : List Line) (at : ℕ) (bricks after : List ℕ) → at < length log → bricks ≡ started_bricks n (reverse (take at log)) → (unasked (slice_get log at) ≡ None → after ≡ bricks)
    → ((line : Line) → unasked (slice_get log at) ≡ Some line → after ≡ started_by line bricks) → after ≡ started_bricks n (reverse (take (at + 1) log))
started_next n log at bricks after small was asked line = go (unasked (slice_get log at)) refl
  where
    go : (o : Option Line) → unasked (slice_get log at) ≡ o → after ≡ started_bricks n (reverse (take (at + 1) log))
    go None e = asked e ∙ was ∙ started_asked n log at small (sym e)
    go (Some l) e = line l e ∙ ap (λ (b : List ℕ). started_by l b) was ∙ started_shown n log at l (sym e)
