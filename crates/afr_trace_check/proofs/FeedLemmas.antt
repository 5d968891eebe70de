-- How many line feeds a text has, and how many lines are read of it.
use Rattle.std.proofs.Common.{◌≡◌, ◌∙◌, ℕ, zero, suc, ◌+◌, ◌<◌, ◌≤◌, ◌==◌, true, false, List, [], ◌∷◌, Option, Some, None, length, map, reverse, refl, ap, arith, if◌then◌else◌}
use Rattle.std.proofs.lemmas.List.{length-reverse}
use Rattle.afr_plan.specs.TextLines.{text_of}
use Rattle.afr_plan.specs.declared.plan.Plan.{Plan}
use Rattle.afr_trace_read.specs.Seen.{seen_line}
use Rattle.afr_trace_read.specs.Reading.{line_told}
use Rattle.afr_trace_read.specs.Trace.{Told, line_feeds, onward, told_on, trace_told}
use Rattle.afr_trace_read.specs.declared.kinds.TraceLine.{TraceLine}
use Rattle.afr_trace_read.specs.declared.trace.SpelledLine.{SpelledLine}

-- ---- lines
onward_few : (before : List (TraceLine × List ℕ)) (o : Option (TraceLine × List ℕ)) (f : TraceLine × List ℕ → Told) (n : ℕ) → length before ≤ n → ((x : TraceLine × List ℕ) → length (f x).lines ≤ n) → length (onward before o f).lines ≤ n
onward_few before None f n h more = h
onward_few before (Some x) f n h more = more x

told_few : (p : Plan) (tail : List ℕ) (lines : List (List ℕ)) (before : List (TraceLine × List ℕ)) → length (told_on p tail lines before).lines ≤ length before + length lines
told_few p tail [] before = omega arith
told_few p tail (l ∷ lines) before =
    onward_few before (line_told p (length before) l) (λ s. told_on p tail lines (s ∷ before)) (length before + length (l ∷ lines)) (omega arith) (λ x. omega (arith, told_few p tail lines (x ∷ before)))

-- as many lines are read as there are line feeds, or fewer
pub lines_few : (p : Plan) (text : List ℕ) → length (trace_told p text).lines ≤ line_feeds text
unfolding trace_told
lines_few p text = omega (arith, told_few p (text_of text).tail (text_of text).lines [])

spelled_few : (xs : List SpelledLine) → length (map seen_line xs) ≡ length xs
spelled_few [] = refl
spelled_few (x ∷ xs) = ap suc (spelled_few xs)

-- the lines that were read of a trace within the limit are few
pub read_few : (p : Plan) (text : List ℕ) (xs : List SpelledLine) (told : Told) → told ≡ trace_told p text → told.lines ≡ reverse (map seen_line xs) → line_feeds text ≤ 2000 → length xs < 2147483647
read_few p text xs told e lines few =
    omega (
      arith,
      lines_few p text,
      few,
      spelled_few xs,
      length-reverse (map seen_line xs),
      ap (λ (ys : List (TraceLine × List ℕ)). length ys) lines,
      ap (λ (t : Told). length t.lines) e,
    )
