-- A trace, one line at a time.
use Rattle.std.proofs.Common.{◌≡◌, ℕ, List, [], ◌∷◌, length, Option, Some, None, sym, ap, ◌∙◌, true, suc}
use Rattle.afr_plan.specs.declared.plan.Plan.{Plan}
use Rattle.afr_plan.specs.TextLines.{Text, text_of, cut_of}
use Rattle.afr_plan_read.proofs.TextLemmas.{text-cut, text_after}
use Rattle.afr_trace_read.specs.Reading.{line_told}
use Rattle.afr_trace_read.specs.Trace.{Told, told_on, onward, is_left, line_feeds}
use Rattle.afr_trace_read.specs.declared.kinds.TraceLine.{TraceLine}

abbrev pub from : Plan → List ℕ → List (TraceLine × List ℕ) → Told
from p rest before = told_on p (text_of rest).tail (text_of rest).lines before

first_line : (rest line more : List ℕ) → Some (line, more) ≡ cut_of rest → text_of rest ≡ record { lines = line ∷ (text_of more).lines; tail = (text_of more).tail }
first_line rest line more e = text-cut rest ∙ ap (λ (o : Option (List ℕ × List ℕ)). text_after o rest) (sym e)

no_line : (rest : List ℕ) → None ≡ cut_of rest → text_of rest ≡ record { lines = []; tail = rest }
no_line rest e = text-cut rest ∙ ap (λ (o : Option (List ℕ × List ℕ)). text_after o rest) (sym e)

pub goes_on : (p : Plan) (rest line more : List ℕ) (before : List (TraceLine × List ℕ)) (s : TraceLine × List ℕ) (k : ℕ) → Some (line, more) ≡ cut_of rest → Some s ≡ line_told p k line → k ≡ length before → from p more (s ∷ before) ≡ from p rest before
goes_on p rest line more before s k e j at =
    let here : Some s ≡ line_told p (length before) line = j ∙ ap (λ (n : ℕ). line_told p n line) at in
    sym (ap (λ (t : Text). told_on p t.tail t.lines before) (first_line rest line more e) ∙ ap (λ (o : Option (TraceLine × List ℕ)). onward before o (λ (x : TraceLine × List ℕ). told_on p (text_of more).tail (text_of more).lines (x ∷ before))) (sym here))

pub breaks : (p : Plan) (rest line more : List ℕ) (before : List (TraceLine × List ℕ)) (k : ℕ) → Some (line, more) ≡ cut_of rest → None ≡ line_told p k line → k ≡ length before → from p rest before ≡ record { lines = before; broken = true }
breaks p rest line more before k e j at =
    let here : None ≡ line_told p (length before) line = j ∙ ap (λ (n : ℕ). line_told p n line) at in
    ap (λ (t : Text). told_on p t.tail t.lines before) (first_line rest line more e) ∙ ap (λ (o : Option (TraceLine × List ℕ)). onward before o (λ (x : TraceLine × List ℕ). told_on p (text_of more).tail (text_of more).lines (x ∷ before))) (sym here)

pub ends : (p : Plan) (rest : List ℕ) (before : List (TraceLine × List ℕ)) → None ≡ cut_of rest → from p rest before ≡ record { lines = before; broken = is_left rest }
ends p rest before e = ap (λ (t : Text). told_on p t.tail t.lines before) (no_line rest e)

pub one_feed : (rest line more : List ℕ) → Some (line, more) ≡ cut_of rest → line_feeds rest ≡ suc (line_feeds more)
one_feed rest line more e = ap (λ (t : Text). length t.lines) (first_line rest line more e)

pub no_feed : (rest : List ℕ) → None ≡ cut_of rest → line_feeds rest ≡ 0
no_feed rest e = ap (λ (t : Text). length t.lines) (no_line rest e)
