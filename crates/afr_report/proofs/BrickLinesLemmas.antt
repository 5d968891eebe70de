-- Each line of a log whose events name bricks names one itself.
use Rattle.std.proofs.Common.{◌≡◌, ℕ, ◌<◌, List, [], ◌∷◌, ◌++◌, length, take, drop, get_or, reverse, suc, sym, ◌∙◌, ap, drop-cons}
use Rattle.std.proofs.lemmas.List.{take-append-drop, reverse-append}
use Rattle.afr_lines.specs.declared.line.Line.{Line}
use Rattle.afr_report.specs.BrickLines.{AreBrickLines, IsBrickLine}

later_part : (newer older : List Line) → AreBrickLines (newer ++ older) → AreBrickLines older
later_part [] older h = h
later_part (x ∷ newer) older h = later_part newer older h.1

earlier_part : (newer older : List Line) → AreBrickLines (newer ++ older) → AreBrickLines newer
earlier_part [] older h = tt
earlier_part (x ∷ newer) older h = (h.0, earlier_part newer older h.1)

pub brick_line_at : (log : List Line) (i : ℕ) (line : Line) → i < length log → line ≡ get_or log i line → AreBrickLines (reverse log) → IsBrickLine line
brick_line_at log i line l e h =
    let rest : drop i log ≡ line ∷ drop (suc i) log = drop-cons log i line l ∙ ap (λ (x : Line). x ∷ drop (suc i) log) (sym e) in
    let whole : reverse log ≡ reverse (drop i log) ++ reverse (take i log) = ap (λ (t : List Line). reverse t) (sym (take-append-drop i log)) ∙ reverse-append (take i log) (drop i log) in
    let from : reverse (drop i log) ≡ reverse (drop (suc i) log) ++ line ∷ [] = ap (λ (t : List Line). reverse t) rest ∙ reverse-append (line ∷ []) (drop (suc i) log) in
    let front : AreBrickLines (reverse (drop i log)) = earlier_part (reverse (drop i log)) (reverse (take i log)) (rw whole at h) in
    let one : AreBrickLines (line ∷ []) = later_part (reverse (drop (suc i) log)) (line ∷ []) (rw from at front) in
    one.0
