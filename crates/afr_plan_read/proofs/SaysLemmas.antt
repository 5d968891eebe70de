-- What is read is spelled, and what is spelled is read.
use Rattle.std.proofs.Common.{◌≡◌, ℕ, List, [], ◌∷◌, ◌++◌, Some, None, Result, Ok, Err, refl, sym, ap, ◌∙◌, arith, Bool, true, false, cond, append_assoc, ◌==◌}
use Rattle.std.specs.List.{list_all}
use Rattle.std.proofs.lemmas.List.{append-nil}
use Rattle.std.proofs.lemmas.Bool.Decides.{nat_tests}
use Rattle.afr_plan.specs.Bytes.{plain}
use Rattle.afr_plan.specs.TextLines.{Text, text_of, with_byte, bytes_of}
use Rattle.afr_plan.specs.Said.{Said}
use Rattle.afr_plan.specs.Rules.{is_over}
use Rattle.afr_plan.specs.Judging.{judged, judged_tail, finished, onward, reading_on, reading}
use Rattle.afr_plan.specs.declared.plan.PlanFault.{PlanFault}
use Rattle.afr_plan.specs.Spells.{AreLines, Says}
use Rattle.afr_plan_read.proofs.RulesLemmas.{judged-line, line-judged}

-- the lines and what follows them are all bytes
text_whole : (bs : List ℕ) → bytes_of (text_of bs).lines ++ (text_of bs).tail ≡ bs
text_whole [] = refl
text_whole (b ∷ bs) = step (b == 10) refl (text_whole bs)
  where
    front : (lines : List (List ℕ)) (tail : List ℕ) → bytes_of (with_byte b lines tail).lines ++ (with_byte b lines tail).tail ≡ b ∷ (bytes_of lines ++ tail)
    front [] tail = refl
    front (line ∷ lines) tail = refl

    step : (c : Bool) → (b == 10) ≡ c → bytes_of (text_of bs).lines ++ (text_of bs).tail ≡ bs
        → (let t : Text = cond c (record { lines = [] ∷ (text_of bs).lines; tail = (text_of bs).tail }) (with_byte b (text_of bs).lines (text_of bs).tail) in bytes_of t.lines ++ t.tail) ≡ b ∷ bs
    step true e ih = let n : b ≡ 10 = grind (arith, nat_tests) in rw n (ap (λ (t : List ℕ). 10 ∷ t) ih)
    step false e ih = front (text_of bs).lines (text_of bs).tail ∙ ap (λ (t : List ℕ). b ∷ t) ih

tail_read : (before : List Said) (tail : List ℕ) (all : List Said) → finished before (judged_tail before tail) ≡ Ok all → (tail ≡ []) × (is_over before ≡ true) × (before ≡ all)
tail_read before [] all h = step (is_over before) refl h
  where
    step : (c : Bool) → is_over before ≡ c → finished before (cond c None (Some 9)) ≡ Ok all → (◌≡◌ {A = List ℕ} [] []) × (is_over before ≡ true) × (before ≡ all)
    step true e h = (refl, e, cc)
    step false e h = absurd (cc)
tail_read before (b ∷ bs) all h = step (list_all plain (b ∷ bs)) h
  where
    step : (c : Bool) → finished before (cond c (Some 2) (Some 1)) ≡ Ok all → (b ∷ bs ≡ []) × (is_over before ≡ true) × (before ≡ all)
    step true h = absurd (cc)
    step false h = absurd (cc)

onward_ok : (before : List Said) (r : Result Said ℕ) (f : Said → Result (List Said) PlanFault) (all : List Said) → onward before r f ≡ Ok all → (s : Said) × (r ≡ Ok s) × (f s ≡ Ok all)
onward_ok before (Ok s) f all h = (s, refl, h)
onward_ok before (Err code) f all h = absurd (cc)

lines_read : (tail : List ℕ) (lines : List (List ℕ)) (before all : List Said) → reading_on tail lines before ≡ Ok all → (tail ≡ []) × AreLines lines before all
lines_read tail [] before all h = let t = tail_read before tail all h in (t.0, (t.1, t.2))
lines_read tail (line ∷ lines) before all h =
    let o = onward_ok before (judged before line) (λ (s : Said). reading_on tail lines (s ∷ before)) all h in
    let m = lines_read tail lines (o.0 ∷ before) all o.2 in
    (m.0, (o.0, judged-line before line o.0 o.1, m.1))

pub read-says : (bytes : List ℕ) (all : List Said) → reading bytes ≡ Ok all → Says bytes all
unfolding reading
read-says bytes all h =
    let m = lines_read (text_of bytes).tail (text_of bytes).lines [] all h in
    ((text_of bytes).lines, sym (text_whole bytes) ∙ ap (λ (t : List ℕ). bytes_of (text_of bytes).lines ++ t) m.0 ∙ append-nil (bytes_of (text_of bytes).lines), m.1)

lines_again : (lines : List (List ℕ)) (before all : List Said) → AreLines lines before all → reading_on [] lines before ≡ Ok all
lines_again [] before all h = rw (h.0, h.1) refl
lines_again (line ∷ lines) before all h = rw (line-judged before line h.0 h.1) (lines_again lines (h.0 ∷ before) all h.2)

-- a line of plain bytes has no line feed in it
one_line : (line rest : List ℕ) → list_all plain line ≡ true → text_of (line ++ 10 ∷ rest) ≡ record { lines = line ∷ (text_of rest).lines; tail = (text_of rest).tail }
one_line [] rest h = refl
one_line (b ∷ line) rest h =
    let here : (b == 10) ≡ false = grind (arith, nat_tests) in
    let more : list_all plain line ≡ true = grind (arith, nat_tests) in
    rw (here, one_line line rest more) refl

lines_text : (lines : List (List ℕ)) (before all : List Said) → AreLines lines before all → text_of (bytes_of lines) ≡ record { lines = lines; tail = [] }
lines_text [] before all h = refl
lines_text (line ∷ lines) before all h =
    ap text_of (append_assoc line (10 ∷ []) (bytes_of lines)) ∙ one_line line (bytes_of lines) h.1.bytes ∙ ap (λ (t : Text). record { lines = line ∷ t.lines; tail = t.tail }) (lines_text lines (h.0 ∷ before) all h.2)

pub says-read : (bytes : List ℕ) (all : List Said) → Says bytes all → reading bytes ≡ Ok all
unfolding reading
says-read bytes all h =
    let t : text_of bytes ≡ record { lines = h.0; tail = [] } = ap text_of h.1 ∙ lines_text h.0 [] all h.2 in
    ap (λ (t : Text). reading_on t.tail t.lines []) t ∙ lines_again h.0 [] all h.2
