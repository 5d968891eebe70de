-- One line of a text at a time.
use Rattle.std.proofs.Common.{◌≡◌, ℕ, ◌<◌, List, [], ◌∷◌, length, Option, Some, None, Result, Ok, Err, refl, sym, ap, ◌∙◌, arith, Bool, true, false, ◌==◌, cond}
use Rattle.afr_plan.specs.TextLines.{Text, text_of, cut_of, in_front}
use Rattle.afr_plan.specs.Said.{Said}
use Rattle.afr_plan.specs.Judging.{judged, judged_tail, finished, reading_on, at_line}
use Rattle.afr_plan.specs.declared.plan.PlanFault.{PlanFault}
use Rattle.afr_plan_read.proofs.TextLemmas.{text-cut, text_after}

abbrev pub from : List ℕ → List Said → Result (List Said) PlanFault
from rest before = reading_on (text_of rest).tail (text_of rest).lines before

first_line : (rest line more : List ℕ) → Some (line, more) ≡ cut_of rest → text_of rest ≡ record { lines = line ∷ (text_of more).lines; tail = (text_of more).tail }
first_line rest line more e = text-cut rest ∙ ap (λ (o : Option (List ℕ × List ℕ)). text_after o rest) (sym e)

pub goes_on : (rest line more : List ℕ) (before : List Said) (s : Said) → Some (line, more) ≡ cut_of rest → judged before line ≡ Ok s → from more (s ∷ before) ≡ from rest before
goes_on rest line more before s e j = sym (ap (λ (t : Text). reading_on t.tail t.lines before) (first_line rest line more e) ∙ rw j refl)

pub stops : (rest line more : List ℕ) (before : List Said) (code : ℕ) → Some (line, more) ≡ cut_of rest → judged before line ≡ Err code → from rest before ≡ Err (at_line before code)
stops rest line more before code e j = ap (λ (t : Text). reading_on t.tail t.lines before) (first_line rest line more e) ∙ rw j refl

pub at_tail : (rest : List ℕ) (before : List Said) (code : Option ℕ) → None ≡ cut_of rest → code ≡ judged_tail before rest → from rest before ≡ finished before code
at_tail rest before code e j = ap (λ (t : Text). reading_on t.tail t.lines before) (text-cut rest ∙ ap (λ (o : Option (List ℕ × List ℕ)). text_after o rest) (sym e)) ∙ ap (finished before) (sym j)

pub shorter : (rest line more : List ℕ) → Some (line, more) ≡ cut_of rest → length more < length rest
shorter [] line more e = absurd (cc)
shorter (b ∷ bs) line more e = step (b == 10) e (λ l m h. shorter bs l m h)
  where
    in_rest : (o : Option (List ℕ × List ℕ)) → cut_of bs ≡ o → Some (line, more) ≡ in_front b o → ((l m : List ℕ) → Some (l, m) ≡ cut_of bs → length m < length bs) → length more < length (b ∷ bs)
    in_rest None h e ih = absurd (cc)
    in_rest (Some x) h e ih =
        let same : ◌≡◌ {A = List ℕ × List ℕ} (line, more) (b ∷ x.0, x.1) = cc in
        let m : more ≡ x.1 = ap (λ (z : List ℕ × List ℕ). z.1) same in
        let l : length x.1 < length bs = ih x.0 x.1 (sym h) in
        rw m (omega (arith, l))

    step : (c : Bool) → Some (line, more) ≡ cond c (Some ([], bs)) (in_front b (cut_of bs)) → ((l m : List ℕ) → Some (l, m) ≡ cut_of bs → length m < length bs) → length more < length (b ∷ bs)
    step true e ih =
        let same : ◌≡◌ {A = List ℕ × List ℕ} (line, more) ([], bs) = cc in
        rw (ap (λ (z : List ℕ × List ℕ). z.1) same) (omega arith)
    step false e ih = in_rest (cut_of bs) refl e ih
