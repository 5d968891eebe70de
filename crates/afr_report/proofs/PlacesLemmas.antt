-- At the positions that are gathered for an actor stand the lines that tell of it.
use Rattle.std.proofs.Common.{◌≡◌, ◌∙◌, ◌⊎◌, inl, inr, ℕ, ◌<◌, ◌==◌, Bool, true, false, List, [], ◌∷◌, ◌++◌, Option, Some, None, refl, sym, ap, arith, length, reverse, append-nil, append_assoc, if◌then◌else◌, slice_get, get_or, set}
use Rattle.std.proofs.lemmas.Bool.Decides.{eqb_tells}
use Rattle.std.proofs.lemmas.List.{reverse-append, get_or-set_same, get_or-set_other, length-set, length-replicate, get_or-replicate, reverse-reverse, length-reverse}
use Rattle.afr_lines.specs.declared.line.Line.{Line}
use Rattle.afr_log.specs.Log.{unasked}
use Rattle.afr_base.specs.declared.ids.BrickId.{BrickId}
use Rattle.afr_plan.specs.declared.command.Command.{Command}
use Rattle.afr_plan.specs.declared.plan.Words.{Words}
use Rattle.afr_model.specs.Report.{client_text}
use Rattle.afr_model.specs.ReportHealers.{healer_text}
use Rattle.afr_report.specs.Own.{subject_of, is_one, in_front, lines_at, own_lines, placed, places}
use Rattle.afr_report.proofs.OwnLemmas.{client_own, healer_own}
use Rattle.afr_report.proofs.ToldLemmas.{one_unasked}

length_placed : (o : Option ℕ) (at : ℕ) (lists : List (List ℕ)) → length (placed o at lists) ≡ length lists
length_placed None at lists = refl
length_placed (Some x) at lists = length-set lists x (get_or lists x [] ++ at ∷ [])

length_places : (seen : List Line) → length (places seen) ≡ 20
length_places [] = length-replicate {A = List ℕ} 20 []
length_places (line ∷ older) = length_placed (subject_of line) (length older) (places older) ∙ length_places older

-- an actor's list, after a position was added to one
place_in : (a : ℕ) (o : Option ℕ) (at : ℕ) (lists : List (List ℕ)) → a < length lists → get_or (placed o at lists) a [] ≡ (if is_one a o then get_or lists a [] ++ at ∷ [] else get_or lists a [])
place_in a None at lists l = refl
place_in a (Some x) at lists l = go (eqb_tells x a)
  where
    go : ((x == a) ≡ true) × (x ≡ a) ⊎ ((x == a) ≡ false) × (x ≡ a → ⊥)
        → get_or (set lists x (get_or lists x [] ++ at ∷ [])) a [] ≡ (if x == a then get_or lists a [] ++ at ∷ [] else get_or lists a [])
    go (inl e) = rw e.0 (rw e.1 (get_or-set_same lists a (get_or lists a [] ++ at ∷ []) [] l))
    go (inr e) = rw e.0 (get_or-set_other lists x a (get_or lists x [] ++ at ∷ []) [] (λ h. e.1 (sym h)))

-- what stands in a list behind so many others
behind : {A : Type 0} (xs : List A) (x : A) (more : List A) (n : ℕ) → n ≡ length xs → slice_get (xs ++ x ∷ more) n ≡ Some x
behind [] x more n e = rw e refl
behind (y ∷ xs) x more n e = rw e (behind xs x more (length xs) refl)

-- the positions of an actor among those of the older lines of a log
pub found : (a : ℕ) → a < 20 → (log seen newer : List Line) → log ≡ reverse seen ++ newer → lines_at log (reverse (get_or (places seen) a [])) ≡ own_lines a seen
found a small log [] newer e = ap (λ (own : List ℕ). lines_at log (reverse own)) (get_or-replicate {A = List ℕ} 20 a [] [] small)
found a small log (line ∷ older) newer e =
    ap (λ (own : List ℕ). lines_at log (reverse own)) (place_in a (subject_of line) (length older) (places older) (omega (arith, length_places older, small)))
    ∙ go (is_one a (subject_of line)) refl (found a small log older (line ∷ newer) split)
  where
    split : log ≡ reverse older ++ line ∷ newer
    split = e ∙ ap (λ (t : List Line). t ++ newer) (reverse-append (line ∷ []) older) ∙ append_assoc (reverse older) (line ∷ []) newer

    there : slice_get log (length older) ≡ Some line
    there = ap (λ (t : List Line). slice_get t (length older)) split ∙ behind (reverse older) line newer (length older) (sym (length-reverse older))

    go : (t : Bool) → is_one a (subject_of line) ≡ t → lines_at log (reverse (get_or (places older) a [])) ≡ own_lines a older
        → lines_at log (reverse (if t then get_or (places older) a [] ++ length older ∷ [] else get_or (places older) a [])) ≡ (if t then line ∷ own_lines a older else own_lines a older)
    go true e h =
        ap (λ (t : List ℕ). lines_at log t) (reverse-append (get_or (places older) a []) (length older ∷ []))
        ∙ ap (λ (o : Option Line). in_front (unasked o) (lines_at log (reverse (get_or (places older) a [])))) there
        ∙ ap (λ (o : Option Line). in_front o (lines_at log (reverse (get_or (places older) a [])))) (one_unasked a line e)
        ∙ ap (λ (lines : List Line). line ∷ lines) h
    go false e h = h

own_found : (a : ℕ) (own : List ℕ) (lists : List (List ℕ)) (log : List Line) → own ≡ get_or lists a [] → lists ≡ places (reverse log) → a < 20
    → lines_at log (reverse own) ≡ own_lines a (reverse log)
own_found a own lists log e f small = rw (e, f) (found a small log (reverse log) [] (sym (append-nil (reverse (reverse log)) ∙ reverse-reverse log)))

pub client_found : (words : Words) (a : ℕ) (commands : List Command) (own : List ℕ) (lists : List (List ℕ)) (log : List Line) → own ≡ get_or lists a [] → lists ≡ places (reverse log) → a < 20
    → client_text words a commands (lines_at log (reverse own)) ≡ client_text words a commands (reverse log)
client_found words a commands own lists log e f small =
    ap (λ (lines : List Line). client_text words a commands lines) (own_found a own lists log e f small) ∙ client_own words a commands (reverse log)

pub healer_found : (words : Words) (a : ℕ) (rounds : List BrickId) (own : List ℕ) (lists : List (List ℕ)) (log : List Line) → own ≡ get_or lists a [] → lists ≡ places (reverse log) → a < 20
    → healer_text words a rounds (lines_at log (reverse own)) ≡ healer_text words a rounds (reverse log)
healer_found words a rounds own lists log e f small =
    ap (λ (lines : List Line). healer_text words a rounds lines) (own_found a own lists log e f small) ∙ healer_own words a rounds (reverse log)
