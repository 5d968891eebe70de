-- What the lines of an actor's work make, one line more.
use Rattle.std.proofs.Common.{◌≡◌, ◌∙◌, ℕ, suc, ◌+◌, ◌<◌, ◌≤◌, ◌||◌, ◌&&◌, Bool, true, false, List, [], ◌∷◌, ◌++◌, Option, Some, length, take, reverse, get_or, refl, sym, ap, arith, if◌then◌else◌}
use Rattle.std.proofs.lemmas.List.{take_all}
use Rattle.afr_lines.specs.Work.{Work, is_end, is_of, work}
use Rattle.afr_lines.specs.declared.line.Line.{Line}
use Rattle.afr_model.specs.Healing.{heal_by, is_border}
use Rattle.afr_model.specs.Showing.{among, has}
use Rattle.afr_model.specs.Standing.{since}
use Rattle.afr_trace_check.specs.Grounds.{after_last, asks_lock, over, refusing}
use Rattle.afr_trace_check.specs.Works.{in_work, last_list, lists}
use Rattle.afr_trace_follow.proofs.LogLemmas.{newest}
use Rattle.afr_trace_follow.proofs.PartLemmas.{work_step}

-- ---- the lines up to a position
-- what holds of all of them
pub whole : {A : Type 0} (F : List Line → A) (log : List Line) (at : ℕ) (x : A) → length log ≤ at → x ≡ F (reverse (take at log)) → x ≡ F (reverse log)
whole F log at x long h = h ∙ ap (λ (t : List Line). F (reverse t)) (take_all at log long)

-- ---- a work
-- what each line of a work makes of what the lines before it made
pub work_next : {A : Type 0} (F : Work → A) (f : Line → List Line → A → A) → ((line : Line) (older : List Line) (w : Work) → F ((line, older) ∷ w) ≡ f line older (F w)) → (a : ℕ) (log : List Line) (at : ℕ) (line : Line) (was : A)
    → at < length log → line ≡ get_or log at line → was ≡ F (work a (reverse (take at log)))
    → (if is_of a line then (if is_end line then F [] else f line (reverse (take at log)) was) else was) ≡ F (work a (reverse (take (at + 1) log)))
work_next F f step a log at line was l e h = work_step F f step a line (reverse (take at log)) was h ∙ ap (λ (t : List Line). F (work a t)) (sym (newest log at line l e))

-- ---- a work, or its present heal
-- a heal, one line more
healed : (of end : Bool) (line : Line) (older : List Line) (w : Work)
    → (if of then (if end then [] else (if is_border line then [] else (line, older) ∷ heal_by w)) else heal_by w) ≡ heal_by (if of then (if end then [] else (line, older) ∷ w) else w)
healed true true line older w = refl
healed true false line older w = refl
healed false end line older w = refl

heal_step : {A : Type 0} (F : Work → A) (f : Line → List Line → A → A) → ((line : Line) (older : List Line) (w : Work) → F ((line, older) ∷ w) ≡ f line older (F w)) → (heal : Bool) (a : ℕ) (line : Line) (older : List Line) (was : A)
    → was ≡ F (in_work heal (work a older)) → (if is_of a line then (if is_end line || (heal && is_border line) then F [] else f line older was) else was) ≡ F (in_work heal (work a (line ∷ older)))
heal_step {A} F f step true a line older was h = by (is_of a line) (is_end line) (is_border line) ∙ ap F (healed (is_of a line) (is_end line) line older (work a older))
  where
    by : (of end border : Bool) → (if of then (if end || (true && border) then F [] else f line older was) else was)
        ≡ F (if of then (if end then [] else (if border then [] else (line, older) ∷ heal_by (work a older))) else heal_by (work a older))
    by true true border = refl
    by true false true = refl
    by true false false = ap (f line older) h ∙ sym (step line older (heal_by (work a older)))
    by false end border = h
heal_step {A} F f step false a line older was h = by (is_of a line) (is_end line)
  where
    by : (of end : Bool) → (if of then (if end || (false && is_border line) then F [] else f line older was) else was) ≡ F (if of then (if end then [] else (line, older) ∷ work a older) else work a older)
    by true true = refl
    by true false = ap (f line older) h ∙ sym (step line older (work a older))
    by false end = h

-- what each line of it makes of what the lines before it made
pub heal_next : {A : Type 0} (F : Work → A) (f : Line → List Line → A → A) → ((line : Line) (older : List Line) (w : Work) → F ((line, older) ∷ w) ≡ f line older (F w)) → (heal : Bool) (a : ℕ) (log : List Line) (at : ℕ) (line : Line) (was : A)
    → at < length log → line ≡ get_or log at line → was ≡ F (in_work heal (work a (reverse (take at log))))
    → (if is_of a line then (if is_end line || (heal && is_border line) then F [] else f line (reverse (take at log)) was) else was) ≡ F (in_work heal (work a (reverse (take (at + 1) log))))
heal_next F f step heal a log at line was l e h = heal_step F f step heal a line (reverse (take at log)) was h ∙ ap (λ (t : List Line). F (in_work heal (work a t))) (sym (newest log at line l e))

-- ---- a work after its last line that passes a test
after : (of end : Bool) (test : Line → Bool) (line : Line) (older : List Line) (w : Work)
    → (if of then (if end then [] else (if test line then [] else (line, older) ∷ after_last test w)) else after_last test w) ≡ after_last test (if of then (if end then [] else (line, older) ∷ w) else w)
after true true test line older w = refl
after true false test line older w = refl
after false end test line older w = refl

after_step : {A : Type 0} (F : Work → A) (f : Line → List Line → A → A) → ((line : Line) (older : List Line) (w : Work) → F ((line, older) ∷ w) ≡ f line older (F w)) → (test : Line → Bool) (a : ℕ) (line : Line) (older : List Line) (was : A)
    → was ≡ F (after_last test (work a older)) → (if is_of a line then (if is_end line || test line then F [] else f line older was) else was) ≡ F (after_last test (work a (line ∷ older)))
after_step {A} F f step test a line older was h = by (is_of a line) (is_end line) (test line) ∙ ap F (after (is_of a line) (is_end line) test line older (work a older))
  where
    by : (of end passes : Bool) → (if of then (if end || passes then F [] else f line older was) else was)
        ≡ F (if of then (if end then [] else (if passes then [] else (line, older) ∷ after_last test (work a older))) else after_last test (work a older))
    by true true passes = refl
    by true false true = refl
    by true false false = ap (f line older) h ∙ sym (step line older (after_last test (work a older)))
    by false end passes = h

pub after_next : {A : Type 0} (F : Work → A) (f : Line → List Line → A → A) → ((line : Line) (older : List Line) (w : Work) → F ((line, older) ∷ w) ≡ f line older (F w)) → (test : Line → Bool) (a : ℕ) (log : List Line) (at : ℕ) (line : Line) (was : A)
    → at < length log → line ≡ get_or log at line → was ≡ F (after_last test (work a (reverse (take at log))))
    → (if is_of a line then (if is_end line || test line then F [] else f line (reverse (take at log)) was) else was) ≡ F (after_last test (work a (reverse (take (at + 1) log))))
after_next F f step test a log at line was l e h = after_step F f step test a line (reverse (take at log)) was h ∙ ap (λ (t : List Line). F (after_last test (work a t))) (sym (newest log at line l e))

-- ---- all lines
-- the bricks that they give, one line more
pub over_next : (f : Line → List ℕ → List ℕ) (log : List Line) (at : ℕ) (line : Line) (was new : List ℕ) → at < length log → line ≡ get_or log at line → new ≡ f line was → was ≡ over f (reverse (take at log)) → new ≡ over f (reverse (take (at + 1) log))
over_next f log at line was new l e n h = n ∙ ap (f line) h ∙ ap (over f) (sym (newest log at line l e))

-- ---- since the first lock
-- nothing was refused before the first lock
none_before : (w : Work) → has asks_lock w ≡ false → among refusing (since asks_lock w) ≡ []
none_before [] h = refl
none_before (x ∷ w) h = by (asks_lock x.0) (has asks_lock w) h
  where
    by : (here later : Bool) → (here || later) ≡ false → among refusing (if later then x ∷ since asks_lock w else (if here then x ∷ [] else [])) ≡ []
    by false false e = refl
    by true later e = absurd (cc e)
    by false true e = absurd (cc e)

refusing_more : (line : Line) (older : List Line) (w : Work) → (if asks_lock line || has asks_lock w then refusing line (among refusing (since asks_lock w)) else []) ≡ among refusing (since asks_lock ((line, older) ∷ w))
refusing_more line older w = by (asks_lock line) (has asks_lock w) refl
  where
    by : (here later : Bool) → has asks_lock w ≡ later
        → (if here || later then refusing line (among refusing (since asks_lock w)) else []) ≡ among refusing (if later then (line, older) ∷ since asks_lock w else (if here then (line, older) ∷ [] else []))
    by true true e = refl
    by false true e = refl
    by true false e = ap (refusing line) (none_before w e)
    by false false e = refl

refusing_step : (a : ℕ) (line : Line) (older : List Line) (locked : Bool) (was : List ℕ) → locked ≡ has asks_lock (work a older) → was ≡ among refusing (since asks_lock (work a older))
    → (if is_of a line then (if is_end line then [] else (if asks_lock line || locked then refusing line was else [])) else was) ≡ among refusing (since asks_lock (work a (line ∷ older)))
refusing_step a line older locked was hl hw = by (is_of a line) (is_end line)
  where
    by : (of end : Bool) → (if of then (if end then [] else (if asks_lock line || locked then refusing line was else [])) else was) ≡ among refusing (since asks_lock (if of then (if end then [] else (line, older) ∷ work a older) else work a older))
    by true true = refl
    by true false = rw (hl, hw) (refusing_more line older (work a older))
    by false end = hw

-- the bricks that refused something, one line more
pub refusing_next : (a : ℕ) (log : List Line) (at : ℕ) (line : Line) (locked : Bool) (was : List ℕ) → at < length log → line ≡ get_or log at line → locked ≡ has asks_lock (work a (reverse (take at log)))
    → was ≡ among refusing (since asks_lock (work a (reverse (take at log))))
    → (if is_of a line then (if is_end line then [] else (if asks_lock line || locked then refusing line was else [])) else was) ≡ among refusing (since asks_lock (work a (reverse (take (at + 1) log))))
refusing_next a log at line locked was l e hl hw =
    refusing_step a line (reverse (take at log)) locked was hl hw ∙ ap (λ (t : List Line). among refusing (since asks_lock (work a t))) (sym (newest log at line l e))

-- ---- the last list
-- its position, one line more
pub list_next : (a : ℕ) (log : List Line) (at : ℕ) (line : Line) (was : Option ℕ) → at < length log → line ≡ get_or log at line → was ≡ last_list a (reverse (take at log))
    → (if lists a line then Some (length (reverse (take at log))) else was) ≡ last_list a (reverse (take (at + 1) log))
list_next a log at line was l e h = ap (λ (o : Option ℕ). if lists a line then Some (length (reverse (take at log))) else o) h ∙ ap (last_list a) (sym (newest log at line l e))
