-- A work is the lines of its actor from a position of the log on.
use Rattle.std.proofs.Common.{◌≡◌, ◌∙◌, ℕ, suc, ◌+◌, ◌-◌, ◌<◌, ◌≤◌, ◌&&◌, Bool, true, false, List, [], ◌∷◌, ◌++◌, length, take, reverse, get_or, refl, sym, ap, subst, arith, if◌then◌else◌}
use Rattle.std.specs.Prelude.{nat_le}
use Rattle.std.proofs.lemmas.Bool.Decides.{nat_tests}
use Rattle.std.proofs.lemmas.List.{length-reverse, length-take}
use Rattle.afr_lines.specs.Log.{before}
use Rattle.afr_lines.specs.Work.{Work, ends_work, is_end, is_of, work}
use Rattle.afr_lines.specs.declared.line.Line.{Line}
use Rattle.afr_lines.specs.declared.line.Line.TheVariants.{Ask, Begin, HealBegin, End, HealEnd, Event}
use Rattle.afr_trace_follow.proofs.LogLemmas.{before_all, before_is, before_less, newest}
use Rattle.afr_trace_follow.specs.Parts.{line_from, lines_from, work_start}

-- ---- what a line makes of a work
pub work_step : {A : Type 0} (F : Work → A) (f : Line → List Line → A → A) → ((line : Line) (older : List Line) (w : Work) → F ((line, older) ∷ w) ≡ f line older (F w)) → (a : ℕ) (line : Line) (older : List Line) (was : A)
    → was ≡ F (work a older) → (if is_of a line then (if is_end line then F [] else f line older was) else was) ≡ F (work a (line ∷ older))
work_step {A} F f step a line older was h = by (is_of a line) (is_end line)
  where
    by : (of end : Bool) → (if of then (if end then F [] else f line older was) else was) ≡ F (if of then (if end then [] else (line, older) ∷ work a older) else work a older)
    by true true = refl
    by true false = ap (f line older) h ∙ sym (step line older (work a older))
    by false end = h

module _ (a : ℕ) (line : Line) (older : List Line) where
  pub work_ended : is_of a line ≡ true → is_end line ≡ true → work a (line ∷ older) ≡ []
  work_ended h e = rw (h, e) refl

  pub work_moved : is_of a line ≡ true → is_end line ≡ false → work a (line ∷ older) ≡ (line, older) ∷ work a older
  work_moved h e = rw (h, e) refl

  pub work_passed : is_of a line ≡ false → work a (line ∷ older) ≡ work a older
  work_passed h = rw h refl

-- ---- the lines from a position on
-- a line that counts, and one that doesn't
pub from_yes : (P : Work → Type 0) (a from position : ℕ) (line : Line) (older : List Line) (w : Work) (r : Bool) → r ≡ (is_of a line && nat_le from position) → position ≡ length older → r ≡ true → P ((line, older) ∷ w)
    → P (line_from a from line older w)
from_yes P a from position line older w r e n here h =
    let test : (is_of a line && nat_le from (length older)) ≡ true = ap (λ (m : ℕ). is_of a line && nat_le from m) (sym n) ∙ sym e ∙ here in
    subst P (sym (ap (λ (t : Bool). if t then (line, older) ∷ w else w) test)) h

pub from_no : (P : Work → Type 0) (a from position : ℕ) (line : Line) (older : List Line) (w : Work) (r : Bool) → r ≡ (is_of a line && nat_le from position) → position ≡ length older → r ≡ false → P w → P (line_from a from line older w)
from_no P a from position line older w r e n other h =
    let test : (is_of a line && nat_le from (length older)) ≡ false = ap (λ (m : ℕ). is_of a line && nat_le from m) (sym n) ∙ sym e ∙ other in
    subst P (sym (ap (λ (t : Bool). if t then (line, older) ∷ w else w) test)) h

-- a line before a list of lines
pub from_append : (a from : ℕ) (line : Line) (older : List Line) (v w : Work) → line_from a from line older v ++ w ≡ line_from a from line older (v ++ w)
from_append a from line older v w = by (is_of a line && nat_le from (length older))
  where
    by : (t : Bool) → (if t then (line, older) ∷ v else v) ++ w ≡ (if t then (line, older) ∷ (v ++ w) else v ++ w)
    by true = refl
    by false = refl

-- an actor's line within, one before, and another's
module _ (a from : ℕ) (line : Line) (older : List Line) where
  first_of : is_of a line ≡ true → from ≤ length older → lines_from a from (line ∷ older) ≡ (line, older) ∷ lines_from a from older
  first_of h l =
      let within : nat_le from (length older) ≡ true = grind (arith, nat_tests, l) in
      rw (h, within) refl

  not_of : is_of a line ≡ false → lines_from a from (line ∷ older) ≡ lines_from a from older
  not_of h = rw h refl

-- there are none after all lines
pub none_from : (a from : ℕ) (log : List Line) → length log ≤ from → lines_from a from log ≡ []
none_from a from [] l = refl
none_from a from (line ∷ older) l =
    let past : nat_le from (length older) ≡ false = grind (arith, nat_tests, l) in
    by (is_of a line) (nat_le from (length older)) past (none_from a from older (omega (arith, l)))
  where
    by : (of within : Bool) → within ≡ false → lines_from a from older ≡ [] → (if of && within then (line, older) ∷ lines_from a from older else lines_from a from older) ≡ []
    by true true e h = absurd (cc e)
    by true false e h = h
    by false within e h = h

-- ---- the work
pub start_within : (a : ℕ) (log : List Line) → work_start a log ≤ length log
start_within a [] = omega arith
start_within a (line ∷ older) = by (is_of a line) (is_end line) (start_within a older)
  where
    by : (of end : Bool) → work_start a older ≤ length older → (if of then (if end then suc (length older) else work_start a older) else work_start a older) ≤ suc (length older)
    by true true h = omega arith
    by true false h = omega (arith, h)
    by false end h = omega (arith, h)

-- the lines since it began are its lines
pub start_work : (a : ℕ) (log : List Line) → lines_from a (work_start a log) log ≡ work a log
start_work a [] = refl
start_work a (line ∷ older) = by (is_of a line) (is_end line) refl refl (start_work a older)
  where
    by : (of end : Bool) → is_of a line ≡ of → is_end line ≡ end → lines_from a (work_start a older) older ≡ work a older
        → lines_from a (if of then (if end then suc (length older) else work_start a older) else work_start a older) (line ∷ older) ≡ (if of then (if end then [] else (line, older) ∷ work a older) else work a older)
    by true true h e more = none_from a (suc (length older)) (line ∷ older) (omega arith)
    by true false h e more = first_of a (work_start a older) line older h (start_within a older) ∙ ap (λ (w : Work). (line, older) ∷ w) more
    by false end h e more = not_of a (work_start a older) line older h ∙ more

-- before it began it has no line
begun_before : (a : ℕ) (log : List Line) → work a (before (work_start a log) log) ≡ []
begun_before a [] = refl
begun_before a (line ∷ older) = by (is_of a line) (is_end line) refl refl (begun_before a older)
  where
    by : (of end : Bool) → is_of a line ≡ of → is_end line ≡ end → work a (before (work_start a older) older) ≡ []
        → work a (before (if of then (if end then suc (length older) else work_start a older) else work_start a older) (line ∷ older)) ≡ []
    by true true h e more = ap (work a) (before_all line older) ∙ work_ended a line older h e
    by true false h e more = ap (work a) (before_less (work_start a older) line older (start_within a older)) ∙ more
    by false end h e more = ap (work a) (before_less (work_start a older) line older (start_within a older)) ∙ more

pub work_from : (a start : ℕ) (log : List Line) → start ≡ work_start a (reverse log) → work a (reverse (take start log)) ≡ []
work_from a start log e =
    ap (λ (n : ℕ). work a (reverse (take n log))) e ∙ ap (work a) (sym (before_is (work_start a (reverse log)) log)) ∙ begun_before a (reverse log)

-- ---- where it begins, looked for from the newest line on
either_same : (t : Bool) (n : ℕ) → (if t then n else n) ≡ n
either_same true n = refl
either_same false n = refl

start_by : (a : ℕ) (line : Line) (older : List Line) → work_start a (line ∷ older) ≡ (if ends_work a line then suc (length older) else work_start a older)
start_by a (Ask x b request told took) older = either_same (is_of a (Ask x b request told took)) (work_start a older)
start_by a (Begin x change) older = either_same (is_of a (Begin x change)) (work_start a older)
start_by a (HealBegin x g kind) older = either_same (is_of a (HealBegin x g kind)) (work_start a older)
start_by a (End x reply) older = refl
start_by a (HealEnd x g kind reply) older = either_same (is_of a (HealEnd x g kind reply)) (work_start a older)
start_by a (Event event) older = refl

module _ (a : ℕ) (log : List Line) (at i : ℕ) (line : Line) (place : at + 1 ≡ length log - i) (low : at < length log) (here : line ≡ get_or log at line) where
  start_at : work_start a (reverse (take (length log - i) log)) ≡ (if ends_work a line then suc at else work_start a (reverse (take at log)))
  start_at =
      let count : length (reverse (take at log)) ≡ at = omega (arith, low, length-reverse (take at log), length-take at log) in
      ap (λ (n : ℕ). work_start a (reverse (take n log))) (sym place) ∙ ap (work_start a) (newest log at line low here) ∙ start_by a line (reverse (take at log))
      ∙ ap (λ (n : ℕ). if ends_work a line then suc n else work_start a (reverse (take at log))) count

  -- at an End line, and past any other
  pub start_found : (n : ℕ) → ends_work a line ≡ true → work_start a (reverse (take (length log - i) log)) ≡ n → at + 1 ≡ n
  start_found n ends h =
      let next : at + 1 ≡ suc at = omega arith in
      next ∙ sym (ap (λ (t : Bool). if t then suc at else work_start a (reverse (take at log))) ends) ∙ sym start_at ∙ h

  pub start_past : (n : ℕ) → ends_work a line ≡ false → work_start a (reverse (take (length log - i) log)) ≡ n → work_start a (reverse (take (length log - (i + 1)) log)) ≡ n
  start_past n other h =
      let back : length log - (i + 1) ≡ at = omega (arith, place) in
      ap (λ (m : ℕ). work_start a (reverse (take m log))) back ∙ sym (ap (λ (t : Bool). if t then suc at else work_start a (reverse (take at log))) other) ∙ sym start_at ∙ h
