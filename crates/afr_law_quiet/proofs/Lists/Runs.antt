-- The lines of a quiet round stand together: the log is what was there before, and they alone.
use Rattle.std.proofs.Common.{◌≡◌, ℕ, suc, ◌+◌, ◌≤◌, Bool, true, false, refl, ◌∙◌, ap, arith, List, [], ◌∷◌, ◌++◌, length, true≢false}
use Rattle.std.specs.Prelude.{if◌then◌else◌}
use Rattle.afr_law.proofs.Model.Works.{work_ended, work_more, work_other}
use Rattle.afr_lines.specs.Work.{Work, ended, ends_work, is_end, is_of, work}
use Rattle.afr_lines.specs.declared.line.Line.{Line}
use Rattle.afr_lines.specs.declared.line.Line.TheVariants.{Ask, Begin, End, Event, HealBegin, HealEnd}
use Rattle.afr_model.specs.Safe.{log_before}
use Rattle.afr_law_quiet.proofs.Copies.Stretch.{count}

-- each of these lines is the actor's, and ends no work
abbrev pub AreMine : ℕ → List Line → Type 0
AreMine a [] = Unit {0}
AreMine a (line ∷ ls) = ((is_of a line ≡ true) × (is_end line ≡ false)) × AreMine a ls

-- these lines, each with those before it
abbrev pub works : List Line → List Line → Work
works [] base = []
works (line ∷ ls) base = (line, ls ++ base) ∷ works ls base

-- the work of lines of one actor is these lines, after the end of its last work
pub works_are : (a : ℕ) (ls base : List Line) → AreMine a ls → work a base ≡ [] → work a (ls ++ base) ≡ works ls base
works_are a [] base mine rest = rest
works_are a (line ∷ ls) base mine rest = work_more a line (ls ++ base) mine.0.0 mine.0.1 ∙ ap (λ (w : Work). (line, ls ++ base) ∷ w) (works_are a ls base mine.1 rest)

pub before_works : (ls base : List Line) → log_before (works ls base) (ls ++ base) ≡ base
before_works [] base = refl
before_works (line ∷ ls) base = before_works ls base

-- the log as lines of the actor after what was there before
pub record Run (a : ℕ) (older : List Line) : Type 0 where
  pub lines : List Line
  pub base : List Line
  pub whole : older ≡ lines ++ base
  pub mine : AreMine a lines
  pub rests : work a base ≡ []

rested : (a : ℕ) (older : List Line) → work a older ≡ [] → Run a older
rested a older rests = record { lines = []; base = older; whole = refl; mine = tt; rests = rests }

pub run : (a : ℕ) (older : List Line) → length (log_before (work a older) older) + length (work a older) ≡ length older → Run a older
run a [] together = rested a [] refl
run a (line ∷ older) together = go (is_of a line) refl (is_end line) refl (λ h. run a older h)
  where
    Together : Work → Type 0
    Together w = length (log_before w (line ∷ older)) + length w ≡ suc (length older)

    more : is_of a line ≡ true → is_end line ≡ false → Run a older → Run a (line ∷ older)
    more mine going r = record { lines = line ∷ r.lines; base = r.base; whole = ap (λ (l : List Line). line ∷ l) r.whole; mine = ((mine, going), r.mine); rests = r.rests }

    apart : (w : Work) → work a older ≡ w → is_of a line ≡ false → length (log_before w older) + length w ≤ length older → length (log_before w (line ∷ older)) + length w ≡ suc (length older) → Run a (line ∷ older)
    apart [] e other h k = rested a (line ∷ older) (work_other a line older other ∙ e)
    apart (x ∷ w) e other h k = absurd (omega (arith, h, k))

    go : (mine : Bool) → is_of a line ≡ mine → (over : Bool) → is_end line ≡ over → (length (log_before (work a older) older) + length (work a older) ≡ length older → Run a older) → Run a (line ∷ older)
    go true e true f rest = rested a (line ∷ older) (work_ended a line older e f)
    go true e false f rest = (let k : length (log_before (work a older) older) + suc (length (work a older)) ≡ suc (length older) = rw (e, f) at together in more e f (rest (omega (arith, k))))
    go false e over f rest = apart (work a older) refl e (count a older) (rw e at together)

-- no work ended in these lines
ends_end : (a : ℕ) (line : Line) → is_end line ≡ false → ends_work a line ≡ false
ends_end a (Ask x b request told took) e = refl
ends_end a (Begin x change) e = refl
ends_end a (HealBegin x g kind) e = refl
ends_end a (End x reply) e = absurd (true≢false e)
ends_end a (HealEnd x g kind reply) e = refl
ends_end a (Event event) e = refl

pub ended_same : (a : ℕ) (ls base : List Line) → AreMine a ls → ended a (ls ++ base) ≡ ended a base
ended_same a [] base mine = refl
ended_same a (line ∷ ls) base mine = rw (ends_end a line mine.0.1) (ended_same a ls base mine.1)
