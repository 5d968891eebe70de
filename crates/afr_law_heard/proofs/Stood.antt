-- An entry that leads to the object of a work's path stood somewhere, and the log has the work's change by its attempt.
use Rattle.std.proofs.Common.{◌≡◌, ℕ, ◌<◌, ◌==◌, true, false, List, [], ◌∷◌, Option, Some, None, length, refl, sym, ap, ◌∙◌, subst, arith, inl, inr}
use Rattle.std.proofs.lemmas.Bool.Decides.{nat_tests}
use Rattle.afr_base.specs.declared.ids.Gfid.{Gfid}
use Rattle.afr_base.specs.declared.ids.NameId.{NameId}
use Rattle.afr_base.proofs.TestLemmas.{same_number}
use Rattle.afr_law.specs.ModelKinds.{Before, Named, Now, SaysKind, Top, WasTable}
use Rattle.afr_lines.specs.Log.{change_at}
use Rattle.afr_lines.specs.Work.{Work, work}
use Rattle.afr_lines.specs.declared.answer.Told.TheVariants as as_told
use Rattle.afr_lines.specs.declared.line.Line.{Line}
use Rattle.afr_lines.specs.declared.line.Line.TheVariants.{Ask, Begin}
use Rattle.afr_lines.specs.declared.request.Request.TheVariants.{ReadName}
use Rattle.afr_model.specs.Showing.{At, NoName, Path, Untold, begun_by, one_name, path_after, path_by}
use Rattle.afr_model.specs.Standing.{change_by}
use Rattle.afr_model.specs.Tables.{entry_at, held_before, holds}
use Rattle.afr_object.specs.Tables.{Table}
use Rattle.afr_object.specs.declared.entry.Entry.{Entry}
use Rattle.afr_plan.specs.declared.plan.Plan.{Plan}
use Rattle.afr_law_heard.proofs.SomeLines.{AreIn, IsBefore, work_in}
use Rattle.afr_law_heard.specs.Finds.{FindsAttempt, FindsPath}

-- ---- the path
-- the tables before the newest line, and before an older one
held_now : (p : Plan) (line : Line) (older : List Line) (b : ℕ) → held_before p (line ∷ older) (length older) b ≡ holds p older b
held_now p line older b = rw (same_number (length older)) refl

held_then : (p : Plan) (line : Line) (older : List Line) (k b : ℕ) → k < length older → held_before p (line ∷ older) k b ≡ held_before p older k b
held_then p line older k b low = (let e : (k == length older) ≡ false = grind (arith, nat_tests, low) in rw e refl)

-- what was a brick's table was one after one line more
was_more : (p : Plan) (line : Line) (older : List Line) (t : Table) → WasTable p older t → WasTable p (line ∷ older) t
was_more p line older t (Now b e) = Before (length older) b (omega arith) (e ∙ sym (held_now p line older b))
was_more p line older t (Before k b low e) = Before k b (omega (arith, low)) (e ∙ sym (held_then p line older k b low))

was_since : (p : Plan) (start log : List Line) → IsBefore start log → (t : Table) → WasTable p start t → WasTable p log t
was_since p start [] is t was = subst (λ (x : List Line). WasTable p x t) is was
was_since p start (line ∷ older) (inl is) t was = subst (λ (x : List Line). WasTable p x t) is was
was_since p start (line ∷ older) (inr k) t was = was_more p line older t (was_since p start older k t was)

-- the object that the path has led to stood somewhere
abbrev IsLed : Plan → List Line → Path → Type 0
IsLed p log (At read object) = SaysKind p log object.gfid object.what
IsLed p log other = Unit {0}

-- one name more leads to the entry that it has
led_named : (p : Plan) (log : List Line) (line : Line) (older : List Line) → IsBefore (line ∷ older) log → (g : Gfid) (name : NameId) (b : ℕ) (entry : Option Entry) → entry_at g name (holds p older b) ≡ entry → (path : Path) → IsLed p log (one_name entry path)
led_named p log line older before g name b (Some entry) e (At read object) = Named (holds p older b) g name (was_since p (line ∷ older) log before (holds p older b) (was_more p line older (holds p older b) (Now b refl))) e
led_named p log line older before g name b (Some entry) e NoName = tt
led_named p log line older before g name b (Some entry) e Untold = tt
led_named p log line older before g name b None e (At read object) = tt
led_named p log line older before g name b None e NoName = tt
led_named p log line older before g name b None e Untold = tt

-- and so after any line
led_after : (p : Plan) (log : List Line) (line : Line) (older : List Line) → IsBefore (line ∷ older) log → (path : Path) → IsLed p log path → IsLed p log (path_after p line older path)
led_after p log (Ask a b (ReadName g name) as_told.Given took) older before path k = led_named p log (Ask a b (ReadName g name) as_told.Given took) older before g name b.0 (entry_at g name (holds p older b.0)) refl path
led_after p log (Ask a b (ReadName g name) told took) older before path k = tt
led_after p log line older before path k = k

led_in : (p : Plan) (log : List Line) (w : Work) → AreIn log w → IsLed p log (path_by p w)
led_in p log [] is = Top refl refl
led_in p log (x ∷ w) is = led_after p log x.0 x.1 is.0 (path_by p w) (led_in p log w is.1)

pub path_in : (p : Plan) (log : List Line) (w : Work) → AreIn log w → (read : ℕ) (object : Entry) → path_by p w ≡ At read object → SaysKind p log object.gfid object.what
path_in p log w is read object e = subst (IsLed p log) e (led_in p log w is)

pub finds_path : FindsPath
finds_path p a log read object e = path_in p log (work a log) (work_in a log) read object e

-- ---- the attempt
-- the attempt's number is of a line, which begins the work's change
abbrev IsAttempt : List Line → Work → Type 0
IsAttempt log w = (q : ℕ) → begun_by w ≡ Some q → (q < length log) × (change_at q log ≡ change_by w)

-- the changes of older lines stand where they stood
still : (q : ℕ) (line : Line) (older : List Line) → q < length older → change_at q (line ∷ older) ≡ change_at q older
still q line older low = (let e : (q == length older) ≡ false = grind (arith, nat_tests, low) in rw e refl)

change_since : (start log : List Line) → IsBefore start log → (q : ℕ) → q < length start → (q < length log) × (change_at q log ≡ change_at q start)
change_since start [] is q low = (subst (λ (x : List Line). q < length x) is low, ap (change_at q) (sym is))
change_since start (line ∷ older) (inl is) q low = (subst (λ (x : List Line). q < length x) is low, ap (change_at q) (sym is))
change_since start (line ∷ older) (inr k) q low = (let w = change_since start older k q low in let less = w.0 in (omega (arith, less), still q line older less ∙ w.1))

line_attempt : (log : List Line) (line : Line) (older : List Line) → IsBefore (line ∷ older) log → (w : Work) → IsAttempt log w → IsAttempt log ((line, older) ∷ w)
line_attempt log (Begin a change) older before w k q e = (at.0, at.1 ∙ subst (λ (n : ℕ). change_at n (Begin a change ∷ older) ≡ Some change) same (rw (same_number (length older)) refl))
  where
    same : length older ≡ q
    same = cc e

    at : (q < length log) × (change_at q log ≡ change_at q (Begin a change ∷ older))
    at = change_since (Begin a change ∷ older) log before q (omega (arith, same))
line_attempt log line older before w k q e = k q e

attempt_in : (log : List Line) (w : Work) → AreIn log w → IsAttempt log w
attempt_in log [] is = λ q e. absurd (cc e)
attempt_in log (x ∷ w) is = line_attempt log x.0 x.1 is.0 w (attempt_in log w is.1)

pub change_in : (log : List Line) (w : Work) → AreIn log w → (q : ℕ) → begun_by w ≡ Some q → change_at q log ≡ change_by w
change_in log w is q e = (attempt_in log w is q e).1

pub finds_attempt : FindsAttempt
finds_attempt a log q e = change_in log (work a log) (work_in a log) q e
