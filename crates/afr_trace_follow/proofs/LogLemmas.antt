-- The lines of the code's log before a position, and what each of them showed.
use Rattle.std.proofs.Common.{◌≡◌, ◌∙◌, ℕ, suc, ◌+◌, ◌-◌, ◌<◌, ◌≤◌, ◌==◌, true, false, List, [], ◌∷◌, ◌++◌, ◌⊎◌, inl, inr, Option, Some, length, take, drop, reverse, get_or, slice_get, refl, sym, ap, subst, arith, if◌then◌else◌}
use Rattle.std.proofs.lemmas.Bool.Decides.{eqb_tells}
use Rattle.std.proofs.lemmas.List.{length-drop, length-reverse, length-take, reverse-append, take-append-drop, take_all}
use Rattle.std.proofs.lemmas.Option.{slice_get-get_or}
use Rattle.std.proofs.Math.Seq.{take-suc}
use Rattle.afr_lines.specs.Log.{before, from_oldest}
use Rattle.afr_lines.specs.LogLemmas.{from_oldest-reverse}
use Rattle.afr_lines.specs.declared.answer.Told.TheVariants as as_told
use Rattle.afr_lines.specs.declared.line.Line.{Line}
use Rattle.afr_lines.specs.declared.line.Line.TheVariants.{Ask}
use Rattle.afr_lines.specs.declared.request.Request.TheVariants.{ReadName}
use Rattle.afr_model.specs.Showing.{Path, one_name, path_after}
use Rattle.afr_model.specs.Tables.{Past, entry_at, held_before, holds}
use Rattle.afr_object.specs.Tables.{Table}
use Rattle.afr_object.specs.declared.entry.Entry.{Entry}
use Rattle.afr_plan.specs.declared.plan.Plan.{Plan}
use Rattle.afr_trace_follow.specs.Stands.{path_shown}
use Rattle.afr_trace_tally.specs.Entries.{entry_shown}

-- ---- the lines up to a position
-- the newest of them is the one that stands there
pub newest : (log : List Line) (at : ℕ) (line : Line) → at < length log → line ≡ get_or log at line → reverse (take (at + 1) log) ≡ line ∷ reverse (take at log)
newest log at line l e =
    let next : at + 1 ≡ suc at = omega arith in
    let all : take (at + 1) log ≡ take at log ++ line ∷ [] = ap (λ (n : ℕ). take n log) next ∙ take-suc log at line l ∙ ap (λ (x : Line). take at log ++ x ∷ []) (sym e) in
    ap (λ (t : List Line). reverse t) all ∙ reverse-append (take at log) (line ∷ [])

-- there are as many as it says
pub length_before : (log : List Line) (at : ℕ) → at ≤ length log → at ≡ length (reverse (take at log))
length_before log at l = omega (arith, length-reverse (take at log), length-take at log)

pub of_whole : (P : List Line → Type 0) (log : List Line) (at : ℕ) → length log ≤ at → P (reverse (take at log)) → P (reverse log)
of_whole P log at long h = subst (λ (t : List Line). P (reverse t)) (take_all at log long) h

pub one_more : (P : List Line → Type 0) (log : List Line) (at : ℕ) (line : Line) → at < length log → line ≡ get_or log at line → P (line ∷ reverse (take at log)) → P (reverse (take (at + 1) log))
one_more P log at line l e h = subst P (sym (newest log at line l e)) h

-- a fold over the log, one line more
pub next : {A : Type 0} (F : List Line → A) (log : List Line) (at : ℕ) (line : Line) (x : A) → at < length log → line ≡ get_or log at line → x ≡ F (line ∷ reverse (take at log)) → x ≡ F (reverse (take (at + 1) log))
next F log at line x l e h = h ∙ ap F (sym (newest log at line l e))

-- ---- the first lines of a log, the newest first
drop_front : (one other : List Line) → drop (length one) (one ++ other) ≡ other
drop_front [] other = refl
drop_front (x ∷ one) other = drop_front one other

pub before_is : (k : ℕ) (log : List Line) → before k (reverse log) ≡ reverse (take k log)
before_is k log =
    let parts : reverse log ≡ reverse (drop k log) ++ reverse (take k log) = ap (λ (t : List Line). reverse t) (sym (take-append-drop k log)) ∙ reverse-append (take k log) (drop k log) in
    let count : length (reverse log) - k ≡ length (reverse (drop k log)) = omega (arith, length-reverse log, length-reverse (drop k log), length-drop k log) in
    ap (λ (n : ℕ). drop n (reverse log)) count ∙ ap (λ (t : List Line). drop (length (reverse (drop k log))) t) parts ∙ drop_front (reverse (drop k log)) (reverse (take k log))

-- all lines
pub before_all : (line : Line) (older : List Line) → before (suc (length older)) (line ∷ older) ≡ line ∷ older
before_all line older = let none : suc (length older) - suc (length older) ≡ 0 = omega arith in ap (λ (n : ℕ). drop n (line ∷ older)) none

-- those without the newest
pub before_less : (n : ℕ) (line : Line) (older : List Line) → n ≤ length older → before n (line ∷ older) ≡ before n older
before_less n line older l = let one : suc (length older) - n ≡ suc (length older - n) = omega arith in ap (λ (m : ℕ). drop m (line ∷ older)) one

pub before_older : (line : Line) (older : List Line) → before (length older) (line ∷ older) ≡ older
before_older line older = let one : suc (length older) - length older ≡ 1 = omega arith in ap (λ (n : ℕ). drop n (line ∷ older)) one

-- ---- what was shown
-- the tables before the line at a position
held_first : (p : Plan) (log : List Line) (k b : ℕ) → k < length log → held_before p log k b ≡ holds p (before k log) b
held_first p [] k b low = absurd (omega arith)
held_first p (line ∷ older) k b low = split (eqb_tells k (length older)) (λ less. held_first p older k b less)
  where
    split : ((k == length older) ≡ true) × (k ≡ length older) ⊎ ((k == length older) ≡ false) × (k ≡ length older → ⊥) → (k < length older → held_before p older k b ≡ holds p (before k older) b)
        → (if k == length older then holds p older b else held_before p older k b) ≡ holds p (before k (line ∷ older)) b
    split (inl s) more = rw s.0 (ap (λ (t : List Line). holds p t b) (sym (ap (λ (n : ℕ). before n (line ∷ older)) s.1 ∙ before_older line older)))
    split (inr s) more = rw s.0 (more (omega (arith, low, s.1)) ∙ ap (λ (t : List Line). holds p t b) (sym (before_less k line older (omega (arith, low)))))

pub held_at : (p : Plan) (log : List Line) (k b : ℕ) → k < length log → held_before p (reverse log) k b ≡ holds p (reverse (take k log)) b
held_at p log k b low = held_first p (reverse log) k b (omega (arith, low, length-reverse log)) ∙ ap (λ (t : List Line). holds p t b) (before_is k log)

-- what a line makes of a path, by the entry that it showed
shown_then : (p : Plan) (line : Line) (older : List Line) (path : Path) (entry : Option Entry) (all : Past) (k : ℕ) → ((b : ℕ) → all k b ≡ holds p older b) → entry ≡ entry_shown all k (Some line)
    → path_shown line entry path ≡ path_after p line older path
shown_then p (Ask a b (ReadName g name) as_told.Given took) older path entry all k h e = ap (λ (o : Option Entry). one_name o path) (e ∙ ap (λ (t : Table). entry_at g name t) (h b.0))
shown_then p (Ask a b (ReadName g name) told took) older path entry all k h e = refl
shown_then p line older path entry all k h e = refl

pub shown_at : (p : Plan) (log : List Line) (k : ℕ) (line : Line) (entry : Option Entry) → k < length log → slice_get log k ≡ Some line → entry ≡ entry_shown (held_before p (reverse log)) k (from_oldest k (reverse log)) → (path : Path)
    → path_shown line entry path ≡ path_after p line (reverse (take k log)) path
shown_at p log k line entry low here e path =
    shown_then p line (reverse (take k log)) path entry (held_before p (reverse log)) k (λ b. held_at p log k b low)
    (e ∙ ap (λ (o : Option Line). entry_shown (held_before p (reverse log)) k o) (from_oldest-reverse log k ∙ here))

-- the line that stands at a position of the code's log
pub stands_at : (log : List Line) (k : ℕ) (line : Line) → k < length log → line ≡ get_or log k line → slice_get log k ≡ Some line
stands_at log k line low e = slice_get-get_or log k line low ∙ ap Some (sym e)
