-- The counts of a log that is read from its oldest line on are those of the log, and its parts are the summary.
use Rattle.std.proofs.Common.{◌≡◌, ℕ, suc, ◌+◌, ◌<◌, ◌≤◌, Bool, true, false, List, [], ◌∷◌, ◌++◌, Option, Some, None, length, take, get_or, reverse, slice_get, cond, refl, sym, ap, ◌∙◌, arith, append_assoc}
use Rattle.std.specs.Prelude.{codes, count_by}
use Rattle.std.specs.List.{sum_by}
use Rattle.std.proofs.Math.Seq.{take-suc}
use Rattle.std.proofs.lemmas.List.{reverse-append, length-reverse}
use Rattle.std.proofs.lemmas.List.Sums.{sum_by-cons, sum_by_push}
use Rattle.std.proofs.lemmas.Option.{get_or_from_slice_get, none-some, slice_get-get_or, slice_get_within}
use Rattle.afr_base.specs.declared.ids.ActorId.{ActorId}
use Rattle.afr_base.specs.declared.ids.BrickId.{BrickId}
use Rattle.afr_lines.specs.declared.answer.Told.{Told}
use Rattle.afr_lines.specs.declared.line.Event.TheVariants.{Stop}
use Rattle.afr_lines.specs.declared.line.Line.{Line}
use Rattle.afr_lines.specs.declared.line.Line.TheVariants.{Ask, Begin, HealBegin, End, HealEnd, Event}
use Rattle.afr_lines.specs.declared.request.Request.{Request}
use Rattle.afr_log.specs.Log.{unasked, unasked_line}
use Rattle.afr_plan.specs.declared.plan.Plan.{Plan}
use Rattle.afr_model.specs.Report.{started_bricks}
use Rattle.afr_model.specs.ReportObjects.{marked_on, splits_in}
use Rattle.afr_report.specs.Summary.Summary.{count_line, ends_ok, ends_refused, ends_settled, marked, splits, summary_of}

-- a sum over lines doesn't depend on where one begins
summed_back : (f : Line → ℕ) (lines : List Line) → sum_by f (reverse lines) ≡ sum_by f lines
summed_back f [] = refl
summed_back f (line ∷ more) =
    ap (sum_by f) (reverse-append (line ∷ []) more) ∙ sum_by_push f (reverse more) line
    ∙ last (f line) (sum_by f (reverse more)) (sum_by f more) (sum_by f (line ∷ more)) (summed_back f more) (sum_by-cons f line more)
  where
    last : (one back all whole : ℕ) → back ≡ all → whole ≡ one + all → back + one ≡ whole
    last one back all whole e g = omega arith

-- nor does a count
counted_back : (p : Line → Bool) (lines : List Line) → count_by p (reverse lines) ≡ count_by p lines
counted_back p lines = summed_back (λ x. cond (p x) 1 0) lines

-- ---- a log that is read from its oldest line on, by its lines that are no requests
-- the count with one line more
counted_one : (p : Line → Bool) (lines : List Line) (at : ℕ) (line : Line) → slice_get lines at ≡ Some line → count_by p (take (at + 1) lines) ≡ count_by p (take at lines) + cond (p line) 1 0
counted_one p lines at line e =
    let next : at + 1 ≡ suc at = omega arith in
    let whole : take (at + 1) lines ≡ take at lines ++ line ∷ [] =
    ap (λ (n : ℕ). take n lines) next ∙ take-suc lines at line (slice_get_within lines at line e) ∙ ap (λ (x : Line). take at lines ++ x ∷ []) (get_or_from_slice_get lines at line line e) in
    ap (λ (t : List Line). count_by p t) whole ∙ sum_by_push (λ x. cond (p x) 1 0) (take at lines) line

-- where a line is shown as no request, it is the one that stands there
shown : (o : Option Line) (line : Line) → Some line ≡ unasked o → o ≡ Some line
shown None line e = absurd (none-some line (sym e))
shown (Some (Ask actor brick request told took)) line e = absurd (none-some line (sym e))
shown (Some (Begin actor change)) line e = sym e
shown (Some (HealBegin actor g kind)) line e = sym e
shown (Some (End actor reply)) line e = sym e
shown (Some (HealEnd actor g kind reply)) line e = sym e
shown (Some (Event event)) line e = sym e

-- a line that isn't shown is a request, which is no end
asked : (p : Line → Bool) → ((actor : ActorId) (brick : BrickId) (request : Request) (told : Told) (took : Bool) → p (Ask actor brick request told took) ≡ false)
    → (line : Line) → None ≡ unasked_line line → p line ≡ false
asked p none (Ask actor brick request told took) e = none actor brick request told took
asked p none (Begin actor change) e = absurd (none-some (Begin actor change) e)
asked p none (HealBegin actor g kind) e = absurd (none-some (HealBegin actor g kind) e)
asked p none (End actor reply) e = absurd (none-some (End actor reply) e)
asked p none (HealEnd actor g kind reply) e = absurd (none-some (HealEnd actor g kind reply) e)
asked p none (Event event) e = absurd (none-some (Event event) e)

pub counted_shown : (p : Line → Bool) (lines : List Line) (at before one after : ℕ) (told : Bool) (line : Line) → Some line ≡ unasked (slice_get lines at)
    → after ≡ before + one → one ≡ cond told 1 0 → told ≡ p line → before ≡ count_by p (take at lines) → before ≤ at → (after ≡ count_by p (take (at + 1) lines)) × (after ≤ at + 1)
counted_shown p lines at before one after told line e sum is same h few =
    (sum ∙ ap (λ (n : ℕ). n + one) h ∙ ap (λ (n : ℕ). count_by p (take at lines) + n) (is ∙ ap (λ (b : Bool). cond b 1 0) same) ∙ sym (counted_one p lines at line (shown (slice_get lines at) line e)), more told is)
  where
    more : (b : Bool) → one ≡ cond b 1 0 → after ≤ at + 1
    more true e = omega (arith, sum, e, few)
    more false e = omega (arith, sum, e, few)

pub counted_asked : (p : Line → Bool) → ((actor : ActorId) (brick : BrickId) (request : Request) (told : Told) (took : Bool) → p (Ask actor brick request told took) ≡ false)
    → (lines : List Line) (at before : ℕ) → at < length lines → None ≡ unasked (slice_get lines at) → before ≡ count_by p (take at lines) → before ≡ count_by p (take (at + 1) lines)
counted_asked p none lines at before small e h =
    let there : slice_get lines at ≡ Some (get_or lines at no_line) = slice_get-get_or lines at no_line small in
    let line : Line = get_or lines at no_line in
    let no : p line ≡ false = asked p none line (e ∙ ap unasked there) in
    h ∙ sym (counted_one p lines at line there ∙ ap (λ (b : Bool). count_by p (take at lines) + cond b 1 0) no ∙ omega arith)
  where
    no_line : Line
    no_line = Event (Stop (record { 0 = 0 }))

-- ---- the text
grouped : (a b c d e f g : List ℕ) → (([] ++ (a ++ b)) ++ ((c ++ d) ++ e)) ++ (f ++ g) ≡ ((((((a ++ b) ++ c) ++ d) ++ e) ++ f) ++ g)
grouped a b c d e f g = simp append_assoc

-- the three parts of a summary, one after the other
pub parts : (p : Plan) (lines : List Line) (n : ℕ) (started : List ℕ) (ok refused settled objects split : ℕ) (first second third : List ℕ)
    → started ≡ started_bricks p.shape.n (reverse lines)
    → ok ≡ count_by ends_ok lines → refused ≡ count_by ends_refused lines → settled ≡ count_by ends_settled lines
    → objects ≡ length (marked_on p (reverse lines) started) → split ≡ splits_in p (reverse lines) started (marked_on p (reverse lines) started)
    → first ≡ [] ++ (count_line (codes "gen") n ++ count_line (codes "lines") (length lines))
    → second ≡ first ++ (count_line (codes "ok") ok ++ count_line (codes "refused") refused ++ count_line (codes "settled") settled)
    → third ≡ second ++ (count_line (codes "objects") objects ++ count_line (codes "split-brain") split)
    → third ≡ summary_of p (reverse lines) n
parts p lines n started ok refused settled objects split first second third st e1 e2 e3 e4 e5 f g h =
    let len : length lines ≡ length (reverse lines) = sym (length-reverse lines) in
    let a : ok ≡ count_by ends_ok (reverse lines) = e1 ∙ sym (counted_back ends_ok lines) in
    let b : refused ≡ count_by ends_refused (reverse lines) = e2 ∙ sym (counted_back ends_refused lines) in
    let d : settled ≡ count_by ends_settled (reverse lines) = e3 ∙ sym (counted_back ends_settled lines) in
    let m : objects ≡ length (marked p (reverse lines)) = e4 ∙ ap (λ (s : List ℕ). length (marked_on p (reverse lines) s)) st in
    let k : split ≡ splits p (reverse lines) = e5 ∙ ap (λ (s : List ℕ). splits_in p (reverse lines) s (marked_on p (reverse lines) s)) st in
    h ∙ ap (λ (t : List ℕ). t ++ (count_line (codes "objects") objects ++ count_line (codes "split-brain") split)) g
    ∙ ap (λ (t : List ℕ). (t ++ ((count_line (codes "ok") ok ++ count_line (codes "refused") refused) ++ count_line (codes "settled") settled)) ++ (count_line (codes "objects") objects ++ count_line (codes "split-brain") split)) f
    ∙ grouped (count_line (codes "gen") n) (count_line (codes "lines") (length lines)) (count_line (codes "ok") ok) (count_line (codes "refused") refused) (count_line (codes "settled") settled) (count_line (codes "objects") objects) (count_line (codes "split-brain") split)
    ∙ rw (len, a, b, d, m, k) refl
