-- What is found of a trace, by the log that its lines have built so far.
use Rattle.std.proofs.Common.{◌≡◌, ◌∙◌, ◌↔◌, ℕ, zero, suc, ◌+◌, ◌<◌, ◌≤◌, Bool, true, false, List, [], ◌∷◌, ◌++◌, Option, Some, None, IfNone, IfSome, length, drop, get_or, IfOk, Result, map, reverse, refl, sym, ap, subst, arith, add-one, append_assoc, if◌then◌else◌}
use Rattle.std.proofs.lemmas.List.{length-reverse, reverse-append}
use Rattle.std.proofs.lemmas.Option.{same_Some}
use Rattle.afr_lines.specs.Log.{EveryPrefix}
use Rattle.afr_lines.specs.declared.line.Line.{Line}
use Rattle.afr_model.specs.Safe.{IsSafe}
use Rattle.afr_plan.specs.declared.plan.Plan.{Plan}
use Rattle.afr_trace_build.specs.Built.{Built, End, NoLine, OtherWords, Whole, and_on, built_on, end_of}
use Rattle.afr_trace_build.specs.Filling.{fill}
use Rattle.afr_trace_build.specs.declared.filling.Filled.{Filled}
use Rattle.afr_trace_build.specs.declared.filling.Filled.TheVariants as filled
use Rattle.afr_trace_check.specs.Grounds.{IsGrounded}
use Rattle.afr_trace_check.specs.Honest.{IsHonestBySums}
use Rattle.afr_trace_check.specs.Right.{BreaksFirst, Breaks, Ends, EndsBy, IsFoundIn, IsRight, IsRightAlways}
use Rattle.afr_trace_check.specs.declared.finding.Finding.TheVariants as finding
use Rattle.afr_trace_check.specs.declared.finding.Rule.{Rule}
use Rattle.afr_trace_check.specs.declared.finding.Rule.TheVariants as rule
use Rattle.afr_base.specs.declared.ids.Gfid.{Gfid}
use Rattle.afr_base.specs.declared.memory.NoMemory.{NoMemory}
use Rattle.afr_trace_follow.specs.Planned.{IsPlanned}
use Rattle.afr_trace_safe.specs.Touched.{WasSafe, touched}
use Rattle.afr_trace_check.specs.Taken.{BreaksOne, IsOutcomeOf, KeepsRules}
use Rattle.afr_trace_read.specs.Seen.{seen_line}
use Rattle.afr_trace_read.specs.declared.kinds.TraceLine.{TraceLine}
use Rattle.afr_trace_read.specs.declared.trace.SpelledLine.{SpelledLine}

pub right_now : (p : Plan) (log : List Line) → EveryPrefix (IsRight p) log → IsRight p log
right_now p [] all = all
right_now p (l ∷ older) all = all.0

-- a line more that keeps every rule
pub right_next : (p : Plan) (l : Line) (older : List Line) → EveryPrefix (IsRight p) older → IsPlanned p l older → IsHonestBySums p l older → IsGrounded p l older → IsSafe p (l ∷ older) → EveryPrefix (IsRight p) (l ∷ older)
right_next p l older all follows honest blamed safe =
    let was = right_now p older all in
    (record { follows = (follows, was.follows); honest = (honest, was.honest); blamed = (blamed, was.blamed); safe = safe }, all)

pub breaks_honest : (p : Plan) (l : Line) (older : List Line) → EveryPrefix (IsRight p) older → IsPlanned p l older → (IsHonestBySums p l older → ⊥) → BreaksFirst p (l ∷ older) rule.Honest
breaks_honest p l older all follows never = ((follows, (right_now p older all).follows), λ honest. never honest.0)

pub breaks_blamed : (p : Plan) (l : Line) (older : List Line) → EveryPrefix (IsRight p) older → IsPlanned p l older → IsHonestBySums p l older → (IsGrounded p l older → ⊥) → BreaksFirst p (l ∷ older) rule.Blamed
breaks_blamed p l older all follows honest never = let was = right_now p older all in ((follows, was.follows), (honest, was.honest), λ blamed. never blamed.0)

pub breaks_safe : (p : Plan) (l : Line) (older : List Line) → EveryPrefix (IsRight p) older → IsPlanned p l older → IsHonestBySums p l older → IsGrounded p l older → (IsSafe p (l ∷ older) → ⊥) → BreaksFirst p (l ∷ older) rule.Safe
breaks_safe p l older all follows honest blamed never = let was = right_now p older all in ((follows, was.follows), (honest, was.honest), (blamed, was.blamed), never)

-- ---- what a trace builds
-- what these lines build on others has those others
extends : (p : Plan) (broken : Bool) (xs : List (TraceLine × List ℕ)) (older : List Line) → (newer : List Line) × ((built_on p broken xs older).log ≡ newer ++ older)
extends p broken [] older = ([], refl)
extends p broken (x ∷ xs) older = by (fill p older x) (λ l. extends p broken xs (l ∷ older))
  where
    by : (f : Filled) → ((l : Line) → (newer : List Line) × ((built_on p broken xs (l ∷ older)).log ≡ newer ++ (l ∷ older)))
        → (newer : List Line) × ((and_on older f (λ log. built_on p broken xs log)).log ≡ newer ++ older)
    by (filled.Stands l) more = let r = more l in (r.0 ++ l ∷ [], rw append_assoc r.1)
    by filled.NoLine more = ([], refl)
    by filled.OtherWords more = ([], refl)

-- one line more
pub builds : (p : Plan) (whole : Built) (broken : Bool) (x : TraceLine × List ℕ) (xs : List (TraceLine × List ℕ)) (older : List Line) (f : Filled) → f ≡ fill p older x → whole ≡ built_on p broken (x ∷ xs) older
    → whole ≡ and_on older f (λ log. built_on p broken xs log)
builds p whole broken x xs older f e h = h ∙ ap (λ (g : Filled). and_on older g (λ log. built_on p broken xs log)) (sym e)

-- ---- what is found
-- where the lines end
pub found_end : (p : Plan) (whole : Built) (older : List Line) (end : End) (broken : Rule) → whole ≡ record { log = older; end = end } → EveryPrefix (IsRight p) older → EndsBy end broken → IsFoundIn p whole (finding.No (length older) broken)
found_end p whole older end broken e all by = subst (λ (b : Built). IsFoundIn p b (finding.No (length older) broken)) (sym e) (Ends broken all by)

pub found_whole : (p : Plan) (whole : Built) (older : List Line) → whole ≡ record { log = older; end = Whole } → EveryPrefix (IsRight p) older → IsFoundIn p whole (finding.Yes (length older))
found_whole p whole older e all = subst (λ (b : Built). IsFoundIn p b (finding.Yes (length older))) (sym e) (IsRightAlways refl all)

-- where a line breaks a rule
pub found_broken : (p : Plan) (whole : Built) (broken : Bool) (xs : List (TraceLine × List ℕ)) (l : Line) (older : List Line) (first : Rule) → whole ≡ built_on p broken xs (l ∷ older) → EveryPrefix (IsRight p) older → BreaksFirst p (l ∷ older) first
    → IsFoundIn p whole (finding.No (length older) first)
found_broken p whole broken xs l older first e all breaks =
    let r = extends p broken xs (l ∷ older) in
    Breaks r.0 older l first (ap (λ (b : Built). b.log) e ∙ r.1) all breaks

-- ---- one line of a trace
-- it is taken
next_taken : (p : Plan) (whole : Built) (broken : Bool) (x : TraceLine × List ℕ) (xs : List (TraceLine × List ℕ)) (older log : List Line) (f : Filled) → f ≡ fill p older x → IsOutcomeOf p older log f None → whole ≡ built_on p broken (x ∷ xs) older
    → (whole ≡ built_on p broken xs log) × EveryPrefix (IsRight p) log × (length log ≡ suc (length older))
next_taken p whole broken x xs older log (filled.Stands l) e h b =
    (builds p whole broken x xs older (filled.Stands l) e b ∙ ap (λ (y : List Line). built_on p broken xs y) (sym h.0), h.1, ap (λ (y : List Line). length y) h.0)
next_taken p whole broken x xs older log filled.NoLine e h b = absurd (cc h)
next_taken p whole broken x xs older log filled.OtherWords e h b = absurd (cc h)

-- or it breaks a rule
next_broken : (p : Plan) (whole : Built) (broken : Bool) (x : TraceLine × List ℕ) (xs : List (TraceLine × List ℕ)) (older log : List Line) (first : Rule) (f : Filled) → f ≡ fill p older x → IsOutcomeOf p older log f (Some first)
    → EveryPrefix (IsRight p) older → whole ≡ built_on p broken (x ∷ xs) older → IsFoundIn p whole (finding.No (length older) first)
next_broken p whole broken x xs older log first (filled.Stands l) e h all b = found_broken p whole broken xs l older first (builds p whole broken x xs older (filled.Stands l) e b) all h
next_broken p whole broken x xs older log first filled.NoLine e h all b = found_end p whole older NoLine first (builds p whole broken x xs older filled.NoLine e b) all (same_Some first rule.Text h)
next_broken p whole broken x xs older log first filled.OtherWords e h all b = found_end p whole older OtherWords first (builds p whole broken x xs older filled.OtherWords e b) all (same_Some first rule.Follows h)

-- ---- the lines of a trace
spelled_at : (xs : List SpelledLine) (i : ℕ) (x : SpelledLine) → i < length xs → drop i (map seen_line xs) ≡ seen_line (get_or xs i x) ∷ drop (suc i) (map seen_line xs)
spelled_at [] i x low = absurd (omega (arith, low))
spelled_at (y ∷ ys) zero x low = refl
spelled_at (y ∷ ys) (suc i) x low = spelled_at ys i x (omega (arith, low))

-- from one line on
spelled_next : (xs : List SpelledLine) (i : ℕ) (x : SpelledLine) → i < length xs → drop i (map seen_line xs) ≡ seen_line (get_or xs i x) ∷ drop (i + 1) (map seen_line xs)
spelled_next xs i x low = spelled_at xs i x low ∙ ap (λ (k : ℕ). seen_line (get_or xs i x) ∷ drop k (map seen_line xs)) (sym (add-one i))

spelled_end : (xs : List SpelledLine) (i : ℕ) → length xs ≤ i → drop i (map seen_line xs) ≡ []
spelled_end [] zero h = refl
spelled_end [] (suc i) h = refl
spelled_end (x ∷ xs) zero h = absurd (omega (arith, h))
spelled_end (x ∷ xs) (suc i) h = spelled_end xs i (omega (arith, h))

module _ (p : Plan) (whole : Built) (broken : Bool) (xs : List SpelledLine) (i : ℕ) (older : List Line) (built_so_far : whole ≡ built_on p broken (drop i (map seen_line xs)) older) where
  at_line : (x : SpelledLine) → i < length xs → whole ≡ built_on p broken (seen_line (get_or xs i x) ∷ drop (i + 1) (map seen_line xs)) older
  at_line x low = built_so_far ∙ ap (λ (ys : List (TraceLine × List ℕ)). built_on p broken ys older) (spelled_next xs i x low)

  pub line_taken : (x : SpelledLine) (log : List Line) (o : Option Rule) → i < length xs → IsOutcomeOf p older log (fill p older (seen_line (get_or xs i x))) o → o ≡ None
      → (whole ≡ built_on p broken (drop (i + 1) (map seen_line xs)) log) × EveryPrefix (IsRight p) log × (length log ≡ suc (length older))
  line_taken x log o low h e =
      let spelled = seen_line (get_or xs i x) in
      next_taken p whole broken spelled (drop (i + 1) (map seen_line xs)) older log (fill p older spelled) refl (subst (λ (y : Option Rule). IsOutcomeOf p older log (fill p older spelled) y) e h) (at_line x low)

  pub line_broken : (x : SpelledLine) (log : List Line) (first : Rule) (o : Option Rule) (count : ℕ) → i < length xs → IsOutcomeOf p older log (fill p older (seen_line (get_or xs i x))) o → o ≡ Some first → EveryPrefix (IsRight p) older → length older ≡ count
      → IsFoundIn p whole (finding.No count first)
  line_broken x log first o count low h e all many =
      let spelled = seen_line (get_or xs i x) in
      subst (λ (n : ℕ). IsFoundIn p whole (finding.No n first)) many
      (next_broken p whole broken spelled (drop (i + 1) (map seen_line xs)) older log first (fill p older spelled) refl (subst (λ (y : Option Rule). IsOutcomeOf p older log (fill p older spelled) y) e h) all (at_line x low))

  pub lines_end : (count : ℕ) → length xs ≤ i → EveryPrefix (IsRight p) older → length older ≡ count → IsFoundIn p whole (if broken then finding.No count rule.Text else finding.Yes count)
  lines_end count high all many = subst (λ (n : ℕ). IsFoundIn p whole (if broken then finding.No n rule.Text else finding.Yes n)) many (by broken (built_so_far ∙ ap (λ (ys : List (TraceLine × List ℕ)). built_on p broken ys older) (spelled_end xs i high)))
    where
      by : (f : Bool) → whole ≡ record { log = older; end = end_of f } → IsFoundIn p whole (if f then finding.No (length older) rule.Text else finding.Yes (length older))
      by true e = found_end p whole older NoLine rule.Text e all refl
      by false e = found_whole p whole older e all

-- ---- one line
-- a test that fails
pub never_if : (flag : Bool) (P : Type 0) → flag ≡ false → (flag ≡ true) ↔ P → P → ⊥
never_if flag P e told h = let passed : flag ≡ true = told.1 h in absurd (cc (e, passed))

some_has : (o : Option Rule) (P : Rule → Type 0) (r : Rule) → o ≡ Some r → IfSome o P → P r
some_has None P r e h = absurd (cc e)
some_has (Some b) P r e h = subst P (same_Some b r e) h

none_has : (o : Option Rule) (P : Type 0) → o ≡ None → IfNone o P → P
none_has None P e h = h
none_has (Some b) P e h = absurd (cc e)

-- one more line of the code's log
pub log_more : (xs ys : List Line) (l : Line) → ys ≡ xs ++ l ∷ [] → reverse ys ≡ l ∷ reverse xs
log_more xs ys l e = ap (λ (t : List Line). reverse t) e ∙ reverse-append xs (l ∷ [])

-- it breaks a rule that speaks of it alone
pub outcome_broken : (p : Plan) (l : Line) (slice items : List Line) (o : Option Rule) (r : Rule) → slice ≡ items → o ≡ Some r → IfSome o (λ b. BreaksOne p l (reverse slice) b) → EveryPrefix (IsRight p) (reverse items) → BreaksFirst p (l ∷ reverse items) r
outcome_broken p l slice items o r e is h all =
    subst (λ (xs : List Line). BreaksFirst p (l ∷ reverse xs) r) e (some_has o (λ b. BreaksOne p l (reverse slice) b) r is h (subst (λ (xs : List Line). EveryPrefix (IsRight p) (reverse xs)) (sym e) all))

pub keeps_rules : (p : Plan) (l : Line) (slice items : List Line) (o : Option Rule) → slice ≡ items → o ≡ None → IfNone o (KeepsRules p l (reverse slice)) → KeepsRules p l (reverse items)
keeps_rules p l slice items o e is h = subst (λ (xs : List Line). KeepsRules p l (reverse xs)) e (none_has o (KeepsRules p l (reverse slice)) is h)

-- what the judge of safe logs asks
pub was_safe : (p : Plan) (l : Line) (items slice more more_slice : List Line) (objects object_slice : List Gfid) → more_slice ≡ more → more ≡ items ++ l ∷ [] → slice ≡ items → object_slice ≡ objects → objects ≡ touched p l (reverse slice)
    → EveryPrefix (IsRight p) (reverse items) → WasSafe p (reverse more_slice) object_slice
was_safe p l items slice more more_slice objects object_slice e f g h k all =
    rw (e, log_more items more l f) ((right_now p (reverse items) all).safe, h ∙ k ∙ ap (λ (xs : List Line). touched p l (reverse xs)) g)

module _ (p : Plan) (l : Line) (items more more_slice : List Line) (safe : Bool) (e : more_slice ≡ more) (f : more ≡ items ++ l ∷ []) (told : (safe ≡ true) ↔ IsSafe p (reverse more_slice)) (all : EveryPrefix (IsRight p) (reverse items)) (keeps : KeepsRules p l (reverse items)) where
  same_log : reverse more_slice ≡ l ∷ reverse items
  same_log = ap (λ (t : List Line). reverse t) e ∙ log_more items more l f

  pub outcome_unsafe : safe ≡ false → BreaksFirst p (l ∷ reverse items) rule.Safe
  outcome_unsafe no_safe =
      breaks_safe p l (reverse items) all keeps.follows keeps.honest keeps.blamed (λ h. never_if safe (IsSafe p (reverse more_slice)) no_safe told (subst (λ (log : List Line). IsSafe p log) (sym same_log) h))

  pub outcome_taken : safe ≡ true → (reverse more ≡ l ∷ reverse items) × EveryPrefix (IsRight p) (reverse more)
  outcome_taken is_safe =
      let log : reverse more ≡ l ∷ reverse items = log_more items more l f in (
        log,
        subst (λ (xs : List Line). EveryPrefix (IsRight p) xs) (sym log)
            (right_next p l (reverse items) all keeps.follows keeps.honest keeps.blamed (subst (λ (xs : List Line). IsSafe p xs) same_log (told.0 is_safe))),
      )

-- a text that stands for a line
pub outcome_filled : (p : Plan) (older log : List Line) (f g : Filled) (r : Result (Option Rule) NoMemory) → f ≡ g → IfOk r (λ o. IsOutcomeOf p older log f o) → IfOk r (λ o. IsOutcomeOf p older log g o)
outcome_filled p older log f g r e h = subst (λ (x : Filled). IfOk r (λ o. IsOutcomeOf p older log x o)) e h

-- how many lines the log of the code has
pub logged : (xs : List Line) (i : ℕ) → length xs ≡ i → length (reverse xs) ≡ i
logged xs i e = length-reverse xs ∙ e

pub logged_back : (xs : List Line) (more i : ℕ) → length (reverse xs) ≡ suc more → more ≡ i → length xs ≡ i + 1
logged_back xs more i e h = sym (length-reverse xs) ∙ e ∙ ap suc h ∙ sym (add-one i)
