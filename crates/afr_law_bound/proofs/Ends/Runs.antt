-- A log that was written in an order, from its beginning on.
use Rattle.std.proofs.Common.{◌≡◌, ℕ, ◌+◌, ◌≤◌, ◌||◌, Bool, true, false, refl, sym, subst, arith, List, [], ◌∷◌, ◌++◌, length, ◌∙◌, true≢false}
use Rattle.std.specs.Prelude.{if◌then◌else◌, nat_le}
use Rattle.std.proofs.lemmas.Bool.Decides.{nat_tests}
use Rattle.afr_law_bound.proofs.Ends.Falls.{Facts, facts_before, falls_le}
use Rattle.afr_law_bound.specs.Ends.Left.{left}
use Rattle.afr_lines.specs.Work.{ended, ends_work, events_made, is_event, is_killed, is_of, kills}
use Rattle.afr_lines.specs.declared.line.Line.TheVariants.{Ask, Begin, End, Event, HealBegin, HealEnd}
use Rattle.afr_lines.specs.declared.line.Line.{Line}
use Rattle.afr_model.specs.Actors.{is_done, works_of}
use Rattle.afr_model.specs.Ordered.Writes.{Happens, Moves, Nothing, PassesOver}
use Rattle.afr_model.specs.Ordered.{Writes}
use Rattle.afr_plan.specs.declared.plan.Plan.{Plan}

-- these turns, and events between them, take the old log to the new one
pub data Run (p : Plan) : List ℕ → List Line → List Line → Type 0 where
  Stops : (log : List Line) → Run p [] log log
  Goes : (a : ℕ) (line : Line) (turns : List ℕ) (old new : List Line) → is_of a line ≡ true → Run p turns (line ∷ old) new → Run p (a ∷ turns) old new
  Skips : (a : ℕ) (turns : List ℕ) (old new : List Line) → is_done p a old ≡ true → Run p turns old new → Run p (a ∷ turns) old new
  Comes : (line : Line) (turns : List ℕ) (old new : List Line) → is_event line ≡ true → Run p turns (line ∷ old) new → Run p turns old new

run_goes : (p : Plan) (turns : List ℕ) (old new : List Line) (a : ℕ) (line : Line) → Run p turns old new → is_of a line ≡ true → Run p (turns ++ a ∷ []) old (line ∷ new)
run_goes p [] old new a line (Stops log) own = Goes a line [] old (line ∷ old) own (Stops (line ∷ old))
run_goes p (x ∷ turns) old new a line (Goes y l rest was end mine r) own = Goes x l (turns ++ a ∷ []) old (line ∷ new) mine (run_goes p turns (l ∷ old) new a line r own)
run_goes p (x ∷ turns) old new a line (Skips y rest was end done r) own = Skips x (turns ++ a ∷ []) old (line ∷ new) done (run_goes p turns old new a line r own)
run_goes p turns old new a line (Comes l rest was end event r) own = Comes l (turns ++ a ∷ []) old (line ∷ new) event (run_goes p turns (l ∷ old) new a line r own)

run_skips : (p : Plan) (turns : List ℕ) (old new : List Line) (a : ℕ) → Run p turns old new → is_done p a new ≡ true → Run p (turns ++ a ∷ []) old new
run_skips p [] old new a (Stops log) done = Skips a [] old old done (Stops old)
run_skips p (x ∷ turns) old new a (Goes y l rest was end mine r) done = Goes x l (turns ++ a ∷ []) old new mine (run_skips p turns (l ∷ old) new a r done)
run_skips p (x ∷ turns) old new a (Skips y rest was end over r) done = Skips x (turns ++ a ∷ []) old new over (run_skips p turns old new a r done)
run_skips p turns old new a (Comes l rest was end event r) done = Comes l (turns ++ a ∷ []) old new event (run_skips p turns (l ∷ old) new a r done)

run_comes : (p : Plan) (turns : List ℕ) (old new : List Line) (line : Line) → Run p turns old new → is_event line ≡ true → Run p turns old (line ∷ new)
run_comes p [] old new line (Stops log) event = Comes line [] old (line ∷ old) event (Stops (line ∷ old))
run_comes p (x ∷ turns) old new line (Goes y l rest was end mine r) event = Goes x l turns old (line ∷ new) mine (run_comes p turns (l ∷ old) new line r event)
run_comes p (x ∷ turns) old new line (Skips y rest was end over r) event = Skips x turns old (line ∷ new) over (run_comes p turns old new line r event)
run_comes p turns old new line (Comes l rest was end e r) event = Comes l turns old (line ∷ new) e (run_comes p turns (l ∷ old) new line r event)

pub run_of : (p : Plan) (turns : List ℕ) (log : List Line) → Writes p turns log → Run p turns [] log
run_of p turns log Nothing = Stops []
run_of p turns log (Moves before older a line w own) = run_goes p before [] older a line (run_of p before older w) own
run_of p turns log (PassesOver before older a w done) = run_skips p before [] older a (run_of p before older w) done
run_of p turns log (Happens before older line w event) = run_comes p before [] older line (run_of p before older w) event

-- a run in two parts
split_at : (p : Plan) (turns : List ℕ) (old new : List Line) → Run p turns old new → (xs ys : List ℕ) → turns ≡ xs ++ ys → (mid : List Line) × Run p xs old mid × Run p ys mid new
split_at p turns old new (Stops log) [] ys e = (old, Stops old, subst (λ (t : List ℕ). Run p t old old) e (Stops old))
split_at p turns old new (Stops log) (x ∷ xs) ys e = absurd (cc e)
split_at p turns old new (Goes a line rest was end mine r) [] ys e = (old, Stops old, subst (λ (t : List ℕ). Run p t old new) e (Goes a line rest old new mine r))
split_at p turns old new (Goes a line rest was end mine r) (x ∷ xs) ys e = (
    let tail : rest ≡ xs ++ ys = cc e in
    let head : a ≡ x = cc e in
    let w = split_at p rest (line ∷ old) new r xs ys tail in
    (w.0, subst (λ (z : ℕ). Run p (z ∷ xs) old w.0) head (Goes a line xs old w.0 mine w.1), w.2)
    )
split_at p turns old new (Skips a rest was end done r) [] ys e = (old, Stops old, subst (λ (t : List ℕ). Run p t old new) e (Skips a rest old new done r))
split_at p turns old new (Skips a rest was end done r) (x ∷ xs) ys e = (
    let tail : rest ≡ xs ++ ys = cc e in
    let head : a ≡ x = cc e in
    let w = split_at p rest old new r xs ys tail in
    (w.0, subst (λ (z : ℕ). Run p (z ∷ xs) old w.0) head (Skips a xs old w.0 done w.1), w.2)
    )
split_at p turns old new (Comes line rest was end event r) xs ys e = (let w = split_at p turns (line ∷ old) new r xs ys e in (w.0, Comes line xs old w.0 event w.1, w.2))

pub run_split : (p : Plan) (xs ys : List ℕ) (old new : List Line) → Run p (xs ++ ys) old new → (mid : List Line) × Run p xs old mid × Run p ys mid new
run_split p xs ys old new r = split_at p (xs ++ ys) old new r xs ys refl

-- ---- what a run keeps
pub run_facts : (p : Plan) (turns : List ℕ) (old new : List Line) → Run p turns old new → Facts p new → Facts p old
run_facts p turns old new (Stops log) f = f
run_facts p turns old new (Goes a line rest was end mine r) f = facts_before p line old (run_facts p rest (line ∷ old) new r f)
run_facts p turns old new (Skips a rest was end done r) f = run_facts p rest old new r f
run_facts p turns old new (Comes line rest was end event r) f = facts_before p line old (run_facts p turns (line ∷ old) new r f)

or_more : (k d x y : Bool) → (d || x) ≡ true → (x ≡ true → y ≡ true) → ((k || d) || y) ≡ true
or_more true d x y e h = refl
or_more false true x y e h = refl
or_more false false x y e h = h e

one_end : (here : Bool) (works count : ℕ) → nat_le works count ≡ true → nat_le works (if here then count + 1 else count) ≡ true
one_end true works count h = grind (arith, nat_tests, h)
one_end false works count h = h

-- who is done stays done
pub done_more : (p : Plan) (a : ℕ) (line : Line) (older : List Line) → is_done p a older ≡ true → is_done p a (line ∷ older) ≡ true
done_more p a line older d = or_more (kills a line) (is_killed a older) (nat_le (works_of p a) (ended a older)) (nat_le (works_of p a) (if ends_work a line then ended a older + 1 else ended a older)) d (one_end (ends_work a line) (works_of p a) (ended a older))

pub run_done : (p : Plan) (turns : List ℕ) (old new : List Line) (a : ℕ) → Run p turns old new → is_done p a old ≡ true → is_done p a new ≡ true
run_done p turns old new a (Stops log) d = d
run_done p turns old new a (Goes x line rest was end mine r) d = run_done p rest (line ∷ old) new a r (done_more p a line old d)
run_done p turns old new a (Skips x rest was end done r) d = run_done p rest old new a r d
run_done p turns old new a (Comes line rest was end event r) d = run_done p turns (line ∷ old) new a r (done_more p a line old d)

pub run_undone : (p : Plan) (turns : List ℕ) (old new : List Line) (a : ℕ) → Run p turns old new → is_done p a new ≡ false → is_done p a old ≡ false
run_undone p turns old new a r e = go (is_done p a old) refl
  where
    go : (d : Bool) → is_done p a old ≡ d → is_done p a old ≡ false
    go true f = absurd (true≢false (sym (run_done p turns old new a r f) ∙ e))
    go false f = f

-- what is left never rises
pub run_le : (p : Plan) (turns : List ℕ) (old new : List Line) → Run p turns old new → Facts p new → left p new ≤ left p old
run_le p turns old new (Stops log) f = omega arith
run_le p turns old new (Goes a line rest was end mine r) f = (let x = run_le p rest (line ∷ old) new r f in let y = falls_le p line old (run_facts p rest (line ∷ old) new r f) in omega (arith, x, y))
run_le p turns old new (Skips a rest was end done r) f = run_le p rest old new r f
run_le p turns old new (Comes line rest was end event r) f = (let x = run_le p turns (line ∷ old) new r f in let y = falls_le p line old (run_facts p turns (line ∷ old) new r f) in omega (arith, x, y))

own_event : (a : ℕ) (line : Line) → is_of a line ≡ true → is_event line ≡ false
own_event a (Ask x b r told took) m = refl
own_event a (Begin x change) m = refl
own_event a (HealBegin x g kind) m = refl
own_event a (End x said) m = refl
own_event a (HealEnd x g kind said) m = refl
own_event a (Event event) m = absurd (true≢false (sym m))

-- each turn adds a line at most
pub run_length : (p : Plan) (turns : List ℕ) (old new : List Line) → Run p turns old new → length new + events_made old ≤ length old + length turns + events_made new
run_length p turns old new (Stops log) = omega arith
run_length p turns old new (Goes a line rest was end mine r) = (let x = run_length p rest (line ∷ old) new r in let same : events_made (line ∷ old) ≡ events_made old = rw (own_event a line mine) refl in let y = rw same at x in omega (arith, y))
run_length p turns old new (Skips a rest was end done r) = (let x = run_length p rest old new r in omega (arith, x))
run_length p turns old new (Comes line rest was end event r) = (let x = run_length p turns (line ∷ old) new r in let more : events_made (line ∷ old) ≡ events_made old + 1 = rw event refl in let y = rw more at x in omega (arith, y))
