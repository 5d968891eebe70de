-- A value stands by the attempts on its object exactly where it is current.
use Rattle.std.proofs.Common.{◌≡◌, ◌∙◌, ◌↔◌, ◌⊎◌, inl, inr, ℕ, zero, suc, ◌<◌, ◌≤◌, ◌==◌, nat_le, Bool, true, false, List, [], ◌∷◌, ◌++◌, Option, Some, None, length, refl, sym, ap, subst, arith, if◌then◌else◌}
use Rattle.std.specs.Prelude.{option_and_then}
use Rattle.std.proofs.lemmas.Bool.{eqb-true}
use Rattle.std.proofs.lemmas.Bool.Decides.{eqb_tells, nat_tests}
use Rattle.std.proofs.lemmas.Option.{same_Some}
use Rattle.afr_base.specs.Bricks.{and_left}
use Rattle.afr_base.specs.declared.ids.Gfid.{Gfid}
use Rattle.afr_base.proofs.TestLemmas.{below_or_last}
use Rattle.afr_object.specs.Bytes.{is_within}
use Rattle.afr_object.specs.Tables.{object_of}
use Rattle.afr_object.specs.declared.change.Change.{Change}
use Rattle.afr_object.specs.declared.change.Change.TheVariants.{Write, Cut, SetAttr, Make, Remove}
use Rattle.afr_lines.specs.Log.{change_at, change_of, from_oldest}
use Rattle.afr_lines.specs.declared.line.Line.{Line}
use Rattle.afr_plan.specs.declared.plan.Plan.{Plan}
use Rattle.afr_model.specs.Attempts.{IsCurrent, Left, Opening, touches_if}
use Rattle.afr_model.specs.Cells.{Attr, Byte, Cell, Name, Value, leaves, object_of_cell, touches, value_of}
use Rattle.afr_trace_safe.specs.Acknowledged.{is_acknowledged}
use Rattle.afr_trace_safe.specs.Attempts.{attempt_by, attempts_on, is_on, or_older, stands, verdict}
use Rattle.afr_trace_safe.specs.Same.{same_value}
use Rattle.afr_trace_safe.specs.declared.attempts.Attempt.{Attempt}
use Rattle.afr_trace_safe.proofs.AcknowledgedLemmas.{acknowledged_is, is_acknowledged_of}
use Rattle.afr_trace_safe.proofs.SameLemmas.{value_is, value_self}

-- ---- positions
-- where something stands is within the list
pub inside : {A : Type 0} (k : ℕ) (log : List A) (x : A) → from_oldest k log ≡ Some x → k < length log
inside k [] x h = absurd (cc h)
inside k (y ∷ older) x h = split (eqb_tells k (length older)) h (λ e. inside k older x e)
  where
    split : ((k == length older) ≡ true) × (k ≡ length older) ⊎ ((k == length older) ≡ false) × (k ≡ length older → ⊥)
        → (if k == length older then Some y else from_oldest k older) ≡ Some x → (from_oldest k older ≡ Some x → k < length older) → k < suc (length older)
    split (inl s) e more = omega (arith, s.1)
    split (inr s) e more = let l : k < length older = more (rw s.0 at e) in omega (arith, l)

pub change_inside : (k : ℕ) (log : List Line) (change : Change) → change_at k log ≡ Some change → k < length log
change_inside k log change h = by (from_oldest k log) refl h
  where
    by : (o : Option Line) → from_oldest k log ≡ o → option_and_then change_of o ≡ Some change → k < length log
    by None e f = absurd (cc f)
    by (Some line) e f = inside k log line e

-- ---- a change touches cells of its own object
pub touches_own : (change : Change) (cell : Cell) → touches change cell ≡ true → (object_of change).0 ≡ (object_of_cell cell).0
touches_own (Write g at bytes) (Byte h i) t = eqb-true g.0 h.0 (and_left (g.0 == h.0) (is_within at (length bytes) i) t)
touches_own (Cut g len) (Byte h i) t = eqb-true g.0 h.0 (and_left (g.0 == h.0) (nat_le len i) t)
touches_own (SetAttr g key value) (Attr h k) t = eqb-true g.0 h.0 (and_left (g.0 == h.0) (key.0 == k.0) t)
touches_own (Make dir name g what) (Name h n) t = eqb-true dir.0 h.0 (and_left (dir.0 == h.0) (name.0 == n.0) t)
touches_own (Remove dir name what) (Name h n) t = eqb-true dir.0 h.0 (and_left (dir.0 == h.0) (name.0 == n.0) t)
touches_own change cell t = absurd (cc t)

eq_yes : (m n : ℕ) → m ≡ n → (m == n) ≡ true
eq_yes m n e = grind (arith, nat_tests, e)

-- so an attempt that touches one is on it
pub touched_on : (g : Gfid) (o : Option Change) (cell : Cell) → object_of_cell cell ≡ g → touches_if o cell ≡ true → is_on g o ≡ true
touched_on g None cell e t = absurd (cc t)
touched_on g (Some change) cell e t = eq_yes (object_of change).0 g.0 (touches_own change cell t ∙ ap (λ (q : Gfid). q.0) e)

-- one that doesn't touch a cell says nothing of it
pub untold : (o : Option Change) (cell : Cell) → touches_if o cell ≡ false → (acknowledged : Bool) (v : Value) → verdict o acknowledged cell v ≡ None
untold None cell h acknowledged v = refl
untold (Some change) cell h acknowledged v = rw h refl

not_on : (g : Gfid) (o : Option Change) (cell : Cell) → object_of_cell cell ≡ g → is_on g o ≡ false → touches_if o cell ≡ false
not_on g o cell e h = by (touches_if o cell) refl
  where
    by : (t : Bool) → touches_if o cell ≡ t → t ≡ false
    by false f = refl
    by true f = let yes : is_on g o ≡ true = touched_on g o cell e f in absurd (cc)

-- ---- by all positions below a number
stands_by : List Line → Cell → Value → Bool → ℕ → Bool
stands_by log cell v opening zero = opening
stands_by log cell v opening (suc k) = or_older (verdict (change_at k log) (is_acknowledged log k) cell v) (stands_by log cell v opening k)

by_positions : (log : List Line) (g : Gfid) (cell : Cell) (v : Value) (opening : Bool) → object_of_cell cell ≡ g → (n : ℕ) → stands log cell v opening (attempts_on log g n) ≡ stands_by log cell v opening n
unfolding stands_by
by_positions log g cell v opening e zero = refl
by_positions log g cell v opening e (suc k) = by (is_on g (change_at k log)) refl (by_positions log g cell v opening e k)
  where
    by : (on : Bool) → is_on g (change_at k log) ≡ on → stands log cell v opening (attempts_on log g k) ≡ stands_by log cell v opening k
        → stands log cell v opening ((if on then attempt_by log k ∷ [] else []) ++ attempts_on log g k)
        ≡ or_older (verdict (change_at k log) (is_acknowledged log k) cell v) (stands_by log cell v opening k)
    by true h ih = ap (or_older (verdict (change_at k log) (is_acknowledged log k) cell v)) ih
    by false h ih =
        ih ∙ sym (ap (λ (w : Option Bool). or_older w (stands_by log cell v opening k)) (untold (change_at k log) cell (not_on g (change_at k log) cell e h) (is_acknowledged log k) v))

-- ---- what such a value is
-- no acknowledged attempt below n touches the cell
abbrev NoneBelow : List Line → Cell → ℕ → Type 0
NoneBelow log cell n = (k : ℕ) → k < n → is_acknowledged log k ≡ true → touches_if (change_at k log) cell ≡ true → ⊥

-- none after q does
abbrev NoneBetween : List Line → Cell → ℕ → ℕ → Type 0
NoneBetween log cell q n = (k : ℕ) → k < n → is_acknowledged log k ≡ true → touches_if (change_at k log) cell ≡ true → k ≤ q

data Kept (log : List Line) (cell : Cell) (v : Value) (opening : Bool) (n : ℕ) : Type 0 where
  First : opening ≡ true → NoneBelow log cell n → Kept log cell v opening n
  By : (q : ℕ) (change : Change) → q < n → change_at q log ≡ Some change → touches change cell ≡ true → v ≡ leaves change cell → NoneBetween log cell q n → Kept log cell v opening n

module _ (log : List Line) (cell : Cell) (v : Value) (opening : Bool) where
  extend : (k : ℕ) → (is_acknowledged log k ≡ true → touches_if (change_at k log) cell ≡ true → ⊥) → Kept log cell v opening k → Kept log cell v opening (suc k)
  extend k never (First e none) =
      First e (λ j l a t. elim (below_or_last j k l) as (λ _. ⊥) [ inl s ↦ none j s a t | inr f ↦ never (subst (λ (i : ℕ). is_acknowledged log i ≡ true) f a) (subst (λ (i : ℕ). touches_if (change_at i log) cell ≡ true) f t) ])
  extend k never (By q change l e t h none) =
      By q change (omega (arith, l)) e t h
      (λ j m a u. elim (below_or_last j k m) as (λ _. j ≤ q) [ inl s ↦ none j s a u | inr f ↦ absurd (never (subst (λ (i : ℕ). is_acknowledged log i ≡ true) f a) (subst (λ (i : ℕ). touches_if (change_at i log) cell ≡ true) f u)) ])

  shrink : (k : ℕ) → ((change : Change) → change_at k log ≡ Some change → touches change cell ≡ true → v ≡ leaves change cell → ⊥) → Kept log cell v opening (suc k) → Kept log cell v opening k
  shrink k apart (First e none) = First e (λ j l a t. none j (omega (arith, l)) a t)
  shrink k apart (By q change l e t h none) = by (below_or_last q k l)
    where
      by : (q < k) ⊎ (q ≡ k) → Kept log cell v opening k
      by (inl s) = By q change s e t h (λ j m a u. none j (omega (arith, m)) a u)
      by (inr f) = absurd (apart change (subst (λ (i : ℕ). change_at i log ≡ Some change) f e) t h)

  -- an acknowledged attempt that left another value lets none stand that is older
  over : (k : ℕ) (change : Change) → change_at k log ≡ Some change → touches change cell ≡ true → same_value v (leaves change cell) ≡ false → is_acknowledged log k ≡ true → Kept log cell v opening (suc k) → ⊥
  over k change e t s a (First f none) = none k (omega arith) a (rw e t)
  over k change e t s a (By q other l f u h none) = by (below_or_last q k l)
    where
      by : (q < k) ⊎ (q ≡ k) → ⊥
      by (inl m) = let le : k ≤ q = none k (omega arith) a (rw e t) in omega (arith, le, m)
      by (inr m) =
          let same : change ≡ other = same_Some change other (sym e ∙ ap (λ (i : ℕ). change_at i log) (sym m) ∙ f) in
          let yes : same_value v (leaves change cell) ≡ true = ap (same_value v) (ap (λ (c : Change). leaves c cell) same ∙ sym h) ∙ value_self v in
          absurd (cc)

  -- what one position says
  step_to : (k : ℕ) (rest : Bool) → (rest ≡ true → Kept log cell v opening k) → (c : Option Change) → change_at k log ≡ c → or_older (verdict c (is_acknowledged log k) cell v) rest ≡ true → Kept log cell v opening (suc k)
  step_to k rest more None e h = extend k (λ a t. let no : touches_if None cell ≡ true = rw e at t in absurd (cc)) (more h)
  step_to k rest more (Some change) e h = by (touches change cell) refl (same_value v (leaves change cell)) refl (is_acknowledged log k) refl h
    where
      by : (t : Bool) → touches change cell ≡ t → (s : Bool) → same_value v (leaves change cell) ≡ s → (a : Bool) → is_acknowledged log k ≡ a → or_older (if t then (if s then Some true else (if a then Some false else None)) else None) rest ≡ true
          → Kept log cell v opening (suc k)
      by false t s u a f h = extend k (λ b w. let yes : touches_if (Some change) cell ≡ true = rw e at w in absurd (cc (t, yes))) (more h)
      by true t true u a f h = By k change (omega arith) e t (value_is v (leaves change cell) u) (λ j m b w. omega (arith, m))
      by true t false u true f h = absurd (cc h)
      by true t false u false f h = extend k (λ b w. absurd (cc (b, f))) (more h)

  step_from : (k : ℕ) (rest : Bool) → (Kept log cell v opening k → rest ≡ true) → (c : Option Change) → change_at k log ≡ c → Kept log cell v opening (suc k) → or_older (verdict c (is_acknowledged log k) cell v) rest ≡ true
  step_from k rest more None e h = more (shrink k (λ change f t w. absurd (cc (e, f))) h)
  step_from k rest more (Some change) e h = by (touches change cell) refl (same_value v (leaves change cell)) refl (is_acknowledged log k) refl
    where
      other : (c : Change) → change_at k log ≡ Some c → change ≡ c
      other c f = same_Some change c (sym e ∙ f)

      by : (t : Bool) → touches change cell ≡ t → (s : Bool) → same_value v (leaves change cell) ≡ s → (a : Bool) → is_acknowledged log k ≡ a → or_older (if t then (if s then Some true else (if a then Some false else None)) else None) rest ≡ true
      by false t s u a f = more (shrink k (λ c g w x. let yes : touches change cell ≡ true = ap (λ (d : Change). touches d cell) (other c g) ∙ w in absurd (cc (t, yes))) h)
      by true t true u a f = refl
      by true t false u true f = absurd (over k change e t u f h)
      by true t false u false f =
          more
          (shrink k
          (λ c g w x.
          let yes : same_value v (leaves change cell) ≡ true = ap (same_value v) (ap (λ (d : Change). leaves d cell) (other c g) ∙ sym x) ∙ value_self v in
          absurd (cc (u, yes))) h)

  to_kept : (n : ℕ) → stands_by log cell v opening n ≡ true → Kept log cell v opening n
  unfolding stands_by
  to_kept zero h = First h (λ k l a t. omega (arith, l))
  to_kept (suc k) h = step_to k (stands_by log cell v opening k) (to_kept k) (change_at k log) refl h

  from_kept : (n : ℕ) → Kept log cell v opening n → stands_by log cell v opening n ≡ true
  unfolding stands_by
  from_kept zero (First e none) = e
  from_kept zero (By q change l e t h none) = absurd (omega (arith, l))
  from_kept (suc k) h = step_from k (stands_by log cell v opening k) (from_kept k) (change_at k log) refl h

-- ---- current values
module _ (p : Plan) (log : List Line) (b : ℕ) (cell : Cell) (v w : Value) (here : v ≡ value_of p log b cell) (start : w ≡ value_of p [] b cell) where
  to_current : Kept log cell v (same_value v w) (length log) → IsCurrent p log b cell
  to_current (First e none) = Opening (sym here ∙ value_is v w e ∙ start) (λ k a t. none k (inside k log _ a.begun) (is_acknowledged_of log k a) t)
  to_current (By q change l e t h none) = Left q change e t (sym here ∙ h) (λ k a u. none k (inside k log _ a.begun) (is_acknowledged_of log k a) u)

  from_current : IsCurrent p log b cell → Kept log cell v (same_value v w) (length log)
  from_current (Opening e none) = First (ap (same_value v) (start ∙ sym e ∙ sym here) ∙ value_self v) (λ k l a t. none k (acknowledged_is log k a) t)
  from_current (Left q change e t h none) = By q change (change_inside q log change e) e t (here ∙ h) (λ k l a u. none k (acknowledged_is log k a) u)

-- a value stands by the attempts on its object exactly where it is current
pub current_is : (p : Plan) (log : List Line) (b : ℕ) (g : Gfid) (cell : Cell) (v w : Value) (n : ℕ) (attempts : List Attempt) (flag : Bool) → object_of_cell cell ≡ g → n ≡ length log → v ≡ value_of p log b cell → w ≡ value_of p [] b cell
    → attempts ≡ attempts_on log g n → flag ≡ stands log cell v (same_value v w) attempts → (flag ≡ true) ↔ IsCurrent p log b cell
current_is p log b g cell v w n attempts flag of len here start all told = (to, from)
  where
    by_all : flag ≡ stands_by log cell v (same_value v w) (length log)
    by_all = told ∙ ap (stands log cell v (same_value v w)) (all ∙ ap (attempts_on log g) len) ∙ by_positions log g cell v (same_value v w) of (length log)

    to : flag ≡ true → IsCurrent p log b cell
    to e = to_current p log b cell v w here start (to_kept log cell v (same_value v w) (length log) (sym by_all ∙ e))

    from : IsCurrent p log b cell → flag ≡ true
    from c = by_all ∙ from_kept log cell v (same_value v w) (length log) (from_current p log b cell v w here start c)
