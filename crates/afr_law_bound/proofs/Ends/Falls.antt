-- What is left falls with each line that counts, and with each actor that is killed before it is done.
use Rattle.std.proofs.Common.{◌≡◌, ℕ, ◌<◌, ◌≤◌, Bool, true, false, ◌⊎◌, inl, inr, refl, sym, arith, List, ◌∷◌, true≢false}
use Rattle.std.specs.Prelude.{if◌then◌else◌}
use Rattle.afr_law_bound.proofs.Ends.Faults.{fault_later, fault_used}
use Rattle.afr_law_bound.proofs.Ends.Spending.{counts, dead_left, other_left, rests, some_cost, some_left}
use Rattle.afr_law_bound.proofs.Ends.Sums.{actor_in, total_le, total_less}
use Rattle.afr_law_bound.specs.Ends.Cost.{AreWithinCost, counted, is_failed_unlock, is_held_back}
use Rattle.afr_law_bound.specs.Ends.Left.{is_to_come, left, unspent}
use Rattle.afr_lines.specs.Work.{ended, is_killed, is_of, kills}
use Rattle.afr_lines.specs.declared.answer.Told.TheVariants.{Failed}
use Rattle.afr_lines.specs.declared.line.Line.TheVariants.{Ask, Begin, End, Event, HealBegin, HealEnd}
use Rattle.afr_lines.specs.declared.line.Line.{Line}
use Rattle.afr_lines.specs.declared.request.Request.TheVariants.{Unlock}
use Rattle.afr_model.specs.Actors.{IsActor, is_done}
use Rattle.afr_model.specs.Ordered.{actors_of}
use Rattle.afr_plan.specs.declared.plan.Plan.{Plan}
use Rattle.afr_law_bound.proofs.Standstill.Standing.{kept_before}
use Rattle.afr_law.proofs.Model.Tasks.{HasTask, task_here, turn_of}
use Rattle.afr_law_bound.specs.Standstill.Law.{IsPresumed}

-- what is presumed of a log
pub record Facts (p : Plan) (log : List Line) : Type 0 where
  pub kept : IsPresumed p log
  pub within : AreWithinCost p log

pub facts_before : (p : Plan) (line : Line) (older : List Line) → Facts p (line ∷ older) → Facts p older
facts_before p line older f = record { kept = kept_before p line older f.kept; within = f.within.1 }

NoneOrOne : ℕ → Type 0
NoneOrOne k = (k ≡ 0) ⊎ (k ≡ 1)

two_or_one : (line : Line) → (counted line ≡ 0) ⊎ (counted line ≡ 1)
unfolding NoneOrOne
two_or_one line = go (is_held_back line) (is_failed_unlock line)
  where
    go : (x y : Bool) → NoneOrOne (if x then 0 else (if y then 0 else 1))
    go true y = inl refl
    go false true = inl refl
    go false false = inr refl

module _ (p : Plan) (line : Line) (older : List Line) (f : Facts p (line ∷ older)) where
  task : (a : ℕ) → is_of a line ≡ true → HasTask p a (ended a older)
  task a mine = task_here p a line older f.kept.clients (turn_of false p a line older mine f.kept.follows)

  alive : (a : ℕ) → is_of a line ≡ true → is_killed a older ≡ false
  alive a mine = (turn_of false p a line older mine f.kept.follows).alive

  own_counts : (a : ℕ) → is_of a line ≡ true → counted line ≡ 1 → unspent p (line ∷ older) a < unspent p older a
  own_counts a mine one = (let c = some_cost p a (ended a older) (task a mine).left in counts p a line older mine (alive a mine) c.0 c.1 f.within.0 one)

  -- no line adds to what an actor has left
  each_less : (a : ℕ) → unspent p (line ∷ older) a ≤ unspent p older a
  each_less a = go (is_of a line) refl
    where
      go : (mine : Bool) → is_of a line ≡ mine → unspent p (line ∷ older) a ≤ unspent p older a
      go false e = other_left p a line older e
      go true e = elim (two_or_one line) [ inl none ↦ rests p a line older e (alive a e) none | inr one ↦ (let k = own_counts a e one in omega (arith, k)) ]

  pub falls_le : left p (line ∷ older) ≤ left p older
  falls_le = (
      let x = total_le (unspent p older) (unspent p (line ∷ older)) (actors_of p) each_less in
      let y = total_le (is_to_come older) (is_to_come (line ∷ older)) p.faults (λ z. fault_later line older z) in
      omega (arith, x, y)
      )

  -- where one actor has less
  falls_for : (a : ℕ) → IsActor p a → unspent p (line ∷ older) a < unspent p older a → left p (line ∷ older) < left p older
  falls_for a actor less = (
      let x = total_less (unspent p older) (unspent p (line ∷ older)) (actors_of p) a each_less (actor_in p a actor) less in
      let y = total_le (is_to_come older) (is_to_come (line ∷ older)) p.faults (λ z. fault_later line older z) in
      omega (arith, x, y)
      )

  -- a line that counts
  pub falls_counted : (a : ℕ) → is_of a line ≡ true → counted line ≡ 1 → left p (line ∷ older) < left p older
  falls_counted a mine one = falls_for a (task a mine).actor (own_counts a mine one)

  -- an actor is killed that has something left to do
  pub falls_killed : (a : ℕ) → IsActor p a → kills a line ≡ true → is_done p a older ≡ false → left p (line ∷ older) < left p older
  falls_killed a actor kill undone = (
      let dead : is_killed a (line ∷ older) ≡ true = rw kill refl in
      let some = some_left p older a f.within.1 undone in
      falls_for a actor (rw (dead_left p (line ∷ older) a dead) some)
      )

-- an unlock that failed
pub falls_failed : (p : Plan) (line : Line) (older : List Line) → Facts p (line ∷ older) → is_failed_unlock line ≡ true → left p (line ∷ older) < left p older
falls_failed p (Ask a b (Unlock domain area) Failed took) older f e = (
    let line : Line = Ask a b (Unlock domain area) Failed took in
    let x = total_le (unspent p older) (unspent p (line ∷ older)) (actors_of p) (each_less p line older f) in
    let y = fault_used p a b domain area took older f.kept.honest.0 in
    omega (arith, x, y)
    )
falls_failed p (Ask a b r told took) older f e = absurd (true≢false (sym e))
falls_failed p (Begin a change) older f e = absurd (true≢false (sym e))
falls_failed p (HealBegin a g kind) older f e = absurd (true≢false (sym e))
falls_failed p (End a said) older f e = absurd (true≢false (sym e))
falls_failed p (HealEnd a g kind said) older f e = absurd (true≢false (sym e))
falls_failed p (Event event) older f e = absurd (true≢false (sym e))

-- each line of an actor that isn't told that another holds its lock
pub falls_own : (p : Plan) (line : Line) (older : List Line) → Facts p (line ∷ older) → (a : ℕ) → is_of a line ≡ true → is_held_back line ≡ false → left p (line ∷ older) < left p older
falls_own p line older f a mine free = go (is_failed_unlock line) refl
  where
    go : (x : Bool) → is_failed_unlock line ≡ x → left p (line ∷ older) < left p older
    go true e = falls_failed p line older f e
    go false e = falls_counted p line older f a mine (rw (free, e) refl)
