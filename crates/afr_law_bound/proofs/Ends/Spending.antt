-- What an actor has left falls with each of its lines that counts.
use Rattle.std.proofs.Common.{◌≡◌, ℕ, zero, suc, ◌+◌, ◌-◌, ◌<◌, ◌≤◌, ◌||◌, Bool, true, false, refl, sym, ap, arith, List, [], ◌∷◌, length, drop, map, ◌∙◌, Some, true≢false}
use Rattle.std.specs.Prelude.{if◌then◌else◌, nat_le, nat_lt, slice_get}
use Rattle.std.proofs.lemmas.Bool.Decides.{nat_tests}
use Rattle.afr_law_bound.specs.Ends.Cost.{AreWithinCost, IsWithinCost, cost_of, costs_of, counted, round_cost, spent, total}
use Rattle.afr_law_bound.specs.Ends.Left.{itself, unspent}
use Rattle.afr_lines.specs.Work.{ended, ends_work, is_end, is_killed, is_of, kills, work}
use Rattle.afr_lines.specs.declared.line.Line.TheVariants.{Ask, Begin, End, Event, HealBegin, HealEnd}
use Rattle.afr_lines.specs.declared.line.Line.{Line}
use Rattle.afr_model.specs.Actors.{is_done, rounds_of, script_of, works_of}
use Rattle.afr_plan.specs.declared.command.Command.{Command}
use Rattle.afr_plan.specs.declared.command.Command.TheVariants as command
use Rattle.afr_plan.specs.declared.plan.Plan.{Plan}
use Rattle.afr_base.specs.declared.ids.BrickId.{BrickId}
use Rattle.afr_law.proofs.Model.Tasks.{other_ends}

-- ---- lines and works
pub own_kills : (a : ℕ) (line : Line) → is_of a line ≡ true → kills a line ≡ false
own_kills a (Ask x b r told took) m = refl
own_kills a (Begin x change) m = refl
own_kills a (HealBegin x g kind) m = refl
own_kills a (End x said) m = refl
own_kills a (HealEnd x g kind said) m = refl
own_kills a (Event event) m = absurd (true≢false (sym m))

own_ends : (a : ℕ) (line : Line) → is_of a line ≡ true → ends_work a line ≡ is_end line
own_ends a (End x said) m = m
own_ends a (Ask x b r told took) m = refl
own_ends a (Begin x change) m = refl
own_ends a (HealBegin x g kind) m = refl
own_ends a (HealEnd x g kind said) m = refl
own_ends a (Event event) m = refl

end_counts : (line : Line) → is_end line ≡ true → counted line ≡ 1
end_counts (End x said) e = refl
end_counts (Ask x b r told took) e = absurd (true≢false (sym e))
end_counts (Begin x change) e = absurd (true≢false (sym e))
end_counts (HealBegin x g kind) e = absurd (true≢false (sym e))
end_counts (HealEnd x g kind said) e = absurd (true≢false (sym e))
end_counts (Event event) e = absurd (true≢false (sym e))

-- ---- costs
drop_get : (xs : List ℕ) (k c : ℕ) → slice_get xs k ≡ Some c → total itself (drop k xs) ≡ c + total itself (drop (k + 1) xs)
drop_get [] k c e = absurd (cc e)
drop_get (x ∷ xs) zero c e = (let same : x ≡ c = cc e in ap (λ y. y + total itself xs) same)
drop_get (x ∷ xs) (suc k) c e = (let h = drop_get xs k c e in let s : suc k + 1 ≡ suc (k + 1) = omega arith in rw s h)

-- no command costs nothing
command_costs : (n : ℕ) (c : Command) → 1 ≤ cost_of n c
command_costs n (command.Rename old new) = omega arith
command_costs n c = omega arith

pub some_cost : (p : Plan) (a k : ℕ) → k < works_of p a → (c : ℕ) × (slice_get (costs_of p a) k ≡ Some c) × (1 ≤ c)
some_cost p a k low = go (nat_lt 16 a) refl
  where
    command_cost : (xs : List Command) (k : ℕ) → k < length xs → (c : ℕ) × (slice_get (map (cost_of p.shape.n) xs) k ≡ Some c) × (1 ≤ c)
    command_cost [] k l = absurd (omega (arith, l))
    command_cost (x ∷ xs) zero l = (cost_of p.shape.n x, refl, command_costs p.shape.n x)
    command_cost (x ∷ xs) (suc k) l = command_cost xs k (omega (arith, l))

    brick_cost : (xs : List BrickId) (k : ℕ) → k < length xs → (c : ℕ) × (slice_get (map (λ b. round_cost p) xs) k ≡ Some c) × (1 ≤ c)
    brick_cost [] k l = absurd (omega (arith, l))
    brick_cost (x ∷ xs) zero l = (round_cost p, refl, omega arith)
    brick_cost (x ∷ xs) (suc k) l = brick_cost xs k (omega (arith, l))

    go : (high : Bool) → nat_lt 16 a ≡ high → (c : ℕ) × (slice_get (if high then map (λ b. round_cost p) (rounds_of p a) else map (cost_of p.shape.n) (script_of p a)) k ≡ Some c) × (1 ≤ c)
    go true e = brick_cost (rounds_of p a) k (let is : works_of p a ≡ length (rounds_of p a) = rw e refl in rw is at low)
    go false e = command_cost (script_of p a) k (let is : works_of p a ≡ length (script_of p a) = rw e refl in rw is at low)

-- ---- one line
-- what an alive actor has left
alive_left : (p : Plan) (log : List Line) (a : ℕ) → is_killed a log ≡ false → unspent p log a ≡ total itself (drop (ended a log) (costs_of p a)) - spent (work a log)
alive_left p log a alive = rw alive refl

pub dead_left : (p : Plan) (log : List Line) (a : ℕ) → is_killed a log ≡ true → unspent p log a ≡ 0
dead_left p log a dead = rw dead refl

module _ (p : Plan) (a : ℕ) (line : Line) (older : List Line) where
  -- a line of another
  pub other_left : is_of a line ≡ false → unspent p (line ∷ older) a ≤ unspent p older a
  other_left e = go (kills a line) refl (is_killed a older) refl
    where
      same_work : work a (line ∷ older) ≡ work a older
      same_work = rw e refl

      same_ended : ended a (line ∷ older) ≡ ended a older
      same_ended = rw (other_ends a line e) refl

      go : (k : Bool) → kills a line ≡ k → (d : Bool) → is_killed a older ≡ d → unspent p (line ∷ older) a ≤ unspent p older a
      go true k d g = (let dead : is_killed a (line ∷ older) ≡ true = rw k refl in rw (dead_left p (line ∷ older) a dead) (omega arith))
      go false k true g = (let dead : is_killed a (line ∷ older) ≡ true = rw (k, g) refl in rw (dead_left p (line ∷ older) a dead) (omega arith))
      go false k false g = (
          let alive : is_killed a (line ∷ older) ≡ false = rw (k, g) refl in
          let new = alive_left p (line ∷ older) a alive in
          let old = alive_left p older a g in
          rw (new, old, same_work, same_ended) (omega arith)
          )

  module _ (mine : is_of a line ≡ true) (alive : is_killed a older ≡ false) where
    still_alive : is_killed a (line ∷ older) ≡ false
    still_alive = rw (own_kills a line mine, alive) refl

    -- a line of its own that doesn't end the work
    inner_left : is_end line ≡ false → unspent p (line ∷ older) a ≡ total itself (drop (ended a older) (costs_of p a)) - (counted line + spent (work a older))
    inner_left inner = (
        let same_ended : ended a (line ∷ older) ≡ ended a older = rw (own_ends a line mine ∙ inner) refl in
        let more : work a (line ∷ older) ≡ (line, older) ∷ work a older = rw (mine, inner) refl in
        rw (alive_left p (line ∷ older) a still_alive, more, same_ended) refl
        )

    -- and one that does
    end_left : is_end line ≡ true → unspent p (line ∷ older) a ≡ total itself (drop (ended a older + 1) (costs_of p a)) - 0
    end_left end = (
        let next : ended a (line ∷ older) ≡ ended a older + 1 = rw (own_ends a line mine ∙ end) refl in
        let none : work a (line ∷ older) ≡ [] = rw (mine, end) refl in
        rw (alive_left p (line ∷ older) a still_alive, none, next) refl
        )

    module _ (cost : ℕ) (is : slice_get (costs_of p a) (ended a older) ≡ Some cost) (within : IsWithinCost p line older) where
      -- a line that counts takes one away
      pub counts : counted line ≡ 1 → unspent p (line ∷ older) a < unspent p older a
      counts one = go (is_end line) refl
        where
          room : spent (work a older) + counted line + (if is_end line then 0 else 1) ≤ cost
          room = within a cost mine is

          go : (end : Bool) → is_end line ≡ end → unspent p (line ∷ older) a < unspent p older a
          go true e = (
              let w : spent (work a older) + counted line + 0 ≤ cost = rw e at room in
              rw (end_left e, alive_left p older a alive, drop_get (costs_of p a) (ended a older) cost is) (omega (arith, w, one))
              )
          go false e = (
              let w : spent (work a older) + counted line + 1 ≤ cost = rw e at room in
              rw (inner_left e, alive_left p older a alive, drop_get (costs_of p a) (ended a older) cost is) (omega (arith, w, one))
              )

    -- one that doesn't leaves it
    pub rests : counted line ≡ 0 → unspent p (line ∷ older) a ≤ unspent p older a
    rests none = go (is_end line) refl
      where
        go : (end : Bool) → is_end line ≡ end → unspent p (line ∷ older) a ≤ unspent p older a
        go true e = absurd (let k = end_counts line e in omega (arith, k, none))
        go false e = rw (inner_left e, alive_left p older a alive, none) (omega arith)

-- ---- who isn't done has something left
pub room_for : (p : Plan) (log : List Line) (a cost : ℕ) → AreWithinCost p log → 1 ≤ cost → slice_get (costs_of p a) (ended a log) ≡ Some cost → spent (work a log) + 1 ≤ cost
room_for p [] a cost within some is = omega (arith, some)
room_for p (line ∷ older) a cost within some is = go (is_of a line) refl (is_end line) refl (λ e. room_for p older a cost within.1 some e) is
  where
    go : (mine : Bool) → is_of a line ≡ mine → (end : Bool) → is_end line ≡ end → (slice_get (costs_of p a) (ended a older) ≡ Some cost → spent (work a older) + 1 ≤ cost)
        → slice_get (costs_of p a) (if ends_work a line then ended a older + 1 else ended a older) ≡ Some cost
        → spent (if mine then (if end then [] else (line, older) ∷ work a older) else work a older) + 1 ≤ cost
    go false m end e rest i = rest (rw (other_ends a line m) at i)
    go true m true e rest i = omega (arith, some)
    go true m false e rest i = (
        let here : slice_get (costs_of p a) (ended a older) ≡ Some cost = rw (own_ends a line m ∙ e) at i in
        let w : spent (work a older) + counted line + 1 ≤ cost = rw e at (within.0 a cost m here) in
        omega (arith, w)
        )

pub some_left : (p : Plan) (log : List Line) (a : ℕ) → AreWithinCost p log → is_done p a log ≡ false → 0 < unspent p log a
some_left p log a within undone = go (is_killed a log) refl (nat_le (works_of p a) (ended a log)) refl undone
  where
    go : (d : Bool) → is_killed a log ≡ d → (over : Bool) → nat_le (works_of p a) (ended a log) ≡ over → (d || over) ≡ false → 0 < unspent p log a
    go true k over f e = absurd (true≢false e)
    go false k true f e = absurd (true≢false e)
    go false k false f e = (
        let low : ended a log < works_of p a = grind (arith, nat_tests, f) in
        let c = some_cost p a (ended a log) low in
        let r = room_for p log a c.0 within c.2 c.1 in
        rw (alive_left p log a k, drop_get (costs_of p a) (ended a log) c.0 c.1) (omega (arith, r))
        )
