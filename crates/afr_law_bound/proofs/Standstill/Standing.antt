-- Who waits in a log, and that not everybody does.
use Rattle.std.proofs.Common.{◌≡◌, ℕ, ◌+◌, ◌<◌, ◌≤◌, ◌&&◌, ◌||◌, not, Bool, true, false, inl, inr, refl, sym, ◌∙◌, subst, ap, arith, List, ◌∷◌, length, Some, true≢false}
use Rattle.std.specs.Prelude.{nat_le}
use Rattle.std.proofs.lemmas.Bool.{not-true, or_cases, or_left, or_right}
use Rattle.std.proofs.lemmas.Bool.Decides.{nat_tests}
use Rattle.afr_base.specs.Bricks.{and_left, and_right}
use Rattle.afr_base.specs.SetLemmas.{below_all}
use Rattle.afr_law.proofs.Model.Sessions.{joined_is}
use Rattle.afr_law.specs.Beginning.{start_of}
use Rattle.afr_law.specs.Exactly.{name_bound}
use Rattle.afr_lines.specs.Places.{Between, Fresh, Indexed, Place, Within}
use Rattle.afr_lines.specs.Work.{ended, is_killed}
use Rattle.afr_lines.specs.declared.answer.Told.TheVariants.{Held}
use Rattle.afr_lines.specs.declared.line.Line.TheVariants.{Ask, Begin, End, Event, HealBegin, HealEnd}
use Rattle.afr_lines.specs.declared.line.Line.{Line}
use Rattle.afr_lines.specs.declared.request.Area.{Area}
use Rattle.afr_lines.specs.declared.request.Request.TheVariants.{Lock}
use Rattle.afr_model.specs.Actors.{Client, Healer, IsActor, is_done, works_of}
use Rattle.afr_model.specs.Honest.{fault_in}
use Rattle.afr_model.specs.Sessions.{is_joined}
use Rattle.afr_model_moves.proofs.ByPosition.{newest_at, past_whole}
use Rattle.afr_model_moves.proofs.Places.{of_same, place_is}
use Rattle.afr_model_moves.specs.Discipline.{exact, present}
use Rattle.afr_model_moves.specs.Past.{Log, place}
use Rattle.afr_model_moves.specs.Past as past
use Rattle.afr_model_moves.specs.Positions.{by_position}
use Rattle.afr_model_moves.specs.Register.{Exact}
use Rattle.afr_plan.specs.declared.plan.Plan.{Plan}
use Rattle.afr_lines.specs.declared.lock.Domain.TheVariants.{Work}
use Rattle.afr_law.proofs.Model.Alive.{joined_alive}
use Rattle.afr_law_bound.proofs.Standstill.Positions.{fair, older_register, present_register, register_at}
use Rattle.afr_law.proofs.Model.Tasks.{task_of}
use Rattle.afr_law_bound.specs.Standstill.Law.{HeldWaits, IsPresumed, NotAllWait, WaitsOn}
use Rattle.afr_law_bound.specs.Standstill.Order.{IsStillLine, IsWaiting, locks_by}
use Rattle.afr_law_tables.specs.Codes.{kept_by}
use Rattle.afr_law_bound.proofs.Kept.{has_busy, kept}
use Rattle.afr_law_bound.proofs.Stand.{nobody, told_waits, waits_on}
use Rattle.afr_law_bound.specs.Law.{WaitsAmong}
use Rattle.afr_law_bound.specs.Waiting.{Holds, IsStill, RisesTo, Waits}

-- ---- by positions and by the list
module _ (p : Plan) (log : List Line) where
  listed : (a : ℕ) (w : Waits p.shape.n (kept_by p) (by_position log) (length log) a) → is_killed w.owner log ≡ false → IsWaiting p log a
  listed a w alive = record {
    b = w.b;
    below = w.below;
    area = w.area;
    rises = subst (λ (r : Exact). RisesTo p.shape.n r.law w.b w.area) (register_at p a log) w.rises;
    owner = w.owner;
    taken = w.taken;
    holds = subst (λ (r : Exact). Holds r.law w.b w.taken) (register_at p w.owner log) w.holds;
    same = w.same;
    alive = alive;
  }

  abbrev placed : (a : ℕ) (w : IsWaiting p log a) → Waits p.shape.n (kept_by p) (by_position log) (length log) a
  placed a w = record {
    b = w.b;
    below = w.below;
    area = w.area;
    rises = subst (λ (r : Exact). RisesTo p.shape.n r.law w.b w.area) (sym (register_at p a log)) w.rises;
    owner = w.owner;
    taken = w.taken;
    holds = subst (λ (r : Exact). Holds r.law w.b w.taken) (sym (register_at p w.owner log)) w.holds;
    same = w.same;
  }

-- before one line more
abbrev before : (p : Plan) (line : Line) (older : List Line) (a : ℕ) (w : IsWaiting p older a) → Waits p.shape.n (kept_by p) (by_position (line ∷ older)) (length older) a
before p line older a w = record {
  b = w.b;
  below = w.below;
  area = w.area;
  rises = subst (λ (r : Exact). RisesTo p.shape.n r.law w.b w.area) (sym (older_register p a line older)) w.rises;
  owner = w.owner;
  taken = w.taken;
  holds = subst (λ (r : Exact). Holds r.law w.b w.taken) (sym (older_register p w.owner line older)) w.holds;
  same = w.same;
}

-- ---- who holds a lock has something left to do
within : (at : Place) → ((at ≡ Within → ⊥) → ⊥) → at ≡ Within
within Fresh h = absurd (h (λ e. cc e))
within Indexed h = absurd (h (λ e. cc e))
within Between h = absurd (h (λ e. cc e))
within Within h = refl

not_yet : (p : Plan) (a : ℕ) (log : List Line) → is_killed a log ≡ false → ended a log < works_of p a → is_done p a log ≡ false
not_yet p a log alive left = (let more : nat_le (works_of p a) (ended a log) ≡ false = grind (arith, nat_tests, left) in rw (alive, more) refl)

pub undone : (p : Plan) (log : List Line) → IsPresumed p log → (x b : ℕ) (area : Area) → b < p.shape.n → Holds (locks_by p x log) b area → is_killed x log ≡ false → IsActor p x × (is_done p x log ≡ false)
undone p log k x b area low h alive =
    let f = fair p log k in
    let held : Holds (exact p.shape.n (kept_by p) (by_position log) (length log) x).law b area = subst (λ (r : Exact). Holds r.law b area) (sym (register_at p x log)) h in
    let some = has_busy p.shape.n (exact p.shape.n (kept_by p) (by_position log) (length log) x).law b area (record { below = low; holds = held }) in
    let own = kept p.shape.n (start_of p (name_bound p)) (fault_in p.faults) (by_position log) f.honest f.moves (length log) x in
    let at : place (by_position log) (length log) x ≡ Within = within (place (by_position log) (length log) x) (λ out. true≢false (sym some ∙ own.rest out)) in
    let task = task_of p log x k.clients k.follows (sym (place_is (by_position log) x log (past_whole log)) ∙ at) in
    (task.actor, not_yet p x log alive task.left)

-- ---- the laws
pub held_waits : HeldWaits
held_waits p older a b area owner took k =
    let line : Line = Ask a b (Lock Work area) (Held owner) took in
    let f = fair p (line ∷ older) k in
    let is : by_position (line ∷ older) (length older) ≡ Some line = newest_at line older in
    let up : RisesTo p.shape.n (present p.shape.n (kept_by p) (by_position (line ∷ older)) (length older) a.0).law b.0 area = subst (λ (r : Exact). RisesTo p.shape.n r.law b.0 area) (sym (present_register p a.0 line older)) k.rising.0 in
    let w = told_waits p.shape.n (start_of p (name_bound p)) (fault_in p.faults) (by_position (line ∷ older)) f.honest f.moves (length older) a.0 b.0 area owner took is up in
    let live : is_joined p (w.0).owner (w.0).b older ≡ true = sym (joined_is (by_position (line ∷ older)) p (w.0).owner (w.0).b (below_all p.shape.n (w.0).b k.few (w.0).below) older (past_whole (line ∷ older)).1) ∙ w.1 in
    listed p (line ∷ older) a.0 w.0 (joined_alive false p (w.0).owner (w.0).b older k.follows.1 live)

still_at : (p : Plan) (line : Line) (older : List Line) → IsStillLine p line older → IsStill (Some line)
still_at p (Ask a b (Lock Work area) (Held owner) took) older h = tt
still_at p (Event event) older h = tt
still_at p (Ask a b r told took) older h = absurd h
still_at p (Begin a change) older h = absurd h
still_at p (HealBegin a g kind) older h = absurd h
still_at p (End a said) older h = absurd h
still_at p (HealEnd a g kind said) older h = absurd h

still_alive : (p : Plan) (line : Line) (older : List Line) (x : ℕ) → IsStillLine p line older → IsActor p x → is_done p x older ≡ false → is_killed x older ≡ false → is_killed x (line ∷ older) ≡ false
still_alive p (Ask a b (Lock Work area) (Held owner) took) older x h actor left alive = alive
still_alive p (Event event) older x h actor left alive = rw (h x actor left, alive) refl
still_alive p (Ask a b r told took) older x h actor left alive = alive
still_alive p (Begin a change) older x h actor left alive = alive
still_alive p (HealBegin a g kind) older x h actor left alive = alive
still_alive p (End a said) older x h actor left alive = alive
still_alive p (HealEnd a g kind said) older x h actor left alive = alive

-- what is presumed of a log is so before its last line
pub kept_before : (p : Plan) (line : Line) (older : List Line) → IsPresumed p (line ∷ older) → IsPresumed p older
kept_before p line older k = record {
  few = k.few;
  clients = k.clients;
  healers = k.healers;
  short = (let s = k.short in omega (arith, s));
  follows = k.follows.1;
  honest = k.honest.1;
  lawful = k.lawful.1;
  rising = k.rising.1;
}

pub goes_on : WaitsOn
goes_on p line older k still a other w =
    let f = fair p (line ∷ older) k in
    let L : Log = by_position (line ∷ older) in
    let mine : past.is_of a (L (length older)) ≡ false = ap (past.is_of a) (newest_at line older) ∙ of_same a line ∙ other in
    let quiet : IsStill (L (length older)) = subst IsStill (sym (newest_at line older)) (still_at p line older still) in
    let v = waits_on p.shape.n (start_of p (name_bound p)) (fault_in p.faults) L f.honest f.moves (length older) a quiet mine (before p line older a w) in
    let left = undone p older (kept_before p line older k) w.owner w.b w.taken w.below w.holds w.alive in
    listed p (line ∷ older) a v.0 (subst (λ (x : ℕ). is_killed x (line ∷ older) ≡ false) (sym v.1) (still_alive p line older w.owner still left.0 left.1 w.alive))

-- the numbers of actors
abbrev pub is_actor : Plan → ℕ → Bool
is_actor p a = (nat_le 1 a && nat_le a (length p.clients)) || (nat_le 17 a && nat_le a (16 + length p.healers))

pub actor_yes : (p : Plan) (a : ℕ) → IsActor p a → is_actor p a ≡ true
actor_yes p a (Client low high) = or_left (nat_le 1 a && nat_le a (length p.clients)) (nat_le 17 a && nat_le a (16 + length p.healers)) (grind (arith, nat_tests, low, high))
actor_yes p a (Healer low high) = or_right (nat_le 1 a && nat_le a (length p.clients)) (nat_le 17 a && nat_le a (16 + length p.healers)) (grind (arith, nat_tests, low, high))

pub yes_actor : (p : Plan) (a : ℕ) → is_actor p a ≡ true → IsActor p a
yes_actor p a e = elim (or_cases (nat_le 1 a && nat_le a (length p.clients)) (nat_le 17 a && nat_le a (16 + length p.healers)) e) [
  | inl c ↦ Client (grind (arith, nat_tests, c)) (grind (arith, nat_tests, c))
  | inr h ↦ Healer (grind (arith, nat_tests, h)) (grind (arith, nat_tests, h))
]

pub actor_low : (p : Plan) (a : ℕ) → length p.clients ≤ 16 → length p.healers ≤ 3 → IsActor p a → a < 20
actor_low p a few least (Client low high) = omega (arith, high, few)
actor_low p a few least (Healer low high) = omega (arith, high, least)

pub not_all : NotAllWait
not_all p log k all a actor = go (is_done p a log) refl
  where
    test : ℕ → Bool
    test x = is_actor p x && not (is_done p x log)

    test_yes : (x : ℕ) → IsActor p x → is_done p x log ≡ false → test x ≡ true
    test_yes x is left = rw (actor_yes p x is, left) refl

    test_left : (x : ℕ) → test x ≡ true → is_done p x log ≡ false
    test_left x e = not-true (is_done p x log) (and_right (is_actor p x) (not (is_done p x log)) e)

    each : (x : ℕ) → x < 20 → test x ≡ true → WaitsAmong p.shape.n (kept_by p) (by_position log) (length log) 20 test x
    each x low e = from x (all x (yes_actor p x (and_left (is_actor p x) (not (is_done p x log)) e)) (test_left x e))
      where
        from : (x : ℕ) (w : IsWaiting p log x) → WaitsAmong p.shape.n (kept_by p) (by_position log) (length log) 20 test x
        from x w = (let left = undone p log k w.owner w.b w.taken w.below w.holds w.alive in record { waits = placed p log x w; below = actor_low p w.owner k.clients k.healers left.0; among = test_yes w.owner left.0 left.1 })

    go : (done : Bool) → is_done p a log ≡ done → is_done p a log ≡ true
    go true e = e
    go false e = (
        let f = fair p log k in
        absurd (nobody p.shape.n (start_of p (name_bound p)) (fault_in p.faults) (by_position log) f.honest f.moves f.few (length log) 20 test (WaitsAmong p.shape.n (kept_by p) (by_position log) (length log) 20 test) each (λ x w. w.waits) (λ x w. (w.below, w.among)) a (actor_low p a k.clients k.healers actor) (test_yes a actor e))
        )
