-- In each pass somebody goes on, so there are few passes.
use Rattle.std.proofs.Common.{◌≡◌, ℕ, zero, suc, ◌+◌, ◌*◌, ◌<◌, ◌≤◌, ◌==◌, Bool, true, false, ◌⊎◌, inl, inr, refl, sym, subst, ap, arith, List, [], ◌∷◌, ◌++◌, length, ◌∙◌, append_assoc, true≢false, replicate}
use Rattle.std.specs.Prelude.{if◌then◌else◌, nat_lt}
use Rattle.std.proofs.lemmas.Bool.{eqb-true}
use Rattle.std.proofs.lemmas.Bool.Decides.{nat_tests}
use Rattle.std.proofs.lemmas.List.{append-nil, length-append}
use Rattle.afr_base.specs.declared.ids.ActorId.{ActorId}
use Rattle.afr_base.specs.declared.ids.BrickId.{BrickId}
use Rattle.afr_law_bound.proofs.Ends.Falls.{Facts, falls_killed, falls_le, falls_own}
use Rattle.afr_law_bound.proofs.Ends.Runs.{Comes, Goes, Run, Skips, Stops, done_more, run_facts, run_le, run_length, run_of, run_split, run_undone}
use Rattle.afr_law_bound.proofs.Ends.Spending.{some_left}
use Rattle.afr_law_bound.proofs.Ends.Sums.{actor_in, total_count, total_le, total_some}
use Rattle.afr_law_bound.specs.Ends.Cost.{is_held_back, total}
use Rattle.afr_law_bound.specs.Ends.Law.{EndsDone, EndsWithin}
use Rattle.afr_model.specs.Complete.{IsFinished}
use Rattle.afr_law_bound.specs.Ends.Left.{bound_of, is_to_come, left, turns_in, unspent, whole_cost}
use Rattle.afr_lines.specs.Work.{events_made, is_event, is_of, kills}
use Rattle.afr_lines.specs.declared.answer.Told.TheVariants.{Held}
use Rattle.afr_lines.specs.declared.line.Event.TheVariants.{Kill}
use Rattle.afr_lines.specs.declared.line.Event.TheVariants as event_of
use Rattle.afr_lines.specs.declared.line.Event.{Event as Happening}
use Rattle.afr_lines.specs.declared.line.Line.TheVariants.{Ask, Begin, End, Event, HealBegin, HealEnd}
use Rattle.afr_lines.specs.declared.line.Line.{Line}
use Rattle.afr_lines.specs.declared.request.Area.{Area}
use Rattle.afr_lines.specs.declared.request.Request.TheVariants.{Lock}
use Rattle.afr_model.specs.Actors.{IsActor, is_done}
use Rattle.afr_model.specs.Following.{Follows}
use Rattle.afr_model.specs.Ordered.{actors_of, ordered_turns, passes}
use Rattle.afr_model_moves.proofs.Tests.{same_self}
use Rattle.afr_plan.specs.declared.plan.Plan.{Plan}
use Rattle.afr_plan.specs.declared.schedule.Go.{Go}
use Rattle.afr_lines.specs.declared.lock.Domain.TheVariants.{Work}
use Rattle.afr_law_bound.proofs.Standstill.Standing.{actor_yes, goes_on, held_waits, is_actor, not_all, yes_actor}
use Rattle.std.proofs.lemmas.Nat.{mul-add-lt}
use Rattle.std.proofs.Math.Nat.{suc-mul, zero-mul}
use Rattle.std.proofs.lemmas.Option.{slice_get_within}
use Rattle.afr_law_bound.specs.Standstill.Order.{IsStillLine, IsWaiting}
use Rattle.afr_law_bound.proofs.Circle.{In}

-- ---- one pass
-- an actor is done, or waits
abbrev pub Settled : Plan → List Line → ℕ → Type 0
Settled p log a = (is_done p a log ≡ true) ⊎ IsWaiting p log a

held_line : (line : Line) → is_held_back line ≡ true → (a : ActorId) × (b : BrickId) × (area : Area) × (owner : ActorId) × (took : Bool) × (line ≡ Ask a b (Lock Work area) (Held owner) took)
held_line (Ask a b (Lock Work area) (Held owner) took) e = (a, b, area, owner, took, refl)
held_line (Ask a b r told took) e = absurd (true≢false (sym e))
held_line (Begin a change) e = absurd (true≢false (sym e))
held_line (HealBegin a g kind) e = absurd (true≢false (sym e))
held_line (End a said) e = absurd (true≢false (sym e))
held_line (HealEnd a g kind said) e = absurd (true≢false (sym e))
held_line (Event event) e = absurd (true≢false (sym e))

pub event_line : (line : Line) → is_event line ≡ true → (e : Happening) × (line ≡ Event e)
event_line (Event e) h = (e, refl)
event_line (Ask a b r told took) h = absurd (true≢false (sym h))
event_line (Begin a change) h = absurd (true≢false (sym h))
event_line (HealBegin a g kind) h = absurd (true≢false (sym h))
event_line (End a said) h = absurd (true≢false (sym h))
event_line (HealEnd a g kind said) h = absurd (true≢false (sym h))

-- after a line of nothing done, who was settled is
settled_on : (p : Plan) (line : Line) (older : List Line) → Facts p (line ∷ older) → IsStillLine p line older → (b : ℕ) → is_of b line ≡ false → Settled p older b → Settled p (line ∷ older) b
settled_on p line older f still b other (inl done) = inl (done_more p b line older done)
settled_on p line older f still b other (inr waits) = inr (goes_on p line older f.kept still b other waits)

-- after a line that tells of a lock that another holds
settled_held : (p : Plan) (line : Line) (older : List Line) (a : ℕ) → Facts p (line ∷ older) → is_of a line ≡ true → is_held_back line ≡ true → (S : ℕ → Type 0) → ((b : ℕ) → S b → Settled p older b) → (b : ℕ) → (b ≡ a) ⊎ S b → Settled p (line ∷ older) b
settled_held p line older a f mine held S was b h =
    let w = held_line line held in
    go w.0 w.1 w.2 w.3 w.4 w.5
  where
    go : (x : ActorId) (y : BrickId) (area : Area) (owner : ActorId) (took : Bool) → line ≡ Ask x y (Lock Work area) (Held owner) took → Settled p (line ∷ older) b
    go x y area owner took is = at (subst (λ (l : Line). Facts p (l ∷ older)) is f) (subst (λ (l : Line). is_of a l ≡ true) is mine)
      where
        at : Facts p (Ask x y (Lock Work area) (Held owner) took ∷ older) → (x.0 == a) ≡ true → Settled p (line ∷ older) b
        at g m = subst (λ (l : Line). Settled p (l ∷ older) b) (sym is) (turn (x.0 == b) refl)
          where
            turn : (own : Bool) → (x.0 == b) ≡ own → Settled p (Ask x y (Lock Work area) (Held owner) took ∷ older) b
            turn true e = inr (subst (λ (k : ℕ). IsWaiting p (Ask x y (Lock Work area) (Held owner) took ∷ older) k) (eqb-true x.0 b e) (held_waits p older x y area owner took g.kept))
            turn false e = elim h [
              | inl same ↦ absurd (true≢false (sym (subst (λ (k : ℕ). (x.0 == k) ≡ true) (sym same) m) ∙ e))
              | inr old ↦ settled_on p (Ask x y (Lock Work area) (Held owner) took) older g tt b e (was b old)
            ]

-- an event kills an actor with something left to do, or tells of nothing done
event_cases : (p : Plan) (e : Happening) (older : List Line) → ((a : ℕ) × IsActor p a × (kills a (Event e) ≡ true) × (is_done p a older ≡ false)) ⊎ IsStillLine p (Event e) older
event_cases p (Kill x) older = go (is_actor p x.0) refl (is_done p x.0 older) refl
  where
    apart : (a : ℕ) → ((x.0 ≡ a) → ⊥) → (k : Bool) → (x.0 == a) ≡ k → k ≡ false
    apart a differ true k = absurd (differ (eqb-true x.0 a k))
    apart a differ false k = refl

    go : (actor : Bool) → is_actor p x.0 ≡ actor → (d : Bool) → is_done p x.0 older ≡ d → ((a : ℕ) × IsActor p a × (kills a (Event (Kill x)) ≡ true) × (is_done p a older ≡ false)) ⊎ IsStillLine p (Event (Kill x)) older
    go true e false f = inl (x.0, yes_actor p x.0 e, same_self x.0, f)
    go true e true f = inr (λ a actor left. apart a (λ same. true≢false (sym f ∙ ap (λ (z : ℕ). is_done p z older) same ∙ left)) (x.0 == a) refl)
    go false e d f = inr (λ a actor left. apart a (λ same. true≢false (sym (actor_yes p a actor) ∙ ap (λ (z : ℕ). is_actor p z) (sym same) ∙ e)) (x.0 == a) refl)
event_cases p (event_of.Stop x) older = inr (λ a actor left. refl)
event_cases p (event_of.Start x) older = inr (λ a actor left. refl)
event_cases p (event_of.Cut x y) older = inr (λ a actor left. refl)
event_cases p (event_of.Join x y) older = inr (λ a actor left. refl)

-- what a run of these turns leaves of actors that were settled: less is left, or they are, and those that had a turn
Sweeps : Plan → List ℕ → List Line → List Line → (ℕ → Type 0) → Type 0
Sweeps p turns old new S = (left p new < left p old) ⊎ ((b : ℕ) → In b turns ⊎ S b → Settled p new b)

goes_case : (p : Plan) (a : ℕ) (line : Line) (rest : List ℕ) (old new : List Line) → is_of a line ≡ true → Run p rest (line ∷ old) new → Facts p new → (S : ℕ → Type 0) → ((b : ℕ) → S b → Settled p old b)
    → ((T : ℕ → Type 0) → ((b : ℕ) → T b → Settled p (line ∷ old) b) → Sweeps p rest (line ∷ old) new T) → Sweeps p (a ∷ rest) old new S
unfolding Sweeps
goes_case p a line rest old new mine r f S was more = go (is_held_back line) refl
  where
    here : Facts p (line ∷ old)
    here = run_facts p rest (line ∷ old) new r f

    go : (held : Bool) → is_held_back line ≡ held → (left p new < left p old) ⊎ ((b : ℕ) → In b (a ∷ rest) ⊎ S b → Settled p new b)
    go false e = inl (let x = falls_own p line old here a mine e in let y = run_le p rest (line ∷ old) new r f in omega (arith, x, y))
    go true e = elim (more (λ b. (b ≡ a) ⊎ S b) (settled_held p line old a here mine e S was)) [
      | inl less ↦ inl (let y = falls_le p line old here in omega (arith, less, y))
      | inr all ↦ inr (λ b h. elim h [ inl k ↦ elim k [ inl same ↦ all b (inr (inl same)) | inr later ↦ all b (inl later) ] | inr s ↦ all b (inr (inr s)) ])
    ]

comes_case : (p : Plan) (line : Line) (turns : List ℕ) (old new : List Line) → is_event line ≡ true → Run p turns (line ∷ old) new → Facts p new → (S : ℕ → Type 0) → ((b : ℕ) → S b → Settled p old b)
    → ((T : ℕ → Type 0) → ((b : ℕ) → T b → Settled p (line ∷ old) b) → Sweeps p turns (line ∷ old) new T) → Sweeps p turns old new S
unfolding Sweeps
comes_case p line turns old new event r f S was more = go (event_line line event).0 (event_line line event).1
  where
    here : Facts p (line ∷ old)
    here = run_facts p turns (line ∷ old) new r f

    other : (e : Happening) → line ≡ Event e → (b : ℕ) → is_of b line ≡ false
    other e is b = rw is refl

    go : (e : Happening) → line ≡ Event e → (left p new < left p old) ⊎ ((b : ℕ) → In b turns ⊎ S b → Settled p new b)
    go e is = elim (event_cases p e old) [
      | inl w ↦ inl (let x = falls_killed p line old here w.0 w.1 (ap (kills w.0) is ∙ w.2) w.3 in let y = run_le p turns (line ∷ old) new r f in omega (arith, x, y))
      | inr still ↦ elim (more S (λ b s. settled_on p line old here (subst (λ (l : Line). IsStillLine p l old) (sym is) still) b (other e is b) (was b s))) [
        | inl less ↦ inl (let y = falls_le p line old here in omega (arith, less, y))
        | inr all ↦ inr all
      ]
    ]

-- turns of some actors: what is left falls, or each of them is settled then
sweep : (p : Plan) (turns : List ℕ) (old new : List Line) → Run p turns old new → Facts p new → (S : ℕ → Type 0) → ((b : ℕ) → S b → Settled p old b) → Sweeps p turns old new S
unfolding Sweeps
sweep p turns old new (Stops log) f S was = inr (λ b h. elim h [ inl none ↦ absurd none | inr s ↦ was b s ])
sweep p turns old new (Skips a rest was_log end done r) f S was = elim (sweep p rest old new r f (λ b. (b ≡ a) ⊎ S b) (λ b h. elim h [ inl same ↦ inl (ap (λ (z : ℕ). is_done p z old) same ∙ done) | inr s ↦ was b s ])) [
  | inl less ↦ inl less
  | inr all ↦ inr (λ b h. elim h [ inl k ↦ elim k [ inl same ↦ all b (inr (inl same)) | inr later ↦ all b (inl later) ] | inr s ↦ all b (inr (inr s)) ])
]
sweep p turns old new (Goes a line rest was_log end mine r) f S was = goes_case p a line rest old new mine r f S was (λ T each. sweep p rest (line ∷ old) new r f T each)
sweep p turns old new (Comes line rest was_log end event r) f S was = comes_case p line turns old new event r f S was (λ T each. sweep p turns (line ∷ old) new r f T each)

-- in a pass what is left falls, as long as somebody has something left to do
pass_falls : (p : Plan) (old new : List Line) → Run p (actors_of p) old new → Facts p new → (a : ℕ) → IsActor p a → is_done p a new ≡ false → left p new < left p old
unfolding Sweeps
pass_falls p old new r f a actor undone = elim (sweep p (actors_of p) old new r f (λ b. ⊥) (λ b none. absurd none)) [
  | inl less ↦ less
  | inr all ↦ absurd (true≢false (sym (not_all p new f.kept (λ x is left_over. waits x (all x (inl (actor_in p x is))) left_over) a actor) ∙ undone))
]
  where
    waits : (x : ℕ) → Settled p new x → is_done p x new ≡ false → IsWaiting p new x
    waits x (inl done) e = absurd (true≢false (sym done ∙ e))
    waits x (inr w) e = w

passes_fall : (p : Plan) (q : ℕ) (old new : List Line) → Run p (passes q (actors_of p)) old new → Facts p new → (a : ℕ) → IsActor p a → is_done p a new ≡ false → left p new + q ≤ left p old
passes_fall p zero old new r f a actor undone = (let x = run_le p [] old new r f in omega (arith, x))
passes_fall p (suc q) old new r f a actor undone =
    let w = run_split p (passes q (actors_of p)) (actors_of p) old new r in
    let mid = run_facts p (actors_of p) w.0 new w.2 f in
    let x = pass_falls p w.0 new w.2 f a actor undone in
    let y = passes_fall p q old w.0 w.1 mid a actor (run_undone p (actors_of p) w.0 new a w.2 undone) in
    omega (arith, x, y)

-- ---- where the turns end
-- the first of two fronts of a list is within the other, or goes past it
pub data Fronts (xs ys zs ws : List ℕ) : Type 0 where
  Within : (l : List ℕ) → zs ≡ xs ++ l → Fronts xs ys zs ws
  Past : (l : List ℕ) → xs ≡ zs ++ l → l ++ ys ≡ ws → Fronts xs ys zs ws

fronts : (xs ys zs ws : List ℕ) → xs ++ ys ≡ zs ++ ws → Fronts xs ys zs ws
fronts [] ys zs ws e = Within zs refl
fronts (x ∷ xs) ys [] ws e = Past (x ∷ xs) refl e
fronts (x ∷ xs) ys (z ∷ zs) ws e = go (fronts xs ys zs ws (let t : xs ++ ys ≡ zs ++ ws = cc e in t))
  where
    head : x ≡ z
    head = cc e

    go : Fronts xs ys zs ws → Fronts (x ∷ xs) ys (z ∷ zs) ws
    go (Within l f) = Within l (λ i. sym head i ∷ f i)
    go (Past l f g) = Past l (λ i. head i ∷ f i) g

-- turns end within the orders, or in some pass
pub data Ending (p : Plan) (turns : List ℕ) : Type 0 where
  Early : (l : List ℕ) → ordered_turns p.go ≡ turns ++ l → Ending p turns
  Late : (q : ℕ) (part : List ℕ) → turns ≡ ordered_turns p.go ++ (passes q (actors_of p) ++ part) → length part < length (actors_of p) → Ending p turns

lengths : (xs ys zs : List ℕ) → zs ≡ xs ++ ys → length zs ≡ length xs + length ys
lengths xs ys zs e = ap length e ∙ length-append xs ys

no_more : (l : List ℕ) → length l ≡ 0 → l ≡ []
no_more [] e = refl
no_more (x ∷ l) e = absurd (omega (arith, e))

ending : (p : Plan) (rounds : ℕ) (turns later : List ℕ) → 0 < length (actors_of p) → turns ++ later ≡ ordered_turns p.go ++ passes rounds (actors_of p) → Ending p turns
ending p zero turns later some e = go (fronts turns later (ordered_turns p.go) [] e)
  where
    go : Fronts turns later (ordered_turns p.go) [] → Ending p turns
    go (Within l f) = Early l f
    go (Past l f g) = Late 0 [] (f ∙ ap (λ (z : List ℕ). ordered_turns p.go ++ z) (front l g)) some
      where
        front : (l : List ℕ) → l ++ later ≡ [] → l ≡ []
        front [] k = refl
        front (x ∷ l) k = absurd (cc k)
ending p (suc r) turns later some e = go (fronts turns later (ordered_turns p.go ++ passes r (actors_of p)) (actors_of p) (e ∙ sym (append_assoc (ordered_turns p.go) (passes r (actors_of p)) (actors_of p)))) (λ l f. ending p r turns l some f)
  where
    go : Fronts turns later (ordered_turns p.go ++ passes r (actors_of p)) (actors_of p) → ((l : List ℕ) → turns ++ l ≡ ordered_turns p.go ++ passes r (actors_of p) → Ending p turns) → Ending p turns
    go (Within l f) rest = rest l (sym f)
    go (Past l f g) rest = part (nat_lt (length l) (length (actors_of p))) refl
      where
        sum : length (actors_of p) ≡ length l + length later
        sum = lengths l later (actors_of p) (sym g)

        part : (short : Bool) → nat_lt (length l) (length (actors_of p)) ≡ short → Ending p turns
        part true k = Late r l (f ∙ append_assoc (ordered_turns p.go) (passes r (actors_of p)) l) (grind (arith, nat_tests, k))
        part false k = (
            let high : length (actors_of p) ≤ length l = grind (arith, nat_tests, k) in
            let none : later ≡ [] = no_more later (omega (arith, sum, high)) in
            let same : l ≡ actors_of p = sym (append-nil l) ∙ ap (λ (z : List ℕ). l ++ z) (sym none) ∙ g in
            Late (suc r) [] (f ∙ ap (λ (z : List ℕ). (ordered_turns p.go ++ passes r (actors_of p)) ++ z) same ∙ append_assoc (ordered_turns p.go) (passes r (actors_of p)) (actors_of p) ∙ ap (λ (z : List ℕ). ordered_turns p.go ++ z) (sym (append-nil (passes (suc r) (actors_of p))))) some
            )

-- ---- counting
orders_length : (orders : List Go) → length (ordered_turns orders) ≡ total turns_in orders
orders_length [] = refl
orders_length (x ∷ more) = length-append (replicate x.count x.actor.0) (ordered_turns more) ∙ (λ i. replicated x.count x.actor.0 i + orders_length more i)
  where
    replicated : (k a : ℕ) → length (replicate k a) ≡ k
    replicated zero a = refl
    replicated (suc k) a = ap suc (replicated k a)

passes_length : (q : ℕ) (actors : List ℕ) → length (passes q actors) ≡ q * length actors
passes_length zero actors = sym (zero-mul (length actors))
passes_length (suc q) actors = length-append (passes q actors) actors ∙ ap (λ (k : ℕ). k + length actors) (passes_length q actors) ∙ sym (suc-mul q (length actors))

-- at the beginning what is left is what the plan allows
pub left_opening : (p : Plan) → left p [] ≤ total (whole_cost p) (actors_of p) + length p.faults
left_opening p =
    let x = total_le (whole_cost p) (unspent p []) (actors_of p) (λ a. omega arith) in
    let y = total_count (is_to_come []) p.faults (λ z. one (nat_lt 0 z.at)) in
    omega (arith, x, y)
  where
    one : (b : Bool) → (if b then 1 else 0) ≤ 1
    one true = omega arith
    one false = omega arith

-- no more events come than the plan has
pub few_events : (crawl : Bool) (p : Plan) (log : List Line) → Follows crawl p log → events_made log ≤ length p.events
few_events crawl p [] f = omega arith
few_events crawl p (Event e ∷ older) f = (let w = slice_get_within p.events (events_made older) f.0.1.planned f.0.1.next in omega (arith, w))
few_events crawl p (Ask a b r told took ∷ older) f = few_events crawl p older f.1
few_events crawl p (Begin a change ∷ older) f = few_events crawl p older f.1
few_events crawl p (HealBegin a g kind ∷ older) f = few_events crawl p older f.1
few_events crawl p (End a said ∷ older) f = few_events crawl p older f.1
few_events crawl p (HealEnd a g kind said ∷ older) f = few_events crawl p older f.1

pub some_actor : (a : ℕ) (actors : List ℕ) → In a actors → 0 < length actors
some_actor a [] h = absurd h
some_actor a (x ∷ xs) h = omega arith

-- the arithmetic of it
early_sum : (len ev turns l orders events actors costs : ℕ) → len + 0 ≤ 0 + turns + ev → orders ≡ turns + l → ev ≤ events → 0 < actors → 0 < costs → len < events + orders + actors * costs
early_sum len ev turns l orders events actors costs a b c d e = (let m : 0 * actors + 0 < actors * costs = mul-add-lt 0 actors 0 costs e d in omega (arith, a, b, c, m))

late_sum : (len ev q part orders events actors costs : ℕ) → len + 0 ≤ 0 + (orders + (q * actors + part)) + ev → ev ≤ events → part < actors → q + 1 ≤ costs → len < events + orders + actors * costs
late_sum len ev q part orders events actors costs a b c d = (let m : q * actors + part < actors * costs = mul-add-lt q actors part costs (omega (arith, d)) c in omega (arith, a, b, m))

pub ends_within : EndsWithin
ends_within p log kept within order a actor undone =
    go (ending p order.rounds order.turns order.later (some_actor a (actors_of p) (actor_in p a actor)) order.stated)
  where
    facts : Facts p log
    facts = record { kept = kept; within = within }

    run : Run p order.turns [] log
    run = run_of p order.turns log order.written

    counted_length : length log + 0 ≤ 0 + length order.turns + events_made log
    counted_length = run_length p order.turns [] log run

    events : events_made log ≤ length p.events
    events = few_events false p log kept.follows

    whole : left p [] ≤ total (whole_cost p) (actors_of p) + length p.faults
    whole = left_opening p

    some : 0 < left p log
    some = (let x = some_left p log a within undone in let y = total_some (unspent p log) (actors_of p) a (actor_in p a actor) in omega (arith, x, y))

    none_more : left p log ≤ left p []
    none_more = run_le p order.turns [] log run facts

    go : Ending p order.turns → length log < bound_of p
    go (Early l e) = early_sum (length log) (events_made log) (length order.turns) (length l) (total turns_in p.go) (length p.events) (length (actors_of p)) (total (whole_cost p) (actors_of p) + length p.faults)
        counted_length (sym (orders_length p.go) ∙ lengths order.turns l (ordered_turns p.go) e) events (some_actor a (actors_of p) (actor_in p a actor)) (omega (arith, whole, some, none_more))
    go (Late q part e short) = (
        let r : Run p (ordered_turns p.go ++ (passes q (actors_of p) ++ part)) [] log = subst (λ (t : List ℕ). Run p t [] log) e run in
        let one = run_split p (ordered_turns p.go) (passes q (actors_of p) ++ part) [] log r in
        let two = run_split p (passes q (actors_of p)) part one.0 log one.2 in
        let at_two = run_facts p part two.0 log two.2 facts in
        let fall = passes_fall p q one.0 two.0 two.1 at_two a actor (run_undone p part two.0 log a two.2 undone) in
        let first = run_le p (ordered_turns p.go) [] one.0 one.1 (run_facts p (passes q (actors_of p)) one.0 two.0 two.1 at_two) in
        let last = run_le p part two.0 log two.2 facts in
        let size : length order.turns ≡ total turns_in p.go + (q * length (actors_of p) + length part) =
        lengths (ordered_turns p.go) (passes q (actors_of p) ++ part) order.turns e ∙ (λ i. orders_length p.go i + (length-append (passes q (actors_of p)) part ∙ ap (λ (k : ℕ). k + length part) (passes_length q (actors_of p))) i) in
        late_sum (length log) (events_made log) q (length part) (total turns_in p.go) (length p.events) (length (actors_of p)) (total (whole_cost p) (actors_of p) + length p.faults)
        (subst (λ (k : ℕ). length log + 0 ≤ 0 + k + events_made log) size counted_length) events short (omega (arith, fall, first, last, some, whole))
        )

pub ends_done : EndsDone
ends_done p log kept within order whole room a actor = go whole
  where
    over : (d : Bool) → is_done p a log ≡ d → length log ≡ p.turns → is_done p a log ≡ true
    over true e full = e
    over false e full = absurd (let short = ends_within p log kept within order a actor e in omega (arith, short, full, room))

    go : (length log ≡ p.turns) ⊎ IsFinished p log → is_done p a log ≡ true
    go (inl full) = over (is_done p a log) refl full
    go (inr finished) = finished.done a actor
