-- Where nobody asks in vain twice running, few lines tell of locks that others hold.
use Rattle.std.proofs.Common.{◌≡◌, ℕ, zero, suc, ◌+◌, ◌*◌, ◌<◌, ◌≤◌, ◌||◌, Bool, true, false, refl, sym, ap, arith, List, [], ◌∷◌, length, ◌∙◌, true≢false}
use Rattle.std.specs.Prelude.{if◌then◌else◌}
use Rattle.std.proofs.Math.Nat.{mul-add, mul-le-mul_left, suc-mul}
use Rattle.afr_law_bound.proofs.Ends.Ends.{few_events, left_opening, some_actor}
use Rattle.afr_law_bound.proofs.Ends.Falls.{Facts, facts_before, falls_le, falls_own}
use Rattle.afr_law_bound.proofs.Ends.Spending.{some_left}
use Rattle.afr_law_bound.proofs.Ends.Sums.{actor_in, total_count, total_less, total_some}
use Rattle.afr_law_bound.specs.Ends.Cost.{is_held_back, total}
use Rattle.afr_law_bound.specs.Ends.Law.{AreEager, EagerEndsWithin, is_back}
use Rattle.afr_law_bound.specs.Ends.Left.{left, turns_in, unspent, whole_cost}
use Rattle.afr_lines.specs.Work.{events_made, is_event, is_of}
use Rattle.afr_lines.specs.declared.line.Line.TheVariants.{Ask, Begin, End, Event, HealBegin, HealEnd}
use Rattle.afr_lines.specs.declared.line.Line.{Line}
use Rattle.afr_model.specs.Actors.{IsActor}
use Rattle.afr_model.specs.Ordered.{actors_of}
use Rattle.afr_model_moves.proofs.Tests.{same_self}
use Rattle.afr_plan.specs.declared.plan.Plan.{Plan}
use Rattle.afr_law.proofs.Model.Tasks.{turn_of}

pub one_if : Bool → ℕ
one_if true = 1
one_if false = 0

at_most_one : (b : Bool) → one_if b ≤ 1
unfolding one_if
at_most_one true = omega arith
at_most_one false = omega arith

-- how many actors were told so since the last other line
backs : Plan → List Line → ℕ
backs p log = total (λ a. one_if (is_back a log)) (actors_of p)

-- the lines that tell so, and all others
held_lines : List Line → ℕ
held_lines [] = 0
held_lines (line ∷ older) = one_if (is_held_back line) + held_lines older

other_lines : List Line → ℕ
other_lines [] = 0
other_lines (line ∷ older) = (if is_held_back line then 0 else 1) + other_lines older

all_lines : (log : List Line) → length log ≡ held_lines log + other_lines log
unfolding held_lines other_lines one_if
all_lines [] = refl
all_lines (line ∷ older) = go (is_held_back line) (all_lines older)
  where
    go : (h : Bool) → length older ≡ held_lines older + other_lines older → suc (length older) ≡ (one_if h + held_lines older) + ((if h then 0 else 1) + other_lines older)
    go true e = omega (arith, e)
    go false e = omega (arith, e)

-- whose line it is
owner_of : (line : Line) → is_held_back line ≡ true → (a : ℕ) × (is_of a line ≡ true)
owner_of (Ask a b r told took) e = (a.0, same_self a.0)
owner_of (Begin a change) e = absurd (true≢false (sym e))
owner_of (HealBegin a g kind) e = absurd (true≢false (sym e))
owner_of (End a said) e = absurd (true≢false (sym e))
owner_of (HealEnd a g kind said) e = absurd (true≢false (sym e))
owner_of (Event event) e = absurd (true≢false (sym e))

few_backs : (p : Plan) (log : List Line) → backs p log ≤ length (actors_of p)
unfolding backs
few_backs p log = total_count (λ a. one_if (is_back a log)) (actors_of p) (λ a. at_most_one (is_back a log))

-- such a line tells one actor more so
one_back : (p : Plan) (line : Line) (older : List Line) → is_held_back line ≡ true → (a : ℕ) → is_of a line ≡ true → IsActor p a → is_back a older ≡ false → backs p older < backs p (line ∷ older)
unfolding backs one_if
one_back p line older e a mine actor free = total_less (λ x. one_if (is_back x (line ∷ older))) (λ x. one_if (is_back x older)) (actors_of p) a (λ x. more x) (actor_in p a actor) here
  where
    now : (x : ℕ) → is_back x (line ∷ older) ≡ (is_of x line || is_back x older)
    now x = rw e refl

    more : (x : ℕ) → one_if (is_back x older) ≤ one_if (is_back x (line ∷ older))
    more x = rw (now x) (go (is_of x line) (is_back x older))
      where
        go : (m b : Bool) → one_if b ≤ one_if (m || b)
        go true true = omega arith
        go true false = omega arith
        go false b = omega arith

    here : one_if (is_back a older) < one_if (is_back a (line ∷ older))
    here = rw (now a, mine, free) (omega arith)

-- of lines that tell so there are no more than a pass after each other line
held_few : (p : Plan) (log : List Line) → Facts p log → AreEager log → held_lines log ≤ length (actors_of p) * other_lines log + backs p log
unfolding held_lines other_lines one_if
held_few p [] f eager = omega arith
held_few p (line ∷ older) f eager = go (is_held_back line) refl (held_few p older (facts_before p line older f) eager.1)
  where
    go : (h : Bool) → is_held_back line ≡ h → held_lines older ≤ length (actors_of p) * other_lines older + backs p older
        → one_if h + held_lines older ≤ length (actors_of p) * ((if h then 0 else 1) + other_lines older) + backs p (line ∷ older)
    go true e low = (
        let w = owner_of line e in
        let actor = (turn_of false p w.0 line older w.1 f.kept.follows).actor in
        let more = one_back p line older e w.0 w.1 actor (eager.0 e w.0 w.1) in
        omega (arith, low, more)
        )
    go false e low = (
        let few = few_backs p older in
        let times : length (actors_of p) * (1 + other_lines older) ≡ length (actors_of p) * 1 + length (actors_of p) * other_lines older = mul-add (length (actors_of p)) 1 (other_lines older) in
        rw times (omega (arith, low, few))
        )

-- each other line is an event, or takes from what is left
others_few : (p : Plan) (log : List Line) → Facts p log → other_lines log + left p log ≤ events_made log + left p []
unfolding other_lines
others_few p [] f = omega arith
others_few p (line ∷ older) f = go (is_held_back line) refl (others_few p older (facts_before p line older f))
  where
    least : events_made older ≤ events_made (line ∷ older)
    least = event (is_event line)
      where
        event : (e : Bool) → events_made older ≤ (if e then events_made older + 1 else events_made older)
        event true = omega arith
        event false = omega arith

    go : (h : Bool) → is_held_back line ≡ h → other_lines older + left p older ≤ events_made older + left p [] → ((if h then 0 else 1) + other_lines older) + left p (line ∷ older) ≤ events_made (line ∷ older) + left p []
    go true e low = (let x = falls_le p line older f in let y = least in omega (arith, low, x, y))
    go false e low = who line refl
      where
        own : (a : ℕ) → is_of a line ≡ true → 1 + other_lines older + left p (line ∷ older) ≤ events_made (line ∷ older) + left p []
        own a mine = (let x = falls_own p line older f a mine e in let y = least in omega (arith, low, x, y))

        who : (l : Line) → line ≡ l → 1 + other_lines older + left p (line ∷ older) ≤ events_made (line ∷ older) + left p []
        who (Ask a b r told took) is = own a.0 (ap (is_of a.0) is ∙ same_self a.0)
        who (Begin a change) is = own a.0 (ap (is_of a.0) is ∙ same_self a.0)
        who (HealBegin a g kind) is = own a.0 (ap (is_of a.0) is ∙ same_self a.0)
        who (End a said) is = own a.0 (ap (is_of a.0) is ∙ same_self a.0)
        who (HealEnd a g kind said) is = own a.0 (ap (is_of a.0) is ∙ same_self a.0)
        who (Event event) is = (
            let x = falls_le p line older f in
            let more : events_made (line ∷ older) ≡ events_made older + 1 = rw is refl in
            rw more (omega (arith, low, x))
            )

sums : (len held others events made actors costs orders backs : ℕ) → len ≡ held + others → held ≤ actors * others + backs → backs ≤ actors → others + 1 ≤ made + costs → made ≤ events → 0 < actors
    → len < 2 * (events + orders + actors * costs) + actors * events
sums len held others events made actors costs orders backs a b c d e g =
    let top : others + 1 ≤ events + costs = omega (arith, d, e) in
    let all : actors * (others + 1) ≤ actors * (events + costs) = mul-le-mul_left actors top in
    let left_side : actors * (others + 1) ≡ actors * others + actors * 1 = mul-add actors others 1 in
    let right_side : actors * (events + costs) ≡ actors * events + actors * costs = mul-add actors events costs in
    let some : costs ≤ actors * costs = least actors costs g in
    let k : actors * others + actors * 1 ≤ actors * events + actors * costs = rw (left_side, right_side) at all in
    omega (arith, a, b, c, top, k, some)
  where
    least : (x y : ℕ) → 0 < x → y ≤ x * y
    least zero y h = absurd (omega (arith, h))
    least (suc x) y h = (let m : suc x * y ≡ x * y + y = suc-mul x y in rw m (omega arith))

pub eager_ends : EagerEndsWithin
eager_ends p log kept within eager a actor undone =
    let facts : Facts p log = record { kept = kept; within = within } in
    let some = some_left p log a within undone in
    let more = total_some (unspent p log) (actors_of p) a (actor_in p a actor) in
    let others = others_few p log facts in
    let whole = left_opening p in
    sums (length log) (held_lines log) (other_lines log) (length p.events) (events_made log) (length (actors_of p)) (total (whole_cost p) (actors_of p) + length p.faults) (total turns_in p.go) (backs p log)
    (all_lines log) (held_few p log facts eager) (few_backs p log) (omega (arith, some, more, others, whole)) (few_events false p log kept.follows) (some_actor a (actors_of p) (actor_in p a actor))
