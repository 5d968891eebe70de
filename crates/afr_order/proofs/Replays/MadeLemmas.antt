-- Lines that are made of steps, one after the other, and what one step makes.
use Rattle.std.proofs.Common.{◌≡◌, ℕ, zero, suc, ◌+◌, ◌-◌, ◌<◌, true, false, Option, Some, None, List, [], ◌∷◌, ◌++◌, length, take, drop, map, reverse, refl, sym, ◌∙◌, add-one, ap, subst, arith}
use Rattle.std.specs.Prelude.{IsSome, is_some, slice_get}
use Rattle.std.proofs.lemmas.List.{drop_at, length-append, length-map, length-reverse, map-append, reverse-append, take_all}
use Rattle.afr_base.specs.declared.ids.ActorId.{ActorId}
use Rattle.afr_image.specs.declared.step.Step.{Step}
use Rattle.afr_image.specs.Steps.{step_of}
use Rattle.afr_lines.specs.Log.{before}
use Rattle.afr_lines.specs.Work.{is_of}
use Rattle.afr_lines.specs.declared.line.Event.{Event as AnEvent}
use Rattle.afr_lines.specs.declared.line.Line.{Line}
use Rattle.afr_lines.specs.declared.line.Line.TheVariants.{Event}
use Rattle.afr_model.specs.Actors.{IsActor, is_done}
use Rattle.afr_order.specs.Onward.{Extends}
use Rattle.afr_plan.specs.declared.plan.Plan.{Plan}
use Rattle.afr_volume.specs.State.{State}
use Rattle.afr_volume.proofs.TaskDone.{done_by_plan, plain_done}
use Rattle.afr_volume.specs.Tasks.{is_done_in}
use Rattle.afr_volume.specs.Turning.{Comes, Turns, due_of}
use Rattle.afr_volume.specs.declared.turned.Turned.{Turned}
use Rattle.afr_volume.specs.declared.turned.Turned.TheVariants.{Ended, Full, Moved, Waits}
use Rattle.afr_order.specs.Replays.Made.{DiffersAt, Fails, HasSteps, IsBy, IsEventStep, Made, MakesStep, NoWork, NoneIsDue, OneIsDue, Otherwise, Retraces, Start, Then, is_ended}

-- ---- what was made has the steps
pub made_steps : (p : Plan) (steps : List Step) (log : List Line) → Made p steps log → map step_of (reverse log) ≡ steps
made_steps p steps log Start = refl
made_steps p steps log (Then before older step line m h) =
    ap (map step_of) (reverse-append (line ∷ []) older)
    ∙ map-append step_of (reverse older) (line ∷ [])
    ∙ ap (λ (l : List Step). l ++ step_of line ∷ []) (made_steps p before older m)
    ∙ ap (λ (s : Step). before ++ s ∷ []) h.same

made_len : (p : Plan) (steps : List Step) (log : List Line) → Made p steps log → length log ≡ length steps
made_len p steps log m = sym (length-reverse log) ∙ sym (length-map (reverse log) step_of) ∙ ap length (made_steps p steps log m)

pub retraced : (p : Plan) (steps : List Step) (log : List Line) → Retraces p steps log → HasSteps steps log
retraced p steps log r =
    let len : length r.first ≡ length steps = made_len p steps r.first r.made in
    let at : length log - length steps ≡ length r.later = omega (arith, ap length r.whole, length-append r.later r.first, len) in
    let there : before (length steps) log ≡ r.first = ap (λ (n : ℕ). drop n log) at ∙ ap (drop (length r.later)) r.whole ∙ drop_at r.later r.first (length r.later) refl in
    ap (λ (l : List Line). map step_of (reverse l)) there ∙ made_steps p steps r.first r.made

-- ---- one line more
pub made_none : (p : Plan) (steps : List Step) (log : List Line) → log ≡ [] → Made p (take 0 steps) log
made_none p steps log e = subst (λ (l : List Line). Made p [] l) (sym e) Start

take_get : (steps : List Step) (i : ℕ) (step : Step) → slice_get steps i ≡ Some step → take (suc i) steps ≡ take i steps ++ step ∷ []
take_get [] i step h = absurd (cc h)
take_get (s ∷ more) zero step h = let same : s ≡ step = cc h in ap (λ (x : Step). x ∷ []) same
take_get (s ∷ more) (suc i) step h = ap (λ (l : List Step). s ∷ l) (take_get more i step h)

pub made_more : (p : Plan) (steps : List Step) (i : ℕ) (step : Step) (old new : List Line) → slice_get steps i ≡ Some step → Made p (take i steps) old → MakesStep p step old new → Made p (take (i + 1) steps) new
made_more p steps i step old new there m h =
    let front : take (i + 1) steps ≡ take i steps ++ step ∷ [] = rw add-one (take_get steps i step there) in
    subst (λ (l : List Step). Made p l new) (sym front) (subst (λ (l : List Line). Made p (take i steps ++ step ∷ []) l) (sym h.added) (Then (take i steps) old step h.line m h.made))

pub longer : (p : Plan) (step : Step) (old new : List Line) (i : ℕ) → length old ≡ i → MakesStep p step old new → length new ≡ i + 1
longer p step old new i e h = omega (arith, e, ap length h.added)

-- all were made, and lines came behind them
pub made_all : (p : Plan) (steps : List Step) (i : ℕ) (mid new : List Line) → length steps ≡ i → Made p (take i steps) mid → Extends mid new → Retraces p steps new
made_all p steps i mid new e m x = record {
  first = mid;
  later = x.later;
  whole = x.whole;
  made = subst (λ (l : List Step). Made p l mid) (take_all i steps (omega (arith, e))) m;
}

pub differs : (p : Plan) (steps : List Step) (i : ℕ) (step : Step) (old new : List Line) → slice_get steps i ≡ Some step → Made p (take i steps) old → Fails p step old new → DiffersAt p steps i new
differs p steps i step old new there m f = record { step = step; there = there; older = old; made = m; fails = f }

-- ---- what an event makes of a step
pub none_due : (o : Option AnEvent) → is_some o ≡ false → o ≡ None
none_due None e = refl
none_due (Some x) e = absurd (cc e)

pub no_event : (step : Step) (old new : State) → IsEventStep step → due_of old ≡ None → new ≡ old → Fails old.plan step old.log new.log
no_event step old new event none same = subst (λ (s : State). Fails old.plan step old.log s.log) (sym same) (NoneIsDue event none)

pub event_adds : (old new : State) → Comes old new → 0 < length new.log
event_adds old new h = omega (arith, ap (λ (s : State). length s.log) h.added)

pub event_plan : (old new : State) → Comes old new → new.plan ≡ old.plan
event_plan old new h = ap (λ (s : State). s.plan) h.added

event_by : (step : Step) (x : AnEvent) → IsEventStep step → IsBy step (Event x)
event_by step x event = record { event = λ _. refl; own = λ turn. absurd (turn event) }

pub event_made : (step : Step) (old new : State) → IsEventStep step → Comes old new → ((line : Line) (older : List Line) → new.log ≡ line ∷ older → step_of line ≡ step) → MakesStep old.plan step old.log new.log
event_made step old new event h same =
    let due : IsSome (due_of old) = ap (λ (o : Option AnEvent). is_some o) h.is_due in
    let added : new.log ≡ Event h.event ∷ old.log = ap (λ (s : State). s.log) h.added in
    record {
      line = Event h.event;
      added = added;
      made = record { event = λ _. due; turn = λ turn. absurd (turn event); actor = λ turn. absurd (turn event); busy = λ turn. absurd (turn event); by = event_by step h.event event; same = same (Event h.event) old.log added };
    }

pub event_differs : (step : Step) (old new : State) → IsEventStep step → Comes old new → ((line : Line) (older : List Line) → new.log ≡ line ∷ older → step_of line ≡ step → ⊥) → Fails old.plan step old.log new.log
event_differs step old new event h other =
    let added : new.log ≡ Event h.event ∷ old.log = ap (λ (s : State). s.log) h.added in
    subst (λ (l : List Line). Fails old.plan step old.log l) (sym added) (Otherwise (Event h.event) (event_by step h.event event) (other (Event h.event) old.log added))

-- ---- what a turn makes of a step
record AddsOne (a : ℕ) (old new : State) : Type 0 where
  line : Line
  own : is_of a line ≡ true
  added : new.log ≡ line ∷ old.log

adds_one : (a : ActorId) (old new : State) (turned : Turned) → is_done old.plan a.0 old.log ≡ false → length old.log < old.plan.turns → Turns a old turned new → AddsOne a.0 old new
adds_one a old new Moved busy room h = record { line = h.line; own = h.own; added = h.added }
adds_one a old new (Waits owner) busy room h = record { line = h.line; own = h.own; added = h.added }
adds_one a old new Ended busy room h = absurd (cc (sym (done_by_plan a.0 old h.0) ∙ busy))
adds_one a old new Full busy room h = absurd (omega (arith, h.0, room))

pub turn_adds : (a : ActorId) (old new : State) (turned : Turned) → is_done old.plan a.0 old.log ≡ false → length old.log < old.plan.turns → Turns a old turned new → 0 < length new.log
turn_adds a old new turned busy room h = let one = adds_one a old new turned busy room h in omega (arith, ap length one.added)

turn_by : (step : Step) (line : Line) → (IsEventStep step → ⊥) → is_of step.who line ≡ true → IsBy step line
turn_by step line turn own = record { event = λ event. absurd (turn event); own = λ _. own }

pub turn_made : (step : Step) (a : ActorId) (old new : State) (turned : Turned) → a.0 ≡ step.who → (IsEventStep step → ⊥) → is_some (due_of old) ≡ false → IsActor old.plan step.who → is_done old.plan a.0 old.log ≡ false → length old.log < old.plan.turns → Turns a old turned new
    → ((line : Line) (older : List Line) → new.log ≡ line ∷ older → step_of line ≡ step) → MakesStep old.plan step old.log new.log
turn_made step a old new turned who turn none actor busy room h same =
    let one = adds_one a old new turned busy room h in
    let own : is_of step.who one.line ≡ true = subst (λ (n : ℕ). is_of n one.line ≡ true) who one.own in
    let left : is_done old.plan step.who old.log ≡ false = subst (λ (n : ℕ). is_done old.plan n old.log ≡ false) who busy in
    record {
      line = one.line;
      added = one.added;
      made = record { event = λ event. absurd (turn event); turn = λ _. none_due (due_of old) none; actor = λ _. actor; busy = λ _. left; by = turn_by step one.line turn own; same = same one.line old.log one.added };
    }

pub turn_differs : (step : Step) (a : ActorId) (old new : State) (turned : Turned) → a.0 ≡ step.who → (IsEventStep step → ⊥) → is_done old.plan a.0 old.log ≡ false → length old.log < old.plan.turns → Turns a old turned new
    → ((line : Line) (older : List Line) → new.log ≡ line ∷ older → step_of line ≡ step → ⊥) → Fails old.plan step old.log new.log
turn_differs step a old new turned who turn busy room h other =
    let one = adds_one a old new turned busy room h in
    let own : is_of step.who one.line ≡ true = subst (λ (n : ℕ). is_of n one.line ≡ true) who one.own in
    subst (λ (l : List Line). Fails old.plan step old.log l) (sym one.added) (Otherwise one.line (turn_by step one.line turn own) (other one.line old.log one.added))

pub turn_is_due : (step : Step) (s : State) → (IsEventStep step → ⊥) → is_some (due_of s) ≡ true → Fails s.plan step s.log s.log
turn_is_due step s turn e = OneIsDue turn e

-- a turn that found its actor done has changed nothing
turn_ended : (a : ActorId) (old new : State) (turned : Turned) → Turns a old turned new → is_ended turned ≡ true → (is_done_in a.0 old ≡ true) × (new ≡ old)
turn_ended a old new Ended h e = h
turn_ended a old new turned h e = absurd (cc e)

pub turn_done : (step : Step) (a : ActorId) (old new : State) (turned : Turned) → a.0 ≡ step.who → (IsEventStep step → ⊥) → Turns a old turned new → is_ended turned ≡ true → Fails old.plan step old.log new.log
turn_done step a old new turned who turn h e =
    let ended = turn_ended a old new turned h e in
    let done : is_done old.plan step.who old.log ≡ true = subst (λ (n : ℕ). is_done old.plan n old.log ≡ true) who (done_by_plan a.0 old ended.0) in
    subst (λ (s : State). Fails old.plan step old.log s.log) (sym ended.1) (NoWork turn done)

-- and any other turn found that its actor had work left
pub turn_left : (a : ActorId) (old new : State) (turned : Turned) → old.crawl ≡ false → Turns a old turned new → is_ended turned ≡ false → is_done old.plan a.0 old.log ≡ false
turn_left a old new Moved plain h e = sym (plain_done a.0 old plain) ∙ h.left
turn_left a old new (Waits owner) plain h e = sym (plain_done a.0 old plain) ∙ h.left
turn_left a old new Ended plain h e = absurd (cc e)
turn_left a old new Full plain h e = sym (plain_done a.0 old plain) ∙ h.1
