-- The moment of a line: the next event, the actor, and its present task.
use Rattle.std.proofs.Common.{◌≡◌, ◌↔◌, ◌∙◌, ℕ, ◌+◌, ◌-◌, ◌<◌, ◌≤◌, ◌&&◌, ◌||◌, Bool, true, false, ◌⊎◌, inl, inr, List, [], Option, Some, None, length, slice_get, refl, sym, ap, subst, arith}
use Rattle.std.specs.Prelude.{nat_le}
use Rattle.std.proofs.lemmas.Bool.{and_parts, le-leb, leb-true, or_cases}
use Rattle.std.proofs.lemmas.List.{get_or_past}
use Rattle.std.proofs.lemmas.Option.{same_Some}
use Rattle.std.proofs.Math.Bool.{or-true}
use Rattle.afr_base.specs.declared.ids.ActorId.{ActorId}
use Rattle.afr_base.specs.declared.ids.BrickId.{BrickId}
use Rattle.afr_base.specs.declared.ids.NameId.{NameId}
use Rattle.afr_lines.specs.Work.{Work, ended, events_made, work}
use Rattle.afr_lines.specs.declared.line.Event.{Event}
use Rattle.afr_lines.specs.declared.line.Event.TheVariants.{Cut, Join}
use Rattle.afr_lines.specs.declared.line.Line.{Line}
use Rattle.afr_model.specs.Actors.{Client, Healer, IsActor, rounds_of, script_of}
use Rattle.afr_model.specs.Commands.{path_of}
use Rattle.afr_model.specs.Following.{IsNextEvent, NoneDue}
use Rattle.afr_model.specs.Keeping.{KeepsTo}
use Rattle.afr_plan.specs.declared.command.Command.{Command}
use Rattle.afr_plan.specs.declared.command.Command.TheVariants.{Rename}
use Rattle.afr_plan.specs.declared.plan.Plan.{Plan}
use Rattle.afr_plan.specs.declared.schedule.PlannedEvent.{PlannedEvent}
use Rattle.afr_trace_follow.specs.Commands.{new_path}
use Rattle.afr_trace_follow.specs.Asked.{AsksThere}
use Rattle.afr_trace_follow.specs.Following.{GoesSome, HasFewActors, KeepsToSome, is_actor}
use Rattle.afr_trace_follow.specs.Planned.{CarriesOut, GoesWith, IsOfTask, OfCommand, OfRound, is_heal_line}
use Rattle.afr_trace_follow.specs.Renaming.{KeepsToPaths}

-- ---- lines
-- a test of a line is one of the same line
pub moved : (P Q : Line → Type 0) (line same : Line) (r : Bool) → line ≡ same → (P same → Q same) × (Q same → P same) → ((r ≡ true) ↔ P line) → ((r ≡ true) ↔ Q line)
moved P Q line same r e h k =
    let there : (r ≡ true) ↔ P same = subst (λ (l : Line). (r ≡ true) ↔ P l) e k in
    subst (λ (l : Line). (r ≡ true) ↔ Q l) (sym e) (λ yes. h.0 (there.0 yes), λ q. there.1 (h.1 q))

-- ---- events
pub next_event : (p : Plan) (event : Event) (older : List Line) (x : PlannedEvent) (len : ℕ) → Some x ≡ slice_get p.events (events_made older) → len ≡ length older
    → ((x.event ≡ event) × (x.at ≤ len) → IsNextEvent p event older) × (IsNextEvent p event older → (x.event ≡ event) × (x.at ≤ len))
next_event p event older x len e n = (
  λ k. record { planned = x; next = sym e; same = k.0; due = subst (λ (m : ℕ). x.at ≤ m) n k.1 },
  λ k.
      let is : k.planned ≡ x = same_Some k.planned x (sym k.next ∙ sym e) in
      (ap (λ (y : PlannedEvent). y.event) (sym is) ∙ k.same, subst (λ (m : ℕ). x.at ≤ m) (sym n) (subst (λ (y : PlannedEvent). y.at ≤ length older) is k.due)),
)

pub no_event : (p : Plan) (event : Event) (older : List Line) → None ≡ slice_get p.events (events_made older) → IsNextEvent p event older → ⊥
no_event p event older e k =
    let no : None ≡ Some k.planned = e ∙ k.next in
    absurd (cc no)

pub later_event : (p : Plan) (older : List Line) (x : PlannedEvent) (len : ℕ) → Some x ≡ slice_get p.events (events_made older) → len ≡ length older → (len < x.at → NoneDue p older) × (NoneDue p older → len < x.at)
later_event p older x len e n = (
  λ k y h. subst (λ (m : ℕ). m < y.at) n (subst (λ (z : PlannedEvent). len < z.at) (same_Some x y (e ∙ h)) k),
  λ k. subst (λ (m : ℕ). m < x.at) (sym n) (k x (sym e)),
)

pub none_later : (p : Plan) (older : List Line) → None ≡ slice_get p.events (events_made older) → NoneDue p older
none_later p older e x h =
    let no : None ≡ Some x = e ∙ h in
    absurd (cc no)

-- the same link
pub same_cut : (a x : ActorId) (b y : BrickId) → ((x ≡ a) × (y ≡ b) → Cut a b ≡ Cut x y) × (Cut a b ≡ Cut x y → (x ≡ a) × (y ≡ b))
same_cut a x b y = (λ k. rw (k.0, k.1) refl, λ e. (cc, cc))

pub same_join : (a x : ActorId) (b y : BrickId) → ((x ≡ a) × (y ≡ b) → Join a b ≡ Join x y) × (Join a b ≡ Join x y → (x ≡ a) × (y ≡ b))
same_join a x b y = (λ k. rw (k.0, k.1) refl, λ e. (cc, cc))

-- ---- actors
pub actor_is : (p : Plan) (a : ℕ) → is_actor p a ≡ true → IsActor p a
actor_is p a h = by (or_cases (nat_le 1 a && nat_le a (length p.clients)) (nat_le 17 a && nat_le a (16 + length p.healers)) h)
  where
    by : ((nat_le 1 a && nat_le a (length p.clients)) ≡ true) ⊎ ((nat_le 17 a && nat_le a (16 + length p.healers)) ≡ true) → IsActor p a
    by (inl e) =
        let s = and_parts (nat_le 1 a) (nat_le a (length p.clients)) e in
        Client (leb-true 1 a s.0) (leb-true a (length p.clients) s.1)
    by (inr e) =
        let s = and_parts (nat_le 17 a) (nat_le a (16 + length p.healers)) e in
        Healer (leb-true 17 a s.0) (leb-true a (16 + length p.healers) s.1)

pub is_the_actor : (p : Plan) (a : ℕ) → IsActor p a → is_actor p a ≡ true
is_the_actor p a (Client low high) = rw (le-leb 1 a low, le-leb a (length p.clients) high) refl
is_the_actor p a (Healer low high) = rw (le-leb 17 a low, le-leb a (16 + length p.healers) high) (or-true (nat_le 1 a && nat_le a (length p.clients)))

-- they are few
pub few_actors : (p : Plan) (a : ℕ) → HasFewActors p → IsActor p a → a < 20
few_actors p a few (Client low high) = omega (arith, high, few.clients)
few_actors p a few (Healer low high) = omega (arith, high, few.healers)

-- ---- tasks
no_script : (p : Plan) (a n : ℕ) (c : Command) → length p.clients ≤ 16 → 17 ≤ a → slice_get (script_of p a) n ≡ Some c → ⊥
no_script p a n c few low h =
    let none : script_of p a ≡ [] = get_or_past p.clients (a - 1) [] (omega (arith, few, low)) in
    let no : None ≡ Some c = sym (ap (λ (s : List Command). slice_get s n) none) ∙ h in
    absurd (cc no)

-- a client's line keeps to its task where it keeps to its command
pub client_task : (p : Plan) (a : ℕ) (line : Line) (older : List Line) (o : Option Command) (len : ℕ) → a < 17 → o ≡ slice_get (script_of p a) (ended a older) → len ≡ length older
    → (KeepsToSome p o line len (work a older) → IsOfTask p a line older) × (IsOfTask p a line older → KeepsToSome p o line len (work a older))
client_task p a line older o len low e n = (λ k. go o e (subst (λ (m : ℕ). KeepsToSome p o line m (work a older)) n k), back)
  where
    go : (o : Option Command) → o ≡ slice_get (script_of p a) (ended a older) → KeepsToSome p o line (length older) (work a older) → IsOfTask p a line older
    go None e k = absurd k
    go (Some c) e k = OfCommand c (sym e) k

    back : IsOfTask p a line older → KeepsToSome p o line len (work a older)
    back (OfCommand c h k) = subst (λ (x : Option Command). KeepsToSome p x line len (work a older)) (sym (e ∙ h)) (subst (λ (m : ℕ). GoesWith p c line m (work a older)) (sym n) k)
    back (OfRound high b h k) = absurd (omega (arith, low, high))

-- a healer's line does where it keeps to its round
pub healer_task : (p : Plan) (a : ℕ) (line : Line) (older : List Line) (o : Option BrickId) → length p.clients ≤ 16 → 17 ≤ a → o ≡ slice_get (rounds_of p a) (ended a older)
    → (GoesSome p o line (work a older) → IsOfTask p a line older) × (IsOfTask p a line older → GoesSome p o line (work a older))
healer_task p a line older o few low e = (λ k. go o e k, back)
  where
    go : (o : Option BrickId) → o ≡ slice_get (rounds_of p a) (ended a older) → GoesSome p o line (work a older) → IsOfTask p a line older
    go None e k = absurd k
    go (Some b) e k = OfRound low b (sym e) k

    back : IsOfTask p a line older → GoesSome p o line (work a older)
    back (OfCommand c h k) = absurd (no_script p a (ended a older) c few low h)
    back (OfRound high b h k) = subst (λ (x : Option BrickId). GoesSome p x line (work a older)) (sym (e ∙ h)) k

-- a line that is of no heal goes with a command where it carries it out
pub with_command : (line : Line) (P : Type 0) → is_heal_line line ≡ false → (P → (is_heal_line line ≡ true) ⊎ P) × ((is_heal_line line ≡ true) ⊎ P → P)
with_command line P e = (λ k. inr k, back)
  where
    back : (is_heal_line line ≡ true) ⊎ P → P
    back (inl h) = absurd (cc (sym e ∙ h))
    back (inr k) = k

-- a command with a second path is a rename
pub two_paths : (p : Plan) (c : Command) (line : Line) (at : ℕ) (w : Work) (to : List NameId) → Some to ≡ new_path c
    → (KeepsToPaths p (path_of c) to line w → CarriesOut p c line at w) × (CarriesOut p c line at w → KeepsToPaths p (path_of c) to line w)
two_paths p (Rename from other) line at w to e =
    let same : to ≡ other = same_Some to other e in
    (λ k. subst (λ (l : List NameId). KeepsToPaths p from l line w) same k, λ k. subst (λ (l : List NameId). KeepsToPaths p from l line w) (sym same) k)
two_paths p c line at w to e = absurd (cc e)

pub one_path : (p : Plan) (c : Command) (line : Line) (at : ℕ) (w : Work) → None ≡ new_path c → (KeepsTo p c line at w × AsksThere p line w → CarriesOut p c line at w) × (CarriesOut p c line at w → KeepsTo p c line at w × AsksThere p line w)
one_path p (Rename from to) line at w e = absurd (cc e)
one_path p c line at w e = (λ k. k, λ k. k)

-- the same two paths
pub same_paths : (p : Plan) (line : Line) (w : Work) (r : Bool) (one from other to : List NameId) → one ≡ from → other ≡ to → ((r ≡ true) ↔ KeepsToPaths p one other line w) → ((r ≡ true) ↔ KeepsToPaths p from to line w)
same_paths p line w r one from other to hf ht k =
    subst (λ (l : List NameId). (r ≡ true) ↔ KeepsToPaths p from l line w) ht (subst (λ (l : List NameId). (r ≡ true) ↔ KeepsToPaths p l other line w) hf k)
