-- A plan that is like each that a text spells is one that the volume can run.
use Rattle.std.proofs.Common.{◌≡◌, ◌∙◌, ◌⊎◌, ap, inl, inr, sym, None, Option, ℕ, ◌-◌, ◌<◌, ◌≤◌, true, List, [], refl, subst, length, Some, slice_get, get_or}
use Rattle.std.proofs.lemmas.List.Elements.{All-get_or}
use Rattle.std.proofs.lemmas.Option.{get_or_from_slice_get, slice_get_cases, slice_get_within, unwrap_or-slice_get}
use Rattle.std.specs.Option.{unwrap_or}
use Rattle.std.specs.List.{All}
use Rattle.afr_lines.specs.declared.line.Event.{Event}
use Rattle.afr_lines.specs.declared.line.Event.TheVariants.{Cut, Join, Kill, Start, Stop}
use Rattle.afr_model.specs.Actors.{Client, Healer, IsActor, rounds_of, script_of}
use Rattle.afr_base.specs.declared.ids.BrickId.{BrickId}
use Rattle.afr_law_runnable.proofs.SpelledLemmas.{few_bricks, some_bricks}
use Rattle.afr_law_runnable.specs.Runnable.{AreRunnableRounds, IsAboutVolume, IsOneOf, IsRunnable, IsRunnableScript, has_its_name}
use Rattle.afr_plan.specs.declared.command.Command.{Command}
use Rattle.afr_plan.specs.declared.command.Command.TheVariants as command
use Rattle.afr_plan.specs.declared.plan.Plan.{Plan}
use Rattle.afr_plan.specs.declared.schedule.Go.{Go}
use Rattle.afr_plan.specs.declared.schedule.PlannedEvent.{PlannedEvent}
use Rattle.afr_client.specs.Begin.{has_machine}
use Rattle.afr_volume.specs.Keeping.{CanRun, IsEventOf}

all_at : {A : Type 0} (P : A → Type 0) (xs : List A) (i : ℕ) (x : A) → All P xs → slice_get xs i ≡ Some x → P x
all_at P xs i x all is = subst P (get_or_from_slice_get xs i x x is) (All-get_or P xs i x (slice_get_within xs i x is) all)

-- what a client's script has is run
commands_at : (p : Plan) (a i : ℕ) (c : Command) → All IsRunnableScript p.clients → slice_get (script_of p a) i ≡ Some c → has_its_name c ≡ true
commands_at p a i c all is = by_script (slice_get_cases p.clients (a - 1)).1
  where
    script_there : (script : List Command) → slice_get p.clients (a - 1) ≡ Some script → script_of p a ≡ script
    script_there script own = get_or_from_slice_get p.clients (a - 1) script [] own

    script_past : slice_get p.clients (a - 1) ≡ None → script_of p a ≡ []
    script_past past = sym (unwrap_or-slice_get p.clients (a - 1) []) ∙ ap (λ (o : Option (List Command)). unwrap_or o []) past

    no_item : (i : ℕ) → slice_get [] i ≡ Some c → ⊥
    no_item i e = cc e

    by_script : ((script : List Command) × (a - 1 < length p.clients) × (slice_get p.clients (a - 1) ≡ Some script) × (get_or p.clients (a - 1) script ≡ script)) ⊎ ((length p.clients ≤ a - 1) × (slice_get p.clients (a - 1) ≡ None)) → has_its_name c ≡ true
    by_script (inl k) = all_at (λ (c : Command). has_its_name c ≡ true) k.0 i c (all_at IsRunnableScript p.clients (a - 1) k.0 all k.2).commands (rw (script_there k.0 k.2) at is)
    by_script (inr k) = absurd (no_item i (rw (script_past k.1) at is))

machine_for : (c : Command) → has_its_name c ≡ true → has_machine c ≡ true
machine_for (command.Write path at bytes) e = refl
machine_for (command.Cut path len) e = refl
machine_for (command.Read path at len) e = refl
machine_for (command.Create path) e = e
machine_for (command.Mkdir path) e = e
machine_for (command.Unlink path) e = e
machine_for (command.Rmdir path) e = e
machine_for (command.Ls path) e = refl
machine_for (command.Stat path) e = refl
machine_for (command.SetAttr path key value) e = refl
machine_for (command.GetAttr path key) e = refl
machine_for (command.Rename from to) e = e

-- each round of a healer is over a brick of the volume
rounds_at : (p : Plan) (a i : ℕ) (b : BrickId) → All (AreRunnableRounds p.shape.n) p.healers → slice_get (rounds_of p a) i ≡ Some b → b.0 < p.shape.n
rounds_at p a i b all is = by_rounds (slice_get_cases p.healers (a - 17)).1
  where
    there : (rounds : List BrickId) → slice_get p.healers (a - 17) ≡ Some rounds → rounds_of p a ≡ rounds
    there rounds own = get_or_from_slice_get p.healers (a - 17) rounds [] own

    past : slice_get p.healers (a - 17) ≡ None → rounds_of p a ≡ []
    past gone = sym (unwrap_or-slice_get p.healers (a - 17) []) ∙ ap (λ (o : Option (List BrickId)). unwrap_or o []) gone

    no_item : (i : ℕ) → slice_get [] i ≡ Some b → ⊥
    no_item i e = cc e

    by_rounds : ((rounds : List BrickId) × (a - 17 < length p.healers) × (slice_get p.healers (a - 17) ≡ Some rounds) × (get_or p.healers (a - 17) rounds ≡ rounds)) ⊎ ((length p.healers ≤ a - 17) × (slice_get p.healers (a - 17) ≡ None)) → b.0 < p.shape.n
    by_rounds (inl k) = all_at (λ (b : BrickId). b.0 < p.shape.n) k.0 i b (all_at (AreRunnableRounds p.shape.n) p.healers (a - 17) k.0 all k.2) (rw (there k.0 k.2) at is)
    by_rounds (inr k) = absurd (no_item i (rw (past k.1) at is))

-- one of so many clients or healers is an actor
actor_of : (p : Plan) (a : ℕ) → IsOneOf (length p.clients) (length p.healers) a → IsActor p a
actor_of p a (inl k) = Client k.0 k.1
actor_of p a (inr k) = Healer k.0 k.1

event_of : (p : Plan) (e : Event) → IsAboutVolume p.shape.n (length p.clients) (length p.healers) e → IsEventOf p e
event_of p (Stop b) k = k
event_of p (Start b) k = k
event_of p (Cut a b) k = actor_of p a.0 k.0
event_of p (Join a b) k = actor_of p a.0 k.0
event_of p (Kill a) k = actor_of p a.0 k

pub can_run : (p : Plan) → IsRunnable p → CanRun p
can_run p k = record {
  few = few_bricks p k;
  some = λ h. some_bricks p k;
  healed = λ h. some_bricks p k;
  turns = k.turns;
  clients = k.clients;
  healers = k.healers;
  rounds = λ a i b is. rounds_at p a i b k.rounds is;
  commands = λ a i c is. machine_for c (commands_at p a i c k.scripts is);
  events = λ i planned is. event_of p planned.event (all_at (λ (x : PlannedEvent). IsAboutVolume p.shape.n (length p.clients) (length p.healers) x.event) p.events i planned k.events is);
  orders = λ i go is. actor_of p go.actor.0 (all_at (λ (x : Go). IsOneOf (length p.clients) (length p.healers) x.actor.0) p.go i go k.go is);
}
