-- The plans that the volume can run: three or five bricks, at most 16 clients and 3 healers, faults, events and orders.
use Rattle.std.specs.Prelude.{◌≡◌, ◌⊎◌, ℕ, ◌+◌, ◌&&◌, ◌≤◌, ◌<◌, ◌^◌, List, length, Bool, true, false}
use Rattle.std.specs.List.{All}
use Rattle.afr_base.specs.declared.ids.BrickId.{BrickId}
use Rattle.afr_base.specs.declared.ids.Shape.{Shape}
use Rattle.afr_lines.specs.declared.line.Event.{Event}
use Rattle.afr_lines.specs.declared.line.Event.TheVariants as event
use Rattle.afr_plan.specs.declared.command.Command.{Command}
use Rattle.afr_plan.specs.declared.command.Command.TheVariants.{Create, Mkdir, Unlink, Rmdir, Rename}
use Rattle.afr_plan.specs.declared.plan.Plan.{Plan}
use Rattle.afr_plan.specs.OnNames.{has_name}

-- three bricks, of which the last may be an arbiter, or five that all keep bytes
abbrev pub IsRunnableShape : Shape → Type 0
IsRunnableShape shape = (shape.n ≡ 3) ⊎ ((shape.n ≡ 5) × (shape.arbiter ≡ false))

-- a command that makes a name or removes one says which; a rename says both
abbrev pub has_its_name : Command → Bool
has_its_name (Create path) = has_name path
has_its_name (Mkdir path) = has_name path
has_its_name (Unlink path) = has_name path
has_its_name (Rmdir path) = has_name path
has_its_name (Rename from to) = has_name from && has_name to
has_its_name command = true

-- a script of at most 16,384 commands, each of which has the name that it needs
pub record IsRunnableScript (script : List Command) : Type 0 where
  pub few : length script ≤ 16384
  pub commands : All (λ command. has_its_name command ≡ true) script

-- rounds over bricks of the volume
abbrev pub AreRunnableRounds : ℕ → List BrickId → Type 0
AreRunnableRounds n rounds = All (λ brick. brick.0 < n) rounds

-- the actor is one of so many clients, or one of so many healers
abbrev pub IsOneOf : ℕ → ℕ → ℕ → Type 0
IsOneOf clients healers a = ((1 ≤ a) × (a ≤ clients)) ⊎ ((17 ≤ a) × (a ≤ 16 + healers))

-- where the event names an actor, it is one of so many clients or healers; where it names a brick, it is one of so many bricks
abbrev pub IsAboutVolume : ℕ → ℕ → ℕ → Event → Type 0
IsAboutVolume n clients healers (event.Stop brick) = brick.0 < n
IsAboutVolume n clients healers (event.Start brick) = brick.0 < n
IsAboutVolume n clients healers (event.Cut actor brick) = IsOneOf clients healers actor.0 × (brick.0 < n)
IsAboutVolume n clients healers (event.Join actor brick) = IsOneOf clients healers actor.0 × (brick.0 < n)
IsAboutVolume n clients healers (event.Kill actor) = IsOneOf clients healers actor.0

-- what every plan is like that the volume can run; its faults are free
pub record IsRunnable (plan : Plan) : Type 0 where
  pub shape : IsRunnableShape plan.shape
  pub files : plan.files ≤ 1000
  pub gfids : 2 ^ 64 + plan.files < 2 ^ 128
  pub some_turns : 1 ≤ plan.turns
  pub turns : plan.turns ≤ 4000000
  pub clients : length plan.clients ≤ 16
  pub scripts : All IsRunnableScript plan.clients
  pub healers : length plan.healers ≤ 3
  pub rounds : All (AreRunnableRounds plan.shape.n) plan.healers
  pub events : All (λ planned. IsAboutVolume plan.shape.n (length plan.clients) (length plan.healers) planned.event) plan.events
  pub go : All (λ order. IsOneOf (length plan.clients) (length plan.healers) order.actor.0) plan.go
  pub names : plan.files ≤ length plan.words.names
