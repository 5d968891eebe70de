-- Nobody waits in a circle, as a law of lines by their positions.
use Rattle.std.specs.Prelude.{◌≡◌, ℕ, suc, ◌<◌, ◌≤◌, Bool, true, false, Option, Some}
use Rattle.afr_lines.specs.declared.fault.Fault.{Fault}
use Rattle.afr_lines.specs.declared.answer.Told.TheVariants.{Held}
use Rattle.afr_lines.specs.declared.request.Area.{Area}
use Rattle.afr_lines.specs.declared.request.Request.TheVariants.{Lock}
use Rattle.afr_base.specs.declared.ids.ActorId.{ActorId}
use Rattle.afr_base.specs.declared.ids.Kind.{Kind}
use Rattle.afr_model_moves.specs.Discipline.{MovesExactly, present}
use Rattle.afr_model_moves.specs.Honest.{Honest}
use Rattle.afr_model_moves.specs.Lines.{ask_by}
use Rattle.afr_model_moves.specs.Past.{Beginning, Log, is_of, joined}
use Rattle.afr_model_moves.specs.Steps.{may_heal}
use Rattle.afr_lines.specs.declared.lock.Domain.TheVariants.{Work}
use Rattle.afr_law_bound.specs.Waiting.{IsStill, RisesTo, Waits}

-- what is so of an honest log of moves that the discipline allows
pub record IsFair (n : ℕ) (files : Beginning) (faults : ℕ → ℕ → Option Fault) (log : Log) : Type 0 where
  pub few : n ≤ 8
  pub honest : Honest files faults log
  pub moves : MovesExactly n files.keeps log

-- a heal asks each Work lock above all that it holds
abbrev pub HealsRise : Type 0
HealsRise =
    (n : ℕ) (files : Beginning) (faults : ℕ → ℕ → Option Fault) (log : Log) → IsFair n files faults log → (t a b source : ℕ) (area : Area) → (present n files.keeps log t a).law.heal ≡ true
    → may_heal n files.keeps (present n files.keeps log t a) source b (Lock Work area) ≡ true → RisesTo n (present n files.keeps log t a).law b area

-- who asked for a Work lock above all that it holds, and was told that another holds it, waits for one that has a session
abbrev pub ToldWaits : Type 0
ToldWaits =
    (n : ℕ) (files : Beginning) (faults : ℕ → ℕ → Option Fault) (log : Log) → IsFair n files faults log → (t a b : ℕ) (area : Area) (owner : ActorId) (took : Bool) → log t ≡ Some (ask_by a b (Lock Work area) (Held owner) took)
    → RisesTo n (present n files.keeps log t a).law b area → (w : Waits n files.keeps log (suc t) a) × (joined log t w.owner w.b ≡ true) × (w.owner ≡ a → ⊥)

-- it goes on waiting for the same one while lines of others tell of nothing done
abbrev pub GoesOnWaiting : Type 0
GoesOnWaiting =
    (n : ℕ) (files : Beginning) (faults : ℕ → ℕ → Option Fault) (log : Log) → IsFair n files faults log → (t a : ℕ) → IsStill (log t) → is_of a (log t) ≡ false
    → (w : Waits n files.keeps log t a) → (v : Waits n files.keeps log (suc t) a) × (v.owner ≡ w.owner)

-- an actor waits for one of those below k that pass a test
pub record WaitsAmong (n : ℕ) (keeps : ℕ → Kind → Bool) (log : Log) (t k : ℕ) (test : ℕ → Bool) (a : ℕ) : Type 0 where
  pub waits : Waits n keeps log t a
  pub below : waits.owner < k
  pub among : test waits.owner ≡ true

-- of actors below k, of whom each waits for one of them, there is none
abbrev pub NobodyWaits : Type 0
NobodyWaits =
    (n : ℕ) (files : Beginning) (faults : ℕ → ℕ → Option Fault) (log : Log) → IsFair n files faults log → (t k : ℕ) (test : ℕ → Bool) → ((a : ℕ) → a < k → test a ≡ true → WaitsAmong n files.keeps log t k test a)
    → (a : ℕ) → a < k → test a ≡ true → ⊥
