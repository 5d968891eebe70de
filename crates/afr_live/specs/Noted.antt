-- What is noted of those who were told that another holds their lock.
use Rattle.std.specs.Prelude.{◌≡◌, ◌⊎◌, ℕ, ◌<◌, ◌≤◌, nat_lt, Bool, true, false, List, [], ◌∷◌, length, slice_index_or, slice_set}
use Rattle.std.specs.Coded.{×_prop, Unit-prop}
use Rattle.std.proofs.Props.{props}
use Rattle.afr_base.specs.declared.ids.ActorId.{ActorId}
use Rattle.afr_crowd.specs.declared.held.Held.{Held}
use Rattle.afr_law_bound.specs.Ends.Law.{AreEager, is_back}
use Rattle.afr_lines.specs.declared.line.Line.{Line}
use Rattle.afr_model.specs.Actors.{is_done}
use Rattle.afr_plan.specs.declared.plan.Plan.{Plan}
use Rattle.afr_volume.specs.State.{State}
use Rattle.afr_volume.specs.declared.turned.Turned.{Turned}
use Rattle.afr_volume.specs.declared.turned.Turned.TheVariants.{Moved, Waits, Ended, Full}

-- how long the log was after the last line that told an actor so
abbrev pub told_at : Held → ℕ → ℕ
told_at held a = slice_index_or held.told a 0

-- whether an actor was told so since the last other line, by what is noted
abbrev pub is_noted : Held → ℕ → Bool
is_noted held a = nat_lt held.moved (told_at held a)

-- what is noted after a turn, which left the log so long
abbrev pub noted_after : Held → ActorId → Turned → ℕ → Held
noted_after held a Moved len = record held { moved = len }
noted_after held a (Waits owner) len = record held { told = slice_set held.told a.0 len }
noted_after held a Ended len = held
noted_after held a Full len = held

-- what is noted is what the log says
pub record AreNoted (log : List Line) (held : Held) : Type 0 where
  pub many : length held.told ≡ 20
  pub moved : held.moved ≤ length log
  pub told : (a : ℕ) → told_at held a ≤ length log
  pub since : (a : ℕ) → a < 20 → is_back a log ≡ is_noted held a

-- an actor may take a turn: it wasn't told so since the last other line, or the log takes no line more
abbrev pub MayTakeTurn : ℕ → Plan → List Line → Type 0
MayTakeTurn a p log = (is_back a log ≡ false) ⊎ (p.turns ≤ length log)

-- an actor is done, or was told so since the last other line
abbrev pub IsSettled : ℕ → State → Type 0
IsSettled a s = (is_done s.plan a s.log ≡ true) ⊎ (is_back a s.log ≡ true)

-- that nobody was told so twice running has one proof
pub AreEager-prop : (log : List Line) → IsProp (AreEager log)
AreEager-prop [] = Unit-prop
AreEager-prop (line ∷ older) = ×_prop (hlevel props) (AreEager-prop older)
