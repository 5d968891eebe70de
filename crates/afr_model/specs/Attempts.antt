-- Attempts, which of them are acknowledged, and which values are no older than those.
use Rattle.std.specs.Prelude.{◌≡◌, ℕ, ◌≤◌, nat_lt, Bool, true, false, List, [], ◌∷◌, Option, Some, None, length, if◌then◌else◌}
use Rattle.afr_base.specs.declared.ids.ActorId.{ActorId}
use Rattle.afr_object.specs.declared.change.Change.{Change}
use Rattle.afr_lines.specs.Log.{from_oldest, change_at}
use Rattle.afr_lines.specs.Work.{reply_by}
use Rattle.afr_lines.specs.declared.line.Line.{Line}
use Rattle.afr_lines.specs.declared.line.Line.TheVariants.{Begin}
use Rattle.afr_lines.specs.declared.reply.Good.{Good}
use Rattle.afr_lines.specs.declared.reply.Reply.{Reply}
use Rattle.afr_lines.specs.declared.reply.Reply.TheVariants.{Ok}
use Rattle.afr_plan.specs.declared.plan.Plan.{Plan}
use Rattle.afr_model.specs.Cells.{Cell, value_of, touches, leaves}

-- the older of two replies, where there is one
abbrev pub earlier : Option Reply → Option Reply → Option Reply
earlier None later = later
earlier (Some reply) later = Some reply

-- the reply of an actor's first End line after position q
abbrev pub first_reply : ℕ → ℕ → List Line → Option Reply
first_reply a q [] = None
first_reply a q (line ∷ older) = if nat_lt q (length older) then earlier (first_reply a q older) (reply_by a line) else None

-- the attempt that begins at position q is acknowledged: its actor's first End line after it says ok
pub record IsAcknowledged (log : List Line) (q : ℕ) : Type 0 where
  pub actor : ActorId
  pub change : Change
  pub begun : from_oldest q log ≡ Some (Begin actor change)
  pub good : Good
  pub replied : first_reply actor.0 q log ≡ Some (Ok good)

-- whether an attempt touches a cell
abbrev pub touches_if : Option Change → Cell → Bool
touches_if None cell = false
touches_if (Some change) cell = touches change cell

-- every attempt on the cell that is acknowledged in this log is at most q
abbrev pub NoneAfter : List Line → Cell → ℕ → Type 0
NoneAfter log cell q = (k : ℕ) → IsAcknowledged log k → touches_if (change_at k log) cell ≡ true → k ≤ q

-- no attempt on the cell is acknowledged in this log
abbrev pub NoneAtAll : List Line → Cell → Type 0
NoneAtAll log cell = (k : ℕ) → IsAcknowledged log k → touches_if (change_at k log) cell ≡ true → ⊥

-- what brick b has in a cell was left by an attempt that is no older than those acknowledged in an earlier log; where there was none, the opening value will do
pub data IsNoOlder (p : Plan) (log earlier_log : List Line) (b : ℕ) (cell : Cell) : Type 0 where
  Opening : value_of p log b cell ≡ value_of p [] b cell → NoneAtAll earlier_log cell → IsNoOlder p log earlier_log b cell
  Left : (q : ℕ) (change : Change) → change_at q log ≡ Some change → touches change cell ≡ true → value_of p log b cell ≡ leaves change cell → NoneAfter earlier_log cell q → IsNoOlder p log earlier_log b cell

-- the value at brick b is left by the last acknowledged attempt on the cell, or by a later attempt
abbrev pub IsCurrent : Plan → List Line → ℕ → Cell → Type 0
IsCurrent p log b cell = IsNoOlder p log log b cell
