-- What a turn and the events before it have made of a volume.
use Rattle.std.specs.Prelude.{◌≡◌, ◌<◌, true, length}
use Rattle.afr_base.specs.declared.ids.ActorId.{ActorId}
use Rattle.afr_model.specs.Actors.{is_done}
use Rattle.afr_volume.specs.State.{State}
use Rattle.afr_volume.specs.declared.turned.Turned.{Turned}
use Rattle.afr_volume.specs.declared.turned.Turned.TheVariants.{Moved, Waits, Ended, Full}

-- the log has a line more; or the actor is done; or the log is full
abbrev pub TakesTurn : ActorId → State → Turned → State → Type 0
TakesTurn a old Moved new = length old.log < length new.log
TakesTurn a old (Waits owner) new = length old.log < length new.log
TakesTurn a old Ended new = is_done new.plan a.0 new.log ≡ true
TakesTurn a old Full new = length new.log ≡ new.plan.turns
