-- A client's work asks for each lock above all that it holds: of a greater object, or of the same one on a higher brick.
use Rattle.std.specs.Prelude.{◌≡◌, ℕ, ◌<◌, true, Some}
use Rattle.afr_base.specs.Bricks.{member}
use Rattle.afr_base.specs.declared.ids.BrickId.{BrickId}
use Rattle.afr_discipline.specs.declared.register.Register.{Register}
use Rattle.afr_client_entry.specs.declared.stage.EntryStage.TheVariants as entering
use Rattle.afr_client_entry.specs.declared.stage.EntryStage.{EntryStage}
use Rattle.afr_lines.specs.declared.line.Next.TheVariants as next
use Rattle.afr_lines.specs.declared.request.Area.{Area}
use Rattle.afr_lines.specs.declared.request.Request.TheVariants.{Lock}
use Rattle.afr_model_moves.specs.Rules.{area_object}
use Rattle.afr_object.specs.Tables.{object_of}
use Rattle.afr_lines.specs.declared.lock.Domain.TheVariants.{Work as WorkDomain}
use Rattle.afr_law_bound.specs.Waiting.{IsBelow}
use Rattle.afr_law_order.specs.Work.Queue.{IsQueued}
use Rattle.afr_client.specs.Work.{IsWork, next_of, register_of}
use Rattle.afr_client.specs.declared.work.WorkMachine.TheVariants.{Entry}
use Rattle.afr_client.specs.declared.work.WorkMachine.{WorkMachine}

-- by the discipline's register a Work lock of this area is held at a brick
pub data Locks (r : Register) (c : ℕ) (area : Area) : Type 0 where
  First : r.area ≡ Some area → member r.held c ≡ true → Locks r c area
  Second : r.second ≡ Some area → member r.second_held c ≡ true → Locks r c area

-- a removal: the directory of the name has a lesser number than the one that is removed with it
abbrev pub LeadsDownAt : EntryStage → Type 0
LeadsDownAt (entering.Removes m) = (object_of m.change).0 < m.child.gfid.0
LeadsDownAt stage = Unit {0}

-- the same of any work
abbrev pub LeadsDown : WorkMachine → Type 0
LeadsDown (Entry m) = LeadsDownAt m.stage
LeadsDown work = Unit {0}

-- a Work lock is asked above each that the work holds
abbrev pub WorkAsksAbove : Type 0
WorkAsksAbove =
    (w : WorkMachine) → IsWork w → IsQueued w → LeadsDown w → (at : ℕ) (b : BrickId) (area : Area) → next_of at w ≡ next.Ask b (Lock WorkDomain area)
    → (c : ℕ) (mine : Area) → Locks (register_of w) c mine → IsBelow (area_object mine) c (area_object area) b.0
