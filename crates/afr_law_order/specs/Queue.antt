-- Of two bricks where the name is locked, the lower one was asked first for the lock of the directory.
use Rattle.std.specs.Prelude.{◌≡◌, ℕ, ◌<◌, true, List, [], Some}
use Rattle.afr_base.specs.Bricks.{lowest, member}
use Rattle.afr_base.specs.declared.ids.BrickId.{BrickId}
use Rattle.afr_base.specs.declared.ids.Gfid.{Gfid}
use Rattle.afr_discipline.specs.Notes.{noted_ask}
use Rattle.afr_discipline.specs.declared.register.Register.{Register}
use Rattle.afr_lines.specs.declared.answer.Answer.{Answer}
use Rattle.afr_lines.specs.declared.answer.Told.{Told}
use Rattle.afr_lines.specs.declared.request.Request.{Request}
use Rattle.afr_object.specs.declared.change.Change.{Change}
use Rattle.afr_law_pace.proofs.Order.{Rises}
use Rattle.afr_client_entry.specs.Removals.Removal.{Removing, answered, left, removing, whole}
use Rattle.afr_client_entry.specs.Removals.Sound.{IsAsking, Sound}
use Rattle.afr_client_entry.specs.declared.removing.stage.RemovalStage.TheVariants.{Locking}
use Rattle.afr_client_entry.specs.declared.removing.stage.RemovalStage.{RemovalStage}

-- while the locks are asked: the bricks of the name's lock rise, each lower one of them was asked before, and who holds the directory's lock was asked
pub record Queue (held second asked : List ℕ) : Type 0 where
  pub row : Rises held
  pub order : (c x : ℕ) → member asked c ≡ true → x < c → member held x ≡ true → member asked x ≡ true
  pub among : (c : ℕ) → member second c ≡ true → member asked c ≡ true

abbrev pub IsQueued : RemovalStage → Removing → Type 0
IsQueued Locking m = Queue m.register.held m.register.second_held m.child.lock_asked
IsQueued stage m = Unit {0}

-- a request and its answer leave the bricks where a Work lock is held in rising order
abbrev pub KeepsRow : Type 0
KeepsRow = (r : Register) (at b : ℕ) (request : Request) (told : Told) → Rises r.held → Rises (noted_ask r at b request told).held

-- a removal that begins has asked for no lock of the directory
abbrev pub StartsQueued : Type 0
StartsQueued = (change : Change) (r : Register) (g : Gfid) → Rises r.held → r.second_held ≡ [] → IsQueued (removing change r g).stage (removing change r g)

-- each answer keeps the order
abbrev pub StaysQueued : Type 0
StaysQueued = (m : Removing) → Sound m → IsAsking m.stage m → IsQueued m.stage m → (chosen : BrickId) (a : Answer) (at : ℕ) → IsQueued (answered chosen m.stage a at m).stage (answered chosen m.stage a at m)

-- so the lock that is asked for next is on a higher brick than each that is held of the directory
abbrev pub AsksAbove : Type 0
AsksAbove = (m : Removing) → Sound m → IsAsking m.stage m → IsQueued m.stage m → m.stage ≡ Locking → (c : ℕ) → member m.register.second_held c ≡ true → (m.register.second ≡ Some (whole m.child)) × (c < lowest (left Locking m))
