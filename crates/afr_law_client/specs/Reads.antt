-- Reads between the lookups and the Begin line, as of the last name of a path under its lock.
use Rattle.std.specs.Prelude.{◌≡◌, ℕ, ◌<◌, Bool, List, ◌∷◌, length}
use Rattle.afr_base.specs.declared.ids.ActorId.{ActorId}
use Rattle.afr_base.specs.declared.ids.BrickId.{BrickId}
use Rattle.afr_lines.specs.Work.{Work}
use Rattle.afr_lines.specs.declared.answer.Told.{Told}
use Rattle.afr_lines.specs.declared.line.Line.{Line}
use Rattle.afr_lines.specs.declared.line.Line.TheVariants.{Ask}
use Rattle.afr_lines.specs.declared.request.Request.{Request}
use Rattle.afr_lines.specs.declared.request.Request.TheVariants as request
use Rattle.afr_discipline.specs.Notes.{noted_ask}
use Rattle.afr_plan.specs.declared.plan.Plan.{Plan}
use Rattle.afr_client_transaction.specs.Progress.{TransactionProgress}
use Rattle.afr_client_transaction.specs.Sound.{Sound}
use Rattle.afr_client_transaction.specs.declared.stage.Stage.TheVariants.{Beginning}
use Rattle.afr_law_client.specs.Fits.{AreExcused, IsCalm}
use Rattle.afr_law_client.specs.Tells.{Tells}

-- a read of a name, names, bytes or an attribute
abbrev pub IsRead : Request → Type 0
IsRead (request.ReadName g name) = Unit {0}
IsRead (request.List g) = Unit {0}
IsRead (request.ReadBytes g from len) = Unit {0}
IsRead (request.ReadAttr g key) = Unit {0}
IsRead asked = ⊥

-- the transaction whose register has noted a request and its answer
abbrev pub noted_in : ℕ → BrickId → Request → Told → TransactionProgress → TransactionProgress
noted_in at b asked told m = record { change = m.change; register = noted_ask m.register at b.0 asked told; stage = m.stage; asked = m.asked }

-- what holds of a transaction and its lines goes on to hold
pub record HoldsStill (p : Plan) (w more : Work) (after : TransactionProgress) : Type 0 where
  pub sound : Sound after
  pub tells : Tells p more after
  pub excused : AreExcused w → AreExcused more
  pub calm : IsCalm w → IsCalm more

-- whatever is told at such a read
abbrev pub ReadsKept : Type 0
ReadsKept =
    (p : Plan) (w : Work) (m : TransactionProgress) (a : ActorId) (b : BrickId) (asked : Request) (told : Told) (took : Bool) (older : List Line) → b.0 < 5 → IsRead asked → m.stage ≡ Beginning → Sound m → Tells p w m
    → HoldsStill p w ((Ask a b asked told took, older) ∷ w) (noted_in (length older) b asked told m)
