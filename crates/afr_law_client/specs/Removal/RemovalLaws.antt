-- What holds of each removal and the lines of its work.
use Rattle.std.specs.Prelude.{◌≡◌, ℕ, Bool, false, List, ◌∷◌, length}
use Rattle.afr_base.specs.Bricks.{member}
use Rattle.afr_base.specs.declared.ids.ActorId.{ActorId}
use Rattle.afr_base.specs.declared.ids.BrickId.{BrickId}
use Rattle.afr_base.specs.declared.ids.Gfid.{Gfid}
use Rattle.afr_base.specs.declared.ids.NameId.{NameId}
use Rattle.afr_lines.specs.Areas.{area_for}
use Rattle.afr_lines.specs.Told.{told_by}
use Rattle.afr_lines.specs.Work.{Work}
use Rattle.afr_lines.specs.declared.answer.Answer.{Answer}
use Rattle.afr_lines.specs.declared.answer.Told.{Told}
use Rattle.afr_lines.specs.declared.line.Line.{Line}
use Rattle.afr_lines.specs.declared.line.Line.TheVariants.{Ask, Begin}
use Rattle.afr_lines.specs.declared.line.Next.TheVariants as next
use Rattle.afr_lines.specs.declared.reply.Reply.{Reply}
use Rattle.afr_lines.specs.declared.request.Request.{Request}
use Rattle.afr_object.specs.Tables.{object_of}
use Rattle.afr_object.specs.declared.change.Change.{Change}
use Rattle.afr_plan.specs.declared.command.Command.TheVariants as command
use Rattle.afr_plan.specs.declared.plan.Plan.{Plan}
use Rattle.afr_model.specs.Answered.{IsAbout, IsAnswered}
use Rattle.afr_model.specs.Keeping.{KeepsTo}
use Rattle.afr_model.specs.Showing.{NotAsked, among, has, reading_by, refuses_read}
use Rattle.afr_model.specs.Standing.{asks_name, holding, up_to}
use Rattle.afr_client_entry.specs.Removals.Removal.{Removing, answered, begun, next_at, removing}
use Rattle.afr_client_entry.specs.Removals.Sound.{Sound, IsRemoval}
use Rattle.afr_client_transaction.specs.Progress.{TransactionProgress}
use Rattle.afr_client_transaction.specs.Sound as changing
use Rattle.afr_client_transaction.specs.declared.stage.Stage.TheVariants.{Beginning}
use Rattle.afr_law_client.specs.About.{BlamesNext}
use Rattle.afr_law_client.specs.Fits.{AreExcused, IsCalm}
use Rattle.afr_law_client.specs.Laws.{IsNextLine}
use Rattle.afr_law_client.specs.Tells.{Tells}
use Rattle.afr_law_client.specs.Removal.RemovalTelling.{CanHear, HasLed, IsOfPath, RemovalTells, releases}

-- a transaction stands before its Begin line, and the last line has read its name, which leads to a directory
pub record IsFound (p : Plan) (path : List NameId) (child : Gfid) (t : TransactionProgress) (w : Work) : Type 0 where
  pub stage : t.stage ≡ Beginning
  pub removes : IsRemoval t.change
  pub tells : Tells p w t
  pub excused : AreExcused w
  pub calm : IsCalm w
  pub words : IsOfPath path t.change child
  pub led : HasLed p path (object_of t.change) child w
  pub unrefused : has refuses_read w ≡ false
  pub unread : reading_by p w ≡ NotAsked
  pub held : (b : ℕ) → member t.register.held b ≡ member (among (holding (area_for t.change)) w) b
  pub kept : has releases w ≡ false
  pub just_read : up_to asks_name w ≡ w

-- so its removal begins
abbrev pub RemovalBegins : Type 0
RemovalBegins = (p : Plan) (path : List NameId) (child : Gfid) (t : TransactionProgress) (w : Work) → changing.Sound t → IsFound p path child t w → RemovalTells p path (removing t.change t.register child) w

-- after one line more, whatever was told, and whichever copy of the child is listed then, the lines show where the removal stands then
abbrev pub RemovalTellsMore : Type 0
RemovalTellsMore =
    (p : Plan) (path : List NameId) (m : Removing) (w : Work) (a : ActorId) (b : BrickId) (request : Request) (chosen : BrickId) (heard : Answer) (took : Bool) (log : List Line)
    → Sound m → RemovalTells p path m w → next_at m.stage m ≡ next.Ask b request → CanHear m.stage p b.0 request log heard
    → RemovalTells p path (answered chosen m.stage heard (length log) m) ((Ask a b request (told_by heard) took, log) ∷ w)

-- and so after the Begin line
abbrev pub RemovalBegun : Type 0
RemovalBegun =
    (p : Plan) (path : List NameId) (m : Removing) (w : Work) (a : ActorId) (change : Change) (log : List Line) → Sound m → RemovalTells p path m w → next_at m.stage m ≡ next.Begin change
    → RemovalTells p path (begun (length log) m) ((Begin a change, log) ∷ w)

-- the next line is about what the command's words name, and keeps to them
abbrev pub RemovalAbout : Type 0
RemovalAbout =
    (p : Plan) (path : List NameId) (m : Removing) (w : Work) (a : ActorId) (told : Told) (line : Line) (log : List Line) → Sound m → RemovalTells p path m w → IsNextLine a (next_at m.stage m) told line
    → IsAbout p (command.Rmdir path) line w × KeepsTo p (command.Rmdir path) line (length log) w

-- each post-op accuses exactly those that missed the operation, with the cause
abbrev pub RemovalBlames : Type 0
RemovalBlames = (p : Plan) (path : List NameId) (m : Removing) (w : Work) → Sound m → RemovalTells p path m w → BlamesNext p w (next_at m.stage m)

-- the reply has its cause, a failure was told by a brick, an undisturbed change is acknowledged, and nothing was skipped
abbrev pub RemovalEnds : Type 0
RemovalEnds = (p : Plan) (path : List NameId) (m : Removing) (w : Work) (said : Reply) → RemovalTells p path m w → next_at m.stage m ≡ next.End said → IsAnswered p (command.Rmdir path) w said
