-- What a heal hears, where answers are honest and moves are lawful.
use Rattle.std.specs.Prelude.{◌≡◌, ℕ, ◌<◌, ◌≤◌, Bool, true, List, [], ◌∷◌, None, length}
use Rattle.afr_base.specs.declared.ids.ActorId.{ActorId}
use Rattle.afr_base.specs.declared.ids.BrickId.{BrickId}
use Rattle.afr_base.specs.declared.ids.Gfid.{Gfid}
use Rattle.afr_base.specs.declared.ids.What.{What}
use Rattle.afr_heal.specs.Engine.{Ask}
use Rattle.afr_law_heal.specs.HealLaws.{IsWholeTold}
use Rattle.afr_law_heal.specs.HealTelling.{HealTells}
use Rattle.afr_law.specs.Exactly.{IsLawfulExactly}
use Rattle.afr_law.specs.ModelNext.{MayAskNext}
use Rattle.afr_lines.specs.Told.{told_by}
use Rattle.afr_lines.specs.Work.{work}
use Rattle.afr_lines.specs.declared.answer.Answer.{Answer}
use Rattle.afr_lines.specs.declared.answer.Answer.TheVariants as answer
use Rattle.afr_lines.specs.declared.answer.Told.TheVariants.{Given}
use Rattle.afr_lines.specs.declared.line.Line.{Line}
use Rattle.afr_lines.specs.declared.line.Line.TheVariants.{Ask as AskLine}
use Rattle.afr_lines.specs.declared.request.Request.{Request}
use Rattle.afr_lines.specs.declared.request.Request.TheVariants.{Index}
use Rattle.afr_model.specs.Healing.{heal_by}
use Rattle.afr_model.specs.Honest.{Honest, IsHonest, answer_by}
use Rattle.afr_model.specs.Rounds.{listed_by}
use Rattle.afr_model.specs.Showing.{is_fault}
use Rattle.afr_model.specs.Tables.{holds}
use Rattle.afr_plan.specs.declared.plan.Plan.{Plan}
use Rattle.afr_heal_machine.specs.Healing.{CanHear, Healing, IsHealing, coming}

-- after an honest log that keeps the discipline in full the request may be asked next, and this is its honest answer: what a read is given is what the brick's tables show
pub record IsHeardInHeal (p : Plan) (log : List Line) (a : ActorId) (b : BrickId) (request : Request) (heard : Answer) (took : Bool) : Type 0 where
  pub honest : Honest p log
  pub lawful : IsLawfulExactly p log
  pub short : length log < 4000000
  pub few : p.shape.n ≤ 5
  pub may : MayAskNext p a b request log
  pub said : IsHonest p (AskLine a b request (told_by heard) took) log
  pub full : told_by heard ≡ Given → heard ≡ answer_by None request (holds p log b.0) log

-- a heal hears what a brick may answer it, with a number for each of five bricks in each view
abbrev pub HealHears : Type 0
HealHears =
    (p : Plan) (m : Healing) (log : List Line) (a : ActorId) (b : ℕ) (request : Request) (heard : Answer) (took : Bool)
    → IsHealing m → m.register.shape ≡ p.shape → HealTells m.register m.source.0 m.gfid m.kind m.outcome (heal_by (work a.0 log)) → coming m ≡ Ask b request
    → IsHeardInHeal p log a (record { 0 = b }) request heard took → CanHear (coming m) heard × IsWholeTold (told_by heard)

-- what an index lists is what the round's lines show then; or it was refused
pub data IsIndexed (p : Plan) (log : List Line) (a : ActorId) (b : BrickId) (heard : Answer) (took : Bool) : Type 0 where
  Listed : (list : List (Gfid × What)) → heard ≡ answer.Index list → listed_by p ((AskLine a b Index (told_by heard) took, log) ∷ []) ≡ list → IsIndexed p log a b heard took
  Refused : is_fault (told_by heard) ≡ true → IsIndexed p log a b heard took

abbrev pub IndexIsListed : Type 0
IndexIsListed = (p : Plan) (log : List Line) (a : ActorId) (b : BrickId) (heard : Answer) (took : Bool) → IsHeardInHeal p log a b Index heard took → IsIndexed p log a b heard took
