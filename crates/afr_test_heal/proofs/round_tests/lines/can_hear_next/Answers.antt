-- Only a heal minds what its bricks answer.
use Rattle.std.proofs.Common.{◌≡◌, ℕ, None, subst, sym}
use Rattle.afr_base.specs.declared.ids.BrickId.{BrickId}
use Rattle.afr_heal.specs.Engine.{Ask, NextOfHeal}
use Rattle.afr_heal_machine.specs.Healing as heal
use Rattle.afr_heal_round.proofs.Shapes.{line_asks}
use Rattle.afr_heal_round.specs.Rounding.{CanHear, CanHearAt, Rounding, heal_at, next_at, next_of}
use Rattle.afr_heal_round.specs.declared.stage.RoundStage.{RoundStage}
use Rattle.afr_heal_round.specs.declared.stage.RoundStage.TheVariants.{Asking, Healing, Over}
use Rattle.afr_lines.specs.declared.answer.Answer.{Answer}
use Rattle.afr_lines.specs.declared.line.Next.TheVariants as next
use Rattle.afr_lines.specs.declared.request.Request.{Request}
use Rattle.afr_test_heal.proofs.round_tests.lines.can_hear_next.Goals as goal

heard_at : (m : Rounding) (request : Request) (answer : Answer) → ((b : ℕ) → heal.CanHear (Ask b request) answer) → (b : BrickId) → next_of m ≡ next.Ask b request → CanHear m answer
heard_at m request answer can b e = by m.stage e
  where
    by : (stage : RoundStage) → next_at m.round.brick stage ≡ next.Ask b request → CanHearAt stage answer
    by (Asking heals) e = tt
    by (Healing h) e = subst (λ (n : NextOfHeal). heal.CanHear n answer) (sym (line_asks h b request e)) (can b.0)
    by (Over refused) e = absurd (cc e)

heard_alone : (m : Rounding) (request : Request) (answer : Answer) → None ≡ heal_at m.stage → (b : BrickId) → next_of m ≡ next.Ask b request → CanHear m answer
heard_alone m request answer none b e = by m.stage none e
  where
    by : (stage : RoundStage) → None ≡ heal_at stage → next_at m.round.brick stage ≡ next.Ask b request → CanHearAt stage answer
    by (Asking heals) none e = tt
    by (Healing h) none e = absurd (cc none)
    by (Over refused) none e = absurd (cc e)

pub returns-in-Some : goal.returns-in-Some
returns-in-Some c = λ yes b e. heard_at c.args.machine.now c.args.request.now c.args.answer.now (c.can_hear.ensures yes) b e

pub returns-in-None : goal.returns-in-None
returns-in-None c = λ yes b e. heard_alone c.args.machine.now c.args.request.now c.args.answer.now c.in-None.ensures b e
