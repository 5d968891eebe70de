-- Whatever the rule, an answered round goes on with a source that its heal may have.
use Rattle.std.proofs.Common.{ℕ}
use Rattle.afr_heal_round.specs.Rounding.{IsAnswered, IsAnsweredAt, IsFed, IsFedAt, Rounding}
use Rattle.afr_heal_round.specs.declared.stage.RoundStage.{RoundStage}
use Rattle.afr_heal_round.specs.declared.stage.RoundStage.TheVariants.{Asking, Healing, Over}
use Rattle.afr_lines.specs.declared.answer.Answer.{Answer}
use Rattle.afr_rule.specs.Choosing.{Calls}
use Rattle.afr_heal_machine.proofs.Fed as heal

pub fed_is_answered : {F : Type 0} (calls : Calls F) (choose : F) (answer : Answer) (at : ℕ) (old new : Rounding) → IsFed calls choose answer at old new → IsAnswered answer at old new
fed_is_answered calls choose answer at old new k = by old.stage k
  where
    by : (stage : RoundStage) → IsFedAt calls choose answer at stage old new → IsAnsweredAt answer at stage old new
    by (Asking heals) k = k
    by (Healing m) k = (k.0, heal.fed_is_answered calls choose answer at m k.0 k.1, k.2)
    by (Over refused) k = k
