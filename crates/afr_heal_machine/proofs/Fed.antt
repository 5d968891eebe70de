-- Whatever the rule, an answered heal goes on with a copy that may be its source.
use Rattle.std.proofs.Common.{ℕ}
use Rattle.afr_lines.specs.declared.answer.Answer.{Answer}
use Rattle.afr_rule.specs.Choosing.{Calls}
use Rattle.afr_heal_machine.proofs.ChoiceLemmas.{chosen_is_candidate}
use Rattle.afr_heal_machine.specs.Healing.{Healing, IsAnswered, IsFed}

pub fed_is_answered : {F : Type 0} (calls : Calls F) (choose : F) (answer : Answer) (at : ℕ) (old new : Healing) → IsFed calls choose answer at old new → IsAnswered answer at old new
fed_is_answered calls choose answer at old new k = record {
  brick = k.brick;
  request = k.request;
  asked = k.asked;
  chosen = k.chosen;
  picked = λ found. chosen_is_candidate calls choose old.kind new.register k.chosen (k.picked found);
  value = k.value;
}
