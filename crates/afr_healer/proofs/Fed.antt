-- Whatever the rule, a healer's line leaves a source that its heal may have.
use Rattle.std.proofs.Common.{ℕ, List}
use Rattle.afr_base.specs.declared.ids.ActorId.{ActorId}
use Rattle.afr_heal_round.specs.Rounding.{IsAnswered, IsFed, Rounding, next_of}
use Rattle.afr_heal_round.proofs.Fed.{fed_is_answered}
use Rattle.afr_lines.specs.declared.line.Line.{Line}
use Rattle.afr_lines.specs.declared.line.Next.{Next}
use Rattle.afr_lines.specs.declared.line.Next.TheVariants as next
use Rattle.afr_healer.specs.Acting.{Stepped, SteppedBy}
use Rattle.afr_healer.specs.declared.healer.Healer.{Healer}
use Rattle.afr_rule.specs.Choosing.{Calls}
use Rattle.afr_server.specs.Serving.{Serving}

module _ {F : Type 0} (calls : Calls F) (choose : F) (a : ActorId) (at : ℕ) (x y : Healer) (old new : List Serving) (written : Line) where
  line_answered : (m : Rounding) (line : Next) → SteppedBy (IsFed calls choose) a at x y m old new written line → SteppedBy IsAnswered a at x y m old new written line
  line_answered m (next.Ask b request) k = record {
    given = k.given;
    epochs = k.epochs;
    after = k.after;
    load = k.load;
    carries = k.carries;
    fits = k.fits;
    served = k.served;
    is_line = k.is_line;
    fed = fed_is_answered calls choose k.given.answer at m k.after k.fed;
    becomes = k.becomes;
  }
  line_answered m (next.HealBegin g kind) k = k
  line_answered m (next.HealEnd g kind said) k = k
  line_answered m (next.End said) k = k
  line_answered m (next.Begin change) k = k

  pub steps_answered : Stepped (IsFed calls choose) a at x y old new written → Stepped IsAnswered a at x y old new written
  steps_answered k = record { round = k.round; present = k.present; steps = line_answered k.round (next_of k.round) k.steps }
