use Rattle.std.proofs.Common.{refl}
use Rattle.afr_model_moves.specs.Keeps.{keeps_in}
use Rattle.afr_discipline.specs.Inside.{may_move}
use Rattle.afr_discipline.specs.Stands.{seen_as}
use Rattle.afr_discipline.proofs.HealDecisions.{decided_by}
use Rattle.afr_discipline.proofs.laws.each_move_is_decided.Goals as goal

pub returns : goal.returns
returns c = λ p r step few stands. decided_by p r step (may_move p.shape.n (keeps_in p.shape) (seen_as p) step) few stands refl
