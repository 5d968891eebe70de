use Rattle.std.proofs.Common.{ap, sym}
use Rattle.afr_model_moves.specs.Keeps.{keeps_in}
use Rattle.afr_discipline.specs.Stands.{seen_as, step_of}
use Rattle.afr_discipline.specs.Turns.{brick_of}
use Rattle.afr_discipline.proofs.LeftLemmas.{is_ahead, is_behind, no_turn, turn_of_lowest}
use Rattle.afr_discipline.proofs.heal_turns.turn_of.Goals as goal

pub returns-then-rank : goal.returns-then-rank
returns-then-rank c = ap brick_of (sym (no_turn c.args.register.now.shape.n (keeps_in c.args.register.now.shape) (seen_as c.args.register.now) c.args.source.0 (step_of c.args.step) (is_behind _ _ _ _ c.rank.ensures c.rank-2.ensures c.if-rank.true)))

pub returns : goal.returns
returns c = rw c.first_of.ensures (ap brick_of (sym (turn_of_lowest c.args.register.now c.requires.few c.args.source.0 c.args.step c.left_in.result c.left_in.ensures (is_ahead _ _ _ _ c.rank.ensures c.rank-2.ensures c.if-rank.false))))
