use Rattle.std.proofs.Common.{sym}
use Rattle.afr_model_moves.specs.Keeps.{keeps_in}
use Rattle.afr_discipline.specs.Stands.{seen_as, step_of}
use Rattle.afr_discipline.proofs.LeftLemmas.{is_ahead, is_behind, its_turn, not_its_turn}
use Rattle.afr_discipline.proofs.heal_sets.is_turn.Goals as goal

pub returns-then-rank : goal.returns-then-rank
returns-then-rank c = sym (not_its_turn c.args.register.now.shape.n (keeps_in c.args.register.now.shape) (seen_as c.args.register.now) c.args.s.0 (step_of c.args.step) c.args.b.0 (is_behind _ _ _ _ c.rank.ensures c.rank-2.ensures c.if-rank.true))

pub returns : goal.returns
returns c = rw c.is_lowest.ensures (sym (its_turn c.args.register.now c.args.s.0 c.args.step c.args.b.0 c.requires.small c.left_in.result c.left_in.ensures (is_ahead _ _ _ _ c.rank.ensures c.rank-2.ensures c.if-rank.false)))
