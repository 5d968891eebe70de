use Rattle.std.proofs.Common.{◌==◌, ◌&&◌, nat_lt, slice_index, if◌then◌else◌}
use Rattle.afr_model_moves.specs.Honest.{view_marks}
use Rattle.afr_model_moves.specs.Steps.{changed}
use Rattle.afr_discipline.specs.Stands.{seen_as}
use Rattle.afr_discipline.proofs.heal_numbers.are_taken.Goals as goal

pub returns : goal.returns
returns c =
    c.all_of.ensures (λ x. slice_index c.args.less.now.pending x == (if nat_lt x c.args.register.now.shape.n && changed (seen_as c.args.register.now) c.args.s.0 c.args.kind x then slice_index (view_marks c.args.view.now c.args.kind).pending x else 0))
    (record { first = c.is_taken.ensures; second = c.is_taken-2.ensures; third = c.is_taken-3.ensures; fourth = c.is_taken-4.ensures; fifth = c.is_taken-5.ensures })
