use Rattle.std.proofs.Common.{◌≤◌, refl, subst, sym}
use Rattle.afr_base.specs.declared.ids.Shape.{Shape}
use Rattle.afr_discipline.proofs.InPlace.{noted_in_turn, turn_shape}
use Rattle.afr_discipline.proofs.NotedShape.{steps_shape}
use Rattle.afr_discipline.proofs.notes.noted_allowed.Goals as goal

pub noted_law-requires-clause-few : goal.noted_law-requires-clause-few
noted_law-requires-clause-few c = rw (c.allowed_steps.ensures, steps_shape c.args.register.now c.args.at c.args.b.0 c.args.request.now c.args.told.now) c.requires.few

pub stopped-requires : goal.stopped-requires
stopped-requires c =
    subst (λ (s : Shape). s.n ≤ 5)
    (sym (turn_shape c.args.register.now c.allowed_steps.new.register c.noted_law.new.register c.dropped.new.register c.args.at c.args.b.0 c.args.request.now c.args.told.now c.is_gone.result c.allowed_steps.ensures c.noted_law.ensures c.is_gone.ensures c.dropped.ensures))
    c.requires.few

pub returns : goal.returns
returns c =
    rw (c.stopped.ensures, noted_in_turn c.args.register.now c.allowed_steps.new.register c.noted_law.new.register c.dropped.new.register c.args.at c.args.b.0 c.args.request.now c.args.told.now c.is_gone.result c.allowed_steps.ensures c.noted_law.ensures c.is_gone.ensures c.dropped.ensures) refl
