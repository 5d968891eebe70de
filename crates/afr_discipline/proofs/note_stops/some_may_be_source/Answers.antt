-- A copy that may be the source is among those asked.
use Rattle.std.proofs.Common.{◌∙◌, ◌&&◌, sym}
use Rattle.afr_base.specs.Bricks.{member}
use Rattle.afr_model_moves.specs.Keeps.{keeps_in}
use Rattle.afr_model_moves.specs.Steps.{goes_on}
use Rattle.afr_model_moves.proofs.Tests.{some_no}
use Rattle.afr_discipline.specs.Stands.{seen_as}
use Rattle.afr_discipline.proofs.note_stops.some_may_be_source.Goals as goal

pub returns-then-may_be_source : goal.returns-then-may_be_source
returns-then-may_be_source c =
    sym (some_no c.args.register.now.shape.n (λ s. member c.args.register.now.possible s && goes_on c.args.register.now.shape.n (keeps_in c.args.register.now.shape) (seen_as c.args.register.now) s) c.loop-s.s c.loop-s-test.true (sym c.may_be_source.ensures ∙ c.if-may_be_source.true))
