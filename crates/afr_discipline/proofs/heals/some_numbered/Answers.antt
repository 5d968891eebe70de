-- A view that shows a number is among those asked.
use Rattle.std.proofs.Common.{◌∙◌, sym}
use Rattle.afr_model_moves.specs.Register.{shows_number}
use Rattle.afr_model_moves.proofs.Tests.{some_no}
use Rattle.afr_discipline.specs.Stands.{views_of}
use Rattle.afr_discipline.proofs.heals.some_numbered.Goals as goal

pub returns-then-shows_at : goal.returns-then-shows_at
returns-then-shows_at c = sym (some_no c.args.n (λ x. shows_number c.args.kind (views_of c.args.looked.now x)) c.loop-x.x c.loop-x-test.true (sym c.shows_at.ensures ∙ c.if-shows_at.true))
