use Rattle.std.proofs.Common.{sym}
use Rattle.afr_brick.proofs.Found.{found, no_memory}
use Rattle.afr_brick.proofs.brick.Brick.read_attrs.Goals as goal

pub returns-in_err-attrs-clause-absent : goal.returns-in_err-attrs-clause-absent
returns-in_err-attrs-clause-absent c = rw (← c.self.view_is) (found _ _ c.in-Some.object.now (sym c.in-Some.ensures.value) (no_memory _ c.from_residual.ensures.1))

pub returns-clause-absent : goal.returns-clause-absent
returns-clause-absent c = rw (← c.self.view_is) (found _ _ c.in-Some.object.now (sym c.in-Some.ensures.value) (λ h. cc))
