use Rattle.std.proofs.Common.{◌&&◌, not, nat_lt}
use Rattle.afr_base.specs.Bricks.{member}
use Rattle.afr_discipline.specs.Tests.{same_flag}
use Rattle.afr_discipline.proofs.outside.misses_each.Goals as goal

pub returns : goal.returns
returns c =
    c.all_of.ensures (λ x. same_flag (member c.args.missed x) (nat_lt x c.args.n && not (member c.args.done x)))
    (record { first = c.is_missed.ensures; second = c.is_missed-2.ensures; third = c.is_missed-3.ensures; fourth = c.is_missed-4.ensures; fifth = c.is_missed-5.ensures })
