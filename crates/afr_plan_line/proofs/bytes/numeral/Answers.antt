use Rattle.afr_plan.specs.Bytes.{digit}
use Rattle.afr_plan_line.proofs.Front.{front_digits, front_take}
use Rattle.afr_plan_line.proofs.bytes.numeral.Goals as goal

pub returns-clause-digits : goal.returns-clause-digits
returns-clause-digits c = rw (c.digits-count.ensures, front_take digit c.args.bytes.now) (front_digits c.args.bytes.now)
