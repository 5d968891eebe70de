use Rattle.std.proofs.Common.{arith, get_or}
use Rattle.std.proofs.lemmas.Int.Digits.{digits_value_more}
use Rattle.afr_plan_line.proofs.Front.{digit_is, digit_at}
use Rattle.afr_plan_line.proofs.bytes.value_of.Goals as goal

pub overflow_sub-d : goal.overflow_sub-d
overflow_sub-d c = (digit_is (get_or c.args.ds.now c.loop-d.d-index 0) (digit_at c.args.ds.now c.loop-d.d-index c.loop-d-test.true c.requires.digits)).0

pub loop-d-preserved : goal.loop-d-preserved
loop-d-preserved c =
    let d = digit_is (get_or c.args.ds.now c.loop-d.d-index 0) (digit_at c.args.ds.now c.loop-d.d-index c.loop-d-test.true c.requires.digits) in
    omega (arith, d.2, digits_value_more 10 c.args.ds.now c.loop-d.d-index c.loop-d-test.true)
