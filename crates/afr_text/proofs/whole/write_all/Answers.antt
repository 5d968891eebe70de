-- One more piece written keeps what the loop promises.
use Rattle.std.proofs.Common.{sym, arith, length-drop}
use Rattle.std.proofs.Math.Seq.{take-add}
use Rattle.std.proofs.lemmas.List.{take_rest}
use Rattle.afr_text.proofs.Parts.{appends_more}
use Rattle.afr_text.proofs.whole.write_all.Goals as goal

pub loop-done-preserved : goal.loop-done-preserved
loop-done-preserved g c = record {
  within = omega (arith, c.in-Ok.ensures.len, length-drop c.loop-done.done c.args.bytes.now);
  grown = appends_more _ _ _ _ _ _ (sym (take-add c.loop-done.done c.in-Ok.count c.args.bytes.now)) c.loop-done.invariant.grown (rw take_rest at c.in-Ok.ensures.value);
  later = omega (arith, c.loop-done.invariant.later, c.in-Ok.ensures.cause.later);
}
