use Rattle.std.proofs.Common.{◌≡◌, ◌++◌, ap, arith, length}
use Rattle.std.specs.Prelude.{decimal}
use Rattle.std.proofs.lemmas.Result.{err_from_is_err_and}
use Rattle.afr_report_trace.specs.Texts.{row_text}
use Rattle.afr_report_trace.proofs.WriteLemmas.{begun, handed_front, next_handed, stopped}
use Rattle.afr_report_trace.proofs.written.write_rows.Goals as goal
use Rattle.afr_report_trace.proofs.written.write_rows.Given.{Over}
use Rattle.afr_report_trace.proofs.written.write_rows.Goals.{After-hand_on}

row : (g : Over) (c : After-hand_on g) → decimal c.loop-position.position ++ (c.get-asker.result.now ++ c.get-rest.result.now) ≡ row_text c.args.texts.now c.args.askers.now c.args.rests.now c.loop-position.position
row g c = λ i. decimal c.loop-position.position ++ (c.get-asker.ensures i ++ c.get-rest.ensures i)

pub loop-position-init : goal.loop-position-init
loop-position-init g c = record {
  handed = rw c.requires.empty (begun (g.K.Sink.taken c.args.sink.now));
  few = omega (arith, c.args.buffer.now.ok.0, ap length c.requires.empty);
  room = c.requires.room;
  later = omega arith;
}

pub loop-position-preserved : goal.loop-position-preserved
loop-position-preserved g c = record {
  handed = next_handed c.args.texts.now c.args.askers.now c.args.rests.now c.loop-position.position _ _ _ _ _ _ c.put_row.ensures.items (row g (goal.at.loop-position-preserved g c).After-hand_on) c.loop-position.invariant.handed _ c.in_ok-hand_on.ensures.ok;
  few = c.in_ok-hand_on.ensures.few;
  room = λ n m. omega (arith, c.loop-position.invariant.room n m, c.put_row.ensures.room, c.in_ok-hand_on.ensures.room);
  later = omega (arith, c.loop-position.invariant.later, c.in_ok-hand_on.ensures.cause.later);
}

pub returns-in_err-hand_on-clause-err : goal.returns-in_err-hand_on-clause-err
returns-in_err-hand_on-clause-err g c =
    let p = err_from_is_err_and c.from_residual.result c.from_residual.ensures.1 in
    rw p.1 (stopped c.args.texts.now c.args.askers.now c.args.rests.now c.loop-position.position _ _ _ _ _ _ c.put_row.ensures.items (row g (goal.at.returns-in_err-hand_on-clause-err g c).After-hand_on) c.loop-position.invariant.handed (omega arith) c.in_err-hand_on.ensures.err)

pub returns-in_err-write_all-clause-err : goal.returns-in_err-write_all-clause-err
returns-in_err-write_all-clause-err g c =
    let p = err_from_is_err_and c.from_residual-in_err-write_all.result c.from_residual-in_err-write_all.ensures.1 in
    let all : c.loop-position.position ≡ length c.args.rests.now = omega arith in
    rw (p.1, ← all) (handed_front _ _ _ _ _ c.loop-position.invariant.handed (rw c.as_slice.ensures.value at c.in_err-write_all.ensures.err))
