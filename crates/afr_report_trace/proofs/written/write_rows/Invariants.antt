use Rattle.std.proofs.Common.{◌<◌, ◌≤◌, vec_capacity, vec_len}
use Rattle.afr_report_trace.specs.Texts.{HasRoom, text_to}
use Rattle.afr_report_trace.proofs.WriteLemmas.{Handed}
use Rattle.afr_report_trace.proofs.written.write_rows.Given as goal

abbrev pub invariant-loop-position : goal.invariant-loop-position
invariant-loop-position g l = record {
  handed : Handed (g.K.Sink.taken l.fn.sink) (g.K.Sink.taken l.sink) l.buffer.items (text_to l.texts l.askers l.rests l.position);
  few : vec_len l.buffer < 65536;
  room : HasRoom l.texts (vec_capacity l.buffer);
  later : g.K.Sink.faults l.fn.sink ≤ g.K.Sink.faults l.sink;
}
