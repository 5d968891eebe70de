use Rattle.std.proofs.Common.{◌≡◌, length, reverse, take}
use Rattle.std.specs.Prelude.{All}
use Rattle.afr_report_trace.specs.Lines.{trace_of}
use Rattle.afr_report_trace.specs.Texts.{AreAskers, AreRows, IsSpelled, text_to}
use Rattle.afr_report_trace.proofs.gathered.gather_trace.Given as goal

abbrev pub invariant-loop-position : goal.invariant-loop-position
invariant-loop-position l = record {
  askers : AreAskers l.texts;
  places : All (IsSpelled l.plan l.texts) l.page.places.items;
  rows : AreRows l.texts l.askers.items l.rests.items;
  long : length l.rests.items ≡ l.position;
  text : text_to l.texts l.askers.items l.rests.items l.position ≡ trace_of l.plan (reverse (take l.position l.log.items));
}
