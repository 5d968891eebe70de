use Rattle.afr_law_pace.proofs.Entry.Entries.{entry_begins, entry_end, entry_nearer, entry_starts}
use Rattle.afr_law_pace.proofs.entry_lines.an_entry_comes_nearer.Goals as goal

pub returns : goal.returns
returns c = record {
  asked = entry_nearer c.each_note_stands.ensures.shapes;
  begun = λ m first chosen at. entry_begins m first chosen at;
  end = λ m. entry_end m;
  start = λ shape path job. entry_starts shape path job;
}
