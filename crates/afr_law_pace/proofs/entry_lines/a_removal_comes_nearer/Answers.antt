use Rattle.afr_law_pace.proofs.Entry.Removals.{removal_begins, removal_end, removal_nearer, removal_starts}
use Rattle.afr_law_pace.proofs.entry_lines.a_removal_comes_nearer.Goals as goal

pub returns : goal.returns
returns c = record {
  asked = λ m s e chosen a at fits. removal_nearer m s e chosen a at fits;
  begun = λ m is at. removal_begins m is at;
  end = λ m. removal_end m;
  start = λ change r g. removal_starts change r g;
}
