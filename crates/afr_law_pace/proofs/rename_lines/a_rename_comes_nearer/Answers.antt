use Rattle.afr_law_pace.proofs.Rename.Renames.{rename_begins, rename_end, rename_nearer, rename_starts}
use Rattle.afr_law_pace.proofs.rename_lines.a_rename_comes_nearer.Goals as goal

pub returns : goal.returns
returns c = record {
  asked = rename_nearer c.each_note_stands.ensures.shapes;
  begun = λ m first chosen at. rename_begins m first chosen at;
  end = λ m. rename_end m;
  start = λ shape from to. rename_starts shape from to;
}
