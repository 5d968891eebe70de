use Rattle.afr_law_pace.proofs.Work.Works.{work_begins, work_end, work_nearer, work_starts}
use Rattle.afr_law_pace.proofs.work_lines.a_work_comes_nearer.Goals as goal

pub returns : goal.returns
returns c = record {
  asked = work_nearer c.an_entry_comes_nearer.ensures.asked c.a_rename_comes_nearer.ensures.asked;
  begun = work_begins c.a_rename_comes_nearer.ensures.begun;
  end = work_end c.a_rename_comes_nearer.ensures.end;
  start = work_starts c.a_rename_comes_nearer.ensures.start;
}
