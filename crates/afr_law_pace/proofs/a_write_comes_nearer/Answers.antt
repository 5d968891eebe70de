use Rattle.afr_law_pace.proofs.Writes.{write_begins, write_end, write_nearer, write_starts}
use Rattle.afr_law_pace.proofs.a_write_comes_nearer.Goals as goal

pub returns : goal.returns
returns c = record {
  asked = λ m k asks chosen a at among fits. write_nearer m k asks chosen a at among fits;
  begun = λ m t is first chosen at. write_begins m t is first chosen at;
  end = λ m. write_end m;
  start = λ shape path job. write_starts shape path job;
}
