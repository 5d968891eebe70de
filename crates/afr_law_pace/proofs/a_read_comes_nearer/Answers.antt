use Rattle.afr_law_pace.proofs.Lookups.{read_end, read_nearer, read_starts}
use Rattle.afr_law_pace.proofs.a_read_comes_nearer.Goals as goal

pub returns : goal.returns
returns c = record {
  asked = λ m k e chosen a at. read_nearer m k e chosen a at;
  end = λ m. read_end m;
  start = λ shape path j. read_starts shape path j;
}
