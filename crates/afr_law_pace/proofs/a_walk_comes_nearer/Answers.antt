use Rattle.afr_law_pace.proofs.Walks.{walk_nearer, walk_starts}
use Rattle.afr_law_pace.proofs.a_walk_comes_nearer.Goals as goal

pub returns : goal.returns
returns c = record {
  asked = λ w k e chosen heard at. walk_nearer w k e chosen heard at;
  start = λ shape path. walk_starts shape path;
}
