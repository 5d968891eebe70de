use Rattle.afr_law_pace.proofs.Nearer.{begins, nearer, some_end, starts}
use Rattle.afr_law_pace.proofs.a_transaction_comes_nearer.Goals as goal

pub returns : goal.returns
returns c = record {
  asked = λ m s e told at fits. nearer m s e told at fits;
  begun = λ m is at. begins m is at;
  end = λ m. some_end m;
  start = λ change r. starts change r;
}
