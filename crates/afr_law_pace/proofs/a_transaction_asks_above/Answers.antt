use Rattle.afr_law_pace.proofs.Order.{asks_above, starts_queued, stays_queued}
use Rattle.afr_law_pace.proofs.a_transaction_asks_above.Goals as goal

pub returns : goal.returns
returns c = record {
  start = λ change r. starts_queued change r;
  stays = λ m s e q told at. stays_queued m s e q told at;
  above = λ m s e q is b held. asks_above m s e q is b held;
}
