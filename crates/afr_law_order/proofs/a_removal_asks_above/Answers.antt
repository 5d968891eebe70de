use Rattle.afr_law_order.proofs.Asking.{asks_above, starts_queued, stays_queued}
use Rattle.afr_law_order.proofs.Rows.{keeps_row}
use Rattle.afr_law_order.proofs.a_removal_asks_above.Goals as goal

pub returns : goal.returns
returns c = record {
  row = λ r at b request told row. keeps_row r at b request told row;
  start = λ change r g row none. starts_queued change r g row none;
  stays = λ m s e k chosen a at. stays_queued m s e k chosen a at;
  above = λ m s e k is c held. asks_above m s e k is c held;
}
