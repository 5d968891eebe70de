use Rattle.afr_law_order.proofs.Work.Above.{work_above}
use Rattle.afr_law_order.proofs.Work.Logs.{client_rises, tells_down}
use Rattle.afr_law_order.proofs.Work.Queue.{work_begins, work_begun, work_stays}
use Rattle.afr_law_order.proofs.work_order.a_client_asks_in_rising_order.Goals as goal

pub returns : goal.returns
returns c = record {
  start = λ shape command. work_begins shape command;
  stays = λ w k q at b asked is chosen a among. work_stays w k q at b asked is chosen a among;
  begun = λ w k q at change is chosen. work_begun w k q at change is chosen;
  above = λ w k q down at b area is c mine locks. work_above w k q down at b area is c mine locks;
  down = tells_down c.entries_lead_down.ensures.paths;
  rises = client_rises c.entries_lead_down.ensures.paths;
}
