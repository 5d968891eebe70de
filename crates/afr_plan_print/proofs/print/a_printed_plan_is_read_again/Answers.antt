use Rattle.afr_plan_print.proofs.RoundTripLemmas.{printed_again, printed_short}
use Rattle.afr_plan_print.proofs.print.a_printed_plan_is_read_again.Goals as goal

pub returns : goal.returns
returns c = record { same = printed_again; short = printed_short }
