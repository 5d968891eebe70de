use Rattle.afr_base.proofs.RisingLemmas.{rising_below}
use Rattle.afr_report_info.proofs.marks.push_marks.Goals as goal

pub push_missed-requires : goal.push_missed-requires
push_missed-requires c = record { rising = rw c.all.ensures (rising_below c.args.plan.now.shape.n) }
