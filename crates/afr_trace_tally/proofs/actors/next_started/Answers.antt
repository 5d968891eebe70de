use Rattle.std.proofs.Common.{Bool, List, ap, false, get_or}
use Rattle.afr_model.specs.Report.{started_bricks}
use Rattle.afr_trace_tally.proofs.FlagLemmas.{five_flags}
use Rattle.afr_trace_tally.proofs.actors.next_started.Goals as goal

pub returns : goal.returns
returns c = λ n older h.
    five_flags _ _ _ _ _ _ _ _ _ _ (c.started_by.ensures (started_bricks n older) (ap (λ (w : List Bool). get_or w 0 false) h))
    (c.started_by-2.ensures (started_bricks n older) (ap (λ (w : List Bool). get_or w 1 false) h)) (c.started_by-3.ensures (started_bricks n older) (ap (λ (w : List Bool). get_or w 2 false) h))
    (c.started_by-4.ensures (started_bricks n older) (ap (λ (w : List Bool). get_or w 3 false) h)) (c.started_by-5.ensures (started_bricks n older) (ap (λ (w : List Bool). get_or w 4 false) h))
