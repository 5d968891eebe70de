-- A run in which nobody asks twice running for a lock that another holds, and that has turns enough, has done all.
use Rattle.std.proofs.Common.{◌≡◌, ◌⊎◌, ◌+◌, ◌*◌, ◌≤◌, ◌<◌, ℕ, Bool, true, false, List, length, inl, inr, refl, arith}
use Rattle.afr_law_bound.specs.Ends.Cost.{AreWithinCost}
use Rattle.afr_law_bound.specs.Ends.Law.{AreEager, EagerEndsWithin}
use Rattle.afr_law_bound.specs.Ends.Left.{bound_of}
use Rattle.afr_lines.specs.declared.line.Line.{Line}
use Rattle.afr_live.specs.Ending.{EndsInAnyOrder}
use Rattle.afr_model.specs.Actors.{is_done}
use Rattle.afr_model.specs.Complete.{IsComplete, IsFinished}
use Rattle.afr_model.specs.Ordered.{actors_of}
use Rattle.afr_plan.specs.declared.plan.Plan.{Plan}
use Rattle.afr_law_bound.specs.Standstill.Law.{IsPresumed}

no_room : (len turns bound : ℕ) → len < bound → len ≡ turns → bound ≤ turns → ⊥
no_room len turns bound short full room = omega arith

pub eager_done : (law : EagerEndsWithin) (p : Plan) (log : List Line) → IsPresumed p log → AreWithinCost p log → AreEager log → IsComplete p log → EndsInAnyOrder p log
eager_done law p log kept within eager complete room a actor = go complete
  where
    over : (d : Bool) → is_done p a log ≡ d → length log ≡ p.turns → is_done p a log ≡ true
    over true e full = e
    over false e full = absurd (no_room (length log) p.turns (2 * bound_of p + length (actors_of p) * length p.events) (law p log kept within eager a actor e) full room)

    go : (length log ≡ p.turns) ⊎ IsFinished p log → is_done p a log ≡ true
    go (inl full) = over (is_done p a log) refl full
    go (inr finished) = finished.done a actor
