-- A run in the stated order that has as many turns as its bound has done all.
use Rattle.std.proofs.Common.{◌≤◌, Ok, Err, Result, List, length}
use Rattle.std.specs.Prelude.{OnOk}
use Rattle.afr_law_bound.specs.Ends.Law.{EndsDone}
use Rattle.afr_lines.specs.declared.line.Line.{Line}
use Rattle.afr_model.specs.Complete.{IsComplete}
use Rattle.afr_model.specs.Ordered.{IsOrdered}
use Rattle.afr_plan.specs.declared.plan.Plan.{Plan}
use Rattle.afr_volume.proofs.PresumedLemmas.{IsSmall, kept_of}
use Rattle.afr_volume.specs.Right.{IsRight}
use Rattle.afr_order.specs.Ending.{EndsInBound}

pub ends_of : {A E : Type 0} (law : EndsDone) (p : Plan) (log : List Line) (result : Result A E) → IsSmall p → length log ≤ p.turns → IsRight p log → IsOrdered p log → OnOk result (IsComplete p log) → OnOk result (EndsInBound p log)
ends_of law p log (Ok done) small room right order complete = λ bound a actor. law p log (kept_of p log small room right) right.within order complete bound a actor
ends_of law p log (Err e) small room right order complete = complete
