-- The started bricks of a log are in rising order.
use Rattle.std.proofs.Common.{ℕ, List, [], ◌∷◌, arith}
use Rattle.afr_base.proofs.RisingLemmas.{rising_added, rising_below, rising_removed}
use Rattle.afr_base.specs.Rising.{IsRising}
use Rattle.afr_lines.specs.declared.line.Event.{Event}
use Rattle.afr_lines.specs.declared.line.Event.TheVariants as event
use Rattle.afr_lines.specs.declared.line.Line.{Line}
use Rattle.afr_lines.specs.declared.line.Line.TheVariants as line_of
use Rattle.afr_model.specs.Report.{started_after, started_by, started_bricks}

rising_after : (e : Event) (s : List ℕ) → IsRising 0 s → IsRising 0 (started_after e s)
rising_after (event.Stop b) s h = rising_removed b.0 0 s h
rising_after (event.Start b) s h = rising_added b.0 0 s (omega arith) h
rising_after other s h = h

rising_by : (line : Line) (s : List ℕ) → IsRising 0 s → IsRising 0 (started_by line s)
rising_by (line_of.Event e) s h = rising_after e s h
rising_by other s h = h

-- the started bricks rise
pub rising_started : (n : ℕ) (log : List Line) → IsRising 0 (started_bricks n log)
rising_started n [] = rising_below n
rising_started n (line ∷ older) = rising_by line (started_bricks n older) (rising_started n older)
