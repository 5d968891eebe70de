-- The lines of a trace as the code keeps them.
use Rattle.std.specs.Prelude.{ℕ, List}
use Rattle.afr_trace_read.specs.declared.kinds.TraceLine.{TraceLine}
use Rattle.afr_trace_read.specs.declared.trace.SpelledLine.{SpelledLine}

-- a line, and what its command gave
abbrev pub seen_line : SpelledLine → TraceLine × List ℕ
seen_line x = (x.line, x.contents.now)
