use Rattle.std.proofs.Common.{◌≡◌, map, drop}
use Rattle.afr_trace_read.specs.Forms.{first_of, said}
use Rattle.afr_trace_read.proofs.bytes.first_of.Given as goal

abbrev pub invariant-loop-word : goal.invariant-loop-word
invariant-loop-word g l = first_of (map said (drop l.word-index l.words)) l.bytes ≡ first_of (map said l.words) l.bytes
