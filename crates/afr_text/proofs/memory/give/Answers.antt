-- What one copied piece takes from the bytes still to come.
use Rattle.std.proofs.Common.{arith}
use Rattle.afr_text.proofs.Parts.{copied}
use Rattle.afr_text.proofs.memory.give.Goals as goal

pub returns-clause-value : goal.returns-clause-value
returns-clause-value c = copied c.args.bytes.now _ c.copy_from_slice.new.self c.args.at.now c.min-count.result (omega (arith, c.min-count.ensures, c.requires)) c.copy_from_slice.ensures.after
