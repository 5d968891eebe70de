use Rattle.std.proofs.Common.{◌≡◌, ◌%◌, ℕ, List, [], ◌∷◌, length, sym, ◌==◌, false}
use Rattle.afr_plan_line.proofs.DataLemmas.{paired-even}
use Rattle.afr_trace_read.specs.Contents.{is_some_paired}
use Rattle.afr_trace_read.proofs.contents.are_paired.Goals as goal

some : (ds : List ℕ) → false ≡ (length ds == 0) → (length ds % 2 == 0) ≡ is_some_paired ds
some [] h = absurd (cc h)
some (d ∷ ds) h = sym (paired-even (d ∷ ds))

pub returns-then-not-is_empty : goal.returns-then-not-is_empty
returns-then-not-is_empty c = some c.args.digits.now c.if-not-is_empty.ensures
