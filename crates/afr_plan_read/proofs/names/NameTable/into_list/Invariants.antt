use Rattle.std.proofs.Common.{◌≡◌, ◌++◌, map}
use Rattle.afr_plan_read.proofs.names.NameTable.into_list.Given as goal

abbrev pub invariant-loop-name : goal.invariant-loop-name
invariant-loop-name l = l.words ++ map (λ name. name.bytes.items) l.name-iterator ≡ l.fn.self
