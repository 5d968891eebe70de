-- The codes of the rules that a line may break.
use Rattle.std.specs.Prelude.{ℕ, Option, None, Some, Result, Ok, Err}
use Rattle.afr_plan.specs.Said.{Said}
use Rattle.afr_plan_line.specs.Seen.{seen}
use Rattle.afr_plan_line.specs.declared.spoken.Spoken.{Spoken}
use Rattle.afr_plan_read.specs.declared.rules.Rule.{Rule}
use Rattle.afr_plan_read.specs.declared.rules.Rule.TheVariants.{Plain, Ended, Head, Place, Form, Limit, Order, Total, End}

-- a rule's code: of several broken rules the lowest is told
abbrev pub code_of : Rule → ℕ
code_of Plain = 1
code_of Ended = 2
code_of Head = 3
code_of Place = 4
code_of Form = 5
code_of Limit = 6
code_of Order = 7
code_of Total = 8
code_of End = 9

-- what is said, or the code of the broken rule
abbrev pub seen_ok : Result Spoken Rule → Result Said ℕ
seen_ok (Ok s) = Ok (seen s)
seen_ok (Err rule) = Err (code_of rule)

-- the code of the broken rule, if one is
abbrev pub seen_rule : Option Rule → Option ℕ
seen_rule None = None
seen_rule (Some rule) = Some (code_of rule)
