-- Which plans are past the limit of a check.
use Rattle.std.specs.Prelude.{◌+◌, nat_lt, Bool, false, List, length}
use Rattle.std.specs.List.{list_any}
use Rattle.afr_plan.specs.declared.command.Command.{Command}
use Rattle.afr_plan.specs.declared.command.Command.TheVariants.{Cut, Write}
use Rattle.afr_plan.specs.declared.plan.Plan.{Plan}

-- a write that ends past 1,024, and a cut to a length above it
abbrev pub is_long : Command → Bool
is_long (Write path at bytes) = nat_lt 1024 (at + length bytes)
is_long (Cut path len) = nat_lt 1024 len
is_long other = false

-- some command is
abbrev pub has_long : List Command → Bool
has_long commands = list_any is_long commands

-- some client has one
abbrev pub is_past_limit : Plan → Bool
is_past_limit p = list_any has_long p.clients
