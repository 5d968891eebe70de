-- A line of the log that answers no command adds no line to the report.
use Rattle.std.proofs.Common.{◌≡◌, ℕ, [], refl, Option, Some, None}
use Rattle.afr_plan.specs.declared.command.Command.{Command}
use Rattle.afr_plan.specs.declared.plan.Words.{Words}
use Rattle.afr_model.specs.Report.{command_line}

pub no_reply : (words : Words) (k : ℕ) (c : Option Command) → command_line words k c None ≡ []
no_reply words k None = refl
no_reply words k (Some c) = refl
