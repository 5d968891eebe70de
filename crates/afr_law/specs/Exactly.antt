-- Logs of a plan that keep the discipline in full.
use Rattle.std.specs.Prelude.{ℕ, ◌+◌, ◌^◌, List}
use Rattle.afr_lines.specs.declared.line.Line.{Line}
use Rattle.afr_plan.specs.declared.plan.Plan.{Plan}
use Rattle.afr_model_moves.specs.ByList.{IsExactlyLawful}
use Rattle.afr_law.specs.Beginning.{start_of}

-- above the names of the opening files and all numbers of four bytes
abbrev pub name_bound : Plan → ℕ
name_bound p = p.files + 2 ^ 32

-- each line of the log keeps the discipline in full, over a beginning with all names
abbrev pub IsLawfulExactly : Plan → List Line → Type 0
IsLawfulExactly p log = IsExactlyLawful p.shape.n (start_of p (name_bound p)) log
