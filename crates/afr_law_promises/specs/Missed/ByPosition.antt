-- A brick that is accused missed something since it was last unaccused, of logs by their positions.
use Rattle.std.specs.Prelude.{◌≡◌, ℕ, ◌<◌, ◌≤◌, List, slice_get, Option}
use Rattle.afr_base.specs.declared.ids.Kind.{Kind}
use Rattle.afr_lines.specs.declared.fault.Fault.{Fault}
use Rattle.afr_lines.specs.declared.line.Line.{Line}
use Rattle.afr_model_moves.specs.Past.{Beginning, Log, pending}
use Rattle.afr_law.specs.Causes.{Cause}
use Rattle.afr_law.specs.Law.{HonestLog, LawfulLog}

-- what brick x holds against c before position t has a cause from position s on
pub record CauseSince (log : Log) (s t x c g : ℕ) (kind : Kind) : Type 0 where
  pub cause : Cause log t x c g kind
  pub after : s ≤ cause.p

-- in an honest and lawful log, what a brick holds against another at one position and didn't at an earlier one has a cause in between
abbrev pub AccusationsHaveCausesSince : Type 0
AccusationsHaveCausesSince =
    (n : ℕ) (files : Beginning) (faults : ℕ → ℕ → Option Fault) (lines : List Line)
    → HonestLog files faults lines → LawfulLog n files.keeps lines
    → (s t x c g : ℕ) (kind : Kind) → s ≤ t → pending files (slice_get lines) s x c g kind ≡ 0 → 0 < pending files (slice_get lines) t x c g kind → CauseSince (slice_get lines) s t x c g kind
