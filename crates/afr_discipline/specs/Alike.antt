-- Requests of a heal that don't tell one source from another.
use Rattle.std.specs.Prelude.{◌≡◌, ℕ, Bool}
use Rattle.afr_base.specs.declared.ids.Kind.{Kind}
use Rattle.afr_lines.specs.declared.request.Request.{Request}
use Rattle.afr_model_moves.specs.Register.{Exact}
use Rattle.afr_model_moves.specs.Steps.{may_heal}

-- each source allows the request, or none does
abbrev pub IsAlike : (ℕ → Kind → Bool) → Exact → Request → Type 0
IsAlike keeps r request = (n s b : ℕ) → may_heal n keeps r s b request ≡ may_heal n keeps r 0 b request
