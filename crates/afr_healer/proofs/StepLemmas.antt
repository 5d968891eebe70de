-- A line of a healer, put together from its parts.
use Rattle.std.proofs.Common.{◌≡◌, ℕ, List, Some, sym, subst}
use Rattle.afr_base.specs.declared.ids.ActorId.{ActorId}
use Rattle.afr_heal_round.specs.Rounding.{Rounding, next_of}
use Rattle.afr_lines.specs.declared.line.Line.{Line}
use Rattle.afr_lines.specs.declared.line.Next.{Next}
use Rattle.afr_healer.specs.Acting.{Adds, Hearing, Stepped, SteppedBy}
use Rattle.afr_healer.specs.declared.healer.Healer.{Healer}
use Rattle.afr_server.specs.Serving.{Serving}

module _ (a : ActorId) (at : ℕ) (x y : Healer) (m : Rounding) (old new : List Serving) (before after : List Line) where
  -- the line of the present round is one line of the healer
  pub stepped : (Hears : Hearing) (line : Next) → x.round ≡ Some m → next_of m ≡ line → Adds (λ (written : Line). SteppedBy Hears a at x y m old new written line) before after
      → Adds (λ (written : Line). Stepped Hears a at x y old new written) before after
  stepped Hears line present is adds = record {
    line = adds.line;
    added = adds.added;
    is_so = record { round = m; present = present; steps = subst (λ (n : Next). SteppedBy Hears a at x y m old new adds.line n) (sym is) adds.is_so };
  }
