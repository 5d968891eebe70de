-- A number that rose since a moment was posted since then.
use Rattle.std.proofs.Common.{◌≡◌, ℕ, suc, ◌<◌, ◌≤◌, arith}
use Rattle.std.specs.Prelude.{Option, slice_get}
use Rattle.afr_base.specs.declared.ids.Kind.{Kind}
use Rattle.afr_lines.specs.declared.fault.Fault.{Fault}
use Rattle.afr_model_moves.specs.Honest.{Honest}
use Rattle.afr_model_moves.specs.Past.{Beginning, Log, pending, settled}
use Rattle.afr_model_moves.specs.Rules.{Lawful}
use Rattle.afr_law.proofs.Causes.Posted.{cause_of, cause_place, raised_since}
use Rattle.afr_law.proofs.Safety.Core.{rises}
use Rattle.afr_law.proofs.Safety.Steps.{honest_whole, lawful_whole}
use Rattle.afr_law_promises.specs.Missed.ByPosition.{AccusationsHaveCausesSince, CauseSince}

module _ (files : Beginning) (log : Log) (x c g : ℕ) (kind : Kind) where
  settled_next : (t : ℕ) → settled files log t x c g kind ≤ settled files log (suc t) x c g kind
  unfolding settled
  settled_next t = omega arith

  settled_rises : (s t : ℕ) → s ≤ t → settled files log s x c g kind ≤ settled files log t x c g kind
  settled_rises s t low = rises (λ u. settled files log u x c g kind) settled_next s t low

module _ (n : ℕ) (files : Beginning) (faults : ℕ → ℕ → Option Fault) (log : Log) (honest : Honest files faults log) (lawful : Lawful n files.keeps log) where
  pub cause_since : (s t x c g : ℕ) (kind : Kind) → s ≤ t → pending files log s x c g kind ≡ 0 → 0 < pending files log t x c g kind → CauseSince log s t x c g kind
  cause_since s t x c g kind low none some =
      let r = raised_since files log x c g kind s t low (omega (arith, none, some, settled_rises files log x c g kind s t low)) in
      let after = r.after in
      record { cause = cause_of n files faults log honest lawful s t x c g kind r; after = omega (arith, after, cause_place n files faults log honest lawful s t x c g kind r) }

-- the law, of lists of lines
pub causes_since : AccusationsHaveCausesSince
causes_since n files faults lines honest lawful s t x c g kind low none some = cause_since n files faults (slice_get lines) (honest_whole files faults lines honest) (lawful_whole n files.keeps lines lawful) s t x c g kind low none some
