-- The started servers are the started bricks of the log.
use Rattle.std.proofs.Common.{◌≡◌, ℕ, ◌≤◌, ◌<◌, Bool, true, false, List, length, refl, sym, ◌∙◌, arith, ap, ◌⊎◌, inl, inr}
use Rattle.std.proofs.lemmas.Option.{slice_get_past}
use Rattle.afr_base.specs.Bricks.{IsWithin, member}
use Rattle.afr_base.proofs.RisingLemmas.{five_is}
use Rattle.afr_model.proofs.StartedLemmas.{rising_started}
use Rattle.afr_lines.specs.declared.line.Line.{Line}
use Rattle.afr_model.specs.Report.{started_bricks}
use Rattle.afr_plan.specs.declared.plan.Plan.{Plan}
use Rattle.afr_server.specs.Serving.{Serving}
use Rattle.afr_servers.proofs.PlaceLemmas.{stands}
use Rattle.afr_servers.specs.Log.{AreServed}
use Rattle.afr_servers.specs.Needs.{StartedAreKnown}
use Rattle.afr_servers.specs.Started.{is_started, is_up, started_in}

-- ---- the started servers
started_there : (p : Plan) (log : List Line) (servers : List Serving) → AreServed p log servers → IsWithin p.shape.n (started_bricks p.shape.n log) → (b : ℕ) → member (started_bricks p.shape.n log) b ≡ is_started b servers
started_there p log servers v within b = elim (around b (length servers)) [ inl less ↦ inside less | inr more ↦ outside more ]
  where
    around : (x y : ℕ) → (x < y) ⊎ (y ≤ x)
    around x y = grind arith

    inside : b < length servers → member (started_bricks p.shape.n log) b ≡ is_started b servers
    inside less = let s = stands servers b less in sym (v.each b s.0 s.1).started ∙ ap is_up (sym s.1)

    outside : length servers ≤ b → member (started_bricks p.shape.n log) b ≡ is_started b servers
    outside more = by (member (started_bricks p.shape.n log) b) refl ∙ ap is_up (sym (slice_get_past servers b more))
      where
        by : (u : Bool) → member (started_bricks p.shape.n log) b ≡ u → u ≡ false
        by true e = absurd (omega (arith, within b e, more, v.few))
        by false e = refl

all_started : (p : Plan) (log : List Line) (servers : List Serving) → p.shape.n ≤ 5 → AreServed p log servers → IsWithin p.shape.n (started_bricks p.shape.n log) → started_in servers ≡ started_bricks p.shape.n log
unfolding started_in
all_started p log servers few v within =
    five_is (λ b. is_started b servers) (started_bricks p.shape.n log) (rising_started p.shape.n log) (started_there p log servers v within) (λ b up. omega (arith, few, within b (started_there p log servers v within b ∙ up)))

pub started_known : StartedAreKnown
started_known = record { each = λ p log b servers v s h. (v.each b s h).started; all = all_started }
