-- A log that is full too early is one of a plan with fewer turns than its bound.
use Rattle.std.proofs.Common.{Result, Ok, Err, ◌≡◌, ◌+◌, ◌*◌, List, false, length, inl, inr, sym, ◌∙◌, true≢false}
use Rattle.std.specs.Prelude.{OnOk, is_err}
use Rattle.std.proofs.lemmas.Bool.{cases_lt}
use Rattle.afr_law_bound.specs.Ends.Law.{AreEager}
use Rattle.afr_law_bound.specs.Ends.Left.{bound_of}
use Rattle.afr_cli.specs.Live.{IsShortLive}
use Rattle.afr_cli.specs.Statuses.{IsShort, IsWorkLeft}
use Rattle.afr_lines.specs.declared.line.Line.{Line}
use Rattle.afr_live.specs.Ending.{EndsInAnyOrder}
use Rattle.afr_model.specs.Ordered.{actors_of}
use Rattle.afr_order.specs.Ending.{EndsInBound}
use Rattle.afr_plan.specs.declared.plan.Plan.{Plan}
use Rattle.afr_volume.specs.State.{State, no_volume}

-- what an answer promises that is no error
pub unless_err : {A E : Type 0} (result : Result A E) (P : Type 0) → is_err result ≡ false → OnOk result P → P
unless_err (Ok x) P none h = h
unless_err (Err e) P none h = absurd (true≢false none)

pub short_plan : (p : Plan) (log : List Line) → EndsInBound p log → IsWorkLeft p log → IsShort p
short_plan p log ends work = elim (cases_lt p.turns (bound_of p)) [
  | inl short ↦ short
  | inr enough ↦ absurd (true≢false (sym (ends enough work.actor work.planned) ∙ work.left))
]

pub short_live : (p : Plan) (log : List Line) → EndsInAnyOrder p log → IsWorkLeft p log → IsShortLive p
short_live p log ends work = elim (cases_lt p.turns (2 * bound_of p + length (actors_of p) * length p.events)) [
  | inl short ↦ short
  | inr enough ↦ absurd (true≢false (sym (ends enough work.actor work.planned) ∙ work.left))
]

-- before a plan was handed in nobody was told anything
pub nothing_eager : (v : State) → v ≡ no_volume → AreEager v.log
nothing_eager v e = rw e tt
