-- A request that may be asked next makes a line that may come next, told what its brick gives.
use Rattle.std.proofs.Common.{◌≡◌, ◌<◌, Bool, true, false, ◌&&◌, ◌||◌, refl, ap, subst, List, length, Option, None, Some}
use Rattle.std.specs.Prelude.{suc}
use Rattle.afr_base.specs.Bricks.{member}
use Rattle.afr_base.specs.declared.ids.ActorId.{ActorId}
use Rattle.afr_base.specs.declared.ids.BrickId.{BrickId}
use Rattle.afr_lines.specs.declared.fault.Fault.{Fault}
use Rattle.afr_lines.specs.declared.fault.Fault.TheVariants.{Fail, Lost}
use Rattle.afr_lines.specs.Told.{told_by}
use Rattle.afr_lines.specs.Work.{is_of}
use Rattle.afr_lines.specs.declared.answer.Answer.TheVariants as answer
use Rattle.afr_lines.specs.declared.answer.Told.{Told}
use Rattle.afr_lines.specs.declared.line.Line.{Line}
use Rattle.afr_lines.specs.declared.line.Line.TheVariants.{Ask}
use Rattle.afr_lines.specs.declared.request.Request.{Request}
use Rattle.afr_lines.specs.declared.request.Request.TheVariants.{Apply, Lock, Mend, Post, Pre, Settle}
use Rattle.afr_model.specs.Honest.{IsHonest, RequestOutcome, copy_answer, fault_in, outcome_of, over_session, requests_to, tells}
use Rattle.afr_model.specs.Report.{started_bricks}
use Rattle.afr_lines.specs.Places.{Between, Fresh, Indexed, Place, Within, opens, place_of}
use Rattle.afr_model.specs.Sessions.{is_joined, is_linked}
use Rattle.afr_model.specs.Tables.{holds}
use Rattle.afr_object.specs.Object.{Object}
use Rattle.afr_plan.specs.declared.plan.Plan.{Plan}
use Rattle.afr_lines.specs.declared.lock.Domain.TheVariants.{Heal, Work}
use Rattle.afr_law_tables.specs.Codes.{kept_by}
use Rattle.afr_model_moves.specs.Discipline.{MayAskExactly, exact, in_force}
use Rattle.afr_model_moves.specs.Ranges.{ToldInRange}
use Rattle.afr_law.specs.ModelNext.{IsNext, MayAskNext, asking, is_carried_out}
use Rattle.afr_model_moves.specs.Covering.{Changes}
use Rattle.afr_model_moves.specs.Past as past
use Rattle.afr_model_moves.specs.Past.{place}
use Rattle.afr_model_moves.specs.Positions.{by_position}

-- a line opens sessions whatever it is told
opens_same : (at : Place) (a : ActorId) (b : BrickId) (r : Request) (t u : Told) (k l : Bool) → opens at (Ask a b r t k) ≡ opens at (Ask a b r u l)
opens_same Fresh a b r t u k l = refl
opens_same Indexed a b (Lock Heal area) t u k l = refl
opens_same Indexed a b (Lock Work area) t u k l = refl
opens_same Indexed a b r t u k l = refl
opens_same Between a b (Lock Heal area) t u k l = refl
opens_same Between a b (Lock Work area) t u k l = refl
opens_same Between a b r t u k l = refl
opens_same Within a b r t u k l = refl

begins_same : (at : Place) (a : ActorId) (b : BrickId) (r : Request) (t u : Told) (k l : Bool) → past.opens at (Some (Ask a b r t k)) ≡ past.opens at (Some (Ask a b r u l))
unfolding past.opens
begins_same Fresh a b r t u k l = refl
begins_same Indexed a b (Lock Heal area) t u k l = refl
begins_same Indexed a b (Lock Work area) t u k l = refl
begins_same Indexed a b r t u k l = refl
begins_same Between a b (Lock Heal area) t u k l = refl
begins_same Between a b (Lock Work area) t u k l = refl
begins_same Between a b r t u k l = refl
begins_same Within a b r t u k l = refl

-- an answer of an operation has no number
done_range : (live : Bool) (fault : Option Fault) (c : Option Object) → ToldInRange (over_session live fault (told_by (copy_answer (λ o. answer.Done) c))).told
done_range false fault c = tt
done_range true (Some Fail) c = tt
done_range true (Some Lost) c = tt
done_range true None None = tt
done_range true None (Some o) = tt

-- the line of a request, with its honest answer
pub record Comes (p : Plan) (log : List Line) (a : ActorId) (b : BrickId) (r : Request) : Type 0 where
  pub told : Told
  pub took : Bool
  pub is : took ≡ is_carried_out p a b r log
  pub said : IsHonest p (Ask a b r told took) log
  pub next : IsNext p (Ask a b r told took) log

module _ (p : Plan) (log : List Line) (a : ActorId) (b : BrickId) (r : Request) (may : MayAskNext p a b r log) where
  -- what would be told
  abbrev out : RequestOutcome
  out = outcome_of p a b.0 r (asking a b r) log

  pub said_by : IsHonest p (Ask a b r out.told out.took) log
  said_by =
      ap (λ (x : Bool). over_session (is_joined p a.0 b.0 log || (is_of a.0 (asking a b r) && x && member (started_bricks p.shape.n log) b.0 && is_linked a.0 b.0 log)) (fault_in p.faults b.0 (suc (requests_to b.0 log))) (tells a r b.0 (holds p log b.0) log))
      (opens_same (place_of a.0 log) a b r _ out.told false out.took)

  pub next_by : ToldInRange out.told → IsNext p (Ask a b r out.told out.took) log
  next_by range = (
    ((may.0).0, (may.0).1, (may.0).2, range),
    subst (λ (x : Bool). (b.0 < p.shape.n) × MayAskExactly p.shape.n (kept_by p) (in_force x (exact p.shape.n (kept_by p) (by_position log) (length log) a.0)) b.0 r)
        (begins_same (place (by_position log) (length log) a.0) a b r _ out.told false out.took) may.1,
    tt,
  )

  comes_by : ToldInRange out.told → Comes p log a b r
  comes_by range = record { told = out.told; took = out.took; is = refl; said = said_by; next = next_by range }

pub comes : (p : Plan) (log : List Line) (a : ActorId) (b : BrickId) (r : Request) → MayAskNext p a b r log → Changes r → Comes p log a b r
comes p log a b (Pre g kind) may so = comes_by p log a b (Pre g kind) may (done_range _ _ _)
comes p log a b (Apply q) may so = comes_by p log a b (Apply q) may (done_range _ _ _)
comes p log a b (Post q g kind missed) may so = comes_by p log a b (Post q g kind missed) may (done_range _ _ _)
comes p log a b (Mend repair) may so = comes_by p log a b (Mend repair) may (done_range _ _ _)
comes p log a b (Settle g kind less) may so = comes_by p log a b (Settle g kind less) may (done_range _ _ _)
comes p log a b r may so = absurd so
