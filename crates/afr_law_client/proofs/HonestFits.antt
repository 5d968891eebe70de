-- What is honestly told fits what was asked.
use Rattle.std.proofs.Common.{◌≡◌, ◌⊎◌, ℕ, suc, Bool, true, false, List, Option, Some, None, refl, sym, ap, subst, inl, inr}
use Rattle.afr_base.specs.declared.ids.ActorId.{ActorId}
use Rattle.afr_base.specs.declared.ids.BrickId.{BrickId}
use Rattle.afr_lines.specs.declared.fault.Fault.{Fault}
use Rattle.afr_lines.specs.declared.fault.Fault.TheVariants.{Fail, Lost}
use Rattle.afr_object.specs.Tables.{Table, copy_at}
use Rattle.afr_object.specs.Object.{Object}
use Rattle.afr_lines.specs.Log.{change_at}
use Rattle.afr_lines.specs.Told.{told_by}
use Rattle.afr_lines.specs.declared.answer.Told.{Told}
use Rattle.afr_lines.specs.declared.answer.Told.TheVariants as as_told
use Rattle.afr_lines.specs.declared.line.Line.{Line}
use Rattle.afr_lines.specs.declared.line.Line.TheVariants.{Ask}
use Rattle.afr_lines.specs.declared.request.Request.{Request}
use Rattle.afr_lines.specs.declared.request.Request.TheVariants as request
use Rattle.afr_plan.specs.declared.plan.Plan.{Plan}
use Rattle.afr_model.specs.Honest.{RequestOutcome, answer_by, copy_for, fault_in, faulted, in_the_way, is_live, over_session, requests_to, tells, IsHonest}
use Rattle.afr_model.specs.Tables.{holds}
use Rattle.afr_law_client.specs.Fits.{Fits, FitsPhase}
use Rattle.afr_law_client.specs.Laws.{HonestFits, HonestPhases}

-- a phase was done or failed, or the brick lacks the object
abbrev FitsOrLacks : Request → Told → Type 0
FitsOrLacks asked told = (told ≡ as_told.NoObject) ⊎ FitsPhase asked told

-- both facts of an answer
record Both (asked : Request) (told : Told) : Type 0 where
  fits : Fits asked told
  phase : FitsOrLacks asked told

failed_fits : (asked : Request) → Both asked as_told.Failed
failed_fits (request.Lock domain area) = record { fits = λ granted held. refl; phase = inr tt }
failed_fits (request.Look g) = record { fits = λ seen. refl; phase = inr tt }
failed_fits (request.Pre g kind) = record { fits = λ done. refl; phase = inr (λ done. refl) }
failed_fits (request.Apply attempt) = record { fits = λ done. refl; phase = inr (λ done. refl) }
failed_fits (request.Post attempt g kind missed) = record { fits = tt; phase = inr (λ done. refl) }
failed_fits asked = record { fits = tt; phase = inr tt }

unreached_fits : (asked : Request) → Both asked as_told.NotConnected
unreached_fits (request.Lock domain area) = record { fits = λ granted held. refl; phase = inr tt }
unreached_fits (request.Look g) = record { fits = λ seen. refl; phase = inr tt }
unreached_fits (request.Pre g kind) = record { fits = λ done. refl; phase = inr (λ done. refl) }
unreached_fits (request.Apply attempt) = record { fits = λ done. refl; phase = inr (λ done. refl) }
unreached_fits (request.Post attempt g kind missed) = record { fits = tt; phase = inr (λ done. refl) }
unreached_fits asked = record { fits = tt; phase = inr tt }

-- what a brick that carries a request out answers
tells_fits : (a : ActorId) (asked : Request) (b : ℕ) (t : Table) (older : List Line) → Both asked (tells a asked b t older)
tells_fits a (request.Lock domain area) b t older = go (in_the_way a (request.Lock domain area) b older)
  where
    go : (way : Option ActorId) → Both (request.Lock domain area) (told_by (answer_by way (request.Lock domain area) t older))
    go None = record { fits = λ granted held. absurd (cc granted); phase = inr tt }
    go (Some owner) = record { fits = λ granted held. absurd (cc held); phase = inr tt }
tells_fits a (request.Look g) b t older = go (copy_at g t) refl
  where
    go : (copy : Option Object) → copy_at g t ≡ copy → Both (request.Look g) (tells a (request.Look g) b t older)
    go None e = rw e (record { fits = λ seen. refl; phase = inr tt })
    go (Some o) e = rw e (record { fits = λ seen. absurd (cc seen); phase = inr tt })
tells_fits a (request.Pre g kind) b t older = go (copy_at g t) refl
  where
    go : (copy : Option Object) → copy_at g t ≡ copy → Both (request.Pre g kind) (tells a (request.Pre g kind) b t older)
    go None e = rw e (record { fits = λ done. refl; phase = inl refl })
    go (Some o) e = rw e (record { fits = λ done. absurd (cc done); phase = inr (λ done. absurd (cc done)) })
tells_fits a (request.Apply attempt) b t older = go (copy_for (change_at attempt older) t) refl
  where
    go : (copy : Option Object) → copy_for (change_at attempt older) t ≡ copy → Both (request.Apply attempt) (tells a (request.Apply attempt) b t older)
    go None e = rw e (record { fits = λ done. refl; phase = inl refl })
    go (Some o) e = rw e (record { fits = λ done. absurd (cc done); phase = inr (λ done. absurd (cc done)) })
tells_fits a (request.Post attempt g kind missed) b t older = go (copy_at g t) refl
  where
    go : (copy : Option Object) → copy_at g t ≡ copy → Both (request.Post attempt g kind missed) (tells a (request.Post attempt g kind missed) b t older)
    go None e = rw e (record { fits = tt; phase = inl refl })
    go (Some o) e = rw e (record { fits = tt; phase = inr (λ done. absurd (cc done)) })
tells_fits a asked b t older = record { fits = tt; phase = inr tt }

-- an honest line
honest_both : (p : Plan) (a : ActorId) (b : BrickId) (asked : Request) (told : Told) (took : Bool) (older : List Line) → IsHonest p (Ask a b asked told took) older → Both asked told
honest_both p a b asked told took older honest = subst (λ (x : Told). Both asked x) (sym (ap (λ (o : RequestOutcome). o.told) honest)) (over (is_live p a b.0 (Ask a b asked told took) older))
  where
    said : Told
    said = tells a asked b.0 (holds p older b.0) older

    by_fault : (fault : Option Fault) → Both asked (faulted fault said).told
    by_fault None = tells_fits a asked b.0 (holds p older b.0) older
    by_fault (Some Fail) = failed_fits asked
    by_fault (Some Lost) = unreached_fits asked

    over : (live : Bool) → Both asked (over_session live (fault_in p.faults b.0 (suc (requests_to b.0 older))) said).told
    over true = by_fault (fault_in p.faults b.0 (suc (requests_to b.0 older)))
    over false = unreached_fits asked

pub honest_fits : HonestFits
honest_fits p (Ask a b asked told took) older honest = (honest_both p a b asked told took older honest).fits
honest_fits p line older honest = tt

pub honest_phases : HonestPhases
honest_phases p a b asked told took older honest there = go (honest_both p a b asked told took older honest).phase
  where
    go : FitsOrLacks asked told → FitsPhase asked told
    go (inl lacks) = absurd (there lacks)
    go (inr fits) = fits
