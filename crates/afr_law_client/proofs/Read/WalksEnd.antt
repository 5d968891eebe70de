-- What a walk reads follows its command's path, and what it leaves when it has ended.
use Rattle.std.proofs.Common.{◌≡◌, ℕ, Bool, true, List, Some, length, slice_get, refl, subst}
use Rattle.std.proofs.lemmas.Option.{slice_get-get_or}
use Rattle.afr_base.specs.declared.ids.ActorId.{ActorId}
use Rattle.afr_base.specs.declared.ids.NameId.{NameId}
use Rattle.afr_lines.specs.Work.{Work}
use Rattle.afr_lines.specs.declared.answer.Told.{Told}
use Rattle.afr_lines.specs.declared.line.Line.TheVariants.{Ask}
use Rattle.afr_plan.specs.declared.command.Command.{Command}
use Rattle.afr_plan.specs.declared.plan.Plan.{Plan}
use Rattle.afr_model.specs.Keeping.{KeepsTo}
use Rattle.afr_client_walk.specs.Walk.{IsStep, IsWalk, is_walking, name_in, next_at, next_in}
use Rattle.afr_client_walk.specs.declared.walk.Walk.{Walk}
use Rattle.afr_client_walk.specs.declared.walk.WalkStep.{WalkStep}
use Rattle.afr_client_walk.specs.declared.walk.WalkStep.TheVariants.{Looking, Naming, Arrived, Stopped}
use Rattle.afr_law_client.specs.Read.WalkLaws.{WalkAbout, WalkArrives, WalkStops}
use Rattle.afr_law_client.specs.Read.WalkTelling.{TellsAt, WalkTells}
use Rattle.afr_law_client.proofs.Read.Ended.{stopped_end}
use Rattle.afr_law_client.proofs.Read.Untouched.{touches_nothing}
use Rattle.afr_law_client.proofs.Read.Walking.{walk_about}

-- each name is the path's next one, asked in the directory where it stands
pub walk_follows : (p : Plan) (c : Command) (w : Walk) (lines : Work) (a : ActorId) (told : Told) (took : Bool) (at : ℕ) → IsWalk w → is_walking w.step ≡ true → WalkTells p c w lines
    → KeepsTo p c (Ask a (next_in w).0 (next_in w).1 told took) at lines
walk_follows p c w lines a told took at sound walks k = by w.step walks sound.step k.step
  where
    by : (step : WalkStep) → is_walking step ≡ true → IsStep w.shape.n (length w.path) w.read step → TellsAt p c step w.read w.object lines → KeepsTo p c (Ask a (next_at step w).0 (next_at step w).1 told took) at lines
    by (Looking s) h i t = tt
    by (Naming b) h i (goes, dir, source, all) = record {
      read = w.read;
      object = w.object;
      stands = goes.path;
      asked = refl;
      next = subst (λ (names : List NameId). slice_get names w.read ≡ Some (name_in w)) k.path (slice_get-get_or w.path w.read (record { 0 = 0 }) i.1);
    }
    by Arrived h i t = absurd (cc h)
    by (Stopped why) h i t = absurd (cc h)

pub about : WalkAbout
about p c w lines a told took at sound walks k large = (walk_about p c w lines a told took sound walks k large, walk_follows p c w lines a told took at sound walks k)

pub stops : WalkStops
stops p c w lines why k e large = stopped_end p c lines _ k.whole large (subst (λ (step : WalkStep). TellsAt p c step w.read w.object lines) e k.step)

pub arrives : WalkArrives
arrives p c w lines sound k e =
    let t = subst (λ (step : WalkStep). TellsAt p c step w.read w.object lines) e k.step in
    let i = subst (λ (step : WalkStep). IsStep w.shape.n (length w.path) w.read step) e sound.step in
    record { goes = t.0; whole = subst (λ (names : List NameId). w.read ≡ length names) k.path i; all = t.1; untouched = touches_nothing p.shape.n lines t.0.only }
