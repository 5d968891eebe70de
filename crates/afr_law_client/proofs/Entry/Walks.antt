-- A line of the walk to the directory, and where its path stands after it.
use Rattle.std.proofs.Common.{◌≡◌, ◌≢◌, ◌⊎◌, ℕ, ◌+◌, ◌<◌, ◌==◌, Bool, true, false, List, ◌∷◌, Option, Some, None, length, refl, sym, ap, ◌∙◌, subst, arith, if◌then◌else◌, inl, inr}
use Rattle.std.proofs.lemmas.Bool.Decides.{eqb_tells}
use Rattle.afr_base.specs.declared.ids.ActorId.{ActorId}
use Rattle.afr_base.specs.declared.ids.BrickId.{BrickId}
use Rattle.afr_base.specs.declared.ids.NameId.{NameId}
use Rattle.afr_base.proofs.TestLemmas.{other_number}
use Rattle.afr_lines.specs.Told.{told_by}
use Rattle.afr_lines.specs.Work.{Work}
use Rattle.afr_lines.specs.declared.answer.Answer.{Answer}
use Rattle.afr_lines.specs.declared.answer.Answer.TheVariants as answer
use Rattle.afr_lines.specs.declared.line.Line.{Line}
use Rattle.afr_lines.specs.declared.line.Line.TheVariants.{Ask}
use Rattle.afr_lines.specs.declared.request.Request.TheVariants.{ReadName}
use Rattle.afr_object.specs.Tables.{is_dir}
use Rattle.afr_object.specs.declared.entry.Entry.{Entry}
use Rattle.afr_plan.specs.declared.command.Command.{Command}
use Rattle.afr_plan.specs.declared.command.Command.TheVariants as command
use Rattle.afr_plan.specs.declared.plan.Plan.{Plan}
use Rattle.afr_model.specs.Showing.{Path, At, NoName, Untold, one_name, path_by}
use Rattle.afr_model.specs.Standing.{path_upto}
use Rattle.afr_model.specs.Tables.{entry_at, holds}
use Rattle.afr_client_walk.specs.Choosing.{IsAmong}
use Rattle.afr_client_walk.specs.Looks.{no_look}
use Rattle.afr_client_walk.specs.Walk.{IsStep, IsWalk, choices_of, is_walking, name_in, named, next_at, next_in, noted, step_at, walked, walked_at}
use Rattle.afr_client_walk.specs.declared.stop.Stop.{Stop}
use Rattle.afr_client_walk.specs.declared.stop.Stop.TheVariants as stop
use Rattle.afr_client_walk.specs.declared.walk.Walk.{Walk}
use Rattle.afr_client_walk.specs.declared.walk.WalkStep.{WalkStep}
use Rattle.afr_client_walk.specs.declared.walk.WalkStep.TheVariants as walking
use Rattle.afr_client_walk.proofs.WalkLemmas.{is_walked}
use Rattle.afr_client_entry.specs.Entry.{after_walk}
use Rattle.afr_client_entry.specs.declared.job.EntryJob.{EntryJob}
use Rattle.afr_client_entry.proofs.Renames.RenameLemmas.{walked_path}
use Rattle.afr_law_client.specs.Read.Lines.{CanAnswer}
use Rattle.afr_law_client.specs.Read.WalkTelling.{TellsAt, WalkTells}
use Rattle.afr_law_client.proofs.Read.Walking.{walk_tells_more}
use Rattle.afr_law_client.specs.Entry.EntryTelling.{EntryTells, TellsIn, Walks, command_of}
use Rattle.afr_law_client.proofs.Entry.Begins.{IsOnWay, moved, read_in}
use Rattle.afr_law_client.proofs.Entry.Names.{Found, Fails, Lost, NameTold, name_told, upto_more}

pub at_most : (k t : ℕ) (object : Entry) → t < k → (path : Path) → path ≡ At t object → IsOnWay k path
at_most k t object l path e read o f = subst (λ (n : ℕ). n < k) (ap read_in (sym e ∙ f)) l

pub none_at : (k : ℕ) (path : Path) → (path ≡ NoName) ⊎ (path ≡ Untold) → IsOnWay k path
none_at k path (inl e) read object f = absurd (cc (e, f))
none_at k path (inr e) read object f = absurd (cc (e, f))

-- one name more, or none
one_more : (k read : ℕ) (object : Entry) (entry : Option Entry) → read + 1 < k → (path : Path) → path ≡ one_name entry (At read object) → IsOnWay k path
one_more k read object None l path e = none_at k path (inl e)
one_more k read object (Some entry) l path e = at_most k (read + 1) entry l path e

-- a name that leads on to what a walk stops at isn't the path's last
stops_before : (read k : ℕ) (entry : Entry) (why : Stop) → read < k → step_at k (read + 1) entry ≡ walking.Stopped why → read + 1 < k
stops_before read k entry why l e = go (read + 1 == k) (eqb_tells (read + 1) k) e
  where
    go : (f : Bool) → (f ≡ true) × (read + 1 ≡ k) ⊎ (f ≡ false) × (read + 1 ≢ k) → (if f then walking.Arrived else (if is_dir entry.what then walking.Looking no_look else walking.Stopped stop.NotDir)) ≡ walking.Stopped why → read + 1 < k
    go true h e = absurd (cc e)
    go false (inl h) e = absurd (cc h.0)
    go false (inr h) e = let other = h.1 in omega (arith, l, other)

module _ (p : Plan) (w : Walk) (lines : Work) (a : ActorId) (chosen : BrickId) (heard : Answer) (took : Bool) (log : List Line) (sound : IsWalk w) (k : Walks p w lines) where
  abbrev more : WalkStep → Work
  more step = (Ask a (next_at step w).0 (next_at step w).1 (told_by heard) took, log) ∷ lines

  abbrev after_name : ℕ → Answer → Walk
  after_name at x = named x (noted (next_in w) (told_by heard) at w)

  abbrev Shows : BrickId → Answer → Type 0
  Shows b x = IsOnWay (length w.path) (path_by p ((Ask a b (ReadName w.object.gfid (name_in w)) (told_by x) took, log) ∷ lines))

  -- where the walk stops after this line, its path hasn't led to the directory
  on_way : (step : WalkStep) (at : ℕ) → is_walking step ≡ true → IsStep w.shape.n (length w.path) w.read step → TellsAt p (command.Ls w.path) step w.read w.object lines → CanAnswer p (next_at step w).0.0 (next_at step w).1 log heard
      → (why : Stop) → (walked_at chosen step heard (noted (next_in w) (told_by heard) at w)).step ≡ walking.Stopped why → IsOnWay (length w.path) (path_by p (more step))
  on_way (walking.Looking s) at h i t can why e = at_most (length w.path) w.read w.object i.1 (path_by p lines) t.0.path
  on_way (walking.Naming b) at h i t can why e = go (name_told p b.0 w.object.gfid (name_in w) log heard can)
    where
      given : (entry : Option Entry) → heard ≡ answer.Entry entry → entry_at w.object.gfid (name_in w) (holds p log b.0) ≡ entry → Shows b (answer.Entry entry)
      given None f g = none_at (length w.path) _ (inl (rw (g, t.0.path) refl))
      given (Some entry) f g =
          one_more (length w.path) w.read w.object (Some entry) (stops_before w.read (length w.path) entry why i.1 (subst (λ (x : Answer). (after_name at x).step ≡ walking.Stopped why) f e)) _ (rw (g, t.0.path) refl)

      go : NameTold p b.0 w.object.gfid (name_in w) log heard → Shows b heard
      go (Found entry f g) = subst (Shows b) (sym f) (given entry f g)
      go (Lost f) = subst (Shows b) (sym f) (none_at (length w.path) _ (inr refl))
      go (Fails f) = subst (Shows b) (sym f) (none_at (length w.path) _ (inr refl))
  on_way walking.Arrived at h i t can why e = absurd (cc h)
  on_way (walking.Stopped w2) at h i t can why e = absurd (cc h)

  -- the path without its last name goes on with the whole path
  upto_on : (step : WalkStep) → is_walking step ≡ true → IsStep w.shape.n (length w.path) w.read step → TellsAt p (command.Ls w.path) step w.read w.object lines → path_upto (length w.path) p (more step) ≡ path_by p (more step)
  upto_on (walking.Looking s) h i t = upto_more (length w.path) p lines (Ask a (next_at (walking.Looking s) w).0 (next_at (walking.Looking s) w).1 (told_by heard) took) log w.read w.object k.upto t.0.path (other_number w.read (length w.path) i.1)
  upto_on (walking.Naming b) h i t = upto_more (length w.path) p lines (Ask a b (ReadName w.object.gfid (name_in w)) (told_by heard) took) log w.read w.object k.upto t.0.path (other_number w.read (length w.path) i.1)
  upto_on walking.Arrived h i t = absurd (cc h)
  upto_on (walking.Stopped why) h i t = absurd (cc h)

  pub walks_more : (c : Command) (job : EntryJob) → is_walking w.step ≡ true → c ≡ command_of job w.path → CanAnswer p (next_in w).0.0 (next_in w).1 log heard → IsAmong (choices_of heard w) chosen
      → EntryTells p c (record { walk = walked chosen heard (length log) w; job = job; stage = after_walk job (walked chosen heard (length log) w) }) (more w.step)
  walks_more c job walks of can among = record {
    shape = tells.shape;
    named = sym same;
    stage = subst (λ (x : Command). TellsIn p x job (after_walk job after) after (more w.step)) same (moved p job after (more w.step) (is_walked chosen heard (length log) w sound walks among) own on);
  }
    where
      after : Walk
      after = walked chosen heard (length log) w

      kept : after.path ≡ w.path
      kept = walked_path chosen heard (length log) w

      same : command_of job after.path ≡ c
      same = ap (λ (path : List NameId). command_of job path) kept ∙ sym of

      tells : WalkTells p (command.Ls w.path) after (more w.step)
      tells = walk_tells_more p (command.Ls w.path) w lines a chosen heard took log (length log) sound walks k.tells can among

      own : Walks p after (more w.step)
      own = record {
        tells = subst (λ (path : List NameId). WalkTells p (command.Ls path) after (more w.step)) (sym kept) tells;
        upto = subst (λ (path : List NameId). path_upto (length path) p (more w.step) ≡ path_by p (more w.step)) (sym kept) (upto_on w.step walks sound.step k.tells.step);
      }

      on : (why : Stop) → after.step ≡ walking.Stopped why → IsOnWay (length after.path) (path_by p (more w.step))
      on why e = subst (λ (path : List NameId). IsOnWay (length path) (path_by p (more w.step))) (sym kept) (on_way w.step (length log) walks sound.step k.tells.step can why e)
