-- A walk reads each name at a copy that the rule picked by the last looks of its lines.
use Rattle.std.proofs.Common.{◌≡◌, ℕ, ◌+◌, ◌≤◌, ◌==◌, Bool, true, false, List, [], ◌∷◌, Option, None, Some, refl, sym, ap, subst, length, if◌then◌else◌}
use Rattle.afr_base.specs.Bricks.{added, is_nothing, lowest}
use Rattle.afr_base.specs.declared.ids.ActorId.{ActorId}
use Rattle.afr_base.specs.declared.ids.BrickId.{BrickId}
use Rattle.afr_base.specs.declared.ids.Kind.{Kind}
use Rattle.afr_base.specs.declared.ids.Kind.TheVariants.{Names}
use Rattle.afr_base.specs.declared.ids.Shape.{Shape}
use Rattle.afr_choice.specs.Verdict.{verdict_of}
use Rattle.afr_choice.specs.declared.looked.Looked.{Looked}
use Rattle.afr_choice.specs.declared.verdict.Verdict.{Verdict}
use Rattle.afr_choice.specs.declared.verdict.Verdict.TheVariants.{Bare, Short, Sources, Split}
use Rattle.afr_law_client.proofs.Read.LookHeard.{LookTells, look_known, look_line}
use Rattle.afr_law_client.specs.Read.WalkTelling.{TellsAt, WalkTells}
use Rattle.afr_lines.specs.Told.{told_by}
use Rattle.afr_lines.specs.Work.{Work, work}
use Rattle.afr_lines.specs.declared.answer.Answer.{Answer}
use Rattle.afr_lines.specs.declared.answer.Answer.TheVariants as answer
use Rattle.afr_lines.specs.declared.answer.Told.{Told}
use Rattle.afr_lines.specs.declared.line.Line.{Line}
use Rattle.afr_lines.specs.declared.line.Line.TheVariants.{Ask, Begin}
use Rattle.afr_lines.specs.declared.request.Request.TheVariants.{Look, ReadName}
use Rattle.afr_model.specs.Chosen.{Picks, ReadsPicked}
use Rattle.afr_model.specs.Showing.{among, looked_by}
use Rattle.afr_object.specs.Tables.{is_dir}
use Rattle.afr_object.specs.declared.change.Change.{Change}
use Rattle.afr_object.specs.declared.entry.Entry.{Entry}
use Rattle.afr_plan.specs.declared.command.Command.{Command}
use Rattle.afr_plan.specs.declared.plan.Plan.{Plan}
use Rattle.afr_law_picks.proofs.Rule.{Picked, source_picked}
use Rattle.afr_law_picks.specs.Picked.{PickedStep, PickedWalk}
use Rattle.afr_law_picks.specs.Readings.{looked_here}
use Rattle.afr_client_walk.specs.Choosing.{choices, choices_after, reader_of}
use Rattle.afr_client_walk.specs.Looks.{IsLooks, heard_look, left_to_look, no_look}
use Rattle.afr_client_walk.specs.Walk.{IsStep, IsWalk, after_looks, choices_at, choices_of, is_walking, name_in, named, next_at, next_in, noted, step_at, verdict_step, walked, walked_at}
use Rattle.afr_client_walk.specs.declared.looks.Looks.{Looks}
use Rattle.afr_client_walk.specs.declared.stop.Stop.TheVariants as stop
use Rattle.afr_client_walk.specs.declared.walk.Walk.{Walk}
use Rattle.afr_client_walk.specs.declared.walk.WalkStep.{WalkStep}
use Rattle.afr_client_walk.specs.declared.walk.WalkStep.TheVariants.{Arrived, Looking, Naming, Stopped}

module _ (picks : Picks) (p : Plan) where
  -- ---- once all were looked at
  -- what is picked then is picked by the last looks of the lines
  pub picked_by_lines : (read : ℕ) (object : Entry) (after : Looks) (more : Work) (kind : Kind) (picked : Option BrickId) → LookTells p read object after more → is_nothing (left_to_look p.shape.n after) ≡ true
      → Picked picks (choices_after p.shape kind after) picked → Picked picks (choices p.shape (looked_by object.gfid more) kind) picked
  picked_by_lines read object after more kind picked known over k =
      subst (λ (x : Looked). Picked picks (choices p.shape x kind) picked) (known.same over) (subst (λ (x : Bool). Picked picks (if x then choices p.shape after.looked kind else []) picked) over k)

  look_judged : (object : Entry) (more : Work) (picked : Option BrickId) (looked : Looked) → looked ≡ looked_by object.gfid more → Picked picks (choices p.shape (looked_by object.gfid more) Names) picked
      → (v : Verdict) → verdict_of p.shape looked Names ≡ v → PickedStep picks p (verdict_step (reader_of picked) v looked.views) object.gfid more
  look_judged object more picked looked same k Short e = tt
  look_judged object more picked looked same k Bare e = tt
  look_judged object more picked looked same k Split e = tt
  look_judged object more picked looked same k (Sources s) e =
      source_picked picks p.shape (looked_by object.gfid more) Names s picked (subst (λ (x : Looked). verdict_of p.shape x Names ≡ Sources s) same e) k

  -- after a look
  look_picked : (read : ℕ) (object : Entry) (after : Looks) (more : Work) (picked : Option BrickId) → LookTells p read object after more → after.asked ≡ among looked_here more
      → Picked picks (choices_after p.shape Names after) picked → PickedStep picks p (after_looks (reader_of picked) p.shape after) object.gfid more
  look_picked read object after more picked known asked k = go (is_nothing (left_to_look p.shape.n after)) refl
    where
      go : (e : Bool) → is_nothing (left_to_look p.shape.n after) ≡ e
          → PickedStep picks p (if e then verdict_step (reader_of picked) (verdict_of p.shape after.looked Names) after.looked.views else Looking after) object.gfid more
      go true over = look_judged object more picked after.looked (known.same over) (picked_by_lines read object after more Names picked known over k) (verdict_of p.shape after.looked Names) refl
      go false over = asked

  -- ---- a name
  step_picked : (names read : ℕ) (object : Entry) (more : Work) → among looked_here more ≡ [] → PickedStep picks p (step_at names read object) object.gfid more
  step_picked names read object more none = go (read == names) (is_dir object.what)
    where
      go : (e d : Bool) → PickedStep picks p (if e then Arrived else (if d then Looking no_look else Stopped stop.NotDir)) object.gfid more
      go true d = none
      go false true = sym none
      go false false = tt

  name_picked : (w : Walk) (heard : Answer) (more : Work) → among looked_here more ≡ [] → PickedWalk picks p (named heard w) more
  name_picked w (answer.Entry (Some entry)) more none = step_picked (length w.path) (w.read + 1) entry more none
  name_picked w (answer.Entry None) more none = tt
  name_picked w heard more none = tt

  -- ---- a line of a walk
  pub walk_picked : (c : Command) (w : Walk) (lines : Work) (a : ActorId) (picked : Option BrickId) (heard : Answer) (took : Bool) (log : List Line) (at : ℕ) → IsWalk w → is_walking w.step ≡ true → WalkTells p c w lines
      → Picked picks (choices_of heard w) picked → PickedWalk picks p w lines → PickedWalk picks p (walked (reader_of picked) heard at w) ((Ask a (next_in w).0 (next_in w).1 (told_by heard) took, log) ∷ lines)
  walk_picked c w lines a picked heard took log at sound walks k answers was = by w.step walks sound.step k.step answers was
    where
      start : Walk
      start = noted (next_in w) (told_by heard) at w

      few : p.shape.n ≤ 5
      few = subst (λ (x : Shape). x.n ≤ 5) k.shape sound.few

      by : (step : WalkStep) → is_walking step ≡ true → IsStep w.shape.n (length w.path) w.read step → TellsAt p c step w.read w.object lines → Picked picks (choices_at step heard w) picked → PickedStep picks p step w.object.gfid lines
          → PickedWalk picks p (walked_at (reader_of picked) step heard start) ((Ask a (next_at step w).0 (next_at step w).1 (told_by heard) took, log) ∷ lines)
      by (Looking s) h i (goes, dir, agree, but) answers was =
          subst (λ (x : Shape). PickedStep picks p (after_looks (reader_of picked) x (heard_look x.n (told_by heard) s)) w.object.gfid ((Ask a (record { 0 = lowest (left_to_look x.n s) }) (Look w.object.gfid) (told_by heard) took, log) ∷ lines)) (sym k.shape)
          (look_picked w.read w.object (heard_look p.shape.n (told_by heard) s) (look_line p w.object a took log s (told_by heard) lines) picked
          (look_known p few w.read w.object lines a took log s (told_by heard) (subst (λ (x : Shape). IsLooks x.n s) k.shape i.0) goes agree but)
          (ap (added (lowest (left_to_look p.shape.n s))) was)
          (subst (λ (x : Shape). Picked picks (choices_after x Names (heard_look x.n (told_by heard) s)) picked) k.shape answers))
      by (Naming b) h i t answers was = name_picked start heard ((Ask a b (ReadName w.object.gfid (name_in w)) (told_by heard) took, log) ∷ lines) refl
      by Arrived h i t answers was = absurd (cc h)
      by (Stopped why) h i t answers was = absurd (cc h)

  -- and goes to that copy
  pub walk_reads : (w : Walk) (a : ActorId) (told : Told) (took : Bool) (log : List Line) → is_walking w.step ≡ true → PickedWalk picks p w (work a.0 log) → ReadsPicked picks p (Ask a (next_in w).0 (next_in w).1 told took) log
  walk_reads w a told took log walks was = by w.step walks was
    where
      by : (step : WalkStep) → is_walking step ≡ true → PickedStep picks p step w.object.gfid (work a.0 log) → ReadsPicked picks p (Ask a (next_at step w).0 (next_at step w).1 told took) log
      by (Looking s) h was = tt
      by (Naming b) h was = λ client. was
      by Arrived h was = absurd (cc h)
      by (Stopped why) h was = absurd (cc h)

  -- a walk that begins has no lines
  pub walk_begins : (shape : Shape) (names : ℕ) (object : Entry) → PickedStep picks p (step_at names 0 object) object.gfid []
  walk_begins shape names object = step_picked names 0 object [] refl

  -- a Begin line leaves all as it was
  pub walk_begun : (w : Walk) (lines : Work) (a : ActorId) (change : Change) (log : List Line) → PickedWalk picks p w lines → PickedWalk picks p w ((Begin a change, log) ∷ lines)
  walk_begun w lines a change log was = by w.step was
    where
      by : (step : WalkStep) → PickedStep picks p step w.object.gfid lines → PickedStep picks p step w.object.gfid ((Begin a change, log) ∷ lines)
      by (Looking s) was = was
      by (Naming b) was = was
      by Arrived was = was
      by (Stopped why) was = tt
