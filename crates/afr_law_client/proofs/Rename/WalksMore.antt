-- What the lines of a rename show after a line of one of its walks.
use Rattle.std.proofs.Common.{◌≡◌, ◌≢◌, ◌⊎◌, ℕ, ◌+◌, ◌-◌, ◌<◌, ◌==◌, nat_le, Bool, true, false, List, [], ◌∷◌, Option, Some, None, length, refl, sym, ap, ◌∙◌, subst, arith, if◌then◌else◌, inl, inr}
use Rattle.std.proofs.lemmas.Bool.Decides.{nat_tests, eqb_tells}
use Rattle.afr_base.specs.Bricks.{is_nothing}
use Rattle.afr_base.specs.declared.ids.ActorId.{ActorId}
use Rattle.afr_base.specs.declared.ids.BrickId.{BrickId}
use Rattle.afr_base.specs.declared.ids.Gfid.{Gfid}
use Rattle.afr_base.specs.declared.ids.Kind.TheVariants.{Names}
use Rattle.afr_base.specs.declared.ids.NameId.{NameId}
use Rattle.afr_base.specs.declared.ids.What.{What}
use Rattle.afr_base.specs.declared.ids.What.TheVariants.{Dir}
use Rattle.afr_choice.specs.Verdict.{verdict_of}
use Rattle.afr_choice.specs.declared.verdict.Verdict.{Verdict}
use Rattle.afr_choice.specs.declared.verdict.Verdict.TheVariants.{Short, Bare, Split, Sources}
use Rattle.afr_lines.specs.Told.{told_by}
use Rattle.afr_lines.specs.Work.{Work}
use Rattle.afr_lines.specs.declared.answer.Answer.{Answer}
use Rattle.afr_lines.specs.declared.answer.Answer.TheVariants as answer
use Rattle.afr_lines.specs.declared.line.Line.{Line}
use Rattle.afr_lines.specs.declared.line.Line.TheVariants.{Ask}
use Rattle.afr_lines.specs.declared.request.Request.TheVariants.{ReadName}
use Rattle.afr_object.specs.declared.entry.Entry.{Entry}
use Rattle.afr_object.specs.Tables.{is_dir}
use Rattle.afr_plan.specs.declared.command.Command.{Command}
use Rattle.afr_plan.specs.declared.command.Command.TheVariants as command
use Rattle.afr_plan.specs.declared.plan.Plan.{Plan}
use Rattle.afr_model.specs.Parts.{names_asked, the_make, the_walk, upto_names}
use Rattle.afr_model.specs.Renamed.{AreLegs, since_name}
use Rattle.afr_model.specs.Showing.{At, path_by}
use Rattle.afr_model.specs.Tables.{entry_at, holds}
use Rattle.afr_model.proofs.Cut.Cut.{upto_more}
use Rattle.afr_client_walk.specs.Looks.{heard_look, left_to_look, no_look}
use Rattle.afr_client_walk.specs.Walk.{IsStep, is_walking, name_in, named, next_at, next_in, noted, step_at, verdict_step, walked_at}
use Rattle.afr_client_walk.specs.declared.looks.Looks.{Looks}
use Rattle.afr_client_walk.specs.declared.stop.Stop.{Stop}
use Rattle.afr_client_walk.specs.declared.stop.Stop.TheVariants as stop
use Rattle.afr_client_walk.specs.declared.walk.Walk.{Walk}
use Rattle.afr_client_walk.specs.declared.walk.WalkStep.{WalkStep}
use Rattle.afr_client_walk.specs.declared.walk.WalkStep.TheVariants.{Looking, Naming, Arrived, Stopped}
use Rattle.afr_law_client.specs.Read.Lines.{CanAnswer}
use Rattle.afr_law_client.specs.Read.WalkTelling.{TellsAt, WalkTells}
use Rattle.afr_law_client.proofs.Entry.Begins.{IsOnWay}
use Rattle.afr_law_client.proofs.Entry.Names.{Found, Fails, Lost, NameTold, name_told}
use Rattle.afr_law_client.proofs.Entry.Words.{dir_is}
use Rattle.afr_law_client.specs.Rename.RenameTelling.{IsLeg}
use Rattle.afr_law_client.proofs.Rename.Cut.{path_upto_last}
use Rattle.afr_law_client.proofs.Entry.Walks.{at_most, none_at}

-- ---- where a path stands
-- a name that leads on to what a walk stops at isn't the path's last
stops_before : (read k : ℕ) (entry : Entry) (why : Stop) → read < k → step_at k (read + 1) entry ≡ Stopped why → read + 1 < k
stops_before read k entry why l e = go (read + 1 == k) (eqb_tells (read + 1) k) e
  where
    go : (f : Bool) → (f ≡ true) × (read + 1 ≡ k) ⊎ (f ≡ false) × (read + 1 ≢ k) → (if f then Arrived else (if is_dir entry.what then Looking no_look else Stopped stop.NotDir)) ≡ Stopped why → read + 1 < k
    go true h e = absurd (cc e)
    go false (inl h) e = absurd (cc h.0)
    go false (inr h) e = let other = h.1 in omega (arith, l, other)

-- one at which it arrives is
arrives_last : (read k : ℕ) (entry : Entry) → step_at k (read + 1) entry ≡ Arrived → read + 1 ≡ k
arrives_last read k entry e = go (read + 1 == k) (eqb_tells (read + 1) k) (is_dir entry.what) e
  where
    go : (f : Bool) → (f ≡ true) × (read + 1 ≡ k) ⊎ (f ≡ false) × (read + 1 ≢ k) → (d : Bool) → (if f then Arrived else (if d then Looking no_look else Stopped stop.NotDir)) ≡ Arrived → read + 1 ≡ k
    go true (inl h) d e = h.1
    go true (inr h) d e = absurd (cc h.0)
    go false h true e = absurd (cc e)
    go false h false e = absurd (cc e)

-- ---- where the first walk has led
abbrev pub is_stopped : WalkStep → Bool
is_stopped (Stopped why) = true
is_stopped step = false

-- its last name, asked in this directory, has led to an object with a number above 0
pub record HasLed (p : Plan) (path : List NameId) (object : Entry) (dir : Gfid) (lines : Work) : Type 0 where
  pub in_dir : path_by p (upto_names (length path - 1) lines) ≡ At (length path - 1) (record { gfid = dir; what = Dir })
  pub numbered : (object.gfid.0 == 0) ≡ false
  pub fresh : since_name lines ≡ []

-- the walk along this path stands here, by lines that are all of it
pub record Stands (p : Plan) (path : List NameId) (w : Walk) (dir : Gfid) (lines : Work) : Type 0 where
  pub tells : WalkTells p (command.Stat path) w lines
  pub whole : the_walk path lines ≡ lines
  pub alone : the_make path lines ≡ []
  pub asked : is_stopped w.step ≡ false → names_asked lines ≡ w.read
  pub on : (why : Stop) → w.step ≡ Stopped why → IsOnWay (length path) (path_by p lines)
  pub led : w.step ≡ Arrived → HasLed p path w.object dir lines
  pub legs : AreLegs p.shape.n lines
  pub leg : IsLeg p.shape.n w.step w.object.gfid lines

-- ---- one line more of it
module _ (p : Plan) (w : Walk) (lines : Work) (a : ActorId) (chosen : BrickId) (heard : Answer) (took : Bool) (log : List Line) (at : ℕ) where
  abbrev start : Walk
  start = noted (next_in w) (told_by heard) at w

  abbrev after : WalkStep → Walk
  after step = walked_at chosen step heard start

  abbrev pub more : WalkStep → Work
  more step = (Ask a (next_at step w).0 (next_at step w).1 (told_by heard) took, log) ∷ lines

  -- where it goes on or arrives, the names that were asked have led on
  pub asked_more : (step : WalkStep) → is_walking step ≡ true → names_asked lines ≡ w.read → is_stopped (after step).step ≡ false → names_asked (more step) ≡ (after step).read
  asked_more (Looking s) h e f = e
  asked_more (Naming b) h e f = go heard f
    where
      go : (y : Answer) → is_stopped (named y start).step ≡ false → names_asked lines + 1 ≡ (named y start).read
      go (answer.Entry (Some entry)) f = ap (λ (n : ℕ). n + 1) e
      go (answer.Entry None) f = absurd (cc f)
      go y f = absurd (cc f)
  asked_more Arrived h e f = absurd (cc h)
  asked_more (Stopped why) h e f = absurd (cc h)

  -- where it stops, the path hasn't led to its end
  abbrev Shows : BrickId → Answer → Type 0
  Shows b x = IsOnWay (length w.path) (path_by p ((Ask a b (ReadName w.object.gfid (name_in w)) (told_by x) took, log) ∷ lines))

  pub on_way_more : (c : Command) (step : WalkStep) → is_walking step ≡ true → IsStep w.shape.n (length w.path) w.read step → TellsAt p c step w.read w.object lines → CanAnswer p (next_at step w).0.0 (next_at step w).1 log heard
      → (why : Stop) → (after step).step ≡ Stopped why → IsOnWay (length w.path) (path_by p (more step))
  on_way_more c (Looking s) h i t can why e = at_most (length w.path) w.read w.object i.1 (path_by p lines) t.0.path
  on_way_more c (Naming b) h i t can why e = go (name_told p b.0 w.object.gfid (name_in w) log heard can)
    where
      given : (entry : Option Entry) → heard ≡ answer.Entry entry → entry_at w.object.gfid (name_in w) (holds p log b.0) ≡ entry → Shows b (answer.Entry entry)
      given None f g = none_at (length w.path) _ (inl (rw (g, t.0.path) refl))
      given (Some entry) f g =
          at_most (length w.path) (w.read + 1) entry (stops_before w.read (length w.path) entry why i.1 (subst (λ (x : Answer). (named x start).step ≡ Stopped why) f e)) _ (rw (g, t.0.path) refl)

      go : NameTold p b.0 w.object.gfid (name_in w) log heard → Shows b heard
      go (Found entry f g) = subst (Shows b) (sym f) (given entry f g)
      go (Lost f) = subst (Shows b) (sym f) (none_at (length w.path) _ (inr refl))
      go (Fails f) = subst (Shows b) (sym f) (none_at (length w.path) _ (inr refl))
  on_way_more c Arrived h i t can why e = absurd (cc h)
  on_way_more c (Stopped w2) h i t can why e = absurd (cc h)

  -- where it arrives, it is by the last name
  pub record ByName (y : Answer) : Type 0 where
    pub entry : Entry
    pub same : y ≡ answer.Entry (Some entry)
    pub last : w.read + 1 ≡ length w.path

  by_name : (y : Answer) → (named y start).step ≡ Arrived → ByName y
  by_name (answer.Entry (Some entry)) e = record { entry = entry; same = refl; last = arrives_last w.read (length w.path) entry e }
  by_name (answer.Entry None) e = absurd (cc e)
  by_name y e = absurd (cc e)

  looks_never : (over : Bool) (v : Verdict) (s : Looks) → (if over then verdict_step chosen v s.looked.views else Looking s) ≡ Arrived → ⊥
  looks_never true Short s e = cc e
  looks_never true Bare s e = cc e
  looks_never true Split s e = cc e
  looks_never true (Sources t) s e = cc e
  looks_never false v s e = cc e

  pub led_more : (c : Command) (step : WalkStep) → is_walking step ≡ true → TellsAt p c step w.read w.object lines → names_asked lines ≡ w.read → ((entry : Entry) → heard ≡ answer.Entry (Some entry) → (entry.gfid.0 == 0) ≡ false)
      → (after step).step ≡ Arrived → HasLed p w.path (after step).object w.object.gfid (more step)
  led_more c (Looking s) h t names numbered e = absurd (looks_never (is_nothing (left_to_look w.shape.n (heard_look w.shape.n (told_by heard) s))) (verdict_of w.shape (heard_look w.shape.n (told_by heard) s).looked Names) (heard_look w.shape.n (told_by heard) s) e)
  led_more c (Naming b) h t names numbered e = go (by_name heard e)
    where
      line : Line
      line = Ask a b (ReadName w.object.gfid (name_in w)) (told_by heard) took

      go : ByName heard → HasLed p w.path (named heard start).object w.object.gfid (more (Naming b))
      go k = record {
        in_dir =
            ap (λ (x : Work). path_by p x) (upto_more (length w.path - 1) (line, log) lines asked)
            ∙ path_upto_last p (length w.path - 1) lines exact ∙ t.0.path
            ∙ ap (λ (n : ℕ). At n w.object) before
            ∙ ap (λ (what : What). At (length w.path - 1) (record { gfid = w.object.gfid; what = what })) (dir_is w.object.what t.1);
        numbered = subst (λ (x : Answer). ((named x start).object.gfid.0 == 0) ≡ false) (sym k.same) (numbered k.entry k.same);
        fresh = refl;
      }
        where
          before : w.read ≡ length w.path - 1
          before = let last = k.last in omega (arith, last)

          exact : names_asked lines ≡ length w.path - 1
          exact = names ∙ before

          asked : nat_le (length w.path - 1) (names_asked lines) ≡ true
          asked = let same = exact in grind (arith, nat_tests, same)
  led_more c Arrived h t names numbered e = absurd (cc h)
  led_more c (Stopped why) h t names numbered e = absurd (cc h)
