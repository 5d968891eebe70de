-- The walks of a rename: the looks since a name, and what a line of a walk is about.
use Rattle.std.proofs.Common.{◌≡◌, ℕ, ◌+◌, ◌<◌, ◌≤◌, ◌==◌, ◌||◌, nat_le, Bool, true, false, List, [], ◌∷◌, Some, None, length, refl, sym, ◌∙◌, subst, arith, if◌then◌else◌}
use Rattle.std.proofs.lemmas.Bool.Decides.{nat_tests}
use Rattle.afr_base.specs.Bricks.{below, is_nothing, lowest, member}
use Rattle.afr_base.specs.SetLemmas.{below_all, member_added, none_left}
use Rattle.afr_base.specs.declared.ids.ActorId.{ActorId}
use Rattle.afr_base.specs.declared.ids.BrickId.{BrickId}
use Rattle.afr_base.specs.declared.ids.Gfid.{Gfid}
use Rattle.afr_base.specs.declared.ids.Kind.TheVariants.{Names}
use Rattle.afr_base.specs.declared.ids.Shape.{Shape}
use Rattle.afr_choice.specs.Verdict.{verdict_of}
use Rattle.afr_choice.specs.declared.verdict.Verdict.{Verdict}
use Rattle.afr_choice.specs.declared.verdict.Verdict.TheVariants.{Short, Bare, Split, Sources}
use Rattle.afr_lines.specs.Told.{told_by}
use Rattle.afr_lines.specs.Work.{Work}
use Rattle.afr_lines.specs.declared.answer.Answer.{Answer}
use Rattle.afr_lines.specs.declared.answer.Answer.TheVariants as answer
use Rattle.afr_lines.specs.declared.answer.Told.{Told}
use Rattle.afr_lines.specs.declared.line.Line.{Line}
use Rattle.afr_lines.specs.declared.line.Line.TheVariants.{Ask}
use Rattle.afr_lines.specs.declared.line.Next.TheVariants as next
use Rattle.afr_lines.specs.declared.request.Request.TheVariants.{Look}
use Rattle.afr_object.specs.Tables.{is_dir}
use Rattle.afr_object.specs.declared.entry.Entry.{Entry}
use Rattle.afr_plan.specs.declared.command.Command.{Command}
use Rattle.afr_plan.specs.declared.command.Command.TheVariants as command
use Rattle.afr_plan.specs.declared.plan.Plan.{Plan}
use Rattle.afr_model.specs.Answered.{IsAbout}
use Rattle.afr_model.specs.Following.{KeepsToCommand}
use Rattle.afr_model.specs.Keeping.{KeepsTo}
use Rattle.afr_model.specs.Parts.{Part, Walks, Makes, is_again, names_asked, part_at, the_make, the_walk}
use Rattle.afr_model.specs.Renamed.{AreLegs, IsOfPart, KeepsToPart, since_name}
use Rattle.afr_model.specs.Replied.{IsOf}
use Rattle.afr_model.specs.Showing.{among, looking}
use Rattle.afr_model.specs.Skipped.{IsLooked}
use Rattle.afr_model.specs.Standing.{locks_any}
use Rattle.afr_model.proofs.Cut.Cut.{upto_all}
use Rattle.afr_client_walk.specs.Looks.{heard_look, left_to_look, no_look}
use Rattle.afr_client_walk.specs.Walk.{IsStep, IsWalk, after_looks, is_walking, named, next_at, next_in, noted, verdict_step, walked, walked_at}
use Rattle.afr_client_walk.specs.declared.looks.Looks.{Looks}
use Rattle.afr_client_walk.specs.declared.stop.Stop.TheVariants as stop
use Rattle.afr_client_walk.specs.declared.walk.Walk.{Walk}
use Rattle.afr_client_walk.specs.declared.walk.WalkStep.{WalkStep}
use Rattle.afr_client_walk.specs.declared.walk.WalkStep.TheVariants.{Looking, Naming, Arrived, Stopped}
use Rattle.afr_client_entry.specs.declared.job.EntryJob.TheVariants.{Create}
use Rattle.afr_law_client.specs.Read.Lines.{LookedAll, OnlyReads}
use Rattle.afr_law_client.specs.Read.WalkTelling.{TellsAt}
use Rattle.afr_law_client.proofs.Read.Quiet.{all_from_but, looked_but_more, looking_more}
use Rattle.afr_law_client.proofs.Read.Untouched.{touches_nothing}
use Rattle.afr_law_client.proofs.Read.WalksEnd as walk_ends
use Rattle.afr_law_client.specs.About.{BlamesNext}
use Rattle.afr_law_client.proofs.Entry.Begins.{about_walk}
use Rattle.afr_client_entry.specs.declared.renaming.paths.Paths.{Paths}
use Rattle.afr_law_client.specs.Rename.RenameTelling.{IsLeg, LegGoes, WalksOn, WalksToFile, command_of, to_of}
use Rattle.afr_law_client.proofs.Rename.Cut.{line_makes, line_walks, none_again, not_again}

-- ---- what a step of a walk leaves
-- a walk's lines only look and read
pub only_of : (p : Plan) (c : Command) (step : WalkStep) (read : ℕ) (object : Entry) (lines : Work) → TellsAt p c step read object lines → OnlyReads p.shape.n lines
only_of p c (Looking s) read object lines t = t.0.only
only_of p c (Naming b) read object lines t = t.0.only
only_of p c Arrived read object lines t = t.0.only
only_of p c (Stopped why) read object lines t = t.only

-- a name is left
pub name_left : (n k read : ℕ) (step : WalkStep) → is_walking step ≡ true → IsStep n k read step → read < k
name_left n k read (Looking s) h i = i.1
name_left n k read (Naming b) h i = i.1
name_left n k read Arrived h i = absurd (cc h)
name_left n k read (Stopped why) h i = absurd (cc h)

-- what it asks next locks nothing
pub no_lock : (w : Walk) (step : WalkStep) (a : ActorId) (told : Told) (took : Bool) → is_walking step ≡ true → locks_any (Ask a (next_at step w).0 (next_at step w).1 told took) ≡ false
no_lock w (Looking s) a told took h = refl
no_lock w (Naming b) a told took h = refl
no_lock w Arrived a told took h = absurd (cc h)
no_lock w (Stopped why) a told took h = absurd (cc h)

-- and accuses nobody
pub walk_blames : (p : Plan) (lines : Work) (w : Walk) → is_walking w.step ≡ true → BlamesNext p lines (next.Ask (next_in w).0 (next_in w).1)
walk_blames p lines w h = go w.step h
  where
    go : (step : WalkStep) → is_walking step ≡ true → BlamesNext p lines (next.Ask (next_at step w).0 (next_at step w).1)
    go (Looking s) h = tt
    go (Naming b) h = tt
    go Arrived h = absurd (cc h)
    go (Stopped why) h = absurd (cc h)

-- ---- the looks since a name
either : (x y z : Bool) → (y ≡ true → z ≡ true) → (x || y) ≡ true → (x || z) ≡ true
either true y z f h = refl
either false y z f h = f h

-- after a name nothing was looked at yet
pub leg_begins : (n : ℕ) (g : Gfid) → LegGoes n g no_look []
leg_begins n g = record { own = λ b m. absurd (cc m); but = λ h d m b l. absurd (cc m) }

pub is_looked : (n : ℕ) (w : Work) → LookedAll n w → IsLooked n w
is_looked n w all g m unlocked b l = all g m b l

module _ (w : Walk) (lines : Work) (a : ActorId) (chosen : BrickId) (heard : Answer) (took : Bool) (log : List Line) (at : ℕ) (few : w.shape.n ≤ 5) where
  abbrev n : ℕ
  n = w.shape.n

  abbrev start : Walk
  start = noted (next_in w) (told_by heard) at w

  abbrev more : WalkStep → Work
  more step = (Ask a (next_at step w).0 (next_at step w).1 (told_by heard) took, log) ∷ lines

  look_leg : (s : Looks) → LegGoes n w.object.gfid s (since_name lines) → IsLeg n (after_looks chosen w.shape (heard_look n (told_by heard) s)) w.object.gfid (more (Looking s))
  look_leg s leg = go (is_nothing (left_to_look n after)) refl
    where
      b : BrickId
      b = record { 0 = lowest (left_to_look n s) }

      after : Looks
      after = heard_look n (told_by heard) s

      since : Work
      since = (Ask a b (Look w.object.gfid) (told_by heard) took, log) ∷ since_name lines

      goes : LegGoes n w.object.gfid after since
      goes = record {
        own = λ c m. subst (λ (x : List ℕ). member x c ≡ true) (sym (looking_more w.object.gfid a b (told_by heard) took log (since_name lines)))
            (member_added b.0 (among (looking w.object.gfid) (since_name lines)) c
            ∙ either (b.0 == c) (member s.asked c) (member (among (looking w.object.gfid) (since_name lines)) c) (leg.own c) (sym (member_added b.0 s.asked c) ∙ m));
        but = looked_but_more n w.object.gfid a b (told_by heard) took log (since_name lines) leg.but;
      }

      all : is_nothing (left_to_look n after) ≡ true → LookedAll n since
      all over = all_from_but n w.object.gfid since goes.but (λ c l. goes.own c (none_left (below n) after.asked over c (below_all n c few l)))

      by_verdict : (v : Verdict) → LookedAll n since → IsLeg n (verdict_step chosen v after.looked.views) w.object.gfid (more (Looking s))
      by_verdict Short k = k
      by_verdict Bare k = k
      by_verdict Split k = k
      by_verdict (Sources t) k = k

      go : (e : Bool) → is_nothing (left_to_look n after) ≡ e → IsLeg n (if e then verdict_step chosen (verdict_of w.shape after.looked Names) after.looked.views else Looking after) w.object.gfid (more (Looking s))
      go true over = by_verdict (verdict_of w.shape after.looked Names) (all over)
      go false over = goes

  name_leg : (b : BrickId) (x : Answer) → IsLeg n (named x start).step (named x start).object.gfid (more (Naming b))
  name_leg b (answer.Entry (Some entry)) = go (w.read + 1 == length w.path) (is_dir entry.what)
    where
      go : (f d : Bool) → IsLeg n (if f then Arrived else (if d then Looking no_look else Stopped stop.NotDir)) entry.gfid (more (Naming b))
      go true d = λ g m c l. absurd (cc m)
      go false true = leg_begins n entry.gfid
      go false false = λ g m c l. absurd (cc m)
  name_leg b (answer.Entry None) = λ g m c l. absurd (cc m)
  name_leg b x = λ g m c l. absurd (cc m)

  leg_more : is_walking w.step ≡ true → IsLeg n w.step w.object.gfid lines → AreLegs n lines → AreLegs n (more w.step) × IsLeg n (walked chosen heard at w).step (walked chosen heard at w).object.gfid (more w.step)
  leg_more walks leg legs = by w.step walks leg
    where
      by : (step : WalkStep) → is_walking step ≡ true → IsLeg n step w.object.gfid lines → AreLegs n (more step) × IsLeg n (walked_at chosen step heard start).step (walked_at chosen step heard start).object.gfid (more step)
      by (Looking s) h leg = ((tt, legs), look_leg s leg)
      by (Naming b) h leg = ((is_looked n (since_name lines) leg, legs), name_leg b heard)
      by Arrived h leg = absurd (cc h)
      by (Stopped why) h leg = absurd (cc h)

-- the same of the bricks of the plan
pub legs_more : (shape : Shape) (w : Walk) (lines : Work) (a : ActorId) (chosen : BrickId) (heard : Answer) (took : Bool) (log : List Line) (at : ℕ) → w.shape ≡ shape → w.shape.n ≤ 5 → is_walking w.step ≡ true
    → IsLeg shape.n w.step w.object.gfid lines → AreLegs shape.n lines
    → AreLegs shape.n ((Ask a (next_in w).0 (next_in w).1 (told_by heard) took, log) ∷ lines)
    × IsLeg shape.n (walked chosen heard at w).step (walked chosen heard at w).object.gfid ((Ask a (next_in w).0 (next_in w).1 (told_by heard) took, log) ∷ lines)
legs_more shape w lines a chosen heard took log at e few walks leg legs =
    subst
    (λ (s : Shape). IsLeg s.n w.step w.object.gfid lines → AreLegs s.n lines → AreLegs s.n (more w lines a chosen heard took log at few w.step) × IsLeg s.n (walked chosen heard at w).step (walked chosen heard at w).object.gfid (more w lines a chosen heard took log at few w.step))
    e (leg_more w lines a chosen heard took log at few walks) leg legs

-- ---- a line of the first walk
module _ (p : Plan) (x : Paths) (lines : Work) (k : WalksToFile p x lines) (sound : IsWalk x.first) (walks : is_walking x.first.step ≡ true) where
  pub not_all_asked : nat_le (length x.first.path) (names_asked lines) ≡ false
  not_all_asked =
      let low : x.first.read < length x.first.path = name_left x.first.shape.n (length x.first.path) x.first.read x.first.step walks sound.step in
      let same = k.asked in
      grind (arith, nat_tests, low, same)

  pub finds_only : OnlyReads p.shape.n lines
  finds_only = only_of p (command.Stat x.first.path) x.first.step x.first.read x.first.object lines k.tells.step

  pub finds_walk : the_walk x.first.path lines ≡ lines
  finds_walk = upto_all (length x.first.path) lines not_all_asked

  pub finds_again : (a : ActorId) (told : Told) (took : Bool) → is_again (Ask a (next_in x.first).0 (next_in x.first).1 told took) lines ≡ false
  finds_again a told took = not_again (Ask a (next_in x.first).0 (next_in x.first).1 told took) lines (none_again lines (touches_nothing p.shape.n lines finds_only).none_locked) (no_lock x.first x.first.step a told took walks)

  -- it is about the first path
  pub finding_about : (a : ActorId) (told : Told) (took : Bool) (at : ℕ)
      → IsOf p (command_of x) (Ask a (next_in x.first).0 (next_in x.first).1 told took) lines × KeepsToCommand p (command_of x) (Ask a (next_in x.first).0 (next_in x.first).1 told took) at lines
  finding_about a told took at = (
    subst (λ (part : Part). IsOfPart part p x.first.path (to_of x) line lines) (sym part) (subst (λ (w : Work). IsAbout p (command.Stat x.first.path) line w) (sym finds_walk) own.0),
    subst (λ (part : Part). KeepsToPart part p x.first.path (to_of x) line at lines) (sym part) (subst (λ (w : Work). KeepsTo p (command.Stat x.first.path) line at w) (sym finds_walk) own.1),
  )
    where
      line : Line
      line = Ask a (next_in x.first).0 (next_in x.first).1 told took

      own : IsAbout p (command.Stat x.first.path) line lines × KeepsTo p (command.Stat x.first.path) line at lines
      own = walk_ends.about p (command.Stat x.first.path) x.first lines a told took at sound walks k.tells refl

      part : part_at x.first.path line lines ≡ Walks
      part = line_walks x.first.path line lines (finds_again a told took) not_all_asked

-- ---- a line of the second walk
module _ (p : Plan) (x : Paths) (lines : Work) (k : WalksOn p x lines) (sound : IsWalk x.second) (walks : is_walking x.second.step ≡ true) where
  pub walks_again : (a : ActorId) (told : Told) (took : Bool) → is_again (Ask a (next_in x.second).0 (next_in x.second).1 told took) lines ≡ false
  walks_again a told took = not_again (Ask a (next_in x.second).0 (next_in x.second).1 told took) lines k.on.first (no_lock x.second x.second.step a told took walks)

  -- it is about the second path
  pub walking_about : (a : ActorId) (told : Told) (took : Bool) (at : ℕ)
      → IsOf p (command_of x) (Ask a (next_in x.second).0 (next_in x.second).1 told took) lines × KeepsToCommand p (command_of x) (Ask a (next_in x.second).0 (next_in x.second).1 told took) at lines
  walking_about a told took at = (
    subst (λ (part : Part). IsOfPart part p x.first.path (to_of x) line lines) (sym part) ((x.first.object.gfid, k.on.walked.found), own.0),
    subst (λ (part : Part). KeepsToPart part p x.first.path (to_of x) line at lines) (sym part) own.1,
  )
    where
      line : Line
      line = Ask a (next_in x.second).0 (next_in x.second).1 told took

      own : IsAbout p (command.Create (to_of x)) line (the_make x.first.path lines) × KeepsTo p (command.Create (to_of x)) line at (the_make x.first.path lines)
      own = about_walk p (Create x.new_name) x.second.path x.second (the_make x.first.path lines) a told took at refl sound walks k.tells.tells k.tells.upto

      part : part_at x.first.path line lines ≡ Makes
      part = line_makes x.first.path line lines (walks_again a told took) k.on.walked.all
