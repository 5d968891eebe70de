-- While the path to the directory is walked, and where the walk leaves the command.
use Rattle.std.proofs.Common.{◌≡◌, ℕ, ◌+◌, ◌<◌, ◌≤◌, ◌==◌, ◌&&◌, nat_lt, nat_le, Bool, true, false, List, [], ◌∷◌, ◌++◌, Option, Some, None, length, get_or, slice_get, refl, sym, ap, ◌∙◌, subst, arith, if◌then◌else◌, inl, inr}
use Rattle.std.proofs.Math.ListN.{get_or-append}
use Rattle.std.proofs.lemmas.Bool.Decides.{nat_tests}
use Rattle.std.proofs.lemmas.Option.{slice_get-get_or}
use Rattle.std.proofs.lemmas.Bool.{lt-ltb}
use Rattle.afr_base.specs.declared.ids.ActorId.{ActorId}
use Rattle.afr_base.specs.declared.ids.Gfid.{Gfid}
use Rattle.afr_base.specs.declared.ids.NameId.{NameId}
use Rattle.afr_base.specs.declared.ids.Shape.{Shape}
use Rattle.afr_base.specs.declared.ids.What.{What}
use Rattle.afr_base.specs.declared.ids.What.TheVariants.{File, Dir}
use Rattle.afr_base.proofs.TestLemmas.{other_number}
use Rattle.afr_choice.specs.Looks.{no_looks}
use Rattle.afr_discipline.specs.declared.register.Register.{Register}
use Rattle.afr_lines.specs.Work.{Work}
use Rattle.afr_lines.specs.declared.answer.Told.{Told}
use Rattle.afr_lines.specs.declared.line.Line.TheVariants.{Ask}
use Rattle.afr_lines.specs.declared.reply.Reply.{Reply}
use Rattle.afr_lines.specs.declared.reply.Reply.TheVariants as reply
use Rattle.afr_lines.specs.declared.request.Area.{Area}
use Rattle.afr_lines.specs.declared.request.Area.TheVariants.{Name}
use Rattle.afr_object.specs.Tables.{is_dir, object_of}
use Rattle.afr_object.specs.declared.change.Change.{Change}
use Rattle.afr_object.specs.declared.entry.Entry.{Entry}
use Rattle.afr_plan.specs.declared.command.Command.{Command}
use Rattle.afr_plan.specs.declared.command.Command.TheVariants as command
use Rattle.afr_plan.specs.declared.plan.Plan.{Plan}
use Rattle.afr_model.specs.Answered.{IsAbout, IsAnswered, Refuses}
use Rattle.afr_model.specs.Commands.{is_rmdir, path_of, steps_of}
use Rattle.afr_model.specs.Keeping.{KeepsTo}
use Rattle.afr_model.specs.Refusals.{by_path, on_way, or_else, read_refused, refusal, too_large}
use Rattle.afr_model.specs.Showing.{Path, At, NoName, Untold, path_by}
use Rattle.afr_model.specs.Skipped.{AsksAll, SkipsNothing}
use Rattle.afr_model.specs.Standing.{area_here, looks_here, path_upto, place_by}
use Rattle.afr_client_transaction.specs.Progress.{starting}
use Rattle.afr_discipline.specs.Free.{IsFree}
use Rattle.afr_client_walk.specs.Looks.{no_look}
use Rattle.afr_client_walk.specs.Stops.{reply_of}
use Rattle.afr_client_walk.specs.Walk.{IsStep, IsWalk, is_walking, name_in, next_at, next_in, walk_from}
use Rattle.afr_client_walk.specs.declared.stop.Stop.{Stop}
use Rattle.afr_client_walk.specs.declared.walk.Walk.{Walk}
use Rattle.afr_client_walk.specs.declared.walk.WalkStep.{WalkStep}
use Rattle.afr_client_walk.specs.declared.walk.WalkStep.TheVariants as walking
use Rattle.afr_discipline.proofs.FreeLemmas.{shape_is}
use Rattle.afr_client_walk.proofs.WalkLemmas.{is_walk_from}
use Rattle.afr_client_entry.specs.Entry.{after_step, after_walk, at_directory}
use Rattle.afr_client_entry.specs.Job.{change_of, name_of}
use Rattle.afr_client_entry.specs.declared.job.EntryJob.{EntryJob}
use Rattle.afr_client_entry.specs.declared.stage.EntryStage.TheVariants.{Changing, Ending}
use Rattle.afr_client_entry.specs.declared.stage.Found.TheVariants.{Unread}
use Rattle.afr_law_client.specs.Read.Lines.{LookedAll, OnlyReads}
use Rattle.afr_law_client.specs.Read.WalkLaws.{HasArrived}
use Rattle.afr_law_client.specs.Read.WalkTelling.{Stops, TellsAt, WalkTells}
use Rattle.afr_law_client.proofs.Read.Quiet.{area_none, begins_none, change_none}
use Rattle.afr_law_client.proofs.Read.Walking.{walk_about, walk_tells_first}
use Rattle.afr_law_client.proofs.Read.WalksEnd.{arrives}
use Rattle.afr_law_client.specs.Tells.{AreIdle}
use Rattle.afr_law_client.proofs.Calm.{calm_first}
use Rattle.afr_law_client.proofs.Excused.{excused_first}
use Rattle.afr_law_client.proofs.First.{tells_first}
use Rattle.afr_law_client.specs.Entry.EntryLaws.{EntryBegins}
use Rattle.afr_law_client.specs.Entry.EntryTelling.{TellsIn, TransactionGoes, Walks, command_of}
use Rattle.afr_law_client.proofs.Entry.Held.{holds_first}
use Rattle.afr_law_client.proofs.Entry.Words.{longer, on_name, path_is, place_upto, small_is, steps_are}

le_test : (a b : ℕ) → a < b → nat_le a b ≡ true
le_test a b h = grind (arith, nat_tests, h)

-- a lookup steps over its whole path
whole_of : (path : List NameId) → steps_of (command.Ls path) ≤ length (path_of (command.Ls path))
whole_of path = omega arith

-- ---- on the way to the directory
-- how many names a path has led
abbrev pub read_in : Path → ℕ
read_in (At read object) = read
read_in other = 0

-- a path that hasn't led there
abbrev pub IsOnWay : ℕ → Path → Type 0
IsOnWay k path = (read : ℕ) (object : Entry) → path ≡ At read object → read < k

-- a command that steps so far, and locks and reads nothing before
module _ (p : Plan) (c : Command) (w : Work) (read : ℕ) (object : Entry) (low : read < steps_of c) (short : steps_of c ≤ length (path_of c)) where
  looks_there : looks_here c (At read object) ≡ Some object.gfid
  looks_there = let t = le_test read (steps_of c) low in rw t refl

  locks_there : area_here c (At read object) ≡ None
  locks_there = let t = other_number read (steps_of c) low in let u = other_number read (length (path_of c)) (omega (arith, low, short)) in rw (t, u) (never (is_rmdir c))
    where
      never : (x : Bool) → (if x && false then Some (Name object.gfid None) else None) ≡ None
      never true = refl
      never false = refl

  path_there : by_path p c (At read object) w ≡ on_way p.shape object w
  path_there = let t = lt-ltb read (steps_of c) low in rw t refl

  refusal_there : too_large c ≡ None → place_by p c w ≡ At read object → refusal p c w ≡ or_else (read_refused w) (on_way p.shape object w)
  refusal_there small place =
      ap (λ (x : Option Reply). or_else x (or_else (read_refused w) (by_path p c (place_by p c w) w))) small
      ∙ ap (λ (x : Path). or_else (read_refused w) (by_path p c x w)) place
      ∙ ap (λ (x : Option Reply). or_else (read_refused w) x) path_there

module _ (p : Plan) (job : EntryJob) (path : List NameId) where
  abbrev c : Command
  c = command_of job path

  abbrev s : Command
  s = command.Ls path

  -- its path is one name longer than the way
  one_longer : length (path_of c) ≡ steps_of c + 1
  one_longer = ap (λ (x : List NameId). length x) (path_is job path) ∙ longer path (name_of job) ∙ ap (λ (n : ℕ). n + 1) (sym (steps_are job path))

  short : steps_of c ≤ length (path_of c)
  short = let e = one_longer in omega (arith, e)

  pub ended : (read : ℕ) → read ≤ steps_of c → (object child : Entry) → At read object ≡ At (length (path_of c)) child → ⊥
  ended read l object child e =
      let same : read ≡ length (path_of c) = ap read_in e in
      let more = one_longer in
      absurd (omega (arith, l, same, more))

  below : (read : ℕ) → read < length path → read < steps_of c
  below read l = subst (λ (n : ℕ). read < n) (sym (steps_are job path)) l

  -- where the directory is on the way, the place of its command is its path
  place_here : (lines : Work) → path_upto (length path) p lines ≡ path_by p lines → place_by p c lines ≡ path_by p lines
  place_here lines upto = place_upto p job path lines ∙ ap (λ (n : ℕ). path_upto n p lines) (steps_are job path) ∙ upto

  -- ---- each line of the walk is the command's
  pub about_walk : (w : Walk) (lines : Work) (a : ActorId) (told : Told) (took : Bool) (at : ℕ) → w.path ≡ path → IsWalk w → is_walking w.step ≡ true → WalkTells p s w lines → path_upto (length path) p lines ≡ path_by p lines
      → IsAbout p c (Ask a (next_in w).0 (next_in w).1 told took) lines × KeepsTo p c (Ask a (next_in w).0 (next_in w).1 told took) at lines
  about_walk w lines a told took at named sound walks k upto = by w.step walks sound.step k.step (walk_about p s w lines a told took sound walks k refl)
    where
      by : (step : WalkStep) → is_walking step ≡ true → IsStep w.shape.n (length w.path) w.read step → TellsAt p s step w.read w.object lines → IsAbout p s (Ask a (next_at step w).0 (next_at step w).1 told took) lines
          → IsAbout p c (Ask a (next_at step w).0 (next_at step w).1 told took) lines × KeepsTo p c (Ask a (next_at step w).0 (next_at step w).1 told took) at lines
      by (walking.Looking looks) h i t about =
          let low : w.read < length path = subst (λ (x : List NameId). w.read < length x) named i.1 in (
            record {
              unbegun = about.unbegun;
              unread = about.unread;
              object = subst (λ (x : Path). looks_here c x ≡ Some w.object.gfid) (sym t.0.path) (looks_there p c lines w.read w.object (below w.read low) short);
              locked = λ area e. absurd (cc (e, subst (λ (x : Path). area_here c x ≡ None) (sym t.0.path) (locks_there p c lines w.read w.object (below w.read low) short)));
            },
            tt,
          )
      by (walking.Naming b) h i t about =
          let low : w.read < length path = subst (λ (x : List NameId). w.read < length x) named i.1 in (
            record {
              unbegun = about.unbegun;
              goes_on =
                  refusal_there p c lines w.read w.object (below w.read low) short (small_is job path) (place_here lines upto ∙ t.0.path)
                  ∙ sym (refusal_there p s lines w.read w.object low (whole_of path) refl t.0.path)
                  ∙ about.goes_on;
              answered = about.answered;
              good = about.good;
            },
            record {
              read = w.read;
              object = w.object;
              stands = t.0.path;
              asked = refl;
              next = subst (λ (x : List NameId). slice_get x w.read ≡ Some (name_in w)) (sym (path_is job path)) (next low);
            },
          )
        where
          next : w.read < length path → slice_get (path ++ name_of job ∷ []) w.read ≡ Some (name_in w)
          next low =
              slice_get-get_or (path ++ name_of job ∷ []) w.read (record { 0 = 0 }) (let e = longer path (name_of job) in omega (arith, e, low))
              ∙ ap (λ (x : NameId). Some x) (get_or-append path (name_of job ∷ []) (record { 0 = 0 }) w.read low ∙ ap (λ (x : List NameId). get_or x w.read (record { 0 = 0 })) (sym named))
      by walking.Arrived h i t about = absurd (cc h)
      by (walking.Stopped why) h i t about = absurd (cc h)

  -- ---- a walk that stops
  skips_nothing : (w : Work) → OnlyReads p.shape.n w → LookedAll p.shape.n w → ((child : Entry) → path_by p w ≡ At (length (path_of c)) child → ⊥) → SkipsNothing p c w
  skips_nothing w only all none = record {
    looked = λ g m unlocked b l. all g m b l;
    locked = λ area part m. absurd (cc (m, area_none p.shape.n area w only));
    child = λ h read dir child name place led is_dir area. absurd (none child led);
    carried = λ change e. absurd (cc (e, change_none p.shape.n w only));
  }

  path_same : (path_at : Path) (w : Work) → IsOnWay (length path) path_at → by_path p c path_at w ≡ by_path p s path_at w
  path_same (At read object) w on = let low = on read object refl in path_there p c w read object (below read low) short ∙ sym (path_there p s w read object low (whole_of path))
  path_same NoName w on = refl
  path_same Untold w on = refl

  looks_same : (path_at : Path) (w : Work) → IsOnWay (length path) path_at → looks_here s path_at ≡ looks_here c path_at
  looks_same (At read object) w on = let low = on read object refl in looks_there p s w read object low (whole_of path) ∙ sym (looks_there p c w read object (below read low) short)
  looks_same NoName w on = refl
  looks_same Untold w on = refl

  locks_same : (path_at : Path) (w : Work) → IsOnWay (length path) path_at → area_here s path_at ≡ area_here c path_at
  locks_same (At read object) w on = let low = on read object refl in locks_there p s w read object low (whole_of path) ∙ sym (locks_there p c w read object (below read low) short)
  locks_same NoName w on = refl
  locks_same Untold w on = refl

  pub stopped : (w : Work) (said : Reply) → path_upto (length path) p w ≡ path_by p w → IsOnWay (length path) (path_by p w) → Stops p s w said → IsAnswered p c w said
  stopped w said upto on k = record {
    caused = Refuses refused;
    asked = λ h. subst (λ (x : Path). AsksAll p.shape.n (looks_here c x) (area_here c x) w) (sym place)
        (subst (λ (x : Option Gfid). AsksAll p.shape.n x (area_here c (path_by p w)) w) (looks_same (path_by p w) w on)
        (subst (λ (x : Option Area). AsksAll p.shape.n (looks_here s (path_by p w)) x w) (locks_same (path_by p w) w on) (k.asked h)));
    failed = λ h. inr (k.failed h);
    undisturbed = λ h calm. absurd (cc (h, begins_none p.shape.n w k.only));
    whole = skips_nothing w k.only k.all nowhere;
  }
    where
      nowhere : (child : Entry) → path_by p w ≡ At (length (path_of c)) child → ⊥
      nowhere child e = let l = on (length (path_of c)) child e in let more = one_longer in let same = steps_are job path in absurd (omega (arith, l, more, same))

      place : place_by p c w ≡ path_by p w
      place = place_here w upto

      refused : refusal p c w ≡ Some said
      refused =
          ap (λ (x : Option Reply). or_else x (or_else (read_refused w) (by_path p c (place_by p c w) w))) (small_is job path)
          ∙ ap (λ (x : Path). or_else (read_refused w) (by_path p c x w)) place
          ∙ ap (λ (x : Option Reply). or_else (read_refused w) x) (path_same (path_by p w) w on)
          ∙ k.cause

-- ---- the transaction begins
-- what the register of free lines shows
module _ (shape : Shape) (r : Register) where
  abbrev Untouched : Register → Type 0
  Untouched x = (x.looked ≡ no_looks) × (x.begun ≡ None) × (x.pre ≡ []) × (x.done ≡ []) × (x.post ≡ [])

  untouched : IsFree shape r → Untouched r
  untouched (inl e) = subst Untouched (sym e) (refl, refl, refl, refl, refl)
  untouched (inr e) = subst Untouched (sym e) (refl, refl, refl, refl, refl)

module _ (p : Plan) (job : EntryJob) (w : Walk) (lines : Work) (sound : IsWalk w) (shape : w.shape ≡ p.shape) (k : HasArrived p (command.Ls w.path) w lines) (upto : path_upto (length w.path) p lines ≡ path_by p lines) where
  abbrev own : Command
  own = command_of job w.path

  steps : At w.read w.object ≡ At (steps_of own) w.object
  steps = ap (λ (n : ℕ). At n w.object) (k.whole ∙ sym (steps_are job w.path))

  place : place_by p own lines ≡ At (steps_of own) w.object
  place = place_here p job w.path lines upto ∙ k.goes.path ∙ steps

  idle : AreIdle lines
  idle = record {
    unbegun = k.untouched.unbegun;
    no_pre = k.untouched.none_preparing;
    no_pre_did = k.untouched.none_prepared;
    no_apply = k.untouched.none_applying;
    no_apply_did = k.untouched.none_applied;
    no_post = k.untouched.none_posting;
    no_post_did = k.untouched.none_posted;
  }

  -- its first line finds a work that has touched nothing
  goes : (change : Change) → TransactionGoes p (starting change w.register) lines
  goes change = let free = untouched w.shape w.register sound.free in record {
    tells = tells_first p lines (starting change w.register) (record {
      shape_is = shape_is w.shape w.register sound.free ∙ shape;
      stage_is = refl;
      nobody = refl;
      unseen = free.0;
      first = free.1;
      no_pre = free.2;
      no_apply = free.3;
      no_post = free.4;
      unlocked = k.untouched.none_locked;
      idle = idle;
      looked = λ g apart seen b l. k.all g seen b l;
    });
    excused = excused_first lines k.untouched.none_locked idle;
    calm = calm_first lines idle;
    fitting = λ locked. absurd (cc (locked, k.untouched.object_unlocked (object_of change)));
  }

  -- a file has no names
  at_file : is_dir w.object.what ≡ false → IsAnswered p own lines reply.NotDir
  at_file file = record {
    caused = Refuses refused;
    asked = λ h. absurd (cc h);
    failed = λ h. absurd (cc h);
    undisturbed = λ h calm. absurd (cc (h, k.untouched.unbegun));
    whole = skips_nothing p job w.path lines k.goes.only k.all (λ child e. ended p job w.path (steps_of own) (omega arith) w.object child (sym (k.goes.path ∙ steps) ∙ e));
  }
    where
      file_is : (what : What) → is_dir what ≡ false → what ≡ File
      file_is File e = refl
      file_is Dir e = absurd (cc e)

      not_less : (n : ℕ) → nat_lt n n ≡ false
      not_less n = grind (arith, nat_tests)

      there : by_path p own (At (steps_of own) w.object) lines ≡ Some reply.NotDir
      there = let what = file_is w.object.what file in rw (not_less (steps_of own), on_name job w.path, what) refl

      unrefused : (x : Option Reply) → or_else (read_refused lines) x ≡ x
      unrefused x = rw k.goes.unrefused refl

      refused : refusal p own lines ≡ Some reply.NotDir
      refused =
          ap (λ (x : Option Reply). or_else x (or_else (read_refused lines) (by_path p own (place_by p own lines) lines))) (small_is job w.path)
          ∙ ap (λ (x : Path). or_else (read_refused lines) (by_path p own x lines)) place
          ∙ unrefused (by_path p own (At (steps_of own) w.object) lines)
          ∙ there

  pub arrived : TellsIn p own job (at_directory w.object w.register job) w lines
  arrived = go (is_dir w.object.what) refl
    where
      go : (d : Bool) → is_dir w.object.what ≡ d → TellsIn p own job (if d then Changing (starting (change_of w.object.gfid job) w.register) (Unread (record { 0 = 0 })) else Ending reply.NotDir) w lines
      go true e = record {
        place = place;
        directory = e;
        unread = k.goes.unread;
        name = record { path = k.goes.path ∙ steps; unrefused = k.goes.unrefused; unbegun = k.untouched.unbegun };
        on = (goes (change_of w.object.gfid job), holds_first (change_of w.object.gfid job) w.shape w.register p.shape.n lines sound.free k.untouched.none_locked k.goes.only);
      }
      go false e = at_file e

-- ---- where a walk leaves the command
pub moved : (p : Plan) (job : EntryJob) (w : Walk) (lines : Work) → IsWalk w → Walks p w lines
    → ((why : Stop) → w.step ≡ walking.Stopped why → IsOnWay (length w.path) (path_by p lines)) → TellsIn p (command_of job w.path) job (after_walk job w) w lines
moved p job w lines sound k on = go w.step refl
  where
    go : (step : WalkStep) → w.step ≡ step → TellsIn p (command_of job w.path) job (after_step step job w) w lines
    go (walking.Looking s) e = k
    go (walking.Naming b) e = k
    go walking.Arrived e = arrived p job w lines sound k.tells.shape (arrives p (command.Ls w.path) w lines sound k.tells e) k.upto
    go (walking.Stopped why) e = stopped p job w.path lines (reply_of why) k.upto (on why e) (subst (λ (step : WalkStep). TellsAt p (command.Ls w.path) step w.read w.object lines) e k.tells.step)

-- no lines show a command that begins
pub begins : EntryBegins
begins p path job few some = record {
  shape = refl;
  named = refl;
  stage = moved p job (walk_from p.shape path) [] (is_walk_from p.shape path few some) (record { tells = walk_tells_first p (command.Ls path) path refl refl; upto = refl })
      (λ why e. absurd (never (0 == length path) why e));
}
  where
    never : (t : Bool) (why : Stop) → (if t then walking.Arrived else walking.Looking no_look) ≡ walking.Stopped why → ⊥
    never true why e = cc e
    never false why e = cc e
