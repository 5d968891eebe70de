-- The lines of a work show where its read stands, each line is about the command, and its reply has its cause.
use Rattle.std.proofs.Common.{◌≡◌, ℕ, ◌<◌, ◌≤◌, ◌==◌, Bool, true, false, List, [], Option, Some, None, length, refl, sym, ap, ◌∙◌, subst, arith, if◌then◌else◌, is_some}
use Rattle.afr_base.specs.Bricks.{is_nothing, member, and_right}
use Rattle.afr_base.specs.declared.ids.ActorId.{ActorId}
use Rattle.afr_base.specs.declared.ids.BrickId.{BrickId}
use Rattle.afr_base.specs.declared.ids.Gfid.{Gfid}
use Rattle.afr_base.specs.declared.ids.Kind.{Kind}
use Rattle.afr_base.specs.declared.ids.NameId.{NameId}
use Rattle.afr_base.specs.declared.ids.What.{What}
use Rattle.afr_base.specs.declared.ids.What.TheVariants.{File, Dir}
use Rattle.afr_object.specs.Tables.{is_dir, is_file}
use Rattle.afr_object.specs.declared.entry.Entry.{Entry}
use Rattle.afr_object.specs.declared.entry.View.{View}
use Rattle.afr_choice.specs.Looks.{view_at}
use Rattle.afr_choice.specs.Verdict.{verdict_of, good_copies, is_holder}
use Rattle.afr_choice.specs.VerdictLemmas.{good_are_holders, good_below, member_holders}
use Rattle.afr_choice.specs.declared.looked.Looked.{Looked}
use Rattle.afr_choice.specs.declared.verdict.Verdict.{Verdict}
use Rattle.afr_choice.specs.declared.verdict.Verdict.TheVariants.{Short, Bare, Split, Sources}
use Rattle.afr_lines.specs.Work.{Work}
use Rattle.afr_lines.specs.declared.answer.Told.{Told}
use Rattle.afr_lines.specs.declared.line.Line.{Line}
use Rattle.afr_lines.specs.declared.reply.Good.TheVariants as good
use Rattle.afr_lines.specs.declared.reply.Reply.{Reply}
use Rattle.afr_lines.specs.declared.reply.Reply.TheVariants as reply
use Rattle.afr_lines.specs.declared.request.Area.{Area}
use Rattle.afr_plan.specs.declared.command.Command.{Command}
use Rattle.afr_plan.specs.declared.command.Command.TheVariants as command
use Rattle.afr_plan.specs.declared.plan.Plan.{Plan}
use Rattle.afr_model.specs.Answered.{Answers, IsAnswered, Stats, is_by_views}
use Rattle.afr_model.specs.Commands.{is_on_name, kind_looked, path_of, steps_of}
use Rattle.afr_model.specs.Refusals.{at_object, by_looks, refusal, too_large, without_source}
use Rattle.afr_model.specs.Showing.{Path, At, among, has, looked_by, looking, path_by, refuses_read}
use Rattle.afr_model.specs.Skipped.{AsksAll}
use Rattle.afr_model.specs.Standing.{area_here, looks_here, place_by}
use Rattle.afr_client_walk.specs.Choosing.{IsAmong, choices, choices_after}
use Rattle.afr_client_walk.specs.Looks.{no_look, left_to_look, heard_look, IsLooks}
use Rattle.afr_client_walk.specs.Stops.{reply_of}
use Rattle.afr_client_walk.specs.Walk.{IsStep, IsWalk, walk_from}
use Rattle.afr_client_walk.specs.declared.looks.Looks.{Looks}
use Rattle.afr_client_walk.specs.declared.walk.Walk.{Walk}
use Rattle.afr_client_walk.specs.declared.walk.WalkStep.{WalkStep}
use Rattle.afr_client_walk.specs.declared.walk.WalkStep.TheVariants as walking
use Rattle.afr_client_walk.proofs.WalkLemmas.{is_walk_from}
use Rattle.afr_client_read.specs.Job.{kind_of}
use Rattle.afr_client_read.specs.Lookup.{after_step, after_walk, at_object as first_stage, from_copy, len_at, len_in, object_judged, object_looked}
use Rattle.afr_client_read.specs.declared.job.Wanted.TheVariants as content
use Rattle.afr_client_read.specs.declared.job.LookupJob.{LookupJob}
use Rattle.afr_client_read.specs.declared.job.LookupJob.TheVariants.{Read, GetAttr, Ls, Stat}
use Rattle.afr_client_read.specs.declared.stage.LookupStage.TheVariants.{Looking, Reading, Ending}
use Rattle.afr_law_client.specs.Read.Lines.{LookedAll, LookedBut}
use Rattle.afr_law_client.specs.Read.Looks.{IsSource, LooksAgree}
use Rattle.afr_law_client.specs.Read.ReadLaws.{ReadBegins}
use Rattle.afr_law_client.specs.Read.ReadTelling.{IsAtObject, IsSuited, TellsIn, command_of}
use Rattle.afr_law_client.specs.Read.WalkTelling.{GoesOn, TellsAt, WalkTells}
use Rattle.afr_law_client.proofs.Read.Ended.{answered_end, refused_end, refusal_end, stopped_end}
use Rattle.afr_law_client.proofs.Read.LookHeard.{LookTells, among_lines, look_known, look_line}
use Rattle.afr_law_client.proofs.Read.LooksMore.{agree_first}
use Rattle.afr_law_client.proofs.Read.Quiet.{but_from_all}
use Rattle.afr_law_client.proofs.Read.Walking.{is_source, looks_on_way, place_whole, steps_whole, walk_tells_first}

-- ---- the command of a read
pub whole_of : (job : LookupJob) (path : List NameId) → is_on_name (command_of job path) ≡ false
whole_of (Read at len) path = refl
whole_of (GetAttr key) path = refl
whole_of Ls path = refl
whole_of Stat path = refl

pub path_is : (job : LookupJob) (path : List NameId) → path_of (command_of job path) ≡ path
path_is (Read at len) path = refl
path_is (GetAttr key) path = refl
path_is Ls path = refl
path_is Stat path = refl

pub large_none : (job : LookupJob) (path : List NameId) → too_large (command_of job path) ≡ None
large_none (Read at len) path = refl
large_none (GetAttr key) path = refl
large_none Ls path = refl
large_none Stat path = refl

abbrev none_area : Option Area
none_area = None

either_none : (x : Bool) → (if x then none_area else none_area) ≡ none_area
either_none true = refl
either_none false = refl

-- it locks nothing
pub area_nowhere : (job : LookupJob) (path : List NameId) (read : ℕ) (object : Entry) → area_here (command_of job path) (At read object) ≡ None
area_nowhere (Read at len) path read object = either_none (read == length path)
area_nowhere (GetAttr key) path read object = either_none (read == length path)
area_nowhere Ls path read object = either_none (read == length path)
area_nowhere Stat path read object = either_none (read == length path)

kind_shown : (path : List NameId) (what : What) → kind_looked (command.Stat path) what ≡ kind_of Stat what
kind_shown path File = refl
kind_shown path Dir = refl

-- an object for the job refuses what its looks refuse
pub suited_is : (p : Plan) (job : LookupJob) (path : List NameId) (object : Entry) (w : Work) → IsSuited job object.what → at_object p (command_of job path) object w ≡ by_looks p.shape (kind_of job object.what) (looked_by object.gfid w)
suited_is p (Read at len) path object w suited = rw suited refl
suited_is p (GetAttr key) path object w suited = refl
suited_is p Ls path object w suited = rw suited refl
suited_is p Stat path object w suited = ap (λ (kind : Kind). by_looks p.shape kind (looked_by object.gfid w)) (kind_shown path object.what)

-- ---- at the path's end
module _ (p : Plan) (few : p.shape.n ≤ 5) (job : LookupJob) (names : List NameId) where
  abbrev c : Command
  c = command_of job names

  end_of : (read : ℕ) → read ≡ length names → read ≡ length (path_of c)
  end_of read e = subst (λ (x : List NameId). read ≡ length x) (sym (path_is job names)) e

  -- what refuses it there
  pub refusal_at : (read : ℕ) (object : Entry) (w : Work) → has refuses_read w ≡ false → path_by p w ≡ At read object → read ≡ length names → refusal p c w ≡ at_object p c object w
  refusal_at read object w unrefused at end = refusal_end p c w read object (whole_of job names) (large_none job names) unrefused at (end_of read end)

  pub refusal_looks : (read : ℕ) (object : Entry) (w : Work) → IsAtObject p job names read object w → refusal p c w ≡ by_looks p.shape (kind_of job object.what) (looked_by object.gfid w)
  refusal_looks read object w k = refusal_at read object w k.goes.unrefused k.goes.path k.whole ∙ suited_is p job names object w k.suited

  pub place_at : (read : ℕ) (object : Entry) (w : Work) → path_by p w ≡ At read object → read ≡ length names → place_by p c w ≡ At (steps_of c) object
  place_at read object w at end =
      place_whole p c w (whole_of job names) ∙ at ∙ ap (λ (k : ℕ). At k object) (end_of read end ∙ sym (steps_whole c (whole_of job names)))

  asks_all_at : (read : ℕ) (object : Entry) (w : Work) → path_by p w ≡ At read object → read ≡ length names → ((b : ℕ) → b < p.shape.n → member (among (looking object.gfid) w) b ≡ true)
      → AsksAll p.shape.n (looks_here c (path_by p w)) (area_here c (path_by p w)) w
  asks_all_at read object w at end all =
      let e = end_of read end in
      subst (λ (x : Path). AsksAll p.shape.n (looks_here c x) (area_here c x) w) (sym at)
      (subst (λ (x : Option Gfid). AsksAll p.shape.n x (area_here c (At read object)) w) (sym (looks_on_way c read object (whole_of job names) (omega (arith, e))))
      (subst (λ (x : Option Area). AsksAll p.shape.n (Some object.gfid) x w) (sym (area_nowhere job names read object)) all))

-- ---- where a walk leaves the read
-- an object that isn't for the job
unsuited : (p : Plan) (few : p.shape.n ≤ 5) (job : LookupJob) (w : Walk) (lines : Work) (said : Reply) → GoesOn p w.read w.object lines → LookedAll p.shape.n lines → w.read ≡ length w.path
    → at_object p (command_of job w.path) w.object lines ≡ Some said → is_by_views said ≡ false → (said ≡ reply.Failed → ⊥) → IsAnswered p (command_of job w.path) lines said
unsuited p few job w lines said goes all whole e plain other =
    refused_end p (command_of job w.path) lines goes.only all (whole_of job w.path) said (refusal_at p few job w.path w.read w.object lines goes.unrefused goes.path whole ∙ e) (λ h. absurd (cc (h, plain))) (λ h. absurd (other h))

pub arrives : (p : Plan) (few : p.shape.n ≤ 5) (job : LookupJob) (w : Walk) (lines : Work) → GoesOn p w.read w.object lines → LookedAll p.shape.n lines → w.read ≡ length w.path → TellsIn p job (first_stage job w.object.what) w lines
arrives p few (Read at len) w lines goes all whole = go (is_dir w.object.what) refl
  where
    go : (d : Bool) → is_dir w.object.what ≡ d → TellsIn p (Read at len) (if d then Ending reply.IsDir else Looking no_look) w lines
    go true e = unsuited p few (Read at len) w lines reply.IsDir goes all whole (rw e refl) refl (λ h. cc h)
    go false e = (record { goes = goes; whole = whole; suited = e }, agree_first p.shape.n (among (looking w.object.gfid) lines) (looked_by w.object.gfid lines), but_from_all p.shape.n w.object.gfid lines all)
arrives p few Ls w lines goes all whole = go (is_file w.object.what) refl
  where
    go : (d : Bool) → is_file w.object.what ≡ d → TellsIn p Ls (if d then Ending reply.NotDir else Looking no_look) w lines
    go true e = unsuited p few Ls w lines reply.NotDir goes all whole (rw e refl) refl (λ h. cc h)
    go false e = (record { goes = goes; whole = whole; suited = e }, agree_first p.shape.n (among (looking w.object.gfid) lines) (looked_by w.object.gfid lines), but_from_all p.shape.n w.object.gfid lines all)
arrives p few (GetAttr key) w lines goes all whole = (record { goes = goes; whole = whole; suited = tt }, agree_first p.shape.n (among (looking w.object.gfid) lines) (looked_by w.object.gfid lines), but_from_all p.shape.n w.object.gfid lines all)
arrives p few Stat w lines goes all whole = (record { goes = goes; whole = whole; suited = tt }, agree_first p.shape.n (among (looking w.object.gfid) lines) (looked_by w.object.gfid lines), but_from_all p.shape.n w.object.gfid lines all)

pub moved : (p : Plan) (few : p.shape.n ≤ 5) (job : LookupJob) (w : Walk) (lines : Work) → IsWalk w → WalkTells p (command_of job w.path) w lines → TellsIn p job (after_walk job w) w lines
moved p few job w lines sound k = go w.step sound.step k.step
  where
    go : (step : WalkStep) → IsStep w.shape.n (length w.path) w.read step → TellsAt p (command_of job w.path) step w.read w.object lines → TellsIn p job (after_step step job w) w lines
    go (walking.Looking s) i t = k
    go (walking.Naming b) i t = k
    go walking.Arrived i (goes, all) = arrives p few job w lines goes all i
    go (walking.Stopped why) i t = stopped_end p (command_of job w.path) lines (reply_of why) (whole_of job w.path) (large_none job w.path) t

-- no lines show a read that begins
pub begins : ReadBegins
begins p path job few some = record {
  shape = refl;
  stage = moved p few job (walk_from p.shape path) [] (is_walk_from p.shape path few some) (walk_tells_first p (command_of job path) path (whole_of job path) (sym (path_is job path)));
}

-- ---- the verdict
-- a good copy has shown a view
some_view : (v : Option View) → is_some v ≡ true → (view : View) × (v ≡ Some view)
some_view None h = absurd (cc h)
some_view (Some view) h = (view, refl)

good_shows : (p : Plan) (looked : Looked) (kind : Kind) (b : ℕ) → member (good_copies p.shape looked kind) b ≡ true → (view : View) × (view_at b looked ≡ Some view)
good_shows p looked kind b m =
    let low = good_below p.shape looked kind b m in
    let holds : is_holder looked b ≡ true = sym (member_holders looked b low) ∙ good_are_holders p.shape looked kind b m in
    some_view (view_at b looked) (and_right (member looked.reached b) (is_some (view_at b looked)) holds)

module _ (p : Plan) (few : p.shape.n ≤ 5) (w : Walk) (lines : Work) where
  abbrev g : Gfid
  g = w.object.gfid

  -- a stat tells what a good copy showed
  stat_ends : (b : ℕ) → IsAtObject p Stat w.path w.read w.object lines → IsSource p g (kind_of Stat w.object.what) b lines → LookedAll p.shape.n lines
      → IsAnswered p (command.Stat w.path) lines (reply.Ok (good.Stat w.object (len_at b (looked_by g lines))))
  stat_ends b k source all =
      let shows = good_shows p (looked_by g lines) (kind_of Stat w.object.what) b source.good in
      answered_end p (command.Stat w.path) lines k.goes.only all refl (reply.Ok (good.Stat w.object (len_at b (looked_by g lines))))
      (Stats (refusal_looks p few Stat w.path w.read w.object lines k ∙ source.none) w.path refl w.object (place_at p few Stat w.path w.read w.object lines k.goes.path k.whole) (record {
        brick = b;
        view = shows.0;
        is_good = subst (λ (kind : Kind). member (good_copies p.shape (looked_by g lines) kind) b ≡ true) (sym (kind_shown [] w.object.what)) source.good;
        seen = shows.1;
        gives = ap (λ (v : Option View). reply.Ok (good.Stat w.object (len_in v))) shows.1;
      }))
      refl (λ h. cc h)

  -- a read of no bytes ends
  nothing_read : (at len : ℕ) → (len == 0) ≡ true → IsAtObject p (Read at len) w.path w.read w.object lines → by_looks p.shape (kind_of (Read at len) w.object.what) (looked_by g lines) ≡ None → LookedAll p.shape.n lines
      → IsAnswered p (command.Read w.path at len) lines (reply.Ok (good.Bytes []))
  nothing_read at len e k none all =
      answered_end p (command.Read w.path at len) lines k.goes.only all refl (reply.Ok (good.Bytes []))
      (Answers (refusal_looks p few (Read at len) w.path w.read w.object lines k ∙ none) w.object (place_at p few (Read at len) w.path w.read w.object lines k.goes.path k.whole) (rw e refl))
      refl (λ h. cc h)

  from_copy_tells : (job : LookupJob) (b : BrickId) → IsAtObject p job w.path w.read w.object lines → IsSource p g (kind_of job w.object.what) b.0 lines → LookedAll p.shape.n lines
      → TellsIn p job (from_copy job w.object (looked_by g lines) b) w lines
  from_copy_tells (Read at len) b k source all = go (len == 0) refl
    where
      go : (e : Bool) → (len == 0) ≡ e → TellsIn p (Read at len) (if e then Ending (reply.Ok (good.Bytes [])) else Reading b (content.Bytes at len)) w lines
      go true e = nothing_read at len e k source.none all
      go false e = (k, (refl, e), source, all)
  from_copy_tells (GetAttr key) b k source all = (k, refl, source, all)
  from_copy_tells Ls b k source all = (k, refl, source, all)
  from_copy_tells Stat b k source all = stat_ends b.0 k source all

  judged_tells : (job : LookupJob) (chosen : BrickId) → IsAtObject p job w.path w.read w.object lines → LookedAll p.shape.n lines → ((b : ℕ) → b < p.shape.n → member (among (looking g) lines) b ≡ true)
      → IsAmong (choices p.shape (looked_by g lines) (kind_of job w.object.what)) chosen
      → (v : Verdict) → verdict_of p.shape (looked_by g lines) (kind_of job w.object.what) ≡ v → TellsIn p job (object_judged chosen job w.object v (looked_by g lines)) w lines
  judged_tells job chosen k all own among v e = go v e
    where
      ends : (said : Reply) → without_source (verdict_of p.shape (looked_by g lines) (kind_of job w.object.what)) (looked_by g lines).views ≡ Some said → (said ≡ reply.Failed → ⊥) → IsAnswered p (command_of job w.path) lines said
      ends said e other =
          refused_end p (command_of job w.path) lines k.goes.only all (whole_of job w.path) said (refusal_looks p few job w.path w.read w.object lines k ∙ e)
          (λ h. asks_all_at p few job w.path w.read w.object lines k.goes.path k.whole own) (λ h. absurd (other h))

      go : (v : Verdict) → verdict_of p.shape (looked_by g lines) (kind_of job w.object.what) ≡ v → TellsIn p job (object_judged chosen job w.object v (looked_by g lines)) w lines
      go Short e = ends reply.NoQuorum (ap (λ (x : Verdict). without_source x (looked_by g lines).views) e) (λ h. cc h)
      go Bare e = ends reply.FewCopies (ap (λ (x : Verdict). without_source x (looked_by g lines).views) e) (λ h. cc h)
      go Split e = ends (reply.SplitBrain (looked_by g lines).views) (ap (λ (x : Verdict). without_source x (looked_by g lines).views) e) (λ h. cc h)
      go (Sources s) e = from_copy_tells job chosen k (is_source p g (kind_of job w.object.what) s chosen lines e among) all

-- ---- a look at the object
pub look_tells : (p : Plan) (few : p.shape.n ≤ 5) (job : LookupJob) (w : Walk) (lines : Work) (a : ActorId) (took : Bool) (log : List Line) (s : Looks) (chosen : BrickId) (told : Told) → IsLooks p.shape.n s
    → IsAtObject p job w.path w.read w.object lines → LooksAgree p.shape.n w.object.gfid s lines → LookedBut p.shape.n w.object.gfid lines
    → IsAmong (choices_after p.shape (kind_of job w.object.what) (heard_look p.shape.n told s)) chosen
    → TellsIn p job (object_looked chosen p.shape job w.object (heard_look p.shape.n told s)) w (look_line p w.object a took log s told lines)
look_tells p few job w lines a took log s chosen told looks k agree but among = go (is_nothing (left_to_look p.shape.n after)) refl
  where
    after : Looks
    after = heard_look p.shape.n told s

    more : Work
    more = look_line p w.object a took log s told lines

    known : LookTells p w.read w.object after more
    known = look_known p few w.read w.object lines a took log s told looks k.goes agree but

    there : IsAtObject p job w.path w.read w.object more
    there = record { goes = known.goes; whole = k.whole; suited = k.suited }

    kind : Kind
    kind = kind_of job w.object.what

    go : (e : Bool) → is_nothing (left_to_look p.shape.n after) ≡ e
        → TellsIn p job (if e then object_judged chosen job w.object (verdict_of p.shape after.looked kind) after.looked else Looking after) w more
    go true over =
        subst (λ (x : Looked). TellsIn p job (object_judged chosen job w.object (verdict_of p.shape x kind) x) w more) (sym (known.same over))
        (judged_tells p few w more job chosen there (known.all over) (known.own over) (among_lines p w.read w.object after more kind chosen known over among) (verdict_of p.shape (looked_by w.object.gfid more) kind) refl)
    go false over = (there, known.agree, known.but)
