-- The lines of a work show where its walk stands, and each line is about the command.
use Rattle.std.proofs.Common.{◌≡◌, ◌≢◌, ℕ, ◌+◌, ◌<◌, ◌≤◌, ◌==◌, nat_lt, Bool, true, false, List, [], ◌∷◌, Option, Some, None, length, refl, sym, ap, ◌∙◌, subst, arith, if◌then◌else◌, inl, inr, ◌⊎◌}
use Rattle.std.specs.BTreeMap.{is_at}
use Rattle.std.specs.Map.{lookup}
use Rattle.std.proofs.lemmas.Bool.Decides.{eqb_tells}
use Rattle.std.proofs.lemmas.Bool.{lt-ltb}
use Rattle.afr_base.specs.Bricks.{lowest, is_nothing, member}
use Rattle.afr_base.specs.declared.ids.ActorId.{ActorId}
use Rattle.afr_base.specs.declared.ids.BrickId.{BrickId}
use Rattle.afr_base.specs.declared.ids.Gfid.{Gfid}
use Rattle.afr_base.specs.declared.ids.Kind.{Kind}
use Rattle.afr_base.specs.declared.ids.Kind.TheVariants.{Names}
use Rattle.afr_base.specs.declared.ids.NameId.{NameId}
use Rattle.afr_base.specs.declared.ids.Shape.{Shape}
use Rattle.afr_base.proofs.TestLemmas.{other_number}
use Rattle.afr_object.specs.Tables.{is_dir, copy_at, name_cmp, root_entry}
use Rattle.afr_object.specs.declared.entry.Entry.{Entry}
use Rattle.afr_object.specs.Object.{Object}
use Rattle.afr_choice.specs.Verdict.{verdict_of}
use Rattle.afr_choice.specs.VerdictLemmas.{sources_say}
use Rattle.afr_choice.specs.declared.looked.Looked.{Looked}
use Rattle.afr_choice.specs.declared.verdict.Verdict.{Verdict}
use Rattle.afr_choice.specs.declared.verdict.Verdict.TheVariants.{Short, Bare, Split, Sources}
use Rattle.afr_lines.specs.Told.{told_by}
use Rattle.afr_lines.specs.Work.{Work}
use Rattle.afr_lines.specs.declared.answer.Answer.{Answer}
use Rattle.afr_lines.specs.declared.answer.Answer.TheVariants as answer
use Rattle.afr_lines.specs.declared.answer.Told.{Told}
use Rattle.afr_lines.specs.declared.answer.Told.TheVariants as as_told
use Rattle.afr_lines.specs.declared.line.Line.{Line}
use Rattle.afr_lines.specs.declared.line.Line.TheVariants.{Ask}
use Rattle.afr_lines.specs.declared.reply.Reply.{Reply}
use Rattle.afr_lines.specs.declared.reply.Reply.TheVariants as reply
use Rattle.afr_lines.specs.declared.request.Area.{Area}
use Rattle.afr_lines.specs.declared.request.Request.TheVariants.{Look, ReadName}
use Rattle.afr_plan.specs.declared.command.Command.{Command}
use Rattle.afr_plan.specs.declared.command.Command.TheVariants as command
use Rattle.afr_plan.specs.declared.plan.Plan.{Plan}
use Rattle.afr_model.specs.Answered.{IsAbout}
use Rattle.afr_model.specs.Commands.{path_of, is_on_name, is_rmdir, steps_of}
use Rattle.afr_model.specs.Honest.{copy_answer}
use Rattle.afr_model.specs.Refusals.{or_else, read_refused, by_looks, by_path, too_large, without_source}
use Rattle.afr_model.specs.Showing.{Path, At, among, has, looked_by, looking, path_by, refuses_read}
use Rattle.afr_model.specs.Skipped.{AsksAll}
use Rattle.afr_model.specs.Standing.{area_here, looks_here, place_by}
use Rattle.afr_model.specs.Tables.{entry_at, entry_in, holds}
use Rattle.afr_client_walk.specs.Choosing.{IsAmong, choices, choices_after}
use Rattle.afr_client_walk.specs.Looks.{no_look, left_to_look, heard_look, IsLooks}
use Rattle.afr_client_walk.specs.Walk.{step_at, walk_from, is_walking, name_in, next_at, next_in, choices_at, choices_of, verdict_step, after_looks, named, noted, walked, walked_at, IsStep, IsWalk}
use Rattle.afr_client_walk.specs.declared.looks.Looks.{Looks}
use Rattle.afr_client_walk.specs.declared.stop.Stop.TheVariants as stop
use Rattle.afr_client_walk.specs.declared.walk.Walk.{Walk}
use Rattle.afr_client_walk.specs.declared.walk.WalkStep.{WalkStep}
use Rattle.afr_client_walk.specs.declared.walk.WalkStep.TheVariants.{Looking, Naming, Arrived, Stopped}
use Rattle.afr_client_walk.proofs.ChoosingLemmas.{source_good}
use Rattle.afr_law_client.specs.Read.Lines.{CanAnswer, LookedAll, LookedBut, OnlyReads}
use Rattle.afr_law_client.specs.Read.Looks.{IsSource, LooksAgree}
use Rattle.afr_law_client.specs.Read.WalkTelling.{GoesOn, Stops, TellsAt, WalkTells}
use Rattle.afr_law_client.proofs.Read.LookHeard.{LookTells, among_lines, look_known, look_line, only_more}
use Rattle.afr_law_client.proofs.Read.LooksMore.{agree_first}
use Rattle.afr_law_client.proofs.Read.Quiet.{begins_none, but_from_all}
use Rattle.afr_discipline.proofs.Decides.{le_test}

-- ---- where a command stands whose whole path is walked
pub rmdir_none : (c : Command) → is_on_name c ≡ false → is_rmdir c ≡ false
rmdir_none (command.Rmdir path) h = absurd (cc h)
rmdir_none other h = refl

pub steps_whole : (c : Command) → is_on_name c ≡ false → steps_of c ≡ length (path_of c)
steps_whole c h = rw h refl

pub place_whole : (p : Plan) (c : Command) (w : Work) → is_on_name c ≡ false → place_by p c w ≡ path_by p w
place_whole p c w h = rw h refl

-- it looks at the object where its path stands
pub looks_on_way : (c : Command) (read : ℕ) (object : Entry) → is_on_name c ≡ false → read ≤ length (path_of c) → looks_here c (At read object) ≡ Some object.gfid
looks_on_way c read object h l = rw (le_test read (steps_of c) (subst (λ (n : ℕ). read ≤ n) (sym (steps_whole c h)) l)) refl

-- and locks nothing before its path's end
pub area_on_way : (c : Command) (read : ℕ) (object : Entry) → is_on_name c ≡ false → read < length (path_of c) → area_here c (At read object) ≡ None
area_on_way c read object h l = rw (other_number read (steps_of c) (subst (λ (n : ℕ). read < n) (sym (steps_whole c h)) l), rmdir_none c h) refl

before_end : (c : Command) (read : ℕ) → is_on_name c ≡ false → read < length (path_of c) → nat_lt read (steps_of c) ≡ true
before_end c read h l = lt-ltb read (steps_of c) (subst (λ (n : ℕ). read < n) (sym (steps_whole c h)) l)

-- by looks with sources, the copy that is chosen is one
pub is_source : (p : Plan) (g : Gfid) (kind : Kind) (s : List ℕ) (b : BrickId) (w : Work) → verdict_of p.shape (looked_by g w) kind ≡ Sources s → IsAmong (choices p.shape (looked_by g w) kind) b → IsSource p g kind b.0 w
is_source p g kind s b w e among = record {
  none = ap (λ (v : Verdict). without_source v (looked_by g w).views) e;
  answered = (sources_say p.shape (looked_by g w) kind s e).0;
  good = source_good p.shape (looked_by g w) kind s b e among;
}

-- ---- a walk of a command
module _ (p : Plan) (c : Command) (names : List NameId) (few : p.shape.n ≤ 5) (path : names ≡ path_of c) (whole : is_on_name c ≡ false) where
  abbrev n : ℕ
  n = p.shape.n

  -- what it looks at on its way, every brick was asked for
  asks_all : (read : ℕ) (object : Entry) (w : Work) → path_by p w ≡ At read object → read < length names → ((b : ℕ) → b < n → member (among (looking object.gfid) w) b ≡ true)
      → AsksAll n (looks_here c (path_by p w)) (area_here c (path_by p w)) w
  asks_all read object w at l all =
      let low : read < length (path_of c) = subst (λ (x : List NameId). read < length x) path l in
      let lower : read ≤ length (path_of c) = omega (arith, low) in
      subst (λ (x : Path). AsksAll n (looks_here c x) (area_here c x) w) (sym at)
      (subst (λ (x : Option Gfid). AsksAll n x (area_here c (At read object)) w) (sym (looks_on_way c read object whole lower))
      (subst (λ (x : Option Area). AsksAll n (Some object.gfid) x w) (sym (area_on_way c read object whole low)) all))

  -- a directory on the way refuses what its looks refuse
  on_way_dir : (read : ℕ) (object : Entry) (w : Work) → path_by p w ≡ At read object → read < length names → is_dir object.what ≡ true → by_path p c (path_by p w) w ≡ by_looks p.shape Names (looked_by object.gfid w)
  on_way_dir read object w at l dir =
      let test = before_end c read whole (subst (λ (x : List NameId). read < length x) path l) in
      rw (at, test, dir) refl

  on_way_file : (read : ℕ) (object : Entry) (w : Work) → path_by p w ≡ At read object → read < length names → is_dir object.what ≡ false → by_path p c (path_by p w) w ≡ Some reply.NotDir
  on_way_file read object w at l dir =
      let test = before_end c read whole (subst (λ (x : List NameId). read < length x) path l) in
      rw (at, test, dir) refl

  pub unrefused_is : (w : Work) (next : Option Reply) → has refuses_read w ≡ false → or_else (read_refused w) next ≡ next
  unrefused_is w next e = rw e refl

  -- ---- a look
  module _ (read : ℕ) (object : Entry) (lines : Work) (a : ActorId) (took : Bool) (log : List Line) (l : read < length names) (s : Looks) (chosen : BrickId) (told : Told) (looks : IsLooks n s) (goes : GoesOn p read object lines) (dir : is_dir object.what ≡ true) (agree : LooksAgree n object.gfid s lines) (but : LookedBut n object.gfid lines) where
    abbrev after : Looks
    after = heard_look n told s

    abbrev more : Work
    more = look_line p object a took log s told lines

    abbrev known : LookTells p read object (after) more
    known = look_known p few read object lines a took log s told looks goes agree but

    look_stops : (over : is_nothing (left_to_look n after) ≡ true) (said : Reply) → without_source (verdict_of p.shape (looked_by object.gfid more) Names) (looked_by object.gfid more).views ≡ Some said → (said ≡ reply.Failed → ⊥) → Stops p c more said
    look_stops over said e other = record {
      only = known.goes.only;
      cause = unrefused_is more _ known.goes.unrefused ∙ on_way_dir read object more known.goes.path l dir ∙ e;
      asked = λ h. asks_all read object more known.goes.path l (known.own over);
      failed = λ h. absurd (other h);
      all = known.all over;
    }

    look_judged : (over : is_nothing (left_to_look n after) ≡ true) → IsAmong (choices p.shape (looked_by object.gfid more) Names) chosen → (v : Verdict) → verdict_of p.shape (looked_by object.gfid more) Names ≡ v
        → TellsAt p c (verdict_step chosen v (looked_by object.gfid more).views) read object more
    look_judged over among Short e = look_stops over reply.NoQuorum (ap (λ (v : Verdict). without_source v (looked_by object.gfid more).views) e) (λ h. cc h)
    look_judged over among Bare e = look_stops over reply.FewCopies (ap (λ (v : Verdict). without_source v (looked_by object.gfid more).views) e) (λ h. cc h)
    look_judged over among Split e = look_stops over (reply.SplitBrain (looked_by object.gfid more).views) (ap (λ (v : Verdict). without_source v (looked_by object.gfid more).views) e) (λ h. cc h)
    look_judged over among (Sources t) e = (known.goes, dir, is_source p object.gfid Names t chosen more e among, known.all over)

    pub look_tells : IsAmong (choices_after p.shape Names after) chosen → TellsAt p c (after_looks chosen p.shape after) read object more
    look_tells among = go (is_nothing (left_to_look n after)) refl
      where
        go : (e : Bool) → is_nothing (left_to_look n after) ≡ e → TellsAt p c (if e then verdict_step chosen (verdict_of p.shape after.looked Names) after.looked.views else Looking after) read object more
        go true over =
            subst (λ (x : Looked). TellsAt p c (verdict_step chosen (verdict_of p.shape x Names) x.views) read object more) (sym (known.same over))
            (look_judged over (among_lines p read object after more Names chosen known over among) (verdict_of p.shape (looked_by object.gfid more) Names) refl)
        go false over = (known.goes, dir, known.agree, known.but)

  -- ---- a name
  -- what a line that reads a name leaves as it was
  module _ (read : ℕ) (object : Entry) (lines : Work) (a : ActorId) (b : BrickId) (took : Bool) (log : List Line) (name : NameId) (low : b.0 < n) (l : read < length names) (goes : GoesOn p read object lines) (all : LookedAll n lines) where
    abbrev line_more : Told → Work
    line_more told = (Ask a b (ReadName object.gfid name) told took, log) ∷ lines

    name_only : (told : Told) → OnlyReads n (line_more told)
    name_only told = only_more n a b (ReadName object.gfid name) told took log lines low refl goes.only

    -- an entry was read: the path goes on to it
    entry_goes : (entry : Entry) → entry_at object.gfid name (holds p log b.0) ≡ Some entry → GoesOn p (read + 1) entry (line_more as_told.Given)
    entry_goes entry e = record { only = name_only as_told.Given; unread = goes.unread; unrefused = goes.unrefused; path = rw (e, goes.path) refl }

    entry_step : (entry : Entry) → entry_at object.gfid name (holds p log b.0) ≡ Some entry → TellsAt p c (step_at (length names) (read + 1) entry) (read + 1) entry (line_more as_told.Given)
    entry_step entry e = go (read + 1 == length names) (eqb_tells (read + 1) (length names)) (is_dir entry.what) refl
      where
        next : GoesOn p (read + 1) entry (line_more as_told.Given)
        next = entry_goes entry e

        go : (f : Bool) → (f ≡ true) × (read + 1 ≡ length names) ⊎ (f ≡ false) × (read + 1 ≢ length names) → (d : Bool) → is_dir entry.what ≡ d
            → TellsAt p c (if f then Arrived else (if d then Looking no_look else Stopped stop.NotDir)) (read + 1) entry (line_more as_told.Given)
        go true h d e = (next, all)
        go false (inl h) d e = absurd (cc h.0)
        go false (inr h) true e = (next, e, agree_first n (among (looking entry.gfid) lines) (looked_by entry.gfid lines), but_from_all n entry.gfid (line_more as_told.Given) all)
        go false (inr h) false e =
            let other = h.1 in
            let below : read + 1 < length names = omega (arith, l, other) in
            record {
              only = next.only;
              cause = unrefused_is (line_more as_told.Given) _ next.unrefused ∙ on_way_file (read + 1) entry (line_more as_told.Given) next.path below e;
              asked = λ k. absurd (cc k);
              failed = λ k. absurd (cc k);
              all = all;
            }

    -- no entry was there
    entry_none : entry_at object.gfid name (holds p log b.0) ≡ None → Stops p c (line_more as_told.Given) reply.NoEntry
    entry_none e = record {
      only = name_only as_told.Given;
      cause = unrefused_is (line_more as_told.Given) _ goes.unrefused ∙ gone;
      asked = λ k. absurd (cc k);
      failed = λ k. absurd (cc k);
      all = all;
    }
      where
        gone : by_path p c (path_by p (line_more as_told.Given)) (line_more as_told.Given) ≡ Some reply.NoEntry
        gone = rw (e, goes.path) refl

    refused : (told : Told) → has refuses_read (line_more told) ≡ true → Stops p c (line_more told) reply.Failed
    refused told e = record {
      only = name_only told;
      cause = rw e refl;
      asked = λ k. absurd (cc k);
      failed = λ k. e;
      all = all;
    }

    -- an answer that was given is an entry
    abbrev is_entry : Answer → Bool
    is_entry (answer.Entry entry) = true
    is_entry other = false

    abbrev entry_of : Object → Answer
    entry_of o = answer.Entry (lookup (is_at (name_cmp name)) o.names)

    given_entry : (heard : Answer) (o : Option Object) → heard ≡ copy_answer entry_of o → told_by heard ≡ as_told.Given → is_entry heard ≡ true
    given_entry heard None e t = absurd (clash (sym (ap told_by e) ∙ t))
      where
        clash : as_told.NoObject ≡ as_told.Given → ⊥
        clash h = cc h
    given_entry heard (Some o) e t = ap is_entry e

    entry_is : (entry : Option Entry) (o : Option Object) → answer.Entry entry ≡ copy_answer entry_of o → entry_in name o ≡ entry
    entry_is entry None e = absurd (cc e)
    entry_is entry (Some o) e = cc e

    not_given : (heard : Answer) → CanAnswer p b.0 (ReadName object.gfid name) log heard → told_by heard ≡ as_told.Given → is_entry heard ≡ false → ⊥
    not_given heard can t e = let f : is_entry heard ≡ true = given_entry heard (copy_at object.gfid (holds p log b.0)) (can.given t) t in cc (e, f)

    pub name_tells : (w : Walk) (heard : Answer) → w.read ≡ read → w.path ≡ names → CanAnswer p b.0 (ReadName object.gfid name) log heard
        → TellsAt p c (named heard w).step (named heard w).read (named heard w).object (line_more (told_by heard))
    name_tells w (answer.Entry (Some entry)) er en can =
        let e = entry_is (Some entry) (copy_at object.gfid (holds p log b.0)) (can.given refl) in
        subst (λ (x : List NameId). TellsAt p c (step_at (length x) (w.read + 1) entry) (w.read + 1) entry (line_more as_told.Given)) (sym en)
        (subst (λ (x : ℕ). TellsAt p c (step_at (length names) (x + 1) entry) (x + 1) entry (line_more as_told.Given)) (sym er) (entry_step entry e))
    name_tells w (answer.Entry None) er en can = entry_none (entry_is None (copy_at object.gfid (holds p log b.0)) (can.given refl))
    name_tells w answer.NotConnected er en can = refused as_told.NotConnected refl
    name_tells w answer.Failed er en can = refused as_told.Failed refl
    name_tells w (answer.Bytes bytes) er en can = absurd (not_given (answer.Bytes bytes) can refl refl)
    name_tells w (answer.Names found) er en can = absurd (not_given (answer.Names found) can refl refl)
    name_tells w (answer.Value value) er en can = absurd (not_given (answer.Value value) can refl refl)
    name_tells w (answer.Attrs attrs) er en can = absurd (not_given (answer.Attrs attrs) can refl refl)
    name_tells w (answer.Index index) er en can = absurd (not_given (answer.Index index) can refl refl)
    name_tells w answer.Granted er en can = absurd (cc (can.told refl))
    name_tells w (answer.Held owner) er en can = absurd (cc (can.told refl))
    name_tells w (answer.Seen view) er en can = absurd (cc (can.told refl))
    name_tells w answer.Done er en can = absurd (cc (can.told refl))
    name_tells w answer.NoObject er en can = absurd (cc (can.told refl))

-- ---- a line of a walk
-- what its lines show after it
pub walk_tells_more : (p : Plan) (c : Command) (w : Walk) (lines : Work) (a : ActorId) (chosen : BrickId) (heard : Answer) (took : Bool) (log : List Line) (at : ℕ) → IsWalk w → is_walking w.step ≡ true → WalkTells p c w lines
    → CanAnswer p (next_in w).0.0 (next_in w).1 log heard → IsAmong (choices_of heard w) chosen → WalkTells p c (walked chosen heard at w) ((Ask a (next_in w).0 (next_in w).1 (told_by heard) took, log) ∷ lines)
walk_tells_more p c w lines a chosen heard took log at sound walks k can among = by w.step walks sound.step k.step can among
  where
    start : Walk
    start = noted (next_in w) (told_by heard) at w

    few : p.shape.n ≤ 5
    few = subst (λ (x : Shape). x.n ≤ 5) k.shape sound.few

    by : (step : WalkStep) → is_walking step ≡ true → IsStep w.shape.n (length w.path) w.read step → TellsAt p c step w.read w.object lines → CanAnswer p (next_at step w).0.0 (next_at step w).1 log heard → IsAmong (choices_at step heard w) chosen
        → WalkTells p c (walked_at chosen step heard start) ((Ask a (next_at step w).0 (next_at step w).1 (told_by heard) took, log) ∷ lines)
    by (Looking s) h i (goes, dir, agree, but) can among = record {
      shape = k.shape;
      path = k.path;
      whole = k.whole;
      step =
          subst (λ (x : Shape). TellsAt p c (after_looks chosen x (heard_look x.n (told_by heard) s)) w.read w.object ((Ask a (record { 0 = lowest (left_to_look x.n s) }) (Look w.object.gfid) (told_by heard) took, log) ∷ lines)) (sym k.shape)
          (look_tells p c w.path few k.path k.whole w.read w.object lines a took log i.1 s chosen (told_by heard) (subst (λ (x : Shape). IsLooks x.n s) k.shape i.0) goes dir agree but
          (subst (λ (x : Shape). IsAmong (choices_after x Names (heard_look x.n (told_by heard) s)) chosen) k.shape among));
    }
    by (Naming b) h i (goes, dir, source, all) can among =
        let step = name_tells p c w.path few k.path k.whole w.read w.object lines a b took log (name_in w) (subst (λ (x : Shape). b.0 < x.n) k.shape i.0) i.1 goes all start heard refl refl can in
        moved heard step
      where
        moved : (x : Answer) → TellsAt p c (named x start).step (named x start).read (named x start).object ((Ask a b (ReadName w.object.gfid (name_in w)) (told_by heard) took, log) ∷ lines)
            → WalkTells p c (named x start) ((Ask a b (ReadName w.object.gfid (name_in w)) (told_by heard) took, log) ∷ lines)
        moved (answer.Entry (Some entry)) t = record { shape = k.shape; path = k.path; whole = k.whole; step = t }
        moved (answer.Entry None) t = record { shape = k.shape; path = k.path; whole = k.whole; step = t }
        moved x t = record { shape = k.shape; path = k.path; whole = k.whole; step = t }
    by Arrived h i t can among = absurd (cc h)
    by (Stopped why) h i t can among = absurd (cc h)

-- no lines show a walk that begins
pub walk_tells_first : (p : Plan) (c : Command) (names : List NameId) → is_on_name c ≡ false → names ≡ path_of c → WalkTells p c (walk_from p.shape names) []
walk_tells_first p c names whole path = record { shape = refl; path = path; whole = whole; step = go (0 == length names) }
  where
    first : GoesOn p 0 root_entry []
    first = record { only = tt; unread = refl; unrefused = refl; path = refl }

    go : (e : Bool) → TellsAt p c (if e then Arrived else Looking no_look) 0 root_entry []
    go true = (first, λ g m. absurd (cc m))
    go false = (first, refl, agree_first p.shape.n [] (looked_by root_entry.gfid []), λ g d m. absurd (cc m))

-- each line of a walk is about its command
pub walk_about : (p : Plan) (c : Command) (w : Walk) (lines : Work) (a : ActorId) (told : Told) (took : Bool) → IsWalk w → is_walking w.step ≡ true → WalkTells p c w lines → too_large c ≡ None
    → IsAbout p c (Ask a (next_in w).0 (next_in w).1 told took) lines
walk_about p c w lines a told took sound walks k large = by w.step walks sound.step k.step
  where
    by : (step : WalkStep) → is_walking step ≡ true → IsStep w.shape.n (length w.path) w.read step → TellsAt p c step w.read w.object lines → IsAbout p c (Ask a (next_at step w).0 (next_at step w).1 told took) lines
    by (Looking s) h i (goes, dir, agree, but) =
        let low : w.read < length (path_of c) = subst (λ (x : List NameId). w.read < length x) k.path i.1 in
        record {
          unbegun = begins_none p.shape.n lines goes.only;
          unread = goes.unread;
          object = subst (λ (x : Path). looks_here c x ≡ Some w.object.gfid) (sym goes.path) (looks_on_way c w.read w.object k.whole (omega (arith, low)));
          locked = λ area e. absurd (cc (e, subst (λ (x : Path). area_here c x ≡ None) (sym goes.path) (area_on_way c w.read w.object k.whole low)));
        }
    by (Naming b) h i (goes, dir, source, all) = record {
      unbegun = begins_none p.shape.n lines goes.only;
      goes_on =
          ap (λ (x : Option Reply). or_else x (or_else (read_refused lines) (by_path p c (place_by p c lines) lines))) large
          ∙ unrefused_is p c w.path few k.path k.whole lines _ goes.unrefused
          ∙ ap (λ (x : Path). by_path p c x lines) (place_whole p c lines k.whole)
          ∙ on_way_dir p c w.path few k.path k.whole w.read w.object lines goes.path i.1 dir
          ∙ source.none;
      answered = source.answered;
      good = source.good;
    }
      where
        few : p.shape.n ≤ 5
        few = subst (λ (x : Shape). x.n ≤ 5) k.shape sound.few
    by Arrived h i t = absurd (cc h)
    by (Stopped why) h i t = absurd (cc h)
