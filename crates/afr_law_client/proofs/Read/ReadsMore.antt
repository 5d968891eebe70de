-- A read of a copy is about the command, and what it gives is the reply; so each line of a read keeps what its lines tell.
use Rattle.std.proofs.Common.{◌≡◌, ℕ, ◌<◌, ◌≤◌, ◌||◌, Bool, true, false, List, [], ◌∷◌, Option, Some, None, length, refl, sym, ap, ◌∙◌, subst, arith, take}
use Rattle.std.specs.Prelude.{drop}
use Rattle.std.specs.BTreeMap.{is_at}
use Rattle.std.specs.Map.{lookup}
use Rattle.afr_base.specs.Bricks.{lowest}
use Rattle.afr_base.specs.declared.ids.ActorId.{ActorId}
use Rattle.afr_base.specs.declared.ids.BrickId.{BrickId}
use Rattle.afr_base.specs.declared.ids.Gfid.{Gfid}
use Rattle.afr_base.specs.declared.ids.NameId.{NameId}
use Rattle.afr_base.specs.declared.ids.Shape.{Shape}
use Rattle.afr_object.specs.Tables.{Table, copy_at, key_cmp}
use Rattle.afr_object.specs.Object.{Object}
use Rattle.afr_choice.specs.declared.looked.Looked.{Looked}
use Rattle.afr_lines.specs.Told.{told_by}
use Rattle.afr_lines.specs.Work.{Work}
use Rattle.afr_lines.specs.declared.answer.Answer.{Answer}
use Rattle.afr_lines.specs.declared.answer.Answer.TheVariants as answer_of
use Rattle.afr_lines.specs.declared.answer.Told.{Told}
use Rattle.afr_lines.specs.declared.answer.Told.TheVariants as as_told
use Rattle.afr_lines.specs.declared.line.Line.{Line}
use Rattle.afr_lines.specs.declared.line.Line.TheVariants.{Ask}
use Rattle.afr_lines.specs.declared.line.Next.{Next}
use Rattle.afr_lines.specs.declared.line.Next.TheVariants as next
use Rattle.afr_lines.specs.declared.reply.Reply.{Reply}
use Rattle.afr_lines.specs.declared.reply.Reply.TheVariants as reply
use Rattle.afr_lines.specs.declared.request.Request.{Request}
use Rattle.afr_lines.specs.declared.request.Request.TheVariants.{Look}
use Rattle.afr_plan.specs.declared.command.Command.{Command}
use Rattle.afr_plan.specs.declared.plan.Plan.{Plan}
use Rattle.afr_model.specs.Answered.{Answers, IsAbout, IsAnswered, MayRead, answer, by_reading, is_by_views}
use Rattle.afr_model.specs.Keeping.{KeepsTo}
use Rattle.afr_model.specs.Commands.{path_of}
use Rattle.afr_model.specs.Honest.{answer_by, copy_answer}
use Rattle.afr_model.specs.Refusals.{by_looks, refusal}
use Rattle.afr_model.specs.Showing.{Path, At, given_by, has, is_fault, looked_by, path_by, reading_by, reading_told, refuses_read}
use Rattle.afr_model.specs.Standing.{area_here, looks_here}
use Rattle.afr_model.specs.Tables.{holds}
use Rattle.afr_client_walk.specs.Choosing.{IsAmong, choices_after}
use Rattle.afr_client_walk.specs.Looks.{left_to_look, heard_look, IsLooks}
use Rattle.afr_client_walk.specs.Walk.{next_in, noted, walked}
use Rattle.afr_client_walk.specs.declared.walk.Walk.{Walk}
use Rattle.afr_client_walk.proofs.WalkLemmas.{is_walked}
use Rattle.afr_client_read.specs.Job.{kind_of, reply_to, request_of}
use Rattle.afr_client_read.specs.Lookup.{Lookup, IsLookup, IsStage, asked_at, choices_at, is_asking, next_at, object_looked, stage_after, walk_after}
use Rattle.afr_client_read.specs.declared.job.Wanted.{Wanted}
use Rattle.afr_client_read.specs.declared.job.Wanted.TheVariants as content
use Rattle.afr_client_read.specs.declared.job.LookupJob.{LookupJob}
use Rattle.afr_client_read.specs.declared.job.LookupJob.TheVariants.{Read, GetAttr, Ls, Stat}
use Rattle.afr_client_read.specs.declared.stage.LookupStage.{LookupStage}
use Rattle.afr_client_read.specs.declared.stage.LookupStage.TheVariants.{Walking, Looking, Reading, Ending}
use Rattle.afr_client_read.proofs.LookupLemmas.{free_request}
use Rattle.afr_law_client.specs.Read.Lines.{CanAnswer, LookedAll, OnlyReads, gives_or_fails, is_look}
use Rattle.afr_law_client.specs.Read.Looks.{IsSource}
use Rattle.afr_law_client.specs.Read.ReadLaws.{ReadAbout, ReadEnds, ReadFollows, ReadTellsMore}
use Rattle.afr_law_client.specs.Read.ReadTelling.{IsAtObject, IsNamed, ReadTells, TellsIn, command_of}
use Rattle.afr_law_client.specs.Read.WalkTelling.{WalkTells}
use Rattle.afr_law_client.proofs.Read.Ended.{answered_end, refused_end, refusal_here}
use Rattle.afr_law_client.proofs.Read.LookHeard.{only_more}
use Rattle.afr_law_client.proofs.Read.Quiet.{begins_none}
use Rattle.afr_law_client.proofs.Read.ReadsTell.{area_nowhere, large_none, look_tells, moved, path_is, place_at, refusal_at, refusal_looks, suited_is, whole_of}
use Rattle.afr_law_client.proofs.Read.WalksEnd.{walk_follows}
use Rattle.afr_law_client.proofs.Read.Walking.{looks_on_way, walk_about, walk_tells_more}
use Rattle.afr_client_entry.proofs.Renames.RenameLemmas.{walked_path}

-- ---- what a copy gives
abbrev gives : Wanted → Object → Answer
gives (content.Bytes at len) o = answer_of.Bytes (take len (drop at o.content))
gives (content.Value key) o = answer_of.Value (lookup (is_at (key_cmp key)) o.attrs)
gives content.Names o = answer_of.Names o.names

given_answer : (g : Gfid) (of : Wanted) (t : Table) (log : List Line) → answer_by None (request_of g of) t log ≡ copy_answer (gives of) (copy_at g t)
given_answer g (content.Bytes at len) t log = refl
given_answer g (content.Value key) t log = refl
given_answer g content.Names t log = refl

clash : (heard : Answer) → told_by heard ≡ as_told.Given → heard ≡ answer_of.NoObject → ⊥
clash heard t e = let k : told_by heard ≡ as_told.NoObject = ap told_by e in cc (t, k)

-- the reply tells what was given
given_reply : (g : Gfid) (of : Wanted) (o : Option Object) (heard : Answer) → told_by heard ≡ as_told.Given → heard ≡ copy_answer (gives of) o → by_reading (given_by (request_of g of) o) ≡ Some (reply_to heard)
given_reply g of None heard t e = absurd (clash heard t e)
given_reply g (content.Bytes at len) (Some o) heard t e = sym (ap (λ (x : Answer). Some (reply_to x)) e)
given_reply g (content.Value key) (Some o) heard t e = sym (ap (λ (x : Answer). Some (reply_to x)) e)
given_reply g content.Names (Some o) heard t e = sym (ap (λ (x : Answer). Some (reply_to x)) e)

given_ok : (of : Wanted) (o : Option Object) (heard : Answer) → told_by heard ≡ as_told.Given → heard ≡ copy_answer (gives of) o → reply_to heard ≡ reply.Failed → ⊥
given_ok of None heard t e f = clash heard t e
given_ok (content.Bytes at len) (Some o) heard t e f = let k = ap reply_to e in cc (f, k)
given_ok (content.Value key) (Some o) heard t e f = let k = ap reply_to e in cc (f, k)
given_ok content.Names (Some o) heard t e f = let k = ap reply_to e in cc (f, k)

-- no reply of a copy is one by views
plain_reply : (heard : Answer) → is_by_views (reply_to heard) ≡ false
plain_reply (answer_of.Bytes bytes) = refl
plain_reply (answer_of.Names names) = refl
plain_reply (answer_of.Value value) = refl
plain_reply heard = refl

-- a fault is a failure
fault_reply : (heard : Answer) → is_fault (told_by heard) ≡ true → reply_to heard ≡ reply.Failed
fault_reply (answer_of.Bytes bytes) h = absurd (cc h)
fault_reply (answer_of.Names names) h = absurd (cc h)
fault_reply (answer_of.Value value) h = absurd (cc h)
fault_reply heard h = refl

-- ---- a line that reads
no_look : (g : Gfid) (of : Wanted) → is_look (request_of g of) ≡ false
no_look g (content.Bytes at len) = refl
no_look g (content.Value key) = refl
no_look g content.Names = refl

-- what it leaves as it was, and what it shows
record ReadShows (p : Plan) (g : Gfid) (of : Wanted) (told : Told) (b : ℕ) (log : List Line) (lines more : Work) : Type 0 where
  all : LookedAll p.shape.n lines → LookedAll p.shape.n more
  path : path_by p more ≡ path_by p lines
  looked : looked_by g more ≡ looked_by g lines
  refuses : has refuses_read more ≡ (is_fault told || has refuses_read lines)
  reading : reading_by p more ≡ reading_told (request_of g of) g told (holds p log b)

read_shows : (p : Plan) (g : Gfid) (of : Wanted) (told : Told) (a : ActorId) (b : BrickId) (took : Bool) (log : List Line) (lines : Work) → ReadShows p g of told b.0 log lines ((Ask a b (request_of g of) told took, log) ∷ lines)
read_shows p g (content.Bytes at len) told a b took log lines = record { all = λ k. k; path = refl; looked = refl; refuses = refl; reading = refl }
read_shows p g (content.Value key) told a b took log lines = record { all = λ k. k; path = refl; looked = refl; refuses = refl; reading = refl }
read_shows p g content.Names told a b took log lines = record { all = λ k. k; path = refl; looked = refl; refuses = refl; reading = refl }

-- the answer of a command that reads is what was read
answer_read : (p : Plan) (job : LookupJob) (of : Wanted) (names : List NameId) (w : Work) → IsNamed job of → answer p (command_of job names) w ≡ by_reading (reading_by p w)
answer_read p (Read at len) of names w k = rw k.1 refl
answer_read p (GetAttr key) of names w k = refl
answer_read p Ls of names w k = refl
answer_read p Stat of names w k = absurd k

module _ (p : Plan) (few : p.shape.n ≤ 5) (job : LookupJob) (w : Walk) (lines : Work) (a : ActorId) (b : BrickId) (of : Wanted) (took : Bool) (log : List Line) (k : IsAtObject p job w.path w.read w.object lines) (is_named : IsNamed job of) (source : IsSource p w.object.gfid (kind_of job w.object.what) b.0 lines) (all : LookedAll p.shape.n lines) where
  abbrev said_by : Command
  said_by = command_of job w.path

  abbrev read_line : Told → Work
  read_line told = (Ask a b (request_of w.object.gfid of) told took, log) ∷ lines

  -- the read goes to a good copy, and names what the command does
  pub read_about : (told : Told) → IsAbout p said_by (Ask a b (request_of w.object.gfid of) told took) lines
  read_about told = go job k is_named source
    where
      led : path_by p lines ≡ At (length w.path) w.object
      led = k.goes.path ∙ ap (λ (r : ℕ). At r w.object) k.whole

      may : (job : LookupJob) → IsAtObject p job w.path w.read w.object lines → IsSource p w.object.gfid (kind_of job w.object.what) b.0 lines → MayRead p (command_of job w.path) w.object.gfid (kind_of job w.object.what) b.0 lines
      may job k source = record { unbegun = begins_none p.shape.n lines k.goes.only; goes_on = refusal_looks p few job w.path w.read w.object lines k ∙ source.none; answered = source.answered; good = source.good }

      go : (job : LookupJob) → IsAtObject p job w.path w.read w.object lines → IsNamed job of → IsSource p w.object.gfid (kind_of job w.object.what) b.0 lines → IsAbout p (command_of job w.path) (Ask a b (request_of w.object.gfid of) told took) lines
      go (Read at len) k n source = subst (λ (x : Wanted). IsAbout p (command_of (Read at len) w.path) (Ask a b (request_of w.object.gfid x) told took) lines) (sym n.0) (may (Read at len) k source, record { object = w.object; led = led; named = rw n.1 refl })
      go (GetAttr key) k n source = subst (λ (x : Wanted). IsAbout p (command_of (GetAttr key) w.path) (Ask a b (request_of w.object.gfid x) told took) lines) (sym n) (may (GetAttr key) k source, record { object = w.object; led = led; named = refl })
      go Ls k n source = subst (λ (x : Wanted). IsAbout p (command_of Ls w.path) (Ask a b (request_of w.object.gfid x) told took) lines) (sym n) (may Ls k source, record { object = w.object; led = led; named = refl })
      go Stat k n source = absurd n

  -- and its answer ends the command
  pub read_tells : (heard : Answer) → b.0 < p.shape.n → CanAnswer p b.0 (request_of w.object.gfid of) log heard → IsAnswered p said_by (read_line (told_by heard)) (reply_to heard)
  read_tells heard low can = go (told_by heard) refl (can.told (no_look w.object.gfid of))
    where
      shows : (told : Told) → ReadShows p w.object.gfid of told b.0 log lines (read_line told)
      shows told = read_shows p w.object.gfid of told a b took log lines

      only : (told : Told) → OnlyReads p.shape.n (read_line told)
      only told = only_more p.shape.n a b (request_of w.object.gfid of) told took log lines low (free_request w.object.gfid of) k.goes.only

      failed : (told : Told) → told_by heard ≡ told → is_fault told ≡ true → IsAnswered p said_by (read_line told) (reply_to heard)
      failed told e h =
          let refused : has refuses_read (read_line told) ≡ true = (shows told).refuses ∙ rw h refl in
          subst (λ (said : Reply). IsAnswered p said_by (read_line told) said) (sym (fault_reply heard (ap is_fault e ∙ h)))
          (refused_end p said_by (read_line told) (only told) ((shows told).all all) (whole_of job w.path) reply.Failed
          (refusal_here p said_by (read_line told) (whole_of job w.path) (large_none job w.path) ∙ rw refused refl) (λ x. absurd (cc x)) (λ x. refused))

      given : heard ≡ copy_answer (gives of) (copy_at w.object.gfid (holds p log b.0)) → told_by heard ≡ as_told.Given → IsAnswered p said_by (read_line as_told.Given) (reply_to heard)
      given h e =
          let x = shows as_told.Given in
          let more = read_line as_told.Given in
          let unrefused : has refuses_read more ≡ false = x.refuses ∙ k.goes.unrefused in
          let path : path_by p more ≡ At w.read w.object = x.path ∙ k.goes.path in
          let none : refusal p said_by more ≡ None =
          refusal_at p few job w.path w.read w.object more unrefused path k.whole
          ∙ suited_is p job w.path w.object more k.suited
          ∙ ap (λ (l : Looked). by_looks p.shape (kind_of job w.object.what) l) x.looked
          ∙ source.none
          in
          let says : answer p said_by more ≡ Some (reply_to heard) =
          answer_read p job of w.path more is_named
          ∙ ap by_reading x.reading
          ∙ given_reply w.object.gfid of (copy_at w.object.gfid (holds p log b.0)) heard e h
          in
          answered_end p said_by more (only as_told.Given) (x.all all) (whole_of job w.path) (reply_to heard)
          (Answers none w.object (place_at p few job w.path w.read w.object more path k.whole) says) (plain_reply heard) (given_ok of (copy_at w.object.gfid (holds p log b.0)) heard e h)

      go : (told : Told) → told_by heard ≡ told → gives_or_fails told ≡ true → IsAnswered p said_by (read_line told) (reply_to heard)
      go as_told.Given e h = given (can.given e ∙ given_answer w.object.gfid of (holds p log b.0) log) e
      go as_told.NotConnected e h = failed as_told.NotConnected e refl
      go as_told.Failed e h = failed as_told.Failed e refl
      go told e h = absurd (cc h)

-- ---- a line of a read
-- the next line is this one
pub asks_same : (P : BrickId → Request → Type 0) (b c : BrickId) (r q : Request) → next.Ask b r ≡ next.Ask c q → P b r → P c q
asks_same P b c r q e h = subst (λ (x : Request). P c x) (ap request_in e) (subst (λ (x : BrickId). P x r) (ap brick_in e) h)
  where
    brick_in : Next → BrickId
    brick_in (next.Ask b r) = b
    brick_in other = b

    request_in : Next → Request
    request_in (next.Ask b r) = r
    request_in other = r

module _ (p : Plan) (m : Lookup) (lines : Work) (a : ActorId) (took : Bool) (sound : IsLookup m.walk m.stage) (k : ReadTells p m lines) where
  abbrev w : Walk
  w = m.walk

  few : p.shape.n ≤ 5
  few = subst (λ (x : Shape). x.n ≤ 5) k.shape sound.sound.few

  tells_at : (chosen : BrickId) (heard : Answer) (log : List Line) (at : ℕ) (stage : LookupStage) → IsStage w.shape.n w.step stage → TellsIn p m.job stage w lines → is_asking stage ≡ true
      → CanAnswer p (asked_at stage w).0.0 (asked_at stage w).1 log heard → IsAmong (choices_at stage heard m.job w) chosen
      → ReadTells p (record { walk = walk_after chosen stage heard at w; job = m.job; stage = stage_after chosen stage heard m.job (walk_after chosen stage heard at w) }) ((Ask a (asked_at stage w).0 (asked_at stage w).1 (told_by heard) took, log) ∷ lines)
  tells_at chosen heard log at Walking ready t h can among =
      let more : Work = (Ask a (next_in w).0 (next_in w).1 (told_by heard) took, log) ∷ lines in
      let walks : WalkTells p (command_of m.job w.path) (walked chosen heard at w) more = walk_tells_more p (command_of m.job w.path) w lines a chosen heard took log at sound.sound ready t can among in
      record {
        shape = walks.shape;
        stage = moved p few m.job (walked chosen heard at w) more (is_walked chosen heard at w sound.sound ready among) (subst (λ (x : List NameId). WalkTells p (command_of m.job x) (walked chosen heard at w) more) (sym (walked_path chosen heard at w)) walks);
      }
  tells_at chosen heard log at (Looking s) ready (there, agree, but) h can among = record {
    shape = k.shape;
    stage =
        let after : Walk = noted (asked_at (Looking s) w) (told_by heard) at w in
        subst (λ (x : Shape). TellsIn p m.job (object_looked chosen x m.job w.object (heard_look x.n (told_by heard) s)) after ((Ask a (record { 0 = lowest (left_to_look x.n s) }) (Look w.object.gfid) (told_by heard) took, log) ∷ lines)) (sym k.shape)
        (look_tells p few m.job after lines a took log s chosen (told_by heard) (subst (λ (x : Shape). IsLooks x.n s) k.shape ready) there agree but
        (subst (λ (x : Shape). IsAmong (choices_after x (kind_of m.job w.object.what) (heard_look x.n (told_by heard) s)) chosen) k.shape among));
  }
  tells_at chosen heard log at (Reading b of) ready (there, is_named, source, all) h can among = record {
    shape = k.shape;
    stage = read_tells p few m.job w lines a b of took log there is_named source all heard (subst (λ (x : Shape). b.0 < x.n) k.shape ready) can;
  }
  tells_at chosen heard log at (Ending said) ready t h can among = absurd (cc h)

  about_at : (told : Told) (stage : LookupStage) → IsStage w.shape.n w.step stage → TellsIn p m.job stage w lines → is_asking stage ≡ true → IsAbout p (command_of m.job w.path) (Ask a (asked_at stage w).0 (asked_at stage w).1 told took) lines
  about_at told Walking ready t h = walk_about p (command_of m.job w.path) w lines a told took sound.sound ready t (large_none m.job w.path)
  about_at told (Looking s) ready (there, agree, but) h =
      let end : w.read ≡ length (path_of (command_of m.job w.path)) = subst (λ (x : List NameId). w.read ≡ length x) (sym (path_is m.job w.path)) there.whole in
      record {
        unbegun = begins_none p.shape.n lines there.goes.only;
        unread = there.goes.unread;
        object = subst (λ (x : Path). looks_here (command_of m.job w.path) x ≡ Some w.object.gfid) (sym there.goes.path) (looks_on_way (command_of m.job w.path) w.read w.object (whole_of m.job w.path) (omega (arith, end)));
        locked = λ area e. absurd (cc (e, subst (λ (x : Path). area_here (command_of m.job w.path) x ≡ None) (sym there.goes.path) (area_nowhere m.job w.path w.read w.object)));
      }
  about_at told (Reading b of) ready (there, is_named, source, all) h = read_about p few m.job w lines a b of took [] there is_named source all told
  about_at told (Ending said) ready t h = absurd (cc h)

-- whatever was told and whichever good copy is read then, the lines show where the read stands
pub tells_more : ReadTellsMore
tells_more p m lines a b request chosen heard took log at sound k asks can among = go m.stage sound.ready k.stage asks can among
  where
    after : LookupStage → Lookup
    after stage = record { walk = walk_after chosen stage heard at m.walk; job = m.job; stage = stage_after chosen stage heard m.job (walk_after chosen stage heard at m.walk) }

    by : (stage : LookupStage) → IsStage m.walk.shape.n m.walk.step stage → TellsIn p m.job stage m.walk lines → is_asking stage ≡ true → next.Ask (asked_at stage m.walk).0 (asked_at stage m.walk).1 ≡ next.Ask b request
        → CanAnswer p b.0 request log heard → IsAmong (choices_at stage heard m.job m.walk) chosen → ReadTells p (after stage) ((Ask a b request (told_by heard) took, log) ∷ lines)
    by stage ready t h e =
        asks_same (λ (b : BrickId) (r : Request). CanAnswer p b.0 r log heard → IsAmong (choices_at stage heard m.job m.walk) chosen → ReadTells p (after stage) ((Ask a b r (told_by heard) took, log) ∷ lines)) (asked_at stage m.walk).0 b (asked_at stage m.walk).1 request e
        (tells_at p m lines a took sound k chosen heard log at stage ready t h)

    go : (stage : LookupStage) → IsStage m.walk.shape.n m.walk.step stage → TellsIn p m.job stage m.walk lines → next_at stage m.walk ≡ next.Ask b request
        → CanAnswer p b.0 request log heard → IsAmong (choices_at stage heard m.job m.walk) chosen → ReadTells p (after stage) ((Ask a b request (told_by heard) took, log) ∷ lines)
    go Walking ready t e = by Walking ready t refl e
    go (Looking s) ready t e = by (Looking s) ready t refl e
    go (Reading x of) ready t e = by (Reading x of) ready t refl e
    go (Ending said) ready t e = absurd (cc e)

-- the next line is about the command
pub about : ReadAbout
about p m lines a b request told took sound k asks = go m.stage sound.ready k.stage asks
  where
    by : (stage : LookupStage) → IsStage m.walk.shape.n m.walk.step stage → TellsIn p m.job stage m.walk lines → is_asking stage ≡ true → next.Ask (asked_at stage m.walk).0 (asked_at stage m.walk).1 ≡ next.Ask b request
        → IsAbout p (command_of m.job m.walk.path) (Ask a b request told took) lines
    by stage ready t h e =
        asks_same (λ (b : BrickId) (r : Request). IsAbout p (command_of m.job m.walk.path) (Ask a b r told took) lines) (asked_at stage m.walk).0 b (asked_at stage m.walk).1 request e
        (about_at p m lines a took sound k told stage ready t h)

    go : (stage : LookupStage) → IsStage m.walk.shape.n m.walk.step stage → TellsIn p m.job stage m.walk lines → next_at stage m.walk ≡ next.Ask b request → IsAbout p (command_of m.job m.walk.path) (Ask a b request told took) lines
    go Walking ready t e = by Walking ready t refl e
    go (Looking s) ready t e = by (Looking s) ready t refl e
    go (Reading x of) ready t e = by (Reading x of) ready t refl e
    go (Ending said) ready t e = absurd (cc e)

-- and keeps to it
pub follows : ReadFollows
follows p m lines a b request told took at sound k asks = go m.stage sound.ready k.stage asks
  where
    c : Command
    c = command_of m.job m.walk.path

    free : (g : Gfid) (of : Wanted) (x : BrickId) → KeepsTo p c (Ask a x (request_of g of) told took) at lines
    free g (content.Bytes from len) x = tt
    free g (content.Value key) x = tt
    free g content.Names x = tt

    by : (stage : LookupStage) → next.Ask (asked_at stage m.walk).0 (asked_at stage m.walk).1 ≡ next.Ask b request → KeepsTo p c (Ask a (asked_at stage m.walk).0 (asked_at stage m.walk).1 told took) at lines
        → KeepsTo p c (Ask a b request told took) at lines
    by stage e = asks_same (λ (b : BrickId) (r : Request). KeepsTo p c (Ask a b r told took) at lines) (asked_at stage m.walk).0 b (asked_at stage m.walk).1 request e

    go : (stage : LookupStage) → IsStage m.walk.shape.n m.walk.step stage → TellsIn p m.job stage m.walk lines → next_at stage m.walk ≡ next.Ask b request → KeepsTo p c (Ask a b request told took) at lines
    go Walking ready t e = by Walking e (walk_follows p c m.walk lines a told took at sound.sound ready t)
    go (Looking s) ready t e = by (Looking s) e tt
    go (Reading x of) ready t e = by (Reading x of) e (free m.walk.object.gfid of x)
    go (Ending said) ready t e = absurd (cc e)

-- the reply is the command's answer
pub ends : ReadEnds
ends p m lines said k e = go m.stage k.stage e
  where
    go : (stage : LookupStage) → TellsIn p m.job stage m.walk lines → next_at stage m.walk ≡ next.End said → IsAnswered p (command_of m.job m.walk.path) lines said
    go Walking t e = absurd (cc e)
    go (Looking s) t e = absurd (cc e)
    go (Reading b of) t e = absurd (cc e)
    go (Ending x) t e = let same : x ≡ said = cc e in subst (λ (y : Reply). IsAnswered p (command_of m.job m.walk.path) lines y) same t
