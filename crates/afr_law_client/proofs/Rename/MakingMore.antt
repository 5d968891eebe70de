-- While the new name is locked, read and made: what the lines show after one more.
use Rattle.std.proofs.Common.{◌≡◌, Bool, true, false, List, [], ◌∷◌, Option, Some, None, length, refl, sym, ap, ◌∙◌, subst, if◌then◌else◌}
use Rattle.afr_base.specs.declared.ids.ActorId.{ActorId}
use Rattle.afr_base.specs.declared.ids.BrickId.{BrickId}
use Rattle.afr_base.specs.declared.ids.Gfid.{Gfid}
use Rattle.afr_base.specs.declared.ids.NameId.{NameId}
use Rattle.afr_discipline.specs.Tests.{fits_view}
use Rattle.afr_lines.specs.Told.{told_by}
use Rattle.afr_lines.specs.Work.{Work}
use Rattle.afr_lines.specs.declared.answer.Answer.{Answer}
use Rattle.afr_lines.specs.declared.answer.Answer.TheVariants as answer
use Rattle.afr_lines.specs.declared.answer.Told.{Told}
use Rattle.afr_lines.specs.declared.answer.Told.TheVariants as as_told
use Rattle.afr_lines.specs.declared.line.Line.{Line}
use Rattle.afr_lines.specs.declared.line.Line.TheVariants.{Ask}
use Rattle.afr_lines.specs.declared.line.Next.TheVariants as next
use Rattle.afr_lines.specs.declared.request.Request.{Request}
use Rattle.afr_object.specs.Tables.{object_of}
use Rattle.afr_object.specs.declared.change.Change.{Change}
use Rattle.afr_object.specs.declared.entry.Entry.{Entry}
use Rattle.afr_object.specs.declared.entry.View.{View}
use Rattle.afr_plan.specs.declared.command.Command.{Command}
use Rattle.afr_plan.specs.declared.command.Command.TheVariants as command
use Rattle.afr_plan.specs.declared.plan.Plan.{Plan}
use Rattle.afr_model.specs.Parts.{first_part, is_again, the_make}
use Rattle.afr_model.specs.Renamed.{AreLegs, LegEnds, since_name}
use Rattle.afr_model.specs.Showing.{has, locks}
use Rattle.afr_model.specs.Skipped.{IsLooked}
use Rattle.afr_model.specs.Standing.{asks_name}
use Rattle.afr_model.proofs.Cut.Cut.{first_all}
use Rattle.afr_client_transaction.specs.Progress.{TransactionProgress, is_beginning, next_at as next_change, request_at}
use Rattle.afr_client_transaction.specs.declared.stage.Stage.{Stage}
use Rattle.afr_client_transaction.specs.declared.stage.Stage.TheVariants.{Locking, Looking, Beginning, Preparing, Applying, Posting, Closing}
use Rattle.afr_law_client.specs.Tells.{During, Tells}
use Rattle.afr_law_client.proofs.Small.{object_named, self}
use Rattle.afr_client_entry.specs.Entry.{fits_stage}
use Rattle.afr_client_entry.specs.Job.{change_of, ruled_out}
use Rattle.afr_client_entry.specs.declared.job.EntryJob.{EntryJob}
use Rattle.afr_client_entry.specs.declared.job.EntryJob.TheVariants.{Create}
use Rattle.afr_client_entry.specs.declared.refusal.Refusal.{Refusal}
use Rattle.afr_client_entry.specs.declared.stage.Found.{Found}
use Rattle.afr_client_entry.specs.declared.stage.Found.TheVariants.{Unread, Fits, Refused}
use Rattle.afr_law_client.specs.Write.WriteTelling.{CanTell}
use Rattle.afr_law_client.proofs.Write.Goes.{asked_stage}
use Rattle.afr_law_client.specs.Entry.EntryTelling.{ChangesName, NameTells, OnChange}
use Rattle.afr_law_client.proofs.Entry.Changing.{IsLike}
use Rattle.afr_law_client.proofs.Entry.Names.{Quiet, quiet}
use Rattle.afr_law_client.proofs.Entry.Under.{name_more, place_more}
use Rattle.afr_law_client.proofs.Entry.Words.{suits_view}
use Rattle.afr_client_entry.specs.Renames.Against.{against_new}
use Rattle.afr_client_entry.specs.Renames.Paths.{making_of, reads_new}
use Rattle.afr_client_entry.specs.Renames.Rename.{IsMaking}
use Rattle.afr_client_entry.specs.Renames.Under.{found_after, progress_after}
use Rattle.afr_client_entry.specs.declared.renaming.paths.Paths.{Paths}
use Rattle.afr_law_client.specs.Second.Held.{Holds}
use Rattle.afr_law_client.specs.Rename.RenameTelling.{LocksLeg, MakesNewName, to_of}
use Rattle.afr_law_client.proofs.Rename.MakingLegs.{leg_more}
use Rattle.afr_law_client.proofs.Rename.MakingLocks.{asked_on, held_on, kept_locking, of_change, unnamed}
use Rattle.afr_law_client.proofs.Rename.MakingWalked.{all_first, first_more_on, grows, waits_kept, waits_unlocked}

-- ---- the words
-- the making is like a create, whose object has no number yet
pub making_like : (x : Paths) (change : Change) → change ≡ making_of x x.second.object.gfid → IsLike change (change_of x.second.object.gfid (Create x.new_name))
making_like x change e = subst (λ (y : Change). IsLike y (change_of x.second.object.gfid (Create x.new_name))) (sym e) (record { area = refl; kind = refl; object = refl })

-- what the answer says against it is what it says against a create
pub ruled_new : (x : Paths) (heard : Answer) → ruled_out (Create x.new_name) heard ≡ against_new heard
ruled_new x (answer.Entry None) = refl
ruled_new x (answer.Entry (Some entry)) = refl
ruled_new x answer.Granted = refl
ruled_new x (answer.Held owner) = refl
ruled_new x (answer.Seen view) = refl
ruled_new x answer.Done = refl
ruled_new x (answer.Bytes bytes) = refl
ruled_new x (answer.Names names) = refl
ruled_new x (answer.Value value) = refl
ruled_new x (answer.Attrs attrs) = refl
ruled_new x (answer.Index index) = refl
ruled_new x answer.NoObject = refl
ruled_new x answer.NotConnected = refl
ruled_new x answer.Failed = refl

-- nothing is said against it by a brick that can't be reached
pub given_new : (heard : Answer) → against_new heard ≡ None → told_by heard ≡ as_told.Given
given_new (answer.Entry None) e = refl
given_new (answer.Entry (Some entry)) e = absurd (cc e)
given_new heard e = absurd (cc e)

-- what is known of the making, and of one line more
module _ (p : Plan) (x : Paths) (t : TransactionProgress) (found : Found) (lines : Work) (a : ActorId) (log : List Line) (k : MakesNewName p x t found lines) (sound : IsMaking x t found) where
  abbrev from : List NameId
  from = x.first.path

  abbrev make : Work
  make = the_make from lines

  abbrev dir : Entry
  dir = x.second.object

  abbrev job : EntryJob
  job = Create x.new_name

  abbrev c : Command
  c = command.Create (to_of x)

  pub like : IsLike t.change (change_of dir.gfid job)
  like = making_like x t.change sound.under.of

  suits : (view : View) → view.what ≡ dir.what → fits_view (Some view) t.change ≡ true
  suits view e = subst (λ (y : Change). fits_view (Some view) y ≡ true) (sym sound.under.of) (suits_view dir.gfid job dir view k.tells.directory e)

  -- the lines before are all of the first transaction
  pub legs_now : AreLegs p.shape.n lines
  legs_now = subst (λ (w : Work). AreLegs p.shape.n w) (first_all lines k.on.first) k.on.walked.legs

  pub last_now : IsLooked p.shape.n (since_name lines)
  last_now = subst (λ (w : Work). IsLooked p.shape.n (since_name w)) (first_all lines k.on.first) k.last_leg

  leg_now : LocksLeg found dir.gfid make lines
  leg_now = subst (λ (w : Work). LocksLeg found dir.gfid make w) (first_all lines k.on.first) k.leg

  pub object_is : object_of t.change ≡ dir.gfid
  object_is = like.object

  -- it has no second transaction yet
  pub stage_waits : (stage : Stage) (b : BrickId) (told : Told) (took : Bool) → t.stage ≡ stage → is_again (Ask a b (request_at stage t) told took) lines ≡ false
  stage_waits Locking b told took f = waits_kept p x lines k.on (Ask a b (request_at Locking t) told took) (kept_locking found p t make sound.under.in_turn k.tells.on f)
  stage_waits Looking b told took f = waits_unlocked p x lines k.on (Ask a b (request_at Looking t) told took) refl
  stage_waits Beginning b told took f = waits_unlocked p x lines k.on (Ask a b (request_at Beginning t) told took) refl
  stage_waits Preparing b told took f = waits_unlocked p x lines k.on (Ask a b (request_at Preparing t) told took) refl
  stage_waits Applying b told took f = waits_unlocked p x lines k.on (Ask a b (request_at Applying t) told took) refl
  stage_waits Posting b told took f = waits_unlocked p x lines k.on (Ask a b (request_at Posting t) told took) refl
  stage_waits Closing b told took f = waits_unlocked p x lines k.on (Ask a b (request_at Closing t) told took) refl

  -- ---- a line that goes to the making
  module _ (line : Line) (waits : is_again line lines ≡ false) (after : TransactionProgress) (left : Found) where
    pub goes_to : AreLegs p.shape.n ((line, log) ∷ lines) → IsLooked p.shape.n (since_name ((line, log) ∷ lines)) → LocksLeg left dir.gfid ((line, log) ∷ make) ((line, log) ∷ lines) → ChangesName p c job dir after left ((line, log) ∷ make)
        → Holds after ((line, log) ∷ make) → MakesNewName p x after left ((line, log) ∷ lines)
    goes_to legs last leg tells holds =
        let grown = sym (grows p x lines k.on line log waits) in
        let first = sym (all_first p x lines k.on line log waits) in
        record {
          on = first_more_on p x lines k.on line log waits legs;
          last_leg = subst (λ (w : Work). IsLooked p.shape.n (since_name w)) first last;
          leg = subst (λ (w : Work). LocksLeg left dir.gfid w (first_part ((line, log) ∷ lines))) grown (subst (λ (w : Work). LocksLeg left dir.gfid ((line, log) ∷ make) w) first leg);
          tells = subst (λ (w : Work). ChangesName p c job dir after left w) grown tells;
          holds = subst (λ (w : Work). Holds after w) grown holds;
        }

  -- ---- a request of the transaction
  module _ (b : BrickId) (request : Request) (told : Told) (took : Bool) (e : next_change t.stage (length log) t ≡ next.Ask b request) where
    abbrev asks : Line
    asks = Ask a b request told took

    at_stage : request_at t.stage t ≡ request
    at_stage = (asked_stage t.stage (length log) t b request e).1

    not_begun : is_beginning t.stage ≡ false
    not_begun = (asked_stage t.stage (length log) t b request e).0

    by_stage : (P : Request → Type 0) → P (request_at t.stage t) → P request
    by_stage P h = subst P at_stage h

    asks_waits : is_again asks lines ≡ false
    asks_waits = by_stage (λ (r : Request). is_again (Ask a b r told took) lines ≡ false) (stage_waits t.stage b told took refl)

    no_name : asks_name asks ≡ false
    no_name = by_stage (λ (r : Request). asks_name (Ask a b r told took) ≡ false) (unnamed t.stage t a b told took)

    asks_legs : AreLegs p.shape.n ((asks, log) ∷ lines)
    asks_legs = (subst (λ (y : Bool). LegEnds y p.shape.n lines) (sym no_name) tt, legs_now)

    -- the directory is looked at under its locks, which were asked since the last name
    under_locks : t.stage ≡ Looking → has (locks (object_of t.change)) (since_name lines) ≡ true
    under_locks f = go found sound.under.in_turn k.tells.on leg_now
      where
        looks : Tells p make t → has (locks (object_of t.change)) make ≡ true
        looks tells = (subst (λ (stage : Stage). During stage p.shape t make) f tells.during).locked.locked

        go : (y : Found) → fits_stage y t.stage ≡ true → OnChange y p t make → LocksLeg y dir.gfid make lines → has (locks (object_of t.change)) (since_name lines) ≡ true
        go (Unread copy) turn on leg =
            subst (λ (g : Gfid). has (locks g) (since_name lines) ≡ true) (sym object_is) (leg (subst (λ (g : Gfid). has (locks g) make ≡ true) object_is (looks on.0.tells)))
        go Fits turn on leg = absurd (cc (subst (λ (stage : Stage). fits_stage Fits stage ≡ true) f turn))
        go (Refused why) turn on leg = let closing = on.closing in absurd (cc (closing, f))

    asks_last : IsLooked p.shape.n (since_name ((asks, log) ∷ lines))
    asks_last = subst (λ (y : Bool). IsLooked p.shape.n (if y then [] else (asks, log) ∷ since_name lines)) (sym no_name)
        (by_stage (λ (r : Request). IsLooked p.shape.n ((Ask a b r told took, log) ∷ since_name lines)) (leg_more p.shape.n t.stage t a b told took log (since_name lines) last_now under_locks never))
      where
        never : t.stage ≡ Beginning → ⊥
        never f = let g = ap is_beginning f in let h = not_begun in cc (g, h)

    -- a lock of it is since the last name now
    leg_on : (stage : Stage) → (has (locks dir.gfid) make ≡ true → has (locks dir.gfid) (since_name lines) ≡ true) → has (locks dir.gfid) ((Ask a b (request_at stage t) told took, log) ∷ make) ≡ true
        → has (locks dir.gfid) ((Ask a b (request_at stage t) told took, log) ∷ since_name lines) ≡ true
    leg_on Locking h m = let g = ap (λ (g : Gfid). g.0) (object_named t.change ∙ object_is) in rw (g, self dir.gfid.0) refl
    leg_on Looking h m = h m
    leg_on Beginning h m = h m
    leg_on Preparing h m = h m
    leg_on Applying h m = h m
    leg_on Posting h m = h m
    leg_on Closing h m = h m

    asks_leg : (left : Found) → ((copy : BrickId) → left ≡ Unread copy → has (locks dir.gfid) make ≡ true → has (locks dir.gfid) (since_name lines) ≡ true) → LocksLeg left dir.gfid ((asks, log) ∷ make) ((asks, log) ∷ lines)
    asks_leg (Unread copy) was =
        subst (λ (y : Bool). has (locks dir.gfid) ((asks, log) ∷ make) ≡ true → has (locks dir.gfid) (if y then [] else (asks, log) ∷ since_name lines) ≡ true) (sym no_name)
        (by_stage (λ (r : Request). has (locks dir.gfid) ((Ask a b r told took, log) ∷ make) ≡ true → has (locks dir.gfid) ((Ask a b r told took, log) ∷ since_name lines) ≡ true) (leg_on t.stage (was copy refl)))
    asks_leg Fits was = tt
    asks_leg (Refused why) was = tt

    pub asked_makes : (chosen : BrickId) (why : Option Refusal) → CanTell dir request told → MakesNewName p x (progress_after found why (reads_new x) told (length log) t) (found_after chosen found why t.stage) ((asks, log) ∷ lines)
    asked_makes chosen why can = goes_to asks asks_waits (progress_after found why (reads_new x) told (length log) t) (found_after chosen found why t.stage) asks_legs asks_last
        (asks_leg (found_after chosen found why t.stage) was)
        (record {
          place = place_more p job x.second.path dir asks log make k.tells.place;
          directory = k.tells.directory;
          unread = q.reading ∙ k.tells.unread;
          name = named found k.tells.name;
          on = asked_on p make a log t sound.under.sound dir suits b request told took e found chosen why (reads_new x) sound.under.in_turn k.tells.on can;
        })
        (held_on p make a log t sound.under.sound dir suits b request told took e found why (reads_new x) k.tells.on k.holds)
      where
        q : Quiet p asks log make
        q = quiet p asks log make (of_change p make a log t sound.under.sound dir suits b request told took e)

        named : (y : Found) → NameTells y p c job dir make → NameTells (found_after chosen y why t.stage) p c job dir ((asks, log) ∷ make)
        named (Unread copy) n = let none = not_begun in rw none (name_more (Unread chosen) p c job dir asks log make q (λ z none. refl) n)
        named Fits n = name_more Fits p c job dir asks log make q (λ z none. refl) n
        named (Refused r) n = name_more (Refused r) p c job dir asks log make q (λ z none. refl) n

        was : (copy : BrickId) → found_after chosen found why t.stage ≡ Unread copy → has (locks dir.gfid) make ≡ true → has (locks dir.gfid) (since_name lines) ≡ true
        was copy is = from_found found is leg_now
          where
            from_found : (y : Found) → found_after chosen y why t.stage ≡ Unread copy → LocksLeg y dir.gfid make lines → has (locks dir.gfid) make ≡ true → has (locks dir.gfid) (since_name lines) ≡ true
            from_found (Unread z) is leg = leg
            from_found Fits is leg = absurd (cc is)
            from_found (Refused r) is leg = absurd (cc is)
