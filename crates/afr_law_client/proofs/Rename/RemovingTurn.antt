-- The turn from the making to the removal: what a making that is done shows, and the first lock of the old name after it.
use Rattle.std.proofs.Common.{◌≡◌, ℕ, true, List, ◌∷◌, Some, None, refl, sym, ap, ◌∙◌, subst}
use Rattle.afr_base.specs.Majority.{is_majority}
use Rattle.afr_base.specs.declared.ids.Gfid.{Gfid}
use Rattle.afr_base.specs.declared.ids.Shape.{Shape}
use Rattle.afr_base.specs.declared.ids.What.TheVariants.{File}
use Rattle.afr_lines.specs.Work.{Work}
use Rattle.afr_lines.specs.declared.line.Line.{Line}
use Rattle.afr_object.specs.Tables.{object_of}
use Rattle.afr_object.specs.declared.change.Change.{Change}
use Rattle.afr_object.specs.declared.change.Change.TheVariants as change_named
use Rattle.afr_plan.specs.declared.command.Command.TheVariants as command
use Rattle.afr_plan.specs.declared.plan.Plan.{Plan}
use Rattle.afr_model.specs.Parts.{first_part, is_again, the_make, the_removal}
use Rattle.afr_model.specs.Refusals.{refusal}
use Rattle.afr_model.specs.Renamed.{AreLegs, since_name}
use Rattle.afr_model.specs.Showing.{among, has, posted}
use Rattle.afr_model.specs.Skipped.{IsLooked, SkipsNothing}
use Rattle.afr_model.specs.Standing.{change_by, locks_any}
use Rattle.afr_model.proofs.Cut.Cut.{first_stays, make_stays, removal_grows}
use Rattle.afr_client_transaction.specs.Progress.{TransactionProgress, is_over, numbered}
use Rattle.afr_client_transaction.specs.declared.stage.Stage.{Stage}
use Rattle.afr_client_transaction.specs.declared.stage.Stage.TheVariants.{Locking, Looking, Beginning, Preparing, Applying, Posting, Closing}
use Rattle.afr_client_transaction.proofs.Acknowledged.{acknowledged_exactly}
use Rattle.afr_law_client.specs.Tells.{During, IsUnder, OnUnlocks, Tells, TooFew, Tried, Unfit}
use Rattle.afr_law_client.proofs.About.{passes}
use Rattle.afr_law_client.proofs.Excused.{any_lock}
use Rattle.afr_law_client.proofs.Over.{skips_none}
use Rattle.afr_client_entry.specs.declared.job.EntryJob.TheVariants.{Create}
use Rattle.afr_client_entry.specs.declared.stage.Found.{Found}
use Rattle.afr_client_entry.specs.declared.stage.Found.TheVariants.{Unread, Fits, Refused}
use Rattle.afr_law_client.specs.Entry.EntryTelling.{FitsName, NameTells, OnChange, TransactionGoes}
use Rattle.afr_law_client.proofs.Entry.Changing.{passed_like, unrefused_fits}
use Rattle.afr_law_client.proofs.Entry.Under.{refused_by_locks}
use Rattle.afr_client_entry.specs.Renames.Paths.{making_of}
use Rattle.afr_client_entry.specs.Renames.Rename.{IsMaking, is_done}
use Rattle.afr_client_entry.specs.declared.renaming.paths.Paths.{Paths}
use Rattle.afr_client_entry.proofs.Renames.RenameLemmas.{done_is}
use Rattle.afr_law_client.specs.Rename.RenameTelling.{DropsOldName, HasWalked, LastFits, MakesNewName, Removes, to_of}
use Rattle.afr_law_client.proofs.Rename.MakingMore.{making_like}
use Rattle.afr_law_client.proofs.Rename.MakingAbout.{keeps_number}
use Rattle.afr_law_client.proofs.Rename.MakingParts.{again_stays}
use Rattle.afr_law_client.proofs.Rename.MakingWalked.{walked_more}
use Rattle.afr_law_client.proofs.Rename.WalkEnds.{no_majority}

pub over_closing : (stage : Stage) (t : TransactionProgress) → is_over stage t ≡ true → stage ≡ Closing
over_closing Closing t e = refl
over_closing Locking t e = absurd (cc e)
over_closing Looking t e = absurd (cc e)
over_closing Beginning t e = absurd (cc e)
over_closing Preparing t e = absurd (cc e)
over_closing Applying t e = absurd (cc e)
over_closing Posting t e = absurd (cc e)

-- an attempt that was closed at a majority went through its phases
pub tried : (p : Plan) (t : TransactionProgress) (w : Work) → is_majority p.shape.n (among posted w) ≡ true → OnUnlocks p.shape t.change t.register.looked t.asked.looked_at w → IsUnder p.shape t.change t.register.looked t.asked.looked_at w
tried p t w most (TooFew idle locked looks few none) = absurd (no_majority p.shape.n (subst (λ (s : List ℕ). is_majority p.shape.n s ≡ true) idle.no_post_did most))
tried p t w most (Unfit idle locked looks some all unfit) = absurd (no_majority p.shape.n (subst (λ (s : List ℕ). is_majority p.shape.n s ≡ true) idle.no_post_did most))
tried p t w most (Tried under whole) = under

-- ---- a making that is done
-- it has made the name under its locks, and nothing refuses it
pub record IsDone (p : Plan) (x : Paths) (make : Work) : Type 0 where
  pub made : is_majority p.shape.n (among posted make) ≡ true
  pub change : change_by make ≡ Some (making_of x x.second.object.gfid)
  pub passed : refusal p (command.Create (to_of x)) make ≡ None
  pub whole : SkipsNothing p (command.Create (to_of x)) make

module _ (p : Plan) (x : Paths) (t : TransactionProgress) (found : Found) (lines : Work) (k : MakesNewName p x t found lines) (sound : IsMaking x t found) where
  abbrev make : Work
  make = the_make x.first.path lines

  -- its post-ops, by its lines
  most_posted : (tells : Tells p make t) → is_majority t.register.shape.n t.register.post ≡ true → is_majority p.shape.n (among posted make) ≡ true
  most_posted tells e = subst (λ (s : List ℕ). is_majority p.shape.n s ≡ true) tells.sets.posted (subst (λ (y : Shape). is_majority y.n t.register.post ≡ true) tells.shape_is e)

  -- the attempt makes the new name
  makes_change : IsUnder p.shape t.change t.register.looked t.asked.looked_at make → change_by make ≡ Some (making_of x x.second.object.gfid)
  makes_change under =
      under.attempt.is_change
      ∙ ap (λ (c : Change). Some (numbered under.attempt.attempt c)) sound.under.of
      ∙ ap (λ (g : Gfid). Some (change_named.Make x.second.object.gfid x.new_name g File)) (keeps_number under.attempt.attempt x.first.object.gfid k.on.walked.numbered)

  passes_all : IsUnder p.shape t.change t.register.looked t.asked.looked_at make → TransactionGoes p t make → FitsName p (command.Create (to_of x)) (Create x.new_name) x.second.object make → refusal p (command.Create (to_of x)) make ≡ None
  passes_all under goes name =
      let free = unrefused_fits p (Create x.new_name) x.second make t refl name in
      refused_by_locks p (Create x.new_name) x.second.path x.second.object make k.tells.place k.tells.directory free.1 free.0
      ∙ passed_like p t.change _ make (making_like x t.change sound.under.of) (passes p make t sound.under.sound goes.tells under.allows)

  by_found : (y : Found) → t.stage ≡ Closing → is_majority t.register.shape.n t.register.post ≡ true → OnChange y p t make → NameTells y p (command.Create (to_of x)) (Create x.new_name) x.second.object make → IsDone p x make × (has locks_any make ≡ true)
  by_found (Unread copy) closing most on name =
      let under = tried p t make (most_posted on.0.tells most) (subst (λ (stage : Stage). During stage p.shape t make) closing on.0.tells.during) in
      let none = name.unbegun in
      let some = under.attempt.began in
      absurd (cc (none, some))
  by_found Fits closing most on name =
      let under = tried p t make (most_posted on.tells most) (subst (λ (stage : Stage). During stage p.shape t make) closing on.tells.during) in (
        record {
          made = most_posted on.tells most;
          change = makes_change under;
          passed = passes_all under on name;
          whole = skips_none p (command.Create (to_of x)) make t on.tells closing refl;
        },
        any_lock (object_of t.change) make under.allows.locked.locked,
      )
  by_found (Refused why) closing most on name =
      let idle = on.before.during.idle in
      let post = on.before.sets.posted ∙ idle.no_post_did in
      absurd (no_majority t.register.shape.n (subst (λ (s : List ℕ). is_majority t.register.shape.n s ≡ true) post most))

  pub made_done : is_done t ≡ true → IsDone p x make × (has locks_any make ≡ true)
  made_done e =
      let d = done_is t sound.under.sound e in
      by_found found (over_closing t.stage t d.0) ((acknowledged_exactly t sound.under.sound).1 d.1) k.tells.on k.tells.name

-- ---- what stays of it
-- the walk and the making, over all lines
pub record HasMade (p : Plan) (x : Paths) (lines : Work) : Type 0 where
  pub walked : HasWalked p x lines
  pub locked : has locks_any (first_part lines) ≡ true
  pub last_leg : IsLooked p.shape.n (since_name (first_part lines))
  pub done : IsDone p x (the_make x.first.path lines)

-- a line of the second transaction leaves it
pub made_stays : (p : Plan) (x : Paths) (lines : Work) (line : Line) (log : List Line) → is_again line lines ≡ true → HasMade p x lines → HasMade p x ((line, log) ∷ lines)
made_stays p x lines line log again k =
    let first = sym (first_stays (line, log) lines again) in
    record {
      walked = walked_more p x lines k.walked line log (subst (λ (w : Work). AreLegs p.shape.n w) first k.walked.legs);
      locked = subst (λ (w : Work). has locks_any w ≡ true) first k.locked;
      last_leg = subst (λ (w : Work). IsLooked p.shape.n (since_name w)) first k.last_leg;
      done = subst (λ (w : Work). IsDone p x w) (sym (make_stays x.first.path (line, log) lines again)) k.done;
    }

-- with it a line goes to the removal
pub removes_more : (p : Plan) (x : Paths) (lines : Work) (line : Line) (log : List Line) (after : TransactionProgress) (left : Found) → is_again line lines ≡ true → HasMade p x lines → LastFits left p x ((line, log) ∷ lines)
    → DropsOldName p x after left ((line, log) ∷ the_removal x.first.path lines) → Removes p x after left ((line, log) ∷ lines)
removes_more p x lines line log after left again k last tells =
    let m = made_stays p x lines line log again k in
    record {
      walked = m.walked;
      again = λ l. again_stays l (line, log) lines again;
      locked = m.locked;
      last_leg = m.last_leg;
      made = m.done.made;
      change = m.done.change;
      passed = m.done.passed;
      whole = m.done.whole;
      last = last;
      tells = subst (λ (w : Work). DropsOldName p x after left w) (sym (removal_grows x.first.path (line, log) lines k.walked.all again)) tells;
    }

pub has_made : (p : Plan) (x : Paths) (t : TransactionProgress) (found : Found) (lines : Work) → Removes p x t found lines → HasMade p x lines
has_made p x t found lines k = record { walked = k.walked; locked = k.locked; last_leg = k.last_leg; done = record { made = k.made; change = k.change; passed = k.passed; whole = k.whole } }
