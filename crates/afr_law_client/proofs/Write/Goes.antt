-- Each line of a change keeps what its lines tell, is about its command, and its reply is the command's answer.
use Rattle.std.proofs.Common.{◌≡◌, ℕ, zero, suc, ◌+◌, ◌==◌, not, nat_le, nat_lt, Bool, true, false, List, [], ◌∷◌, Option, Some, None, length, refl, sym, ap, ◌∙◌, subst, arith, if◌then◌else◌}
use Rattle.std.specs.Prelude.{slice_index_or, slice_set}
use Rattle.std.proofs.lemmas.Bool.Decides.{nat_tests}
use Rattle.afr_base.specs.Bricks.{is_nothing}
use Rattle.afr_base.specs.declared.ids.ActorId.{ActorId}
use Rattle.afr_base.specs.declared.ids.BrickId.{BrickId}
use Rattle.afr_base.specs.declared.ids.Gfid.{Gfid}
use Rattle.afr_base.specs.declared.ids.What.{What}
use Rattle.afr_base.specs.declared.ids.What.TheVariants.{File, Dir}
use Rattle.afr_base.proofs.TestLemmas.{one_value}
use Rattle.afr_choice.specs.Looks.{no_looks, view_at}
use Rattle.afr_choice.specs.declared.looked.Looked.{Looked}
use Rattle.afr_discipline.specs.Tests.{ends_low, fits_view}
use Rattle.afr_lines.specs.Areas.{area_for}
use Rattle.afr_lines.specs.Work.{Work}
use Rattle.afr_lines.specs.declared.answer.Told.{Told}
use Rattle.afr_lines.specs.declared.answer.Told.TheVariants as as_told
use Rattle.afr_lines.specs.declared.line.Line.{Line}
use Rattle.afr_lines.specs.declared.line.Line.TheVariants.{Ask, Begin}
use Rattle.afr_lines.specs.declared.line.Next.{Next}
use Rattle.afr_lines.specs.declared.line.Next.TheVariants as next
use Rattle.afr_lines.specs.declared.reply.Reply.{Reply}
use Rattle.afr_lines.specs.declared.request.Request.{Request}
use Rattle.afr_lines.specs.declared.request.Request.TheVariants as request_of
use Rattle.afr_model_moves.specs.Cells.{what_code}
use Rattle.afr_object.specs.Tables.{is_dir, object_of}
use Rattle.afr_object.specs.declared.change.Change.{Change}
use Rattle.afr_object.specs.declared.change.Change.TheVariants as change_of
use Rattle.afr_object.specs.declared.entry.Entry.{Entry}
use Rattle.afr_object.specs.declared.entry.View.{View}
use Rattle.afr_plan.specs.declared.command.Command.{Command}
use Rattle.afr_plan.specs.declared.command.Command.TheVariants as command
use Rattle.afr_plan.specs.declared.plan.Plan.{Plan}
use Rattle.afr_model.specs.Answered.{IsAbout, IsAnswered}
use Rattle.afr_model.specs.Keeping.{KeepsTo, Names}
use Rattle.afr_model.specs.Showing.{Path, has, locks, look_shows, looked_by}
use Rattle.afr_model.specs.Standing.{area_here}
use Rattle.afr_client_transaction.specs.Outcome.{reply_of}
use Rattle.afr_client_transaction.specs.Progress.{TransactionProgress, asks, begun, fed, is_beginning, next_at as next_change, numbered, request_at, told_to}
use Rattle.afr_client_transaction.specs.Sound.{Sound}
use Rattle.afr_client_transaction.specs.declared.stage.Stage.{Stage}
use Rattle.afr_client_transaction.specs.declared.stage.Stage.TheVariants.{Locking, Looking, Beginning, Preparing, Applying, Posting, Closing}
use Rattle.afr_client_transaction.proofs.NoteLemmas.{fed_change}
use Rattle.afr_client_write.specs.Write.{begun_in}
use Rattle.afr_law_client.specs.Read.ChangeLaws.{ChangeStands, IsChangeOf, is_of_change}
use Rattle.afr_law_client.specs.Read.Lines.{is_look}
use Rattle.afr_law_client.proofs.Read.ChangeWords.{keeps_path, stands}
use Rattle.afr_law_client.proofs.Read.Walking.{place_whole, rmdir_none}
use Rattle.afr_law_client.specs.About.{Led}
use Rattle.afr_law_client.specs.Fits.{LineFits, LineFitsPhase}
use Rattle.afr_law_client.specs.Laws.{IsNextLine}
use Rattle.afr_law_client.specs.Tells.{During, OnUnlocks, TooFew, Tried, Unfit}
use Rattle.afr_law_client.proofs.About.{about_next, excused_kept}
use Rattle.afr_law_client.proofs.Calm.{calm_kept}
use Rattle.afr_law_client.proofs.Kept.{tells_kept}
use Rattle.afr_law_client.proofs.Over.{ends_answered}
use Rattle.afr_law_client.proofs.Small.{object_named, self}
use Rattle.afr_law_client.specs.Write.WriteTelling.{AreFitting, CanTell, ChangesObject}

-- ---- such an object as the change is for
file_code : (what : What) → is_dir what ≡ false → (what_code what == 1) ≡ true
file_code File h = refl
file_code Dir h = absurd (cc h)

some_code : (what : What) → not (what_code what == 0) ≡ true
some_code File = refl
some_code Dir = refl

-- a view of the object's kind suits the change
suits_view : (c : Command) (object : Entry) (change : Change) → IsChangeOf c object change → (view : View) → view.what ≡ object.what → fits_view (Some view) change ≡ true
suits_view (command.Write path at bytes) object change k view e =
    subst (λ (x : Change). fits_view (Some view) x ≡ true) (one_value (change_of.Write object.gfid at bytes) change k.named) (file_code view.what (ap is_dir e ∙ k.suits))
suits_view (command.Cut path len) object change k view e =
    subst (λ (x : Change). fits_view (Some view) x ≡ true) (one_value (change_of.Cut object.gfid len) change k.named) (file_code view.what (ap is_dir e ∙ k.suits))
suits_view (command.SetAttr path key value) object change k view e =
    subst (λ (x : Change). fits_view (Some view) x ≡ true) (one_value (change_of.SetAttr object.gfid key value) change k.named) (some_code view.what)
suits_view other object change k view e = absurd (cc k.named)

-- a change that isn't too large ends low
low_of : (x : ℕ) → (y : Reply) → (if nat_lt 1048576 x then Some y else None) ≡ None → nat_le x 1048576 ≡ true
low_of x y e = go (nat_lt 1048576 x) refl e
  where
    go : (t : Bool) → nat_lt 1048576 x ≡ t → (if t then Some y else None) ≡ None → nat_le x 1048576 ≡ true
    go true h e = absurd (cc e)
    go false h e = grind (arith, nat_tests, h)

low_is : (c : Command) (object : Entry) (change : Change) → IsChangeOf c object change → ends_low change ≡ true
low_is (command.Write path at bytes) object change k = subst (λ (x : Change). ends_low x ≡ true) (one_value (change_of.Write object.gfid at bytes) change k.named) (low_of (at + length bytes) _ k.fits)
low_is (command.Cut path len) object change k = subst (λ (x : Change). ends_low x ≡ true) (one_value (change_of.Cut object.gfid len) change k.named) refl
low_is (command.SetAttr path key value) object change k = subst (λ (x : Change). ends_low x ≡ true) (one_value (change_of.SetAttr object.gfid key value) change k.named) refl
low_is other object change k = absurd (cc k.named)

-- it makes no object, so its Begin line has it as it is
numbered_same : (c : Command) (object : Entry) (change : Change) (at : ℕ) → IsChangeOf c object change → numbered at change ≡ change
numbered_same (command.Write path at bytes) object change n k = subst (λ (x : Change). numbered n x ≡ x) (one_value (change_of.Write object.gfid at bytes) change k.named) refl
numbered_same (command.Cut path len) object change n k = subst (λ (x : Change). numbered n x ≡ x) (one_value (change_of.Cut object.gfid len) change k.named) refl
numbered_same (command.SetAttr path key value) object change n k = subst (λ (x : Change). numbered n x ≡ x) (one_value (change_of.SetAttr object.gfid key value) change k.named) refl
numbered_same other object change n k = absurd (cc k.named)

pub nothing_shown : (b : ℕ) → view_at b no_looks ≡ None
nothing_shown zero = refl
nothing_shown (suc zero) = refl
nothing_shown (suc (suc zero)) = refl
nothing_shown (suc (suc (suc zero))) = refl
nothing_shown (suc (suc (suc (suc zero)))) = refl
nothing_shown (suc (suc (suc (suc (suc b))))) = refl

-- a view more that suits leaves all views such
fits_set : (change : Change) (xs : List (Option View)) (b c : ℕ) (v : Option View) → fits_view v change ≡ true → fits_view (slice_index_or xs c None) change ≡ true → fits_view (slice_index_or (slice_set xs b v) c None) change ≡ true
fits_set change [] b c v h k = k
fits_set change (x ∷ xs) zero zero v h k = h
fits_set change (x ∷ xs) zero (suc c) v h k = k
fits_set change (x ∷ xs) (suc b) zero v h k = k
fits_set change (x ∷ xs) (suc b) (suc c) v h k = fits_set change xs b c v h k

fits_shown : (change : Change) (b c : ℕ) (told : Told) (looked : Looked) → ((view : View) → told ≡ as_told.Seen view → fits_view (Some view) change ≡ true) → fits_view (view_at c looked) change ≡ true
    → fits_view (view_at c (look_shows b told looked)) change ≡ true
fits_shown change b c (as_told.Seen view) looked h k = fits_set change looked.views b c (Some view) (h view refl) k
fits_shown change b c as_told.NoObject looked h k = fits_set change looked.views b c None refl k
fits_shown change b c told looked h k = fits_set change looked.views b c None refl k

-- the looks still suit after one line more
pub fitting_more : (n : ℕ) (stage : Stage) (t : TransactionProgress) (a : ActorId) (b : BrickId) (told : Told) (took : Bool) (log : List Line) (lines : Work)
    → ((view : View) → told ≡ as_told.Seen view → is_look (request_at stage t) ≡ true → fits_view (Some view) t.change ≡ true) → AreFitting n t.change lines
    → AreFitting n t.change ((Ask a b (request_at stage t) told took, log) ∷ lines)
fitting_more n Locking t a b told took log lines h k = λ locked c l. subst (λ (x : Looked). fits_view (view_at c x) t.change ≡ true) (sym void) (subst (λ (v : Option View). fits_view v t.change ≡ true) (sym (nothing_shown c)) refl)
  where
    void : looked_by (object_of t.change) ((Ask a b (request_at Locking t) told took, log) ∷ lines) ≡ no_looks
    void = rw (object_named t.change, self (object_of t.change).0) refl
fitting_more n Looking t a b told took log lines h k = λ locked c l. subst (λ (x : Looked). fits_view (view_at c x) t.change ≡ true) (sym shows) (fits_shown t.change b.0 c told (looked_by (object_of t.change) lines) (λ view e. h view e refl) (k locked c l))
  where
    shows : looked_by (object_of t.change) ((Ask a b (request_at Looking t) told took, log) ∷ lines) ≡ look_shows b.0 told (looked_by (object_of t.change) lines)
    shows = rw (self (object_of t.change).0) refl
fitting_more n Beginning t a b told took log lines h k = λ locked c l. subst (λ (x : Looked). fits_view (view_at c x) t.change ≡ true) (sym shows) (fits_shown t.change b.0 c told (looked_by (object_of t.change) lines) (λ view e. h view e refl) (k locked c l))
  where
    shows : looked_by (object_of t.change) ((Ask a b (request_at Beginning t) told took, log) ∷ lines) ≡ look_shows b.0 told (looked_by (object_of t.change) lines)
    shows = rw (self (object_of t.change).0) refl
fitting_more n Preparing t a b told took log lines h k = k
fitting_more n Applying t a b told took log lines h k = k
fitting_more n Posting t a b told took log lines h k = k
fitting_more n Closing t a b told took log lines h k = k

-- ---- the transaction's next line
abbrev request_in : Next → Request
request_in (next.Ask b request) = request
request_in other = request_of.Index

-- a request is that of its stage, which isn't the Begin line's
pub asked_stage : (stage : Stage) (at : ℕ) (t : TransactionProgress) (b : BrickId) (request : Request) → next_change stage at t ≡ next.Ask b request → (is_beginning stage ≡ false) × (request_at stage t ≡ request)
asked_stage Locking at t b request e = (refl, ap request_in e)
asked_stage Looking at t b request e = (refl, ap request_in e)
asked_stage Beginning at t b request e = absurd (cc e)
asked_stage Preparing at t b request e = (refl, ap request_in e)
asked_stage Applying at t b request e = (refl, ap request_in e)
asked_stage Posting at t b request e = (refl, ap request_in e)
asked_stage Closing at t b request e = (refl, go (is_nothing t.register.held) e)
  where
    go : (x : Bool) → (if x then next.End (reply_of t.change t.register) else asks Closing t) ≡ next.Ask b request → request_at Closing t ≡ request
    go true e = absurd (cc e)
    go false e = ap request_in e

pub begun_stage : (stage : Stage) (at : ℕ) (t : TransactionProgress) (change : Change) → next_change stage at t ≡ next.Begin change → stage ≡ Beginning
begun_stage Locking at t change e = absurd (cc e)
begun_stage Looking at t change e = absurd (cc e)
begun_stage Beginning at t change e = refl
begun_stage Preparing at t change e = absurd (cc e)
begun_stage Applying at t change e = absurd (cc e)
begun_stage Posting at t change e = absurd (cc e)
begun_stage Closing at t change e = absurd (go (is_nothing t.register.held) e)
  where
    go : (x : Bool) → (if x then next.End (reply_of t.change t.register) else asks Closing t) ≡ next.Begin change → ⊥
    go true e = cc e
    go false e = cc e

pub ended_stage : (stage : Stage) (at : ℕ) (t : TransactionProgress) (said : Reply) → next_change stage at t ≡ next.End said → (stage ≡ Closing) × (reply_of t.change t.register ≡ said)
ended_stage Locking at t said e = absurd (cc e)
ended_stage Looking at t said e = absurd (cc e)
ended_stage Beginning at t said e = absurd (cc e)
ended_stage Preparing at t said e = absurd (cc e)
ended_stage Applying at t said e = absurd (cc e)
ended_stage Posting at t said e = absurd (cc e)
ended_stage Closing at t said e = (refl, go (is_nothing t.register.held) e)
  where
    go : (x : Bool) → (if x then next.End (reply_of t.change t.register) else asks Closing t) ≡ next.End said → reply_of t.change t.register ≡ said
    go true e = cc e
    go false e = absurd (cc e)

pub of_stage : (stage : Stage) (t : TransactionProgress) (a : ActorId) (b : BrickId) (told : Told) (took : Bool) → is_of_change (Ask a b (request_at stage t) told took) ≡ true
of_stage Locking t a b told took = refl
of_stage Looking t a b told took = refl
of_stage Beginning t a b told took = refl
of_stage Preparing t a b told took = refl
of_stage Applying t a b told took = refl
of_stage Posting t a b told took = refl
of_stage Closing t a b told took = refl

pub begun_fed : (stage : Stage) (at : ℕ) (t : TransactionProgress) → stage ≡ Beginning → (if is_beginning stage then begun at t else t) ≡ fed stage as_told.Done at t
begun_fed Beginning at t e = refl
begun_fed Locking at t e = absurd (cc e)
begun_fed Looking at t e = absurd (cc e)
begun_fed Preparing at t e = absurd (cc e)
begun_fed Applying at t e = absurd (cc e)
begun_fed Posting at t e = absurd (cc e)
begun_fed Closing at t e = absurd (cc e)

-- ---- a line of the transaction
module _ (p : Plan) (c : Command) (object : Entry) (lines : Work) (a : ActorId) (log : List Line) (t : TransactionProgress) (sound : Sound t) (k : ChangesObject p c object t lines) where
  -- after a line that is told
  after_line : (told : Told) (line : Line) → IsNextLine a (next_change t.stage (length log) t) told line → is_of_change line ≡ true → LineFits line → LineFitsPhase line → AreFitting p.shape.n t.change ((line, log) ∷ lines)
      → ChangesObject p c object (fed t.stage told (length log) t) ((line, log) ∷ lines)
  after_line told line is of fits phase fitting = record {
    words = subst (λ (x : Change). IsChangeOf c object x) (sym (fed_change t.stage told (length log) t)) k.words;
    led = (keeps_path p c object line log lines of k.led).0;
    unread = (keeps_path p c object line log lines of k.led).1 ∙ k.unread;
    tells = tells_kept p lines t a told line log sound k.tells is;
    excused = excused_kept p lines t a told line log sound k.tells is fits phase k.excused;
    calm = calm_kept p lines t a told line log sound k.tells is phase k.calm;
    fitting = subst (λ (x : Change). AreFitting p.shape.n x ((line, log) ∷ lines)) (sym (fed_change t.stage told (length log) t)) fitting;
  }

  pub asked_more : (b : BrickId) (request : Request) (told : Told) (took : Bool) → next_change t.stage (length log) t ≡ next.Ask b request → CanTell object request told
      → ChangesObject p c object (told_to told (length log) t) ((Ask a b request told took, log) ∷ lines)
  asked_more b request told took e can =
      let at_stage = asked_stage t.stage (length log) t b request e in
      let told_is : told_to told (length log) t ≡ fed t.stage told (length log) t = pick (is_beginning t.stage) at_stage.0 in
      subst (λ (x : TransactionProgress). ChangesObject p c object x ((Ask a b request told took, log) ∷ lines)) (sym told_is)
      (after_line told (Ask a b request told took) (subst (λ (n : Next). IsNextLine a n told (Ask a b request told took)) (sym e) (took, refl))
      (subst (λ (r : Request). is_of_change (Ask a b r told took) ≡ true) at_stage.1 (of_stage t.stage t a b told took)) can.fits can.phase
      (subst (λ (r : Request). AreFitting p.shape.n t.change ((Ask a b r told took, log) ∷ lines)) at_stage.1
      (fitting_more p.shape.n t.stage t a b told took log lines (λ view seen look. suits_view c object t.change k.words view (can.shows view seen (subst (λ (r : Request). is_look r ≡ true) at_stage.1 look))) k.fitting)))
    where
      pick : (x : Bool) → x ≡ false → (if x then t else fed t.stage told (length log) t) ≡ fed t.stage told (length log) t
      pick true h = absurd (cc h)
      pick false h = refl

  pub begun_more : (change : Change) → next_change t.stage (length log) t ≡ next.Begin change → ChangesObject p c object (begun_in (length log) t) ((Begin a change, log) ∷ lines)
  begun_more change e =
      subst (λ (x : TransactionProgress). ChangesObject p c object x ((Begin a change, log) ∷ lines)) (sym (begun_fed t.stage (length log) t (begun_stage t.stage (length log) t change e)))
      (after_line as_told.Done (Begin a change) (subst (λ (n : Next). IsNextLine a n as_told.Done (Begin a change)) (sym e) refl) refl tt tt k.fitting)

  abbrev stood : ChangeStands p c object t.change lines
  stood = stands p c object t.change lines k.words k.led

  -- where its command has led it
  led_at : (stage : Stage) → Led stage p c t.change lines
  led_at Locking = stood.locks
  led_at Looking = record { object = stood.looks ∙ ap (λ (g : Gfid). Some g) (sym stood.object_is); area = stood.locks; unread = k.unread }
  led_at Beginning = record { refuses = λ none. stood.refuses ∙ none; asked = stood.asked }
  led_at Preparing = tt
  led_at Applying = tt
  led_at Posting = tt
  led_at Closing = tt

  free_line : (stage : Stage) (b : BrickId) (told : Told) (took : Bool) (line : Line) → line ≡ Ask a b (request_at stage t) told took → KeepsTo p c line (length log) lines
  free_line stage b told took line e = subst (λ (x : Line). KeepsTo p c x (length log) lines) (sym e) (go stage)
    where
      go : (stage : Stage) → KeepsTo p c (Ask a b (request_at stage t) told took) (length log) lines
      go Locking = tt
      go Looking = tt
      go Beginning = tt
      go Preparing = tt
      go Applying = tt
      go Posting = tt
      go Closing = tt

  keeps : (stage : Stage) (told : Told) (line : Line) → During stage p.shape t lines → IsNextLine a (next_change stage (length log) t) told line → KeepsTo p c line (length log) lines
  keeps Locking told line d (took, e) = free_line Locking _ told took line e
  keeps Looking told line d (took, e) = free_line Looking _ told took line e
  keeps Beginning told line d e =
      subst (λ (x : Line). KeepsTo p c x (length log) lines) (sym e)
      (d.idle.unbegun, subst (λ (x : Change). Names p c lines (length log) x) (sym (numbered_same c object t.change (length log) k.words)) (stood.names (length log)))
  keeps Preparing told line d (took, e) = free_line Preparing _ told took line e
  keeps Applying told line d (took, e) = free_line Applying _ told took line e
  keeps Posting told line d (took, e) = free_line Posting _ told took line e
  keeps Closing told line d is = go (is_nothing t.register.held) is
    where
      go : (x : Bool) → IsNextLine a (if x then next.End (reply_of t.change t.register) else asks Closing t) told line → KeepsTo p c line (length log) lines
      go true is = absurd is
      go false (took, e) = free_line Closing _ told took line e

  pub change_line : (told : Told) (line : Line) → IsNextLine a (next_change t.stage (length log) t) told line → IsAbout p c line lines × KeepsTo p c line (length log) lines
  change_line told line is = (about_next p c lines t a told line log sound k.tells (led_at t.stage) is, keeps t.stage told line k.tells.during is)

  -- the end
  was_locked : OnUnlocks p.shape t.change t.register.looked t.asked.looked_at lines → has (locks (object_of t.change)) lines ≡ true
  was_locked (TooFew idle locked looks few none) = locked.locked
  was_locked (Unfit idle locked looks most all unfit) = locked.locked
  was_locked (Tried under whole) = under.allows.locked.locked

  pub change_end : (at : ℕ) (said : Reply) → next_change t.stage at t ≡ next.End said → IsAnswered p c lines said
  change_end at said e =
      let over = ended_stage t.stage at t said e in
      let locked = was_locked (subst (λ (x : Stage). During x p.shape t lines) over.0 k.tells.during) in
      subst (λ (x : Reply). IsAnswered p c lines x) over.1
      (ends_answered p c lines t sound k.tells over.0 (record { low = low_is c object t.change k.words; fits = k.fitting locked }) k.calm (record {
        object = object;
        led = stood.place;
        area = subst (λ (x : Path). area_here c x ≡ Some (area_for t.change)) (sym (place_whole p c lines stood.whole)) stood.locks;
        refuses = stood.refuses;
        answers = stood.answers;
        plain = rmdir_none c stood.whole;
      }))
