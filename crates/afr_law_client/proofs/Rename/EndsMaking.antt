-- A rename that ends before its second transaction: its making is refused, or too few have done it.
use Rattle.std.proofs.Common.{◌≡◌, ℕ, ◌<◌, ◌&&◌, not, Bool, true, false, List, Option, Some, None, length, refl, sym, ap, ◌∙◌, subst, if◌then◌else◌, inl, inr}
use Rattle.afr_base.specs.Bricks.{is_nothing, member}
use Rattle.afr_base.specs.Majority.{is_majority}
use Rattle.afr_base.specs.declared.ids.Kind.{Kind}
use Rattle.afr_base.specs.declared.ids.NameId.{NameId}
use Rattle.afr_base.specs.declared.ids.Shape.{Shape}
use Rattle.afr_base.specs.declared.ids.What.TheVariants.{File}
use Rattle.afr_discipline.specs.Tests.{ends_low}
use Rattle.afr_lines.specs.Areas.{area_for, kind_for}
use Rattle.afr_lines.specs.Work.{Work}
use Rattle.afr_lines.specs.declared.line.Next.TheVariants as next
use Rattle.afr_lines.specs.declared.reply.Reply.{Reply}
use Rattle.afr_lines.specs.declared.reply.Reply.TheVariants as reply
use Rattle.afr_lines.specs.declared.request.Area.{Area}
use Rattle.afr_object.specs.Tables.{object_of}
use Rattle.afr_object.specs.declared.change.Change.{Change}
use Rattle.afr_object.specs.declared.entry.Entry.{Entry}
use Rattle.afr_plan.specs.declared.command.Command.{Command}
use Rattle.afr_plan.specs.declared.command.Command.TheVariants as command
use Rattle.afr_plan.specs.declared.plan.Plan.{Plan}
use Rattle.afr_model.specs.Answered.{by_posts, is_by_views}
use Rattle.afr_model.specs.Parts.{first_part, the_make, the_walk}
use Rattle.afr_model.specs.Refusals.{by_locks, or_else, refusal}
use Rattle.afr_model.specs.Renamed.{AsksAllOf, IsRenamed, asked_lines, asks_at, by_halves, or_halves, refusal_at, rename_refusal, rename_reply}
use Rattle.afr_model.specs.Showing.{Path, At, among, begins_attempt, has, is_faulted, looked_by, path_by, posted, refuses_read}
use Rattle.afr_model.specs.Skipped.{AsksAll}
use Rattle.afr_model.specs.Standing.{asking, looks_here, place_by}
use Rattle.afr_model.proofs.Cut.Cut.{first_all}
use Rattle.afr_client_transaction.specs.Outcome.{outcome_of, reply_for, reply_of}
use Rattle.afr_client_transaction.specs.Progress.{TransactionProgress, asks, is_beginning, is_over, next_at as next_change}
use Rattle.afr_client_transaction.specs.declared.reply.TransactionOutcome.{TransactionOutcome}
use Rattle.afr_client_transaction.specs.declared.reply.TransactionOutcome.TheVariants as outcome
use Rattle.afr_client_transaction.specs.declared.stage.Stage.{Stage}
use Rattle.afr_client_transaction.specs.declared.stage.Stage.TheVariants.{Locking, Looking, Beginning, Preparing, Applying, Posting, Closing}
use Rattle.afr_client_transaction.proofs.Acknowledged.{acknowledged_exactly}
use Rattle.afr_law_client.specs.About.{IsFitting}
use Rattle.afr_law_client.specs.GivenUp.{GaveUp}
use Rattle.afr_law_client.specs.Tells.{During, Tells}
use Rattle.afr_law_client.proofs.GivenUpLemmas.{given_up_ends}
use Rattle.afr_law_client.proofs.Over.{asks_all_for_locks, failed_by_brick, replies_exactly, skips_none, undisturbed_is_done}
use Rattle.afr_client_entry.specs.Job.{change_of, reply_to}
use Rattle.afr_client_entry.specs.declared.job.EntryJob.{EntryJob}
use Rattle.afr_client_entry.specs.declared.job.EntryJob.TheVariants.{Create}
use Rattle.afr_client_entry.specs.declared.refusal.Refusal.{Refusal}
use Rattle.afr_client_entry.specs.declared.refusal.Refusal.TheVariants as refusal_of
use Rattle.afr_client_entry.specs.declared.stage.Found.{Found}
use Rattle.afr_client_entry.specs.declared.stage.Found.TheVariants.{Unread, Fits, Refused}
use Rattle.afr_law_client.proofs.Write.Goes.{ended_stage}
use Rattle.afr_law_client.specs.Entry.EntryTelling.{RulesOut, TransactionGoes}
use Rattle.afr_law_client.proofs.Entry.Changing.{passed_like, unrefused_fits, unrefused_unread}
use Rattle.afr_law_client.proofs.Entry.Ended.{by_read, no_views, refused, was_locked}
use Rattle.afr_law_client.proofs.Entry.Under.{area_there, refused_by_locks}
use Rattle.afr_client_entry.specs.Renames.Against.{is_acknowledged}
use Rattle.afr_client_entry.specs.Renames.Paths.{reads_new}
use Rattle.afr_client_entry.specs.Renames.Rename.{IsMaking, is_done}
use Rattle.afr_client_entry.specs.Renames.Under.{next_under}
use Rattle.afr_client_entry.specs.declared.renaming.paths.Paths.{Paths}
use Rattle.afr_law_client.specs.Rename.RenameTelling.{HasWalked, MakesNewName, to_of}
use Rattle.afr_law_client.proofs.Rename.MakingMore.{making_like}
use Rattle.afr_law_client.proofs.Rename.MakingParts.{fault_more, has_append, or_left}
use Rattle.afr_law_client.proofs.Rename.MakingWalked.{begun_only, whole}
use Rattle.afr_law_client.proofs.Rename.WalkEnds.{file_asks, file_lines, file_refusal, no_majority}

-- ---- replies
-- a transaction's own reply is never that a rename stays half
not_half : (o : TransactionOutcome) → reply_for o ≡ reply.Half → ⊥
not_half outcome.Acknowledged e = cc e
not_half outcome.NoQuorum e = cc e
not_half outcome.FewCopies e = cc e
not_half (outcome.SplitBrain views) e = cc e
not_half outcome.Failed e = cc e

-- nor is that of a refusal, which is no reply by views either
refusal_whole : (why : Refusal) → reply_to why ≡ reply.Half → ⊥
refusal_whole refusal_of.Failed e = cc e
refusal_whole refusal_of.NoEntry e = cc e
refusal_whole refusal_of.Exists e = cc e
refusal_whole refusal_of.IsDir e = cc e
refusal_whole refusal_of.NotDir e = cc e

-- ---- the end of a transaction
pub ends_over : (stage : Stage) (at : ℕ) (t : TransactionProgress) (said : Reply) → next_change stage at t ≡ next.End said → is_over stage t ≡ true
ends_over Locking at t said e = absurd (cc e)
ends_over Looking at t said e = absurd (cc e)
ends_over Beginning at t said e = absurd (cc e)
ends_over Preparing at t said e = absurd (cc e)
ends_over Applying at t said e = absurd (cc e)
ends_over Posting at t said e = absurd (cc e)
ends_over Closing at t said e = go (is_nothing t.register.held) e
  where
    go : (b : Bool) → (if b then next.End (reply_of t.change t.register) else asks Closing t) ≡ next.End said → b ≡ true
    go true e = refl
    go false e = absurd (cc e)

-- ---- what refuses a rename whose first path has led to a file
pub refusal_is : (p : Plan) (x : Paths) (lines : Work) → HasWalked p x lines → rename_refusal p x.first.path (to_of x) lines ≡ refusal p (command.Create (to_of x)) (the_make x.first.path lines)
refusal_is p x lines k =
    ap (λ (q : Path). refusal_at q p x.first.path (to_of x) lines) k.found ∙ file_refusal p x.first.path (to_of x) lines (record { gfid = x.first.object.gfid; what = File }) refl

-- whom it asks there
asks_there : (p : Plan) (x : Paths) (lines : Work) → HasWalked p x lines → AsksAllOf p (command.Create (to_of x)) (the_make x.first.path lines)
    → AsksAllOf p (asks_at (path_by p (the_walk x.first.path lines)) x.first.path (to_of x)) (asked_lines (path_by p (the_walk x.first.path lines)) x.first.path lines)
asks_there p x lines k all =
    let file : Entry = record { gfid = x.first.object.gfid; what = File } in
    subst (λ (q : Path). AsksAllOf p (asks_at q x.first.path (to_of x)) (asked_lines q x.first.path lines)) (sym k.found)
    (subst (λ (c : Command). AsksAllOf p c (asked_lines (At (length x.first.path) file) x.first.path lines)) (sym (file_asks p x.first.path (to_of x) lines file))
    (subst (λ (w : Work). AsksAllOf p (command.Create (to_of x)) w) (sym (file_lines p x.first.path (to_of x) lines file)) all))

halves_else : (a b : Option Reply) → or_halves a b ≡ or_else a b
halves_else None b = refl
halves_else (Some said) b = refl

-- without a majority of post-ops the halves answer what the making does
halves_failed : (p : Plan) (from : List NameId) (lines : Work) → is_majority p.shape.n (among posted (the_make from lines)) ≡ false → by_halves p from lines ≡ by_posts p.shape (the_make from lines)
halves_failed p from lines none = rw none (go (has begins_attempt (the_make from lines)))
  where
    go : (b : Bool) → (if not b then None else Some reply.Failed) ≡ (if b then Some reply.Failed else None)
    go true = refl
    go false = refl

module _ (p : Plan) (x : Paths) (t : TransactionProgress) (found : Found) (lines : Work) (k : MakesNewName p x t found lines) (sound : IsMaking x t found) where
  abbrev from : List NameId
  from = x.first.path

  abbrev make : Work
  make = the_make from lines

  abbrev c : Command
  c = command.Create (to_of x)

  abbrev job : EntryJob
  job = Create x.new_name

  abbrev dir : Entry
  dir = x.second.object

  abbrev change : Change
  change = change_of dir.gfid job

  -- ---- why it ends
  reply_is : (said : Reply) → or_else (refusal p c make) (by_posts p.shape make) ≡ Some said → is_majority p.shape.n (among posted make) ≡ false → rename_reply p from (to_of x) lines ≡ Some said
  reply_is said e none =
      halves_else (rename_refusal p from (to_of x) lines) (by_halves p from lines)
      ∙ ap (λ (o : Option Reply). or_else o (by_halves p from lines)) (refusal_is p x lines k.on.walked)
      ∙ ap (λ (o : Option Reply). or_else (refusal p c make) o) (halves_failed p from lines none)
      ∙ e

  -- a reply that views make asked every brick for the lock
  asks_all : Tells p make t → t.stage ≡ Closing → AsksAllOf p c make
  asks_all tells closing =
      subst (λ (o : Option Area). AsksAll p.shape.n (looks_here c (place_by p c make)) o make) (sym (area_there p job x.second.path dir make k.tells.place k.tells.directory))
      (subst (λ (area : Area). (b : ℕ) → b < p.shape.n → member (among (asking area) make) b ≡ true) (making_like x t.change sound.under.of).area (asks_all_for_locks p make t tells closing))

  -- a fault of the making is one of the work
  calm_make : is_faulted lines ≡ false → is_faulted make ≡ false
  calm_make calm = go (is_faulted make) refl
    where
      go : (b : Bool) → is_faulted make ≡ b → b ≡ false
      go true e = let f = subst (λ (w : Work). is_faulted w ≡ true) (whole p x lines k.on) (fault_more make (the_walk from lines) e) in absurd (cc (f, calm))
      go false e = refl

  -- ---- its transaction has gone as far as it could
  module _ (goes : TransactionGoes p t make) (closing : t.stage ≡ Closing) (refuses : refusal p c make ≡ by_locks p.shape (kind_for change) (area_for change) make) (unmade : is_acknowledged (outcome_of t.change t.register) ≡ false) where
    fitting : IsFitting p.shape.n t.change (looked_by (object_of t.change) make)
    fitting = record {
      low = subst (λ (y : Change). ends_low y ≡ true) (sym sound.under.of) refl;
      fits = goes.fitting (was_locked p t make (subst (λ (stage : Stage). During stage p.shape t make) closing goes.tells.during));
    }

    locks_like : by_locks p.shape (kind_for change) (area_for change) make ≡ by_locks p.shape (kind_for t.change) (area_for t.change) make
    locks_like = let like = making_like x t.change sound.under.of in
        ap (λ (y : Kind). by_locks p.shape y (area_for change) make) (sym like.kind) ∙ ap (λ (y : Area). by_locks p.shape (kind_for t.change) y make) (sym like.area)

    not_posted : is_majority p.shape.n (among posted make) ≡ false
    not_posted = go (is_majority p.shape.n (among posted make)) refl
      where
        go : (b : Bool) → is_majority p.shape.n (among posted make) ≡ b → b ≡ false
        go true e =
            let most : is_majority t.register.shape.n t.register.post ≡ true = subst (λ (y : Shape). is_majority y.n t.register.post ≡ true) (sym goes.tells.shape_is) (subst (λ (s : List ℕ). is_majority p.shape.n s ≡ true) (sym goes.tells.sets.posted) e) in
            let done = ap is_acknowledged ((acknowledged_exactly t sound.under.sound).0 most) in
            absurd (cc (done, unmade))
        go false e = refl

    tried_end : IsRenamed p from (to_of x) lines (reply_of t.change t.register)
    tried_end = record {
      caused = reply_is (reply_of t.change t.register) (ap (λ (o : Option Reply). or_else o (by_posts p.shape make)) (refuses ∙ locks_like) ∙ replies_exactly p make t sound.under.sound goes.tells closing fitting) not_posted;
      asked = λ said e views. asks_there p x lines k.on.walked (asks_all goes.tells closing);
      failed = λ f. inl (failed_by_brick p make t sound.under.sound goes.tells closing fitting goes.calm f);
      halved = λ h. absurd (not_half (outcome_of t.change t.register) h);
      undisturbed = λ begun calm. inl (undisturbed_is_done p make t sound.under.sound goes.tells closing goes.calm (sym (begun_only p x lines k.on) ∙ begun) (calm_make calm));
      legs = k.on.walked.legs;
      last_leg = k.last_leg;
      walked = k.on.walked.walked;
      made = skips_none p c make t goes.tells closing refl;
      looked_for = λ made. absurd (cc (made, not_posted));
    }

  -- ---- its name is there already, or couldn't be read
  module _ (why : Refusal) (rules : RulesOut p c job dir why make) (gave : GaveUp p make t) where
    no_reply : refusal p c make ≡ Some (reply_to why)
    no_reply = refused p job x.second make k.tells.place k.tells.directory why rules (passed_like p t.change change make (making_like x t.change sound.under.of) (given_up_ends p make t gave).passes)

    read_failed : reply_to why ≡ reply.Failed → has refuses_read (first_part lines) ≡ true
    read_failed same = subst (λ (w : Work). has refuses_read w ≡ true) (whole p x lines k.on ∙ sym (first_all lines k.on.first))
        (has_append refuses_read make (the_walk from lines) ∙ or_left (has refuses_read make) (has refuses_read (the_walk from lines)) (by_read p job x.second make k.tells.place k.tells.directory why rules same))

    not_closed : is_majority p.shape.n (among posted make) ≡ true → ⊥
    not_closed e = no_majority p.shape.n (subst (λ (s : List ℕ). is_majority p.shape.n s ≡ true) gave.before.during.idle.no_post_did e)

    none_closed : is_majority p.shape.n (among posted make) ≡ false
    none_closed = go (is_majority p.shape.n (among posted make)) refl
      where
        go : (b : Bool) → is_majority p.shape.n (among posted make) ≡ b → b ≡ false
        go true e = absurd (not_closed e)
        go false e = refl

    refused_end : IsRenamed p from (to_of x) lines (reply_to why)
    refused_end = record {
      caused = reply_is (reply_to why) (ap (λ (o : Option Reply). or_else o (by_posts p.shape make)) no_reply) none_closed;
      asked = λ said e views. let same : reply_to why ≡ said = cc (sym no_reply ∙ sym (refusal_is p x lines k.on.walked) ∙ e) in let alone = no_views why in let none = sym (ap is_by_views same) ∙ alone in absurd (cc (none, views));
      failed = λ f. inr (read_failed f);
      halved = λ h. absurd (refusal_whole why h);
      undisturbed = λ begun calm. let none = begun_only p x lines k.on ∙ (given_up_ends p make t gave).unbegun in absurd (cc (none, begun));
      legs = k.on.walked.legs;
      last_leg = k.last_leg;
      walked = k.on.walked.walked;
      made = (given_up_ends p make t gave).skips c refl;
      looked_for = λ made. absurd (not_closed made);
    }

-- ---- the end
not_both : (o a : Bool) → o ≡ true → (o && a) ≡ false → a ≡ false
not_both true a e f = f
not_both false a e f = absurd (cc e)

own_end : (p : Plan) (x : Paths) (t : TransactionProgress) (found : Found) (lines : Work) (at : ℕ) (said : Reply) → (k : MakesNewName p x t found lines) → IsMaking x t found → is_done t ≡ false → TransactionGoes p t (the_make x.first.path lines)
    → refusal p (command.Create (to_of x)) (the_make x.first.path lines) ≡ by_locks p.shape (kind_for (change_of x.second.object.gfid (Create x.new_name))) (area_for (change_of x.second.object.gfid (Create x.new_name))) (the_make x.first.path lines)
    → next_change t.stage at t ≡ next.End said → IsRenamed p x.first.path (to_of x) lines said
own_end p x t found lines at said k sound undone goes refuses e =
    let over = ended_stage t.stage at t said e in
    subst (λ (y : Reply). IsRenamed p x.first.path (to_of x) lines y) over.1
    (tried_end p x t found lines k sound goes over.0 refuses (not_both (is_over t.stage t) (is_acknowledged (outcome_of t.change t.register)) (ends_over t.stage at t said e) undone))

pub making_ends : (p : Plan) (x : Paths) (t : TransactionProgress) (found : Found) (lines : Work) (at : ℕ) (said : Reply) → MakesNewName p x t found lines → IsMaking x t found → is_done t ≡ false → next_under found at (reads_new x) t ≡ next.End said → IsRenamed p x.first.path (to_of x) lines said
making_ends p x t (Unread copy) lines at said k sound undone e = go (is_beginning t.stage) e
  where
    free : refusal p (command.Create (to_of x)) (the_make x.first.path lines) ≡ by_locks p.shape (kind_for (change_of x.second.object.gfid (Create x.new_name))) (area_for (change_of x.second.object.gfid (Create x.new_name))) (the_make x.first.path lines)
    free = let f = unrefused_unread p (Create x.new_name) x.second (the_make x.first.path lines) t k.tells.name in refused_by_locks p (Create x.new_name) x.second.path x.second.object (the_make x.first.path lines) k.tells.place k.tells.directory f.1 f.0

    go : (b : Bool) → (if b then next.Ask copy (reads_new x) else next_change t.stage at t) ≡ next.End said → IsRenamed p x.first.path (to_of x) lines said
    go true e = absurd (cc e)
    go false e = own_end p x t (Unread copy) lines at said k sound undone k.tells.on.0 free e
making_ends p x t Fits lines at said k sound undone e =
    let f = unrefused_fits p (Create x.new_name) x.second (the_make x.first.path lines) t refl k.tells.name in
    own_end p x t Fits lines at said k sound undone k.tells.on (refused_by_locks p (Create x.new_name) x.second.path x.second.object (the_make x.first.path lines) k.tells.place k.tells.directory f.1 f.0) e
making_ends p x t (Refused why) lines at said k sound undone e = go t.stage k.tells.on.closing e
  where
    by_held : (b : Bool) → (if b then next.End (reply_to why) else (if b then next.End (reply_of t.change t.register) else asks Closing t)) ≡ next.End said → IsRenamed p x.first.path (to_of x) lines said
    by_held true f = let same : reply_to why ≡ said = cc f in subst (λ (y : Reply). IsRenamed p x.first.path (to_of x) lines y) same (refused_end p x t (Refused why) lines k sound why k.tells.name k.tells.on)
    by_held false f = absurd (cc f)

    go : (stage : Stage) → stage ≡ Closing → (if is_over stage t then next.End (reply_to why) else next_change stage at t) ≡ next.End said → IsRenamed p x.first.path (to_of x) lines said
    go Closing h f = by_held (is_nothing t.register.held) f
    go stage h f = absurd (cc h)
