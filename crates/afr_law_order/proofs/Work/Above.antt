-- A work asks for each lock above all that it holds.
use Rattle.std.proofs.Common.{◌≡◌, ℕ, ◌<◌, Bool, true, false, inl, inr, refl, sym, ◌∙◌, subst, ap, arith, List, Some, true≢false}
use Rattle.std.specs.Prelude.{if◌then◌else◌}
use Rattle.afr_client_transaction.proofs.Again.AgainLemmas.{rests}
use Rattle.afr_base.specs.Bricks.{lowest, member}
use Rattle.afr_base.specs.declared.ids.BrickId.{BrickId}
use Rattle.afr_client_entry.specs.Entry as entry
use Rattle.afr_client_entry.specs.Entry.{Entering}
use Rattle.afr_client_entry.specs.Job.{reply_to}
use Rattle.afr_client_entry.specs.declared.stage.EntryStage.TheVariants as entering
use Rattle.afr_client_entry.specs.declared.stage.EntryStage.{EntryStage}
use Rattle.afr_client_entry.specs.declared.stage.Found.TheVariants as found_of
use Rattle.afr_client_entry.specs.declared.stage.Found.{Found}
use Rattle.afr_client_read.specs.Job.{request_of}
use Rattle.afr_client_read.specs.Lookup as lookup
use Rattle.afr_client_read.specs.declared.job.Wanted.TheVariants as content
use Rattle.afr_client_read.specs.declared.job.Wanted.{Wanted}
use Rattle.afr_client_read.specs.declared.stage.LookupStage.TheVariants as looking
use Rattle.afr_client_read.specs.declared.stage.LookupStage.{LookupStage}
use Rattle.afr_client_write.specs.Write as write
use Rattle.afr_client_write.specs.declared.stage.WriteStage.TheVariants as writing
use Rattle.afr_client_write.specs.declared.stage.WriteStage.{WriteStage}
use Rattle.afr_lines.specs.Areas.{area_for}
use Rattle.afr_lines.specs.declared.line.Next.TheVariants as next
use Rattle.afr_lines.specs.declared.line.Next.{Next}
use Rattle.afr_lines.specs.declared.request.Area.{Area}
use Rattle.afr_lines.specs.declared.request.Request.TheVariants.{Lock}
use Rattle.afr_lines.specs.declared.request.Request.{Request}
use Rattle.afr_model_moves.specs.Rules.{area_object}
use Rattle.afr_object.specs.Tables.{object_of}
use Rattle.afr_object.specs.declared.change.Change.{Change}
use Rattle.afr_object.specs.declared.change.Change.TheVariants.{Cut, Make, Remove, SetAttr, Write as Writes}
use Rattle.afr_law_pace.proofs.Order.{asks_above}
use Rattle.afr_law_pace.specs.Left.{IsQueued as Queued}
use Rattle.afr_lines.specs.declared.lock.Domain.TheVariants.{Work as WorkDomain}
use Rattle.afr_client_entry.specs.Removals.Removal as removal
use Rattle.afr_client_entry.specs.Removals.Removal.{Removing, whole}
use Rattle.afr_client_entry.specs.Removals.Sound as removing
use Rattle.afr_client_entry.specs.declared.removing.stage.RemovalStage.TheVariants as removes
use Rattle.afr_client_entry.specs.declared.removing.stage.RemovalStage.{RemovalStage}
use Rattle.afr_law_order.proofs.Asking.{asks_above as removal_above}
use Rattle.afr_law_order.specs.Queue as removal_queue
use Rattle.afr_client_entry.proofs.Renames.RenameLemmas.{done_is}
use Rattle.afr_client_entry.specs.Renames.Against.{half_reply}
use Rattle.afr_client_entry.specs.Renames.Paths.{reads_new, reads_old}
use Rattle.afr_client_entry.specs.Renames.Rename as rename
use Rattle.afr_client_entry.specs.Renames.Rename.{Renaming, is_done, turned}
use Rattle.afr_client_entry.specs.Renames.Under.{next_under}
use Rattle.afr_client_entry.specs.declared.renaming.stage.RenameStage.TheVariants as renaming
use Rattle.afr_client_entry.specs.declared.renaming.stage.RenameStage.{RenameStage}
use Rattle.afr_client_transaction.proofs.Kept.{asked_of, same_asked}
use Rattle.afr_client_transaction.specs.Outcome.{outcome_of}
use Rattle.afr_client_transaction.specs.Progress as transaction
use Rattle.afr_client_transaction.specs.Progress.{TransactionProgress, asks, is_beginning, left}
use Rattle.afr_client_transaction.specs.Sound.{IsAsking, Sound}
use Rattle.afr_client_transaction.specs.declared.stage.Stage.TheVariants.{Applying, Beginning, Closing, Locking, Looking, Posting, Preparing}
use Rattle.afr_client_transaction.specs.declared.stage.Stage.{Stage}
use Rattle.afr_law_bound.specs.Waiting.{IsBelow}
use Rattle.afr_client_walk.specs.Walk as walks
use Rattle.afr_client_walk.specs.declared.walk.Walk.{Walk}
use Rattle.afr_client_walk.specs.declared.walk.WalkStep.TheVariants as walking
use Rattle.afr_client_walk.specs.declared.walk.WalkStep.{WalkStep}
use Rattle.afr_law_order.specs.Work.Queue.{IsQueuedEntry, IsQueuedRename, IsQueuedWrite}
use Rattle.afr_law_order.specs.Work.Rising.{First, LeadsDownAt, Locks, Second, WorkAsksAbove}
use Rattle.afr_client.proofs.WorkLemmas.{same_under}
use Rattle.afr_client.specs.declared.work.WorkMachine.TheVariants.{Entry, Idle, Lookup, Rename, Write}

-- ---- the next line is a Work lock
module _ (b : BrickId) (area : Area) where
  abbrev IsLock : Next → Type 0
  IsLock line = line ≡ next.Ask b (Lock WorkDomain area)

  -- a transaction's is of its area, on the lowest brick that it hasn't asked
  record LocksNext (stage : Stage) (t : TransactionProgress) : Type 0 where
    pub first : stage ≡ Locking
    pub same : area_for t.change ≡ area
    pub lowest_is : lowest (left Locking t) ≡ b.0

  locks_next : (stage : Stage) (t : TransactionProgress) → IsLock (asks stage t) → LocksNext stage t
  locks_next Locking t e = record { first = refl; same = cc e; lowest_is = ap (λ (x : BrickId). x.0) (same_asked b (record { 0 = lowest (left Locking t) }) (Lock WorkDomain area) (Lock WorkDomain (area_for t.change)) (sym e)).0 }
  locks_next Looking t e = absurd (cc e)
  locks_next Beginning t e = absurd (cc e)
  locks_next Preparing t e = absurd (cc e)
  locks_next Applying t e = absurd (cc e)
  locks_next Posting t e = absurd (cc e)
  locks_next Closing t e = absurd (cc e)

  -- a removal's is of its directory, on the lowest brick where its name is locked that it hasn't asked
  record RemovesNext (stage : RemovalStage) (m : Removing) : Type 0 where
    pub first : stage ≡ removes.Locking
    pub asking : removing.IsAsking stage m
    pub same : whole m.child ≡ area
    pub lowest_is : lowest (removal.left removes.Locking m) ≡ b.0

  removes_next : (stage : RemovalStage) (m : Removing) → removing.Ready stage m → IsLock (removal.next_at stage m) → RemovesNext stage m
  removes_next removes.Locking m ready e = record {
    first = refl;
    asking = ready;
    same = cc e;
    lowest_is = ap (λ (x : BrickId). x.0) (same_asked b (record { 0 = lowest (removal.left removes.Locking m) }) (Lock WorkDomain area) (Lock WorkDomain (whole m.child)) (sym e)).0;
  }
  removes_next removes.Looking m ready e = absurd (cc e)
  removes_next removes.Listing m ready e = absurd (cc e)
  removes_next removes.Beginning m ready e = absurd (cc e)
  removes_next removes.Preparing m ready e = absurd (cc e)
  removes_next removes.Applying m ready e = absurd (cc e)
  removes_next removes.Posting m ready e = absurd (cc e)
  removes_next (removes.Closing why) m ready e = go (removal.is_over (removes.Closing why) m) e
    where
      go : (over : Bool) → IsLock (if over then next.End (removal.reply_of why m.register) else removal.asks (removes.Closing why) m) → RemovesNext (removes.Closing why) m
      go true k = absurd (cc k)
      go false k = absurd (cc k)

  -- a walk asks for none, nor does a read
  walk_asks : (step : WalkStep) (w : Walk) → IsLock (next.Ask (walks.next_at step w).0 (walks.next_at step w).1) → ⊥
  walk_asks (walking.Looking s) w e = cc e
  walk_asks (walking.Naming c) w e = cc e
  walk_asks walking.Arrived w e = cc e
  walk_asks (walking.Stopped why) w e = cc e

  read_asks : (stage : LookupStage) (w : Walk) → IsLock (lookup.next_at stage w) → ⊥
  read_asks (looking.Ending said) w e = cc e
  read_asks looking.Walking w e = walk_asks w.step w e
  read_asks (looking.Looking s) w e = cc e
  read_asks (looking.Reading c of) w e = contents of e
    where
      contents : (of : Wanted) → IsLock (next.Ask c (request_of w.object.gfid of)) → ⊥
      contents (content.Bytes from len) k = cc k
      contents (content.Value key) k = cc k
      contents content.Names k = cc k

  -- ---- it is above each that is held
  above : (t : TransactionProgress) → Sound t → Queued t.stage t → (at : ℕ) → IsLock (transaction.next_at t.stage at t) → (c : ℕ) (mine : Area) → Locks t.register c mine → IsBelow (area_object mine) c (area_object area) b.0
  above t s q at e c mine locks = go locks
    where
      asked : IsAsking t.stage t × IsLock (asks t.stage t)
      asked = asked_of t.stage at t b (Lock WorkDomain area) s.ready e

      next_is : LocksNext t.stage t
      next_is = locks_next t.stage t asked.1

      go : Locks t.register c mine → IsBelow (area_object mine) c (area_object area) b.0
      go (First is held) = (
          let up = asks_above t s asked.0 q next_is.first c held in
          let both : Some mine ≡ Some (area_for t.change) = sym is ∙ up.0 in
          let one : mine ≡ area_for t.change = cc both in
          inr (ap (λ (x : Area). area_object x) (one ∙ next_is.same), subst (λ (x : ℕ). c < x) next_is.lowest_is up.2)
          )
      go (Second is held) = absurd (true≢false (sym (subst (λ (z : List ℕ). member z c ≡ true) s.base.none_second held)))

  -- the name that a removal removes is one of its directory
  named_in : (change : Change) → removing.IsRemoval change → area_object (area_for change) ≡ (object_of change).0
  named_in (Remove dir name what) k = refl
  named_in (Writes g from bytes) k = absurd k
  named_in (Cut g len) k = absurd k
  named_in (SetAttr g key value) k = absurd k
  named_in (Make dir name g what) k = absurd k

  removal_is_above : (m : Removing) → removing.Sound m → removal_queue.IsQueued m.stage m → (object_of m.change).0 < m.child.gfid.0 → IsLock (removal.next_at m.stage m) → (c : ℕ) (mine : Area) → Locks m.register c mine
      → IsBelow (area_object mine) c (area_object area) b.0
  removal_is_above m s q down e c mine locks = go locks
    where
      next_is : RemovesNext m.stage m
      next_is = removes_next m.stage m s.ready e

      child : m.child.gfid.0 ≡ area_object area
      child = ap (λ (x : Area). area_object x) next_is.same

      go : Locks m.register c mine → IsBelow (area_object mine) c (area_object area) b.0
      go (First is held) = (
          let both : Some mine ≡ Some (area_for m.change) = sym is ∙ s.areas.named in
          let one : mine ≡ area_for m.change = cc both in
          let of_dir : area_object mine ≡ (object_of m.change).0 = ap (λ (x : Area). area_object x) one ∙ named_in m.change s.removes in
          let of_child = child in
          inl (omega (arith, down, of_dir, of_child))
          )
      go (Second is held) = (
          let up = removal_above m s next_is.asking q next_is.first c held in
          let both : Some mine ≡ Some (whole m.child) = sym is ∙ up.0 in
          let one : mine ≡ whole m.child = cc both in
          inr (ap (λ (x : Area). area_object x) (one ∙ next_is.same), subst (λ (x : ℕ). c < x) next_is.lowest_is up.1)
          )

  -- ---- the machines
  module _ (at c : ℕ) (mine : Area) where
    abbrev IsUnder : Type 0
    IsUnder = IsBelow (area_object mine) c (area_object area) b.0

    write_above : (m : write.Write) (stage : WriteStage) → write.IsStage m.walk stage → IsQueuedWrite stage → IsLock (write.next_at at stage m.walk) → Locks (write.register_at stage m.walk) c mine → IsUnder
    write_above m (writing.Walking job) k q e locks = absurd (walk_asks m.walk.step m.walk e)
    write_above m (writing.Changing t) k q e locks = above t k.0 q at e c mine locks
    write_above m (writing.Ending said) k q e locks = absurd (cc e)

    -- under the name's lock it is the transaction that asks
    under : (read : Request) → ((x : BrickId) → IsLock (next.Ask x read) → ⊥) → (found : Found) (t : TransactionProgress) → IsLock (next_under found at read t) → IsLock (transaction.next_at t.stage at t)
    under read never (found_of.Unread x) t e = go (is_beginning t.stage) e
      where
        go : (first : Bool) → IsLock (if first then next.Ask x read else transaction.next_at t.stage at t) → IsLock (transaction.next_at t.stage at t)
        go true k = absurd (never x k)
        go false k = k
    under read never found_of.Fits t e = e
    under read never (found_of.Refused why) t e = go (transaction.is_over t.stage t) e
      where
        go : (over : Bool) → IsLock (if over then next.End (reply_to why) else transaction.next_at t.stage at t) → IsLock (transaction.next_at t.stage at t)
        go true k = absurd (cc k)
        go false k = k

    entry_above : (m : Entering) (stage : EntryStage) → entry.IsStage m.walk m.job stage → IsQueuedEntry stage → LeadsDownAt stage → IsLock (entry.next_at at stage m.job m.walk) → Locks (entry.register_at stage m.walk) c mine → IsUnder
    entry_above m entering.Walking k q down e locks = absurd (walk_asks m.walk.step m.walk e)
    entry_above m (entering.Changing t found) k q down e locks = above t k.sound q.0 at (under (entry.reads_name m.job m.walk) (λ x f. cc f) found t (same_under found m.job m.walk t at ∙ e)) c mine locks
    entry_above m (entering.Removes y) k q down e locks = removal_is_above y k.sound q down e c mine locks
    entry_above m (entering.Ending said) k q down e locks = absurd (cc e)

    -- at the turn to its second transaction a rename holds no lock
    none_at_turn : (t : TransactionProgress) → Sound t → transaction.is_over t.stage t ≡ true → Locks t.register c mine → IsUnder
    none_at_turn t s over (First is held) = absurd (true≢false (sym (subst (λ (z : List ℕ). member z c ≡ true) (rests t s over).held held)))
    none_at_turn t s over (Second is held) = absurd (true≢false (sym (subst (λ (z : List ℕ). member z c ≡ true) (rests t s over).second_held held)))

    rename_above : (m : Renaming) (stage : RenameStage) → rename.IsSound m.paths stage → IsQueuedRename stage → IsLock (rename.next_at at stage m.paths) → Locks (rename.register_at stage m.paths) c mine → IsUnder
    rename_above m renaming.Finding k q e locks = absurd (walk_asks m.paths.first.step m.paths.first e)
    rename_above m renaming.Walking k q e locks = absurd (walk_asks m.paths.second.step m.paths.second e)
    rename_above m (renaming.Making t found) k q e locks = go (is_done t) refl e
      where
        go : (d : Bool) → is_done t ≡ d → IsLock (if d then transaction.next_at Locking at (turned m.paths t) else next_under found at (reads_new m.paths) t) → IsUnder
        go true f h = none_at_turn t k.under.sound (done_is t k.under.sound f).0 locks
        go false f h = above t k.under.sound q at (under (reads_new m.paths) (λ x g. cc g) found t h) c mine locks
    rename_above m (renaming.Removing t found) k q e locks = go (transaction.is_over t.stage t) e
      where
        go : (over : Bool) → IsLock (if over then next.End (half_reply (outcome_of t.change t.register)) else next_under found at (reads_old m.paths) t) → IsUnder
        go true h = absurd (cc h)
        go false h = above t k.under.sound q at (under (reads_old m.paths) (λ x g. cc g) found t h) c mine locks
    rename_above m (renaming.Ending said) k q e locks = absurd (cc e)

pub work_above : WorkAsksAbove
work_above Idle k q down at b area is c mine locks = absurd (cc is)
work_above (Lookup m) k q down at b area is c mine locks = absurd (read_asks b area m.stage m.walk is)
work_above (Write m) k q down at b area is c mine locks = write_above b area at c mine m m.stage k.ready q is locks
work_above (Entry m) k q down at b area is c mine locks = entry_above b area at c mine m m.stage k.ready q down is locks
work_above (Rename m) k q down at b area is c mine locks = rename_above b area at c mine m m.stage k.sound q is locks
