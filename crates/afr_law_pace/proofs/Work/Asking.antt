-- What the next request of a transaction or of a removal counts in the log.
use Rattle.std.proofs.Common.{◌≡◌, ℕ, ◌≤◌, Bool, true, false, refl, sym, subst, arith}
use Rattle.std.specs.Prelude.{if◌then◌else◌}
use Rattle.afr_base.specs.Bricks.{is_nothing}
use Rattle.afr_base.specs.declared.ids.ActorId.{ActorId}
use Rattle.afr_base.specs.declared.ids.BrickId.{BrickId}
use Rattle.afr_law_bound.specs.Ends.Cost.{counted, is_failed_unlock, is_held_back}
use Rattle.afr_law_pace.specs.Entry.Removals.{FitsRemoval, removal_again}
use Rattle.afr_lines.specs.declared.answer.Told.TheVariants as as_told
use Rattle.afr_lines.specs.declared.answer.Told.{Told}
use Rattle.afr_lines.specs.declared.line.Line.TheVariants.{Ask}
use Rattle.afr_lines.specs.declared.line.Line.{Line}
use Rattle.afr_lines.specs.declared.line.Next.TheVariants as next
use Rattle.afr_lines.specs.declared.request.Area.{Area}
use Rattle.afr_lines.specs.declared.request.Request.TheVariants as request
use Rattle.afr_lines.specs.declared.request.Request.{Request}
use Rattle.afr_model_moves.specs.Note.{is_failed, is_held}
use Rattle.afr_law_pace.proofs.Nearer.{step_of}
use Rattle.afr_law_pace.specs.Left.{FitsAnUnlock, asks_again}
use Rattle.afr_lines.specs.declared.lock.Domain.TheVariants.{Work}
use Rattle.afr_client_entry.specs.Removals.Removal as removal
use Rattle.afr_client_entry.specs.Removals.Removal.{Removing}
use Rattle.afr_client_entry.specs.Removals.Sound as removing
use Rattle.afr_client_entry.specs.declared.removing.stage.RemovalStage.TheVariants as removes
use Rattle.afr_client_entry.specs.declared.removing.stage.RemovalStage.{RemovalStage}
use Rattle.afr_lines.specs.Areas.{area_for}
use Rattle.afr_client_transaction.specs.Outcome.{reply_of}
use Rattle.afr_client_transaction.specs.Progress.{TransactionProgress, asks, next_at}
use Rattle.afr_client_transaction.specs.Sound.{IsAsking, Ready, Sound}
use Rattle.afr_client_transaction.specs.declared.stage.Stage.TheVariants.{Applying, Beginning, Closing, Locking, Looking, Posting, Preparing}
use Rattle.afr_client_transaction.specs.declared.stage.Stage.{Stage}
use Rattle.afr_law_pace.specs.Work.Left.{FitsUnlock}

pub counts_one : (line : Line) → counted line ≤ 1
counts_one line = go (is_held_back line) (is_failed_unlock line)
  where
    go : (x y : Bool) → (if x then 0 else (if y then 0 else 1)) ≤ 1
    go true y = omega arith
    go false true = omega arith
    go false false = omega arith

module _ (x : ActorId) (b : BrickId) (told : Told) (took : Bool) where
  abbrev counts : Request → ℕ
  counts asked = counted (Ask x b asked told took)

  pub lock_counts : (area : Area) → counts (request.Lock Work area) ≤ step_of (is_held told)
  lock_counts area = go told
    where
      go : (d : Told) → counted (Ask x b (request.Lock Work area) d took) ≤ step_of (is_held d)
      go (as_told.Held owner) = omega arith
      go d = omega arith

  unlock_counts : (area : Area) → counts (request.Unlock Work area) ≤ step_of (is_failed told)
  unlock_counts area = go told
    where
      go : (d : Told) → counted (Ask x b (request.Unlock Work area) d took) ≤ step_of (is_failed d)
      go as_told.Failed = omega arith
      go d = omega arith

  -- ---- a transaction
  -- its next line is a request that may be told this, and what it counts
  pub record AskedAt (stage : Stage) (t : TransactionProgress) (asked : Request) : Type 0 where
    pub asking : IsAsking stage t
    pub fits : FitsAnUnlock stage told
    pub counts_at : counts asked ≤ step_of (asks_again stage told)

  pub by_stage : (stage : Stage) (t : TransactionProgress) (at : ℕ) (asked : Request) → Ready stage t → next_at stage at t ≡ next.Ask b asked → FitsUnlock asked told → AskedAt stage t asked
  by_stage Locking t at asked ready is fits = (let k : request.Lock Work (area_for t.change) ≡ asked = cc is in record { asking = ready; fits = tt; counts_at = subst (λ (q : Request). counts q ≤ step_of (is_held told)) k (lock_counts (area_for t.change)) })
  by_stage Looking t at asked ready is fits = record { asking = ready; fits = tt; counts_at = counts_one (Ask x b asked told took) }
  by_stage Beginning t at asked ready is fits = absurd (cc is)
  by_stage Preparing t at asked ready is fits = record { asking = ready; fits = tt; counts_at = counts_one (Ask x b asked told took) }
  by_stage Applying t at asked ready is fits = record { asking = ready; fits = tt; counts_at = counts_one (Ask x b asked told took) }
  by_stage Posting t at asked ready is fits = record { asking = ready; fits = tt; counts_at = counts_one (Ask x b asked told took) }
  by_stage Closing t at asked ready is fits = go (is_nothing t.register.held) refl is
    where
      go : (e : Bool) → is_nothing t.register.held ≡ e → (if e then next.End (reply_of t.change t.register) else asks Closing t) ≡ next.Ask b asked → AskedAt Closing t asked
      go true f k = absurd (cc k)
      go false f k = (let j : request.Unlock Work (area_for t.change) ≡ asked = cc k in record {
        asking = f;
        fits = subst (λ (q : Request). FitsUnlock q told) (sym j) fits;
        counts_at = subst (λ (q : Request). counts q ≤ step_of (is_failed told)) j (unlock_counts (area_for t.change));
      })

  pub asked_at : (t : TransactionProgress) → Sound t → (at : ℕ) (asked : Request) → next_at t.stage at t ≡ next.Ask b asked → FitsUnlock asked told → AskedAt t.stage t asked
  asked_at t sound at asked is fits = by_stage t.stage t at asked sound.ready is fits

  -- ---- a removal
  pub record RemovalAskedAt (stage : RemovalStage) (m : Removing) (asked : Request) : Type 0 where
    pub asking : removing.IsAsking stage m
    pub fits : FitsRemoval stage told
    pub counts_at : counts asked ≤ step_of (removal_again stage told)

  by_removal : (stage : RemovalStage) (m : Removing) (asked : Request) → removing.Ready stage m → removal.next_at stage m ≡ next.Ask b asked → FitsUnlock asked told → RemovalAskedAt stage m asked
  by_removal removes.Locking m asked ready is fits = (let k : request.Lock Work (removal.whole m.child) ≡ asked = cc is in record { asking = ready; fits = tt; counts_at = subst (λ (q : Request). counts q ≤ step_of (is_held told)) k (lock_counts (removal.whole m.child)) })
  by_removal removes.Looking m asked ready is fits = record { asking = ready; fits = tt; counts_at = counts_one (Ask x b asked told took) }
  by_removal removes.Listing m asked ready is fits = record { asking = tt; fits = tt; counts_at = counts_one (Ask x b asked told took) }
  by_removal removes.Beginning m asked ready is fits = absurd (cc is)
  by_removal removes.Preparing m asked ready is fits = record { asking = ready; fits = tt; counts_at = counts_one (Ask x b asked told took) }
  by_removal removes.Applying m asked ready is fits = record { asking = ready; fits = tt; counts_at = counts_one (Ask x b asked told took) }
  by_removal removes.Posting m asked ready is fits = record { asking = ready; fits = tt; counts_at = counts_one (Ask x b asked told took) }
  by_removal (removes.Closing why) m asked ready is fits = go (is_nothing (removal.left (removes.Closing why) m)) refl is
    where
      go : (e : Bool) → is_nothing (removal.left (removes.Closing why) m) ≡ e → (if e then next.End (removal.reply_of why m.register) else removal.asks (removes.Closing why) m) ≡ next.Ask b asked → RemovalAskedAt (removes.Closing why) m asked
      go true f k = absurd (cc k)
      go false f k = (let j : request.Unlock Work (removal.unlocks m.change m.register m.child) ≡ asked = cc k in record {
        asking = f;
        fits = subst (λ (q : Request). FitsUnlock q told) (sym j) fits;
        counts_at = subst (λ (q : Request). counts q ≤ step_of (is_failed told)) j (unlock_counts (removal.unlocks m.change m.register m.child));
      })

  pub removal_asked_at : (m : Removing) → removing.Sound m → (asked : Request) → removal.next_at m.stage m ≡ next.Ask b asked → FitsUnlock asked told → RemovalAskedAt m.stage m asked
  removal_asked_at m sound asked is fits = by_removal m.stage m asked sound.ready is fits
