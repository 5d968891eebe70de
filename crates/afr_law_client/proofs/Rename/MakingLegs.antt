-- The looks before a name: as they are since the name before it, over the lines of a transaction under its locks.
use Rattle.std.proofs.Common.{◌≡◌, ℕ, ◌||◌, ◌==◌, Bool, true, false, List, [], ◌∷◌, refl, subst, if◌then◌else◌}
use Rattle.afr_base.specs.Bricks.{added_if, member}
use Rattle.afr_base.specs.declared.ids.ActorId.{ActorId}
use Rattle.afr_base.specs.declared.ids.BrickId.{BrickId}
use Rattle.afr_base.specs.declared.ids.Gfid.{Gfid}
use Rattle.afr_lines.specs.Areas.{area_for, object_of_area}
use Rattle.afr_lines.specs.Work.{Work}
use Rattle.afr_lines.specs.declared.answer.Told.{Told}
use Rattle.afr_lines.specs.declared.line.Line.{Line}
use Rattle.afr_lines.specs.declared.line.Line.TheVariants.{Ask}
use Rattle.afr_lines.specs.declared.request.Area.{Area}
use Rattle.afr_lines.specs.declared.request.Request.TheVariants as request
use Rattle.afr_lines.specs.declared.lock.Domain.TheVariants.{Work as WorkDomain}
use Rattle.afr_object.specs.Tables.{object_of}
use Rattle.afr_model.specs.Showing.{among, has, locks, looking, looks_at}
use Rattle.afr_model.specs.Skipped.{IsLooked}
use Rattle.afr_client_transaction.specs.Progress.{TransactionProgress, request_at}
use Rattle.afr_client_transaction.specs.declared.stage.Stage.{Stage}
use Rattle.afr_client_transaction.specs.declared.stage.Stage.TheVariants.{Locking, Looking, Beginning, Preparing, Applying, Posting, Closing}
use Rattle.afr_law_client.proofs.Small.{same_gfid}

module _ (n : ℕ) (a : ActorId) (b : BrickId) (told : Told) (took : Bool) (log : List Line) (s : Work) (k : IsLooked n s) where
  -- a lock makes the looks at its object void
  leg_lock : (area : Area) → IsLooked n ((Ask a b (request.Lock WorkDomain area) told took, log) ∷ s)
  leg_lock area g seen unlocked c l = go ((object_of_area area).0 == g.0) unlocked
    where
      go : (same : Bool) → (same || has (locks g) s) ≡ false → member (if same then [] else among (looking g) s) c ≡ true
      go true e = absurd (cc e)
      go false e = k g seen e c l

  -- a look at an object that was locked since
  leg_look : (h : Gfid) → has (locks h) s ≡ true → IsLooked n ((Ask a b (request.Look h) told took, log) ∷ s)
  leg_look h locked g seen unlocked c l = go (h.0 == g.0) refl seen
    where
      go : (same : Bool) → (h.0 == g.0) ≡ same → (same || has (looks_at g) s) ≡ true → member (if same then added_if true b.0 (among (looking g) s) else among (looking g) s) c ≡ true
      go true e m = let f = subst (λ (x : Gfid). has (locks x) s ≡ true) (same_gfid h g e) locked in absurd (cc (f, unlocked))
      go false e m = k g m unlocked c l

-- a line of a transaction, whose looks are under its locks
pub leg_more : (n : ℕ) (stage : Stage) (t : TransactionProgress) (a : ActorId) (b : BrickId) (told : Told) (took : Bool) (log : List Line) (s : Work) → IsLooked n s → ((stage ≡ Looking) → has (locks (object_of t.change)) s ≡ true) → (stage ≡ Beginning → ⊥)
    → IsLooked n ((Ask a b (request_at stage t) told took, log) ∷ s)
leg_more n Locking t a b told took log s k under never = leg_lock n a b told took log s k (area_for t.change)
leg_more n Looking t a b told took log s k under never = leg_look n a b told took log s k (object_of t.change) (under refl)
leg_more n Beginning t a b told took log s k under never = absurd (never refl)
leg_more n Preparing t a b told took log s k under never = λ g seen unlocked c l. k g seen unlocked c l
leg_more n Applying t a b told took log s k under never = λ g seen unlocked c l. k g seen unlocked c l
leg_more n Posting t a b told took log s k under never = λ g seen unlocked c l. k g seen unlocked c l
leg_more n Closing t a b told took log s k under never = λ g seen unlocked c l. k g seen unlocked c l
