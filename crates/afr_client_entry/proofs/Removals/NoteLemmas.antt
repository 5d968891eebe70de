-- The register of a removal notes each request and what was told, and its change stays the same.
use Rattle.std.proofs.Common.{◌≡◌, ℕ, Bool, true, false, refl, if◌then◌else◌}
use Rattle.afr_base.specs.declared.ids.BrickId.{BrickId}
use Rattle.afr_object.specs.declared.change.Change.{Change}
use Rattle.afr_lines.specs.Told.{told_by}
use Rattle.afr_lines.specs.declared.answer.Answer.{Answer}
use Rattle.afr_lines.specs.declared.line.Next.TheVariants as next
use Rattle.afr_lines.specs.declared.request.Request.{Request}
use Rattle.afr_discipline.specs.Notes.{noted_ask}
use Rattle.afr_client_transaction.proofs.NoteLemmas.{noted_as}
use Rattle.afr_client_entry.specs.Removals.Removal.{Removing, answered, asks, brick_at, is_beginning, is_over, next_at, reply_of, request_at}
use Rattle.afr_client_entry.specs.declared.removing.stage.RemovalStage.{RemovalStage}
use Rattle.afr_client_entry.specs.declared.removing.stage.RemovalStage.TheVariants.{Locking, Looking, Listing, Beginning, Preparing, Applying, Posting, Closing}

-- a removal that asks notes what it was told
pub answered_notes : (chosen : BrickId) (stage : RemovalStage) (m : Removing) (at : ℕ) (brick : BrickId) (request : Request) (a : Answer) → next_at stage m ≡ next.Ask brick request
    → (answered chosen stage a at m).register ≡ noted_ask m.register at brick.0 request (told_by a)
answered_notes chosen Beginning m at brick request a e = absurd (cc e)
answered_notes chosen Locking m at brick request a e = noted_as m.register at (record { 0 = brick_at Locking m }) brick (request_at Locking m) request (told_by a) e
answered_notes chosen Looking m at brick request a e = noted_as m.register at (record { 0 = brick_at Looking m }) brick (request_at Looking m) request (told_by a) e
answered_notes chosen Listing m at brick request a e = noted_as m.register at (record { 0 = brick_at Listing m }) brick (request_at Listing m) request (told_by a) e
answered_notes chosen Preparing m at brick request a e = noted_as m.register at (record { 0 = brick_at Preparing m }) brick (request_at Preparing m) request (told_by a) e
answered_notes chosen Applying m at brick request a e = noted_as m.register at (record { 0 = brick_at Applying m }) brick (request_at Applying m) request (told_by a) e
answered_notes chosen Posting m at brick request a e = noted_as m.register at (record { 0 = brick_at Posting m }) brick (request_at Posting m) request (told_by a) e
answered_notes chosen (Closing why) m at brick request a e = go (is_over (Closing why) m) e
  where
    go : (over : Bool) → (if over then next.End (reply_of why m.register) else asks (Closing why) m) ≡ next.Ask brick request
        → (answered chosen (Closing why) a at m).register ≡ noted_ask m.register at brick.0 request (told_by a)
    go true e = absurd (cc e)
    go false e = noted_as m.register at (record { 0 = brick_at (Closing why) m }) brick (request_at (Closing why) m) request (told_by a) e

-- where it asks it doesn't begin, and where its next line is a Begin it does
pub asks_elsewhere : (stage : RemovalStage) (m : Removing) (brick : BrickId) (request : Request) → next_at stage m ≡ next.Ask brick request → is_beginning stage ≡ false
asks_elsewhere Beginning m brick request e = absurd (cc e)
asks_elsewhere Locking m brick request e = refl
asks_elsewhere Looking m brick request e = refl
asks_elsewhere Listing m brick request e = refl
asks_elsewhere Preparing m brick request e = refl
asks_elsewhere Applying m brick request e = refl
asks_elsewhere Posting m brick request e = refl
asks_elsewhere (Closing why) m brick request e = refl

pub begins_there : (stage : RemovalStage) (m : Removing) (change : Change) → next_at stage m ≡ next.Begin change → is_beginning stage ≡ true
begins_there Beginning m change e = refl
begins_there (Closing why) m change e = go (is_over (Closing why) m) e
  where
    go : (over : Bool) → (if over then next.End (reply_of why m.register) else asks (Closing why) m) ≡ next.Begin change → false ≡ true
    go true e = absurd (cc e)
    go false e = absurd (cc e)
begins_there Locking m change e = absurd (cc e)
begins_there Looking m change e = absurd (cc e)
begins_there Listing m change e = absurd (cc e)
begins_there Preparing m change e = absurd (cc e)
begins_there Applying m change e = absurd (cc e)
begins_there Posting m change e = absurd (cc e)
