-- The register of a transaction notes each request and what was told, and its change stays the same.
use Rattle.std.proofs.Common.{◌≡◌, ℕ, Bool, true, false, refl, ◌∙◌, ap, if◌then◌else◌}
use Rattle.afr_base.specs.Bricks.{lowest, is_nothing}
use Rattle.afr_base.specs.declared.ids.BrickId.{BrickId}
use Rattle.afr_object.specs.declared.change.Change.{Change}
use Rattle.afr_lines.specs.declared.answer.Told.{Told}
use Rattle.afr_lines.specs.declared.line.Next.{Next}
use Rattle.afr_lines.specs.declared.line.Next.TheVariants as next
use Rattle.afr_lines.specs.declared.request.Request.{Request}
use Rattle.afr_discipline.specs.Notes.{noted_ask}
use Rattle.afr_discipline.specs.declared.register.Register.{Register}
use Rattle.afr_client_transaction.specs.Outcome.{reply_of}
use Rattle.afr_client_transaction.specs.Progress.{TransactionProgress, asks, fed, is_beginning, left, next_at, request_at}
use Rattle.afr_client_transaction.specs.declared.stage.Stage.{Stage}
use Rattle.afr_client_transaction.specs.declared.stage.Stage.TheVariants.{Locking, Looking, Beginning, Preparing, Applying, Posting, Closing}

-- whom a line asks, and for what
abbrev brick_in : BrickId → Next → BrickId
brick_in b (next.Ask c request) = c
brick_in b line = b

abbrev request_in : Request → Next → Request
request_in r (next.Ask c request) = request
request_in r line = r

pub noted_as : (r : Register) (at : ℕ) (b c : BrickId) (asked request : Request) (told : Told) → next.Ask b asked ≡ next.Ask c request → noted_ask r at b.0 asked told ≡ noted_ask r at c.0 request told
noted_as r at b c asked request told e =
    ap (λ (x : BrickId). noted_ask r at x.0 asked told) (ap (brick_in b) e) ∙ ap (λ (x : Request). noted_ask r at c.0 x told) (ap (request_in asked) e)

-- a transaction that asks notes what it was told
pub fed_notes : (stage : Stage) (t : TransactionProgress) (at : ℕ) (brick : BrickId) (request : Request) (told : Told) → next_at stage at t ≡ next.Ask brick request
    → (fed stage told at t).register ≡ noted_ask t.register at brick.0 request told
fed_notes Locking t at brick request told e = noted_as t.register at (record { 0 = lowest (left Locking t) }) brick (request_at Locking t) request told e
fed_notes Looking t at brick request told e = noted_as t.register at (record { 0 = lowest (left Looking t) }) brick (request_at Looking t) request told e
fed_notes Beginning t at brick request told e = absurd (cc e)
fed_notes Preparing t at brick request told e = noted_as t.register at (record { 0 = lowest (left Preparing t) }) brick (request_at Preparing t) request told e
fed_notes Applying t at brick request told e = noted_as t.register at (record { 0 = lowest (left Applying t) }) brick (request_at Applying t) request told e
fed_notes Posting t at brick request told e = noted_as t.register at (record { 0 = lowest (left Posting t) }) brick (request_at Posting t) request told e
fed_notes Closing t at brick request told e = go (is_nothing t.register.held) e
  where
    go : (none : Bool) → (if none then next.End (reply_of t.change t.register) else asks Closing t) ≡ next.Ask brick request → (fed Closing told at t).register ≡ noted_ask t.register at brick.0 request told
    go true e = absurd (cc e)
    go false e = noted_as t.register at (record { 0 = lowest (left Closing t) }) brick (request_at Closing t) request told e

-- where it asks it doesn't begin, and where its next line is a Begin it does
pub asks_elsewhere : (stage : Stage) (t : TransactionProgress) (at : ℕ) (brick : BrickId) (request : Request) → next_at stage at t ≡ next.Ask brick request → is_beginning stage ≡ false
asks_elsewhere Beginning t at brick request e = absurd (cc e)
asks_elsewhere Locking t at brick request e = refl
asks_elsewhere Looking t at brick request e = refl
asks_elsewhere Preparing t at brick request e = refl
asks_elsewhere Applying t at brick request e = refl
asks_elsewhere Posting t at brick request e = refl
asks_elsewhere Closing t at brick request e = refl

pub begins_there : (stage : Stage) (t : TransactionProgress) (at : ℕ) (change : Change) → next_at stage at t ≡ next.Begin change → is_beginning stage ≡ true
begins_there Beginning t at change e = refl
begins_there Closing t at change e = go (is_nothing t.register.held) e
  where
    go : (none : Bool) → (if none then next.End (reply_of t.change t.register) else asks Closing t) ≡ next.Begin change → false ≡ true
    go true e = absurd (cc e)
    go false e = absurd (cc e)
begins_there Locking t at change e = absurd (cc e)
begins_there Looking t at change e = absurd (cc e)
begins_there Preparing t at change e = absurd (cc e)
begins_there Applying t at change e = absurd (cc e)
begins_there Posting t at change e = absurd (cc e)

-- the change stays the same
pub fed_change : (stage : Stage) (told : Told) (at : ℕ) (t : TransactionProgress) → (fed stage told at t).change ≡ t.change
fed_change Locking told at t = refl
fed_change Looking told at t = refl
fed_change Beginning told at t = refl
fed_change Preparing told at t = refl
fed_change Applying told at t = refl
fed_change Posting told at t = refl
fed_change Closing told at t = refl
