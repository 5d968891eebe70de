-- Where nothing of an attempt was told a fault, all that were asked for a phase did it.
use Rattle.std.proofs.Common.{◌≡◌, ◌&&◌, Bool, true, false, List, ◌∷◌, length, refl, sym, ◌∙◌, subst, if◌then◌else◌}
use Rattle.afr_base.specs.Bricks.{is_nothing}
use Rattle.afr_base.specs.declared.ids.ActorId.{ActorId}
use Rattle.afr_base.specs.declared.ids.BrickId.{BrickId}
use Rattle.afr_object.specs.declared.change.Change.{Change}
use Rattle.afr_lines.specs.Work.{Work}
use Rattle.afr_lines.specs.declared.answer.Told.{Told}
use Rattle.afr_lines.specs.declared.line.Line.{Line}
use Rattle.afr_lines.specs.declared.line.Line.TheVariants.{Ask, Begin}
use Rattle.afr_lines.specs.declared.line.Next.{Next}
use Rattle.afr_lines.specs.declared.line.Next.TheVariants as next
use Rattle.afr_lines.specs.declared.request.Request.{Request}
use Rattle.afr_lines.specs.declared.request.Request.TheVariants as request
use Rattle.afr_client_transaction.specs.Outcome.{reply_of}
use Rattle.afr_client_transaction.specs.Progress.{TransactionProgress, asks, next_at}
use Rattle.afr_client_transaction.specs.declared.stage.Stage.{Stage}
use Rattle.afr_client_transaction.specs.declared.stage.Stage.TheVariants.{Locking, Looking, Beginning, Preparing, Applying, Posting, Closing}
use Rattle.afr_client_transaction.proofs.Parts.{no_or}
use Rattle.afr_plan.specs.declared.plan.Plan.{Plan}
use Rattle.afr_model.specs.Showing.{begins_attempt, has, is_done, is_fault, is_faulted, tells_fault}
use Rattle.afr_law_client.specs.Fits.{FitsPhase, IsCalm, LineFitsPhase}
use Rattle.afr_law_client.specs.Laws.{CalmFirst, CalmKept, IsNextLine}
use Rattle.afr_law_client.specs.Tells.{During, Tells}

-- a phase comes after the Begin line
abbrev pub ComesBegun : Request → Work → Type 0
ComesBegun (request.Pre g kind) w = has begins_attempt w ≡ true
ComesBegun (request.Apply attempt) w = has begins_attempt w ≡ true
ComesBegun (request.Post attempt g kind missed) w = has begins_attempt w ≡ true
ComesBegun asked w = Unit {0}

-- what wasn't told a fault after the Begin line was done
did : (begun : Bool) (told : Told) → begun ≡ true → (is_done told ≡ false → is_fault told ≡ true) → (begun && is_fault told) ≡ false → is_done told ≡ true
did false told e fits none = absurd (cc e)
did true told e fits none = go (is_done told) refl
  where
    go : (x : Bool) → is_done told ≡ x → x ≡ true
    go true f = refl
    go false f = let fault = fits f in absurd (cc (fault, none))

pub calm_ask : (a : ActorId) (b : BrickId) (asked : Request) (told : Told) (took : Bool) (older : List Line) (w : Work) → ComesBegun asked w → FitsPhase asked told → IsCalm w → IsCalm ((Ask a b asked told took, older) ∷ w)
calm_ask a b (request.Pre g kind) told took older w begun fits k none =
    let parts = no_or (has begins_attempt w && is_fault told) (is_faulted w) none in
    let all = k parts.1 in
    let done = did (has begins_attempt w) told begun fits parts.0 in
    record { pre_is = rw (done, all.pre_is) refl; apply_is = all.apply_is; post_is = all.post_is }
calm_ask a b (request.Apply attempt) told took older w begun fits k none =
    let parts = no_or (has begins_attempt w && is_fault told) (is_faulted w) none in
    let all = k parts.1 in
    let done = did (has begins_attempt w) told begun fits parts.0 in
    record { pre_is = all.pre_is; apply_is = rw (done, all.apply_is) refl; post_is = all.post_is }
calm_ask a b (request.Post attempt g kind missed) told took older w begun fits k none =
    let parts = no_or (has begins_attempt w && is_fault told) (is_faulted w) none in
    let all = k parts.1 in
    let done = did (has begins_attempt w) told begun fits parts.0 in
    record { pre_is = all.pre_is; apply_is = all.apply_is; post_is = rw (done, all.post_is) refl }
calm_ask a b asked told took older w begun fits k none =
    let all = k (no_or (has begins_attempt w && tells_fault (Ask a b asked told took)) (is_faulted w) none).1 in
    record { pre_is = all.pre_is; apply_is = all.apply_is; post_is = all.post_is }

calm_begin : (a : ActorId) (c : Change) (older : List Line) (w : Work) → IsCalm ((Begin a c, older) ∷ w)
calm_begin a c older w none = record { pre_is = refl; apply_is = refl; post_is = refl }

abbrev NextBegun : Work → Next → Type 0
NextBegun w (next.Ask b asked) = ComesBegun asked w
NextBegun w line = Unit {0}

module _ (p : Plan) (w : Work) (m : TransactionProgress) (t : Tells p w m) where
  begun_end : (e : Bool) → NextBegun w (if e then next.End (reply_of m.change m.register) else asks Closing m)
  begun_end true = tt
  begun_end false = tt

  comes_begun : (stage : Stage) → During stage p.shape m w → (older : List Line) → NextBegun w (next_at stage (length older) m)
  comes_begun Locking d older = tt
  comes_begun Looking d older = tt
  comes_begun Beginning d older = tt
  comes_begun Preparing d older = d.0.attempt.began
  comes_begun Applying d older = d.0.attempt.began
  comes_begun Posting d older = d.0.attempt.began
  comes_begun Closing d older = begun_end (is_nothing m.register.held)

  calm_next : (a : ActorId) (told : Told) (line : Line) (older : List Line) (said : Next) → NextBegun w said → IsNextLine a said told line → LineFitsPhase line → IsCalm w → IsCalm ((line, older) ∷ w)
  calm_next a told line older (next.Ask b asked) begun is fits k =
      subst (λ (line : Line). IsCalm ((line, older) ∷ w)) (sym is.1) (calm_ask a b asked told is.0 older w begun (subst LineFitsPhase is.1 fits) k)
  calm_next a told line older (next.Begin change) begun is fits k = subst (λ (line : Line). IsCalm ((line, older) ∷ w)) (sym is) (calm_begin a change older w)
  calm_next a told line older other begun is fits k = absurd is

pub calm_kept : CalmKept
calm_kept p w m a told line older s t is fits k = calm_next p w m t a told line older (next_at m.stage (length older) m) (comes_begun p w m t m.stage t.during older) is fits k

pub calm_first : CalmFirst
calm_first w idle none = record { pre_is = idle.no_pre_did ∙ sym idle.no_pre; apply_is = idle.no_apply_did ∙ sym idle.no_apply; post_is = idle.no_post_did ∙ sym idle.no_post }
