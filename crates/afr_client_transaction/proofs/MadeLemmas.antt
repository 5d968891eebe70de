-- What a transaction has made of its change stays so until the bricks have been asked for the operation.
use Rattle.std.proofs.Common.{◌≡◌, ℕ, Bool, true, false, Option, refl, sym, ap, ◌∙◌, if◌then◌else◌}
use Rattle.afr_base.specs.declared.ids.Gfid.{Gfid}
use Rattle.afr_base.specs.declared.ids.Kind.{Kind}
use Rattle.afr_object.specs.Tables.{object_of}
use Rattle.afr_object.specs.declared.change.Change.{Change}
use Rattle.afr_lines.specs.declared.answer.Told.{Told}
use Rattle.afr_lines.specs.declared.answer.Told.TheVariants as as_told
use Rattle.afr_lines.specs.declared.request.Request.TheVariants as request
use Rattle.afr_base.specs.Bricks.{is_nothing, lowest}
use Rattle.afr_base.specs.Majority.{is_majority}
use Rattle.afr_lines.specs.Areas.{kind_for}
use Rattle.afr_discipline.specs.declared.register.Register.{Register}
use Rattle.afr_client_transaction.specs.Made.{IsMade, IsTransaction, made_by}
use Rattle.afr_client_transaction.specs.Progress.{TransactionProgress, answered, answered_by, enough, is_beginning, left, may_start, number_in, on_stage, request_at}
use Rattle.afr_client_transaction.specs.Sound.{IsAsking, Sound}
use Rattle.afr_client_transaction.specs.declared.stage.Stage.{Stage}
use Rattle.afr_client_transaction.specs.declared.stage.Stage.TheVariants.{Locking, Looking, Beginning, Preparing, Applying, Posting, Closing}
use Rattle.afr_client_transaction.proofs.Kept.{kept}
use Rattle.afr_client_transaction.proofs.Requests.{after_outside, noted_is}

-- ---- the number of an attempt stays
pre_same : (r : Register) (b : ℕ) (g : Gfid) (kind : Kind) (told : Told) → (after_outside r b (request.Pre g kind) told).begun ≡ r.begun
pre_same r b g kind as_told.NotConnected = refl
pre_same r b g kind told = refl

apply_same : (r : Register) (b q : ℕ) (told : Told) → (after_outside r b (request.Apply q) told).begun ≡ r.begun
apply_same r b q as_told.NotConnected = refl
apply_same r b q told = refl

module _ (m : TransactionProgress) (s : Sound m) (told : Told) (at : ℕ) where
  same_begun : (stage : Stage) → (after_outside m.register (lowest (left stage m)) (request_at stage m) told).begun ≡ m.register.begun → (answered_by stage (lowest (left stage m)) told at m).register.begun ≡ m.register.begun
  same_begun stage same = ap (λ (r : Register). r.begun) (noted_is m.register at (lowest (left stage m)) (request_at stage m) told s.base.outside) ∙ same

  module _ (made : Option Change) (stage : Stage) where
    abbrev x : TransactionProgress
    x = answered_by stage (lowest (left stage m)) told at m

    kept_made : x.register.begun ≡ m.register.begun → made ≡ made_by m.register.begun m.change → made ≡ made_by x.register.begun m.change
    kept_made same k = k ∙ ap (λ (number : Option ℕ). made_by number m.change) (sym same)

  answer_makes : (made : Option Change) (stage : Stage) → IsMade stage made m → IsAsking stage m → IsMade (answered stage told at m).stage made (answered stage told at m)
  answer_makes made Locking k asking = by (is_nothing (left Locking (x made Locking))) (is_majority (x made Locking).register.shape.n (x made Locking).asked.locked_on)
    where
      by : (e f : Bool) → IsMade (if e then (if f then Looking else Closing) else Locking) made (on_stage (if e then (if f then Looking else Closing) else Locking) (x made Locking))
      by true true = tt
      by true false = tt
      by false f = tt
  answer_makes made Looking k asking = by (is_nothing (left Looking (x made Looking))) (may_start (x made Looking).register m.change)
    where
      by : (e f : Bool) → IsMade (if e then (if f then Beginning else Closing) else Looking) made (on_stage (if e then (if f then Beginning else Closing) else Looking) (x made Looking))
      by true true = tt
      by true false = tt
      by false f = tt
  answer_makes made Beginning k asking = absurd asking
  answer_makes made Preparing k asking = by (is_nothing (left Preparing (x made Preparing))) (enough (x made Preparing).register (kind_for m.change) (x made Preparing).register.pre)
    where
      kept_here : made ≡ made_by (x made Preparing).register.begun m.change
      kept_here = kept_made made Preparing (same_begun Preparing (pre_same m.register (lowest (left Preparing m)) (object_of m.change) (kind_for m.change) told)) k

      by : (e f : Bool) → IsMade (if e then (if f then Applying else Closing) else Preparing) made (on_stage (if e then (if f then Applying else Closing) else Preparing) (x made Preparing))
      by true true = kept_here
      by true false = tt
      by false f = kept_here
  answer_makes made Applying k asking = by (is_nothing (left Applying (x made Applying))) (enough (x made Applying).register (kind_for m.change) (x made Applying).register.done)
    where
      kept_here : made ≡ made_by (x made Applying).register.begun m.change
      kept_here = kept_made made Applying (same_begun Applying (apply_same m.register (lowest (left Applying m)) (number_in m.register.begun) told)) k

      by : (e f : Bool) → IsMade (if e then (if f then Posting else Closing) else Applying) made (on_stage (if e then (if f then Posting else Closing) else Applying) (x made Applying))
      by true true = tt
      by true false = tt
      by false f = kept_here
  answer_makes made Posting k asking = by (is_nothing (left Posting (x made Posting)))
    where
      by : (e : Bool) → IsMade (if e then Closing else Posting) made (on_stage (if e then Closing else Posting) (x made Posting))
      by true = tt
      by false = tt
  answer_makes made Closing k asking = by (is_nothing (left Closing (x made Closing)))
    where
      by : (e : Bool) → IsMade (if e then Closing else Closing) made (on_stage (if e then Closing else Closing) (x made Closing))
      by true = tt
      by false = tt

-- whatever a brick answers, what was made stays
pub kept_answer : (made : Option Change) (m : TransactionProgress) → IsTransaction made m → (told : Told) (at : ℕ) → IsAsking m.stage m → IsTransaction made (answered m.stage told at m)
kept_answer made m k told at e = record { sound = kept m k.sound told at e; kept = answer_makes m k.sound told at made m.stage k.kept e }

-- ---- before an attempt
-- before the Begin line nothing was made
pub at_beginning : (stage : Stage) (made : Option Change) (m : TransactionProgress) → is_beginning stage ≡ true → IsMade stage made m
at_beginning Beginning made m e = tt
at_beginning stage made m e = absurd (cc e)
