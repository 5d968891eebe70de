-- A transaction notes nothing of a heal.
use Rattle.std.proofs.Common.{◌≡◌, ℕ, nat_le, Bool, true, false, List, refl, sym, ◌∙◌, ap, subst, Some, if◌then◌else◌}
use Rattle.afr_base.specs.Bricks.{below, lowest, minus, removed}
use Rattle.afr_base.specs.declared.ids.Gfid.{Gfid}
use Rattle.afr_base.specs.declared.ids.Kind.{Kind}
use Rattle.afr_object.specs.Tables.{object_of}
use Rattle.afr_lines.specs.declared.lock.Domain.TheVariants.{Work}
use Rattle.afr_lines.specs.Areas.{area_for, kind_for}
use Rattle.afr_lines.specs.declared.answer.Told.{Told}
use Rattle.afr_lines.specs.declared.answer.Told.TheVariants as as_told
use Rattle.afr_lines.specs.declared.request.Area.{Area}
use Rattle.afr_lines.specs.declared.request.Request.{Request}
use Rattle.afr_lines.specs.declared.request.Request.TheVariants as request
use Rattle.afr_model_moves.specs.Past.{is_gone}
use Rattle.afr_model_moves.specs.Register.{Untouched, rank, same_step}
use Rattle.afr_model_moves.specs.Rules.{busy, is_area}
use Rattle.afr_discipline.specs.Notes.{dropped, joined, noted_ask, noted_law, noted_outside, second_left, stopped}
use Rattle.afr_discipline.specs.Stands.{seen_as, step_of}
use Rattle.afr_discipline.specs.declared.register.Register.{Register}
use Rattle.afr_discipline.specs.declared.register.Step.{Step}
use Rattle.afr_discipline.specs.declared.register.Step.TheVariants as step
use Rattle.afr_client_transaction.specs.Between.{is_read}
use Rattle.afr_client_transaction.specs.Progress.{TransactionProgress, fed, left, number_in, request_at, request_in}
use Rattle.afr_client_transaction.specs.declared.stage.Stage.{Stage}
use Rattle.afr_client_transaction.specs.declared.stage.Stage.TheVariants.{Locking, Looking, Beginning, Preparing, Applying, Posting, Closing}
use Rattle.afr_client_transaction.proofs.Requests.{after_outside, law_w, noted_is, steps_w}
use Rattle.afr_client_transaction.specs.Again.Again.{IsPlain, PlainBegun, PlainKept, PlainRead, but_for_transaction}

-- ---- a plain register that may be ended
with_step : (q : Register) (s : Step) → nat_le (rank (step_of s)) 4 ≡ true → stopped (record (but_for_transaction q) { step = s }) ≡ but_for_transaction (stopped (record (but_for_transaction q) { step = s }))
with_step q step.Untouched e = refl
with_step q step.Open e = refl
with_step q step.Pres e = refl
with_step q step.Applies e = refl
with_step q step.Posts e = refl
with_step q step.HealLocks e = absurd (cc e)
with_step q step.WorkLocks e = absurd (cc e)
with_step q step.Looks e = absurd (cc e)
with_step q step.Reads e = absurd (cc e)
with_step q step.HealPres e = absurd (cc e)
with_step q step.Mends e = absurd (cc e)
with_step q step.Settles e = absurd (cc e)
with_step q step.Unlocks e = absurd (cc e)
with_step q step.HealUnlocks e = absurd (cc e)

-- a register that is plain but for its end
folded : (j : Register) → j ≡ but_for_transaction j → nat_le (rank (step_of j.step)) 4 ≡ true → IsPlain (stopped j)
folded j e o = record {
  only = subst (λ (x : Register). stopped x ≡ but_for_transaction (stopped x)) (sym e) (with_step j j.step o);
  outside = o;
}

-- ---- the two halves of a note, joined
abbrev halves : Register → Register → ℕ → Told → Register
halves steps law b told = joined steps (dropped (is_gone told) b law)

-- the step stays, or is the first
stays_low : (s : Step) → nat_le (rank (step_of s)) 4 ≡ true → nat_le (rank (step_of (if same_step (step_of s) Untouched then step.Open else s))) 4 ≡ true
stays_low step.Untouched e = refl
stays_low step.Open e = refl
stays_low step.Pres e = refl
stays_low step.Applies e = refl
stays_low step.Posts e = refl
stays_low s e = absurd (cc e)

module _ (q : Register) (o : nat_le (rank (step_of q.step)) 4 ≡ true) (b : ℕ) where
  abbrev r : Register
  r = but_for_transaction q

  abbrev j : Request → Told → Register
  j asked told = halves (noted_outside r b asked told) (noted_law r b asked told) b told

  lock_by : (w s : Bool) (area : Area) (told : Told) → IsPlain (stopped (halves (steps_w w r) (law_w w s r area b told) b told))
  lock_by true true area as_told.Granted = folded (halves (steps_w true r) (law_w true true r area b as_told.Granted) b as_told.Granted) refl (stays_low q.step o)
  lock_by true true area as_told.NotConnected = folded (halves (steps_w true r) (law_w true true r area b as_told.NotConnected) b as_told.NotConnected) refl (stays_low q.step o)
  lock_by true true area told = folded (halves (steps_w true r) (law_w true true r area b told) b told) refl (stays_low q.step o)
  lock_by true false area as_told.Granted = folded (halves (steps_w true r) (law_w true false r area b as_told.Granted) b as_told.Granted) refl (stays_low q.step o)
  lock_by true false area as_told.NotConnected = folded (halves (steps_w true r) (law_w true false r area b as_told.NotConnected) b as_told.NotConnected) refl (stays_low q.step o)
  lock_by true false area told = folded (halves (steps_w true r) (law_w true false r area b told) b told) refl (stays_low q.step o)
  lock_by false s area as_told.Granted = folded (halves (steps_w false r) (law_w false s r area b as_told.Granted) b as_told.Granted) refl refl
  lock_by false s area as_told.NotConnected = folded (halves (steps_w false r) (law_w false s r area b as_told.NotConnected) b as_told.NotConnected) refl refl
  lock_by false s area told = folded (halves (steps_w false r) (law_w false s r area b told) b told) refl refl

  lock_plain : (area : Area) (told : Told) → IsPlain (after_outside r b (request.Lock Work area) told)
  lock_plain area told = lock_by (busy r.shape.n (seen_as r).law) (is_area r.area area) area told

  unlock_plain : (area : Area) (told : Told) → IsPlain (after_outside r b (request.Unlock Work area) told)
  unlock_plain area as_told.Done = by (is_area r.area area)
    where
      freed : Bool → Register
      freed s = if s then record r { held = removed b r.held } else record r { second_held = second_left r area b }

      by : (s : Bool) → IsPlain (stopped (halves (noted_outside r b (request.Unlock Work area) as_told.Done) (freed s) b as_told.Done))
      by true = folded (halves (noted_outside r b (request.Unlock Work area) as_told.Done) (freed true) b as_told.Done) refl (stays_low q.step o)
      by false = folded (halves (noted_outside r b (request.Unlock Work area) as_told.Done) (freed false) b as_told.Done) refl (stays_low q.step o)
  unlock_plain area as_told.NotConnected = folded (j (request.Unlock Work area) as_told.NotConnected) refl (stays_low q.step o)
  unlock_plain area told = folded (j (request.Unlock Work area) told) refl (stays_low q.step o)

  look_plain : (g : Gfid) (told : Told) → IsPlain (after_outside r b (request.Look g) told)
  look_plain g as_told.NotConnected = folded (j (request.Look g) as_told.NotConnected) refl (stays_low q.step o)
  look_plain g told = folded (j (request.Look g) told) refl (stays_low q.step o)

  pre_plain : (g : Gfid) (kind : Kind) (told : Told) → IsPlain (after_outside r b (request.Pre g kind) told)
  pre_plain g kind as_told.NotConnected = folded (j (request.Pre g kind) as_told.NotConnected) refl refl
  pre_plain g kind told = folded (j (request.Pre g kind) told) refl refl

  apply_plain : (attempt : ℕ) (told : Told) → IsPlain (after_outside r b (request.Apply attempt) told)
  apply_plain attempt as_told.NotConnected = folded (j (request.Apply attempt) as_told.NotConnected) refl refl
  apply_plain attempt told = folded (j (request.Apply attempt) told) refl refl

  post_plain : (attempt : ℕ) (g : Gfid) (kind : Kind) (missed : List ℕ) (told : Told) → IsPlain (after_outside r b (request.Post attempt g kind missed) told)
  post_plain attempt g kind missed as_told.NotConnected = folded (j (request.Post attempt g kind missed) as_told.NotConnected) refl refl
  post_plain attempt g kind missed told = folded (j (request.Post attempt g kind missed) told) refl refl

  read_plain : (asked : Request) (told : Told) → is_read asked ≡ true → IsPlain (after_outside r b asked told)
  read_plain (request.ReadName g name) as_told.NotConnected e = folded (j (request.ReadName g name) as_told.NotConnected) refl (stays_low q.step o)
  read_plain (request.ReadName g name) told e = folded (j (request.ReadName g name) told) refl (stays_low q.step o)
  read_plain (request.ReadBytes g at len) as_told.NotConnected e = folded (j (request.ReadBytes g at len) as_told.NotConnected) refl (stays_low q.step o)
  read_plain (request.ReadBytes g at len) told e = folded (j (request.ReadBytes g at len) told) refl (stays_low q.step o)
  read_plain (request.ReadAttr g key) as_told.NotConnected e = folded (j (request.ReadAttr g key) as_told.NotConnected) refl (stays_low q.step o)
  read_plain (request.ReadAttr g key) told e = folded (j (request.ReadAttr g key) told) refl (stays_low q.step o)
  read_plain (request.List g) as_told.NotConnected e = folded (j (request.List g) as_told.NotConnected) refl (stays_low q.step o)
  read_plain (request.List g) told e = folded (j (request.List g) told) refl (stays_low q.step o)
  read_plain asked told e = absurd (cc e)

-- whatever a transaction asks
asks_plain : (stage : Stage) (m : TransactionProgress) (b : ℕ) (told : Told) → (stage ≡ Beginning → ⊥) → IsPlain m.register → IsPlain (after_outside m.register b (request_at stage m) told)
asks_plain stage m b told away k = subst (λ (r : Register). IsPlain (after_outside r b (request_of r) told)) (sym k.only) (by stage away)
  where
    request_of : Register → Request
    request_of r = request_in stage m.change r

    by : (stage : Stage) → (stage ≡ Beginning → ⊥) → IsPlain (after_outside (but_for_transaction m.register) b (request_in stage m.change (but_for_transaction m.register)) told)
    by Locking away = lock_plain m.register k.outside b (area_for m.change) told
    by Looking away = look_plain m.register k.outside b (object_of m.change) told
    by Beginning away = absurd (away refl)
    by Preparing away = pre_plain m.register k.outside b (object_of m.change) (kind_for m.change) told
    by Applying away = apply_plain m.register k.outside b (number_in m.register.begun) told
    by Posting away = post_plain m.register k.outside b (number_in m.register.begun) (object_of m.change) (kind_for m.change) (minus (below m.register.shape.n) m.register.done) told
    by Closing away = unlock_plain m.register k.outside b (area_for m.change) told

inside_not : (r : Register) → IsPlain r → r.inside ≡ false
inside_not r k = ap (λ (x : Register). x.inside) k.only

pub plain_kept : PlainKept
plain_kept m s k away told at = go m.stage refl
  where
    to : (stage : Stage) → m.stage ≡ stage → IsPlain (noted_ask m.register at (lowest (left stage m)) (request_at stage m) told)
    to stage e = subst IsPlain (sym (noted_is m.register at (lowest (left stage m)) (request_at stage m) told (inside_not m.register k))) (asks_plain stage m (lowest (left stage m)) told (λ f. away (e ∙ f)) k)

    go : (stage : Stage) → m.stage ≡ stage → IsPlain (fed stage told at m).register
    go Locking e = to Locking e
    go Looking e = to Looking e
    go Beginning e = absurd (away e)
    go Preparing e = to Preparing e
    go Applying e = to Applying e
    go Posting e = to Posting e
    go Closing e = to Closing e

pub plain_read : PlainRead
plain_read r at b asked told e k =
    subst IsPlain (sym (noted_is r at b asked told (inside_not r k))) (subst (λ (x : Register). IsPlain (after_outside x b asked told)) (sym k.only) (read_plain r k.outside b asked told e))

pub plain_begun : PlainBegun
plain_begun m k at = subst (λ (r : Register). IsPlain (record r { step = step.Open; begun = Some at })) (sym k.only) (record { only = refl; outside = refl })
