-- A transaction hears of the request that it has asked: what it makes of the answer is what the answer makes.
use Rattle.std.proofs.Common.{◌≡◌, Option, Some, ℕ, ◌<◌, ◌≤◌, nat_lt, true, false, sym, ap, ◌∙◌, subst, arith}
use Rattle.std.proofs.lemmas.Bool.Decides.{nat_tests}
use Rattle.afr_base.specs.Bricks.{is_nothing, lowest}
use Rattle.afr_base.specs.declared.ids.BrickId.{BrickId}
use Rattle.afr_discipline.specs.Notes.{noted_ask}
use Rattle.afr_discipline.specs.declared.register.Register.{Register}
use Rattle.afr_lines.specs.declared.answer.Told.{Told}
use Rattle.afr_lines.specs.declared.line.Next.{Next}
use Rattle.afr_lines.specs.declared.line.Next.TheVariants as next
use Rattle.afr_lines.specs.declared.request.Request.{Request}
use Rattle.afr_object.specs.declared.change.Change.{Change}
use Rattle.afr_client_transaction.specs.Made.{IsTransaction}
use Rattle.afr_client_transaction.specs.Progress.{TransactionProgress, after, allowed, answered, asked_by, left, next_at, request_at}
use Rattle.afr_client_transaction.specs.Sound.{IsAsking, Sound}
use Rattle.afr_client_transaction.specs.declared.stage.LocksAndLooks.{LocksAndLooks}
use Rattle.afr_client_transaction.specs.declared.stage.Stage.{Stage}
use Rattle.afr_client_transaction.proofs.Allowed.{allowed_next}
use Rattle.afr_client_transaction.proofs.Kept.{asked_of, fed_is, kept, same_asked, some_left}
use Rattle.afr_client_transaction.proofs.MadeLemmas.{kept_answer}
use Rattle.afr_client_transaction.proofs.Parts.{both}

below_five : (b n : ℕ) → nat_lt b n ≡ true → n ≤ 5 → b < 5
below_five b n l few = grind (arith, nat_tests, l, few)

-- what is asked of the lowest brick that is left is allowed
pub allowed_asked : (m : TransactionProgress) → Sound m → (stage : Stage) (b c : BrickId) (q : Request) → m.stage ≡ stage → b.0 ≡ lowest (left stage m) → q ≡ request_at stage m → is_nothing (left stage m) ≡ false → Some b ≡ Some c
    → allowed m.register (next.Ask c q) ≡ true
allowed_asked m s stage b c q es eb eq some ec =
    subst (λ (x : BrickId). allowed m.register (next.Ask x q) ≡ true) (ap (λ (x : ℕ). record { 0 = x }) (sym eb) ∙ brick_of b c ec)
    (subst (λ (x : Request). allowed m.register (next.Ask (record { 0 = lowest (left stage m) }) x) ≡ true) (sym eq)
    (subst (λ (line : Next). allowed m.register line ≡ true) (sym (some_left stage 0 m some)) (subst (λ (x : Stage). allowed m.register (next_at x 0 m) ≡ true) es (allowed_next m s 0))))
  where
    brick_of : (b c : BrickId) → Some b ≡ Some c → b ≡ c
    brick_of b c e = cc e

module _ (m : TransactionProgress) (at : ℕ) (b : BrickId) (q : Request) (e : next_at m.stage at m ≡ next.Ask b q) where
  -- a brick of the volume is asked
  pub heard_small : Sound m → b.0 < 5
  heard_small s = below_five b.0 m.register.shape.n (both _ _ (subst (λ (line : Next). allowed m.register line ≡ true) e (allowed_next m s at))).0 s.base.few

  pub heard_asking : Sound m → IsAsking m.stage m
  heard_asking s = (asked_of m.stage at m b q s.ready e).0

  brick_is : Sound m → b.0 ≡ lowest (left m.stage m)
  brick_is s = ap (λ (x : BrickId). x.0) (same_asked (record { 0 = lowest (left m.stage m) }) b (request_at m.stage m) q (asked_of m.stage at m b q s.ready e).1).0

  pub request_is : Sound m → q ≡ request_at m.stage m
  request_is s = (same_asked (record { 0 = lowest (left m.stage m) }) b (request_at m.stage m) q (asked_of m.stage at m b q s.ready e).1).1

  pub heard_outside : Sound m → (told : Told) (x : Register) → x ≡ noted_ask m.register at b.0 q told → x.inside ≡ false
  heard_outside s told x ex = rw (ex, request_is s, brick_is s) (kept m s told at (heard_asking s)).base.outside

  pub heard_is : Sound m → (told : Told) (x : Register) (stage : Stage) (s : LocksAndLooks) → x ≡ noted_ask m.register at b.0 q told → s ≡ asked_by m.stage b.0 told m.asked
      → stage ≡ after m.stage (record { change = m.change; register = x; stage = m.stage; asked = s }) → (record { change = m.change; register = x; stage = stage; asked = s }) ≡ answered m.stage told at m
  heard_is sound told x stage s ex es est = fed_is m told at b.0 q x stage s (brick_is sound) (request_is sound) ex es est

  pub heard_made : (made : Option Change) → IsTransaction made m → (told : Told) (x : TransactionProgress) → x ≡ answered m.stage told at m → IsTransaction made x
  heard_made made k told x ex = subst (IsTransaction made) (sym ex) (kept_answer made m k told at (heard_asking k.sound))
