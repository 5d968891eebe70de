-- An event that has come to the bricks below a number comes to one more.
use Rattle.std.proofs.Common.{◌≡◌, ℕ, ◌+◌, ◌<◌, ◌≤◌, List, length, refl, sym, subst, ◌∙◌, arith, Some, slice_get, set, length-set, inl, inr}
use Rattle.std.proofs.lemmas.Bool.Decides.{eqb_tells}
use Rattle.std.proofs.lemmas.Option.{slice_get_within}
use Rattle.afr_lines.specs.declared.line.Event.{Event}
use Rattle.afr_server.specs.Serving.{Serving}
use Rattle.afr_servers.proofs.PlaceLemmas.{got_other, got_same, one_there}
use Rattle.afr_servers.specs.Calls.{IsEvent, MeetsEach}

-- the event has come to the bricks below n, and the others are as they were
pub record IsEventBelow (event : Event) (n : ℕ) (old new : List Serving) : Type 0 where
  pub count : length new ≡ length old
  pub each : (b : ℕ) (s s' : Serving) → b < n → slice_get old b ≡ Some s → slice_get new b ≡ Some s' → IsEvent event b s s'
  pub others : (b : ℕ) → n ≤ b → slice_get new b ≡ slice_get old b

pub event_more : (event : Event) (n m : ℕ) (old now new : List Serving) (s s' : Serving) → m ≡ n + 1 → n < length now → slice_get now n ≡ Some s → new ≡ set now n s'
    → IsEvent event n s s' → IsEventBelow event n old now → IsEventBelow event m old new
event_more event n m old now new s s' next low there is e so = record { count = rw (is, length-set now n s') so.count; each = each; others = others }
  where
    here : slice_get new n ≡ Some s'
    here = rw is (got_same now n s' low)

    passed : (b : ℕ) → (b ≡ n → ⊥) → slice_get new b ≡ slice_get now b
    passed b other = rw is (got_other now n b s' other)

    each : (b : ℕ) (x x' : Serving) → b < m → slice_get old b ≡ Some x → slice_get new b ≡ Some x' → IsEvent event b x x'
    each b x x' below h h' =
        elim (eqb_tells b n) [
          | inl k ↦
              let same : s ≡ x = one_there now n b s x k.1 there (so.others b (omega (arith, k.1)) ∙ h) in
              let same' : s' ≡ x' = one_there new n b s' x' k.1 here h' in
              subst (λ (c : ℕ). IsEvent event c x x') (sym k.1) (subst (λ (y : Serving). IsEvent event n y x') same (subst (λ (y : Serving). IsEvent event n s y) same' e))
          | inr k ↦ so.each b x x' (omega (arith, below, next, k.1)) h (sym (passed b k.1) ∙ h')
        ]

    others : (b : ℕ) → m ≤ b → slice_get new b ≡ slice_get old b
    others b below = passed b (λ k. omega (arith, k, below, next)) ∙ so.others b (omega (arith, below, next))

pub event_all : (event : Event) (n : ℕ) (old new : List Serving) → n ≡ length old → IsEventBelow event n old new → MeetsEach event old new
event_all event n old new whole so = record { count = so.count; each = λ b s s' h h'. so.each b s s' (rw whole (inside old b s h)) h h' }
  where
    inside : (xs : List Serving) (b : ℕ) (s : Serving) → slice_get xs b ≡ Some s → b < length xs
    inside xs b s h = slice_get_within xs b s h
