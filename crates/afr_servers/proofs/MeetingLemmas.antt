-- An actor that has met some bricks meets one more.
use Rattle.std.proofs.Common.{◌≡◌, ℕ, ◌+◌, ◌<◌, ◌≤◌, true, List, length, refl, sym, ap, subst, ◌∙◌, arith, Option, Some, None, slice_get, set, length-set, get_or-set_same, get_or-set_other, ◌⊎◌, inl, inr}
use Rattle.std.proofs.lemmas.Bool.Decides.{eqb_tells}
use Rattle.std.proofs.lemmas.Option.{slice_get_within}
use Rattle.afr_base.specs.declared.ids.ActorId.{ActorId}
use Rattle.afr_faults.specs.Planned.{next_fault}
use Rattle.afr_lines.specs.declared.request.Request.{Request}
use Rattle.afr_object.specs.declared.change.Load.{Load}
use Rattle.afr_server.specs.declared.server.Served.{Served}
use Rattle.afr_server.specs.Outcome.{Serves}
use Rattle.afr_server.specs.Serving.{Serving, epoch_of, is_met}
use Rattle.afr_servers.proofs.PlaceLemmas.{got_other, got_same, one_there}
use Rattle.afr_servers.specs.Calls.{AsksFirst, IsMet, MeetsBetween}
use Rattle.afr_servers.specs.Found.{epoch_at}
use Rattle.afr_servers.specs.declared.epochs.Epochs.{Epochs}

pub met_more : (a : ActorId) (from n m : ℕ) (old now new : List Serving) (before mid after : Epochs) (s s' : Serving) (epoch : Option ℕ)
    → m ≡ n + 1 → from ≤ n → n < length now → n < length mid.of → slice_get now n ≡ Some s → new ≡ set now n s' → after.of ≡ set mid.of n epoch → IsMet a s s' → epoch ≡ epoch_of a s
    → MeetsBetween a from n old now before mid → MeetsBetween a from m old new before after
met_more a from n m old now new before mid after s s' epoch next start low five there is gives e found so = record { count = rw (is, length-set now n s') so.count; meets = meets; epochs = epochs; others = others; kept = kept }
  where
    here : slice_get new n ≡ Some s'
    here = rw is (got_same now n s' low)

    passed : (y : ℕ) → (y ≡ n → ⊥) → slice_get new y ≡ slice_get now y
    passed y other = rw is (got_other now n y s' other)

    found_here : epoch_at n after ≡ epoch
    found_here = rw gives (get_or-set_same mid.of n epoch None five)

    found_passed : (y : ℕ) → (y ≡ n → ⊥) → epoch_at y after ≡ epoch_at y mid
    found_passed y other = rw gives (get_or-set_other mid.of n y epoch None other)

    was : (y : ℕ) (x : Serving) → y ≡ n → slice_get old y ≡ Some x → s ≡ x
    was y x k h = one_there now n y s x k there (so.others y (inr (omega (arith, k))) ∙ h)

    meets : (y : ℕ) (x x' : Serving) → from ≤ y → y < m → slice_get old y ≡ Some x → slice_get new y ≡ Some x' → IsMet a x x'
    meets y x x' start' below h h' =
        elim (eqb_tells y n) [
          | inl k ↦
              let same = was y x k.1 h in
              let same' : s' ≡ x' = one_there new n y s' x' k.1 here h' in
              subst (λ (z : Serving). IsMet a z x') same (subst (λ (z : Serving). IsMet a s z) same' e)
          | inr k ↦ so.meets y x x' start' (omega (arith, below, next, k.1)) h (sym (passed y k.1) ∙ h')
        ]

    epochs : (y : ℕ) (x : Serving) → from ≤ y → y < m → slice_get old y ≡ Some x → epoch_at y after ≡ epoch_of a x
    epochs y x start' below h =
        elim (eqb_tells y n) [
          | inl k ↦ ap (λ (z : ℕ). epoch_at z after) k.1 ∙ found_here ∙ found ∙ ap (λ (z : Serving). epoch_of a z) (was y x k.1 h)
          | inr k ↦ found_passed y k.1 ∙ so.epochs y x start' (omega (arith, below, next, k.1)) h
        ]

    out : (y : ℕ) → (y < from) ⊎ (m ≤ y) → (y ≡ n → ⊥) × ((y < from) ⊎ (n ≤ y))
    out y (inl less) = ((λ k. omega (arith, k, less, start)), inl less)
    out y (inr more) = ((λ k. omega (arith, k, more, next)), inr (omega (arith, more, next)))

    others : (y : ℕ) → (y < from) ⊎ (m ≤ y) → slice_get new y ≡ slice_get old y
    others y o = let p = out y o in passed y p.0 ∙ so.others y p.1

    kept : (y : ℕ) → (y < from) ⊎ (m ≤ y) → epoch_at y after ≡ epoch_at y before
    kept y o = let p = out y o in found_passed y p.0 ∙ so.kept y p.1

-- one brick serves the first line of a work; then the bricks before it are met, and those after it
pub met_others : (a : ActorId) (b n : ℕ) (request : Request) (load : Load) (old asked between new : List Serving) (none first half last : Epochs) (s s' : Serving) (epoch : Option ℕ) (given : Served)
    → b < length old → b < length none.of → slice_get old b ≡ Some s → asked ≡ set old b s' → first.of ≡ set none.of b epoch → epoch ≡ epoch_of a s
    → Serves true (is_met a s) (next_fault s.faults) a request load s s' given
    → MeetsBetween a 0 b asked between first half → n ≡ length old → MeetsBetween a (b + 1) n between new half last
    → AsksFirst a b request load old new last given
met_others a b n request load old asked between new none first half last s s' epoch given low five there is gives found serves one whole two =
    record { count = two.count ∙ one.count ∙ rw (is, length-set old b s') refl; there = low; serves = served; meets = meets; found = founds }
  where
    here : slice_get new b ≡ Some s'
    here = two.others b (inl (omega arith)) ∙ one.others b (inr (omega arith)) ∙ rw is (got_same old b s' low)

    found_here : epoch_at b last ≡ epoch
    found_here = two.kept b (inl (omega arith)) ∙ one.kept b (inr (omega arith)) ∙ rw gives (get_or-set_same none.of b epoch None five)

    served : (x x' : Serving) → slice_get old b ≡ Some x → slice_get new b ≡ Some x' → Serves true (is_met a x) (next_fault x.faults) a request load x x' given
    served x x' h h' =
        let same = one_there old b b s x refl there h in
        let same' = one_there new b b s' x' refl here h' in
        subst (λ (z : Serving). Serves true (is_met a z) (next_fault z.faults) a request load z x' given) same (subst (λ (z : Serving). Serves true (is_met a s) (next_fault s.faults) a request load s z given) same' serves)

    passed : (y : ℕ) → (y ≡ b → ⊥) → slice_get asked y ≡ slice_get old y
    passed y other = rw is (got_other old b y s' other)

    inside : (y : ℕ) (x : Serving) → slice_get old y ≡ Some x → y < n
    inside y x h = omega (arith, whole, slice_get_within old y x h)

    sides : (y : ℕ) → (y ≡ b → ⊥) → (y < b) ⊎ (b + 1 ≤ y)
    sides y other = grind (arith, other)

    meets : (y : ℕ) (x x' : Serving) → (y ≡ b → ⊥) → slice_get old y ≡ Some x → slice_get new y ≡ Some x' → IsMet a x x'
    meets y x x' other h h' =
        elim (sides y other) [
          | inl less ↦ one.meets y x x' (omega arith) less (passed y other ∙ h) (sym (two.others y (inl (omega (arith, less)))) ∙ h')
          | inr more ↦ two.meets y x x' more (inside y x h) (one.others y (inr (omega (arith, more))) ∙ passed y other ∙ h) h'
        ]

    founds : (y : ℕ) (x : Serving) → slice_get old y ≡ Some x → epoch_at y last ≡ epoch_of a x
    founds y x h =
        elim (eqb_tells y b) [
          | inl k ↦
              let same = one_there old b y s x k.1 there h in
              ap (λ (z : ℕ). epoch_at z last) k.1 ∙ found_here ∙ found ∙ ap (λ (z : Serving). epoch_of a z) same
          | inr k ↦ elim (sides y k.1) [
            | inl less ↦ two.kept y (inl (omega (arith, less))) ∙ one.epochs y x (omega arith) less (passed y k.1 ∙ h)
            | inr more ↦ two.epochs y x more (inside y x h) (one.others y (inr (omega (arith, more))) ∙ passed y k.1 ∙ h)
          ]
        ]
