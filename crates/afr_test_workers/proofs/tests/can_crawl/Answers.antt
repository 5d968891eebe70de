-- No rounds stand at the second and the third healer.
use Rattle.std.proofs.Common.{◌≡◌, ◌≢◌, ◌∙◌, ◌==◌, ◌⊎◌, ℕ, true, false, List, [], ◌∷◌, Some, inl, inr, refl, sym, arith, subst, length, slice_get}
use Rattle.std.proofs.lemmas.Bool.Decides.{eqb_tells, nat_tests}
use Rattle.std.proofs.lemmas.Option.{get_or_from_slice_get}
use Rattle.afr_base.specs.declared.ids.BrickId.{BrickId}
use Rattle.afr_model.specs.Actors.{rounds_of}
use Rattle.afr_model.specs.Crawl.{CanCrawl, IsWorker}
use Rattle.afr_plan.specs.declared.plan.Plan.{Plan}
use Rattle.afr_test_workers.proofs.tests.can_crawl.Goals as goal

none_of : (rounds : List BrickId) → length rounds ≡ 0 → rounds ≡ []
none_of [] none = refl
none_of (b ∷ rounds) none = absurd (omega (arith, none))

can_of : (p : Plan) (second third : List BrickId) → length p.healers ≡ 3 → slice_get p.healers 1 ≡ Some second → slice_get p.healers 2 ≡ Some third → length second ≡ 0 → length third ≡ 0 → CanCrawl p
can_of p second third many is_second is_third none_second none_third = record { healers = many; crawls = λ a worker. by a worker (eqb_tells a 18) }
  where
    of_second : rounds_of p 18 ≡ []
    of_second = get_or_from_slice_get p.healers 1 second [] is_second ∙ none_of second none_second

    of_third : rounds_of p 19 ≡ []
    of_third = get_or_from_slice_get p.healers 2 third [] is_third ∙ none_of third none_third

    by : (a : ℕ) → IsWorker a → ((a == 18) ≡ true) × (a ≡ 18) ⊎ ((a == 18) ≡ false) × (a ≢ 18) → rounds_of p a ≡ []
    by a worker (inl e) = subst (λ (c : ℕ). rounds_of p c ≡ []) (sym e.1) of_second
    by a worker (inr e) =
        let apart = e.1 in
        let low = worker.0 in
        let high = worker.1 in
        let same : a ≡ 19 = grind (arith, nat_tests, apart, low, high) in
        subst (λ (c : ℕ). rounds_of p c ≡ []) (sym same) of_third

pub returns : goal.returns
returns c = λ on. subst CanCrawl c.plan.ensures (can_of c.plan.result.now c.item-second.result.now c.item-third.result.now (omega arith) c.item-second.ensures c.item-third.ensures (omega arith) (omega arith))
