-- Each line, and each event, keeps the sources of all healers as the rule picked them.
use Rattle.std.proofs.Common.{◌≡◌, ◌≢◌, ◌∙◌, ◌⊎◌, ℕ, zero, suc, ◌+◌, ◌-◌, ◌≤◌, ◌==◌, Bool, true, false, List, [], ◌∷◌, Option, None, Some, refl, sym, ap, subst, arith, length, slice_get, slice_set, inl, inr}
use Rattle.std.proofs.lemmas.Bool.Decides.{eqb_tells, nat_tests}
use Rattle.afr_base.specs.declared.ids.ActorId.{ActorId}
use Rattle.afr_base.specs.declared.ids.BrickId.{BrickId}
use Rattle.afr_base.specs.declared.ids.Gfid.{Gfid}
use Rattle.afr_base.specs.declared.ids.Kind.{Kind}
use Rattle.afr_base.specs.declared.ids.Shape.{Shape}
use Rattle.afr_heal_round.specs.Rounding.{Rounding, made_ready, ready_at}
use Rattle.afr_heal_round.specs.declared.stage.RoundStage.{RoundStage}
use Rattle.afr_heal_round.specs.declared.stage.RoundStage.TheVariants.{Asking, Healing, Over}
use Rattle.afr_lines.specs.Work.{Work, is_of, work}
use Rattle.afr_lines.specs.declared.line.Event.{Event as Happening}
use Rattle.afr_lines.specs.declared.line.Line.{Line}
use Rattle.afr_lines.specs.declared.line.Line.TheVariants.{Event, HealEnd}
use Rattle.afr_model.specs.Chosen.{Picks, SourcePicked}
use Rattle.afr_model.specs.Healing.{heal_by}
use Rattle.afr_model.specs.Rounds.{heal_due}
use Rattle.afr_plan.specs.declared.plan.Plan.{Plan}
use Rattle.afr_healer.specs.Acting.{Readies, round_or}
use Rattle.afr_healer.specs.declared.healer.Healer.{Healer}
use Rattle.afr_law_picks.specs.Sources.Chosen.{AreChosen, HealsFrom, RunsFrom}
use Rattle.afr_law_picks.specs.Sources.Sources.{picked_source, source_at, source_in, sources_of}

-- ---- lists
set_here : {A : Type 0} (l : List A) (i : ℕ) (x y : A) → slice_get (slice_set l i x) i ≡ Some y → x ≡ y
set_here [] zero x y e = absurd (cc e)
set_here [] (suc i) x y e = absurd (cc e)
set_here (z ∷ l) zero x y e = cc e
set_here (z ∷ l) (suc i) x y e = set_here l i x y e

set_there : {A : Type 0} (l : List A) (i j : ℕ) (x y : A) → (i ≡ j → ⊥) → slice_get (slice_set l i x) j ≡ Some y → slice_get l j ≡ Some y
set_there [] i j x y apart e = e
set_there (z ∷ l) zero zero x y apart e = absurd (apart refl)
set_there (z ∷ l) zero (suc j) x y apart e = e
set_there (z ∷ l) (suc i) zero x y apart e = e
set_there (z ∷ l) (suc i) (suc j) x y apart e = set_there l i j x y (λ same. apart (ap suc same)) e

-- ---- a line that isn't the healer's
same_work : (a : ℕ) (line : Line) (log : List Line) → is_of a line ≡ false → work a (line ∷ log) ≡ work a log
same_work a line log other = rw other refl

pub other_runs : (picks : Picks) (p : Plan) (a : ℕ) (line : Line) (log : List Line) (source : Option ℕ) → is_of a line ≡ false → RunsFrom picks p a log source → RunsFrom picks p a (line ∷ log) source
other_runs picks p a line log source other k =
    subst (λ (w : Work). (g : Gfid) (kind : Kind) → heal_due p w ≡ Some (g, kind) → HealsFrom picks p.shape kind source (heal_by w)) (sym (same_work a line log other)) k

-- a line of no healer leaves them all
pub others_keep : (picks : Picks) (p : Plan) (log : List Line) (sources : List (Option ℕ)) (line : Line) → SourcePicked picks p line log → ((c : ℕ) → 17 ≤ c → is_of c line ≡ false) → AreChosen picks p log sources → AreChosen picks p (line ∷ log) sources
others_keep picks p log sources line picked other k = record {
  past = (picked, k.past);
  present = λ i source is. other_runs picks p (17 + i) line log source (other (17 + i) (omega arith)) (k.present i source is);
}

-- a line that ends no heal needs no source
abbrev pub ends_heal : Line → Bool
ends_heal (HealEnd a g kind said) = true
ends_heal line = false

pub unended : (picks : Picks) (p : Plan) (line : Line) (log : List Line) → ends_heal line ≡ false → SourcePicked picks p line log
unended picks p (HealEnd a g kind said) log e = absurd (cc e)
unended picks p line log e = tt

-- ---- a client's turn
pub client_keeps : (picks : Picks) (p : Plan) (log : List Line) (sources : List (Option ℕ)) (a : ActorId) (line : Line) → a.0 ≤ 16 → ((c : ℕ) → is_of c line ≡ (a.0 == c)) → ends_heal line ≡ false → AreChosen picks p log sources → AreChosen picks p (line ∷ log) sources
client_keeps picks p log sources a line client own e k = others_keep picks p log sources line (unended picks p line log e) (λ c healer. own c ∙ apart c healer) k
  where
    apart : (c : ℕ) → 17 ≤ c → (a.0 == c) ≡ false
    apart c healer = grind (arith, nat_tests, client, healer)

-- ---- an event
pub event_keeps : (picks : Picks) (p : Plan) (log : List Line) (sources : List (Option ℕ)) (event : Happening) → AreChosen picks p log sources → AreChosen picks p (Event event ∷ log) sources
event_keeps picks p log sources event k = others_keep picks p log sources (Event event) tt (λ c healer. refl) k

-- ---- a healer's turn
pub healer_keeps : (picks : Picks) (p : Plan) (log : List Line) (sources : List (Option ℕ)) (a : ActorId) (source : Option ℕ) (line : Line) → 17 ≤ a.0 → ((c : ℕ) → is_of c line ≡ (a.0 == c)) → SourcePicked picks p line log
    → RunsFrom picks p a.0 (line ∷ log) source → AreChosen picks p log sources → AreChosen picks p (line ∷ log) (slice_set sources (a.0 - 17) source)
healer_keeps picks p log sources a source line healer own picked runs k = record {
  past = (picked, k.past);
  present = λ i was is. by i was is (eqb_tells (17 + i) a.0);
}
  where
    by : (i : ℕ) (was : Option ℕ) → slice_get (slice_set sources (a.0 - 17) source) i ≡ Some was → ((17 + i == a.0) ≡ true) × (17 + i ≡ a.0) ⊎ ((17 + i == a.0) ≡ false) × (17 + i ≢ a.0) → RunsFrom picks p (17 + i) (line ∷ log) was
    by i was is (inl e) =
        let same = e.1 in
        let at : a.0 - 17 ≡ i = omega (arith, same) in
        let it : source ≡ was = set_here sources (a.0 - 17) source was (subst (λ (j : ℕ). slice_get (slice_set sources (a.0 - 17) source) j ≡ Some was) (sym at) is) in
        subst (RunsFrom picks p (17 + i) (line ∷ log)) it (subst (λ (c : ℕ). RunsFrom picks p c (line ∷ log) source) (sym same) runs)
    by i was is (inr e) =
        let apart = e.1 in
        other_runs picks p (17 + i) line log was (own (17 + i) ∙ other apart) (k.present i was (set_there sources (a.0 - 17) i source was (λ at. differs apart at) is))
      where
        other : 17 + i ≢ a.0 → (a.0 == 17 + i) ≡ false
        other apart = grind (arith, nat_tests, apart)

        differs : 17 + i ≢ a.0 → a.0 - 17 ≡ i → ⊥
        differs apart at = omega (arith, apart, at, healer)

-- ---- a volume that has begun nothing
pub none_chosen : (picks : Picks) (p : Plan) (sources : List (Option ℕ)) → AreChosen picks p [] sources
none_chosen picks p sources = record { past = tt; present = λ i source is g kind due. absurd (cc due) }

-- ---- the list of the sources
pub set_source : (healers : List Healer) (i : ℕ) (y : Healer) → sources_of (slice_set healers i y) ≡ slice_set (sources_of healers) i (picked_source y)
set_source [] i y = refl
set_source (x ∷ healers) zero y = refl
set_source (x ∷ healers) (suc i) y = ap (λ (rest : List (Option ℕ)). picked_source x ∷ rest) (set_source healers i y)

-- a healer that is put in another's place with the same source changes none
pub set_same : (healers : List Healer) (i : ℕ) (x y : Healer) → slice_get healers i ≡ Some x → picked_source y ≡ picked_source x → sources_of (slice_set healers i y) ≡ sources_of healers
set_same [] zero x y is e = refl
set_same [] (suc i) x y is e = refl
set_same (z ∷ healers) zero x y is e = let here : z ≡ x = cc is in ap (λ (source : Option ℕ). source ∷ sources_of healers) (e ∙ ap picked_source (sym here))
set_same (z ∷ healers) (suc i) x y is e = ap (λ (rest : List (Option ℕ)). picked_source z ∷ rest) (set_same healers i x y is e)

-- healers that all have the same source as before
pub each_same : (old new : List Healer) → length new ≡ length old → ((i : ℕ) (x y : Healer) → slice_get old i ≡ Some x → slice_get new i ≡ Some y → picked_source y ≡ picked_source x) → sources_of new ≡ sources_of old
each_same [] [] many k = refl
each_same [] (y ∷ new) many k = absurd (cc many)
each_same (x ∷ old) [] many k = absurd (cc many)
each_same (x ∷ old) (y ∷ new) many k =
    let here = k zero x y refl refl in
    let rest = each_same old new (cc many) (λ i u v is at. k (suc i) u v is at) in
    λ i. here i ∷ rest i

-- a round that begins, and the memory of a coming move, leave the source
ready_in : (stage : RoundStage) → source_in (ready_at stage) ≡ source_in stage
ready_in (Asking heals) = refl
ready_in (Healing h) = refl
ready_in (Over refused) = refl

pub ready_same : (shape : Shape) (heals : Bool) (b : BrickId) (x z : Healer) → Readies shape heals b x z → picked_source z ≡ picked_source x
ready_same shape heals b x z k = ap picked_source k ∙ by x.round
  where
    by : (round : Option Rounding) → source_at (Some (made_ready (round_or shape heals b round))) ≡ source_at round
    by None = refl
    by (Some m) = ready_in m.stage
