-- An event keeps the pace of all actors, and before the first line all keep it.
use Rattle.std.proofs.Common.{◌≡◌, ℕ, ◌+◌, List, [], ◌∷◌, refl, sym, ap, arith, subst, length, Some, slice_get, get_or}
use Rattle.std.proofs.lemmas.Option.{slice_get-get_or, slice_get_within}
use Rattle.afr_lines.specs.declared.line.Event.{Event}
use Rattle.afr_lines.specs.declared.line.Line.{Line}
use Rattle.afr_lines.specs.declared.line.Line.TheVariants as line_of
use Rattle.afr_plan.specs.declared.plan.Plan.{Plan}
use Rattle.afr_law_cost.specs.Healer.Paced.{IsPacedRound}
use Rattle.afr_healer.specs.declared.healer.Healer.{Healer}
use Rattle.afr_volume.specs.Laws.{PaceLaws}
use Rattle.afr_volume.specs.Pacing.{ArePaced, IsPaced}
use Rattle.afr_volume.specs.Starting.{AreNewActors, AreNewHealers}
use Rattle.afr_volume.specs.Turning.{KillsHealersIn, KillsIn}
use Rattle.afr_volume.specs.declared.actor.Actor.{Actor}
use Rattle.afr_volume.proofs.PaceLines.{event_within}
use Rattle.afr_volume.proofs.PaceTurns.{paced_on}

pub event_paced : (paces : PaceLaws) (p : Plan) (event : Event) (log : List Line) (actors after : List Actor) (healers healers_after : List Healer) → KillsIn event actors after → KillsHealersIn event healers healers_after → ArePaced p log actors healers → ArePaced p (line_of.Event event ∷ log) after healers_after
event_paced paces p event log actors after healers healers_after kills healers_killed k = record { clients = clients; rounds = rounds; rising = (tt, k.rising); within = (event_within p event log, k.within) }
  where
    clients : (i : ℕ) (y : Actor) → slice_get after i ≡ Some y → IsPaced p (i + 1) (line_of.Event event ∷ log) y.work
    clients i y h =
        let there = slice_get-get_or actors i y (omega (arith, slice_get_within after i y h, kills.count)) in
        let same : (get_or actors i y).work ≡ y.work = sym (ap (λ (z : Actor). z.work) (kills.each i (get_or actors i y) y there h)) in
        subst (IsPaced p (i + 1) (line_of.Event event ∷ log)) same (paced_on p (i + 1) (line_of.Event event) log (get_or actors i y).work refl refl (k.clients i (get_or actors i y) there))

    rounds : (i : ℕ) (y : Healer) → slice_get healers_after i ≡ Some y → IsPacedRound p (17 + i) (line_of.Event event ∷ log) y.round
    rounds i y h =
        let there = slice_get-get_or healers i y (omega (arith, slice_get_within healers_after i y h, healers_killed.count)) in
        subst (λ (z : Healer). IsPacedRound p (17 + i) (line_of.Event event ∷ log) z.round) (sym (healers_killed.each i (get_or healers i y) y there h)) (paces.beside p (17 + i) (line_of.Event event) log (get_or healers i y).round refl (k.rounds i (get_or healers i y) there))

pub fresh_paced : (paces : PaceLaws) (p : Plan) (actors : List Actor) (healers : List Healer) → AreNewActors (length p.clients) actors → AreNewHealers (length p.healers) healers → ArePaced p [] actors healers
fresh_paced paces p actors healers idle resting = record {
  clients = λ i x h. let none = (idle.each i x h).idle in subst (IsPaced p (i + 1) []) (sym none) (record { within = λ cost is. omega arith; queued = tt });
  rounds = λ i x h. paces.first p (17 + i) x (resting.each i x h);
  rising = tt;
  within = tt;
}
