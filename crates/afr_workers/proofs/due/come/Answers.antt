-- Each event that comes is noted.
use Rattle.std.proofs.Common.{◌∙◌, ap, arith, refl, subst, sym}
use Rattle.afr_volume.specs.Going.{IsHappening, Later, Still}
use Rattle.afr_volume.specs.State.{State}
use Rattle.afr_workers.specs.Crew.{IsCrew, IsPlaced, Leads}
use Rattle.afr_workers.specs.declared.crew.Crew.{Crew}
use Rattle.afr_workers.proofs.CrewLemmas.{event_kept, event_placed}
use Rattle.afr_workers.proofs.PassLemmas.{event_grows, event_leads, leads_nowhere, leads_then, noted_is, still_here}
use Rattle.afr_workers.proofs.due.come.Goals as goal

pub loop-event-init : goal.loop-event-init
loop-event-init c = record {
  placed = c.requires;
  crew = λ k. k;
  happens = Still;
  round = refl;
  at = refl;
  leads = leads_nowhere c.args.volume.now;
  still = λ few. still_here c.args.volume.now c.args.crew.now;
}

pub loop-event-preserved : goal.loop-event-preserved
loop-event-preserved c =
    let noted = noted_is c.loop-event.volume c.event.new.self c.in-Some.event c.loop-event.crew c.note.new.self (sym c.due.ensures.value ∙ c.in-Some.is) c.in_ok-event.ensures.ok c.note.ensures in
    record {
      placed = subst (λ (x : Crew). IsPlaced x c.event.new.self) noted (event_placed c.loop-event.volume c.event.new.self c.in_ok-event.ensures.ok c.loop-event.crew c.loop-event.invariant.placed);
      crew = λ k. subst (λ (x : Crew). IsCrew x c.event.new.self) noted (event_kept c.loop-event.volume c.event.new.self c.in_ok-event.ensures.ok c.loop-event.crew (c.loop-event.invariant.crew k));
      happens = Later c.loop-event.volume c.event.new.self c.loop-event.invariant.happens c.in_ok-event.ensures.ok;
      round = ap (λ (x : Crew). x.round) (sym noted) ∙ c.loop-event.invariant.round;
      at = ap (λ (x : Crew). x.at) (sym noted) ∙ c.loop-event.invariant.at;
      leads = leads_then c.args.volume.now c.loop-event.volume c.event.new.self c.loop-event.invariant.leads (event_leads c.loop-event.volume c.event.new.self c.in_ok-event.ensures.ok);
      still = λ few. absurd (omega (arith, few, event_grows c.loop-event.volume c.event.new.self c.in_ok-event.ensures.ok, c.loop-event.invariant.leads.grows));
    }

pub returns-in_err-event-clause-placed : goal.returns-in_err-event-clause-placed
returns-in_err-event-clause-placed c = subst (IsPlaced c.loop-event.crew) (sym c.in_err-event.ensures.err) c.loop-event.invariant.placed

pub returns-in_err-event-clause-crew : goal.returns-in_err-event-clause-crew
returns-in_err-event-clause-crew c = λ k. subst (IsCrew c.loop-event.crew) (sym c.in_err-event.ensures.err) (c.loop-event.invariant.crew k)

pub returns-in_err-event-clause-happens : goal.returns-in_err-event-clause-happens
returns-in_err-event-clause-happens c = subst (IsHappening c.args.volume.now) (sym c.in_err-event.ensures.err) c.loop-event.invariant.happens

pub returns-in_err-event-clause-leads : goal.returns-in_err-event-clause-leads
returns-in_err-event-clause-leads c = subst (λ (s : State). Leads c.args.volume.now s) (sym c.in_err-event.ensures.err) c.loop-event.invariant.leads
