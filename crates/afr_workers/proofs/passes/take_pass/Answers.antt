-- A pass that added no line has found every actor done.
use Rattle.std.proofs.Common.{◌≡◌, ◌+◌, Ok, ap, arith, true}
use Rattle.std.proofs.lemmas.Grind.{common_steps}
use Rattle.afr_workers.proofs.PassLemmas.{all_done, done_stays, leads_then, still_then, takes_none_stays}
use Rattle.afr_workers.proofs.passes.take_pass.Goals as goal

pub returns-in_err-take_healers-clause-leads : goal.returns-in_err-take_healers-clause-leads
returns-in_err-take_healers-clause-leads g c = leads_then c.args.volume.now c.take_clients.new.volume c.take_healers.new.volume c.take_clients.ensures.leads c.take_healers.ensures.leads

pub returns-then-not-branch-2-clause-leads : goal.returns-then-not-branch-2-clause-leads
returns-then-not-branch-2-clause-leads g c = leads_then c.args.volume.now c.take_clients.new.volume c.take_healers.new.volume c.take_clients.ensures.leads c.take_healers.ensures.leads

pub come-requires : goal.come-requires
come-requires g c = c.take_healers.ensures.crew.placed

pub returns-in_err-come-clause-crew : goal.returns-in_err-come-clause-crew
returns-in_err-come-clause-crew g c = c.come.ensures.crew c.take_healers.ensures.crew

pub returns-clause-crew : goal.returns-clause-crew
returns-clause-crew g c = c.come.ensures.crew c.take_healers.ensures.crew

pub returns-in_err-come-clause-leads : goal.returns-in_err-come-clause-leads
returns-in_err-come-clause-leads g c = leads_then c.args.volume.now c.take_clients.new.volume c.come.new.volume c.take_clients.ensures.leads (leads_then c.take_clients.new.volume c.take_healers.new.volume c.come.new.volume c.take_healers.ensures.leads c.come.ensures.leads)

pub returns-clause-leads : goal.returns-clause-leads
returns-clause-leads g c = leads_then c.args.volume.now c.take_clients.new.volume c.come.new.volume c.take_clients.ensures.leads (leads_then c.take_clients.new.volume c.take_healers.new.volume c.come.new.volume c.take_healers.ensures.leads c.come.ensures.leads)

pub returns-clause-rest : goal.returns-clause-rest
returns-clause-rest g c = λ on few.
    let first : c.in_ok-take_clients.field-0 ≡ true = grind (arith, common_steps) in
    let second : c.in_ok-take_healers.field-0 ≡ true = grind (arith, common_steps) in
    let a = c.take_clients.ensures.leads.grows in
    let b = c.take_healers.ensures.leads.grows in
    let d = c.come.ensures.leads.grows in
    let last = c.come.ensures.still (omega (arith, few, a, b)) in
    let middle = c.in_ok-take_healers.ensures.still (ap Ok second) (omega (arith, few, a, d)) in
    let both = still_then c.take_clients.new.volume c.take_healers.new.volume c.come.new.volume c.take_clients.new.crew c.take_healers.new.crew c.come.new.crew middle last in
    let plan : c.come.new.volume.plan ≡ c.take_clients.new.volume.plan = (leads_then c.take_clients.new.volume c.take_healers.new.volume c.come.new.volume c.take_healers.ensures.leads c.come.ensures.leads).plan in
    record {
      events = c.in_ok-come.ensures.events;
      done = all_done c.come.new.volume c.come.ensures.placed.can
          (λ k small. done_stays (1 + k) c.take_clients.new.volume c.come.new.volume c.take_clients.new.crew c.come.new.crew both (c.in_ok-take_clients.ensures.done (ap Ok first) (omega (arith, few, b, d)) k (rw plan at small)))
          (λ k small. done_stays (17 + k) c.take_healers.new.volume c.come.new.volume c.take_healers.new.crew c.come.new.crew last (c.in_ok-take_healers.ensures.done (ap Ok second) (omega (arith, few, a, d)) k small));
      second = takes_none_stays 18 c.take_healers.new.volume c.come.new.volume c.take_healers.new.crew c.come.new.crew last (c.in_ok-take_healers.ensures.none (ap Ok second) (omega (arith, few, a, d)));
    }
