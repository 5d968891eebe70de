-- Each client has had its turn.
use Rattle.std.proofs.Common.{◌≡◌, ◌+◌, Ok, ap, arith, length, refl, true}
use Rattle.std.proofs.lemmas.Grind.{common_steps}
use Rattle.afr_model.specs.Actors.{Client}
use Rattle.afr_workers.proofs.PassLemmas.{done_stays, leads_nowhere, leads_then, row_more, still_here, still_then}
use Rattle.afr_workers.proofs.passes.take_clients.Goals as goal

pub loop-i-init : goal.loop-i-init
loop-i-init g c = record {
  crew = c.requires.crew;
  leads = leads_nowhere c.args.volume.now;
  still = λ few. still_here c.args.volume.now c.args.crew.now;
  done = λ few k small. absurd (omega (arith, small));
}

pub take_turn-requires : goal.take_turn-requires
take_turn-requires g c =
    let clients : c.len-clients.result ≡ length c.args.volume.now.plan.clients = rw c.plan.ensures at c.len-clients.ensures in
    record {
      rule = c.requires.rule;
      read_rule = c.requires.read_rule;
      actor = rw c.loop-i.invariant.leads.plan (Client (omega arith) (omega (arith, clients, c.loop-i-test.true)));
      crew = c.loop-i.invariant.crew;
    }

pub loop-i-preserved : goal.loop-i-preserved
loop-i-preserved g c =
    let on : c.in_ok-take_turn.field-0 ≡ true = grind (arith, common_steps) in
    let low = c.loop-i.invariant.leads.grows in
    let high = c.take_turn.ensures.leads.grows in
    record {
      crew = c.take_turn.ensures.crew;
      leads = leads_then c.args.volume.now c.loop-i.volume c.take_turn.new.volume c.loop-i.invariant.leads c.take_turn.ensures.leads;
      still = λ few. still_then c.args.volume.now c.loop-i.volume c.take_turn.new.volume c.args.crew.now c.loop-i.crew c.take_turn.new.crew (c.loop-i.invariant.still (omega (arith, few, high))) (c.in_ok-take_turn.ensures.still (ap Ok on) (omega (arith, few, low)));
      done = λ few. row_more 1 c.take_turn.new.volume c.loop-i.i
          (λ k small. done_stays (1 + k) c.loop-i.volume c.take_turn.new.volume c.loop-i.crew c.take_turn.new.crew (c.in_ok-take_turn.ensures.still (ap Ok on) (omega (arith, few, low))) (c.loop-i.invariant.done (omega (arith, few, high)) k small))
          (c.in_ok-take_turn.ensures.done (ap Ok on) (omega (arith, few, low)));
    }

pub returns-in_err-take_turn-clause-leads : goal.returns-in_err-take_turn-clause-leads
returns-in_err-take_turn-clause-leads g c = leads_then c.args.volume.now c.loop-i.volume c.take_turn.new.volume c.loop-i.invariant.leads c.take_turn.ensures.leads

pub returns-then-not-branch-clause-leads : goal.returns-then-not-branch-clause-leads
returns-then-not-branch-clause-leads g c = leads_then c.args.volume.now c.loop-i.volume c.take_turn.new.volume c.loop-i.invariant.leads c.take_turn.ensures.leads

pub returns-clause-done : goal.returns-clause-done
returns-clause-done g c = λ on few k small.
    let clients : c.len-clients.result ≡ length c.args.volume.now.plan.clients = rw c.plan.ensures at c.len-clients.ensures in
    let plan = c.loop-i.invariant.leads.plan in
    let same : length c.loop-i.volume.plan.clients ≡ length c.args.volume.now.plan.clients = rw plan refl in
    c.loop-i.invariant.done few k (omega (arith, small, same, clients, c.loop-i-test.false))
