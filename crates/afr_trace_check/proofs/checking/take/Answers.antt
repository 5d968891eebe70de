use Rattle.afr_trace_check.proofs.FoundLemmas.{keeps_rules, outcome_broken, outcome_taken, outcome_unsafe, was_safe}
use Rattle.afr_trace_check.proofs.checking.take.Goals as goal

pub returns-in-Some-clause-outcome : goal.returns-in-Some-clause-outcome
returns-in-Some-clause-outcome c =
    outcome_broken c.args.plan.now c.args.line c.as_slice.result.now c.args.taken.now.log.items c.broken_by-broken.result c.in-Some.rule c.as_slice.ensures.value c.in-Some.is c.broken_by-broken.ensures.some c.requires.right

pub is_safe-requires-clause-was : goal.is_safe-requires-clause-was
is_safe-requires-clause-was c =
    was_safe c.args.plan.now c.args.line c.args.taken.now.log.items c.as_slice-2.result.now c.push.new.self.items c.as_slice-3.result.now c.in_ok-objects.objects.items c.as_slice-4.result.now c.as_slice-3.ensures.value c.in_ok-push.ensures.items
    c.as_slice-2.ensures.value c.as_slice-4.ensures.value c.in_ok-objects.ensures.objects c.requires.right

pub returns-then-not-safe-clause-outcome : goal.returns-then-not-safe-clause-outcome
returns-then-not-safe-clause-outcome c =
    let keeps = keeps_rules c.args.plan.now c.args.line c.as_slice.result.now c.args.taken.now.log.items c.broken_by-broken.result c.as_slice.ensures.value c.in_default.is c.broken_by-broken.ensures.none in
    outcome_unsafe c.args.plan.now c.args.line c.args.taken.now.log.items c.push.new.self.items c.as_slice-3.result.now c.in_ok-safe.safe c.as_slice-3.ensures.value c.in_ok-push.ensures.items c.in_ok-safe.ensures c.requires.right keeps c.if-not-safe.true

pub returns-clause-outcome : goal.returns-clause-outcome
returns-clause-outcome c =
    let keeps = keeps_rules c.args.plan.now c.args.line c.as_slice.result.now c.args.taken.now.log.items c.broken_by-broken.result c.as_slice.ensures.value c.in_default.is c.broken_by-broken.ensures.none in
    outcome_taken c.args.plan.now c.args.line c.args.taken.now.log.items c.push.new.self.items c.as_slice-3.result.now c.in_ok-safe.safe c.as_slice-3.ensures.value c.in_ok-push.ensures.items c.in_ok-safe.ensures c.requires.right keeps c.if-not-safe.false
