-- The actors are those of the plan, and nothing was put before the first turn of a thread.
use Rattle.std.proofs.Common.{◌≡◌, ◌∙◌, ap, length, subst, sym}
use Rattle.afr_volume.specs.State.{State}
use Rattle.afr_workers.specs.Workshop.{AreActors}
use Rattle.afr_workers.proofs.BeginningLemmas.{are_actors}
use Rattle.afr_workers.proofs.threads.by_threads.Goals as goal

pub returns-in_default-clause-crawls : goal.returns-in_default-clause-crawls
returns-in_default-clause-crawls g c = c.requires.begun.placed.crawls

pub in_threads-requires-clause-name : goal.in_threads-requires-clause-name
in_threads-requires-clause-name g c = λ ks live. ap (λ (s : State). s.plan) c.in-Ok-opened.ensures.ok.1 ∙ c.requires.name

pub in_threads-requires-clause-shop : goal.in_threads-requires-clause-shop
in_threads-requires-clause-shop g c = λ ks live. c.in-Ok-opened.ensures.ok.0

pub in_threads-requires-clause-actors : goal.in_threads-requires-clause-actors
in_threads-requires-clause-actors g c = λ ks live.
    let count : c.len-clients.result ≡ length c.args.volume.plan.clients = rw c.plan.ensures at c.len-clients.ensures in
    are_actors c.args.volume.plan g.J.Named.plan c.len-clients.result c.as_slice.result.now c.requires.name c.requires.begun.placed.can count (subst (AreActors c.len-clients.result) (sym c.as_slice.ensures.value) c.in-Ok.ensures)

pub returns-in-Ok-opened-clause-plan : goal.returns-in-Ok-opened-clause-plan
returns-in-Ok-opened-clause-plan g c = c.in_threads.ensures.plan ∙ ap (λ (s : State). s.plan) c.in-Ok-opened.ensures.ok.1

pub returns-clause-plan : goal.returns-clause-plan
returns-clause-plan g c = ap (λ (s : State). s.plan) c.in-Err.ensures.err

pub returns-clause-crawls : goal.returns-clause-crawls
returns-clause-crawls g c = ap (λ (s : State). s.crawl) c.in-Err.ensures.err ∙ c.requires.begun.placed.crawls
