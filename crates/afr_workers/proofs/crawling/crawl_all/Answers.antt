-- The orders of the clients leave nothing given, and the passes give all.
use Rattle.std.proofs.Common.{◌≡◌, ◌∙◌, ap, subst, sym}
use Rattle.afr_workers.specs.Crew.{IsCrew}
use Rattle.afr_workers.specs.declared.crew.Crew.{Crew}
use Rattle.afr_workers.proofs.PassLemmas.{begins_at, crawled_of, crew_at, ends_if, orders_kept, tried_of}
use Rattle.afr_workers.proofs.crawling.crawl_all.Goals as goal

pub returns-in_err-has_room-clause-crawls : goal.returns-in_err-has_room-clause-crawls
returns-in_err-has_room-clause-crawls g c = c.take_client_orders.ensures.goes.crawl ∙ c.requires.crawls

pub go_on-passed-requires-clause-crew : goal.go_on-passed-requires-clause-crew
go_on-passed-requires-clause-crew g c =
    let log = c.lines.ensures in
    let crew : c.of_log-crew.result ≡ crew_at c.take_client_orders.new.volume.log = c.of_log-crew.ensures ∙ ap crew_at log in
    subst (λ (x : Crew). IsCrew x c.take_client_orders.new.volume) (sym crew)
    (orders_kept c.args.volume.now c.take_client_orders.new.volume c.take_client_orders.ensures.runs (begins_at c.args.volume.now (c.every_line.ensures.resting c.requires.fresh) c.requires.crawls c.requires.fresh (c.every_line.ensures.crawls c.requires.crawls)))

pub returns-clause-complete : goal.returns-clause-complete
returns-clause-complete g c = ends_if _ _ c.go_on-passed.result (crawled_of c.go_on-passed.new.volume c.go_on-passed.new.crew c.go_on-passed.ensures.crew c.every_line-2.ensures.room c.every_line-2.ensures.settled) c.go_on-passed.ensures.ok

pub returns-clause-tried : goal.returns-clause-tried
returns-clause-tried g c = ends_if _ _ c.go_on-passed.result (tried_of c.go_on-passed.new.volume c.go_on-passed.new.crew c.go_on-passed.ensures.crew) c.go_on-passed.ensures.ok

pub returns-clause-plan : goal.returns-clause-plan
returns-clause-plan g c = c.go_on-passed.ensures.leads.plan ∙ c.take_client_orders.ensures.goes.plan

pub returns-clause-crawls : goal.returns-clause-crawls
returns-clause-crawls g c = c.go_on-passed.ensures.crew.placed.crawls
