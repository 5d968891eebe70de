-- A worker goes on with its task, or takes one, or rests.
use Rattle.afr_workers.proofs.PassLemmas.{worker_actor}
use Rattle.afr_workers.proofs.WorkshopLemmas.{is_worker, kept_then}
use Rattle.afr_workers.proofs.taking.works.Goals as goal

pub can_go_on-requires : goal.can_go_on-requires
can_go_on-requires g c = worker_actor c.args.x.now.volume.plan c.args.a.0 c.requires.shop.placed.can (is_worker c.args.worker c.args.a.0 c.requires.worker)

pub turns-requires-clause-actor : goal.turns-requires-clause-actor
turns-requires-clause-actor g c = worker_actor c.args.x.now.volume.plan c.args.a.0 c.requires.shop.placed.can (is_worker c.args.worker c.args.a.0 c.requires.worker)

pub take-took-requires-clause-idle : goal.take-took-requires-clause-idle
take-took-requires-clause-idle g c = c.can_go_on.ensures c.if-can_go_on.false

pub note_found-requires : goal.note_found-requires
note_found-requires g c = c.take-took.ensures.kept.shop

pub turns-requires-then-eq-clause-actor : goal.turns-requires-then-eq-clause-actor
turns-requires-then-eq-clause-actor g c = worker_actor c.note_found.new.x.volume.plan c.args.a.0 c.note_found.ensures.kept.shop.placed.can (is_worker c.args.worker c.args.a.0 c.requires.worker)

pub turns-requires-then-eq-clause-none : goal.turns-requires-then-eq-clause-none
turns-requires-then-eq-clause-none g c = rw c.note_found.ensures.volume (c.take-took.ensures.due c.requires.none)

pub turns-requires-then-eq-clause-shop : goal.turns-requires-then-eq-clause-shop
turns-requires-then-eq-clause-shop g c = c.note_found.ensures.kept.shop

pub returns-then-eq : goal.returns-then-eq
returns-then-eq g c =
    kept_then c.args.x.now c.take-took.new.x c.turns-then-eq.new.x c.take-took.ensures.kept (kept_then c.take-took.new.x c.note_found.new.x c.turns-then-eq.new.x c.note_found.ensures.kept c.turns-then-eq.ensures)

pub returns : goal.returns
returns g c = kept_then c.args.x.now c.take-took.new.x c.note_found.new.x c.take-took.ensures.kept c.note_found.ensures.kept
