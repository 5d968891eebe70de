-- Why a worker takes no item: it was killed, or is at a task, or none comes next.
use Rattle.std.proofs.Common.{◌≡◌, ◌∙◌, false, inl, inr, refl, sym}
use Rattle.afr_lines.specs.Work.{is_killed}
use Rattle.afr_workers.proofs.CrewLemmas.{idle_of}
use Rattle.afr_workers.proofs.KilledLemmas.{dead_is}
use Rattle.afr_workers.proofs.PassLemmas.{still_here, worker_actor}
use Rattle.afr_workers.proofs.giving.give.Goals as goal

pub returns-then-is_dead-clause-ok : goal.returns-then-is_dead-clause-ok
returns-then-is_dead-clause-ok c = inr (still_here c.args.volume.now c.args.crew.now, inl (sym (dead_is c.args.a.0 c.args.volume.now c.args.crew.now c.requires.worker c.requires.crew.placed) ∙ sym c.is_dead.ensures ∙ c.if-is_dead.true))

pub is_done-requires : goal.is_done-requires
is_done-requires c = record { actor = worker_actor c.args.volume.now.plan c.args.a.0 c.requires.crew.placed.can c.requires.worker }

pub next_item-requires : goal.next_item-requires
next_item-requires c = c.requires.crew.placed.crawls

pub returns-then-not-is_done-clause-ok : goal.returns-then-not-is_done-clause-ok
returns-then-not-is_done-clause-ok c = inl (sym c.is_done.ensures ∙ c.if-not-is_done.true)

pub returns-in-None-clause-ok : goal.returns-in-None-clause-ok
returns-in-None-clause-ok c = inr (still_here c.args.volume.now c.args.crew.now, inr (c.in-None.ensures.none refl))

pub give_item-requires-clause-alive : goal.give_item-requires-clause-alive
give_item-requires-clause-alive c = sym (dead_is c.args.a.0 c.args.volume.now c.args.crew.now c.requires.worker c.requires.crew.placed) ∙ sym c.is_dead.ensures ∙ c.if-is_dead.false

pub give_item-requires-clause-idle : goal.give_item-requires-clause-idle
give_item-requires-clause-idle c =
    let alive : is_killed c.args.a.0 c.args.volume.now.log ≡ false = sym (dead_is c.args.a.0 c.args.volume.now c.args.crew.now c.requires.worker c.requires.crew.placed) ∙ sym c.is_dead.ensures ∙ c.if-is_dead.false in
    idle_of c.args.a.0 c.args.volume.now c.args.crew.now c.requires.crew.placed c.requires.worker alive (sym c.is_done.ensures ∙ c.if-not-is_done.false)
