-- Why an item is passed over; else it is the worker's.
use Rattle.std.proofs.Common.{◌≡◌, ◌∙◌, false, true, inl, inr, refl, sym, arith}
use Rattle.afr_lines.specs.Work.{is_killed}
use Rattle.afr_volume.specs.Tasks.{is_done_in}
use Rattle.afr_workers.proofs.CrewLemmas.{idle_of}
use Rattle.afr_workers.proofs.KilledLemmas.{dead_is}
use Rattle.afr_workers.proofs.taking.give.Goals as goal

pub returns-then-is_dead-clause-gives : goal.returns-then-is_dead-clause-gives
returns-then-is_dead-clause-gives c = inr (refl, inl (sym (dead_is c.args.a.0 c.args.volume.now c.args.crew.now c.requires.worker c.requires.placed) ∙ sym c.is_dead.ensures ∙ c.if-is_dead.true))

pub returns-then-is_full-clause-gives : goal.returns-then-is_full-clause-gives
returns-then-is_full-clause-gives c = inr (refl, inr (inl (c.is_full.ensures.full c.if-is_full.true)))

pub assign-requires-clause-crawls : goal.assign-requires-clause-crawls
assign-requires-clause-crawls c = c.requires.placed.crawls

pub assign-requires-clause-alive : goal.assign-requires-clause-alive
assign-requires-clause-alive c = sym (dead_is c.args.a.0 c.args.volume.now c.args.crew.now c.requires.worker c.requires.placed) ∙ sym c.is_dead.ensures ∙ c.if-is_dead.false

pub assign-requires-clause-idle : goal.assign-requires-clause-idle
assign-requires-clause-idle c =
    let alive : is_killed c.args.a.0 c.args.volume.now.log ≡ false = sym (dead_is c.args.a.0 c.args.volume.now c.args.crew.now c.requires.worker c.requires.placed) ∙ sym c.is_dead.ensures ∙ c.if-is_dead.false in
    let room = c.is_full.ensures.room c.if-is_full.false in
    idle_of c.args.a.0 c.args.volume.now c.args.crew.now c.requires.placed c.requires.worker alive
    (elim c.requires.idle as (λ _. is_done_in c.args.a.0 c.args.volume.now ≡ true) [ inl done ↦ done | inr full ↦ absurd (omega (arith, full, room)) ])
