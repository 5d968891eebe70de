-- The item is the worker's, and the next one comes behind it.
use Rattle.std.proofs.Common.{ap, subst, sym}
use Rattle.afr_volume.specs.State.{State}
use Rattle.afr_workers.specs.Crew.{IsCrew}
use Rattle.afr_workers.specs.declared.crew.Crew.{Crew}
use Rattle.afr_workers.proofs.CrewLemmas.{assigned_kept, assigned_left}
use Rattle.afr_workers.proofs.GivenLemmas.{item_given}
use Rattle.afr_workers.proofs.giving.give_item.Goals as goal

pub assign-requires-clause-crawl : goal.assign-requires-clause-crawl
assign-requires-clause-crawl c = c.requires.crew.placed.crawls

pub assign-requires-clause-given : goal.assign-requires-clause-given
assign-requires-clause-given c = item_given c.args.volume.now.plan (c.args.next.gfid, c.args.next.what) c.args.volume.now.log c.args.next.round c.args.next.at c.requires.next.list c.requires.next.given c.requires.next.there

pub returns-in_err-assign-clause-crew : goal.returns-in_err-assign-clause-crew
returns-in_err-assign-clause-crew c = subst (IsCrew c.args.crew.now) (sym c.in_err-assign.ensures.err) c.requires.crew

pub returns-in_err-assign-clause-plan : goal.returns-in_err-assign-clause-plan
returns-in_err-assign-clause-plan c = ap (λ (s : State). s.plan) c.in_err-assign.ensures.err

pub returns-in_err-assign-clause-log : goal.returns-in_err-assign-clause-log
returns-in_err-assign-clause-log c = ap (λ (s : State). s.log) c.in_err-assign.ensures.err

pub returns-clause-crew : goal.returns-clause-crew
returns-clause-crew c =
    subst (λ (crew : Crew). IsCrew crew c.assign.new.self) (sym c.give.ensures)
    (assigned_kept c.args.a.0 c.args.volume.now (c.args.next.gfid, c.args.next.what) c.requires.worker c.requires.idle c.assign.new.self c.args.crew.now c.args.next.round c.args.next.at c.in_ok-assign.ensures.ok c.requires.next c.requires.crew)

pub returns-clause-plan : goal.returns-clause-plan
returns-clause-plan c = ap (λ (s : State). s.plan) c.in_ok-assign.ensures.ok

pub returns-clause-log : goal.returns-clause-log
returns-clause-log c = ap (λ (s : State). s.log) c.in_ok-assign.ensures.ok

pub returns-clause-ok : goal.returns-clause-ok
returns-clause-ok c = assigned_left c.args.a.0 c.args.volume.now (c.args.next.gfid, c.args.next.what) c.requires.worker c.requires.idle c.assign.new.self c.in_ok-assign.ensures.ok c.requires.crew.placed.crawls c.requires.alive
