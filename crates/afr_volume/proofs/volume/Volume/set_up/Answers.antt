use Rattle.std.proofs.Common.{ap, reverse}
use Rattle.afr_volume.proofs.Opening.{fresh_whole}
use Rattle.afr_volume.proofs.Runs.{can_run}
use Rattle.afr_volume.proofs.SourceLemmas.{new_state}
use Rattle.afr_volume.proofs.volume.Volume.set_up.Goals as goal

pub invariant_of-self : goal.invariant_of-self
invariant_of-self c = record {
  whole = fresh_whole c.laws.ensures.paces c.laws.ensures.opens c.args.plan (reverse c.new-log.result.items) c.in_ok-servers.servers c.in_ok-actors.actors.items c.in_ok-healers.healers.items (can_run c.args.plan c.requires.runs) (ap reverse c.new-log.ensures) c.in_ok-servers.ensures (rw c.len.ensures at c.in_ok-actors.ensures.ok) (rw c.len-2.ensures at c.in_ok-healers.ensures.ok);
  given = λ crawls. absurd (cc crawls);
}

pub returns-clause-ok : goal.returns-clause-ok
returns-clause-ok c = new_state c.args.plan (reverse c.new-log.result.items) c.in_ok-healers.healers.items c.in_ok-actors.actors.items (ap reverse c.new-log.ensures) (rw c.len-2.ensures at c.in_ok-healers.ensures.ok) (rw c.len.ensures at c.in_ok-actors.ensures.ok)
