-- Before the first line nobody was told anything.
use Rattle.afr_live.proofs.NotedLemmas.{none_eager, none_noted}
use Rattle.afr_live.proofs.shared.Shared.new.Goals as goal

pub invariant_of-result : goal.invariant_of-result
invariant_of-result g c = record {
  planned = c.requires.plan;
  plain = c.requires.plain;
  counted = rw c.requires.fresh c.requires.none;
  noted = none_noted _ _ c.requires.fresh c.new.ensures;
  eager = none_eager _ c.requires.fresh;
}
