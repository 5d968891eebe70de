-- Before the first line nobody has begun anything, so the healers may crawl from there on.
use Rattle.std.proofs.Common.{arith, reverse}
use Rattle.afr_volume.specs.Acting.{picked_of}
use Rattle.afr_volume.proofs.ListLemmas.{none_given}
use Rattle.afr_volume.proofs.TaskBegins.{crawling_state, crawling_whole}
use Rattle.afr_volume.proofs.volume.Volume.set_crawl.Goals as goal

pub rest_first-requires : goal.rest_first-requires
rest_first-requires c = omega (arith, c.self.invariant.whole.healing.same, (rw (← c.self.view_is) at c.requires.healers).healers)

pub invariant_of-self : goal.invariant_of-self
invariant_of-self c = record {
  whole = crawling_whole c.self.inside.plan (reverse c.self.inside.log.items) c.self.inside.servers c.self.inside.actors.items c.self.inside.healers.items c.rest_first.new.healers.items c.self.inside.made (picked_of c.self.inside.actors.items) (rw (← c.self.view_is) at c.requires.healers) c.self.invariant.whole
      (rw (← c.self.view_is) at c.requires.none) c.rest_first.ensures;
  given = λ crawls. none_given c.self.inside.plan (reverse c.self.inside.log.items) c.new.result.items c.new.ensures.items (rw (← c.self.view_is) at c.requires.none);
}

pub returns : goal.returns
returns c =
    rw (← c.self.view_is)
    (crawling_state c.self.inside.plan (reverse c.self.inside.log.items) c.self.inside.servers c.self.inside.actors.items c.self.inside.healers.items c.rest_first.new.healers.items c.self.inside.made (picked_of c.self.inside.actors.items) (rw (← c.self.view_is) at c.requires.healers) c.self.invariant.whole
    (rw (← c.self.view_is) at c.requires.none) c.rest_first.ensures)
