use Rattle.std.proofs.Common.{◌∙◌, reverse}
use Rattle.afr_volume.proofs.EventKeeps.{started_within}
use Rattle.afr_volume.proofs.volume.Volume.reach.Goals as goal

pub returns : goal.returns
returns c =
    rw (← c.self.view_is)
    (c.started.ensures
    ∙ c.laws.ensures.started.all c.self.inside.plan (reverse c.self.inside.log.items) c.self.inside.servers c.self.invariant.whole.kept.runnable.few c.self.invariant.whole.kept.served
    (started_within c.self.inside.crawl c.self.inside.plan (reverse c.self.inside.log.items) c.self.invariant.whole.kept.runnable c.self.invariant.whole.kept.follows))
