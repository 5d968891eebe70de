use Rattle.std.proofs.Common.{reverse}
use Rattle.afr_volume.proofs.EventKeeps.{started_within}
use Rattle.afr_volume.proofs.volume.Volume.servers.Goals as goal

pub returns-clause-started : goal.returns-clause-started
returns-clause-started c = rw (← c.self.view_is) (started_within c.self.inside.crawl c.self.inside.plan (reverse c.self.inside.log.items) c.self.invariant.whole.kept.runnable c.self.invariant.whole.kept.follows)
