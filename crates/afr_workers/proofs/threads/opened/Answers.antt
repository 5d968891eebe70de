-- Nothing was put.
use Rattle.std.proofs.Common.{◌∙◌, ap, refl}
use Rattle.afr_workers.proofs.BeginningLemmas.{shop_begins}
use Rattle.afr_workers.proofs.PassLemmas.{crew_at}
use Rattle.afr_workers.proofs.threads.opened.Goals as goal

pub returns-clause-ok : goal.returns-clause-ok
returns-clause-ok c = (shop_begins _ c.requires c.in-Ok.ensures (c.of_log-crew.ensures ∙ ap crew_at c.lines.ensures) refl, refl)
