use Rattle.std.proofs.Common.{reverse}
use Rattle.afr_lines.specs.Work.{work}
use Rattle.afr_trace_check.specs.Works.{in_work}
use Rattle.afr_trace_check.proofs.ShownLemmas.{views_none, views_some}
use Rattle.afr_trace_check.proofs.showing.last_views.Goals as goal

pub returns-in-Some : goal.returns-in-Some
returns-in-Some c = views_some (in_work c.args.heal (work c.args.a.0 (reverse c.args.log.now))) c.in-Some.g c.looked_by.result c.in-Some.ensures c.looked_by.ensures

pub returns-in-None : goal.returns-in-None
returns-in-None c = views_none (in_work c.args.heal (work c.args.a.0 (reverse c.args.log.now))) c.none.result c.in-None.ensures c.none.ensures
