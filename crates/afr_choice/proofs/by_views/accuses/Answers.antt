use Rattle.std.proofs.Common.{◌∙◌}
use Rattle.afr_choice.proofs.Agreement.{accuses_same}
use Rattle.afr_choice.proofs.by_views.accuses.Goals as goal

pub returns : goal.returns
returns c = c.shows_missed.ensures ∙ accuses_same c.args.kind c.args.s.0 c.args.view.now
