use Rattle.afr_volume.proofs.PickedLemmas.{heard_so}
use Rattle.afr_volume.proofs.actor.hear.Goals as goal

pub returns : goal.returns
returns g c = heard_so g.G.Fn c.args.rule.now c.args.answer.now c.args.position c.args.met c.args.request.now c.args.actor.now c.hear-now.new.self c.hear-now.result c.pick_after-actor.result c.hear-now.ensures.picked c.hear-now.ensures.value c.pick_after-actor.ensures
