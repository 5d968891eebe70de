use Rattle.std.proofs.Common.{Err, ap}
use Rattle.afr_image.proofs.ReadLemmas.{plan_stopped}
use Rattle.afr_image.proofs.read.image_in.Goals as goal

pub returns-in-Err : goal.returns-in-Err
returns-in-Err c = plan_stopped c.args.most c.args.bytes.now c.args.frame.now.text.now c.args.frame.now.count c.args.frame.now.steps.now c.in-Err.stop c.requires.framed (λ fault e. c.in-Err.ensures.refused fault (ap Err e))
