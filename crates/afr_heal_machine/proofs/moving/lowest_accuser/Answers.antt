use Rattle.std.proofs.Common.{◌∙◌, ap}
use Rattle.afr_base.specs.Five.{first_in}
use Rattle.afr_choice.specs.Verdict.{accusers_of}
use Rattle.afr_heal_machine.proofs.ChoiceLemmas.{first_is}
use Rattle.afr_heal_machine.proofs.moving.lowest_accuser.Goals as goal

pub returns : goal.returns
returns c = c.first.ensures ∙ ap first_in c.accusers.ensures ∙ first_is (accusers_of c.args.kind c.args.source.0 c.args.looked.now)
