use Rattle.std.proofs.Common.{◌∙◌, sym}
use Rattle.afr_discipline.specs.Stands.{seen_as, step_of}
use Rattle.afr_heal.proofs.ComingLemmas.{brick_below, due_none, due_some}
use Rattle.afr_heal.proofs.due.asked.Goals as goal
use Rattle.afr_heal.specs.Requests.{request_in}
use Rattle.afr_model_moves.specs.Keeps.{keeps_in}

pub returns-in-Some-clause-asks : goal.returns-in-Some-clause-asks
returns-in-Some-clause-asks c g kind rest =
    due_some (request_in c.args.register.now.shape.n (keeps_in c.args.register.now.shape) (seen_as c.args.register.now) c.args.source.0 g kind (step_of c.args.step)) _ rest c.in-Some.brick (sym c.turn_of.ensures ∙ c.in-Some.is)

pub returns-in-Some-clause-small : goal.returns-in-Some-clause-small
returns-in-Some-clause-small c = brick_below _ _ c.in-Some.brick c.requires (sym c.turn_of.ensures ∙ c.in-Some.is)

pub returns-in-None-clause-asks : goal.returns-in-None-clause-asks
returns-in-None-clause-asks c g kind rest =
    due_none (request_in c.args.register.now.shape.n (keeps_in c.args.register.now.shape) (seen_as c.args.register.now) c.args.source.0 g kind (step_of c.args.step)) _ rest (sym c.turn_of.ensures ∙ c.in-None.is)
