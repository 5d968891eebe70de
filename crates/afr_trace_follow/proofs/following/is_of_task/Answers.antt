use Rattle.std.proofs.Common.{◌∙◌, ℕ, ap, arith, length, reverse, slice_get, sym}
use Rattle.std.proofs.lemmas.List.{length-reverse}
use Rattle.afr_model.specs.Actors.{rounds_of, script_of}
use Rattle.afr_trace_follow.proofs.FollowLemmas.{client_task, healer_task}
use Rattle.afr_trace_follow.proofs.KeepingLemmas.{as_well}
use Rattle.afr_trace_follow.proofs.following.is_of_task.Goals as goal

pub returns-then-a-lt17 : goal.returns-then-a-lt17
returns-then-a-lt17 c =
    as_well c.keeps_to_some.result _ _
    (client_task c.args.plan.now c.args.a.0 c.args.line.now (reverse c.args.log.now) _ (length c.args.log.now) (omega arith)
    (c.command_of-command.ensures ∙ ap (λ (n : ℕ). slice_get (script_of c.args.plan.now c.args.a.0) n) c.ended-ended.ensures) (sym (length-reverse c.args.log.now))) c.keeps_to_some.ensures

pub returns-else-a-lt17 : goal.returns-else-a-lt17
returns-else-a-lt17 c =
    as_well c.goes_some.result _ _
    (healer_task c.args.plan.now c.args.a.0 c.args.line.now (reverse c.args.log.now) c.round_of-round.result c.requires.actors.clients (omega arith)
    (c.round_of-round.ensures ∙ ap (λ (n : ℕ). slice_get (rounds_of c.args.plan.now c.args.a.0) n) c.ended-ended.ensures)) c.goes_some.ensures
