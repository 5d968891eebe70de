use Rattle.std.proofs.Common.{refl}
use Rattle.afr_trace_follow.proofs.KeepingLemmas.{as_well, both, named_here, never, no_name_there, no_named, untold_there}
use Rattle.afr_trace_follow.proofs.commands.is_named_at.Goals as goal

pub returns-in-At : goal.returns-in-At
returns-in-At c =
    rw c.in-At.is
    (as_well c.both.result _ _ (named_here c.in-At.read c.in-At.object c.args.command.now c.args.position c.args.change.now)
    (both c.both.result c.same_number-led.result c.is_named.result _ _ c.both.ensures (rw c.steps_of.ensures at c.same_number-led.ensures) c.is_named.ensures))

pub returns-in-NoName : goal.returns-in-NoName
returns-in-NoName c = rw c.in-NoName.is (never _ _ refl (no_named _ c.args.command.now c.args.position c.args.change.now no_name_there))

pub returns-in-Untold : goal.returns-in-Untold
returns-in-Untold c = rw c.in-Untold.is (never _ _ refl (no_named _ c.args.command.now c.args.position c.args.change.now untold_there))
