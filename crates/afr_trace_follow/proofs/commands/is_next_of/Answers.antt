use Rattle.std.proofs.Common.{refl}
use Rattle.afr_trace_follow.proofs.KeepingLemmas.{as_well, both, never, next_here, no_name_there, no_next, untold_there}
use Rattle.afr_trace_follow.proofs.commands.is_next_of.Goals as goal

pub returns-in-At : goal.returns-in-At
returns-in-At c =
    rw c.in-At.is
    (as_well c.both.result _ _ (next_here c.in-At.read c.in-At.object c.args.names.now c.args.g c.args.name)
    (both c.both.result c.same_gfid-there.result c.is_name_at.result _ _ c.both.ensures c.same_gfid-there.ensures c.is_name_at.ensures))

pub returns-in-NoName : goal.returns-in-NoName
returns-in-NoName c = rw c.in-NoName.is (never _ _ refl (no_next _ c.args.names.now c.args.g c.args.name no_name_there))

pub returns-in-Untold : goal.returns-in-Untold
returns-in-Untold c = rw c.in-Untold.is (never _ _ refl (no_next _ c.args.names.now c.args.g c.args.name untold_there))
