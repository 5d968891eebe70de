use Rattle.std.proofs.Common.{◌∙◌, length, reverse}
use Rattle.afr_lines.specs.Work.{work}
use Rattle.afr_trace_follow.proofs.FollowLemmas.{one_path, same_paths, two_paths}
use Rattle.afr_trace_follow.proofs.KeepingLemmas.{as_well, both}
use Rattle.afr_trace_follow.proofs.following.carries_out.Goals as goal

pub returns-in-Some : goal.returns-in-Some
returns-in-Some c =
    as_well c.keeps_to_paths.result _ _
    (two_paths c.args.plan.now c.args.command.now c.args.line.now (length c.args.log.now) (work c.args.a.0 (reverse c.args.log.now)) c.in-Some.to.now c.in-Some.ensures)
    (same_paths c.args.plan.now c.args.line.now (work c.args.a.0 (reverse c.args.log.now)) c.keeps_to_paths.result _ _ _ _ (c.as_slice-from.ensures ∙ c.path_of.ensures) c.as_slice.ensures c.keeps_to_paths.ensures)

pub returns-in-None : goal.returns-in-None
returns-in-None c =
    as_well c.both.result _ _ (one_path c.args.plan.now c.args.command.now c.args.line.now (length c.args.log.now) (work c.args.a.0 (reverse c.args.log.now)) c.in-None.ensures)
    (both c.both.result c.keeps_to-keeps.result c.asks_there.result _ _ c.both.ensures c.keeps_to-keeps.ensures c.asks_there.ensures)
