use Rattle.std.proofs.Common.{◌∙◌, inl, refl, sym}
use Rattle.afr_trace_follow.proofs.FollowLemmas.{with_command}
use Rattle.afr_trace_follow.proofs.KeepingLemmas.{as_well}
use Rattle.afr_trace_follow.proofs.following.goes_with.Goals as goal

pub returns-then-is_heal_line : goal.returns-then-is_heal_line
returns-then-is_heal_line c = (λ yes. inl (sym c.is_heal_line.ensures ∙ c.if-is_heal_line.true), λ k. refl)

pub returns-else-is_heal_line : goal.returns-else-is_heal_line
returns-else-is_heal_line c = as_well c.carries_out.result _ _ (with_command c.args.line.now _ (sym c.is_heal_line.ensures ∙ c.if-is_heal_line.false)) c.carries_out.ensures
