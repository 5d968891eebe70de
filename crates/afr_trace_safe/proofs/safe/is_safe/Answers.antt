use Rattle.std.proofs.Common.{reverse}
use Rattle.afr_trace_safe.proofs.SafeLemmas.{safe_is}
use Rattle.afr_trace_safe.proofs.safe.is_safe.Goals as goal

pub returns : goal.returns
returns c = safe_is c.args.plan.now (reverse c.args.log.now) c.args.objects.now c.in_ok-safe.safe c.requires.was c.in_ok-safe.ensures
