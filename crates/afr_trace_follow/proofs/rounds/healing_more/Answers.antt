use Rattle.afr_trace_follow.proofs.HealLemmas.{healing_step}
use Rattle.afr_trace_follow.proofs.rounds.healing_more.Goals as goal

pub returns : goal.returns
returns c = λ older at v. healing_step c.args.a.0 c.args.line.now older _ c.args.was c.begun_more.ensures c.healed_more.ensures v
