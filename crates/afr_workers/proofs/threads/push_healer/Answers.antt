use Rattle.std.proofs.Common.{arith, inr}
use Rattle.afr_workers.proofs.threads.push_healer.Goals as goal

pub push_actor-requires-clause-own : goal.push_actor-requires-clause-own
push_actor-requires-clause-own c = inr (omega arith, omega arith)
