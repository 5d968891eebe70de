use Rattle.std.proofs.Common.{arith, inl}
use Rattle.afr_workers.proofs.threads.push_client.Goals as goal

pub push_actor-requires-clause-own : goal.push_actor-requires-clause-own
push_actor-requires-clause-own c = inl (omega arith, omega arith)
