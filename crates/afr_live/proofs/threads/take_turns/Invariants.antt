use Rattle.std.specs.Prelude.{◌≡◌}
use Rattle.afr_live.proofs.threads.take_turns.Given as goal

abbrev pub invariant-loop-turn : goal.invariant-loop-turn
invariant-loop-turn g l = l.mine.share.parts ≡ 1
