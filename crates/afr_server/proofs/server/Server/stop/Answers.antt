use Rattle.std.proofs.Common.{◌≡◌, false, ℕ}
use Rattle.afr_server.proofs.GuardLemmas.{all_gone, stop_gone}
use Rattle.afr_server.proofs.server.Server.stop.Goals as goal

pub returns-clause-already : goal.returns-clause-already
returns-clause-already c = λ already.
    let down : c.self.inside.sessions.started ≡ false = rw (← c.self.view_is) at already in
    let none : (x : ℕ) → _ = λ x. stop_gone c.self.inside.sessions c.stop.new.self x c.stop.ensures.does (c.stop.ensures.same down) in
    rw (c.new.ensures, c.new-2.ensures, c.stop.ensures.same down, ← all_gone c.self.inside.sessions c.self.inside.ranges none c.self.invariant.over_ranges, ← all_gone c.self.inside.sessions c.self.inside.names none c.self.invariant.over_names) c.self.view_is
