use Rattle.std.proofs.Common.{◌≡◌, ◌++◌, map, take, drop}
use Rattle.afr_session.specs.Links.{ended}
use Rattle.afr_session.proofs.sessions.end_all.Given as goal

-- the links before this one are without a session
abbrev pub invariant-loop-link : goal.invariant-loop-link
invariant-loop-link l = l.links ≡ map ended (take l.link-index l.fn.links) ++ drop l.link-index l.fn.links
