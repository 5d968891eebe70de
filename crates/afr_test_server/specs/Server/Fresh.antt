-- A server at its start.
use Rattle.std.specs.Prelude.{◌≡◌, ℕ, ◌<◌}
use Rattle.afr_session.specs.Links.{fresh_link, link_of}
use Rattle.afr_server.specs.Serving.{Serving}

-- nobody has talked to the server yet
pub record IsFresh (s : Serving) : Type 0 where
  pub requests : s.faults.requests ≡ 0
  pub links : (a : ℕ) → a < 20 → link_of a s.links ≡ fresh_link
