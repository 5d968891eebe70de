-- Three servers at their start.
use Rattle.std.specs.Prelude.{◌≡◌, ℕ, ◌<◌, List, Some, length, slice_get}
use Rattle.afr_session.specs.Links.{fresh_link, link_of}
use Rattle.afr_server.specs.Serving.{Serving}

-- there are three servers, and nobody has talked to them yet
pub record AreFresh (servers : List Serving) : Type 0 where
  pub three : length servers ≡ 3
  pub requests : (b : ℕ) (s : Serving) → slice_get servers b ≡ Some s → s.faults.requests ≡ 0
  pub links : (b a : ℕ) (s : Serving) → slice_get servers b ≡ Some s → a < 20 → link_of a s.links ≡ fresh_link
