-- Which of the servers are started.
use Rattle.std.specs.Prelude.{ℕ, Bool, false, List, filter, Option, Some, None, slice_get}
use Rattle.afr_base.specs.Bricks.{all_five}
use Rattle.afr_server.specs.Serving.{Serving}

-- whether a server is there and started
abbrev pub is_up : Option Serving → Bool
is_up None = false
is_up (Some s) = s.links.started

-- whether the server of brick b is started
abbrev pub is_started : ℕ → List Serving → Bool
is_started b servers = is_up (slice_get servers b)

-- the bricks whose servers are started
unfoldable pub started_in : List Serving → List ℕ
started_in servers = filter (λ b. is_started b servers) all_five
