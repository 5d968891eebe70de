-- What an actor finds by meeting a brick, and that others' finds stay.
use Rattle.std.proofs.Common.{◌≡◌, ◌≢◌, ℕ, ◌<◌, ◌==◌, true, false, Bool, List, sym, Option}
use Rattle.afr_base.specs.declared.ids.ActorId.{ActorId}
use Rattle.afr_lines.specs.declared.line.Line.{Line}
use Rattle.afr_model_moves.proofs.Tests.{same_self}
use Rattle.afr_plan.specs.declared.plan.Plan.{Plan}
use Rattle.afr_server.proofs.FindsLemmas.{first_finds, kept_others, kept_within}
use Rattle.afr_server.specs.Log.{Finds, IsServed}
use Rattle.afr_server.specs.Outcome.{link_served}
use Rattle.afr_server.specs.Serving.{Serving, epoch_of}
use Rattle.afr_session.specs.Calls.{only}
use Rattle.afr_session.specs.Links.{link_of}
use Rattle.afr_servers.proofs.PlaceLemmas.{apart}
use Rattle.afr_servers.specs.Calls.{IsMet}

-- after a request within a work
pub finds_within : (a : ActorId) (epoch : Option ℕ) (lost : Bool) (s s' : Serving) → ((x : ℕ) → link_of x s'.links ≡ only a.0 x (link_served false lost s.links.started) (link_of x s.links))
    → Finds epoch (link_of a.0 s.links) → Finds epoch (link_of a.0 s'.links)
finds_within a epoch lost s s' each found = rw (each a.0) (kept_within epoch (a.0 == a.0) lost s.links.started (link_of a.0 s.links) found)

-- by the first line of a work
pub finds_first : (p : Plan) (log : List Line) (b : ℕ) (a : ActorId) (epoch : Option ℕ) (lost : Bool) (s s' : Serving) → a.0 < 20 → IsServed p log b s
    → ((x : ℕ) → link_of x s'.links ≡ only a.0 x (link_served true lost s.links.started) (link_of x s.links)) → epoch ≡ epoch_of a s → Finds epoch (link_of a.0 s'.links)
finds_first p log b a epoch lost s s' small v each is = rw (each a.0, is, same_self a.0) (first_finds p log b a.0 lost s small v)

-- by meeting the brick
pub finds_met : (p : Plan) (log : List Line) (b : ℕ) (a : ActorId) (epoch : Option ℕ) (s s' : Serving) → a.0 < 20 → IsServed p log b s → IsMet a s s' → epoch ≡ epoch_of a s → Finds epoch (link_of a.0 s'.links)
finds_met p log b a epoch s s' small v m is = finds_first p log b a epoch false s s' small v m.does.links is

-- what another actor found
pub finds_other : (a : ActorId) (c : ℕ) (epoch : Option ℕ) (first lost : Bool) (s s' : Serving) → c ≢ a.0 → ((x : ℕ) → link_of x s'.links ≡ only a.0 x (link_served first lost s.links.started) (link_of x s.links))
    → Finds epoch (link_of c s.links) → Finds epoch (link_of c s'.links)
finds_other a c epoch first lost s s' other each found = rw (each c) (kept_others epoch a.0 c (link_served first lost s.links.started) (link_of c s.links) (apart a.0 c (λ e. other (sym e))) found)
