-- The servers of a plan before any line.
use Rattle.std.specs.Prelude.{◌≡◌, ℕ, ◌<◌, true, List, [], Some, length, slice_get}
use Rattle.afr_faults.specs.Planned.{fault_at}
use Rattle.afr_model.specs.Honest.{fault_in}
use Rattle.afr_model.specs.Tables.{keeps_bytes}
use Rattle.afr_object.specs.Tables.{opening}
use Rattle.afr_plan.specs.declared.plan.Plan.{Plan}
use Rattle.afr_session.specs.Links.{fresh_link, link_of}
use Rattle.afr_server.specs.Serving.{Serving}

-- a server over the opening files that nobody has talked to, with the faults that the plan has for brick b
pub record IsNew (p : Plan) (b : ℕ) (s : Serving) : Type 0 where
  pub keeps : s.copies.keeps ≡ keeps_bytes p b
  pub objects : s.copies.objects ≡ opening p.files
  pub ranges : s.ranges ≡ []
  pub names : s.names ≡ []
  pub started : s.links.started ≡ true
  pub links : (a : ℕ) → a < 20 → link_of a s.links ≡ fresh_link
  pub requests : s.faults.requests ≡ 0
  pub planned : (count : ℕ) → fault_at count s.faults ≡ fault_in p.faults b count

-- one such server for each brick of the plan
pub record AreNew (p : Plan) (servers : List Serving) : Type 0 where
  pub few : length servers ≡ p.shape.n
  pub each : (b : ℕ) (s : Serving) → slice_get servers b ≡ Some s → IsNew p b s
