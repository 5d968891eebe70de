use Rattle.std.proofs.Common.{◌≡◌, ℕ, Some, slice_get, length}
use Rattle.afr_server.specs.Serving.{Serving}
use Rattle.afr_servers.specs.Opening.{IsNew}
use Rattle.afr_servers.proofs.servers.Servers.new.Given as goal

abbrev pub invariant-loop-b : goal.invariant-loop-b
invariant-loop-b l = record {
  count : length l.each.items ≡ l.b;
  each : (b : ℕ) (s : Serving) → slice_get l.each.items b ≡ Some s → IsNew l.plan b s;
}
