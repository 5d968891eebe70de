-- The test of an acknowledged attempt passes exactly where the attempt is acknowledged.
use Rattle.std.proofs.Common.{◌≡◌, ℕ, true, refl, List, Option, Some}
use Rattle.afr_lines.specs.Log.{from_oldest}
use Rattle.afr_lines.specs.declared.line.Line.{Line}
use Rattle.afr_lines.specs.declared.line.Line.TheVariants.{Begin}
use Rattle.afr_lines.specs.declared.reply.Reply.{Reply}
use Rattle.afr_lines.specs.declared.reply.Reply.TheVariants.{Ok}
use Rattle.afr_base.specs.declared.ids.ActorId.{ActorId}
use Rattle.afr_object.specs.declared.change.Change.{Change}
use Rattle.afr_model.specs.Attempts.{IsAcknowledged, first_reply}
use Rattle.afr_trace_safe.specs.Acknowledged.{says_ok, begins_well, is_acknowledged}

replied_well : (log : List Line) (q : ℕ) (actor : ActorId) (change : Change) → from_oldest q log ≡ Some (Begin actor change)
    → (r : Option Reply) → first_reply actor.0 q log ≡ r → says_ok r ≡ true → IsAcknowledged log q
replied_well log q actor change e (Some (Ok good)) f h = record { actor = actor; change = change; begun = e; good = good; replied = f }
replied_well log q actor change e r f h = absurd (cc)

begun_well : (log : List Line) (q : ℕ) (o : Option Line) → from_oldest q log ≡ o → begins_well o log q ≡ true → IsAcknowledged log q
begun_well log q (Some (Begin actor change)) e h = replied_well log q actor change e (first_reply actor.0 q log) refl h
begun_well log q o e h = absurd (cc)

pub acknowledged_is : (log : List Line) (q : ℕ) → is_acknowledged log q ≡ true → IsAcknowledged log q
acknowledged_is log q h = begun_well log q (from_oldest q log) refl h

pub is_acknowledged_of : (log : List Line) (q : ℕ) → IsAcknowledged log q → is_acknowledged log q ≡ true
is_acknowledged_of log q k = rw (k.begun, k.replied) refl
