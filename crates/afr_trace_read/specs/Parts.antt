-- How the parts of a line of a trace are read.
use Rattle.std.specs.Prelude.{ℕ, ◌+◌, ◌^◌, Bool, not, ◌&&◌, List, codes, nat_lt, nat_le}
use Rattle.afr_base.specs.declared.ids.ActorId.{ActorId}
use Rattle.afr_base.specs.declared.ids.BrickId.{BrickId}
use Rattle.afr_base.specs.declared.ids.Gfid.{Gfid}
use Rattle.afr_base.specs.declared.ids.KeyId.{KeyId}
use Rattle.afr_base.specs.declared.ids.NameId.{NameId}
use Rattle.afr_base.specs.declared.ids.ValueId.{ValueId}
use Rattle.afr_plan.specs.Bytes.{name_byte, key_byte, is_name, is_key}
use Rattle.afr_base.specs.declared.ids.Kind.{Kind}
use Rattle.afr_base.specs.declared.ids.Kind.TheVariants.{Bytes, Attrs, Names}
use Rattle.afr_lines.specs.declared.line.Event.{Event}
use Rattle.afr_lines.specs.declared.line.Event.TheVariants as event
use Rattle.afr_plan.specs.declared.plan.Plan.{Plan}
use Rattle.afr_plan.specs.Reading.{Reader, word, word_then, both, as_a, either}
use Rattle.afr_report_trace.specs.Objects.{is_opening}
use Rattle.afr_trace_read.specs.Forms.{then_word, such_that, number_below, word_among, is_small}

-- ---- actors and bricks
-- a client, and a healer, by its number
abbrev pub client_of : ℕ → ActorId
client_of n = record { 0 = n }

-- a healer
abbrev pub healer_of : ℕ → ActorId
healer_of n = record { 0 = 16 + n }

-- a number above 0
abbrev pub is_some_number : ℕ → Bool
is_some_number n = nat_lt 0 n

-- an actor by its word
unfoldable pub actor_at : Reader ActorId
actor_at = either (as_a client_of (word_then (codes "c") (number_below 17))) (as_a healer_of (word_then (codes "h") (such_that (number_below 65520) is_some_number)))

-- a brick by its number
abbrev pub brick_of : ℕ → BrickId
brick_of n = record { 0 = n }

-- a brick
unfoldable pub brick_at : Reader BrickId
brick_at = as_a brick_of (number_below 256)

-- ---- objects
-- an opening file by its number
abbrev pub opening_of : ℕ → Gfid
opening_of n = record { 0 = 2 ^ 64 + n }

-- any other object
abbrev pub gfid_of : ℕ → Gfid
gfid_of n = record { 0 = n }

-- the number of an opening file
abbrev pub opens : Plan → ℕ → Bool
opens p n = nat_lt 0 n && nat_le n p.files

-- the number of another object
abbrev pub opens_not : Plan → ℕ → Bool
opens_not p n = not (is_opening p n)

-- an object
unfoldable pub object_at : Plan → Reader Gfid
object_at p = either (as_a opening_of (word_then (codes "f") (such_that (number_below (2 ^ 32)) (opens p)))) (as_a gfid_of (word_then (codes "g") (such_that (number_below (2 ^ 128)) (opens_not p))))

-- a kind
unfoldable pub kind_at : Reader Kind
kind_at = either (word (codes "data") Bytes) (either (word (codes "metadata") Attrs) (word (codes "entry") Names))

-- ---- events
-- a cut of an actor from a brick, of its parts
abbrev pub cut_of : ActorId × BrickId → Event
cut_of x = event.Cut x.0 x.1

-- the end of a cut
abbrev pub join_of : ActorId × BrickId → Event
join_of x = event.Join x.0 x.1

-- an actor and a brick, after a word
abbrev pub link_at : List ℕ → Reader (ActorId × BrickId)
link_at w = both (then_word (word_then w actor_at) (codes " ")) brick_at

-- an event
unfoldable pub event_at : Reader Event
event_at = either (as_a event.Stop (word_then (codes "stop ") brick_at)) (
    either (as_a event.Start (word_then (codes "start ") brick_at)) (
    either (as_a cut_of (link_at (codes "cut "))) (
    either (as_a join_of (link_at (codes "join "))) (
    as_a event.Kill (word_then (codes "kill ") actor_at)))))

-- ---- words of the plan
-- a name by its place
abbrev pub name_of : ℕ → NameId
name_of n = record { 0 = n }

-- a key by its place
abbrev pub key_of : ℕ → KeyId
key_of n = record { 0 = n }

-- a value by its place
abbrev pub value_of : ℕ → ValueId
value_of n = record { 0 = n }

-- a name of the plan
unfoldable pub name_at : Plan → Reader NameId
name_at p = as_a name_of (such_that (word_among name_byte is_name p.words.names) is_small)

-- a key of the plan
unfoldable pub key_at : Plan → Reader KeyId
key_at p = as_a key_of (such_that (word_among key_byte is_key p.words.keys) is_small)

-- a value of the plan
unfoldable pub value_at : Plan → Reader ValueId
value_at p = as_a value_of (such_that (word_among key_byte is_key p.words.values) is_small)

-- a name in a directory
unfoldable pub named_at : Plan → Reader (Gfid × NameId)
named_at p = both (then_word (object_at p) (codes "/")) (name_at p)

-- an attribute of an object
unfoldable pub keyed_at : Plan → Reader (Gfid × KeyId)
keyed_at p = both (then_word (object_at p) (codes " ")) (key_at p)
