-- The links of actors to one brick, and the sessions over them.
use Rattle.std.specs.Prelude.{◌≡◌, ℕ, ◌+◌, ◌&&◌, not, Bool, true, false, List, Option, Some, None, if◌then◌else◌, slice_index_or}
use Rattle.afr_session.specs.declared.link.Link.{Link}

-- whether the brick is started, and the link of each actor
pub record Links : Type 0 where
  pub started : Bool
  pub each : List Link

-- a link that is down and never had a session
abbrev pub no_link : Link
no_link = record { up = false; live = false; opened = 0 }

-- a link that is up and never had a session
abbrev pub fresh_link : Link
fresh_link = record { up = true; live = false; opened = 0 }

-- the link of an actor
abbrev pub link_of : ℕ → Links → Link
link_of a s = slice_index_or s.each a no_link

-- the epoch of the live session: the last that was opened over the link
abbrev pub live_epoch : Link → Option ℕ
live_epoch l = if l.live then Some l.opened else None

-- an actor's session of this epoch is live
abbrev pub IsLive : ℕ → ℕ → Links → Type 0
IsLive a epoch s = live_epoch (link_of a s) ≡ Some epoch

-- whether the actor and the brick reach each other: the brick is started and the link is up
abbrev pub is_reached : Bool → Link → Bool
is_reached started l = started && l.up

-- whether a meeting opens a session
abbrev pub opens : Bool → Link → Bool
opens started l = is_reached started l && not l.live

-- the link with one more session, which is live
abbrev pub opened_once : Link → Link
opened_once l = record l { live = true; opened = l.opened + 1 }

-- the link after a meeting
abbrev pub met : Bool → Link → Link
met started l = if opens started l then opened_once l else l

-- the epoch that a meeting gives: the live one, or else the next
abbrev pub epoch_met : Bool → Link → Option ℕ
epoch_met started l = if is_reached started l then Some (if l.live then l.opened else l.opened + 1) else None

-- the link without a live session
abbrev pub ended : Link → Link
ended l = record l { live = false }

-- the link cut off
abbrev pub cut_off : Link → Link
cut_off l = record l { up = false; live = false }

-- the link up
abbrev pub joined : Link → Link
joined l = record l { up = true }

-- only a started brick has live sessions, and only over links that are up
pub record IsSound (started : Bool) (links : List Link) : Type 0 where
  pub reached : (a : ℕ) → (slice_index_or links a no_link).live ≡ true → is_reached started (slice_index_or links a no_link) ≡ true
