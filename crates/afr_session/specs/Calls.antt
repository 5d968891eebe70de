-- What each call makes of the links of a brick, and that epochs rise.
use Rattle.std.specs.Prelude.{◌≡◌, ℕ, ◌<◌, ◌==◌, Bool, true, false, List, [], ◌∷◌, if◌then◌else◌}
use Rattle.afr_session.specs.Links.{Links, IsLive, cut_off, ended, joined, link_of, met}
use Rattle.afr_session.specs.declared.link.Link.{Link}

-- an actor meets the brick, ends its session, loses its link or gets it back; or the brick stops or starts
pub data Call : Type 0 where
  Meet : ℕ → Call
  End : ℕ → Call
  Cut : ℕ → Call
  Join : ℕ → Call
  Stop : Call
  Start : Call

-- what is done to the link of one actor alone
abbrev pub only : ℕ → ℕ → (Link → Link) → Link → Link
only a x f l = if a == x then f l else l

-- what a call makes of the link of an actor
abbrev pub link_after : Call → Bool → ℕ → Link → Link
link_after (Meet a) started x l = only a x (met started) l
link_after (End a) started x l = only a x ended l
link_after (Cut a) started x l = only a x cut_off l
link_after (Join a) started x l = only a x joined l
link_after Stop started x l = ended l
link_after Start started x l = l

-- whether the brick is started after a call
abbrev pub started_after : Call → Bool → Bool
started_after Stop was = false
started_after Start was = true
started_after call was = was

-- a call was made: every link, and whether the brick is started, is what the call makes of it
pub record Does (call : Call) (old new : Links) : Type 0 where
  pub started : new.started ≡ started_after call old.started
  pub links : (x : ℕ) → link_of x new ≡ link_after call old.started x (link_of x old)

-- the calls were made one after the other, the newest first in the list
abbrev pub Makes : List Call → Links → Links → Type 0
Makes [] old new = new ≡ old
Makes (call ∷ earlier) old new = (between : Links) × Makes earlier old between × Does call between new

-- a session that was live and isn't is never live again: each later one of its actor has a greater epoch
abbrev pub EpochsRise : Type 0
EpochsRise = (a epoch later : ℕ) (calls more : List Call) (first second third : Links)
    → Makes calls first second → Makes more second third
    → IsLive a epoch first → (IsLive a epoch second → ⊥) → IsLive a later third → epoch < later
