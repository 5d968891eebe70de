-- Looking at the copies of one object.
use Rattle.std.specs.Prelude.{◌≡◌, ℕ, false, List, [], Some, None}
use Rattle.afr_base.specs.Bricks.{added, below, lowest, minus, is_nothing, IsWithin}
use Rattle.afr_choice.specs.Looks.{no_looks, with_look, without_look}
use Rattle.afr_choice.specs.declared.looked.Looked.{Looked}
use Rattle.afr_lines.specs.declared.answer.Told.{Told}
use Rattle.afr_lines.specs.declared.answer.Told.TheVariants.{Seen, NoObject}
use Rattle.afr_client_walk.specs.declared.looks.Looks.{Looks}

-- nobody was asked yet
abbrev pub no_look : Looks
no_look = record { asked = []; looked = no_looks }

-- the bricks below n that are still to be looked at
abbrev pub left_to_look : ℕ → Looks → List ℕ
left_to_look n s = minus (below n) s.asked

-- what a brick's answer shows: its view, that it lacks the object, or nothing
abbrev pub noted_look : ℕ → Told → Looked → Looked
noted_look b (Seen view) looked = with_look b (Some view) looked
noted_look b NoObject looked = with_look b None looked
noted_look b told looked = without_look b looked

-- the lowest brick that was left has answered
abbrev pub heard_look : ℕ → Told → Looks → Looks
heard_look n told s = record s { asked = added (lowest (left_to_look n s)) s.asked; looked = noted_look (lowest (left_to_look n s)) told s.looked }

-- some brick is left to look at, and those that answered are bricks below n
pub record IsLooks (n : ℕ) (s : Looks) : Type 0 where
  pub left : is_nothing (left_to_look n s) ≡ false
  pub reached : IsWithin n s.looked.reached
