-- What an actor asked, whatever it was told.
use Rattle.std.specs.Prelude.{ℕ, zero, suc, Bool, true, false, if◌then◌else◌, Option, None, Some}
use Rattle.afr_model_moves.specs.Sets.{empty, with}
use Rattle.afr_model_moves.specs.Cells.{Cell}
use Rattle.afr_model_moves.specs.Past.{Log, is_of, place, opens, last, mends}
use Rattle.afr_object.specs.declared.change.Repair.{Repair}
use Rattle.afr_lines.specs.declared.request.Request.TheVariants.{Pre, Post, Mend}
use Rattle.afr_lines.specs.declared.line.Line.{Line}
use Rattle.afr_lines.specs.declared.line.Line.TheVariants.{Ask, Begin, HealBegin, HealEnd}

-- what was asked since the last Begin or HealBegin, and in the heal
pub record Tally : Type 0 where
  pub posts : ℕ → Bool  -- the bricks that a Post line since the Begin asked
  pub raises : ℕ → Bool  -- the bricks that a Pre line of the heal asked
  pub mending : Bool  -- the heal has a Mend line
  pub repair : Option Repair  -- the repair of the present piece
  pub given : Cell → ℕ  -- suc of the number of the heal's last piece that mends the cell at any brick

-- no piece mends the cell
abbrev pub none_given : Cell → ℕ
none_given cell = 0

-- nothing was asked
abbrev pub blank : Tally
blank = record { posts = empty; raises = empty; mending = false; repair = None; given = none_given }

-- the cells of a repair have the number of the piece
abbrev pub give : (Cell → ℕ) → ℕ → Repair → Cell → ℕ
give given number repair cell = if mends repair cell then number else given cell

-- the tally after a line of the actor, whose present number has this suc
abbrev pub note_tally : ℕ → Tally → Option Line → Tally
note_tally number k (Some (Ask x b (Pre g kind) told took)) = record k { raises = with k.raises b.0 }
note_tally number k (Some (Ask x b (Post q g kind missed) told took)) = record k { posts = with k.posts b.0 }
note_tally number k (Some (Ask x b (Mend repair) told took)) = record k { mending = true; repair = Some repair; given = give k.given number repair }
note_tally number k (Some (Begin x change)) = record k { posts = empty }
note_tally number k (Some (HealBegin x g kind)) = record k { repair = None }
note_tally number k (Some (HealEnd x g kind reply)) = blank
note_tally number k _ = k

-- at the line that begins a work or a heal nothing was asked
abbrev pub in_tally : Bool → Tally → Tally
in_tally true k = blank
in_tally false k = k

-- a line of another actor leaves the tally
abbrev pub tally_after : Bool → Bool → Tally → ℕ → Option Line → Tally
tally_after false first k number line = k
tally_after true first k number line = note_tally number (in_tally first k) line

-- the tally of a before t
unfoldable pub tally : Log → ℕ → ℕ → Tally
tally log zero a = blank
tally log (suc t) a = tally_after (is_of a (log t)) (opens (place log t a) (log t)) (tally log t a) (last log t a) (log t)
