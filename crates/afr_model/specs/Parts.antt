-- The parts of a rename's work: each is the work of a command that has one path.
use Rattle.std.specs.Prelude.{ℕ, ◌+◌, ◌-◌, ◌||◌, ◌&&◌, nat_le, nat_lt, Bool, true, false, List, [], ◌∷◌, ◌++◌, length, if◌then◌else◌}
use Rattle.afr_base.specs.declared.ids.NameId.{NameId}
use Rattle.afr_lines.specs.Work.{Work}
use Rattle.afr_lines.specs.declared.line.Line.{Line}
use Rattle.afr_lines.specs.declared.line.Line.TheVariants.{Ask}
use Rattle.afr_lines.specs.declared.request.Request.TheVariants as request
use Rattle.afr_lines.specs.declared.lock.Domain.TheVariants.{Work as WorkDomain}
use Rattle.afr_model.specs.Showing.{has}
use Rattle.afr_model.specs.Standing.{asks_name, locks_any}

-- ---- by the names that were asked
-- how many names a work has asked
abbrev pub names_asked : Work → ℕ
names_asked [] = 0
names_asked (x ∷ w) = if asks_name x.0 then names_asked w + 1 else names_asked w

-- the lines up to the k-th name and with it
abbrev pub upto_names : ℕ → Work → Work
upto_names k [] = []
upto_names k (x ∷ w) = if nat_le k (names_asked w) then upto_names k w else x ∷ w

-- the lines after the k-th name
abbrev pub after_names : ℕ → Work → Work
after_names k [] = []
after_names k (x ∷ w) = if nat_le k (names_asked w) then x ∷ after_names k w else []

-- ---- by the transactions
-- a line gives a Work lock back, whatever it was told
abbrev pub unlocks_any : Line → Bool
unlocks_any (Ask a b (request.Unlock WorkDomain area) told took) = true
unlocks_any line = false

-- a line after these is of the second transaction: it, or one of them, asks for a lock after an unlock
abbrev pub is_again : Line → Work → Bool
is_again line [] = false
is_again line (x ∷ w) = (locks_any line && has unlocks_any (x ∷ w)) || is_again x.0 w

-- the lines of the second transaction
abbrev pub second_part : Work → Work
second_part [] = []
second_part (x ∷ w) = if is_again x.0 w then x ∷ second_part w else []

-- the lines before it
abbrev pub first_part : Work → Work
first_part [] = []
first_part (x ∷ w) = if is_again x.0 w then first_part w else x ∷ w

-- ---- the three parts of a rename
-- the walk along the first path, as that of a stat
abbrev pub the_walk : List NameId → Work → Work
the_walk from w = upto_names (length from) w

-- the making of the new name, as a create of the second path
abbrev pub the_make : List NameId → Work → Work
the_make from w = after_names (length from) (first_part w)

-- the removal of the old name, as an unlink of the first path: its second transaction, on the walk to the directory
abbrev pub the_removal : List NameId → Work → Work
the_removal from w = second_part w ++ upto_names (length from - 1) w

-- where a line after these belongs
pub data Part : Type 0 where
  Walks : Part
  Makes : Part
  Removes : Part

-- by the second transaction, and by the names that were asked
abbrev pub part_at : List NameId → Line → Work → Part
part_at from line w = if is_again line w then Removes else (if nat_lt (names_asked w) (length from) then Walks else Makes)
