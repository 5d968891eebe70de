-- The lines of each part of a rename's work stand in the log.
use Rattle.std.proofs.Common.{ℕ, ◌-◌, nat_le, Bool, true, false, List, [], ◌∷◌, length, if◌then◌else◌}
use Rattle.afr_base.specs.declared.ids.NameId.{NameId}
use Rattle.afr_lines.specs.Work.{Work}
use Rattle.afr_lines.specs.declared.line.Line.{Line}
use Rattle.afr_model.specs.Parts.{after_names, first_part, is_again, names_asked, second_part, the_make, the_removal, upto_names}
use Rattle.afr_law_heard.proofs.SomeLines.{AreIn, joined_in}

upto_in : (log : List Line) (k : ℕ) (w : Work) → AreIn log w → AreIn log (upto_names k w)
upto_in log k [] is = tt
upto_in log k (x ∷ w) is = go (nat_le k (names_asked w)) (upto_in log k w is.1)
  where
    go : (early : Bool) → AreIn log (upto_names k w) → AreIn log (if early then upto_names k w else x ∷ w)
    go true rest = rest
    go false rest = is

after_in : (log : List Line) (k : ℕ) (w : Work) → AreIn log w → AreIn log (after_names k w)
after_in log k [] is = tt
after_in log k (x ∷ w) is = go (nat_le k (names_asked w)) (after_in log k w is.1)
  where
    go : (late : Bool) → AreIn log (after_names k w) → AreIn log (if late then x ∷ after_names k w else [])
    go true rest = (is.0, rest)
    go false rest = tt

first_in : (log : List Line) (w : Work) → AreIn log w → AreIn log (first_part w)
first_in log [] is = tt
first_in log (x ∷ w) is = go (is_again x.0 w) (first_in log w is.1)
  where
    go : (again : Bool) → AreIn log (first_part w) → AreIn log (if again then first_part w else x ∷ w)
    go true rest = rest
    go false rest = is

second_in : (log : List Line) (w : Work) → AreIn log w → AreIn log (second_part w)
second_in log [] is = tt
second_in log (x ∷ w) is = go (is_again x.0 w) (second_in log w is.1)
  where
    go : (again : Bool) → AreIn log (second_part w) → AreIn log (if again then x ∷ second_part w else [])
    go true rest = (is.0, rest)
    go false rest = tt

pub make_in : (log : List Line) (from : List NameId) (w : Work) → AreIn log w → AreIn log (the_make from w)
make_in log from w is = after_in log (length from) (first_part w) (first_in log w is)

pub removal_in : (log : List Line) (from : List NameId) (w : Work) → AreIn log w → AreIn log (the_removal from w)
removal_in log from w is = joined_in log (second_part w) (upto_names (length from - 1) w) (second_in log w is) (upto_in log (length from - 1) w is)
