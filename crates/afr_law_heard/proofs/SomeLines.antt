-- Some lines of a log, each with those before it: of a work, or of a part of one.
use Rattle.std.proofs.Common.{◌≡◌, ◌⊎◌, ℕ, Bool, true, false, List, [], ◌∷◌, ◌++◌, refl, sym, subst, if◌then◌else◌, inl, inr}
use Rattle.afr_base.specs.declared.ids.Gfid.{Gfid}
use Rattle.afr_lines.specs.Work.{Work, is_end, is_of, work}
use Rattle.afr_lines.specs.declared.line.Line.{Line}
use Rattle.afr_model.specs.Honest.{Honest}
use Rattle.afr_model.specs.Sums.{has_object}
use Rattle.afr_plan.specs.declared.plan.Plan.{Plan}
use Rattle.afr_law_tables.specs.TableLaws.{copy_stays}

-- the log began with these lines, or has no more
abbrev pub IsBefore : List Line → List Line → Type 0
IsBefore start [] = start ≡ []
IsBefore start (line ∷ older) = (start ≡ line ∷ older) ⊎ IsBefore start older

-- each line stands in the log, after those with which it is paired
abbrev pub AreIn : List Line → Work → Type 0
AreIn log [] = Unit {0}
AreIn log (x ∷ w) = IsBefore (x.0 ∷ x.1) log × AreIn log w

in_later : (line : Line) (older : List Line) (w : Work) → AreIn older w → AreIn (line ∷ older) w
in_later line older [] k = tt
in_later line older (x ∷ w) k = (inr k.0, in_later line older w k.1)

-- so do those of a work
pub work_in : (a : ℕ) (log : List Line) → AreIn log (work a log)
work_in a [] = tt
work_in a (line ∷ older) = go (is_of a line) (is_end line) (work_in a older)
  where
    go : (own last : Bool) → AreIn older (work a older) → AreIn (line ∷ older) (if own then (if last then [] else (line, older) ∷ work a older) else work a older)
    go true true k = tt
    go true false k = (inl refl, in_later line older (work a older) k)
    go false last k = in_later line older (work a older) k

pub joined_in : (log : List Line) (w v : Work) → AreIn log w → AreIn log v → AreIn log (w ++ v)
joined_in log [] v k h = h
joined_in log (x ∷ w) v k h = (k.0, joined_in log w v k.1 h)

-- ---- what holds of a log, and of what it began with
pub honest_before : (p : Plan) (start log : List Line) → IsBefore start log → Honest p log → Honest p start
honest_before p start [] is honest = subst (Honest p) (sym is) honest
honest_before p start (line ∷ older) (inl is) honest = subst (Honest p) (sym is) honest
honest_before p start (line ∷ older) (inr k) honest = honest_before p start older k honest.1

-- no line takes an object away
pub copy_since : (p : Plan) (g : Gfid) (b : ℕ) (start log : List Line) → IsBefore start log → has_object p start g b ≡ true → has_object p log g b ≡ true
copy_since p g b start [] is h = subst (λ (x : List Line). has_object p x g b ≡ true) is h
copy_since p g b start (line ∷ older) (inl is) h = subst (λ (x : List Line). has_object p x g b ≡ true) is h
copy_since p g b start (line ∷ older) (inr k) h = copy_stays p line older b g (copy_since p g b start older k h)
