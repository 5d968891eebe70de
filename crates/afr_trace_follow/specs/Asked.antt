-- What a work has asked along its paths, and how many attempts it has begun.
use Rattle.std.specs.Prelude.{◌≡◌, ℕ, ◌+◌, ◌≤◌, ◌==◌, ◌&&◌, [], ◌∷◌, List, Option, None, Some, if◌then◌else◌}
use Rattle.afr_base.specs.declared.ids.Gfid.{Gfid}
use Rattle.afr_lines.specs.Work.{Work}
use Rattle.afr_lines.specs.declared.answer.Told.{Told}
use Rattle.afr_lines.specs.declared.answer.Told.TheVariants as as_told
use Rattle.afr_lines.specs.declared.line.Line.{Line}
use Rattle.afr_lines.specs.declared.line.Line.TheVariants.{Ask}
use Rattle.afr_lines.specs.declared.request.Request.TheVariants.{ReadName}
use Rattle.afr_model.specs.Parts.{names_asked}
use Rattle.afr_model.specs.Showing.{begins_attempt}
use Rattle.afr_model.specs.Standing.{asks_name}
use Rattle.afr_model.specs.Tables.{entry_at, holds}
use Rattle.afr_object.specs.Tables.{is_dir, root}
use Rattle.afr_object.specs.declared.entry.Entry.{Entry}
use Rattle.afr_plan.specs.declared.plan.Plan.{Plan}
use Rattle.afr_trace_follow.specs.declared.asked.Asked.{Asked}

-- the directory in which a line asks a name
abbrev pub asks_in : Line → Option Gfid
asks_in (Ask a b (ReadName g name) told took) = Some g
asks_in line = None

-- an entry is given where the answer says so
abbrev pub if_given : Told → Option Entry → Option Entry
if_given as_told.Given entry = entry
if_given told entry = None

-- the entry that a line is given that asks a name
abbrev pub entry_given : Plan → Line → List Line → Option Entry
entry_given p (Ask a b (ReadName g name) told took) older = if_given told (entry_at g name (holds p older b.0))
entry_given p line older = None

-- the directory in which a work has asked its k-th name
abbrev pub dir_of : ℕ → Work → Option Gfid
dir_of k [] = None
dir_of k (x ∷ w) = if asks_name x.0 && (names_asked w + 1 == k) then asks_in x.0 else dir_of k w

-- the entry that it was given for its k-th name
abbrev pub entry_of : Plan → ℕ → Work → Option Entry
entry_of p k [] = None
entry_of p k (x ∷ w) = if asks_name x.0 && (names_asked w + 1 == k) then entry_given p x.0 x.1 else entry_of p k w

-- how many attempts it has begun
abbrev pub attempts : Work → ℕ
attempts [] = 0
attempts (x ∷ w) = if begins_attempt x.0 then attempts w + 1 else attempts w

-- ---- where a name is asked
-- the directory that an entry is
abbrev pub dir_in : Option Entry → Option Gfid
dir_in None = None
dir_in (Some entry) = if is_dir entry.what then Some entry.gfid else None

-- where the next name of a path is asked: the first in the root, and each further one in the directory that the name before it gave
abbrev pub dir_next : Plan → Work → Option Gfid
dir_next p w = if names_asked w == 0 then Some root else dir_in (entry_of p (names_asked w) w)

-- a line that asks a name asks it there
abbrev pub AsksThere : Plan → Line → Work → Type 0
AsksThere p (Ask a b (ReadName g name) told took) w = dir_next p w ≡ Some g
AsksThere p line w = Unit {0}

-- ---- what the code keeps of it
-- what a line is given that asks a name, by the entry that it showed
abbrev pub given_to : Line → Option Entry → Option Entry
given_to (Ask a b (ReadName g name) told took) entry = if_given told entry
given_to line entry = None

-- how many names a work has asked, where it asked the k-th and what it was given for it, and how many attempts it has begun
pub record IsAsked (p : Plan) (k : ℕ) (w : Work) (x : Asked) : Type 0 where
  pub names : x.names ≡ names_asked w
  pub dir : x.dir ≡ dir_of k w
  pub entry : x.entry ≡ entry_of p k w
  pub begun : x.begun ≡ attempts w

-- at most so many names and attempts
pub record IsFewAsked (n : ℕ) (x : Asked) : Type 0 where
  pub names : x.names ≤ n
  pub begun : x.begun ≤ n
