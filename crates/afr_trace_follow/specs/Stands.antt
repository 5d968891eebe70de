-- Where some lines of a work stand: on their path, at the object of a command, with or without an attempt.
use Rattle.std.specs.Prelude.{◌≡◌, ℕ, ◌≤◌, Option}
use Rattle.afr_lines.specs.Work.{Work}
use Rattle.afr_lines.specs.declared.answer.Told.TheVariants as as_told
use Rattle.afr_lines.specs.declared.line.Line.{Line}
use Rattle.afr_lines.specs.declared.line.Line.TheVariants.{Ask}
use Rattle.afr_lines.specs.declared.request.Request.TheVariants.{ReadName}
use Rattle.afr_model.specs.Showing.{Path, Untold, begins_attempt, has, one_name, path_by}
use Rattle.afr_model.specs.Standing.{path_upto}
use Rattle.afr_object.specs.declared.entry.Entry.{Entry}
use Rattle.afr_plan.specs.declared.plan.Plan.{Plan}
use Rattle.afr_trace_follow.specs.Seen.{names_read, path_seen}
use Rattle.afr_trace_follow.specs.declared.stand.Stand.{Stand}

-- what a line makes of a path, by the entry that it showed
abbrev pub path_shown : Line → Option Entry → Path → Path
path_shown (Ask a b (ReadName g name) as_told.Given took) entry path = one_name entry path
path_shown (Ask a b (ReadName g name) told took) entry path = Untold
path_shown line entry path = path

-- where these lines stand: after all names, after the first k of them, and whether they have begun an attempt
pub record IsAt (p : Plan) (k : ℕ) (w : Work) (s : Stand) : Type 0 where
  pub path : path_seen s.path ≡ path_by p w
  pub place : path_seen s.place ≡ path_upto k p w
  pub begun : s.begun ≡ has begins_attempt w

-- they have read at most so many names
pub record IsFew (n : ℕ) (s : Stand) : Type 0 where
  pub path : names_read (path_seen s.path) ≤ n
  pub place : names_read (path_seen s.place) ≤ n
