-- A directory has a greater number than each in which a name leads to it.
use Rattle.std.specs.Prelude.{◌≡◌, ℕ, suc, ◌<◌, ◌≤◌, Bool, true, false, List, Some, length, slice_get}
use Rattle.afr_base.specs.declared.ids.Gfid.{Gfid}
use Rattle.afr_base.specs.declared.ids.NameId.{NameId}
use Rattle.afr_base.specs.declared.ids.What.TheVariants.{Dir}
use Rattle.afr_law.specs.Exactly.{IsLawfulExactly}
use Rattle.afr_law.specs.ModelKinds.{WasTable}
use Rattle.afr_lines.specs.Work.{ended, work}
use Rattle.afr_lines.specs.declared.line.Line.{Line}
use Rattle.afr_model.specs.Actors.{script_of}
use Rattle.afr_model.specs.Following.{Follows}
use Rattle.afr_model.specs.Honest.{Honest}
use Rattle.afr_model.specs.Showing.{At}
use Rattle.afr_model.specs.Standing.{path_upto}
use Rattle.afr_model.specs.Tables.{entry_at}
use Rattle.afr_object.specs.Tables.{Table}
use Rattle.afr_object.specs.declared.entry.Entry.{Entry}
use Rattle.afr_plan.specs.declared.command.Command.{Command}
use Rattle.afr_plan.specs.declared.command.Command.TheVariants as command
use Rattle.afr_plan.specs.declared.plan.Plan.{Plan}

-- what is presumed of a log
pub record IsOfPlan (p : Plan) (log : List Line) : Type 0 where
  pub few : p.shape.n ≤ 5
  pub short : length log ≤ 4000000
  pub crawl : Bool
  pub follows : Follows crawl p log
  pub honest : Honest p log
  pub lawful : IsLawfulExactly p log

-- wherever and whenever an entry of a directory stood, it leads to one with a greater number than that in which it stands
abbrev pub EntriesLeadDown : Type 0
EntriesLeadDown =
    (p : Plan) (log : List Line) → IsOfPlan p log → (t : Table) → WasTable p log t → (dir : Gfid) (name : NameId) (e : Entry) → entry_at dir name t ≡ Some e → e.what ≡ Dir
    → dir.0 < e.gfid.0

-- the words of a command name one path
abbrev pub has_one_path : Command → Bool
has_one_path (command.Rename from to) = false
has_one_path c = true

-- with each name of a directory that a client has read on the one path of its present command, it stands at a greater number
abbrev pub PathsLeadDown : Type 0
PathsLeadDown =
    (p : Plan) (log : List Line) → IsOfPlan p log → (a k : ℕ) (c : Command) (d o : Entry) → a ≤ 16 → slice_get (script_of p a) (ended a log) ≡ Some c → has_one_path c ≡ true
    → path_upto k p (work a log) ≡ At k d → path_upto (suc k) p (work a log) ≡ At (suc k) o → o.what ≡ Dir → d.gfid.0 < o.gfid.0
