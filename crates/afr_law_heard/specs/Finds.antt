-- What a work finds: what its lines show is so, or stood in the log.
use Rattle.std.specs.Prelude.{◌≡◌, ℕ, true, List, Some}
use Rattle.afr_base.specs.declared.ids.Gfid.{Gfid}
use Rattle.afr_base.specs.declared.ids.Kind.{Kind}
use Rattle.afr_choice.specs.Looks.{view_at}
use Rattle.afr_law_client.specs.Read.Looks.{IsSource}
use Rattle.afr_law.specs.ModelKinds.{SaysKind}
use Rattle.afr_lines.specs.Log.{change_at}
use Rattle.afr_lines.specs.Work.{work}
use Rattle.afr_lines.specs.declared.line.Line.{Line}
use Rattle.afr_model.specs.Honest.{Honest}
use Rattle.afr_model.specs.Showing.{At, begun_by, looked_by, path_by}
use Rattle.afr_model.specs.Standing.{change_by}
use Rattle.afr_model.specs.Sums.{has_object}
use Rattle.afr_object.specs.declared.entry.Entry.{Entry}
use Rattle.afr_object.specs.declared.entry.View.{View}
use Rattle.afr_plan.specs.declared.plan.Plan.{Plan}

-- a brick that showed its copy at the work's last look at it has the object still
abbrev pub FindsSeen : Type 0
FindsSeen = (p : Plan) (a : ℕ) (log : List Line) (g : Gfid) (b : ℕ) (view : View) → Honest p log → view_at b (looked_by g (work a log)) ≡ Some view → has_object p log g b ≡ true

-- and so has a brick with a good copy by these looks
abbrev pub FindsSource : Type 0
FindsSource = (p : Plan) (a : ℕ) (log : List Line) (g : Gfid) (kind : Kind) (b : ℕ) → Honest p log → IsSource p g kind b (work a log) → has_object p log g b ≡ true

-- an entry that leads to the object of the work's path stood on some brick, or it is the root
abbrev pub FindsPath : Type 0
FindsPath = (p : Plan) (a : ℕ) (log : List Line) (read : ℕ) (object : Entry) → path_by p (work a log) ≡ At read object → SaysKind p log object.gfid object.what

-- by the number of the work's attempt the log has the change that the work began
abbrev pub FindsAttempt : Type 0
FindsAttempt = (a : ℕ) (log : List Line) (q : ℕ) → begun_by (work a log) ≡ Some q → change_at q log ≡ change_by (work a log)
