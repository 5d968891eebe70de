-- The sources of the heals: each is one that the rule picked, also where the heal still runs.
use Rattle.std.specs.Prelude.{◌≡◌, ℕ, ◌+◌, ◌||◌, nat_lt, Bool, false, List, Option, None, Some, slice_get}
use Rattle.afr_base.specs.declared.ids.Gfid.{Gfid}
use Rattle.afr_base.specs.declared.ids.Kind.{Kind}
use Rattle.afr_base.specs.declared.ids.Kind.TheVariants.{Names}
use Rattle.afr_base.specs.declared.ids.Shape.{Shape}
use Rattle.afr_lines.specs.Log.{EachLine}
use Rattle.afr_lines.specs.Work.{Work, work}
use Rattle.afr_lines.specs.declared.line.Line.{Line}
use Rattle.afr_model.specs.Chosen.{AllKeep, Picks, SourcePicked, candidates_of, goes_on}
use Rattle.afr_model.specs.Healing.{first_by, heal_by}
use Rattle.afr_model.specs.Moved.{pieces}
use Rattle.afr_model.specs.Rounds.{heal_due}
use Rattle.afr_model.specs.Showing.{has}
use Rattle.afr_plan.specs.declared.plan.Plan.{Plan}

-- the heal has read, raised, mended or settled anything, or looked again
abbrev pub went_on : Work → Bool
went_on w = has goes_on w || nat_lt 1 (pieces w)

-- the rule picked the source by the first looks, and each line of the heal keeps to it; before there is one the heal hasn't gone on; a heal of names needs none
abbrev pub HealsFrom : Picks → Shape → Kind → Option ℕ → Work → Type 0
HealsFrom picks shape Names source w = Unit {0}
HealsFrom picks shape kind (Some b) w = picks (candidates_of shape kind (first_by w).looked) b × AllKeep b w
HealsFrom picks shape kind None w = went_on w ≡ false

-- so does the heal that an actor's round is at
abbrev pub RunsFrom : Picks → Plan → ℕ → List Line → Option ℕ → Type 0
RunsFrom picks p a log source = (g : Gfid) (kind : Kind) → heal_due p (work a log) ≡ Some (g, kind) → HealsFrom picks p.shape kind source (heal_by (work a log))

-- each heal that has ended had a source that the rule picked, and each that runs has the one beside it in the list, a source for each healer
pub record AreChosen (picks : Picks) (p : Plan) (log : List Line) (sources : List (Option ℕ)) : Type 0 where
  pub past : EachLine (SourcePicked picks p) log
  pub present : (i : ℕ) (source : Option ℕ) → slice_get sources i ≡ Some source → RunsFrom picks p (17 + i) log source
