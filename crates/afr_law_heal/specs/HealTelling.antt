-- What the lines of a heal show of it.
use Rattle.std.specs.Prelude.{ℕ, ◌≡◌, Bool, true, false}
use Rattle.afr_base.specs.declared.ids.Gfid.{Gfid}
use Rattle.afr_base.specs.declared.ids.Kind.{Kind}
use Rattle.afr_base.specs.declared.ids.Shape.{Shape}
use Rattle.afr_choice.specs.declared.looked.Looked.{Looked}
use Rattle.afr_discipline.specs.Stands.{seen_as}
use Rattle.afr_discipline.specs.declared.register.Register.{Register}
use Rattle.afr_law_heal.specs.Stages.{TellsAfter, TellsLocks, TellsLooks, TellsOver, TellsWork}
use Rattle.afr_lines.specs.Work.{Work}
use Rattle.afr_model_moves.specs.Register.{Exact, HealPart, Opening, Step, Untouched, HealLocks, WorkLocks, Looks}
use Rattle.afr_heal_machine.specs.declared.outcome.HealOutcome.{HealOutcome}
use Rattle.afr_heal_machine.specs.declared.outcome.HealOutcome.TheVariants.{Settled}

-- by whether it was ended, its step and its part
abbrev pub TellsAt : Bool → Step → HealPart → Shape → Exact → Looked → Looked → ℕ → Gfid → Kind → HealOutcome → Work → Type 0
TellsAt true step part shape r seen looked s g kind o w = TellsOver shape seen g kind o w
TellsAt false Untouched part shape r seen looked s g kind o w = TellsLocks shape r g kind w
TellsAt false HealLocks part shape r seen looked s g kind o w = TellsLocks shape r g kind w
TellsAt false WorkLocks Opening shape r seen looked s g kind o w = TellsWork shape r g kind w
TellsAt false Looks Opening shape r seen looked s g kind o w = TellsLooks shape r seen g kind w
TellsAt false step part shape r seen looked s g kind o w = TellsAfter shape r seen looked s g kind w

-- a heal that goes on will settle
pub record Tells (shape : Shape) (r : Exact) (seen looked : Looked) (s : ℕ) (g : Gfid) (kind : Kind) (o : HealOutcome) (w : Work) : Type 0 where
  pub at : TellsAt r.broken r.step r.part shape r seen looked s g kind o w
  pub will : r.broken ≡ false → o ≡ Settled

-- the same of the program's register
abbrev pub HealTells : Register → ℕ → Gfid → Kind → HealOutcome → Work → Type 0
HealTells p s g kind o w = Tells p.shape (seen_as p) p.seen p.looked s g kind o w
