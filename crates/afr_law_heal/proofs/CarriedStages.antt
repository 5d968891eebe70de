-- What the lines of a heal tell is told of the fields that the program's register has too.
use Rattle.std.proofs.Common.{ℕ, Bool, false, true}
use Rattle.afr_base.specs.declared.ids.Gfid.{Gfid}
use Rattle.afr_base.specs.declared.ids.Kind.{Kind}
use Rattle.afr_base.specs.declared.ids.Shape.{Shape}
use Rattle.afr_choice.specs.declared.looked.Looked.{Looked}
use Rattle.afr_heal.proofs.Carried.{restyled}
use Rattle.afr_law_heal.specs.HealTelling.{Tells, TellsAt}
use Rattle.afr_law_heal.specs.Stages.{TellsAfter, TellsLocks, TellsLooks, TellsWork}
use Rattle.afr_lines.specs.Work.{Work}
use Rattle.afr_model_moves.specs.Register.{Exact, HealLocks, HealPart, Looks, Opening, Step, Untouched, WorkLocks}
use Rattle.afr_heal_machine.specs.declared.outcome.HealOutcome.{HealOutcome}

module _ (shape : Shape) (r : Exact) (possible : ℕ → Bool) (seen looked : Looked) (s : ℕ) (g : Gfid) (kind : Kind) (o : HealOutcome) (w : Work) where
  locks : TellsLocks shape r g kind w → TellsLocks shape (restyled r possible) g kind w
  locks k = record { unseen = k.unseen; missing = k.missing; asked = k.asked; granted = k.granted; fresh = k.fresh; low = k.low; unlocked = k.unlocked; free = k.free; whole = k.whole; none = k.none; unviewed = k.unviewed }

  works : TellsWork shape r g kind w → TellsWork shape (restyled r possible) g kind w
  works k = record { unseen = k.unseen; missing = k.missing; asked = k.asked; granted = k.granted; worked = k.worked; locked = k.locked; fresh = k.fresh; low = k.low; low_held = k.low_held; unheld = k.unheld; free = k.free; whole = k.whole; none = k.none; unviewed = k.unviewed }

  looks : TellsLooks shape r seen g kind w → TellsLooks shape (restyled r possible) seen g kind w
  looks k = record { first = k.first; missing = k.missing; low = k.low; shown = k.shown; numbers = k.numbers; asked = k.asked; worked = k.worked; locked = k.locked; free = k.free; whole = k.whole; one = k.one }

  afters : TellsAfter shape r seen looked s g kind w → TellsAfter shape (restyled r possible) seen looked s g kind w
  afters k = record { begun = k.begun; still = k.still; missing = k.missing; first = k.first; none = k.none; low = k.low; shown = k.shown; numbers = k.numbers; free = k.free; asked = k.asked; worked = k.worked; watched = k.watched; opened = k.opened; closing = k.closing; closed = k.closed; unsettled = k.unsettled; one = k.one; some = k.some; more = k.more; again = k.again; finish = k.finish; parted = k.parted; present = k.present }

  stage : (broken : Bool) (step : Step) (part : HealPart) → TellsAt broken step part shape r seen looked s g kind o w → TellsAt broken step part shape (restyled r possible) seen looked s g kind o w
  stage true step part k = k
  stage false Untouched part k = locks k
  stage false HealLocks part k = locks k
  stage false WorkLocks Opening k = works k
  stage false Looks Opening k = looks k
  stage false _ _ k = afters k

  -- what isn't in the program's register isn't told of
  pub tells_restyled : Tells shape r seen looked s g kind o w → Tells shape (restyled r possible) seen looked s g kind o w
  tells_restyled k = record { at = stage r.broken r.step r.part k.at; will = k.will }
