-- Events, turns, and what comes after them add lines and change none.
use Rattle.std.proofs.Common.{◌≡◌, List, [], ◌∷◌, ◌++◌, refl, sym, ◌∙◌, ap, append_assoc}
use Rattle.afr_base.specs.declared.ids.ActorId.{ActorId}
use Rattle.afr_lines.specs.declared.line.Line.{Line}
use Rattle.afr_lines.specs.declared.line.Line.TheVariants.{Event}
use Rattle.afr_volume.specs.Going.{IsHappening, Later, Still}
use Rattle.afr_volume.specs.State.{State}
use Rattle.afr_volume.specs.Turning.{Comes, Turns}
use Rattle.afr_volume.specs.declared.turned.Turned.{Turned}
use Rattle.afr_volume.specs.declared.turned.Turned.TheVariants.{Ended, Full, Moved, Waits}
use Rattle.afr_order.specs.Onward.{Extends}

pub extends_none : (log : List Line) → Extends log log
extends_none log = record { later = []; whole = refl }

pub extends_then : (a b c : List Line) → Extends a b → Extends b c → Extends a c
extends_then a b c f g = record { later = g.later ++ f.later; whole = g.whole ∙ ap (λ (l : List Line). g.later ++ l) f.whole ∙ sym (append_assoc g.later f.later a) }

comes_onto : (old new : State) → Comes old new → Extends old.log new.log
comes_onto old new h = record { later = Event h.event ∷ []; whole = ap (λ (s : State). s.log) h.added }

pub happens_onto : (old new : State) → IsHappening old new → Extends old.log new.log
happens_onto old new Still = extends_none old.log
happens_onto old new (Later mid _ h comes) = extends_then old.log mid.log new.log (happens_onto old mid h) (comes_onto mid new comes)

pub turn_onto : (a : ActorId) (old new : State) (turned : Turned) → Turns a old turned new → Extends old.log new.log
turn_onto a old new Moved h = record { later = h.line ∷ []; whole = h.added }
turn_onto a old new (Waits owner) h = record { later = h.line ∷ []; whole = h.added }
turn_onto a old new Ended h = rw h.1 (extends_none old.log)
turn_onto a old new Full h = rw h.2 (extends_none old.log)

-- events, and then a turn that changed nothing or added a line
pub events_then_turn : (a : ActorId) (old mid new : State) (turned : Turned) → IsHappening old mid → Turns a mid turned new → Extends old.log new.log
events_then_turn a old mid new turned h t = extends_then old.log mid.log new.log (happens_onto old mid h) (turn_onto a mid new turned t)

pub events_and_no_turn : (old mid new : State) → IsHappening old mid → new ≡ mid → Extends old.log new.log
events_and_no_turn old mid new h e = rw e (happens_onto old mid h)
