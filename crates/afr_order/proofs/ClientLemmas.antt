-- Turns of clients, and events between them.
use Rattle.std.proofs.Common.{◌≡◌, ◌≤◌, refl, sym, subst}
use Rattle.afr_base.specs.declared.ids.ActorId.{ActorId}
use Rattle.afr_volume.specs.Going.{AfterEvent, AfterTurn, AtFirst, ClientsRun, IsHappening, Later, Still}
use Rattle.afr_volume.specs.State.{State}
use Rattle.afr_volume.specs.Turning.{Turns}
use Rattle.afr_volume.specs.declared.turned.Turned.{Turned}

pub runs_then : (a b c : State) → ClientsRun a b → ClientsRun b c → ClientsRun a c
runs_then a b _ f AtFirst = f
runs_then a b c f (AfterEvent mid _ g comes) = AfterEvent mid c (runs_then a b mid f g) comes
runs_then a b c f (AfterTurn mid _ actor turned g client turns) = AfterTurn mid c actor turned (runs_then a b mid f g) client turns

pub runs_happen : (old new : State) → IsHappening old new → ClientsRun old new
runs_happen old _ Still = AtFirst
runs_happen old new (Later mid _ h comes) = AfterEvent mid new (runs_happen old mid h) comes

pub happens_then_turn : (a : ActorId) (old mid new : State) (turned : Turned) → a.0 ≤ 16 → IsHappening old mid → Turns a mid turned new → ClientsRun old new
happens_then_turn a old mid new turned client h turns = AfterTurn mid new a turned (runs_happen old mid h) client turns

pub happens_then_stays : (old mid new : State) → IsHappening old mid → new ≡ mid → ClientsRun old new
happens_then_stays old mid new h e = subst (ClientsRun old) (sym e) (runs_happen old mid h)
