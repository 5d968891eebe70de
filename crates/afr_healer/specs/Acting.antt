-- One line of a healer: what its round would write next, what the bricks make of it, and what it makes of the answer.
use Rattle.std.specs.Prelude.{◌≡◌, ℕ, ◌+◌, ◌<◌, Bool, true, false, List, [], ◌∷◌, ◌++◌, Option, None, Some}
use Rattle.afr_base.specs.declared.ids.ActorId.{ActorId}
use Rattle.afr_base.specs.declared.ids.BrickId.{BrickId}
use Rattle.afr_base.specs.declared.ids.Gfid.{Gfid}
use Rattle.afr_base.specs.declared.ids.Kind.{Kind}
use Rattle.afr_base.specs.declared.ids.Shape.{Shape}
use Rattle.afr_heal_round.specs.Rounding as rounding
use Rattle.afr_heal_round.specs.Rounding.{CanHear, CarriesNext, Rounding, made_ready, next_of, round_from}
use Rattle.afr_lines.specs.declared.answer.Answer.{Answer}
use Rattle.afr_lines.specs.declared.line.Line.{Line}
use Rattle.afr_lines.specs.declared.line.Line.TheVariants as line
use Rattle.afr_lines.specs.declared.line.Next.{Next}
use Rattle.afr_lines.specs.declared.line.Next.TheVariants as next
use Rattle.afr_lines.specs.declared.reply.HealReply.{HealReply}
use Rattle.afr_lines.specs.declared.reply.Reply.{Reply}
use Rattle.afr_lines.specs.declared.request.Request.{Request}
use Rattle.afr_lines.specs.declared.request.Request.TheVariants.{Index}
use Rattle.afr_model_moves.specs.Ranges.{InRange, RequestInRange}
use Rattle.afr_object.specs.declared.change.Load.{Load}
use Rattle.afr_healer.specs.declared.healer.Healer.{Healer}
use Rattle.afr_server.specs.NextLine.{told_line}
use Rattle.afr_server.specs.Serving.{HasEpoch, Serving}
use Rattle.afr_server.specs.declared.server.Served.{Served}
use Rattle.afr_servers.specs.Calls.{At}
use Rattle.afr_servers.specs.Visiting.{CanAsk, ServesNext}
use Rattle.afr_servers.specs.declared.epochs.Epochs.{Epochs}
use Rattle.afr_servers.specs.declared.visit.Visit.{Visit}

-- a healer that has begun nothing
pub record IsNewHealer (x : Healer) : Type 0 where
  pub ended : x.ended ≡ 0
  pub killed : x.killed ≡ false
  pub met : x.visit.met ≡ false
  pub idle : x.round ≡ None

-- a log, its oldest line first, has one line more, of which a fact holds
pub record Adds (IsSo : Line → Type 0) (old new : List Line) : Type 0 where
  pub line : Line
  pub added : new ≡ old ++ line ∷ []
  pub is_so : IsSo line

-- ---- a round begins
-- the present round, or one that begins
abbrev pub round_or : Shape → Bool → BrickId → Option Rounding → Rounding
round_or shape heals b None = round_from shape heals b
round_or shape heals b (Some m) = m

-- a healer has a round, and the memory of its coming move
abbrev pub Readies : Shape → Bool → BrickId → Healer → Healer → Type 0
Readies shape heals b x z = z ≡ record x { round = Some (made_ready (round_or shape heals b x.round)) }

-- ---- what the bricks need
-- what a healer's next line needs: of the bricks, and of what they may answer
pub record CanStepWith (a : ActorId) (v : Visit) (m : Rounding) (servers : List Serving) : Type 0 where
  pub known : a.0 < 20
  pub room : (b : ℕ) → At b servers (HasEpoch a)
  pub asks : (b : BrickId) (request : Request) (load : Load) → next_of m ≡ next.Ask b request → RequestInRange request → CarriesNext m load → CanAsk a v b request load servers
  pub hears :
      (b : BrickId) (request : Request) (load : Load) (new : List Serving) (epochs : Epochs) (given : Served) → next_of m ≡ next.Ask b request → RequestInRange request → CarriesNext m load
      → ServesNext v.met a b request load v.epochs servers new epochs given → CanHear m given.answer

abbrev pub CanStep : ActorId → ℕ → Healer → List Serving → Type 0
CanStep a at x servers = (m : Rounding) → x.round ≡ Some m → CanStepWith a x.visit m servers

abbrev pub met_after : Request → Bool
met_after Index = false
met_after other = true

-- what an answer leaves of a round
abbrev pub Hearing : Type 1
Hearing = Answer → ℕ → Rounding → Rounding → Type 0

-- a request was asked, with the contents that the round brings, and its answer heard
pub record IsAsked (Hears : Hearing) (a : ActorId) (at : ℕ) (b : BrickId) (request : Request) (x y : Healer) (m : Rounding) (old new : List Serving) (written : Line) : Type 0 where
  pub given : Served
  pub epochs : Epochs
  pub after : Rounding
  pub load : Load
  pub carries : CarriesNext m load
  pub fits : RequestInRange request
  pub served : ServesNext x.visit.met a b request load x.visit.epochs old new epochs given
  pub is_line : written ≡ told_line a b request given
  pub fed : Hears given.answer at m after
  pub becomes : y ≡ record { ended = x.ended; killed = x.killed; visit = record { met = met_after request; epochs = epochs }; round = Some after }

-- a part of a heal was begun
pub record IsBegun (a : ActorId) (at : ℕ) (g : Gfid) (kind : Kind) (x y : Healer) (m : Rounding) (old new : List Serving) (written : Line) : Type 0 where
  pub is_line : written ≡ line.HealBegin a g kind
  pub fits : InRange written
  pub servers : new ≡ old
  pub becomes : y ≡ record x { round = Some (rounding.begun at m) }

-- a heal has ended
pub record IsHealed (a : ActorId) (g : Gfid) (kind : Kind) (said : HealReply) (x y : Healer) (m : Rounding) (old new : List Serving) (written : Line) : Type 0 where
  pub is_line : written ≡ line.HealEnd a g kind said
  pub fits : InRange written
  pub servers : new ≡ old
  pub becomes : y ≡ record { ended = x.ended; killed = x.killed; visit = record x.visit { met = false }; round = Some (rounding.healed m) }

-- a round has ended
pub record IsEnded (a : ActorId) (said : Reply) (x y : Healer) (old new : List Serving) (written : Line) : Type 0 where
  pub is_line : written ≡ line.End a said
  pub fits : InRange written
  pub servers : new ≡ old
  pub becomes : y ≡ record { ended = x.ended + 1; killed = x.killed; visit = record x.visit { met = false }; round = None }

-- one line of a healer, by what its round would write next
abbrev pub SteppedBy : Hearing → ActorId → ℕ → Healer → Healer → Rounding → List Serving → List Serving → Line → Next → Type 0
SteppedBy Hears a at x y m old new written (next.Ask b request) = IsAsked Hears a at b request x y m old new written
SteppedBy Hears a at x y m old new written (next.HealBegin g kind) = IsBegun a at g kind x y m old new written
SteppedBy Hears a at x y m old new written (next.HealEnd g kind said) = IsHealed a g kind said x y m old new written
SteppedBy Hears a at x y m old new written (next.End said) = IsEnded a said x y old new written
SteppedBy Hears a at x y m old new written (next.Begin change) = ⊥

-- one line of a healer whose round has begun
pub record Stepped (Hears : Hearing) (a : ActorId) (at : ℕ) (x y : Healer) (old new : List Serving) (written : Line) : Type 0 where
  pub round : Rounding
  pub present : x.round ≡ Some round
  pub steps : SteppedBy Hears a at x y round old new written (next_of round)
