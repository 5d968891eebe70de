-- What a healer's next line needs is there.
use Rattle.std.proofs.Common.{◌≡◌, ◌∙◌, ℕ, ◌<◌, ◌⊎◌, Bool, true, false, not, List, refl, sym, ap, arith, subst, inl, inr}
use Rattle.std.proofs.lemmas.Bool.{lt-ltb}
use Rattle.afr_base.specs.declared.ids.ActorId.{ActorId}
use Rattle.afr_base.specs.declared.ids.BrickId.{BrickId}
use Rattle.afr_base.specs.declared.ids.Shape.{Shape}
use Rattle.afr_discipline.specs.Inside.{may_move}
use Rattle.afr_discipline.specs.Stands.{no_lines, seen_as}
use Rattle.afr_discipline.specs.declared.register.Move.{Move}
use Rattle.afr_discipline.specs.declared.register.Move.TheVariants as move
use Rattle.afr_discipline.specs.declared.register.Register.{Register}
use Rattle.afr_heal.specs.Carried.{MovesOf}
use Rattle.afr_heal.specs.Engine.{Ask as Asks, Begins, Ends, NextOfHeal as HealNext}
use Rattle.afr_law_heal.specs.Heard.Hears.{IsHeardInHeal}
use Rattle.afr_heal_round.specs.Rounding.{CanHear, CanHearAt, CarriesAt, Rounding, made_ready, next_at, next_of, ready_at}
use Rattle.afr_heal_round.specs.declared.stage.RoundStage.{RoundStage}
use Rattle.afr_heal_round.specs.declared.stage.RoundStage.TheVariants.{Asking, Healing, Over}
use Rattle.afr_law.specs.ModelNext.{asking}
use Rattle.afr_lines.specs.Places.{Fresh, Place, opens, place_of}
use Rattle.afr_lines.specs.Places as places
use Rattle.afr_lines.specs.declared.answer.Told.{Told}
use Rattle.afr_lines.specs.declared.line.Line.{Line}
use Rattle.afr_lines.specs.declared.line.Line.TheVariants.{Ask}
use Rattle.afr_lines.specs.declared.line.Next.{Next}
use Rattle.afr_lines.specs.declared.line.Next.TheVariants as next
use Rattle.afr_lines.specs.declared.request.Request.{Request}
use Rattle.afr_lines.specs.declared.request.Request.TheVariants.{Index, Lock}
use Rattle.afr_model_moves.specs.Keeps.{keeps_in}
use Rattle.afr_model_moves.specs.Rules.{heal_area}
use Rattle.afr_plan.specs.declared.plan.Plan.{Plan}
use Rattle.afr_lines.specs.declared.lock.Domain.TheVariants.{Heal as HealDomain}
use Rattle.afr_healer.specs.Keeping.{CarriesIts, CarriesRound, Duty, IsBetweenHeals, IsBetweenRounds, IsNotedHeal, RunsHeal, StageStands}
use Rattle.afr_healer.specs.Laws.{CanStepNext, IsBeforeRound}
use Rattle.afr_heal_machine.specs.Contents.{load_in, readied}
use Rattle.afr_heal_machine.specs.Healing.{Healing as Heal, coming, line_of}
use Rattle.afr_heal_machine.specs.declared.contents.ReadSoFar.{ReadSoFar}
use Rattle.afr_server.specs.Serving.{Serving}
use Rattle.afr_server.specs.declared.server.Served.{Served}
use Rattle.afr_servers.specs.declared.epochs.Epochs.{Epochs}
use Rattle.afr_law_next.specs.Turn.{InForce}
use Rattle.afr_discipline.specs.Free.{AllowsAsk}
use Rattle.afr_healer.proofs.BeforeAsks.{AskLaws, AsksNext, IsAskedSo, IsBeforeAsk, asked_so, can_ask}
use Rattle.afr_healer.proofs.Gathered.{RoundLaws}

-- ---- a heal's line as a request
abbrev line_back : Next → HealNext
line_back (next.Ask b asked) = Asks b.0 asked
line_back other = Ends

pub asks_of : (h : Heal) (coming : HealNext) (b : BrickId) (asked : Request) → line_of h coming ≡ next.Ask b asked → coming ≡ Asks b.0 asked
asks_of h (Asks c q) b asked e = ap line_back e
asks_of h Begins b asked e = absurd (cc e)
asks_of h Ends b asked e = absurd (cc e)

-- ---- the first line of a heal locks the object
asks_same : (b c : ℕ) (x y : Request) → Asks b x ≡ Asks c y → x ≡ y
asks_same b c x y e = cc e

lock_opens : (at : Place) (g : ℕ) (a : ActorId) (b : BrickId) (told : Told) (took : Bool) → IsBetweenHeals at → opens at (Ask a b (Lock HealDomain (heal_area g)) told took) ≡ true
lock_opens places.Indexed g a b told took k = refl
lock_opens places.Between g a b told took k = refl
lock_opens Fresh g a b told took k = refl
lock_opens places.Within g a b told took k = absurd k

first_opens : (at : Place) (g : ℕ) (a : ActorId) (b : BrickId) (asked : Request) (told : Told) (took : Bool) → IsBetweenHeals at → Lock HealDomain (heal_area g) ≡ asked → opens at (Ask a b asked told took) ≡ true
first_opens at g a b asked told took k e = subst (λ (q : Request). opens at (Ask a b q told took) ≡ true) e (lock_opens at g a b told took k)

-- ---- the index may be asked for before any line
index_allowed : (shape : Shape) (b : BrickId) → b.0 < shape.n → AllowsAsk (no_lines shape) b Index
index_allowed shape b low (move.Ask asked of) is = rw (is.0, is.1, lt-ltb b.0 shape.n low) refl
index_allowed shape b low (move.Begin change) is = absurd is
index_allowed shape b low (move.HealBegin g kind) is = absurd is
index_allowed shape b low (move.End ok) is = absurd is

-- a heal's request is allowed as its next line
heal_allowed : (r : Register) (h : Heal) (b : BrickId) (asked : Request) → ((step : Move) → MovesOf h.gfid h.kind (Asks b.0 asked) step → may_move r.shape.n (keeps_in r.shape) (seen_as r) step ≡ true) → AllowsAsk r b asked
heal_allowed r h b asked may (move.Ask at of) is = may (move.Ask at of) (ap (λ (b : BrickId). b.0) is.0, is.1)
heal_allowed r h b asked may (move.Begin change) is = absurd is
heal_allowed r h b asked may (move.HealBegin g kind) is = absurd is
heal_allowed r h b asked may (move.End ok) is = absurd is

pub ready_contents : (h : Heal) → Healing h ≡ ready_at (Healing h) → h.contents ≡ readied h.contents
ready_contents h e = ap contents_at e
  where
    contents_at : RoundStage → ReadSoFar
    contents_at (Healing h) = h.contents
    contents_at other = h.contents

-- ---- what a request of any actor rests on
pub ask_laws : RoundLaws → AskLaws
ask_laws laws = record {
  asks = laws.next.asks;
  noted = laws.next.noted;
  lawful = laws.next.lawful;
  ready = laws.next.ready;
  needs = laws.servers.needs;
  asked = laws.servers.asked;
  answers = laws.servers.answers;
}

module _ (laws : RoundLaws) (crawl : Bool) (p : Plan) (a : ActorId) (log : List Line) (servers : List Serving) (before : IsBeforeRound crawl p a log servers) where
  pub before_ask : IsBeforeAsk p a log servers
  before_ask = record { few = before.few; known = before.known; short = before.short; served = before.served; honest = before.honest; lawful = before.lawful }

  -- the answer of a request that was asked so is an honest one
  pub is_told : (new : List Serving) (after : Epochs) (b : BrickId) (asked : Request) (register : Register) (given : Served) → IsAskedSo p a log servers new after b asked register given → IsHeardInHeal p log a b asked given.answer given.took
  is_told new after b asked register given so = record { honest = before.honest; lawful = before.lawful; short = before.short; few = before.few; may = so.may; said = so.go_on.0; full = so.full }

  -- ---- the index
  pub index_next : (heals met : Bool) (epochs : Epochs) (shape : Shape) (b : BrickId) → shape ≡ p.shape → b.0 < shape.n → IsBetweenRounds a.0 log met → AsksNext p a log met epochs servers (CarriesAt (Asking heals)) b Index (no_lines p.shape)
  index_next heals true epochs shape b same low k = absurd (cc k.unmet)
  index_next heals false epochs shape b same low k = record {
    five = record { looked = refl; seen = refl; reads = refl };
    opened = λ told took. first told took;
    in_force = laws.next.anew p.shape a.0 log (asking a b Index) before.few (first _ _);
    allows = index_allowed p.shape b here;
    low = omega (arith, here, before.few);
    sessions = tt;
    brings = λ load none. tt;
  }
    where
      first : (told : Told) (took : Bool) → opens (place_of a.0 log) (Ask a b Index told took) ≡ true
      first told took = rw k.fresh refl

      here : b.0 < p.shape.n
      here = subst (λ (shape : Shape). b.0 < shape.n) same low

  -- ---- a heal
  module _ (duty : Duty) (epochs : Epochs) (h : Heal) (b : BrickId) (asked : Request) (e : coming h ≡ Asks b.0 asked) where
    pub heal_next : (met : Bool) → RunsHeal duty p a.0 log met epochs servers h → h.contents ≡ readied h.contents → AsksNext p a log met epochs servers (CarriesAt (Healing h)) b asked h.register
    heal_next met k merged = record {
      five = laws.heal.five h k.sound;
      opened = λ told took. opened met told took k.noted;
      in_force = in_force met k.noted;
      allows = heal_allowed h.register h b asked (λ step of. laws.heal.allowed h k.sound step (subst (λ (n : HealNext). MovesOf h.gfid h.kind n step) (sym e) of));
      low = omega (arith, before.few, subst (λ (shape : Shape). b.0 < shape.n) k.shape (laws.heal.low h k.sound b.0 asked e).0);
      sessions = k.sessions;
      brings = λ load carries. laws.hearing.brings p h log b.0 asked load k.sound k.holds e (subst (λ (of : ReadSoFar). load_in of load) merged carries);
    }
      where
        by_place : h.register ≡ no_lines p.shape → (told : Told) (took : Bool) → IsBetweenHeals (place_of a.0 log)
            → (coming h ≡ Asks 0 (Lock HealDomain (heal_area h.gfid.0))) ⊎ (h.register.inside ≡ true) → opens (place_of a.0 log) (Ask a b asked told took) ≡ true
        by_place none told took at (inl first) = first_opens (place_of a.0 log) h.gfid.0 a b asked told took at (asks_same 0 b.0 _ asked (sym first ∙ e))
        by_place none told took at (inr inside) = absurd (cc (sym (ap (λ (r : Register). r.inside) none) ∙ inside))

        opened : (met : Bool) (told : Told) (took : Bool) → IsNotedHeal met p.shape a.0 log h.register → opens (place_of a.0 log) (Ask a b asked told took) ≡ not met
        opened true told took noted = rw noted.0 refl
        opened false told took noted = by_place noted.1 told took noted.0 (laws.heal.inside h k.sound)

        in_force : (met : Bool) → IsNotedHeal met p.shape a.0 log h.register → InForce p.shape a.0 log (asking a b asked) h.register
        in_force true noted = laws.next.goes_on p.shape a.0 log (asking a b asked) h.register (opened true _ _ noted) noted.1
        in_force false noted = subst (λ (r : Register). InForce p.shape a.0 log (asking a b asked) r) (sym noted.1) (laws.next.anew p.shape a.0 log (asking a b asked) before.few (opened false _ _ noted))

  -- ---- a round
  abbrev AsksAt : Bool → Epochs → RoundStage → Next → Type 0
  AsksAt met epochs stage (next.Ask b asked) = (r : Register) × AsksNext p a log met epochs servers (CarriesAt stage) b asked r
  AsksAt met epochs stage other = Unit {0}

  pub asks_next : (met : Bool) (epochs : Epochs) (m : Rounding) (c : CarriesRound crawl p a.0 log met epochs servers m) → m ≡ made_ready m → (b : BrickId) (asked : Request) → next_of m ≡ next.Ask b asked
      → (r : Register) × AsksNext p a log met epochs servers (CarriesAt m.stage) b asked r
  asks_next met epochs m c ready b asked e = by m.stage c.stage (ap (λ (m : Rounding). m.stage) ready) e
    where
      by : (stage : RoundStage) → StageStands c.duty p a.0 log met epochs servers m.round stage → stage ≡ ready_at stage → next_at m.round.brick stage ≡ next.Ask b asked → (r : Register) × AsksNext p a log met epochs servers (CarriesAt stage) b asked r
      by (Asking heals) k ready e = subst (AsksAt met epochs (Asking heals)) e (no_lines p.shape, index_next heals met epochs m.shape m.round.brick c.shape c.sound.within k.0)
      by (Healing h) k ready e = (h.register, heal_next c.duty epochs h b asked (asks_of h (coming h) b asked e) met k.0 (ready_contents h ready))
      by (Over refused) k ready e = absurd (cc e)

  -- what a round hears
  hears : (met : Bool) (epochs : Epochs) (m : Rounding) (c : CarriesRound crawl p a.0 log met epochs servers m) (b : BrickId) (asked : Request) → next_of m ≡ next.Ask b asked → (given : Served)
      → IsHeardInHeal p log a b asked given.answer given.took → CanHear m given.answer
  hears met epochs m c b asked e given told = by m.stage c.stage e
    where
      by : (stage : RoundStage) → StageStands c.duty p a.0 log met epochs servers m.round stage → next_at m.round.brick stage ≡ next.Ask b asked → CanHearAt stage given.answer
      by (Asking heals) k e = tt
      by (Healing h) k e = (laws.hearing.hears p h log a b.0 asked given.answer given.took k.0.sound k.0.shape k.0.tells (asks_of h (coming h) b asked e) told).0
      by (Over refused) k e = absurd (cc e)

-- what a healer's next line needs is there
pub can_step_next : RoundLaws → CanStepNext
can_step_next laws crawl p a log servers x before acting ready m is = record {
  known = before.known;
  room = λ b s at. (laws.servers.needs.room p log b servers before.served before.short s at).1 a before.known;
  asks = λ b asked load e fits carries. can_ask (ask_laws laws) p a log servers (before_ask laws crawl p a log servers before) x.visit.met x.visit.epochs (CarriesAt m.stage) b asked (asks b asked e).0 (asks b asked e).1 fits load carries;
  hears = λ b asked load new epochs given e fits carries served.
      let so = asked_so (ask_laws laws) p a log servers (before_ask laws crawl p a log servers before) x.visit.met x.visit.epochs (CarriesAt m.stage) b asked (asks b asked e).0 (asks b asked e).1 fits load new epochs given carries served in
      hears laws crawl p a log servers before x.visit.met x.visit.epochs m c b asked e given (is_told laws crawl p a log servers before new epochs b asked (asks b asked e).0 given so);
}
  where
    c : CarriesRound crawl p a.0 log x.visit.met x.visit.epochs servers m
    c = subst (CarriesIts crawl p a.0 log x.visit.met x.visit.epochs servers) is acting.carries

    asks : (b : BrickId) (asked : Request) → next_of m ≡ next.Ask b asked → (r : Register) × AsksNext p a log x.visit.met x.visit.epochs servers (CarriesAt m.stage) b asked r
    asks b asked e = asks_next laws crawl p a log servers before x.visit.met x.visit.epochs m c (ready m is) b asked e
