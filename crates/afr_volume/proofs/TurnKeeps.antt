-- A turn keeps what a volume keeps.
use Rattle.std.proofs.Common.{◌≡◌, ◌≢◌, ◌∙◌, ℕ, zero, suc, ◌+◌, ◌-◌, ◌<◌, ◌≤◌, ◌==◌, ◌⊎◌, Bool, true, false, List, [], ◌∷◌, refl, sym, ap, arith, subst, length, Some, slice_get, set, length-set, inl, inr}
use Rattle.std.proofs.lemmas.Bool.Decides.{eqb_tells}
use Rattle.std.proofs.lemmas.Option.{slice_get_within}
use Rattle.afr_base.specs.declared.ids.ActorId.{ActorId}
use Rattle.afr_lines.specs.Work.{ended, is_killed, work}
use Rattle.afr_lines.specs.declared.line.Line.{Line}
use Rattle.afr_lines.specs.declared.line.Next.{Next}
use Rattle.afr_lines.specs.declared.line.Next.TheVariants as next
use Rattle.afr_model.specs.Actors.{IsActor, script_of}
use Rattle.afr_model.specs.Following.{NoneDue}
use Rattle.afr_plan.specs.declared.command.Command.{Command}
use Rattle.afr_plan.specs.declared.plan.Plan.{Plan}
use Rattle.afr_law_picks.specs.Laws.{KeepsPicked, number_in}
use Rattle.afr_healer.proofs.BeforeAsks.{can_ask}
use Rattle.afr_server.specs.Serving.{Serving}
use Rattle.afr_servers.specs.declared.epochs.Epochs.{Epochs}
use Rattle.afr_client.specs.Begin.{has_machine, work_from}
use Rattle.afr_client.specs.Work.{CarriesNext, IsBusy, IsWork, next_of, register_of}
use Rattle.afr_client.specs.declared.work.WorkMachine.{WorkMachine}
use Rattle.afr_client.specs.declared.work.WorkMachine.TheVariants.{Entry, Idle, Lookup, Rename, Write}
use Rattle.afr_volume.specs.Acting.{CanStep, HearsAny, Stepped, SteppedBy, still_picked}
use Rattle.afr_volume.specs.Keeping.{CanRun, Carries, CarriesOutCommand, IsActing, IsBetween, IsVolume}
use Rattle.afr_volume.specs.Turning.{ReadiedAt, Readies}
use Rattle.afr_volume.specs.declared.actor.Actor.{Actor}
use Rattle.afr_volume.proofs.AskKeeps.{ask_keeps}
use Rattle.afr_volume.proofs.Before.{IsBefore, ask_laws, asks_next, before_ask, client_is}
use Rattle.afr_volume.proofs.Before as known
use Rattle.afr_volume.specs.Laws.{BeginLaws, Laws}
use Rattle.afr_volume.proofs.LineKeeps.{LineKeeps, others_stay, some_same, wrote_due, wrote_made}
use Rattle.afr_volume.proofs.WriteKeeps.{begin_keeps, end_keeps}

-- ---- one actor among all
pub got_same : (l : List Actor) (i : ℕ) (y z : Actor) → i < length l → slice_get (set l i y) i ≡ Some z → z ≡ y
got_same [] i y z small e = absurd (omega (arith, small))
got_same (x ∷ l) zero y z small e = sym (cc e)
got_same (x ∷ l) (suc i) y z small e = got_same l i y z (omega (arith, small)) e

pub got_other : (l : List Actor) (i j : ℕ) (y z : Actor) → (i ≡ j → ⊥) → slice_get (set l i y) j ≡ Some z → slice_get l j ≡ Some z
got_other [] i j y z apart e = e
got_other (x ∷ l) zero zero y z apart e = absurd (apart refl)
got_other (x ∷ l) zero (suc j) y z apart e = e
got_other (x ∷ l) (suc i) zero y z apart e = e
got_other (x ∷ l) (suc i) (suc j) y z apart e = got_other l i j y z (λ same. apart (ap suc same)) e

module _ (laws : Laws) (p : Plan) (a : ActorId) (log : List Line) (servers : List Serving) (before : IsBefore p a log servers) where
  -- a work that has begun carries out its command
  pub carried : (met : Bool) (epochs : Epochs) (w : WorkMachine) → IsBusy w → Carries p a.0 log met epochs servers w → CarriesOutCommand p a.0 log met epochs servers w
  carried met epochs Idle busy k = absurd busy
  carried met epochs (Lookup m) busy k = k
  carried met epochs (Write m) busy k = k
  carried met epochs (Entry m) busy k = k
  carried met epochs (Rename m) busy k = k

  -- what the bricks need for the actor's next line is there
  pub can_step : (x : Actor) → IsBusy x.work → IsActing p log a.0 servers x → CanStep a (length log) x servers
  can_step x busy acting = record {
    known = known.known laws p a log servers before;
    room = λ b s is. (laws.servers.needs.room p log b servers before.served (known.short laws p a log servers before) s is).1 a (known.known laws p a log servers before);
    asks = λ b asked load e fits carries.
        can_ask (ask_laws laws) p a log servers (before_ask laws p a log servers before) x.visit.met x.visit.epochs (CarriesNext x.work) b asked (register_of x.work)
        (asks_next laws p a log servers before x.work x.visit.met x.visit.epochs (carried x.visit.met x.visit.epochs x.work busy acting.carries) b asked e) fits load carries;
  }

  -- one line of an actor whose command has begun
  pub line_keeps : (x y : Actor) (new : List Serving) (line : Line) → IsBusy x.work → IsActing p log a.0 servers x → Stepped HearsAny a (length log) x y servers new line → LineKeeps p a log line y servers new
  line_keeps x y new line busy acting s = by_next (next_of (length log) x.work) refl s
    where
      c : CarriesOutCommand p a.0 log x.visit.met x.visit.epochs servers x.work
      c = carried x.visit.met x.visit.epochs x.work busy acting.carries

      by_next : (n : Next) → next_of (length log) x.work ≡ n → SteppedBy HearsAny a (length log) x y servers new line n → LineKeeps p a log line y servers new
      by_next (next.Ask b asked) e s = ask_keeps laws p a log servers before x y new line c b asked e s acting
      by_next (next.Begin change) e s = begin_keeps laws p a log servers before x y new line c change e s acting
      by_next (next.End said) e s = end_keeps laws p a log servers before x y new line c said e s acting
      by_next (next.HealBegin g kind) e s = absurd s
      by_next (next.HealEnd g kind said) e s = absurd s

-- ---- the whole volume
pub before_turn : {crawl : Bool} (p : Plan) (a : ActorId) (log : List Line) (servers : List Serving) (actors : List Actor) (made : ℕ) → IsVolume crawl p log servers actors made → a.0 ≤ 16 → IsActor p a.0 → length log < p.turns → IsBefore p a log servers
before_turn {crawl = crawl} p a log servers actors made v client actor room = record {
  runnable = v.runnable;
  room = room;
  served = v.served;
  crawl = crawl;
  follows = v.follows;
  honest = v.honest;
  lawful = v.lawful;
  one = (client_is p a.0 v.runnable client actor).0;
  client = (client_is p a.0 v.runnable client actor).2;
}

pub kept_turn : {crawl : Bool} (laws : Laws) (p : Plan) (a : ActorId) (log : List Line) (x y : Actor) (servers new : List Serving) (actors : List Actor) (made : ℕ) (line : Line)
    → IsVolume crawl p log servers actors made → a.0 ≤ 16 → IsActor p a.0 → slice_get actors (a.0 - 1) ≡ Some x → IsBusy x.work → is_killed a.0 log ≡ false → length log < p.turns → NoneDue p log
    → Stepped HearsAny a (length log) x y servers new line → IsVolume crawl p (line ∷ log) new (set actors (a.0 - 1) y) made
kept_turn {crawl = crawl} laws p a log x y servers new actors made line v client actor is busy alive room none s = record {
  runnable = v.runnable;
  room = room;
  served = keeps.served;
  same = length-set actors (a.0 - 1) y ∙ v.same;
  each = λ i z h. each i z h (eqb_tells a.0 (i + 1));
  made_is = v.made_is ∙ sym (wrote_made a line log keeps.wrote);
  follows = ((room, wrote_due crawl p a line log keeps.wrote (record { actor = actor; alive = alive; keeps = keeps.keeps crawl }) none), v.follows);
  honest = (keeps.honest, v.honest);
  lawful = keeps.lawful;
  replied = (keeps.replied, v.replied);
  blamed = (keeps.blamed, v.blamed);
  names = (keeps.names, v.names);
}
  where
    before : IsBefore p a log servers
    before = before_turn p a log servers actors made v client actor room

    again : (a.0 - 1) + 1 ≡ a.0
    again = omega (arith, before.one)

    mine : IsActing p log a.0 servers x
    mine = subst (λ (c : ℕ). IsActing p log c servers x) again (v.each (a.0 - 1) x is)

    keeps : LineKeeps p a log line y servers new
    keeps = line_keeps laws p a log servers before x y new line busy mine s

    each : (i : ℕ) (z : Actor) → slice_get (set actors (a.0 - 1) y) i ≡ Some z → ((a.0 == i + 1) ≡ true) × (a.0 ≡ i + 1) ⊎ ((a.0 == i + 1) ≡ false) × (a.0 ≢ i + 1) → IsActing p (line ∷ log) (i + 1) new z
    each i z h (inl e) =
        let at_i : a.0 - 1 ≡ i = omega (arith, e.1) in
        let is_y : z ≡ y = got_same actors (a.0 - 1) y z (slice_get_within actors (a.0 - 1) x is) (rw (← at_i) at h) in
        rw (is_y, ← e.1) keeps.acting
    each i z h (inr e) =
        let other = e.1 in
        let apart : (a.0 - 1 ≡ i → ⊥) = λ f. other (omega (arith, f, before.one)) in
        others_stay p a (i + 1) line log servers new z keeps.wrote e.0 (λ r. keeps.stands (i + 1) r other) (λ epochs. keeps.found (i + 1) epochs (λ f. other (sym f))) (v.each i z (got_other actors (a.0 - 1) i y z apart h))

-- ---- a command begins
as_carries : (p : Plan) (a : ℕ) (log : List Line) (met : Bool) (epochs : Epochs) (servers : List Serving) (w : WorkMachine) → CarriesOutCommand p a log met epochs servers w → Carries p a log met epochs servers w
as_carries p a log met epochs servers Idle k = absurd k.tells
as_carries p a log met epochs servers (Lookup m) k = k
as_carries p a log met epochs servers (Write m) k = k
as_carries p a log met epochs servers (Entry m) k = k
as_carries p a log met epochs servers (Rename m) k = k

-- an idle actor has written no line of its next work
pub between : (p : Plan) (log : List Line) (a : ℕ) (servers : List Serving) (x : Actor) → IsActing p log a servers x → x.work ≡ Idle → IsBetween a log x.visit.met
between p log a servers x k idle = subst (λ (w : WorkMachine). Carries p a log x.visit.met x.visit.epochs servers w) idle k.carries

starts : (laws : BeginLaws) (p : Plan) (log : List Line) (a : ℕ) (servers : List Serving) (met : Bool) (epochs : Epochs) (command : Command) → CanRun p → 0 < p.shape.n → IsBetween a log met → slice_get (script_of p a) (ended a log) ≡ Some command
    → IsWork (work_from p.shape command) → CarriesOutCommand p a log met epochs servers (work_from p.shape command)
starts laws p log a servers met epochs command run some k present sound = rw k.unmet (record {
  command = command;
  present = present;
  sound = sound;
  five = laws.five p.shape command has;
  shape = rw (laws.fresh p.shape command has) refl;
  noted = (k.fresh, laws.fresh p.shape command has);
  sessions = tt;
  tells = rw k.none (laws.tells p command run.few some has);
})
  where
    has : has_machine command ≡ true
    has = run.commands a (ended a log) command present

pub readied : (laws : BeginLaws) (p : Plan) (log : List Line) (a : ℕ) (servers : List Serving) (x z : Actor) → CanRun p → 0 < p.shape.n → IsActing p log a servers x → Readies p a x z → IsWork z.work → IsActing p log a servers z
readied laws p log a servers x z run some k (inl same) sound = rw same k
readied laws p log a servers x z run some k (inr r) sound = subst (λ (z : Actor). IsActing p log a servers z) (sym r.3) (record {
  ended_is = k.ended_is;
  killed_is = k.killed_is;
  carries = as_carries p a log x.visit.met x.visit.epochs servers (work_from p.shape r.1)
      (starts laws p log a servers x.visit.met x.visit.epochs r.1 run some (between p log a servers x k r.0) (rw k.ended_is at r.2) (subst (λ (z : Actor). IsWork z.work) r.3 sound));
  unpicked = k.unpicked;
  reads = record {
    keeps = λ command is.
        subst (λ (c : Command). KeepsPicked p c (work_from p.shape r.1) (work a log) (number_in (still_picked x.visit.met x.picked))) (some_same r.1 command (sym (rw k.ended_is at r.2) ∙ is))
        (rw (between p log a servers x k r.0).none (laws.reads p r.1 (number_in (still_picked x.visit.met x.picked))));
    fresh = k.reads.fresh;
    within = k.reads.within;
  };
})

pub kept_ready : {crawl : Bool} (laws : BeginLaws) (p : Plan) (log : List Line) (servers : List Serving) (actors new : List Actor) (made : ℕ) (a : ℕ) → 1 ≤ a → 0 < p.shape.n → IsVolume crawl p log servers actors made → ReadiedAt p a actors new → IsVolume crawl p log servers new made
kept_ready laws p log servers actors new made a one some v r = record {
  runnable = v.runnable;
  room = v.room;
  served = v.served;
  same = ap length r.set_is ∙ length-set actors (a - 1) r.after ∙ v.same;
  each = λ i z h. each i z (rw r.set_is at h) (eqb_tells a (i + 1));
  made_is = v.made_is;
  follows = v.follows;
  honest = v.honest;
  lawful = v.lawful;
  replied = v.replied;
  blamed = v.blamed;
  names = v.names;
}
  where
    again : (a - 1) + 1 ≡ a
    again = omega (arith, one)

    mine : IsActing p log a servers r.after
    mine = readied laws p log a servers r.before r.after v.runnable some (subst (λ (c : ℕ). IsActing p log c servers r.before) again (v.each (a - 1) r.before r.was)) r.readies r.sound

    each : (i : ℕ) (z : Actor) → slice_get (set actors (a - 1) r.after) i ≡ Some z → ((a == i + 1) ≡ true) × (a ≡ i + 1) ⊎ ((a == i + 1) ≡ false) × (a ≢ i + 1) → IsActing p log (i + 1) servers z
    each i z h (inl e) =
        let at_i : a - 1 ≡ i = omega (arith, e.1) in
        let is_after : z ≡ r.after = got_same actors (a - 1) r.after z (slice_get_within actors (a - 1) r.before r.was) (rw (← at_i) at h) in
        rw (is_after, ← e.1) mine
    each i z h (inr e) =
        let other = e.1 in
        let apart : (a - 1 ≡ i → ⊥) = λ f. other (omega (arith, f, one)) in
        v.each i z (got_other actors (a - 1) i r.after z apart h)
