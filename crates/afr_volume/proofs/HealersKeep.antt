-- Healers: a line of one keeps what a volume keeps, and all other lines leave them as they were.
use Rattle.std.proofs.Common.{◌≡◌, ◌≢◌, ◌∙◌, ℕ, zero, suc, ◌+◌, ◌-◌, ◌<◌, ◌≤◌, ◌==◌, ◌||◌, ◌⊎◌, not, Bool, true, false, List, [], ◌∷◌, refl, sym, ap, arith, subst, length, Some, slice_get, set, get_or, length-set, inl, inr}
use Rattle.std.proofs.lemmas.Bool.Decides.{eqb_tells}
use Rattle.std.proofs.lemmas.Option.{slice_get-get_or, slice_get_within}
use Rattle.std.proofs.lemmas.Bool.{ne_eqb}
use Rattle.afr_base.specs.declared.ids.ActorId.{ActorId}
use Rattle.afr_base.specs.declared.ids.BrickId.{BrickId}
use Rattle.afr_discipline.specs.declared.register.Register.{Register}
use Rattle.afr_heal_round.specs.Rounding.{IsAnswered}
use Rattle.afr_lines.specs.Work.{is_killed, kills}
use Rattle.afr_lines.specs.declared.line.Event.{Event}
use Rattle.afr_lines.specs.declared.line.Line.{Line}
use Rattle.afr_lines.specs.declared.line.Line.TheVariants as line_of
use Rattle.afr_model.specs.Actors.{IsActor, rounds_of}
use Rattle.afr_model.specs.Crawl.{CanCrawl}
use Rattle.afr_model.specs.Following.{NoneDue}
use Rattle.afr_model.specs.Kept.{IsKept}
use Rattle.afr_model_moves.specs.Ranges.{InRange}
use Rattle.afr_plan.specs.declared.plan.Plan.{Plan}
use Rattle.afr_healer.specs.Acting.{Stepped}
use Rattle.afr_healer.specs.Keeping.{IsHealer}
use Rattle.afr_healer.specs.Laws.{Crawl, IsBeforeRound, IsBeside, IsMadeReady, IsWritten, MayAsk, Round, RoundKeeps}
use Rattle.afr_healer.specs.Laws as rounds
use Rattle.afr_healer.specs.declared.healer.Healer.{Healer}
use Rattle.afr_server.specs.Serving.{Serving}
use Rattle.afr_servers.specs.Log.{AreFound}
use Rattle.afr_servers.specs.declared.epochs.Epochs.{Epochs}
use Rattle.afr_law_next.specs.Turn.{Stood}
use Rattle.afr_volume.specs.Keeping.{AreCrawling, AreHealers, IsActing, IsVolume, IsWhole}
use Rattle.afr_volume.specs.Laws.{EventLaws, RoundLaws}
use Rattle.afr_volume.specs.Pacing.{ArePaced}
use Rattle.afr_volume.specs.Turning.{KillsHealersIn, ReadiedHealerAt}
use Rattle.afr_volume.specs.declared.actor.Actor.{Actor}
use Rattle.afr_volume.proofs.TaskLemmas.{no_rounds}
use Rattle.afr_volume.proofs.LineKeeps.{Asks, Ends, Heals, Parts, Wrote, other_ended, other_place, other_work, others_stay, wrote_due, wrote_killed, wrote_made, wrote_other}

-- ---- one healer among all
got_same : (l : List Healer) (i : ℕ) (y z : Healer) → i < length l → slice_get (set l i y) i ≡ Some z → z ≡ y
got_same [] i y z small e = absurd (omega (arith, small))
got_same (x ∷ l) zero y z small e = sym (cc e)
got_same (x ∷ l) (suc i) y z small e = got_same l i y z (omega (arith, small)) e

got_other : (l : List Healer) (i j : ℕ) (y z : Healer) → (i ≡ j → ⊥) → slice_get (set l i y) j ≡ Some z → slice_get l j ≡ Some z
got_other [] i j y z apart e = e
got_other (x ∷ l) zero zero y z apart e = absurd (apart refl)
got_other (x ∷ l) zero (suc j) y z apart e = e
got_other (x ∷ l) (suc i) zero y z apart e = e
got_other (x ∷ l) (suc i) (suc j) y z apart e = got_other l i j y z (λ same. apart (ap suc same)) e

-- ---- a line of another actor
module _ (laws : RoundLaws) (p : Plan) (a : ActorId) (c : ℕ) (line : Line) (log : List Line) (old new : List Serving) (wrote : Wrote a line) (apart : a.0 ≡ c → ⊥)
    (stands : (r : Register) → Stood p.shape c log r → Stood p.shape c (line ∷ log) r) (found : (epochs : Epochs) → AreFound c epochs old → AreFound c epochs new) where
  beside : IsBeside p c line log old new
  beside = (let e = ne_eqb a.0 c apart in record {
    other = wrote_other a c line wrote e;
    same_work = other_work a c line log wrote e;
    same_place = other_place a c line log wrote e;
    same_ended = other_ended a c line log wrote e;
    stands = stands;
    found = found;
  })

  pub healer_stays : {crawl : Bool} (x : Healer) → IsHealer crawl p log c old x → IsHealer crawl p (line ∷ log) c new x
  healer_stays {crawl = crawl} x k = laws.others crawl p c line log old new x x beside same k
    where
      killed : is_killed c (line ∷ log) ≡ x.killed
      killed = wrote_killed a c line log wrote ∙ sym k.killed_is

      same : x ≡ record x { killed = is_killed c (line ∷ log) }
      same = rw killed refl

-- a line of a client leaves each healer as it was
pub healers_stay : {crawl : Bool} (laws : RoundLaws) (p : Plan) (a : ActorId) (line : Line) (log : List Line) (old new : List Serving) (healers : List Healer) → a.0 ≤ 16 → Wrote a line
    → ((c : ℕ) (r : Register) → (a.0 ≡ c → ⊥) → Stood p.shape c log r → Stood p.shape c (line ∷ log) r) → ((c : ℕ) (epochs : Epochs) → c ≢ a.0 → AreFound c epochs old → AreFound c epochs new)
    → AreHealers crawl p log old healers → AreHealers crawl p (line ∷ log) new healers
healers_stay laws p a line log old new healers client wrote stands found k = record {
  same = k.same;
  each = λ i x h. healer_stays laws p a (17 + i) line log old new wrote (apart i) (λ r. stands (17 + i) r (apart i)) (λ epochs. found (17 + i) epochs (λ e. apart i (sym e))) x (k.each i x h);
}
  where
    apart : (i : ℕ) → a.0 ≡ 17 + i → ⊥
    apart i e = absurd (omega (arith, client, e))

-- ---- an event
pub healers_happen : {crawl : Bool} (laws : RoundLaws) (events : EventLaws) (p : Plan) (event : Event) (log : List Line) (old new : List Serving) (healers after : List Healer) → InRange (line_of.Event event)
    → ((c : ℕ) (epochs : Epochs) → AreFound c epochs old → AreFound c epochs new) → KillsHealersIn event healers after → AreHealers crawl p log old healers → AreHealers crawl p (line_of.Event event ∷ log) new after
healers_happen {crawl = crawl} laws events p event log old new healers after fits found killed k = record { same = killed.count ∙ k.same; each = each }
  where
    beside : (c : ℕ) → IsBeside p c (line_of.Event event) log old new
    beside c = record { other = refl; same_work = refl; same_place = refl; same_ended = refl; stands = (events.happened p log event fits).stand c; found = found c }

    each : (i : ℕ) (y : Healer) → slice_get after i ≡ Some y → IsHealer crawl p (line_of.Event event ∷ log) (17 + i) new y
    each i y h =
        let was = get_or healers i y in
        let there = slice_get-get_or healers i y (omega (arith, slice_get_within after i y h, killed.count)) in
        let before = k.each i was there in
        let becomes = killed.each i was y there h in
        laws.others crawl p (17 + i) (line_of.Event event) log old new was y (beside (17 + i)) (becomes ∙ ap (λ (dead : Bool). record was { killed = kills (17 + i) (line_of.Event event) || dead }) before.killed_is) before

-- ---- a line of a healer
-- it gives up no name
names_no : (p : Plan) (a : ActorId) (line : Line) (log : List Line) → IsWritten a line → IsKept p line log
names_no p a line log (rounds.Asks b asked told took) = tt
names_no p a line log (rounds.Begins g kind) = tt
names_no p a line log (rounds.Heals g kind said) = tt
names_no p a line log (rounds.Ends said) = tt

to_wrote : (a : ActorId) (line : Line) → IsWritten a line → Wrote a line
to_wrote a line (rounds.Asks b asked told took) = Asks b asked told took
to_wrote a line (rounds.Begins g kind) = Parts g kind
to_wrote a line (rounds.Heals g kind said) = Heals g kind said
to_wrote a line (rounds.Ends said) = Ends said

pub before_round : {crawl : Bool} (p : Plan) (a : ActorId) (log : List Line) (servers : List Serving) (actors : List Actor) (made : ℕ) → IsVolume crawl p log servers actors made → 17 ≤ a.0 → a.0 < 20 → 0 < p.shape.n → length log < p.turns → IsBeforeRound crawl p a log servers
before_round p a log servers actors made v healer known some room = record {
  few = v.runnable.few;
  some = some;
  short = omega (arith, room, v.runnable.turns);
  served = v.served;
  follows = v.follows;
  honest = v.honest;
  lawful = v.lawful;
  healer = healer;
  known = known;
  clients = v.runnable.clients;
  bricks = λ k b is. v.runnable.rounds a.0 k b is;
}

module _ {crawl : Bool} (laws : RoundLaws) (p : Plan) (a : ActorId) (log : List Line) (servers new : List Serving) (actors : List Actor) (healers : List Healer) (made : ℕ) (line : Line) (x y : Healer) (w : IsWhole crawl p log servers actors healers made)
    (healer : 17 ≤ a.0) (known : a.0 < 20) (some : 0 < p.shape.n) (is : slice_get healers (a.0 - 17) ≡ Some x) (ready : IsMadeReady x) (room : length log < p.turns) (s : Stepped IsAnswered a (length log) x y servers new line) where
  again : 17 + (a.0 - 17) ≡ a.0
  again = omega (arith, healer)

  mine : IsHealer crawl p log a.0 servers x
  mine = subst (λ (c : ℕ). IsHealer crawl p log c servers x) again (w.healing.each (a.0 - 17) x is)

  pub round_keeps : RoundKeeps crawl p a log line y servers new
  round_keeps = laws.keeps crawl p a log servers new x y line (before_round p a log servers actors made w.kept healer known some room) mine ready s

  pub round_wrote : Wrote a line
  round_wrote = to_wrote a line round_keeps.written

  client_stays : (i : ℕ) (z : Actor) → i + 1 ≤ 16 → IsActing p log (i + 1) servers z → IsActing p (line ∷ log) (i + 1) new z
  client_stays i z low k =
      let apart : (a.0 ≡ i + 1 → ⊥) = λ e. absurd (omega (arith, healer, low, e)) in
      others_stay p a (i + 1) line log servers new z round_wrote (ne_eqb a.0 (i + 1) apart) (λ r. round_keeps.stands (i + 1) r apart) (λ epochs. round_keeps.found (i + 1) epochs (λ e. apart (sym e))) k

  pub kept_line : IsActor p a.0 → is_killed a.0 log ≡ false → NoneDue p log → IsVolume crawl p (line ∷ log) new actors made
  kept_line actor alive none = record {
    runnable = w.kept.runnable;
    room = room;
    served = round_keeps.served;
    same = w.kept.same;
    each = λ i z h. client_stays i z (omega (arith, slice_get_within actors i z h, w.kept.same, w.kept.runnable.clients)) (w.kept.each i z h);
    made_is = w.kept.made_is ∙ sym (wrote_made a line log round_wrote);
    follows = ((room, wrote_due crawl p a line log round_wrote (record { actor = actor; alive = alive; keeps = round_keeps.keeps }) none), w.kept.follows);
    honest = (round_keeps.honest, w.kept.honest);
    lawful = round_keeps.lawful;
    replied = (round_keeps.replied, w.kept.replied);
    blamed = (round_keeps.blamed, w.kept.blamed);
    names = (names_no p a line log round_keeps.written, w.kept.names);
  }

  pub kept_round : IsActor p a.0 → is_killed a.0 log ≡ false → NoneDue p log → ArePaced p (line ∷ log) actors (set healers (a.0 - 17) y) → (crawl ≡ true → AreCrawling p (line ∷ log) (set healers (a.0 - 17) y)) → IsWhole crawl p (line ∷ log) new actors (set healers (a.0 - 17) y) made
  kept_round actor alive none paced crawling = record {
    kept = kept_line actor alive none;
    healing = record {
      same = length-set healers (a.0 - 17) y ∙ w.healing.same;
      each = λ i z h. each i z h (eqb_tells a.0 (17 + i));
    };
    pacing = paced;
    crawling = crawling;
  }
    where
      each : (i : ℕ) (z : Healer) → slice_get (set healers (a.0 - 17) y) i ≡ Some z → ((a.0 == 17 + i) ≡ true) × (a.0 ≡ 17 + i) ⊎ ((a.0 == 17 + i) ≡ false) × (a.0 ≢ 17 + i) → IsHealer crawl p (line ∷ log) (17 + i) new z
      each i z h (inl e) =
          let at_i : a.0 - 17 ≡ i = omega (arith, e.1) in
          let is_y : z ≡ y = got_same healers (a.0 - 17) y z (slice_get_within healers (a.0 - 17) x is) (rw (← at_i) at h) in
          rw (is_y, ← e.1) round_keeps.acting
      each i z h (inr e) =
          let other = e.1 in
          let apart : (a.0 - 17 ≡ i → ⊥) = λ f. other (omega (arith, f, healer)) in
          healer_stays laws p a (17 + i) line log servers new round_wrote other (λ r. round_keeps.stands (17 + i) r other) (λ epochs. round_keeps.found (17 + i) epochs (λ f. other (sym f))) z
          (w.healing.each i z (got_other healers (a.0 - 17) i y z apart h))

-- ---- a healer is made ready
-- a round that begins heals what it lists, but where they crawl; then it is the first healer's
may_ask : (crawl : Bool) (p : Plan) (a k : ℕ) (b : BrickId) → 17 ≤ a → a < 20 → (crawl ≡ true → CanCrawl p) → slice_get (rounds_of p a) k ≡ Some b → MayAsk a crawl (not crawl)
may_ask false p a k b low high can is = Round
may_ask true p a k b low high can is = Crawl (by (eqb_tells a 17))
  where
    by : ((a == 17) ≡ true) × (a ≡ 17) ⊎ ((a == 17) ≡ false) × (a ≢ 17) → a ≡ 17
    by (inl e) = e.1
    by (inr e) = let other = e.1 in absurd (no_rounds p a k b (can refl) (omega (arith, other, low), omega (arith, high)) is)

module _ {crawl : Bool} (laws : RoundLaws) (p : Plan) (a : ℕ) (log : List Line) (servers : List Serving) (healers new : List Healer) (healer : 17 ≤ a) (high : a < 20) (few : p.shape.n ≤ 5) (rounds : (k : ℕ) (b : BrickId) → slice_get (rounds_of p a) k ≡ Some b → b.0 < p.shape.n)
    (can : crawl ≡ true → CanCrawl p) (k : AreHealers crawl p log servers healers) (r : ReadiedHealerAt crawl p a healers new) where
  was : IsHealer crawl p log a servers r.before
  was = (let again : 17 + (a - 17) ≡ a = omega (arith, healer) in subst (λ (c : ℕ). IsHealer crawl p log c servers r.before) again (k.each (a - 17) r.before r.was))

  begun : IsHealer crawl p log a servers r.after × IsMadeReady r.after
  begun = laws.begins crawl (not crawl) p a log servers r.brick r.before r.after few (λ idle. (rounds r.before.ended r.brick (r.present idle), may_ask crawl p a r.before.ended r.brick healer high can (r.present idle), rw was.ended_is at (r.present idle))) was r.readies

  pub ready_healer : (x : Healer) → slice_get new (a - 17) ≡ Some x → IsMadeReady x
  ready_healer x is = (let same : x ≡ r.after = got_same healers (a - 17) r.after x (slice_get_within healers (a - 17) r.before r.was) (rw r.set_is at is) in subst IsMadeReady (sym same) begun.1)

  pub kept_healer : AreHealers crawl p log servers new
  kept_healer = record {
    same = ap length r.set_is ∙ length-set healers (a - 17) r.after ∙ k.same;
    each = λ i z h. each i z (rw r.set_is at h) (eqb_tells a (17 + i));
  }
    where
      each : (i : ℕ) (z : Healer) → slice_get (set healers (a - 17) r.after) i ≡ Some z → ((a == 17 + i) ≡ true) × (a ≡ 17 + i) ⊎ ((a == 17 + i) ≡ false) × (a ≢ 17 + i) → IsHealer crawl p log (17 + i) servers z
      each i z h (inl e) =
          let at_i : a - 17 ≡ i = omega (arith, e.1) in
          let is_after : z ≡ r.after = got_same healers (a - 17) r.after z (slice_get_within healers (a - 17) r.before r.was) (rw (← at_i) at h) in
          rw (is_after, ← e.1) begun.0
      each i z h (inr e) =
          let other = e.1 in
          let apart : (a - 17 ≡ i → ⊥) = λ f. other (omega (arith, f, healer)) in
          k.each i z (got_other healers (a - 17) i r.after z apart h)
