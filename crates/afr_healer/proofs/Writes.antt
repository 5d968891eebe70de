-- A HealBegin or HealEnd line of a healer: it is lawful and the plan's, and the healer's round stands for it.
use Rattle.std.proofs.Common.{◌≡◌, ◌∙◌, ◌⊎◌, ℕ, ◌<◌, ◌≤◌, ◌==◌, Bool, true, false, List, ◌∷◌, refl, sym, ap, arith, subst, length, inl, inr}
use Rattle.afr_law.proofs.Model.Tasks.{no_script}
use Rattle.afr_base.specs.declared.ids.ActorId.{ActorId}
use Rattle.afr_base.specs.declared.ids.Shape.{Shape}
use Rattle.afr_base.proofs.TestLemmas.{same_number}
use Rattle.afr_discipline.specs.Notes.{noted_part}
use Rattle.afr_discipline.specs.Stands.{no_lines}
use Rattle.afr_discipline.specs.declared.register.Move.TheVariants as move
use Rattle.afr_discipline.specs.declared.register.Register.{Register}
use Rattle.afr_heal.specs.Carried.{MovesOf}
use Rattle.afr_heal.specs.Engine.{Begins, Ends, NextOfHeal}
use Rattle.afr_heal_round.specs.Rounding.{Rounding, begun_at, going_on}
use Rattle.afr_heal_round.specs.Rounding as rounding
use Rattle.afr_heal_round.specs.declared.stage.RoundStage.{RoundStage}
use Rattle.afr_heal_round.specs.declared.stage.RoundStage.TheVariants.{Healing}
use Rattle.afr_lines.specs.Places.{Between, Place, Within, opens, place_of}
use Rattle.afr_lines.specs.Work.{work}
use Rattle.afr_lines.specs.declared.line.Line.{Line}
use Rattle.afr_lines.specs.declared.line.Line.TheVariants.{HealBegin, HealEnd}
use Rattle.afr_model.specs.HealReplies.{IsHealAnswered}
use Rattle.afr_model.specs.HealReplies as model
use Rattle.afr_model.specs.Healing.{heal_by}
use Rattle.afr_model.specs.Replied.{IsOfTask}
use Rattle.afr_model_moves.specs.Ranges.{InRange}
use Rattle.afr_law_next.specs.Healed.{AllowsMove}
use Rattle.afr_law_next.specs.Standing.{ComesNext}
use Rattle.afr_plan.specs.declared.plan.Plan.{Plan}
use Rattle.afr_healer.proofs.Gathered.{RoundLaws}
use Rattle.afr_healer.proofs.WritesOn.{IsAtBorder, goes_on}
use Rattle.afr_healer.specs.Acting.{IsBegun, IsHealed}
use Rattle.afr_healer.proofs.Duties.{begun_more, due_kept, duty_more, keeps_duty, listed_kept}
use Rattle.afr_healer.specs.Keeping.{CarriesRound, IsAfterHeals, IsHealer, IsNotedHeal, RunsHeal, StageStands}
use Rattle.afr_healer.specs.Laws.{Begins as BeginsPart, Heals, IsBeforeRound, RoundKeeps}
use Rattle.afr_healer.specs.declared.healer.Healer.{Healer}
use Rattle.afr_heal_machine.specs.Healing.{Healing as Heal, coming}
use Rattle.afr_heal_machine.specs.Healing as heal
use Rattle.afr_heal_machine.specs.Outcome.{reply_of}
use Rattle.afr_server.specs.Serving.{Serving}
use Rattle.afr_servers.specs.Log.{AreServed}
use Rattle.afr_law_next.specs.Turn.{InForce, Stood}

or_right : {A B : Type 0} → (A → ⊥) → A ⊎ B → B
or_right {A} {B} other (inl k) = absurd (other k)
or_right {A} {B} other (inr k) = k

-- ---- a plan has no commands for a healer
-- a line of a healer is of its round
pub of_healer : (p : Plan) (a : ActorId) (line : Line) (log : List Line) → length p.clients ≤ 16 → 17 ≤ a.0 → model.IsHealing p.shape line (work a.0 log) → IsOfTask p a line log
of_healer p a line log clients healer healing = record {
  command = λ c is. absurd (no_script p a.0 _ c clients healer is);
  round = λ is. healing;
}

module _ (laws : RoundLaws) (crawl : Bool) (p : Plan) (a : ActorId) (log : List Line) (servers : List Serving) (before : IsBeforeRound crawl p a log servers) where
  -- a line that is no request, and opens no session, leaves the servers as they are
  pub kept_served : (line : Line) (new : List Serving) → AreServed p (line ∷ log) servers → new ≡ servers → AreServed p (line ∷ log) new
  kept_served line new k same = subst (AreServed p (line ∷ log)) (sym same) k

  module _ (x y : Healer) (new : List Serving) (written : Line) (m : Rounding) (acting : IsHealer crawl p log a.0 servers x) (carries : CarriesRound crawl p a.0 log x.visit.met x.visit.epochs servers m) (h : Heal) (at_heal : m.stage ≡ Healing h) where
    stands : StageStands carries.duty p a.0 log x.visit.met x.visit.epochs servers m.round (Healing h)
    stands = subst (λ (stage : RoundStage). StageStands carries.duty p a.0 log x.visit.met x.visit.epochs servers m.round stage) at_heal carries.stage

    runs : RunsHeal carries.duty p a.0 log x.visit.met x.visit.epochs servers h
    runs = stands.0

    -- ---- the register within the heal
    noted_inside : (met : Bool) → IsNotedHeal met p.shape a.0 log h.register → h.register.inside ≡ true → (met ≡ true) × (place_of a.0 log ≡ Within) × Stood p.shape a.0 log h.register
    noted_inside true k inside = (refl, k.0, k.1)
    noted_inside false k inside = let apart : true ≡ false = sym inside ∙ ap (λ (r : Register). r.inside) k.1 in absurd (cc apart)

    noted_more : (met : Bool) (line : Line) (r : Register) → met ≡ true → place_of a.0 (line ∷ log) ≡ Within → Stood p.shape a.0 (line ∷ log) r → IsNotedHeal met p.shape a.0 (line ∷ log) r
    noted_more true line r is place stood = (place, stood)
    noted_more false line r is place stood = absurd (cc is)

    module _ (inside : h.register.inside ≡ true) where
      is_noted : (x.visit.met ≡ true) × (place_of a.0 log ≡ Within) × Stood p.shape a.0 log h.register
      is_noted = noted_inside x.visit.met runs.noted inside

      no_opening : (line : Line) → opens (place_of a.0 log) line ≡ false
      no_opening line = ap (λ (place : Place). opens place line) is_noted.1

      in_force : (line : Line) → InForce p.shape a.0 log line h.register
      in_force line = laws.next.goes_on p.shape a.0 log line h.register (no_opening line) is_noted.2

    -- ---- a part of the heal begins
    module _ (e : coming h ≡ Begins) (s : IsBegun a (length log) h.gfid h.kind x y m servers new written) where
      abbrev begin_line : Line
      begin_line = HealBegin a h.gfid h.kind

      begin_inside : h.register.inside ≡ true
      begin_inside = or_right (λ k. grind (arith, e, k)) (laws.heal.inside h runs.sound)

      begin_allowed : AllowsMove h.register (move.HealBegin h.gfid h.kind)
      begin_allowed = laws.heal.allowed h runs.sound (move.HealBegin h.gfid h.kind) (subst (λ (n : NextOfHeal). MovesOf h.gfid h.kind n (move.HealBegin h.gfid h.kind)) (sym e) (refl, refl))

      comes : ComesNext p a begin_line log (noted_part h.register (length log) h.kind)
      comes = laws.next.heal_begins p log a h.gfid h.kind h.register before.few (laws.heal.five h runs.sound) (in_force begin_inside begin_line) begin_allowed (subst InRange s.is_line s.fits)

      begin_runs : RunsHeal carries.duty p a.0 (begin_line ∷ log) x.visit.met x.visit.epochs new (heal.begun (length log) h)
      begin_runs = record {
        sound = laws.heal.begun_stays h (length log) runs.sound e;
        shape = comes.stand.own.shape_is;
        noted = noted_more x.visit.met begin_line (noted_part h.register (length log) h.kind) (is_noted begin_inside).0 (rw (same_number a.0, (is_noted begin_inside).1) refl) comes.stand.own;
        sessions = rw s.servers runs.sessions;
        due = due_kept carries.duty p (work a.0 (begin_line ∷ log)) (work a.0 log) (rw (same_number a.0) refl) (rw (same_number a.0) refl) ∙ runs.due;
        on = runs.on;
        tells = rw (same_number a.0) (laws.telling.begun h.register h.source.0 h.gfid h.kind h.outcome (heal_by (work a.0 log)) a (length log) log runs.sound.heals e runs.tells);
        holds = laws.hearing.begun p h log a runs.sound e runs.holds;
        unrefused = rw (same_number a.0) runs.unrefused;
      }

      begin_carries : CarriesRound crawl p a.0 (begin_line ∷ log) x.visit.met x.visit.epochs new (rounding.begun (length log) m)
      begin_carries = record {
        duty = carries.duty;
        present = duty_more crawl p a.0 log before.healer m.round.brick carries.duty begin_line (rw (same_number a.0) refl) refl carries.present (λ item keeps. keeps) runs.due;
        shape = carries.shape;
        sound = record { few = carries.sound.few; within = carries.sound.within; staged = rw at_heal (begin_runs.sound, begin_runs.shape ∙ sym carries.shape) };
        begun = rw (same_number a.0) (begun_more carries.duty (begun_at (length log) m.stage) (begin_line, log) (work a.0 log));
        stage = rw at_heal (begin_runs, listed_kept carries.duty p (work a.0 (begin_line ∷ log)) (work a.0 log) m.round.list (rw (same_number a.0) refl) stands.1, rw (same_number a.0) stands.2);
      }

      pub heal_begin_keeps : RoundKeeps crawl p a log written y servers new
      heal_begin_keeps = subst (λ (l : Line). RoundKeeps crawl p a log l y servers new) (sym s.is_line) (record {
        honest = tt;
        lawful = comes.lawful before.lawful;
        served = kept_served begin_line new (laws.servers.written p log begin_line a.0 servers before.few before.served (λ b. refl) (λ z. refl) (no_opening begin_inside begin_line)) s.servers;
        keeps = keeps_duty crawl p a.0 log before.healer m.round.brick carries.duty begin_line carries.present (λ list keeps. keeps) (λ item of keeps. keeps) runs.due;
        replied = of_healer p a begin_line log before.clients before.healer tt;
        blamed = tt;
        written = BeginsPart h.gfid h.kind;
        acting = subst (λ (z : Healer). IsHealer crawl p (begin_line ∷ log) a.0 new z) (sym s.becomes) (record { ended_is = acting.ended_is; killed_is = acting.killed_is; carries = begin_carries });
        stands = comes.stand.others;
        found = λ c epochs apart found. rw s.servers found;
      })

    -- ---- the heal ends
    module _ (e : coming h ≡ Ends) (s : IsHealed a h.gfid h.kind (reply_of h.outcome h.register.seen) x y m servers new written) where
      abbrev end_line : Line
      end_line = HealEnd a h.gfid h.kind (reply_of h.outcome h.register.seen)

      end_inside : h.register.inside ≡ true
      end_inside = or_right (λ k. grind (arith, e, k)) (laws.heal.inside h runs.sound)

      end_allowed : AllowsMove h.register (move.End true)
      end_allowed = laws.heal.allowed h runs.sound (move.End true) (subst (λ (n : NextOfHeal). MovesOf h.gfid h.kind n (move.End true)) (sym e) tt)

      ends : ComesNext p a end_line log (no_lines h.register.shape) × (place_of a.0 (end_line ∷ log) ≡ Between)
      ends = laws.next.heal_ends p log a h.gfid h.kind (reply_of h.outcome h.register.seen) h.register before.few (laws.heal.five h runs.sound) (in_force end_inside end_line) end_inside end_allowed (subst InRange s.is_line s.fits)

      answered : IsHealAnswered p.shape h.gfid h.kind (heal_by (work a.0 log)) (reply_of h.outcome h.register.seen)
      answered = subst (λ (shape : Shape). IsHealAnswered shape h.gfid h.kind (heal_by (work a.0 log)) (reply_of h.outcome h.register.seen)) runs.shape
          (laws.telling.ends h.register h.source.0 h.gfid h.kind h.outcome (heal_by (work a.0 log)) runs.sound.heals runs.tells e)

      border : IsAtBorder crawl carries.duty p a.0 (end_line ∷ log) m.round.brick m.round
      border = record {
        brick_is = refl;
        present = duty_more crawl p a.0 log before.healer m.round.brick carries.duty end_line (rw (same_number a.0) refl) refl carries.present (λ item keeps. keeps) runs.due;
        within = subst (λ (shape : Shape). m.round.brick.0 < shape.n) carries.shape carries.sound.within;
        first = (end_line, log);
        older = work a.0 log;
        begun = rw (same_number a.0) refl;
        place = subst IsAfterHeals (sym ends.1) tt;
        stood = subst (λ (shape : Shape). Stood p.shape a.0 (end_line ∷ log) (no_lines shape)) runs.shape ends.0.stand.own;
        no_heal = rw (same_number a.0) refl;
        listed = listed_kept carries.duty p (work a.0 (end_line ∷ log)) (work a.0 log) m.round.list (rw (same_number a.0) refl) stands.1;
        given = rw (same_number a.0) stands.2;
        unrefused = rw (same_number a.0) runs.unrefused;
      }

      end_carries : CarriesRound crawl p a.0 (end_line ∷ log) false x.visit.epochs new (rounding.healed m)
      end_carries = subst (λ (shape : Shape). CarriesRound crawl p a.0 (end_line ∷ log) false x.visit.epochs new (going_on shape m.round)) (sym carries.shape)
          (goes_on laws crawl carries.duty p a.0 (end_line ∷ log) x.visit.epochs new before.few before.some m.round.brick m.round border)

      pub heal_end_keeps : RoundKeeps crawl p a log written y servers new
      heal_end_keeps = subst (λ (l : Line). RoundKeeps crawl p a log l y servers new) (sym s.is_line) (record {
        honest = tt;
        lawful = ends.0.lawful before.lawful;
        served = kept_served end_line new (laws.servers.written p log end_line a.0 servers before.few before.served (λ b. refl) (λ z. refl) (no_opening end_inside end_line)) s.servers;
        keeps = keeps_duty crawl p a.0 log before.healer m.round.brick carries.duty end_line carries.present (λ list keeps. keeps) (λ item of keeps. keeps) runs.due;
        replied = of_healer p a end_line log before.clients before.healer answered;
        blamed = tt;
        written = Heals h.gfid h.kind (reply_of h.outcome h.register.seen);
        acting = subst (λ (z : Healer). IsHealer crawl p (end_line ∷ log) a.0 new z) (sym s.becomes) (record { ended_is = acting.ended_is; killed_is = acting.killed_is; carries = end_carries });
        stands = ends.0.stand.others;
        found = λ c epochs apart found. rw s.servers found;
      })
