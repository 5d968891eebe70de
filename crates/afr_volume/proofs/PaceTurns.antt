-- A client's turn keeps the pace of all actors.
use Rattle.std.proofs.Common.{◌≡◌, ◌∙◌, ℕ, ◌+◌, ◌-◌, ◌<◌, ◌≤◌, List, [], ◌∷◌, ◌++◌, Bool, sym, arith, subst, length, Some, slice_get, set, reverse}
use Rattle.std.proofs.lemmas.List.{length-reverse}
use Rattle.std.proofs.lemmas.Bool.{ne_eqb}
use Rattle.afr_base.specs.declared.ids.ActorId.{ActorId}
use Rattle.afr_law_names.specs.Descent.Descent.{IsOfPlan}
use Rattle.afr_lines.specs.Work.{ended, work}
use Rattle.afr_lines.specs.declared.line.Line.{Line}
use Rattle.afr_model.specs.Actors.{IsActor}
use Rattle.afr_plan.specs.declared.plan.Plan.{Plan}
use Rattle.afr_healer.specs.declared.healer.Healer.{Healer}
use Rattle.afr_server.specs.Serving.{Serving}
use Rattle.afr_client.specs.declared.work.WorkMachine.{WorkMachine}
use Rattle.afr_volume.specs.Acting.{HearsAny, Stepped}
use Rattle.afr_volume.specs.Keeping.{CarriesOutCommand, IsActing, IsVolume}
use Rattle.afr_volume.specs.Laws.{BeginLaws, Laws, PaceLaws}
use Rattle.afr_volume.specs.Pacing.{ArePaced, IsPaced}
use Rattle.afr_volume.specs.Turning.{ReadiedAt, StepsAt}
use Rattle.afr_volume.specs.declared.actor.Actor.{Actor}
use Rattle.afr_volume.proofs.LineKeeps.{LineKeeps, Wrote, other_ended, other_work, wrote_other}
use Rattle.afr_volume.proofs.LogLemmas.{reverse_push}
use Rattle.afr_volume.proofs.PaceAll.{set_each}
use Rattle.afr_volume.proofs.PaceLines.{left_on}
use Rattle.afr_volume.proofs.PaceWorks.{LinePaced, begins_paced, line_paced}
use Rattle.afr_volume.proofs.TurnKeeps.{carried, line_keeps}
use Rattle.afr_volume.proofs.WholeTurn.{before, busy, mine, one}

-- ---- beside a line
-- a client is as it was, where a line changes neither its work nor the count of those that it ended
pub paced_on : (p : Plan) (c : ℕ) (line : Line) (log : List Line) (w : WorkMachine) → work c (line ∷ log) ≡ work c log → ended c (line ∷ log) ≡ ended c log → IsPaced p c log w → IsPaced p c (line ∷ log) w
paced_on p c line log w same_work same_ended k = record { within = left_on p c line log _ same_work same_ended k.within; queued = k.queued }

-- so it is after a line of another actor
pub other_paced : (p : Plan) (a : ActorId) (c : ℕ) (line : Line) (log : List Line) (w : WorkMachine) → Wrote a line → (a.0 ≡ c → ⊥) → IsPaced p c log w → IsPaced p c (line ∷ log) w
other_paced p a c line log w wrote apart k = let e = ne_eqb a.0 c apart in paced_on p c line log w (other_work a c line log wrote e) (other_ended a c line log wrote e) k

-- what is presumed of a log is kept
pub is_of_plan : {crawl : Bool} (p : Plan) (log : List Line) (servers : List Serving) (actors : List Actor) (made : ℕ) → IsVolume crawl p log servers actors made → IsOfPlan p log
is_of_plan {crawl = crawl} p log servers actors made v = record { few = v.runnable.few; short = omega (arith, v.room, v.runnable.turns); crawl = crawl; follows = v.follows; honest = v.honest; lawful = v.lawful }

-- ---- a client's turn
module _ {crawl : Bool} (paces : PaceLaws) (laws : Laws) (starts : BeginLaws) (p : Plan) (a : ActorId) (items : List Line) (actors readied : List Actor) (servers : List Serving) (made : ℕ) (v : IsVolume crawl p (reverse items) servers actors made) (client : a.0 ≤ 16) (actor : IsActor p a.0)
    (room : length items < p.turns) (r : ReadiedAt p a.0 actors readied) (healers : List Healer) (k : ArePaced p (reverse items) actors healers) where
  low : 1 ≤ a.0
  low = one laws starts p a items actors readied servers made v client actor room r

  again : (a.0 - 1) + 1 ≡ a.0
  again = omega (arith, low)

  at_own : (log : List Line) (w : WorkMachine) → IsPaced p a.0 log w → IsPaced p ((a.0 - 1) + 1) log w
  at_own log w k = subst (λ (c : ℕ). IsPaced p c log w) (sym again) k

  -- it is made ready
  pub ready_paced : ArePaced p (reverse items) readied healers
  ready_paced = record { clients = rw r.set_is clients; rounds = k.rounds; rising = k.rising; within = k.within }
    where
      own : IsPaced p a.0 (reverse items) r.after.work
      own = begins_paced paces p a.0 (reverse items) servers r.before r.after client (subst (λ (c : ℕ). IsActing p (reverse items) c servers r.before) again (v.each (a.0 - 1) r.before r.was)) r.readies
          (subst (λ (c : ℕ). IsPaced p c (reverse items) r.before.work) again (k.clients (a.0 - 1) r.before r.was))

      clients : (i : ℕ) (z : Actor) → slice_get (set actors (a.0 - 1) r.after) i ≡ Some z → IsPaced p (i + 1) (reverse items) z.work
      clients = set_each (λ (i : ℕ) (z : Actor). IsPaced p (i + 1) (reverse items) z.work) actors (a.0 - 1) r.after (λ i z apart h. k.clients i z h) (at_own (reverse items) r.after.work own)

  -- and its line is written
  module _ (at : ℕ) (added : List Line) (new_actors : List Actor) (new_servers : List Serving) (line : Line) (position : at ≡ length items) (s : StepsAt HearsAny a at readied new_actors servers new_servers line) (grown : added ≡ items ++ line ∷ []) where
    stepped : Stepped HearsAny a (length (reverse items)) s.before s.after servers new_servers line
    stepped = subst (λ (at : ℕ). Stepped HearsAny a at s.before s.after servers new_servers line) (position ∙ sym (length-reverse items)) s.steps

    acting : IsActing p (reverse items) a.0 servers s.before
    acting = mine laws starts p a items actors readied servers made v client actor room r s.before s.was

    keeps : LineKeeps p a (reverse items) line s.after servers new_servers
    keeps = line_keeps laws p a (reverse items) servers (before laws starts p a items actors readied servers made v client actor room r) s.before s.after new_servers line (busy laws starts p a items actors readied servers made v client actor room r s.before s.was).0 acting stepped

    carries : CarriesOutCommand p a.0 (reverse items) s.before.visit.met s.before.visit.epochs servers s.before.work
    carries = carried laws p a (reverse items) servers (before laws starts p a items actors readied servers made v client actor room r) s.before.visit.met s.before.visit.epochs s.before.work (busy laws starts p a items actors readied servers made v client actor room r s.before s.was).0 acting.carries

    own : LinePaced p a.0 (reverse items) line s.after.work
    own = line_paced paces p a (reverse items) servers new_servers s.before s.after line (is_of_plan p (reverse items) servers actors made v) client carries (busy laws starts p a items actors readied servers made v client actor room r s.before s.was).0
        (subst (λ (c : ℕ). IsPaced p c (reverse items) s.before.work) again (ready_paced.clients (a.0 - 1) s.before s.was)) keeps.honest stepped

    clients : (i : ℕ) (z : Actor) → slice_get (set readied (a.0 - 1) s.after) i ≡ Some z → IsPaced p (i + 1) (line ∷ reverse items) z.work
    clients =
        set_each (λ (i : ℕ) (z : Actor). IsPaced p (i + 1) (line ∷ reverse items) z.work) readied (a.0 - 1) s.after
        (λ i z apart h. other_paced p a (i + 1) line (reverse items) z.work keeps.wrote (λ e. apart (omega (arith, e))) (ready_paced.clients i z h)) (at_own (line ∷ reverse items) s.after.work own.paced)

    paced : ArePaced p (line ∷ reverse items) (set readied (a.0 - 1) s.after) healers
    paced = record {
      clients = clients;
      rounds = λ i z h. let apart : (a.0 ≡ 17 + i → ⊥) = λ e. absurd (omega (arith, client, e)) in paces.beside p (17 + i) line (reverse items) z.round (wrote_other a (17 + i) line keeps.wrote (ne_eqb a.0 (17 + i) apart)) (k.rounds i z h);
      rising = (own.rising, k.rising);
      within = (own.within, k.within);
    }

    pub turn_paced : ArePaced p (reverse added) new_actors healers
    turn_paced = rw (grown, reverse_push items line, s.set_is) paced
