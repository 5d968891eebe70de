-- A healer's turn keeps the pace of all actors.
use Rattle.std.proofs.Common.{◌≡◌, ℕ, ◌+◌, ◌-◌, ◌<◌, ◌≤◌, List, ◌∷◌, Bool, true, sym, arith, subst, length, Some, slice_get, set, not}
use Rattle.std.proofs.lemmas.Option.{slice_get_within}
use Rattle.std.proofs.lemmas.Bool.{ne_eqb}
use Rattle.afr_base.specs.declared.ids.ActorId.{ActorId}
use Rattle.afr_law_bound.specs.Ends.Cost.{IsWithinCost, objects_of}
use Rattle.afr_heal_round.specs.Rounding.{IsAnswered}
use Rattle.afr_lines.specs.declared.line.Line.{Line}
use Rattle.afr_plan.specs.declared.plan.Plan.{Plan}
use Rattle.afr_law_cost.specs.Healer.Paced.{IsPacedRound, ListsAtMost}
use Rattle.afr_healer.specs.Acting.{Stepped}
use Rattle.afr_healer.specs.Keeping.{IsHealer}
use Rattle.afr_healer.specs.Laws.{IsBeforeRound, IsMadeReady}
use Rattle.afr_healer.specs.declared.healer.Healer.{Healer}
use Rattle.afr_server.specs.Serving.{Serving}
use Rattle.afr_law_bound.specs.Standstill.Order.{IsRisingLine}
use Rattle.afr_volume.specs.Keeping.{AreHealers, IsWhole}
use Rattle.afr_volume.specs.Laws.{PaceLaws}
use Rattle.afr_volume.specs.Pacing.{ArePaced}
use Rattle.afr_volume.specs.Turning.{ReadiedHealerAt}
use Rattle.afr_volume.specs.declared.actor.Actor.{Actor}
use Rattle.afr_volume.proofs.HealersKeep.{before_round}
use Rattle.afr_volume.proofs.LineKeeps.{Wrote, wrote_other}
use Rattle.afr_volume.proofs.PaceAll.{set_each}
use Rattle.afr_volume.proofs.PaceTurns.{is_of_plan, other_paced}

-- a healer is made ready
pub ready_rounds : {crawl : Bool} (paces : PaceLaws) (p : Plan) (a : ℕ) (log : List Line) (servers : List Serving) (actors : List Actor) (healers new : List Healer) → AreHealers crawl p log servers healers → ReadiedHealerAt crawl p a healers new → ArePaced p log actors healers → ArePaced p log actors new
ready_rounds {crawl = crawl} paces p a log servers actors healers new h r k = record {
  clients = k.clients;
  rounds = rw r.set_is (set_each (λ (i : ℕ) (z : Healer). IsPacedRound p (17 + i) log z.round) healers (a - 17) r.after (λ i z apart is. k.rounds i z is) own);
  rising = k.rising;
  within = k.within;
}
  where
    own : IsPacedRound p (17 + (a - 17)) log r.after.round
    own = paces.ready crawl (not crawl) p (17 + (a - 17)) log servers r.brick r.before r.after (omega arith) (h.each (a - 17) r.before r.was) r.readies (k.rounds (a - 17) r.before r.was)

-- and its line is written
module _ {crawl : Bool} (paces : PaceLaws) (p : Plan) (a : ActorId) (log : List Line) (servers new : List Serving) (actors : List Actor) (healers : List Healer) (made : ℕ) (line : Line) (x y : Healer) (w : IsWhole crawl p log servers actors healers made)
    (healer : 17 ≤ a.0) (known : a.0 < 20) (some : 0 < p.shape.n) (is : slice_get healers (a.0 - 17) ≡ Some x) (ready : IsMadeReady x) (room : length log < p.turns) (s : Stepped IsAnswered a (length log) x y servers new line) where
  again : 17 + (a.0 - 17) ≡ a.0
  again = omega (arith, healer)

  before : IsBeforeRound crawl p a log servers
  before = before_round p a log servers actors made w.kept healer known some room

  -- what it was given as an index lists no more objects than there can be
  short : ListsAtMost (objects_of p) a (length log) x y servers new line
  short m b asked present = paces.index p log b asked.given.answer (is_of_plan p log servers actors made w.kept) (paces.shown crawl p a log servers new x y line m b before asked)

  own : IsPacedRound p a.0 (line ∷ log) y.round × IsWithinCost p line log
  own = paces.line crawl p a log servers new x y line before (subst (λ (c : ℕ). IsHealer crawl p log c servers x) again (w.healing.each (a.0 - 17) x is)) ready s short
      (subst (λ (c : ℕ). IsPacedRound p c log x.round) again (w.pacing.rounds (a.0 - 17) x is))

  pub round_paced : Wrote a line → IsRisingLine p line log → ArePaced p (line ∷ log) actors (set healers (a.0 - 17) y)
  round_paced wrote rises = record {
    clients = λ i z h.
        let low : i + 1 ≤ 16 = omega (arith, slice_get_within actors i z h, w.kept.same, w.kept.runnable.clients) in
        let apart : (a.0 ≡ i + 1 → ⊥) = λ e. absurd (omega (arith, healer, low, e)) in
        other_paced p a (i + 1) line log z.work wrote apart (w.pacing.clients i z h);
    rounds =
        set_each (λ (i : ℕ) (z : Healer). IsPacedRound p (17 + i) (line ∷ log) z.round) healers (a.0 - 17) y
        (λ i z apart h. paces.beside p (17 + i) line log z.round (wrote_other a (17 + i) line wrote (ne_eqb a.0 (17 + i) (λ e. apart (omega (arith, e))))) (w.pacing.rounds i z h))
        (subst (λ (c : ℕ). IsPacedRound p c (line ∷ log) y.round) (sym again) own.0);
    rising = (rises, w.pacing.rising);
    within = (own.1, w.pacing.within);
  }
