-- A line that takes what it counts from what a round has left is within the round's cost, and leaves the round so.
use Rattle.std.proofs.Common.{◌≡◌, ℕ, ◌+◌, ◌≤◌, true, false, List, ◌∷◌, Option, None, Some, refl, arith, slice_get}
use Rattle.std.specs.Prelude.{if◌then◌else◌}
use Rattle.afr_base.specs.declared.ids.ActorId.{ActorId}
use Rattle.afr_law_bound.specs.Ends.Cost.{IsWithinCost, costs_of, counted, objects_of, spent}
use Rattle.afr_heal_round.specs.Rounding.{Rounding}
use Rattle.afr_lines.specs.Work.{ended, ends_work, is_end, is_of, work}
use Rattle.afr_lines.specs.declared.line.Line.{Line}
use Rattle.afr_lines.specs.declared.line.Line.TheVariants.{End}
use Rattle.afr_lines.specs.declared.reply.Reply.{Reply}
use Rattle.afr_plan.specs.declared.plan.Plan.{Plan}
use Rattle.afr_law_cost.proofs.Healer.Counting.{self}
use Rattle.afr_law_cost.specs.Healer.Paced.{IsPacedRound}
use Rattle.afr_law_cost.specs.Round.Laws.{RoundEndLeft}
use Rattle.afr_law_cost.specs.Round.Left.{AreRooted, round_left}
use Rattle.afr_law.proofs.Alike.Raises.{equal_is}

-- the actor's line, which ends no work
pub record GoesOn (a : ActorId) (line : Line) : Type 0 where
  pub own : is_of a.0 line ≡ true
  pub alone : (c : ℕ) → is_of c line ≡ true → c ≡ a.0
  pub on : is_end line ≡ false
  pub ends_none : ends_work a.0 line ≡ false

-- what a line keeps
abbrev pub IsKept : Plan → ActorId → List Line → Option Rounding → Line → Type 0
IsKept p a log round line = IsPacedRound p a.0 (line ∷ log) round × IsWithinCost p line log

module _ (end : RoundEndLeft) (p : Plan) (a : ActorId) (log : List Line) (m : Rounding) (k : IsPacedRound p a.0 log (Some m)) where
  -- a line within the round
  pub goes_on : (line : Line) (after : Rounding) → GoesOn a line → round_left (objects_of p) after + counted line ≤ round_left (objects_of p) m → AreRooted after.stage → IsKept p a log (Some after) line
  goes_on line after on nearer rooted = (record { within = within; rooted = rooted }, is_within)
    where
      spends : spent (work a.0 (line ∷ log)) ≡ counted line + spent (work a.0 log)
      spends = (let own = on.own in let no_end = on.on in rw (own, no_end) refl)

      within : (cost : ℕ) → slice_get (costs_of p a.0) (ended a.0 (line ∷ log)) ≡ Some cost → spent (work a.0 (line ∷ log)) + round_left (objects_of p) after ≤ cost
      within cost e =
          let none = on.ends_none in
          let h = k.within cost (rw none at e) in
          let s = spends in
          omega (arith, h, s, nearer)

      own_cost : (cost : ℕ) → slice_get (costs_of p a.0) (ended a.0 log) ≡ Some cost → spent (work a.0 log) + counted line + (if is_end line then 0 else 1) ≤ cost
      own_cost cost e =
          let h = k.within cost e in
          let left = end (objects_of p) after in
          let no_end = on.on in
          rw no_end (omega (arith, h, nearer, left))

      is_within : IsWithinCost p line log
      is_within c cost mine e = (let same = on.alone c mine in rw same (own_cost cost (rw same at e)))

  -- the End line, for which a line is left
  pub ends_round : (said : Reply) → IsKept p a log None (End a said)
  ends_round said = (record { within = λ cost e. spends_none cost; rooted = tt }, is_within)
    where
      spends_none : (cost : ℕ) → spent (work a.0 (End a said ∷ log)) + 0 ≤ cost
      spends_none cost = (let mine = self a.0 in rw mine (omega arith))

      own_cost : (cost : ℕ) → slice_get (costs_of p a.0) (ended a.0 log) ≡ Some cost → spent (work a.0 log) + 1 + 0 ≤ cost
      own_cost cost e =
          let h = k.within cost e in
          let left = end (objects_of p) m in
          omega (arith, h, left)

      is_within : IsWithinCost p (End a said) log
      is_within c cost mine e = (let same = equal_is a.0 c mine in rw same (own_cost cost (rw same at e)))
