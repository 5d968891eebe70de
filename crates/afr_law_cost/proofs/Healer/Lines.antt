-- Each line of a healer keeps its round within its cost, and is within it.
use Rattle.std.proofs.Common.{◌≡◌, ◌∙◌, ℕ, ◌+◌, ◌≤◌, List, Option, None, Some, refl, sym, ap, arith, subst, length}
use Rattle.afr_base.specs.declared.ids.ActorId.{ActorId}
use Rattle.afr_base.specs.declared.ids.BrickId.{BrickId}
use Rattle.afr_base.specs.declared.ids.Gfid.{Gfid}
use Rattle.afr_base.specs.declared.ids.Kind.{Kind}
use Rattle.afr_law_bound.specs.Ends.Cost.{counted, objects_of}
use Rattle.afr_law_cost.specs.Left.{taken}
use Rattle.afr_heal_round.specs.Rounding.{CanHear, IsAnswered, IsAnsweredAt, IsRounding, Rounding, begun, healed, is_beginning, is_ending, next_at, next_of}
use Rattle.afr_heal_round.specs.declared.stage.RoundStage.{RoundStage}
use Rattle.afr_heal_round.specs.declared.stage.RoundStage.TheVariants.{Asking, Healing, Over}
use Rattle.afr_lines.specs.Told.{told_by}
use Rattle.afr_lines.specs.declared.answer.Answer.{Answer}
use Rattle.afr_lines.specs.declared.answer.Answer.TheVariants as answer_of
use Rattle.afr_lines.specs.declared.line.Line.{Line}
use Rattle.afr_lines.specs.declared.line.Line.TheVariants as line_of
use Rattle.afr_lines.specs.declared.line.Next.{Next}
use Rattle.afr_lines.specs.declared.line.Next.TheVariants as next
use Rattle.afr_lines.specs.declared.reply.HealReply.{HealReply}
use Rattle.afr_lines.specs.declared.request.Request.{Request}
use Rattle.afr_lines.specs.declared.request.Request.TheVariants.{Index}
use Rattle.afr_plan.specs.declared.plan.Plan.{Plan}
use Rattle.afr_law_cost.proofs.Healer.Counting.{counted_ask, self}
use Rattle.afr_law_cost.proofs.Healer.Spending.{GoesOn, IsKept, ends_round, goes_on}
use Rattle.afr_law_cost.specs.Healer.Laws.{RoundPacedLine}
use Rattle.afr_law_cost.specs.Healer.Paced.{IsPacedRound, ListsAtMost}
use Rattle.afr_law_cost.specs.Round.Laws.{RoundAsksNearer, RoundBeginsNearer, RoundEndLeft, RoundHealedNearer}
use Rattle.afr_law_cost.specs.Round.Left.{AreRooted, Lists, left_in_stage, round_left, taken_by}
use Rattle.afr_healer.specs.Acting.{CanStepWith, IsAsked, IsBegun, IsHealed, SteppedBy}
use Rattle.afr_healer.specs.Keeping.{CarriesIts, CarriesRound}
use Rattle.afr_healer.specs.Laws.{CanStepNext}
use Rattle.afr_healer.specs.declared.healer.Healer.{Healer}
use Rattle.afr_heal_machine.specs.Healing.{Healing as Heal}
use Rattle.afr_server.specs.NextLine.{told_line}
use Rattle.afr_server.specs.Serving.{Serving}
use Rattle.afr_law.proofs.Alike.Raises.{equal_is}

-- the laws of the crates below that a line's cost rests on
pub record LineLaws : Type 0 where
  pub can : CanStepNext
  pub asked : RoundAsksNearer
  pub begun : RoundBeginsNearer
  pub healed : RoundHealedNearer
  pub end : RoundEndLeft

-- ---- an answer
-- an answer lists what it lists
lists_so : Answer → ℕ
lists_so (answer_of.Index list) = length list
lists_so other = 0

lists_itself : (answer : Answer) → Lists (lists_so answer) answer
unfolding lists_so
lists_itself (answer_of.Index list) = omega arith
lists_itself other = tt

-- within a heal the length of the index is of no weight any more
left_healing : (objects others : ℕ) (m : Rounding) (h : Heal) → m.stage ≡ Healing h → round_left objects m ≡ round_left others m
left_healing objects others m h is = ap (left_in_stage m.shape.n objects m.round) is ∙ sym (ap (left_in_stage m.shape.n others m.round) is)

index_asked : (c b : BrickId) (request : Request) → next.Ask c Index ≡ next.Ask b request → Index ≡ request
index_asked c b request e = cc e

module _ (nearer : RoundAsksNearer) (objects : ℕ) (m after : Rounding) (answer : Answer) (at : ℕ) (sound : IsRounding m) (rooted : AreRooted m.stage) (can : CanHear m answer) (fed : IsAnswered answer at m after) where
  -- the round comes nearer by what its next line takes
  abbrev ComesNearer : Type 0
  ComesNearer = (round_left objects after + taken_by (next_of m) answer ≤ round_left objects m) × AreRooted after.stage

  heard_in_heal : (h : Heal) → m.stage ≡ Healing h → IsAnsweredAt answer at (Healing h) m after → ComesNearer
  heard_in_heal h is by_heal =
      let n = nearer (lists_so answer) m after answer at sound rooted (lists_itself answer) can fed in
      let before = left_healing objects (lists_so answer) m h is in
      let now : round_left objects after ≡ round_left (lists_so answer) after = left_healing objects (lists_so answer) after by_heal.0 (ap (λ (m : Rounding). m.stage) by_heal.2) in
      (omega (arith, n.0, before, now), n.1)

  -- only the answer to a request for the index matters
  heard : (b : BrickId) (request : Request) → next_of m ≡ next.Ask b request → (Index ≡ request → Lists objects answer) → ComesNearer
  heard b request e lists = by m.stage refl e fed
    where
      by : (stage : RoundStage) → m.stage ≡ stage → next_at m.round.brick stage ≡ next.Ask b request → IsAnsweredAt answer at stage m after → ComesNearer
      by (Asking heals) is e fed_at = nearer objects m after answer at sound rooted (lists (index_asked m.round.brick b request e)) can fed
      by (Healing h) is e fed_at = heard_in_heal h is fed_at
      by (Over refused) is e fed_at = absurd (cc e)

-- ---- the lines
module _ (laws : LineLaws) (p : Plan) (a : ActorId) (log : List Line) (servers new : List Serving) (x y : Healer) (line : Line) (m : Rounding) (can : CanStepWith a x.visit m servers) (present : x.round ≡ Some m) (sound : IsRounding m)
    (lists : ListsAtMost (objects_of p) a (length log) x y servers new line) (k : IsPacedRound p a.0 log (Some m)) where
  to_line : (written : Line) (round : Option Rounding) → line ≡ written → y.round ≡ round → IsKept p a log round written → IsKept p a log y.round line
  to_line written round e f kept = rw (e, f) kept

  lists_index : (b : BrickId) (request : Request) → Index ≡ request → (q : IsAsked IsAnswered a (length log) b request x y m servers new line) → Lists (objects_of p) q.given.answer
  lists_index b request is = subst (λ (request : Request). (q : IsAsked IsAnswered a (length log) b request x y m servers new line) → Lists (objects_of p) q.given.answer) is (λ q. lists m b q present)

  asks : (b : BrickId) (request : Request) → next_of m ≡ next.Ask b request → IsAsked IsAnswered a (length log) b request x y m servers new line → IsKept p a log y.round line
  asks b request e q = to_line (told_line a b request q.given) (Some q.after) q.is_line (ap (λ (z : Healer). z.round) q.becomes) (goes_on laws.end p a log m k (told_line a b request q.given) q.after own spends near.1)
    where
      own : GoesOn a (told_line a b request q.given)
      own = record { own = self a.0; alone = λ c h. equal_is a.0 c h; on = refl; ends_none = refl }

      near : (round_left (objects_of p) q.after + taken_by (next_of m) q.given.answer ≤ round_left (objects_of p) m) × AreRooted q.after.stage
      near =
          heard laws.asked (objects_of p) m q.after q.given.answer (length log) sound k.rooted (can.hears b request q.load new q.epochs q.given e q.fits q.carries q.served) q.fed b request e
          (λ is. lists_index b request is q)

      spends : round_left (objects_of p) q.after + counted (told_line a b request q.given) ≤ round_left (objects_of p) m
      spends =
          let n = near.0 in
          let counts = counted_ask a b request (told_by q.given.answer) q.given.took in
          let takes : taken_by (next_of m) q.given.answer ≡ taken request (told_by q.given.answer) = ap (λ (n : Next). taken_by n q.given.answer) e in
          omega (arith, n, counts, takes)

  begins : (g : Gfid) (kind : Kind) → next_of m ≡ next.HealBegin g kind → IsBegun a (length log) g kind x y m servers new line → IsKept p a log y.round line
  begins g kind e q =
      let n = laws.begun (objects_of p) m (length log) sound k.rooted (ap is_beginning e) in
      to_line (line_of.HealBegin a g kind) (Some (begun (length log) m)) q.is_line (ap (λ (z : Healer). z.round) q.becomes)
      (goes_on laws.end p a log m k (line_of.HealBegin a g kind) (begun (length log) m) (record { own = self a.0; alone = λ c h. equal_is a.0 c h; on = refl; ends_none = refl }) n.0 n.1)

  heals : (g : Gfid) (kind : Kind) (said : HealReply) → next_of m ≡ next.HealEnd g kind said → IsHealed a g kind said x y m servers new line → IsKept p a log y.round line
  heals g kind said e q =
      let n = laws.healed (objects_of p) m sound (ap is_ending e) in
      to_line (line_of.HealEnd a g kind said) (Some (healed m)) q.is_line (ap (λ (z : Healer). z.round) q.becomes)
      (goes_on laws.end p a log m k (line_of.HealEnd a g kind said) (healed m) (record { own = self a.0; alone = λ c h. equal_is a.0 c h; on = refl; ends_none = refl }) n.0 n.1)

  steps : (coming : Next) → next_of m ≡ coming → SteppedBy IsAnswered a (length log) x y m servers new line coming → IsKept p a log y.round line
  steps (next.Ask b request) e q = asks b request e q
  steps (next.HealBegin g kind) e q = begins g kind e q
  steps (next.HealEnd g kind said) e q = heals g kind said e q
  steps (next.End said) e q = to_line (line_of.End a said) None q.is_line (ap (λ (z : Healer). z.round) q.becomes) (ends_round laws.end p a log m k said)
  steps (next.Begin change) e q = absurd q

pub paced_line : LineLaws → RoundPacedLine
paced_line laws crawl p a log servers new x y line before acting ready s lists k =
    steps laws p a log servers new x y line s.round (laws.can crawl p a log servers x before acting ready s.round s.present) s.present carries.sound lists (subst (IsPacedRound p a.0 log) s.present k) (next_of s.round) refl s.steps
  where
    carries : CarriesRound crawl p a.0 log x.visit.met x.visit.epochs servers s.round
    carries = subst (CarriesIts crawl p a.0 log x.visit.met x.visit.epochs servers) s.present acting.carries
