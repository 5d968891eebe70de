-- The rounds of a healer stay within their costs, whatever line comes next.
use Rattle.std.specs.Prelude.{◌≡◌, ℕ, ◌≤◌, Bool, false, List, [], ◌∷◌, Option, None, length}
use Rattle.afr_base.specs.declared.ids.ActorId.{ActorId}
use Rattle.afr_base.specs.declared.ids.BrickId.{BrickId}
use Rattle.afr_law_bound.specs.Ends.Cost.{IsWithinCost, objects_of}
use Rattle.afr_heal_round.specs.Rounding.{IsAnswered, Rounding}
use Rattle.afr_lines.specs.Told.{told_by}
use Rattle.afr_lines.specs.Work.{is_of}
use Rattle.afr_lines.specs.declared.answer.Told.TheVariants.{Given}
use Rattle.afr_lines.specs.declared.line.Line.{Line}
use Rattle.afr_lines.specs.declared.request.Request.TheVariants.{Index}
use Rattle.afr_model.specs.Honest.{answer_by}
use Rattle.afr_model.specs.Tables.{holds}
use Rattle.afr_plan.specs.declared.plan.Plan.{Plan}
use Rattle.afr_healer.specs.Acting.{IsAsked, IsNewHealer, Readies, Stepped}
use Rattle.afr_healer.specs.Keeping.{IsHealer}
use Rattle.afr_healer.specs.Laws.{IsBeforeRound, IsMadeReady}
use Rattle.afr_healer.specs.declared.healer.Healer.{Healer}
use Rattle.afr_server.specs.Serving.{Serving}
use Rattle.afr_law_cost.specs.Healer.Paced.{IsPacedRound, ListsAtMost}

-- a healer that has begun nothing, before any line
abbrev pub RoundPacedAtFirst : Type 0
RoundPacedAtFirst = (p : Plan) (a : ℕ) (x : Healer) → IsNewHealer x → IsPacedRound p a [] x.round

-- its present round begins, or has the memory of its coming move
abbrev pub RoundPacedReady : Type 0
RoundPacedReady = (crawl heals : Bool) (p : Plan) (a : ℕ) (log : List Line) (servers : List Serving) (b : BrickId) (x z : Healer)
    → 17 ≤ a → IsHealer crawl p log a servers x → Readies p.shape heals b x z → IsPacedRound p a log x.round → IsPacedRound p a log z.round

-- a line of the healer, where an index that it was given lists no more objects than there can be: the line is within the cost too
abbrev pub RoundPacedLine : Type 0
RoundPacedLine =
    (crawl : Bool) (p : Plan) (a : ActorId) (log : List Line) (servers new : List Serving) (x y : Healer) (line : Line)
    → IsBeforeRound crawl p a log servers → IsHealer crawl p log a.0 servers x → IsMadeReady x → Stepped IsAnswered a (length log) x y servers new line
    → ListsAtMost (objects_of p) a (length log) x y servers new line → IsPacedRound p a.0 log x.round
    → IsPacedRound p a.0 (line ∷ log) y.round × IsWithinCost p line log

-- a line of anybody else, or an event: nothing changes, even where it kills the healer
abbrev pub RoundPacedOther : Type 0
RoundPacedOther = (p : Plan) (c : ℕ) (line : Line) (log : List Line) (round : Option Rounding) → is_of c line ≡ false → IsPacedRound p c log round → IsPacedRound p c (line ∷ log) round

-- the index that a brick gave for a line is the one that its tables show then
abbrev pub IndexIsShown : Type 0
IndexIsShown =
    (crawl : Bool) (p : Plan) (a : ActorId) (log : List Line) (servers new : List Serving) (x y : Healer) (line : Line) (m : Rounding) (b : BrickId)
    → IsBeforeRound crawl p a log servers → (asked : IsAsked IsAnswered a (length log) b Index x y m servers new line)
    → told_by asked.given.answer ≡ Given → asked.given.answer ≡ answer_by None Index (holds p log b.0) log
