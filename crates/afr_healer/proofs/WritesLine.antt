-- One line of a healer whose round has begun, by where the round stands.
use Rattle.std.proofs.Common.{◌≡◌, ◌∙◌, Bool, List, refl, ap, subst, length}
use Rattle.afr_base.specs.declared.ids.ActorId.{ActorId}
use Rattle.afr_base.specs.declared.ids.BrickId.{BrickId}
use Rattle.afr_heal.specs.Engine.{Ask, Begins, Ends, NextOfHeal as Coming}
use Rattle.afr_heal_round.specs.Rounding.{IsAnswered, Rounding, next_at, next_of}
use Rattle.afr_heal_round.specs.declared.stage.RoundStage.{RoundStage}
use Rattle.afr_heal_round.specs.declared.stage.RoundStage.TheVariants.{Asking, Healing, Over}
use Rattle.afr_lines.specs.declared.line.Line.{Line}
use Rattle.afr_lines.specs.declared.line.Next.TheVariants as next
use Rattle.afr_lines.specs.declared.request.Request.{Request}
use Rattle.afr_lines.specs.declared.request.Request.TheVariants.{Index}
use Rattle.afr_plan.specs.declared.plan.Plan.{Plan}
use Rattle.afr_healer.proofs.Gathered.{RoundLaws}
use Rattle.afr_healer.proofs.Writes.{heal_begin_keeps, heal_end_keeps}
use Rattle.afr_healer.proofs.WritesEnd.{end_keeps}
use Rattle.afr_healer.specs.Acting.{IsAsked, Stepped, SteppedBy}
use Rattle.afr_healer.specs.Keeping.{CarriesIts, CarriesRound, IsHealer}
use Rattle.afr_healer.specs.Laws.{IsBeforeRound, RoundKeeps}
use Rattle.afr_healer.specs.declared.healer.Healer.{Healer}
use Rattle.afr_heal_machine.specs.Healing.{Healing as Heal, coming, line_of}
use Rattle.afr_server.specs.Serving.{Serving}

module _ (laws : RoundLaws) (crawl : Bool) (p : Plan) (a : ActorId) (log : List Line) (servers : List Serving) (before : IsBeforeRound crawl p a log servers) (x y : Healer) (new : List Serving) (line : Line) (acting : IsHealer crawl p log a.0 servers x) where
  -- what a request keeps is proved beside
  abbrev pub AskKeeps : Rounding → Type 0
  AskKeeps m = (b : BrickId) (request : Request) → next_of m ≡ next.Ask b request → IsAsked IsAnswered a (length log) b request x y m servers new line → RoundKeeps crawl p a log line y servers new

  module _ (m : Rounding) (carries : CarriesRound crawl p a.0 log x.visit.met x.visit.epochs servers m) (asks : AskKeeps m) where
    by_coming : (h : Heal) (n : Coming) → m.stage ≡ Healing h → coming h ≡ n → SteppedBy IsAnswered a (length log) x y m servers new line (line_of h n) → RoundKeeps crawl p a log line y servers new
    by_coming h (Ask b request) at e s = asks (record { 0 = b }) request (ap (next_at m.round.brick) at ∙ ap (line_of h) e) s
    by_coming h Begins at e s = heal_begin_keeps laws crawl p a log servers before x y new line m acting carries h at e s
    by_coming h Ends at e s = heal_end_keeps laws crawl p a log servers before x y new line m acting carries h at e s

    by_stage : (stage : RoundStage) → m.stage ≡ stage → SteppedBy IsAnswered a (length log) x y m servers new line (next_at m.round.brick stage) → RoundKeeps crawl p a log line y servers new
    by_stage (Asking heals) at s = asks m.round.brick Index (ap (next_at m.round.brick) at) s
    by_stage (Healing h) at s = by_coming h (coming h) at refl s
    by_stage (Over refused) at s = end_keeps laws crawl p a log servers before x y new line m acting carries refused at s

    pub round_keeps : SteppedBy IsAnswered a (length log) x y m servers new line (next_of m) → RoundKeeps crawl p a log line y servers new
    round_keeps s = by_stage m.stage refl s

  -- the line, if a request keeps what it has to
  pub line_keeps : (s : Stepped IsAnswered a (length log) x y servers new line) → ((carries : CarriesRound crawl p a.0 log x.visit.met x.visit.epochs servers s.round) → AskKeeps s.round) → RoundKeeps crawl p a log line y servers new
  line_keeps s asks = by (subst (CarriesIts crawl p a.0 log x.visit.met x.visit.epochs servers) s.present acting.carries)
    where
      by : CarriesRound crawl p a.0 log x.visit.met x.visit.epochs servers s.round → RoundKeeps crawl p a log line y servers new
      by carries = round_keeps s.round carries (asks carries) s.steps
