-- Whatever a healer's round asks next, its line keeps what a line of a healer keeps.
use Rattle.std.proofs.Common.{◌≡◌, ◌∙◌, Bool, List, Some, refl, sym, ap, subst, length}
use Rattle.afr_base.specs.declared.ids.ActorId.{ActorId}
use Rattle.afr_base.specs.declared.ids.BrickId.{BrickId}
use Rattle.afr_heal_round.specs.Rounding.{IsAnswered, Rounding, next_at, next_of}
use Rattle.afr_heal_round.specs.declared.stage.RoundStage.{RoundStage}
use Rattle.afr_heal_round.specs.declared.stage.RoundStage.TheVariants.{Asking, Healing, Over}
use Rattle.afr_lines.specs.declared.line.Line.{Line}
use Rattle.afr_lines.specs.declared.line.Next.{Next}
use Rattle.afr_lines.specs.declared.line.Next.TheVariants as next
use Rattle.afr_lines.specs.declared.request.Request.{Request}
use Rattle.afr_plan.specs.declared.plan.Plan.{Plan}
use Rattle.afr_healer.specs.Acting.{IsAsked}
use Rattle.afr_healer.specs.Keeping.{CarriesIts, CarriesRound, IsHealer}
use Rattle.afr_healer.specs.Laws.{IsBeforeRound, IsMadeReady, RoundKeeps}
use Rattle.afr_healer.specs.declared.healer.Healer.{Healer}
use Rattle.afr_server.specs.Serving.{Serving}
use Rattle.afr_healer.proofs.AsksHeal.{ask_keeps}
use Rattle.afr_healer.proofs.AsksIndex.{index_keeps}
use Rattle.afr_healer.proofs.Gathered.{RoundLaws}

module _ (laws : RoundLaws) (crawl : Bool) (p : Plan) (a : ActorId) (log : List Line) (servers new : List Serving) (x y : Healer) (line : Line) (before : IsBeforeRound crawl p a log servers) (acting : IsHealer crawl p log a.0 servers x) (ready : IsMadeReady x) (m : Rounding) (present : x.round ≡ Some m) where
  c : CarriesRound crawl p a.0 log x.visit.met x.visit.epochs servers m
  c = subst (CarriesIts crawl p a.0 log x.visit.met x.visit.epochs servers) present acting.carries

  abbrev AskedAt : Next → Type 0
  AskedAt (next.Ask b asked) = IsAsked IsAnswered a (length log) b asked x y m servers new line
  AskedAt other = Unit {0}

  pub asks_keep : (b : BrickId) (asked : Request) → next_of m ≡ next.Ask b asked → IsAsked IsAnswered a (length log) b asked x y m servers new line → RoundKeeps crawl p a log line y servers new
  asks_keep b asked e s = by m.stage refl
    where
      by : (stage : RoundStage) → m.stage ≡ stage → RoundKeeps crawl p a log line y servers new
      by (Asking heals) is = index_keeps laws crawl p a log servers before x y new line m c heals is (subst AskedAt (sym e ∙ ap (next_at m.round.brick) is) s) acting
      by (Healing h) is = ask_keeps laws crawl p a log servers before x y new line m c (ready m present) h is b asked e s acting
      by (Over refused) is = absurd (cc (sym (ap (next_at m.round.brick) is) ∙ e))
