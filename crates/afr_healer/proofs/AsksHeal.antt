-- A request of a healer's heal: its line is honest, lawful and the round's, and the heal stands for it.
use Rattle.std.proofs.Common.{◌≡◌, ◌∙◌, Bool, true, false, List, ◌∷◌, Some, refl, sym, ap, subst, length}
use Rattle.afr_base.specs.declared.ids.ActorId.{ActorId}
use Rattle.afr_base.specs.declared.ids.BrickId.{BrickId}
use Rattle.afr_base.specs.declared.ids.Gfid.{Gfid}
use Rattle.afr_base.specs.declared.ids.Kind.{Kind}
use Rattle.afr_base.specs.declared.ids.Shape.{Shape}
use Rattle.afr_discipline.specs.Stands.{seen_as}
use Rattle.afr_discipline.specs.declared.register.Register.{Register}
use Rattle.afr_heal.specs.Engine.{Ask as Asks, NextOfHeal as HealNext}
use Rattle.afr_law_heal.specs.Heard.Hears.{IsHeardInHeal}
use Rattle.afr_law_heal.specs.HealLaws.{IsWholeTold, SettlesSeen}
use Rattle.afr_heal_round.specs.Rounding.{CarriesAt, IsAnswered, IsAnsweredAt, Rounding, made_ready, next_at, next_of}
use Rattle.afr_heal_round.specs.declared.stage.RoundStage.{RoundStage}
use Rattle.afr_heal_round.specs.declared.stage.RoundStage.TheVariants.{Healing}
use Rattle.afr_lines.specs.Places.{Fresh, Place, Within, next_place, place_of}
use Rattle.afr_lines.specs.Places as places
use Rattle.afr_lines.specs.Told.{told_by}
use Rattle.afr_lines.specs.Work.{work}
use Rattle.afr_lines.specs.declared.answer.Told.{Told}
use Rattle.afr_lines.specs.declared.line.Line.{Line}
use Rattle.afr_lines.specs.declared.line.Line.TheVariants.{Ask}
use Rattle.afr_lines.specs.declared.line.Next.TheVariants as next
use Rattle.afr_lines.specs.declared.request.Request.{Request}
use Rattle.afr_lines.specs.declared.request.Request.TheVariants as request
use Rattle.afr_model.specs.HealReplies.{refuses_index}
use Rattle.afr_model.specs.Healing.{heal_by}
use Rattle.afr_model.specs.Rounds.{IsOfHeal, due_in, heals_ended, listed_by}
use Rattle.afr_model.specs.Showing.{has}
use Rattle.afr_plan.specs.declared.plan.Plan.{Plan}
use Rattle.afr_model_moves.specs.Keeps.{keeps_in}
use Rattle.afr_healer.specs.Acting.{IsAsked, met_after}
use Rattle.afr_healer.specs.Keeping.{CarriesIts, CarriesRound, IsBetweenHeals, IsHealer, IsNotedHeal, RunsHeal, StageStands, list_of}
use Rattle.afr_healer.specs.Laws.{Asks as AskLine, IsBeforeRound, RoundKeeps}
use Rattle.afr_healer.specs.declared.healer.Healer.{Healer}
use Rattle.afr_heal_machine.specs.Healing.{Healing as Heal, answered, coming}
use Rattle.afr_heal_machine.specs.Healing as heal
use Rattle.afr_heal_machine.specs.Source.{IsCandidate, is_found}
use Rattle.afr_server.specs.NextLine.{told_line}
use Rattle.afr_server.specs.Serving.{Serving}
use Rattle.afr_law_next.specs.Turn.{Stood}
use Rattle.afr_healer.proofs.AsksAbout.{AsksAbout, IsPlain, next_about, noted_on, plain}
use Rattle.afr_healer.proofs.AsksLine.{of_healer, self}
use Rattle.afr_healer.proofs.Duties.{begun_more, due_kept, duty_more, keeps_duty, listed_kept}
use Rattle.afr_healer.proofs.AsksSource.{tells_more}
use Rattle.afr_healer.proofs.BeforeAsks.{AsksNext, IsAskedSo, asked_so}
use Rattle.afr_healer.proofs.BeforeNext.{ask_laws, asks_of, before_ask, heal_next, is_told, ready_contents}
use Rattle.afr_healer.proofs.Gathered.{RoundLaws}

-- ---- a place within the heal
within_heals : (at : Place) (a : ActorId) (b : BrickId) (asked : Request) (told : Told) (took : Bool) (g : Gfid) (kind : Kind) → AsksAbout g kind asked → IsBetweenHeals at → next_place at (Ask a b asked told took) ≡ Within
within_heals Fresh a b request.Index told took g kind about k = absurd about
within_heals Fresh a b asked told took g kind about k = refl
within_heals places.Indexed a b asked told took g kind about k = refl
within_heals places.Between a b asked told took g kind about k = refl
within_heals Within a b asked told took g kind about k = absurd k

within : (met : Bool) (p : Plan) (a : ActorId) (b : BrickId) (asked : Request) (told : Told) (took : Bool) (log : List Line) (r : Register) (g : Gfid) (kind : Kind) → AsksAbout g kind asked → IsNotedHeal met p.shape a.0 log r
    → next_place (place_of a.0 log) (Ask a b asked told took) ≡ Within
within true p a b asked told took log r g kind about k = rw k.0 refl
within false p a b asked told took log r g kind about k = within_heals (place_of a.0 log) a b asked told took g kind about k.0

module _ (laws : RoundLaws) (crawl : Bool) (p : Plan) (a : ActorId) (log : List Line) (servers : List Serving) (before : IsBeforeRound crawl p a log servers) (x y : Healer) (new : List Serving) (written : Line) (m : Rounding) (c : CarriesRound crawl p a.0 log x.visit.met x.visit.epochs servers m)
    (ready : m ≡ made_ready m) where
  module _ (h : Heal) (stage_is : m.stage ≡ Healing h) (b : BrickId) (asked : Request) (e : next_of m ≡ next.Ask b asked) (s : IsAsked IsAnswered a (length log) b asked x y m servers new written) where
    abbrev line : Line
    line = told_line a b asked s.given

    abbrev told : Told
    told = told_by s.given.answer

    -- ---- the heal before the line
    stands : StageStands c.duty p a.0 log x.visit.met x.visit.epochs servers m.round (Healing h)
    stands = subst (StageStands c.duty p a.0 log x.visit.met x.visit.epochs servers m.round) stage_is c.stage

    k : RunsHeal c.duty p a.0 log x.visit.met x.visit.epochs servers h
    k = stands.0

    asks : coming h ≡ Asks b.0 asked
    asks = asks_of h (coming h) b asked (subst (λ (stage : RoundStage). next_at m.round.brick stage ≡ next.Ask b asked) stage_is e)

    carries : CarriesAt (Healing h) s.load
    carries = subst (λ (stage : RoundStage). CarriesAt stage s.load) stage_is s.carries

    n : AsksNext p a log x.visit.met x.visit.epochs servers (CarriesAt (Healing h)) b asked h.register
    n = heal_next laws crawl p a log servers before c.duty x.visit.epochs h b asked asks x.visit.met k (ready_contents h (rw (stage_is) at (ap (λ (m : Rounding). m.stage) ready)))

    so : IsAskedSo p a log servers new s.epochs b asked h.register s.given
    so = asked_so (ask_laws laws) p a log servers (before_ask laws crawl p a log servers before) x.visit.met x.visit.epochs (CarriesAt (Healing h)) b asked h.register n s.fits s.load new s.epochs s.given carries s.served

    told_so : IsHeardInHeal p log a b asked s.given.answer s.given.took
    told_so = is_told laws crawl p a log servers before new s.epochs b asked h.register s.given so

    about : AsksAbout h.gfid h.kind asked
    about = (next_about h.register.shape.n (keeps_in h.register.shape) (seen_as h.register) h.source.0 h.gfid h.kind k.on).asks b.0 asked asks

    line_is : IsPlain p a b asked told s.given.took log h.gfid h.kind
    line_is = plain p a b asked told s.given.took log h.gfid h.kind about

    hears : heal.CanHear (coming h) s.given.answer × IsWholeTold told
    hears = laws.hearing.hears p h log a b.0 asked s.given.answer s.given.took k.sound k.shape k.tells asks told_so

    can_hear : heal.CanHear (Asks b.0 asked) s.given.answer
    can_hear = subst (λ (line : HealNext). heal.CanHear line s.given.answer) asks hears.0

    -- ---- the heal after it
    fed : IsAnsweredAt s.given.answer (length log) (Healing h) m s.after
    fed = subst (λ (stage : RoundStage). IsAnsweredAt s.given.answer (length log) stage m s.after) stage_is s.fed

    abbrev next_heal : Heal
    next_heal = answered h b.0 asked s.given.answer (length log) fed.1.chosen

    abbrev answered_as : HealNext → Heal
    answered_as (Asks b asked) = answered h b asked s.given.answer (length log) fed.1.chosen
    answered_as other = h

    after_is : fed.0 ≡ next_heal
    after_is = fed.1.value ∙ ap answered_as (sym fed.1.asked ∙ asks)

    picked : is_found h.register.shape.n (seen_as next_heal.register) ≡ true → IsCandidate next_heal.register fed.1.chosen.0
    picked = subst (λ (z : Heal). is_found h.register.shape.n (seen_as z.register) ≡ true → IsCandidate z.register fed.1.chosen.0) after_is fed.1.picked

    sound : heal.IsHealing next_heal
    sound = laws.heal.stays h b.0 asked s.given.answer (length log) fed.1.chosen k.sound asks can_hear picked

    round_is : s.after ≡ record m { stage = Healing next_heal }
    round_is = fed.2 ∙ ap (λ (z : Heal). record m { stage = Healing z }) after_is

    -- ---- the lines after it
    border : heal_by (work a.0 (line ∷ log)) ≡ (line, log) ∷ heal_by (work a.0 log)
    border = rw (self a.0, line_is.border) refl

    listed : listed_by p (work a.0 (line ∷ log)) ≡ listed_by p (work a.0 log)
    listed = rw (self a.0) (line_is.listed (listed_by p (work a.0 log)))

    healed_is : heals_ended (work a.0 (line ∷ log)) ≡ heals_ended (work a.0 log)
    healed_is = rw (self a.0) refl

    due : due_in (list_of c.duty p (work a.0 (line ∷ log))) (work a.0 (line ∷ log)) ≡ Some (h.gfid, h.kind)
    due = due_kept c.duty p (work a.0 (line ∷ log)) (work a.0 log) listed healed_is ∙ k.due

    unrefused : has refuses_index (work a.0 (line ∷ log)) ≡ false
    unrefused = rw (self a.0, line_is.admits) k.unrefused

    own : Stood p.shape a.0 (line ∷ log) next_heal.register
    own = so.stand.own

    runs : RunsHeal c.duty p a.0 (line ∷ log) true s.epochs new next_heal
    runs = record {
      sound = sound;
      shape = own.shape_is;
      noted = (rw (self a.0) (within x.visit.met p a b asked told s.given.took log h.register h.gfid h.kind about k.noted), own);
      sessions = so.go_on.1.found;
      due = due;
      on = noted_on h.gfid h.kind h.register (length log) b.0 asked told k.on about;
      tells = rw border (tells_more laws h k.sound b.0 asked asks s.given.answer (length log) fed.1.chosen a s.given.took log (heal_by (work a.0 log)) sound can_hear hears.1 k.tells);
      holds = laws.hearing.more p h log a b.0 asked s.given.answer s.given.took fed.1.chosen k.sound asks told_so k.holds;
      unrefused = unrefused;
    }

    after_stands : StageStands c.duty p a.0 (line ∷ log) true s.epochs new m.round (Healing next_heal)
    after_stands = (runs, listed_kept c.duty p (work a.0 (line ∷ log)) (work a.0 log) m.round.list listed stands.1, rw healed_is stands.2)

    -- the line is of the heal that is due
    of_heal : IsOfHeal (list_of c.duty p (work a.0 log)) asked (work a.0 log)
    of_heal = record { object = h.gfid; kind = h.kind; due = k.due; about = line_is.healed }

    after_carries : CarriesRound crawl p a.0 (line ∷ log) true s.epochs new (record m { stage = Healing next_heal })
    after_carries = record {
      duty = c.duty;
      present = duty_more crawl p a.0 log before.healer m.round.brick c.duty line (rw (self a.0) refl) refl c.present (λ item keeps. keeps) of_heal;
      shape = c.shape;
      sound = record { few = c.sound.few; within = c.sound.within; staged = (sound, own.shape_is ∙ sym c.shape) };
      begun = rw (self a.0) (begun_more c.duty (Healing next_heal) (line, log) (work a.0 log));
      stage = after_stands;
    }

    carries_on : CarriesIts crawl p a.0 (line ∷ log) (met_after asked) s.epochs new (Some s.after)
    carries_on = rw (line_is.met, round_is) after_carries

    settles : SettlesSeen p.shape h.kind b.0 asked (heal_by (work a.0 log))
    settles = subst (λ (shape : Shape). SettlesSeen shape h.kind b.0 asked (heal_by (work a.0 log))) k.shape
        (laws.telling.settles h.register h.source.0 h.gfid h.kind h.outcome (heal_by (work a.0 log)) b.0 asked k.sound.heals k.tells asks)

    -- what a heal's request keeps
    pub ask_keeps : IsHealer crawl p log a.0 servers x → RoundKeeps crawl p a log written y servers new
    ask_keeps acting = subst (λ (l : Line). RoundKeeps crawl p a log l y servers new) (sym s.is_line) (record {
      honest = so.go_on.0;
      lawful = so.lawful;
      served = so.go_on.1.served;
      keeps = keeps_duty crawl p a.0 log before.healer m.round.brick c.duty line c.present (λ list keeps. line_is.keeps m.round.brick list (work a.0 log) keeps) (λ item of keeps. keeps) of_heal;
      replied = of_healer p a line log before.clients before.healer (line_is.settles p.shape (work a.0 log) settles);
      blamed = line_is.blames;
      written = AskLine b asked told s.given.took;
      acting = subst (λ (z : Healer). IsHealer crawl p (line ∷ log) a.0 new z) (sym s.becomes) (record { ended_is = acting.ended_is; killed_is = acting.killed_is; carries = carries_on });
      stands = so.stand.others;
      found = so.go_on.1.others;
    })
