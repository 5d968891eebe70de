-- A healer asks for the index of its brick: its line is honest, lawful and the round's, and the first heal of the list is due.
use Rattle.std.proofs.Common.{◌≡◌, ◌∙◌, ℕ, ◌+◌, ◌<◌, ◌||◌, Bool, true, false, List, [], ◌∷◌, Option, None, Some, is_some, refl, sym, ap, arith, subst, length, inr, if◌then◌else◌}
use Rattle.afr_base.specs.declared.ids.ActorId.{ActorId}
use Rattle.afr_base.specs.declared.ids.BrickId.{BrickId}
use Rattle.afr_base.specs.declared.ids.Gfid.{Gfid}
use Rattle.afr_base.specs.declared.ids.Kind.{Kind}
use Rattle.afr_base.specs.declared.ids.Shape.{Shape}
use Rattle.afr_base.specs.declared.ids.What.{What}
use Rattle.afr_heal_round.specs.List.Round.{next_due, with_list}
use Rattle.afr_discipline.specs.Notes.{noted_ask}
use Rattle.afr_discipline.specs.Stands.{no_lines}
use Rattle.afr_discipline.specs.declared.register.Step.TheVariants as step
use Rattle.afr_law_heal.specs.Heard.Hears.{IsIndexed, Listed, Refused}
use Rattle.afr_heal_round.specs.Rounding.{CarriesAt, IsAnswered, IsAnsweredAt, Rounding, indexed, stage_due}
use Rattle.afr_heal_round.specs.declared.stage.RoundStage.{RoundStage}
use Rattle.afr_heal_round.specs.declared.stage.RoundStage.TheVariants.{Asking, Healing, Over}
use Rattle.afr_lines.specs.Places.{Indexed, place_of}
use Rattle.afr_lines.specs.Told.{told_by}
use Rattle.afr_lines.specs.Work.{work}
use Rattle.afr_lines.specs.declared.answer.Answer.{Answer}
use Rattle.afr_lines.specs.declared.answer.Answer.TheVariants as answer_of
use Rattle.afr_lines.specs.declared.answer.Told.{Told}
use Rattle.afr_lines.specs.declared.answer.Told.TheVariants as as_told
use Rattle.afr_lines.specs.declared.line.Line.{Line}
use Rattle.afr_lines.specs.declared.line.Line.TheVariants.{Ask}
use Rattle.afr_lines.specs.declared.request.Request.TheVariants.{Index}
use Rattle.afr_model.specs.Crawl.{given_after, given_by}
use Rattle.afr_model.specs.HealReplies.{refuses_index}
use Rattle.afr_model.specs.Healing.{heal_by}
use Rattle.afr_model.specs.Rounds.{due_in, heals_ended, listed_after, listed_by}
use Rattle.afr_model.specs.Showing.{has, is_fault}
use Rattle.afr_plan.specs.declared.plan.Plan.{Plan}
use Rattle.afr_healer.specs.Acting.{IsAsked}
use Rattle.afr_healer.specs.Keeping.{AsksFor, CarriesRound, Crawls, Duty, HasBegun, Task, IsAfterHeals, IsBetweenHeals, IsBetweenRounds, IsHealer, IsListed, IsOnDuty, IsRoundOver, KeepsList, Rounds, RunsHeal, StageStands, list_of}
use Rattle.afr_healer.specs.Laws.{Asks as AskLine, IsBeforeRound, RoundKeeps}
use Rattle.afr_healer.specs.declared.healer.Healer.{Healer}
use Rattle.afr_heal_machine.specs.Healing.{heal_from}
use Rattle.afr_server.specs.NextLine.{told_line}
use Rattle.afr_server.specs.Serving.{Serving}
use Rattle.afr_healer.proofs.AsksLine.{of_healer, self}
use Rattle.afr_healer.proofs.BeforeAsks.{AsksNext, IsAskedSo, asked_so}
use Rattle.afr_healer.proofs.Duties.{begun_more, index_duty, index_keeps_duty}
use Rattle.afr_healer.proofs.BeforeNext.{ask_laws, before_ask, index_next, is_told}
use Rattle.afr_healer.proofs.Gathered.{RoundLaws}

-- ---- what the answer leaves of the register and of the list
noted_index : (shape : Shape) (at b : ℕ) (told : Told) → noted_ask (no_lines shape) at b Index told ≡ record (no_lines shape) { step = step.Open }
noted_index shape at b as_told.NotConnected = refl
noted_index shape at b told = refl

unlisted : (p : Plan) (a : ActorId) (b : BrickId) (told : Told) (took : Bool) (log : List Line) (was : List (Gfid × What)) → is_fault told ≡ true → listed_after p (Ask a b Index told took) log was ≡ was
unlisted p a b as_told.Failed took log was e = refl
unlisted p a b as_told.NotConnected took log was e = refl
unlisted p a b as_told.Granted took log was e = absurd (cc e)
unlisted p a b (as_told.Held owner) took log was e = absurd (cc e)
unlisted p a b (as_told.Seen view) took log was e = absurd (cc e)
unlisted p a b as_told.Done took log was e = absurd (cc e)
unlisted p a b as_told.Given took log was e = absurd (cc e)
unlisted p a b as_told.NoObject took log was e = absurd (cc e)

ungiven : (p : Plan) (a : ActorId) (b : BrickId) (told : Told) (took : Bool) (log : List Line) (was : Option (List (Gfid × What))) → is_fault told ≡ true → given_after p (Ask a b Index told took) log was ≡ was
ungiven p a b as_told.Failed took log was e = refl
ungiven p a b as_told.NotConnected took log was e = refl
ungiven p a b as_told.Granted took log was e = absurd (cc e)
ungiven p a b (as_told.Held owner) took log was e = absurd (cc e)
ungiven p a b (as_told.Seen view) took log was e = absurd (cc e)
ungiven p a b as_told.Done took log was e = absurd (cc e)
ungiven p a b as_told.Given took log was e = absurd (cc e)
ungiven p a b as_told.NoObject took log was e = absurd (cc e)

over_refused : (heals : Bool) (answer : Answer) (m : Rounding) → is_fault (told_by answer) ≡ true → indexed heals answer m ≡ record m { stage = Over true }
over_refused heals answer_of.NotConnected m e = refl
over_refused heals answer_of.Failed m e = refl
over_refused heals answer_of.Granted m e = absurd (cc e)
over_refused heals (answer_of.Held owner) m e = absurd (cc e)
over_refused heals (answer_of.Seen view) m e = absurd (cc e)
over_refused heals answer_of.Done m e = absurd (cc e)
over_refused heals (answer_of.Bytes bytes) m e = absurd (cc e)
over_refused heals (answer_of.Entry entry) m e = absurd (cc e)
over_refused heals (answer_of.Names names) m e = absurd (cc e)
over_refused heals (answer_of.Value value) m e = absurd (cc e)
over_refused heals (answer_of.Attrs attrs) m e = absurd (cc e)
over_refused heals (answer_of.Index list) m e = absurd (cc e)
over_refused heals answer_of.NoObject m e = absurd (cc e)

module _ (laws : RoundLaws) (crawl : Bool) (p : Plan) (a : ActorId) (log : List Line) (servers : List Serving) (before : IsBeforeRound crawl p a log servers) (x y : Healer) (new : List Serving) (written : Line) (m : Rounding) (c : CarriesRound crawl p a.0 log x.visit.met x.visit.epochs servers m) where
  module _ (heals : Bool) (stage_is : m.stage ≡ Asking heals) (s : IsAsked IsAnswered a (length log) m.round.brick Index x y m servers new written) where
    abbrev line : Line
    line = told_line a m.round.brick Index s.given

    abbrev told : Told
    told = told_by s.given.answer

    k : IsBetweenRounds a.0 log x.visit.met × (m.round.list ≡ None) × AsksFor c.duty heals
    k = subst (StageStands c.duty p a.0 log x.visit.met x.visit.epochs servers m.round) stage_is c.stage

    carries : CarriesAt (Asking heals) s.load
    carries = subst (λ (stage : RoundStage). CarriesAt stage s.load) stage_is s.carries

    n : AsksNext p a log x.visit.met x.visit.epochs servers (CarriesAt (Asking heals)) m.round.brick Index (no_lines p.shape)
    n = index_next laws crawl p a log servers before heals x.visit.met x.visit.epochs m.shape m.round.brick c.shape c.sound.within k.0

    so : IsAskedSo p a log servers new s.epochs m.round.brick Index (no_lines p.shape) s.given
    so = asked_so (ask_laws laws) p a log servers (before_ask laws crawl p a log servers before) x.visit.met x.visit.epochs (CarriesAt (Asking heals)) m.round.brick Index (no_lines p.shape) n s.fits s.load new s.epochs s.given carries s.served

    -- ---- the lines after it
    abbrev now : List Line
    now = line ∷ log

    place_is : place_of a.0 now ≡ Indexed
    place_is = rw (self a.0, k.0.fresh) refl

    between : IsBetweenHeals (place_of a.0 now)
    between = rw place_is tt

    after : IsAfterHeals (place_of a.0 now)
    after = rw place_is tt

    work_is : work a.0 now ≡ (line, log) ∷ []
    work_is = rw (self a.0, k.0.none) refl

    none_yet : heal_by (work a.0 now) ≡ []
    none_yet = rw work_is refl

    healed_is : heals_ended (work a.0 now) ≡ 0
    healed_is = rw work_is refl

    refused_is : has refuses_index (work a.0 now) ≡ (is_fault told || false)
    refused_is = rw work_is refl

    some : 0 < m.shape.n
    some = omega (arith, c.sound.within)

    fed : s.after ≡ indexed heals s.given.answer m
    fed = subst (λ (stage : RoundStage). IsAnsweredAt s.given.answer (length log) stage m s.after) stage_is s.fed

    present : IsOnDuty c.duty crawl p a.0 now m.round.brick
    present = index_duty crawl p a.0 log before.healer m.round.brick c.duty line heals k.2 refl c.present

    begun : (stage : RoundStage) → HasBegun c.duty stage (work a.0 now)
    begun stage = subst (HasBegun c.duty stage) (sym work_is) (begun_more c.duty stage (line, log) [])

    is_over : (refused : Bool) → due_in (list_of c.duty p (work a.0 now)) (work a.0 now) ≡ None → has refuses_index (work a.0 now) ≡ refused → IsRoundOver c.duty p a.0 now false refused
    is_over refused left said = record {
      unmet = refl;
      place = after;
      register = noted_ask (no_lines p.shape) (length log) m.round.brick.0 Index told;
      free = inr (noted_index p.shape (length log) m.round.brick.0 told);
      stood = so.stand.own;
      none_left = left;
      said = said;
    }

    -- ---- the list was given
    module _ (list : List (Gfid × What)) (is : s.given.answer ≡ answer_of.Index list) (shown : listed_by p ((line, log) ∷ []) ≡ list) where
      taken : has refuses_index (work a.0 now) ≡ false
      taken = refused_is ∙ ap (λ (answer : Answer). is_fault (told_by answer) || false) is

      -- to a round that heals it
      module _ (heals_it : c.duty ≡ Rounds) where
        listed : listed_by p (work a.0 now) ≡ list
        listed = rw work_is shown

        due_is : due_in (list_of c.duty p (work a.0 now)) (work a.0 now) ≡ next_due (with_list list m.round)
        due_is = rw (heals_it, listed, healed_is) refl

        first_heal : (due : Gfid × Kind) → next_due (with_list list m.round) ≡ Some due → RunsHeal c.duty p a.0 now false s.epochs new (heal_from m.shape due.0 due.1)
        first_heal due e = record {
          sound = laws.heal.begins m.shape due.0 due.1 some c.sound.few;
          shape = c.shape;
          noted = (between, ap no_lines c.shape, none_yet);
          sessions = tt;
          due = due_is ∙ e;
          on = λ area there. absurd (cc there);
          tells = rw none_yet (laws.telling.begins m.shape 0 due.0 due.1 some c.sound.few);
          holds = laws.hearing.none p now m.shape due.0 due.1;
          unrefused = taken;
        }

        is_listed : IsListed c.duty p (work a.0 now) (Some list)
        is_listed = rw heals_it listed

        kept : (duty : Duty) → duty ≡ Rounds → (found : Option (List (Gfid × What))) → KeepsList duty p (work a.0 now) found
        kept Rounds e found = tt
        kept Crawls e found = absurd (cc e)
        kept (Task item) e found = tt

        going : (due : Option (Gfid × Kind)) → next_due (with_list list m.round) ≡ due
            → CarriesRound crawl p a.0 now false s.epochs new (record { shape = m.shape; round = if is_some due then record (with_list list m.round) { given = 0 + 1 } else with_list list m.round; stage = stage_due m.shape due })
        going (Some due) e = record {
          duty = c.duty;
          present = present;
          shape = c.shape;
          sound = record { few = c.sound.few; within = c.sound.within; staged = (laws.heal.begins m.shape due.0 due.1 some c.sound.few, refl) };
          begun = begun (Healing (heal_from m.shape due.0 due.1));
          stage = (first_heal due e, is_listed, rw healed_is refl);
        }
        going None e = record {
          duty = c.duty;
          present = present;
          shape = c.shape;
          sound = record { few = c.sound.few; within = c.sound.within; staged = tt };
          begun = begun (Over false);
          stage = (is_over false (due_is ∙ e) taken, kept c.duty heals_it (Some list));
        }

      -- or to one that heals nothing
      module _ (crawls : c.duty ≡ Crawls) where
        nothing_due : due_in (list_of c.duty p (work a.0 now)) (work a.0 now) ≡ None
        nothing_due = rw crawls refl

        given : given_by p ((line, log) ∷ []) ≡ Some list
        given = subst (λ (answer : Answer). given_by p ((told_line a m.round.brick Index (record s.given { answer = answer }), log) ∷ []) ≡ Some list) (sym is)
            (ap Some (subst (λ (answer : Answer). listed_by p ((told_line a m.round.brick Index (record s.given { answer = answer }), log) ∷ []) ≡ list) is shown))

        with_its_list : CarriesRound crawl p a.0 now false s.epochs new (record { shape = m.shape; round = with_list list m.round; stage = Over false })
        with_its_list = record {
          duty = c.duty;
          present = present;
          shape = c.shape;
          sound = record { few = c.sound.few; within = c.sound.within; staged = tt };
          begun = begun (Over false);
          stage = (is_over false nothing_due taken, rw crawls (rw work_is given));
        }

      listed_carries : (duty : Duty) → c.duty ≡ duty → (asks : Bool) → AsksFor duty asks → CarriesRound crawl p a.0 now false s.epochs new (indexed asks (answer_of.Index list) m)
      listed_carries Rounds e true asks = going e (next_due (with_list list m.round)) refl
      listed_carries Rounds e false asks = absurd (cc asks)
      listed_carries Crawls e false asks = with_its_list e
      listed_carries Crawls e true asks = absurd (cc asks)
      listed_carries (Task item) e asked asks = absurd asks

    -- ---- it was refused
    refused_carries : is_fault told ≡ true → CarriesRound crawl p a.0 now false s.epochs new (record m { stage = Over true })
    refused_carries fault = record {
      duty = c.duty;
      present = present;
      shape = c.shape;
      sound = record { few = c.sound.few; within = c.sound.within; staged = tt };
      begun = begun (Over true);
      stage = (is_over true (none_left c.duty k.2) (refused_is ∙ ap (λ (c : Bool). c || false) fault), no_list c.duty k.2);
    }
      where
        none_left : (duty : Duty) → AsksFor duty heals → due_in (list_of duty p (work a.0 now)) (work a.0 now) ≡ None
        none_left Rounds asks = rw (work_is, unlisted p a m.round.brick told s.given.took log [] fault) refl
        none_left Crawls asks = refl
        none_left (Task item) asks = absurd asks

        no_list : (duty : Duty) → AsksFor duty heals → KeepsList duty p (work a.0 now) m.round.list
        no_list Rounds asks = tt
        no_list Crawls asks = rw work_is (ungiven p a m.round.brick told s.given.took log None fault ∙ sym k.1)
        no_list (Task item) asks = tt

    by_answer : IsIndexed p log a m.round.brick s.given.answer s.given.took → CarriesRound crawl p a.0 now false s.epochs new (indexed heals s.given.answer m)
    by_answer (Listed list is shown) = subst (λ (answer : Answer). CarriesRound crawl p a.0 now false s.epochs new (indexed heals answer m)) (sym is) (listed_carries list is shown c.duty refl heals k.2)
    by_answer (Refused fault) = subst (CarriesRound crawl p a.0 now false s.epochs new) (sym (over_refused heals s.given.answer m fault)) (refused_carries fault)

    carries_on : CarriesRound crawl p a.0 now false s.epochs new s.after
    carries_on = subst (CarriesRound crawl p a.0 now false s.epochs new) (sym fed) (by_answer (laws.hearing.listed p log a m.round.brick s.given.answer s.given.took (is_told laws crawl p a log servers before new s.epochs m.round.brick Index (no_lines p.shape) s.given so)))

    -- what the request for an index keeps
    pub index_keeps : IsHealer crawl p log a.0 servers x → RoundKeeps crawl p a log written y servers new
    index_keeps acting = subst (λ (l : Line). RoundKeeps crawl p a log l y servers new) (sym s.is_line) (record {
      honest = so.go_on.0;
      lawful = so.lawful;
      served = so.go_on.1.served;
      keeps = index_keeps_duty crawl p a.0 log before.healer m.round.brick c.duty line heals k.2 c.present (λ list. (k.0.none, refl));
      replied = of_healer p a line log before.clients before.healer tt;
      blamed = tt;
      written = AskLine m.round.brick Index told s.given.took;
      acting = subst (λ (z : Healer). IsHealer crawl p now a.0 new z) (sym s.becomes) (record { ended_is = acting.ended_is; killed_is = acting.killed_is; carries = carries_on });
      stands = so.stand.others;
      found = so.go_on.1.others;
    })
