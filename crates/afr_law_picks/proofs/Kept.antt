-- The copy that a work reads next is the one that was picked at the last look of its lines, whatever the rule.
use Rattle.std.proofs.Common.{◌≡◌, ℕ, ◌<◌, Bool, true, List, [], ◌∷◌, Option, None, Some, refl, sym, ap, subst, arith, length, map}
use Rattle.afr_base.specs.declared.ids.ActorId.{ActorId}
use Rattle.afr_base.specs.declared.ids.BrickId.{BrickId}
use Rattle.afr_lines.specs.Told.{told_by}
use Rattle.afr_lines.specs.Work.{Work as Lines, work}
use Rattle.afr_lines.specs.declared.answer.Answer.{Answer}
use Rattle.afr_lines.specs.declared.answer.Told.TheVariants.{Done}
use Rattle.afr_lines.specs.declared.line.Heard.TheVariants as heard_of
use Rattle.afr_lines.specs.declared.line.Line.{Line}
use Rattle.afr_lines.specs.declared.line.Line.TheVariants.{Ask, Begin}
use Rattle.afr_lines.specs.declared.line.Next.TheVariants as next
use Rattle.afr_lines.specs.declared.request.Request.{Request}
use Rattle.afr_lines.specs.declared.request.Request.TheVariants as request
use Rattle.afr_model.specs.Chosen.{Picks}
use Rattle.afr_plan.specs.declared.command.Command.{Command}
use Rattle.afr_plan.specs.declared.command.Command.TheVariants as command
use Rattle.afr_plan.specs.declared.plan.Plan.{Plan}
use Rattle.afr_law_picks.proofs.Asked.{AsksOf, asked_before}
use Rattle.afr_law_picks.proofs.Rule.{Picked, numbers_of}
use Rattle.afr_law_picks.proofs.Works.{also, forget, work_asks, work_begins, work_begun, work_ends, work_picked, work_reads}
use Rattle.afr_law_picks.specs.Laws.{AnswersOneOf, BeginKeepsPicked, EndReadsPicked, IsPickedOf, KeepsPicked, KeptOf, LineAsksRule, LineKeepsPicked, LineKept, LineReadsPicked, ReadingBegins, number_in, picked_then}
use Rattle.afr_law_picks.specs.Picked.{PickedIn}
use Rattle.afr_law_picks.specs.Readings.{PickAnswers, asked_for_command}
use Rattle.afr_rule.specs.Choosing.{Calls}
use Rattle.afr_rule.specs.declared.candidate.Candidate.{Candidate}
use Rattle.afr_law_picks.specs.Sources.Sources.{picks_of}
use Rattle.afr_client_walk.proofs.ChoosingLemmas.{answers_among, pick_offers}
use Rattle.afr_client_walk.specs.Choosing.{IsAmong, RuleAnswers, reader_of}
use Rattle.afr_law_client.specs.Laws.{IsNextLine}
use Rattle.afr_client.specs.Begin.{work_from}
use Rattle.afr_client.specs.Laws.{AsksMore, StaysSound}
use Rattle.afr_client.specs.Work.{IsWork, choices_heard, heard_by, next_of}
use Rattle.afr_client.specs.declared.work.WorkMachine.{WorkMachine}
use Rattle.afr_law_heard.specs.Works.WorkLaws.{WorkAbout, WorkTellsMore}
use Rattle.afr_law_heard.specs.Works.WorkTelling.{WorkHears, WorkTells}

-- ---- what was picked
pub none_long : (from : List Candidate) → from ≡ [] → 0 < length from → ⊥
none_long [] e l = omega (arith, l)
none_long (x ∷ from) e l = cc e

pub one_among : (from : List Candidate) (picked : Option BrickId) → IsPickedOf from picked → IsAmong from (reader_of picked)
one_among from None e = λ l. absurd (none_long from e l)
one_among from (Some b) e = λ l. e

none_of : (from : List Candidate) (picked : Option BrickId) → from ≡ [] → IsPickedOf from picked → picked ≡ None
none_of from None e k = refl
none_of from (Some b) e k = absurd (never (subst (λ (x : List Candidate). IsPickedOf x (Some b)) e k))
  where
    never : IsPickedOf [] (Some b) → ⊥
    never h = cc h

pub one_of : {F : Type 0} (calls : Calls F) (choose : F) → AnswersOneOf calls choose
one_of calls choose from None e = e
one_of calls choose from (Some b) w = pick_offers calls choose from b w

-- what the rule answers, it answers for the copies' numbers
rule_answers : {F : Type 0} (calls : Calls F) (choose : F) (from : List Candidate) (picked : Option BrickId) → RuleAnswers calls choose from picked → PickAnswers (picks_of calls choose) (map numbers_of from) (number_in picked)
rule_answers calls choose from None e = ap (map numbers_of) e
rule_answers calls choose from (Some b) w = record { candidates = from; numbers = refl; pick = w }

-- ---- one line
module _ (stays : StaysSound) (asks_more : AsksMore) (tells_more : WorkTellsMore) (work_about : WorkAbout) (p : Plan) (c : Command) (old : WorkMachine) (lines : Lines) (a : ActorId) (b : BrickId) (heard : Answer) (took : Bool) (log : List Line) (sound : IsWork old) (tells : WorkTells p c old lines) where
  abbrev at : ℕ
  at = length log

  abbrev more : Request → Lines
  more asked = (Ask a b asked (told_by heard) took, log) ∷ lines

  abbrev from : List Candidate
  from = choices_heard (heard_of.Answer heard at) old

  abbrev after : BrickId → WorkMachine
  after chosen = heard_by chosen (heard_of.Answer heard at) old

  module _ (asked : Request) (chosen : BrickId) (is : next_of at old ≡ next.Ask b asked) (hears : WorkHears old p b.0 asked log heard) (among : IsAmong from chosen) where
    sound_after : IsWork (after chosen)
    sound_after = stays old sound (asks_more old at b asked is) chosen (heard_of.Answer heard at) among

    tells_after : WorkTells p c (after chosen) (more asked)
    tells_after = tells_more p c old lines a b asked chosen heard took log sound tells is hears among

    pub asks_as : (picks : Picks) → PickedIn picks p old lines → AsksOf p c asked (more asked) from
    asks_as picks was =
        work_asks picks p c lines a b asked chosen heard took log at (length (Ask a b asked (told_by heard) took ∷ log)) old sound tells is tells_after sound_after
        (λ y r e. (work_about p c (after chosen) (more asked) a Done (Ask a y r Done true) (Ask a b asked (told_by heard) took ∷ log) sound_after tells_after (next_line y r e)).0) was
      where
        next_line : (y : BrickId) (r : Request) → next_of (length (Ask a b asked (told_by heard) took ∷ log)) (after chosen) ≡ next.Ask y r → IsNextLine a (next_of (length (Ask a b asked (told_by heard) took ∷ log)) (after chosen)) Done (Ask a y r Done true)
        next_line y r e = subst (λ x. IsNextLine a x Done (Ask a y r Done true)) (sym e) (true, refl)

    pub picked_as : (picks : Picks) (now : Option BrickId) → chosen ≡ reader_of now → Picked picks from now → PickedIn picks p old lines → PickedIn picks p (after chosen) (more asked)
    picked_as picks now reads answers was = subst (λ (x : BrickId). PickedIn picks p (after x) (more asked)) (sym reads) (work_picked picks p c old lines a b asked now heard took log at sound tells is (there tells_after) (here sound_after) answers was)
      where
        there : WorkTells p c (after chosen) (more asked) → WorkTells p c (after (reader_of now)) (more asked)
        there k = subst (λ (x : BrickId). WorkTells p c (after x) (more asked)) reads k

        here : IsWork (after chosen) → IsWork (after (reader_of now))
        here k = subst (λ (x : BrickId). IsWork (after x)) reads k

  -- a brick was picked of what was asked for
  kept_answers : (picked : Option ℕ) (asks : List (ℕ × ℕ)) (now : Option BrickId) → picked ≡ number_in now → asks ≡ map numbers_of from → IsPickedOf from now → Picked (KeptOf picked asks) from now
  kept_answers picked asks None e f k = ap (map numbers_of) k
  kept_answers picked asks (Some brick) e f k = (e, f)

  none_answers : (picks : Picks) (now : Option BrickId) → from ≡ [] → IsPickedOf from now → Picked picks from now
  none_answers picks None e k = ap (map numbers_of) e
  none_answers picks (Some brick) e k = absurd (clash (none_of from (Some brick) e k))
    where
      clash : Some brick ≡ None → ⊥
      clash h = cc h

  pub line_kept : (asked : Request) (now : Option BrickId) (kept : Option ℕ) → next_of at old ≡ next.Ask b asked → WorkHears old p b.0 asked log heard → IsPickedOf from now → KeepsPicked p c old lines kept → LineKept p c (after (reader_of now)) (more asked) asked now kept
  line_kept (request.Look g) now kept is hears among was = record {
    keeps = picked_as (request.Look g) (reader_of now) is hears (one_among from now among) picks now refl (kept_answers (number_in now) (asked_for_command p c (more (request.Look g))) now refl asks among) (forget (KeptOf kept (asked_for_command p c lines)) picks p lines b g old at sound is was);
    none = λ e. absurd (cc e);
  }
    where
      picks : Picks
      picks = KeptOf (number_in now) (asked_for_command p c (more (request.Look g)))

      asks : asked_for_command p c (more (request.Look g)) ≡ map numbers_of from
      asks = asks_as (request.Look g) (reader_of now) is hears (one_among from now among) (KeptOf kept (asked_for_command p c lines)) was
  line_kept asked now kept is hears among was = record {
    keeps = subst (λ (x : List (ℕ × ℕ)). PickedIn (KeptOf kept x) p (after (reader_of now)) (more asked)) (sym (asked_before p c (Ask a b asked (told_by heard) took) log lines refl))
        (picked_as asked (reader_of now) is hears (one_among from now among) (KeptOf kept (asked_for_command p c lines)) now refl (none_answers (KeptOf kept (asked_for_command p c lines)) now none among) was);
    none = λ e. none_of from now none among;
  }
    where
      none : from ≡ []
      none = asks_as asked (reader_of now) is hears (one_among from now among) (KeptOf kept (asked_for_command p c lines)) was

  pub line_asks : {F : Type 0} (calls : Calls F) (choose : F) (asked : Request) (now : Option BrickId) (kept : Option ℕ) → next_of at old ≡ next.Ask b asked → WorkHears old p b.0 asked log heard → KeepsPicked p c old lines kept → RuleAnswers calls choose from now
      → PickAnswers (picks_of calls choose) (asked_for_command p c lines) kept → PickAnswers (picks_of calls choose) (asked_for_command p c (more asked)) (picked_then asked now kept)
  line_asks calls choose (request.Look g) now kept is hears was answers before =
      subst (λ (x : List (ℕ × ℕ)). PickAnswers (picks_of calls choose) x (number_in now)) (sym (asks_as (request.Look g) (reader_of now) is hears (answers_among calls choose from now answers) (KeptOf kept (asked_for_command p c lines)) was))
      (rule_answers calls choose from now answers)
  line_asks calls choose asked now kept is hears was answers before = subst (λ (x : List (ℕ × ℕ)). PickAnswers (picks_of calls choose) x kept) (sym (asked_before p c (Ask a b asked (told_by heard) took) log lines refl)) before

-- ---- the laws
pub none_asked : (p : Plan) (c : Command) → asked_for_command p c [] ≡ []
none_asked p (command.Rename old new) = refl
none_asked p c = refl

pub reading_begins : ReadingBegins
reading_begins p c picked = subst (λ (x : List (ℕ × ℕ)). PickedIn (KeptOf picked x) p (work_from p.shape c) []) (sym (none_asked p c)) (work_begins (KeptOf picked []) p c)

pub line_keeps : StaysSound → AsksMore → WorkTellsMore → WorkAbout → LineKeepsPicked
line_keeps stays asks_more tells_more work_about p c old new lines a b asked heard took log now kept sound tells is hears fed was =
    subst (λ (w : WorkMachine). LineKept p c w ((Ask a b asked (told_by heard) took, log) ∷ lines) asked now kept) (sym fed.value)
    (line_kept stays asks_more tells_more work_about p c old lines a b heard took log sound tells asked now kept is hears fed.among was)

pub begin_keeps : BeginKeepsPicked
begin_keeps p c old lines a change log chosen kept was =
    subst (λ (x : List (ℕ × ℕ)). PickedIn (KeptOf kept x) p (heard_by chosen (heard_of.Begun (length log)) old) ((Begin a change, log) ∷ lines)) (sym (asked_before p c (Begin a change) log lines refl))
    (work_begun (KeptOf kept (asked_for_command p c lines)) p old lines a change log chosen (length log) was)

-- what was picked of what was asked for is what a rule answered for it
of_kept : (picks : Picks) (kept : Option ℕ) (asks : List (ℕ × ℕ)) → PickAnswers picks asks kept → (from : List (ℕ × ℕ)) (b : ℕ) → KeptOf kept asks from b → picks from b
of_kept picks kept asks answers copies b k = subst (λ (x : List (ℕ × ℕ)). picks x b) k.1 (subst (PickAnswers picks asks) k.0 answers)

pub line_reads : {F : Type 0} (calls : Calls F) (choose : F) → LineReadsPicked calls choose
line_reads calls choose p c w a b asked told took log kept sound tells is was answers =
    work_reads (picks_of calls choose) p c w a b asked told took log (length log) sound tells is
    (also (KeptOf kept (asked_for_command p c (work a.0 log))) (picks_of calls choose) p (work a.0 log) (of_kept (picks_of calls choose) kept (asked_for_command p c (work a.0 log)) answers) w was)

pub end_reads : {F : Type 0} (calls : Calls F) (choose : F) → EndReadsPicked calls choose
end_reads calls choose p c w a said log kept sound tells is was answers =
    work_ends (picks_of calls choose) p c w a said log (length log) tells is
    (also (KeptOf kept (asked_for_command p c (work a.0 log))) (picks_of calls choose) p (work a.0 log) (of_kept (picks_of calls choose) kept (asked_for_command p c (work a.0 log)) answers) w was)

pub line_rule : {F : Type 0} (calls : Calls F) (choose : F) → StaysSound → AsksMore → WorkTellsMore → WorkAbout → LineAsksRule calls choose
line_rule calls choose stays asks_more tells_more work_about p c old lines a b asked heard took log now kept sound tells is hears was answers before =
    line_asks stays asks_more tells_more work_about p c old lines a b heard took log sound tells calls choose asked now kept is hears was answers before
