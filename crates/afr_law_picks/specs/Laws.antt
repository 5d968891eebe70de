-- What holds of the reads of all clients' works, whatever the rule, and by a rule that is asked.
use Rattle.std.specs.Prelude.{◌≡◌, ℕ, Bool, true, false, List, [], ◌∷◌, Option, None, Some, length, option_map, if◌then◌else◌}
use Rattle.afr_base.specs.declared.ids.ActorId.{ActorId}
use Rattle.afr_base.specs.declared.ids.BrickId.{BrickId}
use Rattle.afr_law_client.specs.Read.Lines.{is_look}
use Rattle.afr_lines.specs.Told.{told_by}
use Rattle.afr_lines.specs.Work.{Work as Lines, work}
use Rattle.afr_lines.specs.declared.answer.Answer.{Answer}
use Rattle.afr_lines.specs.declared.answer.Told.{Told}
use Rattle.afr_lines.specs.declared.line.Heard.{Heard}
use Rattle.afr_lines.specs.declared.line.Heard.TheVariants as heard_of
use Rattle.afr_lines.specs.declared.line.Line.{Line}
use Rattle.afr_lines.specs.declared.line.Line.TheVariants.{Ask, Begin, End}
use Rattle.afr_lines.specs.declared.line.Next.TheVariants as next
use Rattle.afr_lines.specs.declared.reply.Reply.{Reply}
use Rattle.afr_lines.specs.declared.request.Request.{Request}
use Rattle.afr_model.specs.Chosen.{Picks, ReadsPicked}
use Rattle.afr_object.specs.declared.change.Change.{Change}
use Rattle.afr_plan.specs.declared.command.Command.{Command}
use Rattle.afr_plan.specs.declared.plan.Plan.{Plan}
use Rattle.afr_law_picks.specs.Picked.{PickedIn}
use Rattle.afr_law_picks.specs.Readings.{PickAnswers, asked_for_command}
use Rattle.afr_rule.specs.Choosing.{Calls}
use Rattle.afr_rule.specs.declared.candidate.Candidate.{Candidate}
use Rattle.afr_law_picks.specs.Sources.Sources.{picks_of}
use Rattle.afr_client_walk.specs.Choosing.{RuleAnswers, offers, reader_of}
use Rattle.afr_client.specs.Begin.{work_from}
use Rattle.afr_client.specs.Work.{IsWork, choices_heard, heard_by, next_of}
use Rattle.afr_client.specs.declared.work.WorkMachine.{WorkMachine}
use Rattle.afr_law_heard.specs.Works.WorkTelling.{WorkHears, WorkTells}

-- ---- whatever the rule
-- a brick was picked of these copies; none, exactly where there are none
abbrev pub IsPickedOf : List Candidate → Option BrickId → Type 0
IsPickedOf from None = from ≡ []
IsPickedOf from (Some b) = offers from b.0 ≡ true

-- a work has heard this, and this brick was picked then, whatever rule it was
pub record HearsPick (of : Heard) (old new : WorkMachine) (picked : Option BrickId) : Type 0 where
  pub among : IsPickedOf (choices_heard of old) picked
  pub value : new ≡ heard_by (reader_of picked) of old

-- a brick by its number
abbrev pub number_in : Option BrickId → Option ℕ
number_in picked = option_map (λ b. b.0) picked

-- a look takes the place of what was picked before it
abbrev pub picked_then : Request → Option BrickId → Option ℕ → Option ℕ
picked_then request now kept = if is_look request then number_in now else kept

-- as far as a work reads by a copy, it is the brick that was picked, of what was asked for
abbrev pub KeptOf : Option ℕ → List (ℕ × ℕ) → Picks
KeptOf picked asked from b = (picked ≡ Some b) × (asked ≡ from)

-- the copy that a work reads next is the one that was picked at the last look of its lines, of the good copies by these looks
abbrev pub KeepsPicked : Plan → Command → WorkMachine → Lines → Option ℕ → Type 0
KeepsPicked p c w lines picked = PickedIn (KeptOf picked (asked_for_command p c lines)) p w lines

-- before its first line a work reads by no copy
abbrev pub ReadingBegins : Type 0
ReadingBegins = (p : Plan) (c : Command) (picked : Option ℕ) → KeepsPicked p c (work_from p.shape c) [] picked

-- the same after a request, and what else it leaves
pub record LineKept (p : Plan) (c : Command) (new : WorkMachine) (more : Lines) (request : Request) (now : Option BrickId) (kept : Option ℕ) : Type 0 where
  pub keeps : KeepsPicked p c new more (picked_then request now kept)
  pub none : is_look request ≡ false → now ≡ None

abbrev pub LineKeepsPicked : Type 0
LineKeepsPicked =
    (p : Plan) (c : Command) (old new : WorkMachine) (lines : Lines) (a : ActorId) (b : BrickId) (request : Request) (heard : Answer) (took : Bool) (log : List Line) (now : Option BrickId) (kept : Option ℕ)
    → IsWork old → WorkTells p c old lines → next_of (length log) old ≡ next.Ask b request → WorkHears old p b.0 request log heard
    → HearsPick (heard_of.Answer heard (length log)) old new now → KeepsPicked p c old lines kept
    → LineKept p c new ((Ask a b request (told_by heard) took, log) ∷ lines) request now kept

-- and after a Begin line
abbrev pub BeginKeepsPicked : Type 0
BeginKeepsPicked =
    (p : Plan) (c : Command) (old : WorkMachine) (lines : Lines) (a : ActorId) (change : Change) (log : List Line) (chosen : BrickId) (kept : Option ℕ)
    → KeepsPicked p c old lines kept → KeepsPicked p c (heard_by chosen (heard_of.Begun (length log)) old) ((Begin a change, log) ∷ lines) kept

-- ---- by a rule
-- each line that reads, and a stat's reply, keeps to what the rule has answered for the looks before it
abbrev pub LineReadsPicked : {F : Type 0} → Calls F → F → Type 0
LineReadsPicked calls choose =
    (p : Plan) (c : Command) (w : WorkMachine) (a : ActorId) (b : BrickId) (request : Request) (told : Told) (took : Bool) (log : List Line) (kept : Option ℕ)
    → IsWork w → WorkTells p c w (work a.0 log) → next_of (length log) w ≡ next.Ask b request → KeepsPicked p c w (work a.0 log) kept → PickAnswers (picks_of calls choose) (asked_for_command p c (work a.0 log)) kept
    → ReadsPicked (picks_of calls choose) p (Ask a b request told took) log

abbrev pub EndReadsPicked : {F : Type 0} → Calls F → F → Type 0
EndReadsPicked calls choose =
    (p : Plan) (c : Command) (w : WorkMachine) (a : ActorId) (said : Reply) (log : List Line) (kept : Option ℕ)
    → IsWork w → WorkTells p c w (work a.0 log) → next_of (length log) w ≡ next.End said → KeepsPicked p c w (work a.0 log) kept → PickAnswers (picks_of calls choose) (asked_for_command p c (work a.0 log)) kept
    → ReadsPicked (picks_of calls choose) p (End a said) log

-- what the rule that is asked answers, it answers for what it is asked for by the lines; none, exactly where that is nothing
abbrev pub LineAsksRule : {F : Type 0} → Calls F → F → Type 0
LineAsksRule calls choose =
    (p : Plan) (c : Command) (old : WorkMachine) (lines : Lines) (a : ActorId) (b : BrickId) (request : Request) (heard : Answer) (took : Bool) (log : List Line) (now : Option BrickId) (kept : Option ℕ)
    → IsWork old → WorkTells p c old lines → next_of (length log) old ≡ next.Ask b request → WorkHears old p b.0 request log heard → KeepsPicked p c old lines kept
    → RuleAnswers calls choose (choices_heard (heard_of.Answer heard (length log)) old) now → PickAnswers (picks_of calls choose) (asked_for_command p c lines) kept
    → PickAnswers (picks_of calls choose) (asked_for_command p c ((Ask a b request (told_by heard) took, log) ∷ lines)) (picked_then request now kept)

-- what a rule has answered it has picked of the copies, whatever rule it was
abbrev pub AnswersOneOf : {F : Type 0} → Calls F → F → Type 0
AnswersOneOf calls choose = (from : List Candidate) (picked : Option BrickId) → RuleAnswers calls choose from picked → IsPickedOf from picked
