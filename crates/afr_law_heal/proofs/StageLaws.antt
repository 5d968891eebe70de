-- What is to be shown at each stage of a heal, over the exact register and the looks that the program keeps.
use Rattle.std.specs.Prelude.{ℕ, ◌≡◌, ◌<◌, ◌≤◌, Bool, true, ◌∷◌, List}
use Rattle.afr_base.specs.declared.ids.ActorId.{ActorId}
use Rattle.afr_base.specs.declared.ids.Gfid.{Gfid}
use Rattle.afr_base.specs.declared.ids.Kind.{Kind}
use Rattle.afr_base.specs.declared.ids.Shape.{Shape}
use Rattle.afr_choice.specs.Looks.{no_looks}
use Rattle.afr_choice.specs.declared.looked.Looked.{Looked}
use Rattle.afr_discipline.specs.Notes.{shown, shown_if}
use Rattle.afr_heal.specs.Answers.{PicksOne, asked_for, begun_at, fits, source_after}
use Rattle.afr_heal.specs.Engine.{Ask, Begins, Ends, NextOfHeal, next_of}
use Rattle.afr_heal.specs.Standing.{Standing}
use Rattle.afr_law_heal.specs.HealLaws.{IsWholeTold, SettlesSeen}
use Rattle.afr_law_heal.specs.HealTelling.{Tells}
use Rattle.afr_law_heal.specs.Stages.{IsShown}
use Rattle.afr_lines.specs.Work.{Work}
use Rattle.afr_lines.specs.declared.answer.Told.{Told}
use Rattle.afr_lines.specs.declared.line.Line.{Line}
use Rattle.afr_lines.specs.declared.line.Line.TheVariants as line
use Rattle.afr_lines.specs.declared.request.Request.{Request}
use Rattle.afr_lines.specs.declared.request.Request.TheVariants.{Look}
use Rattle.afr_model.specs.HealReplies.{IsHealAnswered}
use Rattle.afr_model_moves.specs.Keeps.{keeps_in}
use Rattle.afr_model_moves.specs.Register.{Exact, HealPart, is_opening}
use Rattle.afr_heal_machine.specs.Outcome.{cause, outcome_after, reply_of}
use Rattle.afr_heal_machine.specs.declared.outcome.HealOutcome.{HealOutcome}

-- the first looks after a request, and the last ones
abbrev pub seen_next : Request → ℕ → Told → HealPart → Looked → Looked
seen_next (Look g) b told part seen = shown_if (is_opening part) seen b told
seen_next request b told part seen = seen

abbrev pub looked_next : Request → ℕ → Told → Looked → Looked
looked_next (Look g) b told looked = shown looked b told
looked_next request b told looked = looked

-- the outcome after it: `r` is the register before, `q` after, and the looks are those after it
abbrev pub outcome_next : Shape → Exact → Exact → Looked → Looked → ℕ → Kind → Request → Told → HealOutcome → HealOutcome
outcome_next shape r q seen looked s kind request told o = outcome_after r.broken q.broken o (cause shape kind r.part q.part s seen looked request told)

-- after a request, whatever was told
abbrev pub TellsAsked : ((ℕ → Bool) → ℕ) → Shape → Exact → Looked → Looked → ℕ → Gfid → Kind → HealOutcome → Work → ℕ → Request → Exact → Told → Line → List Line → Type 0
TellsAsked pick shape r seen looked s g kind o w b request q told said log =
    IsShown q (seen_next request b told r.part seen) (looked_next request b told looked)
    → Tells shape q (seen_next request b told r.part seen) (looked_next request b told looked) (source_after shape.n (keeps_in shape) pick q s) g kind
    (outcome_next shape r q (seen_next request b told r.part seen) (looked_next request b told looked) s kind request told o) ((said, log) ∷ w)

-- what the next line leaves of what the lines tell; a settling takes back what they show; the end has its cause
abbrev pub TellsNext : ((ℕ → Bool) → ℕ) → Shape → Exact → Looked → Looked → ℕ → Gfid → Kind → HealOutcome → Work → NextOfHeal → Type 0
TellsNext pick shape r seen looked s g kind o w (Ask b request) =
    ((t : ℕ) (told : Told) (a : ActorId) (took : Bool) (log : List Line) → fits request told ≡ true → IsWholeTold told
    → TellsAsked pick shape r seen looked s g kind o w b request (asked_for shape.n (keeps_in shape) r t b request told) told (line.Ask a (record { 0 = b }) request told took) log)
    × SettlesSeen shape kind b request w
TellsNext pick shape r seen looked s g kind o w Begins =
    (t : ℕ) (a : ActorId) (log : List Line) → Tells shape (begun_at shape.n (keeps_in shape) r t g kind) seen no_looks s g kind o ((line.HealBegin a g kind, log) ∷ w)
TellsNext pick shape r seen looked s g kind o w Ends = IsHealAnswered shape g kind w (reply_of o seen)

-- the law of each stage: in each case of `Standing`
abbrev pub StageTells : Type 0
StageTells =
    (pick : (ℕ → Bool) → ℕ) (shape : Shape) (r : Exact) (seen looked : Looked) (s : ℕ) (g : Gfid) (kind : Kind) (o : HealOutcome) (w : Work)
    → 0 < shape.n → shape.n ≤ 5 → PicksOne shape.n pick → Standing shape.n (keeps_in shape) r s g kind → IsShown r seen looked → Tells shape r seen looked s g kind o w
    → TellsNext pick shape r seen looked s g kind o w (next_of shape.n (keeps_in shape) r s g kind)
