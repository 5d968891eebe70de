-- What holds of every heal and its lines.
use Rattle.std.specs.Prelude.{ℕ, ◌≡◌, ◌<◌, ◌≤◌, Bool, true, [], ◌∷◌, List}
use Rattle.afr_base.specs.declared.ids.ActorId.{ActorId}
use Rattle.afr_base.specs.declared.ids.Gfid.{Gfid}
use Rattle.afr_base.specs.declared.ids.Kind.{Kind}
use Rattle.afr_base.specs.declared.ids.Shape.{Shape}
use Rattle.afr_discipline.specs.Notes.{noted_ask, noted_part}
use Rattle.afr_discipline.specs.Stands.{HasFive, no_lines, seen_as}
use Rattle.afr_discipline.specs.declared.register.Register.{Register}
use Rattle.afr_heal.specs.Answers.{PicksOne, asked_for, fits, source_after}
use Rattle.afr_heal.specs.Carried.{Heals, next_by}
use Rattle.afr_heal.specs.Engine.{Ask, Begins, Ends}
use Rattle.afr_law_heal.specs.HealTelling.{HealTells}
use Rattle.afr_lines.specs.Work.{Work}
use Rattle.afr_lines.specs.declared.answer.Told.{Told}
use Rattle.afr_lines.specs.declared.answer.Told.TheVariants.{Seen}
use Rattle.afr_lines.specs.declared.line.Line.{Line}
use Rattle.afr_lines.specs.declared.line.Line.TheVariants as line
use Rattle.afr_lines.specs.declared.request.Request.{Request}
use Rattle.afr_lines.specs.declared.request.Request.TheVariants.{Settle}
use Rattle.afr_model.specs.HealReplies.{IsHealAnswered, IsSettling}
use Rattle.afr_model_moves.specs.Keeps.{keeps_in}
use Rattle.afr_model_moves.specs.Ranges.{MarksInRange}
use Rattle.afr_heal_machine.specs.Outcome.{outcome_by, reply_of}
use Rattle.afr_heal_machine.specs.declared.outcome.HealOutcome.{HealOutcome}
use Rattle.afr_heal_machine.specs.declared.outcome.HealOutcome.TheVariants.{Settled}

-- a view that was told has a number for each of five bricks
abbrev pub IsWholeTold : Told → Type 0
IsWholeTold (Seen view) = MarksInRange view.marks.bytes × MarksInRange view.marks.attrs × MarksInRange view.marks.names
IsWholeTold told = Unit {0}

-- the source after it, by the rule
abbrev pub source_next : ((ℕ → Bool) → ℕ) → Register → ℕ → ℕ → Request → Told → ℕ → ℕ
source_next pick p t b request told s = source_after p.shape.n (keeps_in p.shape) pick (asked_for p.shape.n (keeps_in p.shape) (seen_as p) t b request told) s

-- no lines show a heal that begins
abbrev pub HealBeginsTold : Type 0
HealBeginsTold = (shape : Shape) (s : ℕ) (g : Gfid) (kind : Kind) → 0 < shape.n → shape.n ≤ 5 → HealTells (no_lines shape) s g kind Settled []

-- after one line more, whatever was told, the lines show where the heal stands then
abbrev pub HealTellsMore : Type 0
HealTellsMore =
    (pick : (ℕ → Bool) → ℕ) (p : Register) (s : ℕ) (g : Gfid) (kind : Kind) (o : HealOutcome) (w : Work) (a : ActorId) (b t : ℕ) (request : Request) (told : Told) (took : Bool) (log : List Line)
    → PicksOne p.shape.n pick → Heals p s g kind → HasFive (noted_ask p t b request told) → next_by p s g kind ≡ Ask b request → fits request told ≡ true → IsWholeTold told → HealTells p s g kind o w
    → HealTells (noted_ask p t b request told) (source_next pick p t b request told s) g kind (outcome_by p (noted_ask p t b request told) s kind request told o) ((line.Ask a (record { 0 = b }) request told took, log) ∷ w)

-- and so after a HealBegin line
abbrev pub HealTellsBegun : Type 0
HealTellsBegun =
    (p : Register) (s : ℕ) (g : Gfid) (kind : Kind) (o : HealOutcome) (w : Work) (a : ActorId) (t : ℕ) (log : List Line)
    → Heals p s g kind → next_by p s g kind ≡ Begins → HealTells p s g kind o w → HealTells (noted_part p t kind) s g kind o ((line.HealBegin a g kind, log) ∷ w)

-- a settling of this request takes back what the lines show
abbrev pub SettlesSeen : Shape → Kind → ℕ → Request → Work → Type 0
SettlesSeen shape kind b (Settle h what less) w = IsSettling shape kind less b w
SettlesSeen shape kind b request w = Unit {0}

-- each settling takes back at a holder, once, what the first looks showed
abbrev pub HealSettlesSeen : Type 0
HealSettlesSeen =
    (p : Register) (s : ℕ) (g : Gfid) (kind : Kind) (o : HealOutcome) (w : Work) (b : ℕ) (request : Request) → Heals p s g kind → HealTells p s g kind o w → next_by p s g kind ≡ Ask b request
    → SettlesSeen p.shape kind b request w

-- the reply has its cause, and nothing was skipped
abbrev pub HealEndsWell : Type 0
HealEndsWell = (p : Register) (s : ℕ) (g : Gfid) (kind : Kind) (o : HealOutcome) (w : Work) → Heals p s g kind → HealTells p s g kind o w → next_by p s g kind ≡ Ends → IsHealAnswered p.shape g kind w (reply_of o p.seen)
