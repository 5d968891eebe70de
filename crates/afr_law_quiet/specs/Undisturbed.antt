-- What a round does that nothing disturbs.
use Rattle.std.specs.Prelude.{◌≡◌, ◌⊎◌, ◌↔◌, ℕ, ◌<◌, ◌≤◌, ◌++◌, true, List, [], ◌∷◌, Option, Some, None, length, slice_get}
use Rattle.afr_base.specs.Bricks.{below}
use Rattle.afr_base.specs.Keeping.{keeps}
use Rattle.afr_base.specs.declared.ids.BrickId.{BrickId}
use Rattle.afr_base.specs.declared.ids.Gfid.{Gfid}
use Rattle.afr_base.specs.declared.ids.Kind.{Kind}
use Rattle.afr_base.specs.declared.ids.Kind.TheVariants.{Bytes}
use Rattle.afr_base.specs.declared.ids.What.{What}
use Rattle.afr_object.specs.Tables.{copy_at}
use Rattle.afr_object.specs.declared.entry.View.{View}
use Rattle.afr_object.specs.Object.{Object}
use Rattle.afr_lines.specs.Log.{EachLine}
use Rattle.afr_lines.specs.Work.{Work, ended, work}
use Rattle.afr_lines.specs.declared.line.Line.{Line}
use Rattle.afr_lines.specs.declared.line.Line.TheVariants.{End, HealBegin, HealEnd}
use Rattle.afr_lines.specs.declared.reply.HealReply.{HealReply}
use Rattle.afr_lines.specs.declared.reply.HealReply.TheVariants as healed
use Rattle.afr_plan.specs.declared.plan.Plan.{Plan}
use Rattle.afr_model.specs.Actors.{rounds_of}
use Rattle.afr_model.specs.Cells.{Cell, object_of_cell, kind_of_cell, value_of}
use Rattle.afr_model.specs.Healing.{heal_by}
use Rattle.afr_model.specs.Quiet.{IsQuiet}
use Rattle.afr_model.specs.Rounds.{heals_of, listed_by}
use Rattle.afr_model.specs.Safe.{log_before}
use Rattle.afr_model.specs.Splits.{IsSplit}
use Rattle.afr_model.specs.Sums.{dirty_of, has_object, pending_of}
use Rattle.afr_model.specs.Tables.{holds}
use Rattle.afr_law_tables.specs.Clear.{IsClear}

-- ---- the list of a round
-- brick b has the object, and a number of it is above 0
pub record IsOpenAt (p : Plan) (log : List Line) (b : ℕ) (g : Gfid) : Type 0 where
  pub there : has_object p log g b ≡ true
  pub kind : Kind
  pub above : (0 < dirty_of p log b g kind) ⊎ ((c : ℕ) × (c < 5) × (0 < pending_of p log b c g kind))

-- the object stands in the list
abbrev pub IsListed : Gfid → List (Gfid × What) → Type 0
IsListed g list = (i : ℕ) × (what : What) × (slice_get list i ≡ Some (g, what))

-- the heals that a round has ended, the oldest first
abbrev pub ends_one : Line → List (Gfid × Kind)
ends_one (HealEnd a g kind said) = (g, kind) ∷ []
ends_one line = []

abbrev pub ended_heals : Work → List (Gfid × Kind)
ended_heals [] = []
ended_heals (x ∷ w) = ended_heals w ++ ends_one x.0

-- ---- each heal of a round
-- a fact of each heal that a round has ended, and of the log before its end
abbrev pub OfHeal : (Gfid → Kind → HealReply → List Line → Type 0) → Line → List Line → Type 0
OfHeal P (HealEnd a g kind said) older = P g kind said older
OfHeal P line older = Unit {0}

abbrev pub EachHeal : (Gfid → Kind → HealReply → List Line → Type 0) → Work → Type 0
EachHeal P [] = Unit {0}
EachHeal P (x ∷ w) = OfHeal P x.0 x.1 × EachHeal P w

-- the log before the first HealBegin line of a heal
abbrev pub or_log : Option (List Line) → Option (List Line) → Option (List Line)
or_log (Some log) next = Some log
or_log None next = next

abbrev pub if_begin : Line → List Line → Option (List Line)
if_begin (HealBegin a g kind) older = Some older
if_begin line older = None

abbrev pub begun_after : Work → Option (List Line)
begun_after [] = None
begun_after (x ∷ w) = or_log (begun_after w) (if_begin x.0 x.1)

-- the reply names what the copies show
abbrev pub IsSplitReply : HealReply → Type 0
IsSplitReply said = (views : List (Option View)) × (said ≡ healed.Split views)

-- the heal began, and its reply says what stood then: nothing where all numbers of the kind were 0, a split-brain exactly where all bricks show one, or else it settled
pub record IsTold (p : Plan) (g : Gfid) (kind : Kind) (said : HealReply) (w : Work) : Type 0 where
  pub begun : List Line
  pub is_begun : begun_after w ≡ Some begun
  pub few : (said ≡ healed.Nothing) ⊎ ((said ≡ healed.Settled) ⊎ IsSplitReply said)
  pub nothing : (said ≡ healed.Nothing) ↔ IsClear p begun g kind
  pub split : IsSplitReply said ↔ IsSplit p begun (below p.shape.n) g kind

-- ---- what a settled heal leaves
-- every brick of the volume has the object
abbrev pub IsEverywhere : Plan → List Line → Gfid → Type 0
IsEverywhere p log g = (b : ℕ) → b < p.shape.n → has_object p log g b ≡ true

-- two copies that keep the kind have the same in all its cells, and files the same length
pub record AreEqual (p : Plan) (log : List Line) (g : Gfid) (kind : Kind) (b c : ℕ) : Type 0 where
  pub cells : (cell : Cell) → object_of_cell cell ≡ g → kind_of_cell cell ≡ kind → value_of p log b cell ≡ value_of p log c cell
  pub lengths : (x y : Object) → kind ≡ Bytes → copy_at g (holds p log b) ≡ Some x → copy_at g (holds p log c) ≡ Some y → length x.content ≡ length y.content

-- all numbers are 0, and all copies equal
pub record IsRepaired (p : Plan) (log : List Line) (g : Gfid) (kind : Kind) : Type 0 where
  pub clear : IsClear p log g kind
  pub equal : (b c : ℕ) → b < p.shape.n → c < p.shape.n → keeps p.shape kind b ≡ true → keeps p.shape kind c ≡ true → AreEqual p log g kind b c

-- so it is at the round's end where the heal settled and every brick had the object when it began
abbrev pub EndsRepaired : Plan → List Line → Gfid → Kind → HealReply → Work → Type 0
EndsRepaired p log g kind said w = said ≡ healed.Settled → (begun : List Line) → begun_after w ≡ Some begun → IsEverywhere p begun g → IsRepaired p log g kind

-- ---- the round
-- the round of healer a at brick b, whose end comes next: its list is exactly what was open there, each object got its two heals, and each heal did what it told
pub record IsWholeRound (p : Plan) (a : ℕ) (b : BrickId) (older : List Line) : Type 0 where
  pub lists : (g : Gfid) → IsListed g (listed_by p (work a older)) ↔ IsOpenAt p (log_before (work a older) older) b.0 g
  pub both : ended_heals (work a older) ≡ heals_of (listed_by p (work a older))
  pub told : EachHeal (λ g kind said before. IsTold p g kind said (heal_by (work a before))) (work a older)
  pub kept : EachHeal (λ g kind said before. EndsRepaired p older g kind said (heal_by (work a before))) (work a older)

-- so is the round that a line ends, where nothing disturbed it
abbrev pub IsQuietWhole : Plan → Line → List Line → Type 0
IsQuietWhole p (End a said) older = 17 ≤ a.0 → (b : BrickId) → slice_get (rounds_of p a.0) (ended a.0 older) ≡ Some b → IsQuiet p a.0 older → IsWholeRound p a.0 b older
IsQuietWhole p line older = Unit {0}

abbrev pub AreQuietWhole : Plan → List Line → Type 0
AreQuietWhole p log = EachLine (IsQuietWhole p) log
