-- The machine of a heal of one kind of one object.
use Rattle.std.specs.Prelude.{ℕ, ◌≡◌, ◌<◌, ◌≤◌, true, if◌then◌else◌}
use Rattle.afr_base.specs.declared.ids.BrickId.{BrickId}
use Rattle.afr_base.specs.declared.ids.Gfid.{Gfid}
use Rattle.afr_base.specs.declared.ids.Kind.{Kind}
use Rattle.afr_base.specs.declared.ids.Kind.TheVariants as kind_of
use Rattle.afr_base.specs.declared.ids.Shape.{Shape}
use Rattle.afr_discipline.specs.Notes.{noted_ask, noted_part}
use Rattle.afr_discipline.specs.Stands.{no_lines, seen_as, views_of}
use Rattle.afr_discipline.specs.declared.register.Register.{Register}
use Rattle.afr_heal.specs.Answers.{fits}
use Rattle.afr_heal.specs.Carried.{Heals, next_by}
use Rattle.afr_heal.specs.Coming.{RoomEach}
use Rattle.afr_heal.specs.Engine.{NextOfHeal, Ask, Begins, Ends}
use Rattle.afr_heal.specs.Spare.{IsSpare}
use Rattle.afr_lines.specs.Told.{told_by}
use Rattle.afr_lines.specs.declared.answer.Answer.{Answer}
use Rattle.afr_lines.specs.declared.answer.Told.{Told}
use Rattle.afr_lines.specs.declared.answer.Told.TheVariants.{Seen}
use Rattle.afr_lines.specs.declared.line.Next.{Next as Line}
use Rattle.afr_lines.specs.declared.line.Next.TheVariants as line
use Rattle.afr_lines.specs.declared.request.Request.{Request}
use Rattle.afr_model_moves.specs.Register.{len_of}
use Rattle.afr_object.specs.declared.entry.View.{View}
use Rattle.afr_rule.specs.Choosing.{Calls, IsPick}
use Rattle.afr_heal_machine.specs.Contents.{AreMerged, kept, none_in, readied}
use Rattle.afr_heal_machine.specs.Outcome.{outcome_by, reply_of}
use Rattle.afr_heal_machine.specs.Source.{IsCandidate, IsLowest, candidates_of, is_found}
use Rattle.afr_heal_machine.specs.declared.contents.ReadSoFar.{ReadSoFar}
use Rattle.afr_heal_machine.specs.declared.outcome.HealOutcome.{HealOutcome}
use Rattle.afr_heal_machine.specs.declared.outcome.HealOutcome.TheVariants.{Settled}

-- a heal: its object and kind, the register of its lines, its source, how it ends, and what it read
pub record Healing : Type 0 where
  pub gfid : Gfid
  pub kind : Kind
  pub register : Register
  pub source : BrickId
  pub outcome : HealOutcome
  pub contents : ReadSoFar

-- a heal that begins
abbrev pub heal_from : Shape → Gfid → Kind → Healing
heal_from shape g kind = record { gfid = g; kind = kind; register = no_lines shape; source = record { 0 = 0 }; outcome = Settled; contents = none_in kind }

-- the next line of the engine
abbrev pub coming : Healing → NextOfHeal
coming m = next_by m.register m.source.0 m.gfid m.kind

-- the same as a line
abbrev pub line_of : Healing → NextOfHeal → Line
line_of m (Ask b request) = line.Ask (record { 0 = b }) request
line_of m Begins = line.HealBegin m.gfid m.kind
line_of m Ends = line.HealEnd m.gfid m.kind (reply_of m.outcome m.register.seen)

abbrev pub next_of : Healing → Line
next_of m = line_of m (coming m)

-- ---- what it keeps
-- each view that was seen first is no longer than the longest file
abbrev pub AreShort : Register → Type 0
AreShort p = (x : ℕ) → len_of (views_of p.seen x) ≤ 1048576

-- what a heal keeps at every moment, whatever its bricks answer
pub record IsHealing (m : Healing) : Type 0 where
  pub heals : Heals m.register m.source.0 m.gfid m.kind
  pub small : m.source.0 < 5
  pub room : RoomEach m.register m.kind
  pub short : AreShort m.register
  pub spare : IsSpare (seen_as m.register) m.source.0
  pub merged : AreMerged m.contents

-- a view that a brick can show: a number of changes that leaves room, and no length beyond that of the longest file
pub record IsShowable (view : View) : Type 0 where
  pub len : view.len ≤ 1048576
  pub bytes : view.marks.bytes.dirty < 4294967295
  pub attrs : view.marks.attrs.dirty < 4294967295
  pub names : view.marks.names.dirty < 4294967295

abbrev pub IsTellable : Told → Type 0
IsTellable (Seen view) = IsShowable view
IsTellable told = Unit {0}

-- an answer that bricks give to this line
abbrev pub CanHear : NextOfHeal → Answer → Type 0
CanHear (Ask b request) answer = (fits request (told_by answer) ≡ true) × IsTellable (told_by answer)
CanHear other answer = ⊥

-- ---- what an answer leaves
-- the register after the request at brick b was answered
abbrev pub register_after : Healing → ℕ → Request → Answer → ℕ → Register
register_after m b request answer at = noted_ask m.register at b request (told_by answer)

-- the heal with this as its source once the first looks are over
abbrev pub answered : Healing → ℕ → Request → Answer → ℕ → BrickId → Healing
answered m b request answer at chosen = record {
  gfid = m.gfid;
  kind = m.kind;
  register = register_after m b request answer at;
  source = if is_found m.register.shape.n (seen_as (register_after m b request answer at)) then chosen else m.source;
  outcome = outcome_by m.register (register_after m b request answer at) m.source.0 m.kind request (told_by answer) m.outcome;
  contents = kept b answer m.contents;
}

-- for names the lowest candidate, whatever the rule says: each good copy is read; else what the rule picks
abbrev pub IsChosen : {F : Type 0} → Calls F → F → Kind → Register → BrickId → Type 0
IsChosen calls choose kind_of.Names p chosen = IsLowest p chosen
IsChosen calls choose kind p chosen = IsPick calls choose (candidates_of p) chosen

-- a request was answered
pub record IsFed {F : Type 0} (calls : Calls F) (choose : F) (answer : Answer) (at : ℕ) (old new : Healing) : Type 0 where
  pub brick : ℕ
  pub request : Request
  pub asked : coming old ≡ Ask brick request
  pub chosen : BrickId
  pub picked : is_found old.register.shape.n (seen_as new.register) ≡ true → IsChosen calls choose old.kind new.register chosen
  pub value : new ≡ answered old brick request answer at chosen

-- the same, whatever rule it was: the source is a copy that lets the heal go on
pub record IsAnswered (answer : Answer) (at : ℕ) (old new : Healing) : Type 0 where
  pub brick : ℕ
  pub request : Request
  pub asked : coming old ≡ Ask brick request
  pub chosen : BrickId
  pub picked : is_found old.register.shape.n (seen_as new.register) ≡ true → IsCandidate new.register chosen.0
  pub value : new ≡ answered old brick request answer at chosen

-- after a HealBegin line
abbrev pub begun : ℕ → Healing → Healing
begun at m = record m { register = noted_part m.register at m.kind }

-- with the merge of names
abbrev pub made_ready : Healing → Healing
made_ready m = record m { contents = readied m.contents }
