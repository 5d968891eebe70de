-- The discipline in full: each line of a log is a move that the lines before it allow its actor.
use Rattle.std.specs.Prelude.{◌≡◌, ℕ, zero, suc, ◌+◌, ◌<◌, ◌≤◌, Bool, true, false, ◌⊎◌, Option, None, Some}
use Rattle.afr_base.specs.declared.ids.Kind.{Kind}
use Rattle.afr_base.specs.declared.ids.What.{What}
use Rattle.afr_object.specs.declared.change.Change.{Change}
use Rattle.afr_object.specs.declared.change.Change.TheVariants.{Make}
use Rattle.afr_lines.specs.declared.request.Request.{Request}
use Rattle.afr_lines.specs.declared.request.Request.TheVariants.{ReadName}
use Rattle.afr_lines.specs.declared.answer.Told.TheVariants.{Given}
use Rattle.afr_lines.specs.declared.line.Line.{Line}
use Rattle.afr_lines.specs.declared.line.Line.TheVariants.{Ask, Begin, HealBegin, End, HealEnd, Event}
use Rattle.afr_model_moves.specs.Sets.{empty}
use Rattle.afr_model_moves.specs.Cells.{Entry, entry_code}
use Rattle.afr_model_moves.specs.Past.{Beginning, Log, is_of, place, opens, value}
use Rattle.afr_model_moves.specs.Rules as weak
use Rattle.afr_model_moves.specs.Rules.{no_views}
use Rattle.afr_model_moves.specs.Lines.{is_ok, ask_by}
use Rattle.afr_model_moves.specs.Register.{Exact, untouched, Open, Looks, no_reads}
use Rattle.afr_model_moves.specs.Transaction.{Outside, MayBegin, MayEnd}
use Rattle.afr_model_moves.specs.Heal.{InHeal, MayHealBegin, MayHealEnd}
use Rattle.afr_model_moves.specs.Note.{left_by, stopping}
use Rattle.afr_model_moves.specs.Ranges.{InRange}

-- a request outside a heal, or in one
abbrev pub MayAskExactly : ℕ → (ℕ → Kind → Bool) → Exact → ℕ → Request → Type 0
MayAskExactly n keeps r b request = ((r.law.heal ≡ false) × Outside n keeps r b request) ⊎ InHeal n keeps r b request

-- the move of a line
abbrev pub MayExactly : ℕ → (ℕ → Kind → Bool) → (ℕ → Exact) → Option Line → Type 0
MayExactly n keeps of None = Unit {0}
MayExactly n keeps of (Some (Ask a b request told took)) = (b.0 < n) × MayAskExactly n keeps (of a.0) b.0 request
MayExactly n keeps of (Some (Begin a change)) = MayBegin n keeps (of a.0) change
MayExactly n keeps of (Some (HealBegin a g kind)) = MayHealBegin n (of a.0) g.0 kind
MayExactly n keeps of (Some (End a reply)) = MayEnd n (of a.0) (is_ok reply)
MayExactly n keeps of (Some (HealEnd a g kind reply)) = MayHealEnd n (of a.0)
MayExactly n keeps of (Some (Event e)) = Unit {0}

-- what a line leaves in the register of its actor
abbrev pub note : ℕ → (ℕ → Kind → Bool) → Exact → ℕ → Option Line → Exact
note n keeps r t (Some (Ask a b request told took)) = stopping n keeps (record (left_by n keeps r t b.0 request told) { law = weak.note n r.law t (Some (Ask a b request told took)) })
note n keeps r t (Some (Begin a change)) = record r { step = Open; law = weak.note n r.law t (Some (Begin a change)) }
note n keeps r t (Some (HealBegin a g kind)) = record r { law = weak.note n r.law t (Some (HealBegin a g kind)); step = Looks; asked = empty; reached = empty; views = no_views; reads = no_reads }
note n keeps r t (Some (HealEnd a g kind reply)) = untouched
note n keeps r t _ = r

-- the register that stands for the lines of the work or heal that the line belongs to
abbrev pub in_force : Bool → Exact → Exact
in_force true r = untouched
in_force false r = r

-- the register of an actor after a line, which may be of another
abbrev pub exact_after : ℕ → (ℕ → Kind → Bool) → Bool → Bool → Exact → ℕ → Option Line → Exact
exact_after n keeps false first r t line = r
exact_after n keeps true first r t line = note n keeps (in_force first r) t line

-- the register of the lines of actor a before t
unfoldable pub exact : ℕ → (ℕ → Kind → Bool) → Log → ℕ → ℕ → Exact
exact n keeps log zero a = untouched
exact n keeps log (suc t) a = exact_after n keeps (is_of a (log t)) (opens (place log t a) (log t)) (exact n keeps log t a) t (log t)

-- the one in force at the line at t
abbrev pub present : ℕ → (ℕ → Kind → Bool) → Log → ℕ → ℕ → Exact
present n keeps log t a = in_force (weak.opened log t a) (exact n keeps log t a)

-- each line is a move that the lines before it allow
abbrev pub MovesExactly : ℕ → (ℕ → Kind → Bool) → Log → Type 0
MovesExactly n keeps log = (t : ℕ) → MayExactly n keeps (present n keeps log t) (log t)

-- the reply of a work whose line this is
abbrev pub EndsWork : ℕ → Option Line → Type 0
EndsWork a (Some (End x reply)) = x.0 ≡ a
EndsWork a _ = ⊥

-- a ReadName line of the work that actor a is in at t gave an entry of this gfid and kind of object
pub record HasRead (files : Beginning) (log : Log) (t a g : ℕ) (what : What) : Type 0 where
  pub r : ℕ
  pub b : ℕ
  pub dir : ℕ
  pub name : ℕ
  pub past : r < t
  pub is : log r ≡ Some (ask_by a b (ReadName (record { 0 = dir }) (record { 0 = name })) Given true)
  pub same_work : (u : ℕ) → r ≤ u → u < t → EndsWork a (log u) → ⊥
  pub gave : value files log r b (Entry dir name) ≡ entry_code g what

-- a Make has as its gfid the position plus 2, or the gfid and kind of object of an entry that its work read
abbrev pub MakesKnown : Beginning → Log → ℕ → ℕ → Change → Type 0
MakesKnown files log t a (Make dir name g what) = (g.0 ≡ t + 2) ⊎ HasRead files log t a g.0 what
MakesKnown files log t a _ = Unit {0}

-- what a Begin line makes is known
abbrev pub BeginsKnown : Beginning → Log → ℕ → Option Line → Type 0
BeginsKnown files log t (Some (Begin a change)) = MakesKnown files log t a.0 change
BeginsKnown files log t _ = Unit {0}

-- the numbers of the line that is there
abbrev pub NumbersInRange : Option Line → Type 0
NumbersInRange None = Unit {0}
NumbersInRange (Some line) = InRange line

-- the lines of every actor keep the discipline
pub record LawfulExactly (n : ℕ) (files : Beginning) (log : Log) : Type 0 where
  pub ranges : (t : ℕ) → NumbersInRange (log t)
  pub moves : MovesExactly n files.keeps log
  pub makes : (t : ℕ) → BeginsKnown files log t (log t)
