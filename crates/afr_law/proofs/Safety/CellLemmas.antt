-- Changes, repairs, looks and marks of one cell.
use Rattle.afr_lines.specs.declared.fault.Fault.TheVariants.{Fail, Lost}
use Rattle.afr_lines.specs.declared.fault.Fault.{Fault}
use Rattle.std.proofs.Common.{◌≡◌, ℕ, zero, suc, ◌+◌, ◌^◌, ◌<◌, ◌≤◌, Bool, true, false, ◌&&◌, ◌⊎◌, inl, inr, refl, sym, ◌∙◌, subst, arith, true≢false}
use Rattle.std.specs.Prelude.{Option, None, Some, ◌==◌, nat_le, nat_lt, length, List as Seq, [], ◌∷◌, max}
use Rattle.std.proofs.lemmas.Bool.Decides.{nat_tests}
use Rattle.afr_base.specs.declared.ids.Kind.{Kind}
use Rattle.afr_object.specs.declared.entry.View.{View}
use Rattle.afr_object.specs.declared.change.Change.{Change}
use Rattle.afr_lines.specs.declared.request.Area.{Area}
use Rattle.afr_lines.specs.declared.answer.Told.{Told}
use Rattle.afr_lines.specs.declared.answer.Told.TheVariants.{Seen}
use Rattle.afr_lines.specs.declared.line.Line.{Line}
use Rattle.afr_lines.specs.declared.line.Line.TheVariants.{Begin}
use Rattle.afr_model_moves.specs.Cells.{Cell, covers, object_of, kind_of, Byte, Attr, Entry, touches}
use Rattle.afr_model_moves.specs.Past.{Beginning, Log, holds, touch, stamp, leaves_of, most, value, posts, settled, changes, mends, object, object_of_line}
use Rattle.afr_model_moves.specs.Honest.{HonestAsk, Shows, plane_kind, Tells}
use Rattle.afr_model_moves.specs.Rules.{PlaneIs, some_read, EachRead}
use Rattle.afr_base.specs.declared.ids.Kind.TheVariants.{Bytes}
use Rattle.afr_object.specs.declared.change.Change.TheVariants.{Write, Cut, SetAttr, Make, Remove}
use Rattle.afr_law.proofs.Safety.Core.{Clean}
use Rattle.afr_law.proofs.Safety.Acts.{Act}
use Rattle.afr_law.proofs.Heals.Looks.{LookAt, look_acts}
use Rattle.afr_law.proofs.Safety.Touches.{begin_cells}
use Rattle.afr_base.specs.Majority.{IsMajority}
use Rattle.afr_model_moves.specs.Lines.{ask_by, look_at, post_on, cut_to}
use Rattle.afr_base.specs.Bricks.{and_left}
use Rattle.afr_model_moves.proofs.Tests.{first_equal, max_cases}

-- a Post of an attempt that touches the cell
pub record PostedAt (files : Beginning) (log : Log) (cell : Cell) (q x p : ℕ) : Type 0 where
  pub a : ℕ
  pub g : ℕ
  pub kind : Kind
  pub missed : Seq ℕ
  pub told : Told
  pub is : log p ≡ Some (ask_by a x (post_on q g kind missed) told true)
  pub touch : changes (log q) cell ≡ true
  pub held_there : holds files log p x (object_of cell) ≡ true

-- a change touches cells of its object and kind
pub change_plane : (change : Change) (cell : Cell) → touches change cell ≡ true → (object change ≡ object_of cell) × (plane_kind change ≡ kind_of cell)
unfolding touches
change_plane (Write g at bytes) (Byte h i) e = (first_equal g.0 h (nat_le at i) (and_left ((g.0 == h) && nat_le at i) (nat_lt i (at + length bytes)) (and_left ((g.0 == h) && nat_le at i && nat_lt i (at + length bytes)) (nat_lt i (2 ^ 63)) e)), refl)
change_plane (Cut g len) (Byte h i) e = (first_equal g.0 h (nat_le len i) (and_left ((g.0 == h) && nat_le len i) (nat_lt i (2 ^ 63)) e), refl)
change_plane (SetAttr g key v) (Attr h k) e = (first_equal g.0 h (key.0 == k) e, refl)
change_plane (Make dir name g what) (Entry h m) e = (first_equal dir.0 h (name.0 == m) e, refl)
change_plane (Remove dir name what) (Entry h m) e = (first_equal dir.0 h (name.0 == m) e, refl)
change_plane _ (Byte h i) e = absurd (cc e)
change_plane _ (Attr h i) e = absurd (cc e)
change_plane _ (Entry h i) e = absurd (cc e)

-- the plane of an attempt that touches the cell is the cell's
pub post_here : (line : Option Line) (cell : Cell) (g : ℕ) (kind : Kind) → PlaneIs line g kind → changes line cell ≡ true → (g ≡ object_of cell) × (kind ≡ kind_of cell) × (object_of_line line ≡ object_of cell)
post_here (Some (Begin a change)) cell g kind plane touch = (let w = change_plane change cell touch in (sym plane.0 ∙ w.0, sym plane.1 ∙ w.1, w.0))
post_here _ cell g kind plane touch = absurd plane

-- the origins of a cell: 0 is the opening value
abbrev pub leaves_at : Beginning → Log → Cell → ℕ → ℕ
leaves_at files log cell zero = files.cells cell
leaves_at files log cell (suc q) = leaves_of (log q) cell

abbrev pub IsOriginAt : Log → Cell → ℕ → ℕ → Type 0
IsOriginAt log cell t zero = Unit {0}
IsOriginAt log cell t (suc q) = (q < t) × (changes (log q) cell ≡ true)

pub origin_later : (log : Log) (cell : Cell) (t o : ℕ) → IsOriginAt log cell t o → IsOriginAt log cell (suc t) o
origin_later log cell t zero h = tt
origin_later log cell t (suc q) h = (omega (arith, h.0), h.1)

pub record CountsAt (n : ℕ) (files : Beginning) (log : Log) (cell : Cell) (q : ℕ) : Type 0 where
  pub touch : changes (log q) cell ≡ true
  pub among : ℕ → Bool
  pub majority : IsMajority n among
  pub posted : (x : ℕ) → x < n → among x ≡ true → (p : ℕ) × PostedAt files log cell q x p

pub posts_rise : (files : Beginning) (log : Log) (g : ℕ) (kind : Kind) (t x c : ℕ) → posts files log t x c g kind ≤ posts files log (suc t) x c g kind
unfolding posts
posts_rise files log g kind t x c = omega arith

pub begins : (files : Beginning) (log : Log) (b : ℕ) (cell : Cell) → (stamp files log 0 b cell ≡ 0) × (value files log 0 b cell ≡ files.cells cell)
unfolding stamp
begins files log b cell = (refl, begin_cells files log 0 b cell)

pub no_marks : (files : Beginning) (log : Log) (x c g : ℕ) (kind : Kind) → (posts files log 0 x c g kind ≡ 0) × (settled files log 0 x c g kind ≡ 0)
unfolding posts settled
no_marks files log x c g kind = (refl, refl)

-- a look of a heal under a lock on the cell
pub record LooksCell (log : Log) (cell : Cell) (h x t : ℕ) : Type 0 where
  pub a : ℕ
  pub object : ℕ
  pub view : View
  pub mine : Area
  pub look : LookAt log a x h object view mine
  pub at : look.l ≡ t
  pub inside : covers mine cell ≡ true

pub looks_act : (log : Log) (cell : Cell) (h x t : ℕ) → LooksCell log cell h x t → Act log cell h x t
looks_act log cell h x t w = subst (Act log cell h x) w.at (look_acts log cell w.a x h w.object w.view w.mine w.look w.inside)

-- what a brick shows to a look
pub shows_at : (files : Beginning) (log : Log) (t a b g : ℕ) (view : View) (live : Bool) (fault : Option Fault) → HonestAsk files log t a b (look_at g) (Seen view) true live fault → Shows files log t b g view
shows_at files log t a b g view false fault h = absurd (cc h.0)
shows_at files log t a b g view true (Some Fail) h = absurd (cc h.0)
shows_at files log t a b g view true (Some Lost) h = absurd (cc h.0)
shows_at files log t a b g view true None h = go (holds files log t b g) h.0
  where
    go : (found : Bool) → Tells files log t a b (look_at g) (Seen view) found → Shows files log t b g view
    go true k = k
    go false k = absurd (cc k)

pub most_none : (shown : ℕ → ℕ) (reads : Seq (Option ℕ)) → some_read reads ≡ false → most shown reads ≡ 0
most_none shown [] none = refl
most_none shown (None ∷ reads) none = most_none shown reads none
most_none shown (Some r ∷ reads) none = absurd (true≢false none)

pub max_zero : (x y : ℕ) → y ≡ 0 → max x y ≡ x
max_zero x y e = omega arith

-- the greatest of some reads is one of them
pub most_is : (P : ℕ → Type 0) (shown : ℕ → ℕ) (reads : Seq (Option ℕ)) → EachRead P reads → some_read reads ≡ true → (r : ℕ) × P r × (most shown reads ≡ shown r)
most_is P shown [] each some = absurd (true≢false (sym some))
most_is P shown (None ∷ reads) each some = most_is P shown reads each some
most_is P shown (Some r ∷ reads) each some = go (some_read reads) refl (λ more. most_is P shown reads each.1 more)
  where
    go : (more : Bool) → some_read reads ≡ more → (some_read reads ≡ true → (k : ℕ) × P k × (most shown reads ≡ shown k)) → (k : ℕ) × P k × (max (shown r) (most shown reads) ≡ shown k)
    go false e rest = (r, each.0, max_zero (shown r) (most shown reads) (most_none shown reads e))
    go true e rest = (
        let w = rest e in
        elim (max_cases (shown r) (most shown reads)) [
          | inl here ↦ (r, each.0, here)
          | inr later ↦ (w.0, w.1, later ∙ w.2)
        ]
        )

-- how a cell's stamp and value change
abbrev pub WrittenAt : ℕ → (ℕ → Kind → Bool) → Beginning → Log → Cell → ℕ → ℕ → Type 0
WrittenAt n keeps files log cell t b =
    ((stamp files log (suc t) b cell ≡ stamp files log t b cell) × (value files log (suc t) b cell ≡ value files log t b cell))
    ⊎ ((q : ℕ) × Act log cell q b t × (stamp files log (suc t) b cell ≡ suc q) × (value files log (suc t) b cell ≡ leaves_of (log q) cell) × IsOriginAt log cell (suc t) (suc q))
    ⊎ ((h : ℕ) × (r : ℕ) × (s : ℕ) × Act log cell h b t × (stamp files log (suc t) b cell ≡ suc h) × (value files log (suc t) b cell ≡ value files log r s cell) × (h ≤ r) × (r ≤ t) × (keeps s (kind_of cell) ≡ true) × (s < n) × (CountsAt n files log cell h → ⊥)
    × Clean n (LooksCell log cell) (λ u x c. posts files log u x c (object_of cell) (kind_of cell)) (λ u x c. settled files log u x c (object_of cell) (kind_of cell)) h s)

pub le_back : (g h len i : ℕ) → ((g == h) && nat_le len i && nat_lt i (2 ^ 63)) ≡ true → len ≤ i
le_back g h len i e = grind (arith, nat_tests)

-- past the length that a look saw there is nothing
pub cut_zero : (files : Beginning) (log : Log) (l s object : ℕ) (view : View) (g len : ℕ) (cell : Cell) → files.keeps s Bytes ≡ true → len ≡ view.len → Shows files log l s object view → object ≡ object_of cell → mends (cut_to g len) cell ≡ true → value files log l s cell ≡ 0
cut_zero files log l s object view g len (Byte h i) kept same shows object_is inside =
    let low : view.len ≤ i = omega (arith, le_back g h len i inside, same) in
    subst (λ o. value files log l s (Byte o i) ≡ 0) object_is (shows.length kept i low)
cut_zero files log l s object view g len (Attr h i) kept same shows object_is inside = absurd (true≢false (sym inside))
cut_zero files log l s object view g len (Entry h i) kept same shows object_is inside = absurd (true≢false (sym inside))
