-- What a heal has mended: each copy that it changes gets the same, part by part.
use Rattle.afr_base.specs.declared.ids.Kind.{Kind}
use Rattle.afr_base.specs.declared.ids.Kind.TheVariants.{Attrs, Bytes, Names}
use Rattle.afr_model_moves.specs.Register.{Exact, Finish, HealPart, Mends, Opening, Piece, Step, is_opening, len_of, rank, span}
use Rattle.afr_model_moves.specs.Steps.{may_mend, mends_at, same_read, same_reads}
use Rattle.afr_law.proofs.Heals.Raises.{raise_set}
use Rattle.afr_law.proofs.Heals.Conditions.{onward_kind, onward_object}
use Rattle.afr_model_moves.specs.Lines.{cut_to}
use Rattle.afr_model_moves.specs.Past.{mends, place}
use Rattle.afr_model_moves.specs.Tally.{Tally}
use Rattle.afr_object.specs.declared.change.Repair.{Repair}
use Rattle.afr_object.specs.declared.change.Repair.TheVariants.{Copy, CutTo, PutAttrs, PutNames}
use Rattle.afr_object.specs.declared.entry.View.{View}
use Rattle.std.proofs.Common.{Bool, [], ap, arith, false, inl, inr, length, not, refl, suc, sym, true, true≢false, ℕ, ◌<◌, ◌∙◌, ◌∷◌, ◌≡◌, ◌≤◌, ◌⊎◌}
use Rattle.std.specs.Prelude.{None, Option, Some, List as Seq}
use Rattle.afr_model_moves.specs.Rules.{Register}
use Rattle.afr_model_moves.specs.Cells.{Attr, Byte, Cell, Entry, is_cell, kind_of, object_of}
use Rattle.std.proofs.lemmas.Bool.{eqb-true}
use Rattle.afr_model_moves.proofs.Tests.{same_kind_yes}
use Rattle.afr_base.specs.Bricks.{and_left, and_right}

-- the array of reads has one place a brick
abbrev pub IsWide : Repair → Type 0
IsWide (PutNames g reads) = length reads ≡ 5
IsWide _ = Unit {0}

-- the repair that this part has, if s is the source
abbrev pub Fits : ℕ → Kind → HealPart → ℕ → (ℕ → Option View) → (ℕ → Option ℕ) → ℕ → Repair → Type 0
Fits object kind part upto views reads s (CutTo g len) = (g.0 ≡ object) × (kind ≡ Bytes) × (part ≡ Opening) × (len ≡ len_of (views s))
Fits object kind part upto views reads s (Copy g at some read) = (g.0 ≡ object) × (kind ≡ Bytes) × (part ≡ Opening → ⊥) × (at ≡ upto) × (some ≡ span) × (reads s ≡ Some read)
Fits object kind part upto views reads s (PutAttrs g read) = (g.0 ≡ object) × (kind ≡ Attrs) × (reads s ≡ Some read)
Fits object kind part upto views reads s (PutNames g from) = (g.0 ≡ object) × (kind ≡ Names) × (same_reads reads 0 from ≡ true) × (length from ≡ 5)

pub read_is : (mine : Option ℕ) (other : Option ℕ) → same_read mine other ≡ true → mine ≡ other
read_is None None e = refl
read_is (Some x) (Some y) e = ap Some (eqb-true x y e)
read_is None (Some y) e = absurd (true≢false (sym e))
read_is (Some x) None e = absurd (true≢false (sym e))

reads_is : (reads : ℕ → Option ℕ) (k : ℕ) (xs ys : Seq (Option ℕ)) → same_reads reads k xs ≡ true → same_reads reads k ys ≡ true → length xs ≡ length ys → xs ≡ ys
reads_is reads k [] [] e f l = refl
reads_is reads k [] (y ∷ ys) e f l = absurd (omega (arith, l))
reads_is reads k (x ∷ xs) [] e f l = absurd (omega (arith, l))
reads_is reads k (x ∷ xs) (y ∷ ys) e f l = (
    let head : x ≡ y = sym (read_is (reads k) x (and_left _ _ e)) ∙ read_is (reads k) y (and_left _ _ f) in
    let tail : xs ≡ ys = reads_is reads (suc k) xs ys (and_right _ _ e) (and_right _ _ f) (omega (arith, l)) in
    λ i. head i ∷ tail i
    )

some_is : (x y : ℕ) → Some x ≡ Some y → x ≡ y
some_is x y e = cc e

-- a part has one repair
pub fits_one : (object : ℕ) (kind : Kind) (part : HealPart) (upto : ℕ) (views : ℕ → Option View) (reads : ℕ → Option ℕ) (s : ℕ) (x y : Repair) → Fits object kind part upto views reads s x → Fits object kind part upto views reads s y → x ≡ y
fits_one object kind part upto views reads s (CutTo g len) (CutTo h size) p q = λ i. cut_to ((p.0 ∙ sym q.0) i) ((p.3 ∙ sym q.3) i)
fits_one object kind part upto views reads s (Copy g at some read) (Copy h place more line) p q = λ i. Copy (record { 0 = (p.0 ∙ sym q.0) i }) ((p.3 ∙ sym q.3) i) ((p.4 ∙ sym q.4) i) (some_is read line (sym p.5 ∙ q.5) i)
fits_one object kind part upto views reads s (PutAttrs g read) (PutAttrs h line) p q = λ i. PutAttrs (record { 0 = (p.0 ∙ sym q.0) i }) (some_is read line (sym p.2 ∙ q.2) i)
fits_one object kind part upto views reads s (PutNames g from) (PutNames h others) p q = (let same = reads_is reads 0 from others p.2 q.2 (p.3 ∙ sym q.3) in λ i. PutNames (record { 0 = (p.0 ∙ sym q.0) i }) (same i))
fits_one object kind part upto views reads s (CutTo g len) (Copy h place more line) p q = absurd (q.2 p.2)
fits_one object kind part upto views reads s (Copy g at some read) (CutTo h size) p q = absurd (p.2 q.2)
fits_one object kind part upto views reads s (CutTo g len) (PutAttrs h line) p q = absurd (cc (sym p.1 ∙ q.1))
fits_one object kind part upto views reads s (CutTo g len) (PutNames h others) p q = absurd (cc (sym p.1 ∙ q.1))
fits_one object kind part upto views reads s (Copy g at some read) (PutAttrs h line) p q = absurd (cc (sym p.1 ∙ q.1))
fits_one object kind part upto views reads s (Copy g at some read) (PutNames h others) p q = absurd (cc (sym p.1 ∙ q.1))
fits_one object kind part upto views reads s (PutAttrs g read) (CutTo h size) p q = absurd (cc (sym p.1 ∙ q.1))
fits_one object kind part upto views reads s (PutAttrs g read) (Copy h place more line) p q = absurd (cc (sym p.1 ∙ q.1))
fits_one object kind part upto views reads s (PutAttrs g read) (PutNames h others) p q = absurd (cc (sym p.1 ∙ q.1))
fits_one object kind part upto views reads s (PutNames g from) (CutTo h size) p q = absurd (cc (sym p.1 ∙ q.1))
fits_one object kind part upto views reads s (PutNames g from) (Copy h place more line) p q = absurd (cc (sym p.1 ∙ q.1))
fits_one object kind part upto views reads s (PutNames g from) (PutAttrs h line) p q = absurd (cc (sym p.1 ∙ q.1))

is_opening_is : (p : HealPart) → is_opening p ≡ true → p ≡ Opening
is_opening_is Opening e = refl
is_opening_is Piece e = absurd (true≢false (sym e))
is_opening_is Finish e = absurd (true≢false (sym e))

opening_not_is : (p : HealPart) → not (is_opening p) ≡ true → p ≡ Opening → ⊥
opening_not_is Opening e = absurd (true≢false (sym e))
opening_not_is Piece e = λ k. cc k
opening_not_is Finish e = λ k. cc k

pub mend_fits : (n : ℕ) (keeps : ℕ → Kind → Bool) (r : Exact) (s : ℕ) (repair : Repair) → may_mend n keeps r s repair ≡ true → IsWide repair → Fits r.law.object r.law.kind r.part r.upto r.first_views r.reads s repair
mend_fits n keeps r s (CutTo g len) e wide = (
    let o = and_left _ _ (and_left _ _ e) in
    (eqb-true g.0 r.law.object (onward_object n keeps r s g.0 Bytes o), sym (same_kind_yes Bytes r.law.kind (onward_kind n keeps r s g.0 Bytes o)), is_opening_is r.part (and_right _ _ (and_left _ _ e)), eqb-true len (len_of (r.first_views s)) (and_right _ _ e))
    )
mend_fits n keeps r s (Copy g at some read) e wide = (
    let o = and_left _ _ (and_left _ _ (and_left _ _ (and_left _ _ e))) in (
      eqb-true g.0 r.law.object (onward_object n keeps r s g.0 Bytes o),
      sym (same_kind_yes Bytes r.law.kind (onward_kind n keeps r s g.0 Bytes o)),
      opening_not_is r.part (and_right _ _ (and_left _ _ (and_left _ _ (and_left _ _ e)))),
      eqb-true at r.upto (and_right _ _ (and_left _ _ (and_left _ _ e))),
      eqb-true some span (and_right _ _ (and_left _ _ e)),
      read_is (r.reads s) (Some read) (and_right _ _ e),
    )
    )
mend_fits n keeps r s (PutAttrs g read) e wide = (
    let o = and_left _ _ e in
    (eqb-true g.0 r.law.object (onward_object n keeps r s g.0 Attrs o), sym (same_kind_yes Attrs r.law.kind (onward_kind n keeps r s g.0 Attrs o)), read_is (r.reads s) (Some read) (and_right _ _ e))
    )
mend_fits n keeps r s (PutNames g from) e wide = (
    let o = and_left _ _ (and_left _ _ e) in
    (eqb-true g.0 r.law.object (onward_object n keeps r s g.0 Names o), sym (same_kind_yes Names r.law.kind (onward_kind n keeps r s g.0 Names o)), and_right _ _ (and_left _ _ e), wide)
    )

-- past the Mends of the first part each byte from the length of the source on, then piece by piece; else past the Mends each cell
abbrev pub Brought : Step → HealPart → ℕ → ℕ → Cell → Type 0
Brought step part upto len (Byte g i) = (((part ≡ Opening → ⊥) ⊎ (11 ≤ rank step)) × (len ≤ i)) ⊎ (i < upto)
Brought step part upto len (Attr g key) = 11 ≤ rank step
Brought step part upto len (Entry g name) = 11 ≤ rank step

-- a copy has what the part's repair brings
pub record Has (repair : Option Repair) (mine : Cell → ℕ) (number : ℕ) : Type 0 where
  pub rep : Repair
  pub is : repair ≡ Some rep
  pub brings : (cell : Cell) → mends rep cell ≡ true → mine cell ≡ number

-- the part's repair brings the cell, and the copy is still to be asked
pub record Pending (step : Step) (fresh : Bool) (repair : Option Repair) (cell : Cell) : Type 0 where
  pub at : step ≡ Mends
  pub unasked : fresh ≡ false
  pub rep : Repair
  pub is : repair ≡ Some rep
  pub brings : mends rep cell ≡ true

-- each copy that the heal changes has what its parts brought, and the tally knows no more
pub record Mended (n : ℕ) (keeps : ℕ → Kind → Bool) (step : Step) (part : HealPart) (kind : Kind) (asks possible : ℕ → Bool) (first_views : ℕ → Option View) (reads : ℕ → Option ℕ) (upto object number : ℕ) (mended : ℕ → Cell → ℕ) (k : Tally) : Type 0 where
  pub mending : k.mending ≡ true → part ≡ Opening → 10 ≤ rank step
  pub no_bytes : part ≡ Opening → upto ≡ 0
  pub unmended : part ≡ Opening → rank step ≤ 9 → (cell : Cell) → k.given cell ≡ 0
  pub repaired_so : 7 ≤ rank step → rank step ≤ 10 → (rep : Repair) → k.repair ≡ Some rep → (10 ≤ rank step) × ((s : ℕ) → possible s ≡ true → Fits object kind part upto first_views reads s rep)
  pub finish_none : 7 ≤ rank step → part ≡ Finish → k.repair ≡ None
  pub asked_mended : step ≡ Mends → (x : ℕ) → asks x ≡ true → Has k.repair (mended x) number
  pub covered : (s x : ℕ) → possible s ≡ true → x < n → raise_set keeps first_views s kind x ≡ true → (cell : Cell) → is_cell cell ≡ true → object_of cell ≡ object → kind_of cell ≡ kind → Brought step part upto (len_of (first_views s)) cell → mended x cell ≡ 0 → ⊥
  pub finished : part ≡ Finish → (s : ℕ) → possible s ≡ true → len_of (first_views s) ≤ upto
  pub no_settling : part ≡ Piece → rank step ≡ 11 → ⊥
  pub level : (s x : ℕ) → possible s ≡ true → x < n → raise_set keeps first_views s kind x ≡ true → (cell : Cell) → (k.given cell ≤ mended x cell) ⊎ Pending step (asks x) k.repair cell

-- the same of a register and its tally
abbrev pub MendedIn : ℕ → (ℕ → Kind → Bool) → Exact → Register → Tally → Type 0
MendedIn n keeps r w k = Mended n keeps r.step r.part w.kind r.asked r.possible r.first_views r.reads r.upto w.object w.number w.mended k

-- where a part mends, it mends each copy that the heal changes
pub mends_set : (keeps : ℕ → Kind → Bool) (r : Exact) (s : ℕ) (kind : Kind) (part : HealPart) (x : ℕ) → (part ≡ Finish → kind ≡ Bytes → ⊥) → mends_at keeps r s kind part x ≡ raise_set keeps r.first_views s kind x
mends_set keeps r s Bytes Opening x e = refl
mends_set keeps r s Bytes Piece x e = refl
mends_set keeps r s Bytes Finish x e = absurd (e refl refl)
mends_set keeps r s Attrs part x e = refl
mends_set keeps r s Names part x e = refl

pub mends_finish : (keeps : ℕ → Kind → Bool) (r : Exact) (s : ℕ) (kind : Kind) (part : HealPart) (x : ℕ) → mends_at keeps r s kind part x ≡ true → part ≡ Finish → kind ≡ Bytes → ⊥
mends_finish keeps r s Bytes Finish x e p q = true≢false (sym e)
mends_finish keeps r s Bytes Opening x e p q = cc p
mends_finish keeps r s Bytes Piece x e p q = cc p
mends_finish keeps r s Attrs part x e p q = cc q
mends_finish keeps r s Names part x e p q = cc q

-- the steps of the first part up to its Mends
pub unmended_yet : (n : ℕ) (keeps : ℕ → Kind → Bool) (step : Step) (part : HealPart) (kind : Kind) (asks possible : ℕ → Bool) (first_views : ℕ → Option View) (reads : ℕ → Option ℕ) (upto object number : ℕ) (mended : ℕ → Cell → ℕ) (k : Tally) → part ≡ Opening → rank step ≤ 9 → upto ≡ 0 → (k.mending ≡ true → ⊥) → ((cell : Cell) → k.given cell ≡ 0) → (7 ≤ rank step → (rep : Repair) → k.repair ≡ Some rep → ⊥)
    → Mended n keeps step part kind asks possible first_views reads upto object number mended k
unmended_yet n keeps step part kind asks possible first_views reads upto object number mended k first low zero_upto no_mend none no_repair = record {
  mending = λ m. absurd (no_mend m);
  no_bytes = λ e. zero_upto;
  unmended = λ e l. none;
  repaired_so = λ far l rep e. absurd (no_repair far rep e);
  finish_none = λ far e. absurd (cc (sym first ∙ e));
  asked_mended = λ at. absurd (no_mends (ap rank at));
  covered = λ s x p l q cell real o c m. absurd (nothing (len_of (first_views s)) cell m);
  finished = λ e. absurd (cc (sym first ∙ e));
  no_settling = λ e at. omega (arith, at, low);
  level = λ s x p l q cell. inl (let z = none cell in omega (arith, z));
}
  where
    no_mends : rank step ≡ 10 → ⊥
    no_mends e = omega (arith, e, low)

    nothing : (len : ℕ) (cell : Cell) → Brought step part upto len cell → ⊥
    nothing len (Byte g i) (inl w) = elim w.0 [ inl later ↦ later first | inr far ↦ omega (arith, far, low) ]
    nothing len (Byte g i) (inr l) = omega (arith, l, zero_upto)
    nothing len (Attr g i) far = omega (arith, far, low)
    nothing len (Entry g i) far = omega (arith, far, low)
