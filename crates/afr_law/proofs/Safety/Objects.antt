-- A gfid has one kind of object, on each brick and at each time.
use Rattle.afr_law_tables.proofs.Entries.{entry_some, entry_same}
use Rattle.afr_lines.specs.declared.fault.Fault.TheVariants.{Fail, Lost}
use Rattle.afr_lines.specs.declared.fault.Fault.{Fault}
use Rattle.std.proofs.Common.{◌≡◌, ℕ, zero, suc, ◌+◌, ◌<◌, Bool, true, false, ◌&&◌, ◌||◌, not, ◌⊎◌, inl, inr, refl, sym, ap, ◌∙◌, subst, arith, true≢false}
use Rattle.std.specs.Prelude.{Option, None, Some, ◌==◌, if◌then◌else◌, [], nat_le, nat_lt, max, ◌-◌, List as Seq, ◌∷◌}
use Rattle.afr_object.specs.declared.entry.View.{View}
use Rattle.afr_object.specs.declared.change.Repair.{Repair}
use Rattle.afr_object.specs.declared.change.Change.{Change}
use Rattle.afr_object.specs.declared.change.Change.TheVariants.{Write, Cut, SetAttr, Make, Remove}
use Rattle.afr_base.specs.declared.ids.What.{What}
use Rattle.afr_base.specs.declared.ids.What.TheVariants.{File, Dir}
use Rattle.afr_lines.specs.declared.request.Request.TheVariants.{Apply, Mend}
use Rattle.afr_lines.specs.declared.answer.Told.{Told}
use Rattle.afr_lines.specs.declared.answer.Told.TheVariants.{Seen}
use Rattle.afr_lines.specs.declared.line.Line.{Line}
use Rattle.afr_lines.specs.declared.line.Line.TheVariants.{Ask, Begin}
use Rattle.afr_model_moves.specs.Cells.{Cell, what_code, entry_code, fits, touches, leaves, object_of, Byte, Attr, Entry}
use Rattle.afr_model_moves.specs.Past.{Beginning, Log, before, brick_of, kind_at, holds, born, made, makes, keep, touch, choose, left_by, leaves_of, most, values, value, changes, joined, opening, tables, after, named_kind, last, object, target}
use Rattle.afr_model_moves.specs.Honest.{HonestAsk, HonestLine, Honest, Shows, KnownMake, Tells, asked}
use Rattle.afr_model_moves.specs.Rules.{fresh, SeenFit, fits_change}
use Rattle.afr_object.specs.declared.change.Repair.TheVariants.{CutTo, Copy, PutAttrs, PutNames}
use Rattle.afr_law.proofs.Safety.Locks.{before_is}
use Rattle.afr_law.proofs.Safety.Touches.{Touched, touched, Not, Made, Mended, kind_next, begin_kinds}
use Rattle.afr_model_moves.specs.Lines.{ask_by, begin_by, look_at, make_in}
use Rattle.std.proofs.lemmas.Bool.{cases_lt, eqb-true}
use Rattle.afr_model_moves.proofs.Tests.{same_self, max_cases, what_some}

-- an entry's value is nothing, the opening one, or what an attempt before it leaves on the cell
abbrev pub From : Beginning → Log → Cell → ℕ → ℕ → Type 0
From files log cell t v = (v ≡ 0) ⊎ (v ≡ files.cells cell) ⊎ ((q : ℕ) × (q < t) × (changes (log q) cell ≡ true) × (v ≡ leaves_of (log q) cell))

from_later : (files : Beginning) (log : Log) (cell : Cell) (t v : ℕ) → From files log cell t v → From files log cell (suc t) v
from_later files log cell t v (inl e) = inl e
from_later files log cell t v (inr (inl e)) = inr (inl e)
from_later files log cell t v (inr (inr w)) = inr (inr (w.0, omega (arith, w.1), w.2, w.3))

from_most : (files : Beginning) (log : Log) (cell : Cell) (t : ℕ) (shown : ℕ → ℕ) → ((r : ℕ) → From files log cell t (shown r)) → (reads : Seq (Option ℕ)) → From files log cell t (most shown reads)
from_most files log cell t shown each [] = inl refl
from_most files log cell t shown each (None ∷ reads) = from_most files log cell t shown each reads
from_most files log cell t shown each (Some r ∷ reads) = pick (from_most files log cell t shown each reads)
  where
    pick : From files log cell t (most shown reads) → From files log cell t (max (shown r) (most shown reads))
    pick rest =
        elim (max_cases (shown r) (most shown reads)) [
          | inl e ↦ subst (From files log cell t) (sym e) (each r)
          | inr e ↦ subst (From files log cell t) (sym e) rest
        ]

pub from_values : (files : Beginning) (log : Log) (cell : Cell) (t u b : ℕ) → From files log cell t (values files log t u b cell)
unfolding tables
from_values files log cell zero u b = inr (inl refl)
from_values files log cell (suc t) u b = from_later files log cell t _ (pick (nat_le u t) (λ v c. from_values files log cell t v c))
  where
    pick : (old : Bool) → ((v c : ℕ) → From files log cell t (values files log t v c cell))
        → From files log cell t ((if old then tables files log t u b else after files.names (before log t) (last log t) t b (tables files log t) (log t)).cells cell)
    pick true each = each u b
    pick false each = go (touched files log t b cell)
      where
        brought : (a : ℕ) (repair : Repair) (told : Told) → From files log cell t (left_by (before log t) (values files log t) (Some (ask_by a b (Mend repair) told true)) cell)
        brought a (CutTo g len) told = inl refl
        brought a (Copy g at span read) told = each read (brick_of (before log t read))
        brought a (PutAttrs g read) told = each read (brick_of (before log t read))
        brought a (PutNames g reads) told = from_most files log cell t (λ r. values files log t r (brick_of (before log t r)) cell) (λ r. each r (brick_of (before log t r))) reads

        some : (k new : ℕ) → From files log cell t (values files log t t b cell) → From files log cell t new → From files log cell t (choose k (values files log t t b cell) new)
        some zero new old fresh = old
        some (suc k) new old fresh = fresh

        go : Touched files log t b cell → From files log cell t (choose (touch files log t b cell) (values files log t t b cell) (left_by (before log t) (values files log t) (log t) cell))
        go (Not e) = rw e (each t b)
        go (Made a q told is past hit e) = rw (e, is) (inr (inr (q, past, hit, ap (λ l. leaves_of l cell) (before_is log t q past))))
        go (Mended a repair told is hit e) = some (touch files log t b cell) (left_by (before log t) (values files log t) (log t) cell) (each t b) (rw is (brought a repair told))

-- the kind that some entry gives
named_from : (n : ℕ) (entries : ℕ → ℕ) (g k : ℕ) → named_kind n entries g ≡ suc k → (m : ℕ) × (what : What) × (entries m ≡ entry_code g what) × (what_code what ≡ suc k)
named_from zero entries g k e = absurd (omega (arith, e))
named_from (suc n) entries g k e = go (entries n == entry_code g File) refl (entries n == entry_code g Dir) refl e (named_from n entries g k)
  where
    go : (file : Bool) → (entries n == entry_code g File) ≡ file → (dir : Bool) → (entries n == entry_code g Dir) ≡ dir → (if file then 1 else if dir then 2 else named_kind n entries g) ≡ suc k
        → (named_kind n entries g ≡ suc k → (m : ℕ) × (what : What) × (entries m ≡ entry_code g what) × (what_code what ≡ suc k)) → (m : ℕ) × (what : What) × (entries m ≡ entry_code g what) × (what_code what ≡ suc k)
    go true f dir d e rest = (n, File, eqb-true (entries n) (entry_code g File) f, e)
    go false f true d e rest = (n, Dir, eqb-true (entries n) (entry_code g Dir) d, e)
    go false f false d e rest = rest e

made_line : (line : Option Line) (g k : ℕ) → made g line ≡ suc k → (x : ℕ) × (dir : ℕ) × (name : ℕ) × (what : What) × (line ≡ Some (begin_by x (make_in dir name g what))) × (what_code what ≡ suc k)
made_line (Some (Begin x (Make dir name h what))) g k e = go (h.0 == g) refl e
  where
    go : (hit : Bool) → (h.0 == g) ≡ hit → (if hit then what_code what else 0) ≡ suc k → (y : ℕ) × (d : ℕ) × (m : ℕ) × (w : What) × (Some (begin_by x.0 (make_in dir.0 name.0 h.0 what)) ≡ Some (begin_by y (make_in d m g w))) × (what_code w ≡ suc k)
    go true f h = (x.0, dir.0, name.0, what, ap (λ j. Some (begin_by x.0 (make_in dir.0 name.0 j what))) (eqb-true _ g f), h)
    go false f h = absurd (omega (arith, h))
made_line _ g k e = absurd (omega (arith, e))

-- what leaves an entry is a Make of its gfid and kind
pub entry_left : (line : Option Line) (d m g : ℕ) (what : What) → leaves_of line (Entry d m) ≡ entry_code g what → (x : ℕ) × (dir : ℕ) × (name : ℕ) × (h : ℕ) × (other : What) × (line ≡ Some (begin_by x (make_in dir name h other))) × (h ≡ g) × (what_code other ≡ what_code what)
unfolding leaves
entry_left (Some (Begin x (Make dir name h other))) d m g what e = (let w = entry_same h.0 g other what e in (x.0, dir.0, name.0, h.0, other, refl, w.0, w.1))
entry_left _ d m g what e = absurd (entry_some g what (sym e))

made_there : (lacks : Bool) (new k : ℕ) → (if lacks then 0 else new) ≡ suc k → new ≡ suc k
made_there true new k e = absurd (omega (arith, e))
made_there false new k e = e

born_fresh : (files : Beginning) (log : Log) (u a dir name g : ℕ) (what : What) → files.kinds g ≡ 0 → g ≡ u + 2 → log u ≡ Some (begin_by a (make_in dir name g what)) → born files log g ≡ what_code what
born_fresh files log u a dir name g what none same is =
    let at : g - 2 ≡ u = omega (arith, same) in
    rw (none, at, is, same_self g) refl

born_opening : (files : Beginning) (log : Log) (g : ℕ) (what : What) → files.kinds g ≡ what_code what → born files log g ≡ what_code what
born_opening files log g File e = rw e refl
born_opening files log g Dir e = rw e refl

born_kept : (files : Beginning) (log : Log) (g k : ℕ) → files.kinds g ≡ suc k → born files log g ≡ suc k
born_kept files log g k e = rw e refl

module _ (files : Beginning) (faults : ℕ → ℕ → Option Fault) (log : Log) (honest : Honest files faults log) where
  born_makes : (t u : ℕ) → u < t → (a dir name g : ℕ) (what : What) → log u ≡ Some (begin_by a (make_in dir name g what)) → born files log g ≡ what_code what
  born_makes zero u low a dir name g what is = absurd (omega arith)
  born_makes (suc t) u low a dir name g what is =
      elim (cases_lt u t) [
        | inl early ↦ born_makes t u early a dir name g what is
        | inr late ↦ known (subst (HonestLine files faults log u) is (honest u)) (λ v less. born_makes t v (omega (arith, less, low)))
      ]
    where
      known : KnownMake files log u (make_in dir name g what) → ((v : ℕ) → v < u → (a dir name g : ℕ) (what : What) → log v ≡ Some (begin_by a (make_in dir name g what)) → born files log g ≡ what_code what) → born files log g ≡ what_code what
      known (inl w) before_u = born_fresh files log u a dir name g what w.1 w.0 is
      known (inr w) before_u = pick (from_values files log (Entry w.dir w.name) w.r w.r w.b)
        where
          pick : From files log (Entry w.dir w.name) w.r (value files log w.r w.b (Entry w.dir w.name)) → born files log g ≡ what_code what
          pick (inl e) = absurd (entry_some g what (sym w.same ∙ e))
          pick (inr (inl e)) = born_opening files log g what (files.named w.dir w.name g what (sym e ∙ w.same))
          pick (inr (inr v)) = (
              let k = entry_left (log v.0) w.dir w.name g what (sym v.3 ∙ w.same) in
              let b = before_u v.0 (omega (arith, v.1, w.past)) k.0 k.1 k.2 k.3 k.4 k.5 in
              subst (λ h. born files log h ≡ what_code what) k.6 (b ∙ k.7)
              )

  -- an entry that stands somewhere has the kind that its object was made with
  pub entry_born : (t d m g : ℕ) (what : What) (v : ℕ) → From files log (Entry d m) t v → v ≡ entry_code g what → born files log g ≡ what_code what
  entry_born t d m g what v (inl e) is = absurd (entry_some g what (sym is ∙ e))
  entry_born t d m g what v (inr (inl e)) is = born_opening files log g what (files.named d m g what (sym e ∙ is))
  entry_born t d m g what v (inr (inr w)) is =
      let k = entry_left (log w.0) d m g what (sym w.3 ∙ is) in
      let b = born_makes (suc w.0) w.0 (omega arith) k.0 k.1 k.2 k.3 k.4 k.5 in
      subst (λ h. born files log h ≡ what_code what) k.6 (b ∙ k.7)

  made_new : (t b g k : ℕ) (line : Option Line) → makes files.names (before log t) (values files log t) b g line ≡ suc k → born files log g ≡ suc k
  made_new t b g k (Some (Ask a y (Apply q) told took)) e = pick ((y.0 == b) && took) e
    where
      pick : (hit : Bool) → (if hit then made g (before log t q) else 0) ≡ suc k → born files log g ≡ suc k
      pick false e = absurd (omega (arith, e))
      pick true e = at (nat_lt q t) e
        where
          at : (hit : Bool) → made g (if hit then log q else None) ≡ suc k → born files log g ≡ suc k
          at true e = (let w = made_line (log q) g k e in born_makes (suc q) q (omega arith) w.0 w.1 w.2 g w.3 w.4 ∙ w.5)
          at false e = absurd (omega (arith, e))
  made_new t b g k (Some (Ask a y (Mend (PutNames d reads)) told took)) e = pick ((y.0 == b) && took) e
    where
      pick : (hit : Bool) → (if hit then named_kind files.names (λ m. most (λ r. values files log t r (brick_of (before log t r)) (Entry d.0 m)) reads) g else 0) ≡ suc k → born files log g ≡ suc k
      pick false e = absurd (omega (arith, e))
      pick true e = (
          let w = named_from files.names (λ m. most (λ r. values files log t r (brick_of (before log t r)) (Entry d.0 m)) reads) g k e in
          entry_born t d.0 w.0 g w.1 _ (from_most files log (Entry d.0 w.0) t (λ r. values files log t r (brick_of (before log t r)) (Entry d.0 w.0)) (λ r. from_values files log (Entry d.0 w.0) t r (brick_of (before log t r))) reads) w.2 ∙ w.3
          )
  made_new t b g k (Some (Ask a y (Mend (CutTo h len)) told took)) e = absurd (omega (arith, e))
  made_new t b g k (Some (Ask a y (Mend (Copy h at span read)) told took)) e = absurd (omega (arith, e))
  made_new t b g k (Some (Ask a y (Mend (PutAttrs h read)) told took)) e = absurd (omega (arith, e))
  made_new t b g k _ e = absurd (omega (arith, e))

  -- an object has on each brick the kind that it was made with
  pub kind_born : (t b g k : ℕ) → kind_at files log t b g ≡ suc k → born files log g ≡ suc k
  kind_born zero b g k e = born_kept files log g k (sym (begin_kinds files log b g) ∙ e)
  kind_born (suc t) b g k e = go (kind_at files log t b g) refl (sym (kind_next files log t b g) ∙ e) (λ j h. kind_born t b g j h)
    where
      go : (was : ℕ) → kind_at files log t b g ≡ was → keep (kind_at files log t b g) (if kind_at files log t b (target (before log t) (log t)) == 0 then 0 else makes files.names (before log t) (values files log t) b g (log t)) ≡ suc k → ((j : ℕ) → kind_at files log t b g ≡ suc j → born files log g ≡ suc j) → born files log g ≡ suc k
      go zero h e each = made_new t b g k (log t) (made_there (kind_at files log t b (target (before log t) (log t)) == 0) _ k (sym (ap (λ j. keep j (if kind_at files log t b (target (before log t) (log t)) == 0 then 0 else makes files.names (before log t) (values files log t) b g (log t))) h) ∙ e))
      go (suc j) h e each = each j h ∙ sym (ap (λ j. keep j (if kind_at files log t b (target (before log t) (log t)) == 0 then 0 else makes files.names (before log t) (values files log t) b g (log t))) h) ∙ e

  some_kind : (k : ℕ) → not (k == 0) ≡ true → (j : ℕ) × (k ≡ suc j)
  some_kind zero e = absurd (true≢false (sym e))
  some_kind (suc j) e = (j, refl)

  -- where the kind that an object was made with has such cells, each brick that holds the object has them
  pub holds_fits : (t b : ℕ) (cell : Cell) → fits (born files log (object_of cell)) cell ≡ true → holds files log t b (object_of cell) ≡ true → fits (kind_at files log t b (object_of cell)) cell ≡ true
  holds_fits t b cell fit there =
      let k = some_kind (kind_at files log t b (object_of cell)) there in
      let same : kind_at files log t b (object_of cell) ≡ born files log (object_of cell) = k.1 ∙ sym (kind_born t b (object_of cell) k.0 k.1) in
      subst (λ j. fits j cell ≡ true) (sym same) fit

  -- and where it hasn't, no brick has
  pub unfit_nowhere : (t b : ℕ) (cell : Cell) → fits (born files log (object_of cell)) cell ≡ false → fits (kind_at files log t b (object_of cell)) cell ≡ false
  unfit_nowhere t b cell unfit = go (kind_at files log t b (object_of cell)) refl
    where
      zero_unfit : (cell : Cell) → fits 0 cell ≡ false
      zero_unfit (Byte g i) = refl
      zero_unfit (Attr g i) = refl
      zero_unfit (Entry g i) = refl

      go : (k : ℕ) → kind_at files log t b (object_of cell) ≡ k → fits k cell ≡ false
      go zero e = zero_unfit cell
      go (suc k) e = subst (λ j. fits j cell ≡ false) (kind_born t b (object_of cell) k e) unfit

  shows_what : (t a b g : ℕ) (view : View) (live : Bool) (fault : Option Fault) → HonestAsk files log t a b (look_at g) (Seen view) true live fault → Shows files log t b g view
  shows_what t a b g view false fault h = absurd (cc h.0)
  shows_what t a b g view true (Some Fail) h = absurd (cc h.0)
  shows_what t a b g view true (Some Lost) h = absurd (cc h.0)
  shows_what t a b g view true None h = go (holds files log t b g) h.0
    where
      go : (found : Bool) → Tells files log t a b (look_at g) (Seen view) found → Shows files log t b g view
      go true k = k
      go false k = absurd (cc k)

  -- a change that fits what was seen fits what the object was made as
  pub seen_born : (t a x : ℕ) (change : Change) → SeenFit log t a x change → fits_change (born files log (object change)) change ≡ true
  seen_born t a x change w =
      let shows = shows_what w.l a x (object change) w.view (joined log w.l a x || opening log w.l a x) (faults x (suc (asked log w.l x))) (subst (HonestLine files faults log w.l) w.is (honest w.l)) in
      let k = what_some w.view.what in
      let same : born files log (object change) ≡ what_code w.view.what = kind_born w.l x (object change) k.0 (sym shows.what ∙ k.1) ∙ sym k.1 in
      subst (λ j. fits_change j change ≡ true) (sym same) w.fit

pub change_fits : (k : ℕ) (change : Change) (cell : Cell) → fits_change k change ≡ true → touches change cell ≡ true → fits k cell ≡ true
unfolding touches
change_fits k (Write g at bytes) (Byte h i) f e = f
change_fits k (Cut g len) (Byte h i) f e = f
change_fits k (SetAttr g key v) (Attr h i) f e = f
change_fits k (Make dir name g what) (Entry h m) f e = f
change_fits k (Remove dir name what) (Entry h m) f e = f
change_fits k _ (Byte h i) f e = absurd (cc e)
change_fits k _ (Attr h i) f e = absurd (cc e)
change_fits k _ (Entry h m) f e = absurd (cc e)
