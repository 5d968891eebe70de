-- What a number leaves on a cell, wherever it writes, and the line that put it there.
use Rattle.std.proofs.Common.{◌≡◌, ℕ, zero, suc, ◌<◌, true, ◌⊎◌, inl, inr, refl, sym, ap, ◌∙◌, subst, arith, true≢false}
use Rattle.std.specs.Prelude.{Option, None, Some, List as Seq, [], ◌∷◌}
use Rattle.afr_base.specs.declared.ids.Kind.{Kind}
use Rattle.afr_lines.specs.declared.fault.Fault.{Fault}
use Rattle.afr_object.specs.declared.change.Change.{Change}
use Rattle.afr_object.specs.declared.change.Repair.{Repair}
use Rattle.afr_object.specs.declared.change.Repair.TheVariants.{CutTo, Copy, PutAttrs, PutNames}
use Rattle.afr_lines.specs.declared.request.Request.TheVariants.{Apply, Mend}
use Rattle.afr_lines.specs.declared.answer.Told.{Told}
use Rattle.afr_lines.specs.declared.line.Line.{Line}
use Rattle.afr_lines.specs.declared.line.Line.TheVariants.{Begin, HealBegin}
use Rattle.afr_model_moves.specs.Cells.{Cell, object_of, kind_of, touches, leaves}
use Rattle.afr_model_moves.specs.Past.{Beginning, Log, before, last, changes, mends, touch, stamp, most, brick_of, left_by, leaves_of, choose, values, value}
use Rattle.afr_model_moves.specs.Honest.{Honest}
use Rattle.afr_model_moves.specs.Rules.{Register, PlaneIs, MayMend, ReadOf, BringsSeen, EachRead, Lawful, present}
use Rattle.afr_model_moves.specs.Lines.{ask_by, begin_by, heal_begin_by}
use Rattle.afr_law.proofs.Safety.Locks.{before_is}
use Rattle.afr_law.proofs.Safety.Acts.{Act, act_later, may_ask, apply_acts}
use Rattle.afr_law.proofs.Heals.Looks.{mend_works, mend_acts}
use Rattle.afr_law.proofs.Safety.Touches.{Touched, touched, Not, Made, Mended, stamp_next, value_next, values_at}
use Rattle.afr_law.proofs.Safety.CellLemmas.{begins, change_plane}
use Rattle.afr_law.proofs.Alike.Tallies.{present_tallied}
use Rattle.afr_model_moves.proofs.Tests.{three_cases}

-- a line that changes a cell is a Begin
begin_of : (line : Option Line) (cell : Cell) → changes line cell ≡ true → (a : ℕ) × (change : Change) × (line ≡ Some (begin_by a change)) × (touches change cell ≡ true)
begin_of (Some (Begin a change)) cell e = (a.0, change, refl, e)
begin_of None cell e = absurd (true≢false (sym e))
begin_of (Some _) cell e = absurd (true≢false (sym e))

pub plane_of : (line : Option Line) (cell : Cell) → changes line cell ≡ true → PlaneIs line (object_of cell) (kind_of cell)
plane_of line cell e =
    let w = begin_of line cell e in
    subst (λ l. PlaneIs l (object_of cell) (kind_of cell)) (sym w.2) (change_plane w.1 cell w.3)

most_same : (P : ℕ → Type 0) (f h : ℕ → ℕ) → ((r : ℕ) → P r → f r ≡ h r) → (reads : Seq (Option ℕ)) → EachRead P reads → most f reads ≡ most h reads
most_same P f h same [] each = refl
most_same P f h same (None ∷ reads) each = most_same P f h same reads each
most_same P f h same (Some r ∷ reads) each = (let here = same r each.0 in let rest = most_same P f h same reads each.1 in rw (here, rest) refl)

-- whose HealBegin line it is
abbrev heal_actor : Option Line → ℕ
heal_actor (Some (HealBegin a g kind)) = a.0
heal_actor _ = 0

module _ (n : ℕ) (files : Beginning) (faults : ℕ → ℕ → Option Fault) (log : Log) (honest : Honest files faults log) (lawful : Lawful n files.keeps log) (cell : Cell) where
  -- the stamp of the cell on a brick
  abbrev pub on : ℕ → ℕ → ℕ
  on t b = stamp files log t b cell

  -- its value there
  abbrev pub has_value : ℕ → ℕ → ℕ
  has_value t b = value files log t b cell

  -- what a repair brings
  abbrev pub brought_by : Repair → ℕ
  brought_by (CutTo h len) = 0
  brought_by (Copy h at span read) = value files log read (brick_of (log read)) cell
  brought_by (PutAttrs h read) = value files log read (brick_of (log read)) cell
  brought_by (PutNames h reads) = most (λ q. value files log q (brick_of (log q)) cell) reads

  shown : (t read : ℕ) → read < t → values files log t read (brick_of (before log t read)) cell ≡ value files log read (brick_of (log read)) cell
  shown t read less = values_at files log t read (brick_of (before log t read)) cell (omega (arith, less)) ∙ ap (λ l. value files log read (brick_of l) cell) (before_is log t read less)

  pub brought_is : (t a b : ℕ) (r : Register) (repair : Repair) (told : Told) → BringsSeen n files.keeps log t a r repair → left_by (before log t) (values files log t) (Some (ask_by a b (Mend repair) told true)) cell ≡ brought_by repair
  brought_is t a b r (CutTo h len) told w = refl
  brought_is t a b r (Copy h at span read) told w = shown t read w.past
  brought_is t a b r (PutAttrs h read) told w = shown t read w.past
  brought_is t a b r (PutNames h reads) told w = most_same (ReadOf n files.keeps log t a r) (λ q. values files log t q (brick_of (before log t q)) cell) (λ q. value files log q (brick_of (log q)) cell) (λ q k. shown t q k.past) reads w.0

  -- what a number leaves: an attempt by its change, a piece of a heal by its one repair
  pub data Left (m v : ℕ) : Type 0 where
    ByChange : (a : ℕ) (change : Change) → log m ≡ Some (begin_by a change) → v ≡ leaves change cell → Left m v
    ByRepair : (a h : ℕ) (k : Kind) → log m ≡ Some (heal_begin_by a h k) → (u b : ℕ) (repair : Repair) (told : Told) → log u ≡ Some (ask_by a b (Mend repair) told true) → (present n log u a).number ≡ suc m → v ≡ brought_by repair → Left m v

  -- 0 leaves the opening value
  abbrev pub Leaves : ℕ → ℕ → Type 0
  Leaves zero v = v ≡ files.cells cell
  Leaves (suc m) v = Left m v

  pub number_past : (u a b m : ℕ) (repair : Repair) (told : Told) → log u ≡ Some (ask_by a b (Mend repair) told true) → (present n log u a).number ≡ suc m → (m < u) × (last log u a ≡ suc m)
  number_past u a b m repair told is number =
      let w = mend_works n files.keeps files faults log honest lawful u a b repair told is in
      w.2.numbers.newest m number

  one_repair : (u w a b c m : ℕ) (r s : Repair) (told said : Told) → log u ≡ Some (ask_by a b (Mend r) told true) → log w ≡ Some (ask_by a c (Mend s) said true) → (present n log u a).number ≡ suc m → (present n log w a).number ≡ suc m → u < w → r ≡ s
  one_repair u w a b c m r s told said is its number its_number less =
      let may : MayMend n files.keeps log w a (present n log w a) c s = may_ask n files.keeps files faults log honest lawful w a c (Mend s) said true its in
      let had = (present_tallied n files.keeps files faults log honest lawful w a may.begun_already).repair u b r told true is less may.begun_already (omega (arith, its_number, (number_past u a b m r told is number).0)) in
      elim may.one [ inl none ↦ absurd (cc (none, had)) | inr same ↦ cc (same, had) ]

  pub one : (m v w : ℕ) → Leaves m v → Leaves m w → v ≡ w
  one zero v w e f = e ∙ sym f
  one (suc m) v w (ByChange a change is e) (ByChange b other its f) = (let same : change ≡ other = cc (is, its) in e ∙ ap (λ k. leaves k cell) same ∙ sym f)
  one (suc m) v w (ByChange a change is e) (ByRepair b h k its u c repair told line number f) = absurd (cc (is, its))
  one (suc m) v w (ByRepair b h k its u c repair told line number f) (ByChange a change is e) = absurd (cc (is, its))
  one (suc m) v w (ByRepair a h k is u b repair told line number e) (ByRepair c i l its x d other said other_line other_number f) =
      let actor : c ≡ a = ap heal_actor (sym its ∙ is) in
      let line_two : log x ≡ Some (ask_by a d (Mend other) said true) = other_line ∙ ap (λ y. Some (ask_by y d (Mend other) said true)) actor in
      let number_two : (present n log x a).number ≡ suc m = subst (λ y. (present n log x y).number ≡ suc m) actor other_number in
      let same : repair ≡ other = elim (three_cases u x) [
        | inl less ↦ one_repair u x a b d m repair other told said line line_two number number_two less
        | inr (inl here) ↦ (let moved : log x ≡ Some (ask_by a b (Mend repair) told true) = subst (λ j. log j ≡ Some (ask_by a b (Mend repair) told true)) here line in cc (moved, line_two))
        | inr (inr more) ↦ sym (one_repair x u a d b m other repair said told line_two line number_two number more)
      ] in
      e ∙ ap brought_by same ∙ sym f

  pub writes : (t b : ℕ) → ((on (suc t) b ≡ on t b) × (has_value (suc t) b ≡ has_value t b)) ⊎ ((m : ℕ) × Act log cell m b t × (on (suc t) b ≡ suc m) × Leaves (suc m) (has_value (suc t) b))
  writes t b = go (touched files log t b cell)
    where
      go : Touched files log t b cell → ((on (suc t) b ≡ on t b) × (has_value (suc t) b ≡ has_value t b)) ⊎ ((m : ℕ) × Act log cell m b t × (on (suc t) b ≡ suc m) × Left m (has_value (suc t) b))
      go (Not e) = inl (stamp_next files log t b cell ∙ rw e refl, value_next files log t b cell ∙ rw e refl)
      go (Made a q told is past inside e) = (
          let act = apply_acts n files.keeps files faults log honest lawful cell t a b q told is inside in
          let w = begin_of (log q) cell inside in
          let left : has_value (suc t) b ≡ leaves_of (log q) cell = value_next files log t b cell ∙ rw (e, is) (ap (λ l. leaves_of l cell) (before_is log t q (act_later log cell q b t act))) in
          inr (q, act, stamp_next files log t b cell ∙ rw e refl, ByChange w.0 w.1 w.2 (left ∙ ap (λ l. leaves_of l cell) w.2))
          )
      go (Mended a repair told is inside e) = (
          let may : MayMend n files.keeps log t a (present n log t a) b repair = may_ask n files.keeps files faults log honest lawful t a b (Mend repair) told true is in
          let w = mend_works n files.keeps files faults log honest lawful t a b repair told is in
          let h = w.0 in
          let piece = w.2.numbers.piece h may.inside w.1 in
          let hit : touch files log t b cell ≡ suc h = e ∙ (w.2.numbers.newest h w.1).1 in
          let left : has_value (suc t) b ≡ left_by (before log t) (values files log t) (log t) cell = value_next files log t b cell ∙ ap (λ k. choose k (value files log t b cell) (left_by (before log t) (values files log t) (log t) cell)) hit in
          let here : left_by (before log t) (values files log t) (log t) cell ≡ brought_by repair = ap (λ l. left_by (before log t) (values files log t) l cell) is ∙ brought_is t a b (present n log t a) repair told may.contents in
          inr (h, mend_acts n files.keeps files faults log honest lawful cell t a b repair told is inside, stamp_next files log t b cell ∙ rw hit refl, ByRepair a piece.g piece.kind piece.is t b repair told is w.1 (left ∙ here))
          )

  -- the line that put the stamp there
  pub data LastTouch (t b m : ℕ) : Type 0 where
    LastMade : (u a : ℕ) (told : Told) → u < t → log u ≡ Some (ask_by a b (Apply m) told true) → changes (log m) cell ≡ true → LastTouch t b m
    LastMended : (u a : ℕ) (repair : Repair) (told : Told) → u < t → log u ≡ Some (ask_by a b (Mend repair) told true) → mends repair cell ≡ true → (present n log u a).number ≡ suc m → LastTouch t b m

  later_touch : (t b m : ℕ) → LastTouch t b m → LastTouch (suc t) b m
  later_touch t b m (LastMade u a told less is hit) = LastMade u a told (omega (arith, less)) is hit
  later_touch t b m (LastMended u a repair told less is hit number) = LastMended u a repair told (omega (arith, less)) is hit number

  pub last_touch : (t b m : ℕ) → on t b ≡ suc m → LastTouch t b m
  last_touch zero b m e = absurd (omega (arith, e, (begins files log b cell).0))
  last_touch (suc t) b m e = go (touched files log t b cell) (λ before. later_touch t b m (last_touch t b m before))
    where
      go : Touched files log t b cell → (on t b ≡ suc m → LastTouch (suc t) b m) → LastTouch (suc t) b m
      go (Not k) before = before (sym (stamp_next files log t b cell ∙ rw k refl) ∙ e)
      go (Made a q told is past inside k) before = (
          let stamp_is : on (suc t) b ≡ suc q = stamp_next files log t b cell ∙ rw k refl in
          let same : q ≡ m = omega (arith, stamp_is, e) in
          LastMade t a told (omega arith) (is ∙ ap (λ j. Some (ask_by a b (Apply j) told true)) same) (subst (λ j. changes (log j) cell ≡ true) same inside)
          )
      go (Mended a repair told is inside k) before = (
          let w = mend_works n files.keeps files faults log honest lawful t a b repair told is in
          let hit : touch files log t b cell ≡ suc w.0 = k ∙ (w.2.numbers.newest w.0 w.1).1 in
          let stamp_is : on (suc t) b ≡ suc w.0 = stamp_next files log t b cell ∙ rw hit refl in
          let same : w.0 ≡ m = omega (arith, stamp_is, e) in
          LastMended t a repair told (omega arith) is inside (w.1 ∙ ap suc same)
          )
