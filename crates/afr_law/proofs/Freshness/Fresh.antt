-- A copy that the looks at a majority don't accuse shows nothing older than what was acknowledged before them.
use Rattle.std.proofs.Common.{◌≡◌, ℕ, zero, suc, ◌+◌, ◌<◌, ◌≤◌, Bool, true, false, ◌||◌, not, refl, sym, ap, ◌∙◌, subst, arith, true≢false}
use Rattle.std.specs.Prelude.{Option, None, Some, ◌==◌, slice_get}
use Rattle.std.proofs.lemmas.Bool.Decides.{nat_tests}
use Rattle.afr_base.specs.declared.ids.Kind.{Kind}
use Rattle.afr_lines.specs.declared.fault.Fault.{Fault}
use Rattle.afr_lines.specs.declared.fault.Fault.TheVariants.{Fail, Lost}
use Rattle.afr_lines.specs.declared.answer.Told.{Told}
use Rattle.afr_lines.specs.declared.answer.Told.TheVariants.{Seen}
use Rattle.afr_law.proofs.Safety.Acks.{acknowledged_fixed}
use Rattle.afr_law.proofs.Safety.CellHistory.{copy_read, counts_at, recorded_at, no_change, unfit_acked, unfit_value, untouched_value}
use Rattle.afr_law.proofs.Safety.CellLemmas.{IsOriginAt, leaves_at}
use Rattle.afr_model_moves.specs.Cells.{Cell, fits, is_cell, object_of, kind_of}
use Rattle.afr_law.specs.FreshReads.{ShowsNoMiss, ClearLook, LooksLet, NoOlder, Opening, Left, ReadsAreFresh}
use Rattle.afr_model_moves.specs.Honest.{HonestAsk, HonestLine, Honest, Tells, Answers, asked}
use Rattle.afr_model_moves.specs.Rules.{Lawful}
use Rattle.afr_model_moves.specs.Lines.{look_at}
use Rattle.afr_model_moves.specs.Past.{Beginning, Log, born, changes, holds, joined, keep, kind_at, opening, posts, settled, value}
use Rattle.afr_law.specs.Safe.{Acknowledged}
use Rattle.afr_law.proofs.Safety.Steps.{honest_whole, lawful_whole}
use Rattle.afr_law.proofs.Safety.Touches.{kind_next}

-- ---- a brick without the object holds nothing against anybody
some_kind : (k : ℕ) → not (suc k == 0) ≡ true
some_kind k = grind (arith, nat_tests)

kept_kind : (now was new k : ℕ) → now ≡ keep was new → was ≡ suc k → now ≡ suc k
kept_kind now was new k e f = e ∙ ap (λ (j : ℕ). keep j new) f

held_back : (files : Beginning) (log : Log) (t b g : ℕ) → holds files log (suc t) b g ≡ false → holds files log t b g ≡ false
held_back files log t b g none = go (kind_at files log t b g) refl
  where
    go : (k : ℕ) → kind_at files log t b g ≡ k → holds files log t b g ≡ false
    go zero e = ap (λ (j : ℕ). not (j == 0)) e
    go (suc k) e = absurd (true≢false (sym (ap (λ (j : ℕ). not (j == 0)) (kept_kind _ _ _ k (kind_next files log t b g) e) ∙ some_kind k) ∙ none))

none_more : (m : ℕ) → m ≡ 0 → 0 + m ≡ 0
none_more m e = omega arith

absent_posts : (files : Beginning) (log : Log) (t x c g : ℕ) (kind : Kind) → holds files log t x g ≡ false → posts files log t x c g kind ≡ 0
unfolding posts
absent_posts files log zero x c g kind none = refl
absent_posts files log (suc t) x c g kind none =
    let before : holds files log t x g ≡ false = held_back files log t x g none in
    rw before (none_more (posts files log t x c g kind) (absent_posts files log t x c g kind before))

-- ---- a look that shows nothing against a brick comes from a brick that holds nothing against it
module _ (files : Beginning) (log : Log) (l a x b g : ℕ) (kind : Kind) (kept : files.keeps b kind ≡ true) where
  shown_clear : (told : Told) → Answers files log l a x (look_at g) told → ShowsNoMiss kind b told → posts files log l x b g kind ≤ settled files log l x b g kind
  shown_clear (Seen view) shows clear = omega (arith, shows.marks kind b kept, clear)
  shown_clear _ shows clear = absurd shows

  told_clear : (told : Told) (found : Bool) → holds files log l x g ≡ found → Tells files log l a x (look_at g) told found → ShowsNoMiss kind b told → posts files log l x b g kind ≤ settled files log l x b g kind
  told_clear told true e tells clear = shown_clear told tells clear
  told_clear told false e tells clear = omega (arith, absent_posts files log l x b g kind e)

  pub look_clear : (told : Told) (took live : Bool) (fault : Option Fault) → HonestAsk files log l a x (look_at g) told took live fault → ShowsNoMiss kind b told → posts files log l x b g kind ≤ settled files log l x b g kind
  look_clear told took false fault h clear = absurd (subst (ShowsNoMiss kind b) h.0 clear)
  look_clear told took true (Some Fail) h clear = absurd (subst (ShowsNoMiss kind b) h.0 clear)
  look_clear told took true (Some Lost) h clear = absurd (subst (ShowsNoMiss kind b) h.0 clear)
  look_clear told took true None h clear = told_clear told (holds files log l x g) refl h.0 clear

-- ---- what stands there has an origin, and none acknowledged before the looks is later
module _ (n : ℕ) (files : Beginning) (faults : ℕ → ℕ → Option Fault) (log : Log) (honest : Honest files faults log) (lawful : Lawful n files.keeps log) where
  from_origin : (r since b from : ℕ) (cell : Cell) → IsOriginAt log cell r from → value files log r b cell ≡ leaves_at files log cell from
      → ((k : ℕ) → Acknowledged log since k → changes (log k) cell ≡ true → k < from) → NoOlder files log r since b cell
  from_origin r since b zero cell legal same newest = Opening same (λ k acked touch. absurd (let less = newest k acked touch in omega (arith, less)))
  from_origin r since b (suc q) cell legal same newest = Left q legal.0 legal.1 same (λ k acked touch. (let less = newest k acked touch in omega (arith, less)))

  clear_at : (r since a b x g : ℕ) (kind : Kind) → files.keeps b kind ≡ true → (w : ClearLook log a since r x g kind b) → posts files log w.l x b g kind ≤ settled files log w.l x b g kind
  clear_at r since a b x g kind kept w =
      look_clear files log w.l a x b g kind kept w.told w.took (joined log w.l a x || opening log w.l a x) (faults x (suc (asked log w.l x)))
      (subst (HonestLine files faults log w.l) w.is (honest w.l)) w.clear

  real_read : (r since a b : ℕ) (cell : Cell) → is_cell cell ≡ true → fits (born files log (object_of cell)) cell ≡ true → LooksLet n files.keeps log a since r (object_of cell) (kind_of cell) b → NoOlder files log r since b cell
  real_read r since a b cell real fit w =
      let o = copy_read n files faults log honest lawful cell real fit r b since w.among w.majority w.copy w.below
      (λ x below member. (
      let look = w.looks x below member in
      (look.l, look.after, omega (arith, look.past), clear_at r since a b x (object_of cell) (kind_of cell) w.copy look)
      )) in
      from_origin r since b o.0 cell o.1 o.2
      (λ k acked touch. (
      let f = acknowledged_fixed n files.keeps files faults log honest lawful since k acked in
      o.3 k (counts_at n files faults log honest lawful cell real fit since acked.a k f touch) f.among f.majority
      (λ x below member. recorded_at n files faults log honest lawful cell real fit since acked.a x k (f.recorded x member) touch)
      ))

  -- a read that its looks let is fresh
  pub fresh_read : (r since a b : ℕ) (cell : Cell) → LooksLet n files.keeps log a since r (object_of cell) (kind_of cell) b → NoOlder files log r since b cell
  fresh_read r since a b cell w = by_cell (is_cell cell) refl (fits (born files log (object_of cell)) cell) refl
    where
      by_cell : (real : Bool) → is_cell cell ≡ real → (fit : Bool) → fits (born files log (object_of cell)) cell ≡ fit → NoOlder files log r since b cell
      by_cell true real true fit = real_read r since a b cell real fit w
      by_cell true real false unfit = Opening (unfit_value n files faults log honest lawful b cell unfit r) (λ k acked hit. unfit_acked n files faults log honest lawful cell since k unfit acked hit)
      by_cell false unreal fit e = Opening (untouched_value files log b cell unreal r) (λ k acked hit. true≢false (sym hit ∙ no_change (log k) cell unreal))

-- the law, of lists of lines
pub fresh_reads : ReadsAreFresh
fresh_reads n files faults lines honest lawful a since r b cell w = fresh_read n files faults (slice_get lines) (honest_whole files faults lines honest) (lawful_whole n files.keeps lines lawful) r since a b cell w
