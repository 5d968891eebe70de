-- What is no older than some first lines of a log, by positions and in the words of the model.
use Rattle.std.proofs.Common.{◌≡◌, ℕ, zero, suc, ◌≤◌, ◌^◌, Bool, true, false, refl, sym, ◌∙◌, ap, arith, List, [], ◌∷◌, length, drop, Option, None, Some, if◌then◌else◌, true≢false}
use Rattle.std.specs.Prelude.{nat_lt, option_and_then}
use Rattle.afr_base.specs.declared.ids.Gfid.{Gfid}
use Rattle.afr_object.specs.Tables.{opening, copy_at}
use Rattle.afr_object.specs.declared.change.Change.{Change}
use Rattle.afr_lines.specs.Log.{from_oldest, change_of, change_at}
use Rattle.afr_lines.specs.Work.{Work, work, is_of, is_end}
use Rattle.afr_lines.specs.declared.line.Line.{Line}
use Rattle.afr_lines.specs.declared.line.Line.TheVariants.{Ask, Begin, HealBegin, End, HealEnd, Event}
use Rattle.afr_plan.specs.declared.plan.Plan.{Plan}
use Rattle.afr_model.specs.Attempts.{IsAcknowledged, touches_if, Opening, Left, IsNoOlder, IsCurrent}
use Rattle.afr_model.specs.Cells.{Cell, value_of, value_if, object_of_cell, kind_of_cell, touches, leaves}
use Rattle.afr_model.specs.Cells as model
use Rattle.afr_model.specs.Safe.{log_before}
use Rattle.afr_model.specs.Tables.{holds}
use Rattle.afr_law.proofs.Model.Cells.{cell_back, touches_same, leaves_same, value_sort, leaves_sort, code_same, acknowledged_is, below_length}
use Rattle.afr_law.specs.Beginning.{start_of}
use Rattle.afr_law.proofs.Model.Places.{far_current, nothing_far}
use Rattle.afr_law.proofs.Model.Safe.{value_same}
use Rattle.afr_law.proofs.Model.SoundLog.{LawfulBelow}
use Rattle.afr_model_moves.specs.Cells.{is_cell}
use Rattle.afr_law_tables.specs.Codes.{value_code, cell_of, kept_by}
use Rattle.afr_law.specs.FreshReads.{NoOlder}
use Rattle.afr_law.specs.FreshReads as fresh
use Rattle.afr_model_moves.specs.Past.{Log, changes, leaves_of, value}
use Rattle.afr_model_moves.proofs.ByPosition.{IsPast, past_at}

-- ---- the first lines of a log
module _ (p : Plan) (n : ℕ) (L : Log) where
  -- these are some first lines of the log, at most m, and lawful
  abbrev pub Early : ℕ → List Line → Type 0
  Early m log = IsPast L log × LawfulBelow p n log × (length log ≤ m)

  one_less : (m : ℕ) (line : Line) (older : List Line) → Early m (line ∷ older) → Early m older
  one_less m line older h = (h.0.1, h.1.1, omega (arith, h.2))

  pub early_drop : (m k : ℕ) (log : List Line) → Early m log → Early m (drop k log)
  early_drop m zero log h = h
  early_drop m (suc k) [] h = h
  early_drop m (suc k) (line ∷ older) h = early_drop m k older (one_less m line older h)

  pub early_begun : (m a : ℕ) (log : List Line) → Early m log → Early m (log_before (work a log) log)
  early_begun m a [] h = h
  early_begun m a (line ∷ older) h = go (is_of a line) (is_end line) (work a older) (early_begun m a older (one_less m line older h))
    where
      go : (own last : Bool) (w : Work) → Early m (log_before w older) → Early m (log_before (if own then (if last then [] else (line, older) ∷ w) else w) (line ∷ older))
      go true true w k = h
      go true false w k = k
      go false last [] k = h
      go false last (x ∷ w) k = k

-- ---- values and acknowledgements by positions are those of the model
module _ (p : Plan) (n : ℕ) (L : Log) (five : p.shape.n ≤ 5) (older : List Line) (h : IsPast L older) (lawful : LawfulBelow p n older) (early : List Line) (was : Early p n L (length older) early) where
  changed_in : (k : ℕ) (cell : Cell) → is_cell (cell_of cell) ≡ true → IsAcknowledged early k → touches_if (change_at k early) cell ≡ true → changes (L k) (cell_of cell) ≡ true
  changed_in k cell real w hit =
      let is : L k ≡ Some (Begin w.actor w.change) = past_at L early was.0 k (below_length early k (Begin w.actor w.change) w.begun) ∙ w.begun in
      let at : change_at k early ≡ Some w.change = ap (option_and_then change_of) w.begun in
      let touch : touches w.change cell ≡ true = ap (λ (c : Option Change). touches_if c cell) (sym at) ∙ hit in
      ap (λ (l : Option Line). changes l (cell_of cell)) is ∙ touches_same w.change cell real ∙ touch

  pub no_older_is : (b : ℕ) (cell : Cell) → is_cell (cell_of cell) ≡ true → kept_by p b (kind_of_cell cell) ≡ true → NoOlder (start_of p n) L (length older) (length early) b (cell_of cell) → IsNoOlder p older early b cell
  no_older_is b cell real kept (fresh.Opening same none) =
      Opening
      (code_same cell (value_of p older b cell) (value_of p [] b cell) (value_sort cell (copy_at (object_of_cell cell) (holds p older b))) (value_sort cell (copy_at (object_of_cell cell) (opening p.files)))
      (sym (value_same p n L five older h lawful b cell real kept) ∙ same ∙ ap (λ (c : Cell). value_code (value_if c (copy_at (object_of_cell c) (opening p.files)))) (cell_back cell)))
      (λ k w hit. none k (acknowledged_is L early was.0 k w) (changed_in k cell real w hit))
  no_older_is b cell real kept (fresh.Left q past hit same newest) = go (L q) refl hit same
    where
      after : (k : ℕ) → IsAcknowledged early k → touches_if (change_at k early) cell ≡ true → k ≤ q
      after k w t = newest k (acknowledged_is L early was.0 k w) (changed_in k cell real w t)

      go : (line : Option Line) → L q ≡ line → changes line (cell_of cell) ≡ true → value (start_of p n) L (length older) b (cell_of cell) ≡ leaves_of line (cell_of cell) → IsNoOlder p older early b cell
      go (Some (Begin a c)) e hit same =
          Left q c (ap (option_and_then change_of) (sym (past_at L older h q past) ∙ e)) (sym (touches_same c cell real) ∙ hit)
          (code_same cell (value_of p older b cell) (leaves c cell) (value_sort cell (copy_at (object_of_cell cell) (holds p older b))) (leaves_sort c cell) (sym (value_same p n L five older h lawful b cell real kept) ∙ same ∙ leaves_same c cell))
          after
      go None e hit same = absurd (true≢false (sym hit))
      go (Some (Ask a y r told took)) e hit same = absurd (true≢false (sym hit))
      go (Some (HealBegin a g kind)) e hit same = absurd (true≢false (sym hit))
      go (Some (End a reply)) e hit same = absurd (true≢false (sym hit))
      go (Some (HealEnd a g kind reply)) e hit same = absurd (true≢false (sym hit))
      go (Some (Event x)) e hit same = absurd (true≢false (sym hit))

  change_stands : (q : ℕ) (c : Change) → change_at q early ≡ Some c → change_at q older ≡ Some c
  change_stands q c e = go (from_oldest q early) refl e
    where
      go : (line : Option Line) → from_oldest q early ≡ line → option_and_then change_of line ≡ Some c → change_at q older ≡ Some c
      go None f k = absurd (cc k)
      go (Some line) f k = (
          let low = below_length early q line f in
          let same : from_oldest q older ≡ Some line = sym (past_at L older h q (omega (arith, low, was.2))) ∙ past_at L early was.0 q low ∙ f in
          ap (option_and_then change_of) same ∙ k
          )

  -- places past the last that a range locks
  pub far_no_older : (b : ℕ) (g : Gfid) (i : ℕ) → nat_lt i (2 ^ 63) ≡ false → IsNoOlder p older early b (model.Byte g i)
  far_no_older b g i e = go (far_current p n early was.1 b g i e)
    where
      same_now : value_of p older b (model.Byte g i) ≡ value_of p early b (model.Byte g i)
      same_now = nothing_far p n older lawful b g i e ∙ sym (nothing_far p n early was.1 b g i e)

      go : IsCurrent p early b (model.Byte g i) → IsNoOlder p older early b (model.Byte g i)
      go (Opening same none) = Opening (same_now ∙ same) none
      go (Left q c at hit same newest) = Left q c (change_stands q c at) hit (same_now ∙ same) newest
