-- Honest and lawful logs of the model are safe at every moment.
use Rattle.std.proofs.Common.{◌≡◌, ℕ, suc, ◌*◌, ◌<◌, ◌≤◌, Bool, true, false, ◌||◌, not, refl, sym, ◌∙◌, ap, subst, arith, List, [], ◌∷◌, length, Option, None, Some, ◌==◌, true≢false}
use Rattle.std.specs.Prelude.{nat_lt, option_and_then}
use Rattle.std.specs.List.{list_any}
use Rattle.std.proofs.lemmas.Bool.Decides.{nat_tests}
use Rattle.afr_base.specs.Bricks.{member, IsWithin}
use Rattle.afr_base.specs.Majority.{IsMajority, count_below}
use Rattle.afr_base.specs.declared.ids.Gfid.{Gfid}
use Rattle.afr_base.specs.declared.ids.Kind.{Kind}
use Rattle.afr_base.specs.Keeping.{keeps}
use Rattle.afr_object.specs.Tables.{opening, copy_at}
use Rattle.afr_object.specs.declared.change.Change.{Change}
use Rattle.afr_lines.specs.Log.{EveryPrefix, change_of, change_at}
use Rattle.afr_lines.specs.declared.line.Line.{Line}
use Rattle.afr_lines.specs.declared.line.Line.TheVariants.{Ask, Begin, HealBegin, End, HealEnd, Event}
use Rattle.afr_plan.specs.declared.plan.Plan.{Plan}
use Rattle.afr_model.specs.Attempts.{IsAcknowledged, touches_if, Opening, Left, IsCurrent}
use Rattle.afr_model.specs.Cells.{Cell, value_of, value_if, object_of_cell, kind_of_cell, touches, leaves}
use Rattle.afr_model.specs.Cells as model
use Rattle.afr_model.specs.Honest.{fault_in}
use Rattle.afr_model_moves.specs.Honest.{Honest}
use Rattle.afr_model.specs.Safe.{IsSafe, is_good_copy, accuses}
use Rattle.afr_model.specs.Sums.{has_object, pending_of}
use Rattle.afr_model.specs.Tables.{holds}
use Rattle.afr_model_moves.specs.Cells.{is_cell, object_of, kind_of}
use Rattle.afr_law_tables.specs.Codes.{value_code, cell_of, kept_by}
use Rattle.afr_model_moves.specs.Past.{Log, changes, leaves_of, value}
use Rattle.afr_law.specs.Safe.{Safe, IsGoodCopy, Current}
use Rattle.afr_law.specs.Safe as law
use Rattle.afr_law.proofs.Safety.CellHistory.{safe}
use Rattle.afr_model_moves.specs.Positions.{by_position}
use Rattle.afr_model_moves.proofs.ByPosition.{IsPast, past_whole, past_at}
use Rattle.afr_law.proofs.Model.Cells.{kind_cell, object_cell, cell_back, touches_same, leaves_same, value_sort, leaves_sort, code_same, acknowledged_is, below_length}
use Rattle.afr_law.specs.Beginning.{start_of}
use Rattle.afr_law.proofs.Model.Places.{far_current}
use Rattle.afr_law.proofs.Model.SoundLog.{LawfulBelow, lawful_below, name_limit}
use Rattle.afr_law.proofs.Model.Settles.{all_honest, all_lawful, take_within, within_before}
use Rattle.afr_law.proofs.Model.Sums.{holds_is, pending_is}
use Rattle.afr_law.proofs.Model.Tables.{code_is_value}
use Rattle.afr_law.specs.ModelLaw.{ModelLawfulIsSafe}
use Rattle.std.proofs.lemmas.Bool.{eqb-true, ltb-true, not-true}
use Rattle.afr_model_moves.proofs.Tests.{four_parts}

-- ---- tests
none_of : (f : ℕ → Bool) (s : List ℕ) → list_any f s ≡ false → (x : ℕ) → member s x ≡ true → f x ≡ false
none_of f [] e x m = absurd (true≢false (sym m))
none_of f (y ∷ s) e x m = go (f y) refl (list_any f s) refl e (y == x) refl m (λ k n. none_of f s k x n)
  where
    go : (one : Bool) → f y ≡ one → (more : Bool) → list_any f s ≡ more → (one || more) ≡ false → (here : Bool) → (y == x) ≡ here → (here || member s x) ≡ true → (list_any f s ≡ false → member s x ≡ true → f x ≡ false) → f x ≡ false
    go true g more h k here l m rest = absurd (true≢false k)
    go false g true h k here l m rest = absurd (true≢false k)
    go false g false h k true l m rest = ap f (sym (eqb-true y x l)) ∙ g
    go false g false h k false l m rest = rest h m

-- ---- one moment
module _ (p : Plan) (n : ℕ) (L : Log) (five : p.shape.n ≤ 5) (older : List Line) (h : IsPast L older) (lawful : LawfulBelow p n older) where
  -- a value by positions is the value of the model
  pub value_same : (b : ℕ) (cell : Cell) → is_cell (cell_of cell) ≡ true → kept_by p b (kind_of_cell cell) ≡ true → value (start_of p n) L (length older) b (cell_of cell) ≡ value_code (value_of p older b cell)
  value_same b cell real kept =
      code_is_value p n L b (cell_of cell) real (subst (λ (k : Kind). kept_by p b k ≡ true) (sym (kind_cell cell)) kept) older h lawful
      ∙ ap (λ (c : Cell). value_code (value_if c (copy_at (object_of_cell c) (holds p older b)))) (cell_back cell)

  changed_here : (k : ℕ) (cell : Cell) → is_cell (cell_of cell) ≡ true → IsAcknowledged older k → touches_if (change_at k older) cell ≡ true → changes (L k) (cell_of cell) ≡ true
  changed_here k cell real w hit =
      let is : L k ≡ Some (Begin w.actor w.change) = past_at L older h k (below_length older k (Begin w.actor w.change) w.begun) ∙ w.begun in
      let at : change_at k older ≡ Some w.change = ap (option_and_then change_of) w.begun in
      let touch : touches w.change cell ≡ true = ap (λ (c : Option Change). touches_if c cell) (sym at) ∙ hit in
      ap (λ (l : Option Line). changes l (cell_of cell)) is ∙ touches_same w.change cell real ∙ touch

  current_is : (b : ℕ) (cell : Cell) → is_cell (cell_of cell) ≡ true → kept_by p b (kind_of_cell cell) ≡ true → Current (start_of p n) L (length older) b (cell_of cell) → IsCurrent p older b cell
  current_is b cell real kept (law.Opening same none) =
      Opening
      (code_same cell (value_of p older b cell) (value_of p [] b cell) (value_sort cell (copy_at (object_of_cell cell) (holds p older b))) (value_sort cell (copy_at (object_of_cell cell) (opening p.files)))
      (sym (value_same b cell real kept) ∙ same ∙ ap (λ (c : Cell). value_code (value_if c (copy_at (object_of_cell c) (opening p.files)))) (cell_back cell)))
      (λ k w hit. none k (acknowledged_is L older h k w) (changed_here k cell real w hit))
  current_is b cell real kept (law.Left q past hit same newest) = go (L q) refl hit same
    where
      after : (k : ℕ) → IsAcknowledged older k → touches_if (change_at k older) cell ≡ true → k ≤ q
      after k w t = newest k (acknowledged_is L older h k w) (changed_here k cell real w t)

      go : (line : Option Line) → L q ≡ line → changes line (cell_of cell) ≡ true → value (start_of p n) L (length older) b (cell_of cell) ≡ leaves_of line (cell_of cell) → IsCurrent p older b cell
      go (Some (Begin a c)) e hit same =
          Left q c (ap (option_and_then change_of) (sym (past_at L older h q past) ∙ e)) (sym (touches_same c cell real) ∙ hit)
          (code_same cell (value_of p older b cell) (leaves c cell) (value_sort cell (copy_at (object_of_cell cell) (holds p older b))) (leaves_sort c cell) (sym (value_same b cell real kept) ∙ same ∙ leaves_same c cell))
          after
      go None e hit same = absurd (true≢false (sym hit))
      go (Some (Ask a y r told took)) e hit same = absurd (true≢false (sym hit))
      go (Some (HealBegin a g kind)) e hit same = absurd (true≢false (sym hit))
      go (Some (End a reply)) e hit same = absurd (true≢false (sym hit))
      go (Some (HealEnd a g kind reply)) e hit same = absurd (true≢false (sym hit))
      go (Some (Event x)) e hit same = absurd (true≢false (sym hit))

  good_is : (among : List ℕ) → IsWithin p.shape.n among → (b : ℕ) (cell : Cell) → is_good_copy p older among (object_of_cell cell) (kind_of_cell cell) b ≡ true
      → kept_by p b (kind_of_cell cell) ≡ true → IsGoodCopy p.shape.n (kept_by p) (start_of p n) L (length older) (member among) (object_of_cell cell).0 (kind_of_cell cell) b
  good_is among within b cell good kept =
      let g = object_of_cell cell in
      let kind = kind_of_cell cell in
      let w = four_parts (member among b) (has_object p older g b) (keeps p.shape kind b) (not (list_any (λ x. accuses p older g kind x b) among)) good in
      record {
        below = within b w.0;
        member = w.0;
        holder = holds_is p n L b older h lawful g.0 ∙ w.1;
        copy = kept;
        unaccused = λ x low m. pending_is p n L x b g kind older h lawful ∙ zero_is (pending_of p older x b g kind) (none_of (λ x. accuses p older g kind x b) among (not-true _ w.3) x m);
      }
    where
      zero_is : (n : ℕ) → nat_lt 0 n ≡ false → n ≡ 0
      zero_is n e = grind (arith, nat_tests)

  pub safe_is : Safe p.shape.n (kept_by p) (start_of p n) L (length older) → IsSafe p older
  safe_is all among within majority b cell good = go (is_cell (cell_of cell)) refl
    where
      g : Gfid
      g = object_of_cell cell

      kind : Kind
      kind = kind_of_cell cell

      parts : (member among b ≡ true) × (has_object p older g b ≡ true) × (keeps p.shape kind b ≡ true) × (not (list_any (λ x. accuses p older g kind x b) among) ≡ true)
      parts = four_parts (member among b) (has_object p older g b) (keeps p.shape kind b) (not (list_any (λ x. accuses p older g kind x b) among)) good

      kept : kept_by p b kind ≡ true
      kept = (let low : nat_lt b 5 ≡ true = small b p.shape.n (within b parts.0) five in rw low parts.2)
        where
          small : (b n : ℕ) → b < n → n ≤ 5 → nat_lt b 5 ≡ true
          small b n l f = grind (arith, nat_tests)

      many : IsMajority p.shape.n (member among)
      many = ltb-true p.shape.n (2 * count_below p.shape.n (member among)) majority

      real_is : is_cell (cell_of cell) ≡ true → IsCurrent p older b cell
      real_is real =
          let good_here = good_is among within b cell good kept in
          let moved : IsGoodCopy p.shape.n (kept_by p) (start_of p n) L (length older) (member among) (object_of (cell_of cell)) (kind_of (cell_of cell)) b =
          subst (λ (o : ℕ). IsGoodCopy p.shape.n (kept_by p) (start_of p n) L (length older) (member among) o (kind_of (cell_of cell)) b) (sym (object_cell cell))
          (subst (λ (k : Kind). IsGoodCopy p.shape.n (kept_by p) (start_of p n) L (length older) (member among) g.0 k b) (sym (kind_cell cell)) good_here) in
          current_is b cell real kept (all (member among) many b (cell_of cell) moved)

      unreal : (cell : Cell) → is_cell (cell_of cell) ≡ false → IsCurrent p older b cell
      unreal (model.Byte g i) e = far_current p n older lawful b g i e
      unreal (model.Attr g key) e = absurd (true≢false e)
      unreal (model.Name g name) e = absurd (true≢false e)

      go : (real : Bool) → is_cell (cell_of cell) ≡ real → IsCurrent p older b cell
      go true e = real_is e
      go false e = unreal cell e

-- ---- the whole log
module _ (p : Plan) (n : ℕ) (L : Log) (five : p.shape.n ≤ 5) where
  each_moment : ((t : ℕ) → Safe p.shape.n (kept_by p) (start_of p n) L t) → (older : List Line) → IsPast L older → LawfulBelow p n older → EveryPrefix (IsSafe p) older
  each_moment all [] h lawful = safe_is p n L five [] h lawful (all 0)
  each_moment all (line ∷ older) h lawful = (safe_is p n L five (line ∷ older) h lawful (all (suc (length older))), each_moment all older h.1 lawful.1)

-- the law in the words of the model
pub model_safe : ModelLawfulIsSafe
model_safe p log five honest lawful = each_moment p n (by_position log) five (λ t. safe p.shape.n (start_of p n) (fault_in p.faults) (by_position log) all_told (all_lawful p n five log below) t) log (past_whole log) below
  where
    n : ℕ
    n = name_limit p log

    below : LawfulBelow p n log
    below = lawful_below p n log (omega arith) lawful

    all_told : Honest (start_of p n) (fault_in p.faults) (by_position log)
    all_told = all_honest p n five log below honest (within_before p log (take_within p n five log below honest))
