-- In honest and lawful logs of the model nothing diverges unrecorded.
use Rattle.std.proofs.Common.{◌≡◌, ℕ, suc, ◌<◌, ◌≤◌, Bool, true, false, refl, sym, ◌∙◌, subst, arith, List, [], ◌∷◌, length, true≢false}
use Rattle.std.specs.Prelude.{nat_lt}
use Rattle.std.proofs.lemmas.Bool.Decides.{nat_tests}
use Rattle.afr_base.specs.declared.ids.Gfid.{Gfid}
use Rattle.afr_base.specs.declared.ids.Kind.{Kind}
use Rattle.afr_base.specs.Keeping.{keeps}
use Rattle.afr_object.specs.Tables.{copy_at}
use Rattle.afr_lines.specs.Log.{EveryPrefix}
use Rattle.afr_lines.specs.declared.line.Line.{Line}
use Rattle.afr_plan.specs.declared.plan.Plan.{Plan}
use Rattle.afr_model.specs.Cells.{Cell, value_of, object_of_cell, kind_of_cell}
use Rattle.afr_model.specs.Cells as model
use Rattle.afr_model.specs.Honest.{fault_in}
use Rattle.afr_model.specs.Tables.{holds}
use Rattle.afr_model_moves.specs.Cells.{is_cell, object_of, kind_of}
use Rattle.afr_law_tables.specs.Codes.{cell_of, kept_by}
use Rattle.afr_model_moves.specs.Past.{Log, value}
use Rattle.afr_law.specs.Alike.{Unrecorded, Alike}
use Rattle.afr_law.proofs.Alike.Divergence.{undiverged}
use Rattle.afr_model_moves.specs.Honest.{Honest}
use Rattle.afr_model_moves.specs.Positions.{by_position}
use Rattle.afr_model_moves.proofs.ByPosition.{IsPast, past_whole}
use Rattle.afr_law.proofs.Model.Cells.{kind_cell, object_cell, value_sort, code_same}
use Rattle.afr_law.proofs.Model.Dirty.{dirty_is, looks_track}
use Rattle.afr_law.specs.Beginning.{start_of}
use Rattle.afr_law.proofs.Model.Places.{nothing_far}
use Rattle.afr_law.proofs.Model.Safe.{value_same}
use Rattle.afr_law.proofs.Model.Settles.{all_honest, all_lawful, take_within, within_before}
use Rattle.afr_law.proofs.Model.Sums.{pending_is}
use Rattle.afr_law.specs.ModelAlike.{AreAlike, AreAlikeAtRest, ModelNothingDiverges}
use Rattle.afr_law.proofs.Model.SoundLog.{LawfulBelow, lawful_below, name_limit}
use Rattle.afr_law_tables.specs.Clear.{IsClear}

-- ---- one moment
module _ (p : Plan) (n : ℕ) (L : Log) (five : p.shape.n ≤ 5) (older : List Line) (h : IsPast L older) (lawful : LawfulBelow p n older) where
  -- a brick that keeps the kind in the plan keeps it in the laws by positions
  pub kept_is : (b : ℕ) (kind : Kind) → b < p.shape.n → keeps p.shape kind b ≡ true → kept_by p b kind ≡ true
  kept_is b kind low kept = (let small : nat_lt b 5 ≡ true = below b p.shape.n low five in rw small kept)
    where
      below : (b n : ℕ) → b < n → n ≤ 5 → nat_lt b 5 ≡ true
      below b n l f = grind (arith, nat_tests)

  unrecorded_is : (g : Gfid) (kind : Kind) → IsClear p older g kind → Unrecorded p.shape.n (start_of p n) L (length older) g.0 kind
  unrecorded_is g kind none = record {
    clean = λ x low. dirty_is p n L x g kind older h lawful ∙ (none x low).0;
    unaccused = λ x c low under. pending_is p n L x c g kind older h lawful ∙ (none x low).1 c under;
  }

  pub alike_is : Alike p.shape.n (start_of p n) L (length older) → AreAlike p older
  alike_is all cell none b c low under kept also = go (is_cell (cell_of cell)) refl
    where
      kind : Kind
      kind = kind_of_cell cell

      mine : kept_by p b kind ≡ true
      mine = kept_is b kind low kept

      its : kept_by p c kind ≡ true
      its = kept_is c kind under also

      moved : Unrecorded p.shape.n (start_of p n) L (length older) (object_of (cell_of cell)) (kind_of (cell_of cell))
      moved = subst (λ (o : ℕ). Unrecorded p.shape.n (start_of p n) L (length older) o (kind_of (cell_of cell))) (sym (object_cell cell))
          (subst (λ (k : Kind). Unrecorded p.shape.n (start_of p n) L (length older) (object_of_cell cell).0 k) (sym (kind_cell cell)) (unrecorded_is (object_of_cell cell) kind none))

      same : value (start_of p n) L (length older) b (cell_of cell) ≡ value (start_of p n) L (length older) c (cell_of cell)
      same = all (cell_of cell) moved b c low under (subst (λ (k : Kind). kept_by p b k ≡ true) (sym (kind_cell cell)) mine) (subst (λ (k : Kind). kept_by p c k ≡ true) (sym (kind_cell cell)) its)

      far : (cell : Cell) → is_cell (cell_of cell) ≡ false → value_of p older b cell ≡ value_of p older c cell
      far (model.Byte g i) e = nothing_far p n older lawful b g i e ∙ sym (nothing_far p n older lawful c g i e)
      far (model.Attr g key) e = absurd (true≢false e)
      far (model.Name g name) e = absurd (true≢false e)

      go : (real : Bool) → is_cell (cell_of cell) ≡ real → value_of p older b cell ≡ value_of p older c cell
      go true real =
          code_same cell (value_of p older b cell) (value_of p older c cell) (value_sort cell (copy_at (object_of_cell cell) (holds p older b))) (value_sort cell (copy_at (object_of_cell cell) (holds p older c)))
          (sym (value_same p n L five older h lawful b cell real mine) ∙ same ∙ value_same p n L five older h lawful c cell real its)
      go false e = far cell e

-- ---- the whole log
module _ (p : Plan) (n : ℕ) (L : Log) (five : p.shape.n ≤ 5) where
  each_moment : ((t : ℕ) → Alike p.shape.n (start_of p n) L t) → (older : List Line) → IsPast L older → LawfulBelow p n older → EveryPrefix (AreAlike p) older
  each_moment all [] h lawful = alike_is p n L five [] h lawful (all 0)
  each_moment all (line ∷ older) h lawful = (alike_is p n L five (line ∷ older) h lawful (all (suc (length older))), each_moment all older h.1 lawful.1)

-- the second law in the words of the model
pub model_alike : ModelNothingDiverges
model_alike p log five honest lawful =
    each_moment p n (by_position log) five (λ t. undiverged p.shape.n (start_of p n) (fault_in p.faults) (by_position log) all_told (all_lawful p n five log below) (looks_track p n log below honest) t) log (past_whole log) below
  where
    n : ℕ
    n = name_limit p log

    below : LawfulBelow p n log
    below = lawful_below p n log (omega arith) lawful

    all_told : Honest (start_of p n) (fault_in p.faults) (by_position log)
    all_told = all_honest p n five log below honest (within_before p log (take_within p n five log below honest))

-- it says as much of the moments at which nobody is at work
pub alike_at_rest : (p : Plan) (log : List Line) → AreAlike p log → AreAlikeAtRest p log
alike_at_rest p log alike cell none = alike cell none.0
