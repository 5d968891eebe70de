-- Acknowledged attempts are kept, in the words of the model.
use Rattle.std.proofs.Common.{◌≡◌, ℕ, suc, ◌<◌, ◌≤◌, Bool, true, false, refl, sym, ◌∙◌, ap, subst, arith, List, [], ◌∷◌, length, Option, None, Some, true≢false}
use Rattle.std.specs.Prelude.{option_and_then}
use Rattle.afr_base.specs.Bricks.{member}
use Rattle.afr_base.specs.declared.ids.Kind.{Kind}
use Rattle.afr_object.specs.Tables.{copy_at}
use Rattle.afr_object.specs.declared.change.Change.{Change}
use Rattle.afr_lines.specs.Log.{EveryPrefix, change_of, change_at}
use Rattle.afr_lines.specs.declared.answer.Told.TheVariants.{Done}
use Rattle.afr_lines.specs.declared.line.Line.{Line}
use Rattle.afr_lines.specs.declared.line.Line.TheVariants.{Ask, Begin, HealBegin, End, HealEnd, Event}
use Rattle.afr_lines.specs.declared.request.Request.TheVariants.{Apply}
use Rattle.afr_plan.specs.declared.plan.Plan.{Plan}
use Rattle.afr_model.specs.Attempts.{IsAcknowledged, touches_if}
use Rattle.afr_model.specs.Cells.{Cell, kind_of_cell, leaves, object_of_cell, touches, value_of}
use Rattle.afr_model.specs.Cells as model
use Rattle.afr_model.specs.Honest.{fault_in}
use Rattle.afr_model.specs.Tables.{holds}
use Rattle.afr_model_moves.specs.Cells.{is_cell}
use Rattle.afr_model_moves.specs.Honest.{Honest}
use Rattle.afr_model_moves.specs.Past.{Log, changes, leaves_of, value}
use Rattle.afr_model_moves.specs.Positions.{by_position}
use Rattle.afr_model_moves.proofs.ByPosition.{IsPast, past_at, past_whole}
use Rattle.afr_law_tables.specs.Codes.{cell_of, kept_by}
use Rattle.afr_law.specs.Beginning.{start_of}
use Rattle.afr_law.specs.Safe.{Acknowledged}
use Rattle.afr_law.proofs.Model.Cells.{acknowledged_is, below_length, code_same, kind_cell, leaves_same, leaves_sort, touches_same, value_sort}
use Rattle.afr_law.proofs.Model.Discipline.{weakly_lawful}
use Rattle.afr_law.proofs.Model.Alike.{kept_is}
use Rattle.afr_law.proofs.Model.Places.{leaves_nothing, nothing_far}
use Rattle.afr_law.proofs.Model.Safe.{value_same}
use Rattle.afr_law.proofs.Model.Settles.{all_honest, all_lawful, take_within, within_before}
use Rattle.afr_law.proofs.Model.SoundLog.{LawfulBelow, ends_at, lawful_below, name_limit}
use Rattle.afr_law_promises.specs.ByPosition.{DoneAt, KeptAt, SinceAt}
use Rattle.afr_law_promises.specs.Durable.{HasDone, HasKeeper, IsDurable, IsSince, ModelExactIsDurable, ModelIsDurable}
use Rattle.afr_law_promises.proofs.Law.{kept}
use Rattle.afr_law_promises.proofs.Sets.{in_listed, keeper_of, listed, listed_most, listed_parts, listed_within}

-- ---- one moment
module _ (p : Plan) (n : ℕ) (L : Log) (five : p.shape.n ≤ 5) (older : List Line) (h : IsPast L older) (lawful : LawfulBelow p n older) where
  did_is : (b q : ℕ) → DoneAt L (length older) b q → HasDone older b q
  did_is b q d = record { position = d.m; actor = record { 0 = d.a }; line = sym (past_at L older h d.m d.past) ∙ d.is }

  did_back : (b q : ℕ) → HasDone older b q → DoneAt L (length older) b q
  did_back b q d =
      let low = below_length older d.position (Ask d.actor (record { 0 = b }) (Apply q) Done true) d.line in
      record { m = d.position; a = d.actor.0; is = past_at L older h d.position low ∙ d.line; past = low }

  change_is : (q : ℕ) (w : IsAcknowledged older q) → change_at q older ≡ Some w.change
  change_is q w = ap (option_and_then change_of) w.begun

  touch_is : (q : ℕ) (cell : Cell) (w : IsAcknowledged older q) → touches_if (change_at q older) cell ≡ true → touches w.change cell ≡ true
  touch_is q cell w hit = ap (λ (c : Option Change). touches_if c cell) (sym (change_is q w)) ∙ hit

  changed_here : (q : ℕ) (cell : Cell) → is_cell (cell_of cell) ≡ true → (w : IsAcknowledged older q) → touches_if (change_at q older) cell ≡ true → changes (L q) (cell_of cell) ≡ true
  changed_here q cell real w hit =
      let is : L q ≡ Some (Begin w.actor w.change) = past_at L older h q (below_length older q (Begin w.actor w.change) w.begun) ∙ w.begun in
      ap (λ (l : Option Line). changes l (cell_of cell)) is ∙ touches_same w.change cell real ∙ touch_is q cell w hit

  since_is : (b : ℕ) (cell : Cell) (q : ℕ) → is_cell (cell_of cell) ≡ true → kept_by p b (kind_of_cell cell) ≡ true → SinceAt (start_of p n) L (length older) b (cell_of cell) q → IsSince p older b cell q
  since_is b cell q real mine w = go (L w.from) refl w.touch w.left
    where
      go : (line : Option Line) → L w.from ≡ line → changes line (cell_of cell) ≡ true → value (start_of p n) L (length older) b (cell_of cell) ≡ leaves_of line (cell_of cell) → IsSince p older b cell q
      go (Some (Begin a c)) e hit same = record {
        from = w.from;
        change = c;
        begun = ap (option_and_then change_of) (sym (past_at L older h w.from w.past) ∙ e);
        touch = sym (touches_same c cell real) ∙ hit;
        left = code_same cell (value_of p older b cell) (leaves c cell) (value_sort cell (copy_at (object_of_cell cell) (holds p older b))) (leaves_sort c cell) (sym (value_same p n L five older h lawful b cell real mine) ∙ same ∙ leaves_same c cell);
        late = w.late;
      }
      go None e hit same = absurd (true≢false (sym hit))
      go (Some (Ask a y r told took)) e hit same = absurd (true≢false (sym hit))
      go (Some (HealBegin a g kind)) e hit same = absurd (true≢false (sym hit))
      go (Some (End a reply)) e hit same = absurd (true≢false (sym hit))
      go (Some (HealEnd a g kind reply)) e hit same = absurd (true≢false (sym hit))
      go (Some (Event x)) e hit same = absurd (true≢false (sym hit))

  -- what stands past the last place is nothing, as a change leaves it
  far_since : (b : ℕ) (cell : Cell) (q : ℕ) → is_cell (cell_of cell) ≡ false → IsAcknowledged older q → touches_if (change_at q older) cell ≡ true → IsSince p older b cell q
  far_since b (model.Byte g i) q e w hit = record {
    from = q;
    change = w.change;
    begun = change_is q w;
    touch = touch_is q (model.Byte g i) w hit;
    left = nothing_far p n older lawful b g i e ∙ sym (leaves_nothing w.change g i e (ends_at p n older lawful q w.change (change_is q w)).0 (touch_is q (model.Byte g i) w hit));
    late = omega arith;
  }
  far_since b (model.Attr g key) q e w hit = absurd (true≢false e)
  far_since b (model.Name g name) q e w hit = absurd (true≢false e)

  pub durable_is : ((q : ℕ) → Acknowledged L (length older) q → KeptAt p.shape.n (start_of p n) L (length older) q) → IsDurable p older
  durable_is all q w = record {
    bricks = listed p.shape.n k.among;
    within = listed_within p.shape.n k.among;
    majority = listed_most p.shape.n k.among five k.majority;
    done = λ b inside. (let parts = listed_parts p.shape.n k.among b inside in did_is b q (k.done b parts.0 parts.1));
    keeper = λ kind. keeper kind;
    since = λ b cell low did mine hit. by_cell b cell (kept_is p n L five older h lawful b (kind_of_cell cell) low mine) did hit (is_cell (cell_of cell)) refl;
  }
    where
      k : KeptAt p.shape.n (start_of p n) L (length older) q
      k = all q (acknowledged_is L older h q w)

      keeper : (kind : Kind) → HasKeeper p (listed p.shape.n k.among) kind
      keeper kind = (
          let b = keeper_of p.shape k.among five k.majority kind in
          record { brick = b.0; inside = inside b.0 b.1 b.2; keeper = b.3 }
          )
        where
          inside : (b : ℕ) → b < p.shape.n → k.among b ≡ true → member (listed p.shape.n k.among) b ≡ true
          inside b low m = in_listed p.shape.n k.among five b low ∙ m

      by_cell : (b : ℕ) (cell : Cell) → kept_by p b (kind_of_cell cell) ≡ true → HasDone older b q → touches_if (change_at q older) cell ≡ true → (real : Bool) → is_cell (cell_of cell) ≡ real → IsSince p older b cell q
      by_cell b cell mine did hit true real = since_is b cell q real mine (k.since b (cell_of cell) (did_back b q did) (subst (λ (o : Kind). kept_by p b o ≡ true) (sym (kind_cell cell)) mine) (changed_here q cell real w hit))
      by_cell b cell mine did hit false unreal = far_since b cell q unreal w hit

-- ---- the whole log
module _ (p : Plan) (n : ℕ) (L : Log) (five : p.shape.n ≤ 5) where
  each_moment : ((t q : ℕ) → Acknowledged L t q → KeptAt p.shape.n (start_of p n) L t q) → (older : List Line) → IsPast L older → LawfulBelow p n older → EveryPrefix (IsDurable p) older
  each_moment all [] h lawful = durable_is p n L five [] h lawful (all 0)
  each_moment all (line ∷ older) h lawful = (durable_is p n L five (line ∷ older) h lawful (all (suc (length older))), each_moment all older h.1 lawful.1)

-- the law in the words of the model
pub model_durable : ModelIsDurable
model_durable p log five honest lawful = each_moment p n (by_position log) five (λ t q acked. kept p.shape.n (start_of p n) (fault_in p.faults) (by_position log) all_told (all_lawful p n five log below) t q acked) log (past_whole log) below
  where
    n : ℕ
    n = name_limit p log

    below : LawfulBelow p n log
    below = lawful_below p n log (omega arith) lawful

    all_told : Honest (start_of p n) (fault_in p.faults) (by_position log)
    all_told = all_honest p n five log below honest (within_before p log (take_within p n five log below honest))

-- over the discipline in full
pub exact_durable : ModelExactIsDurable
exact_durable p log five short honest lawful = model_durable p log five honest (weakly_lawful p log five short honest lawful)
