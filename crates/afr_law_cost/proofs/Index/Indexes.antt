-- The index of a brick lists at most as many objects as there can be.
use Rattle.std.proofs.Common.{◌≡◌, ◌∙◌, ℕ, ◌+◌, ◌-◌, ◌<◌, ◌≤◌, ◌==◌, inl, inr, Bool, true, false, refl, sym, ap, subst, arith, suc, List, [], ◌∷◌, length, length-append, Option, Some}
use Rattle.std.proofs.lemmas.Bool.{cases_lt, eqb-true}
use Rattle.std.specs.Prelude.{if◌then◌else◌}
use Rattle.afr_law_bound.specs.Ends.Cost.{objects_of}
use Rattle.afr_law_names.proofs.Descent.Makes.{plan_before}
use Rattle.afr_law_names.specs.Descent.Descent.{IsOfPlan}
use Rattle.afr_law_cost.proofs.Index.Known.{known_has, known_numbers, made_numbers, opening_count, opening_numbers}
use Rattle.afr_law_cost.proofs.Index.Numbers.{copy_there, index_short, no_longer, numbers}
use Rattle.afr_law_cost.proofs.Index.Scripts.{made_few}
use Rattle.afr_law_cost.specs.Index.Indexes.{AskedIndexesAreShort, AsksShortIndex, IndexesAreShort, NextIndexIsShort}
use Rattle.afr_law.proofs.Model.Discipline.{exactly_below}
use Rattle.afr_law.proofs.Model.Settles.{all_honest, take_within, within_before}
use Rattle.afr_law.proofs.Model.SoundLog.{LawfulBelow}
use Rattle.afr_law.proofs.Model.Tables.{all_same}
use Rattle.afr_law.proofs.Safety.Objects.{kind_born}
use Rattle.afr_law.specs.Beginning.{start_of}
use Rattle.afr_law.specs.Exactly.{name_bound}
use Rattle.afr_law.specs.ModelKinds.{Before, Now, WasTable}
use Rattle.afr_lines.specs.Log.{from_oldest}
use Rattle.afr_lines.specs.declared.answer.Answer.TheVariants as answer
use Rattle.afr_lines.specs.declared.answer.Answer.{Answer}
use Rattle.afr_lines.specs.declared.line.Line.TheVariants.{Ask, Begin, End, Event, HealBegin, HealEnd}
use Rattle.afr_lines.specs.declared.line.Line.{Line}
use Rattle.afr_lines.specs.declared.request.Request.TheVariants as request
use Rattle.afr_model.specs.Honest.{fault_in}
use Rattle.afr_model.specs.Tables.{held_before, holds}
use Rattle.afr_model_moves.proofs.ByPosition.{past_whole}
use Rattle.afr_model_moves.proofs.Tests.{what_some}
use Rattle.afr_model_moves.specs.Cells.{what_code}
use Rattle.afr_model_moves.specs.Honest.{Honest, HonestLine, KnownMake}
use Rattle.afr_model_moves.specs.Past.{Log, kind_at, made}
use Rattle.afr_model_moves.specs.Positions.{by_position}
use Rattle.afr_object.specs.Indexed.{index_of}
use Rattle.afr_object.specs.declared.change.Change.TheVariants.{Make}
use Rattle.afr_object.specs.Tables.{Table}
use Rattle.afr_plan.specs.declared.plan.Plan.{Plan}
use Rattle.afr_model.proofs.Rises.{Rises, rising}
use Rattle.afr_law_cost.specs.Round.Left.{Lists}
use Rattle.afr_law_tables.specs.Codes.{kind_code, kind_in}
use Rattle.afr_law_bound.proofs.Circle.{In}

-- ---- the gfids of a table that stood rise
rose : (p : Plan) (log : List Line) (k b : ℕ) → Rises (held_before p log k b)
rose p [] k b = rising p [] b
rose p (line ∷ older) k b = go (k == length older) (rose p older k b)
  where
    go : (here : Bool) → Rises (held_before p older k b) → Rises (if here then holds p older b else held_before p older k b)
    go true h = rising p older b
    go false h = h

-- ---- and each is the root's, an opening file's, or one that a line gave
-- the first line makes nothing below 2
none_low : (p : Plan) (L : Log) (line : Option Line) (z k : ℕ) → HonestLine (start_of p (name_bound p)) (fault_in p.faults) L 0 line → made z line ≡ suc k → z < 2 → ⊥
none_low p L (Some (Begin x (Make dir name h what))) z k told e low = go (h.0 == z) refl e told
  where
    go : (hit : Bool) → (h.0 == z) ≡ hit → (if hit then what_code what else 0) ≡ suc k → KnownMake (start_of p (name_bound p)) L 0 (Make dir name h what) → ⊥
    go true f e (inl w) = (let same : h.0 ≡ z = eqb-true h.0 z f in let new = w.0 in absurd (omega (arith, same, new, low)))
    go true f e (inr w) = (let past = w.past in absurd (omega (arith, past)))
    go false f e known = absurd (omega (arith, e))
none_low p L line z k told e low = absurd (omega (arith, e))

module _ (p : Plan) (log : List Line) (f : IsOfPlan p log) where
  abbrev N : ℕ
  N = name_bound p

  abbrev L : Log
  L = by_position log

  below : LawfulBelow p N log
  below = exactly_below p log f.few f.short f.honest f.lawful

  honest : Honest (start_of p N) (fault_in p.faults) L
  honest = all_honest p N f.few log below f.honest (within_before p log (take_within p N f.few log below f.honest))

  -- an object's number is that of its line
  own : (z k : ℕ) → made z (from_oldest (z - 2) log) ≡ suc k → z ≡ (z - 2) + 2
  own z k e =
      elim (cases_lt z 2) [
        | inl low ↦ absurd (none_low p L (from_oldest 0 log) z k (honest 0) (let first : z - 2 ≡ 0 = omega (arith, low) in subst (λ (q : ℕ). made z (from_oldest q log) ≡ suc k) first e) low)
        | inr high ↦ omega (arith, high)
      ]

  -- a copy that stood somewhere
  known : (k b : ℕ) (t : Table) → ((g : ℕ) → kind_at (start_of p N) L k b g ≡ kind_in t g) → (z : ℕ) → In z (numbers t) → In z (known_numbers p.files log)
  known k b t same z h =
      let w = copy_there t z h in
      let some = what_some w.0.what in
      let kind : kind_in t z ≡ what_code w.0.what = ap kind_code w.1 in
      known_has p.files log (z - 2) z some.0 (own z some.0) (kind_born (start_of p N) (fault_in p.faults) L honest k b z some.0 (same z ∙ kind ∙ some.1))

  pub table_short : (t : Table) → WasTable p log t → length t ≤ objects_of p
  table_short t was = go was
    where
      few : length (known_numbers p.files log) ≤ objects_of p
      few =
          let size : length (known_numbers p.files log) ≡ length (opening_numbers p.files) + length (made_numbers log) = length-append (opening_numbers p.files) (made_numbers log) in
          let first = opening_count p.files in
          let made = made_few p log f in
          omega (arith, size, first, made)

      at : (k b : ℕ) (u : Table) → Rises u → ((g : ℕ) → kind_at (start_of p N) L k b g ≡ kind_in u g) → length u ≤ objects_of p
      at k b u rises same = (let low = no_longer u (known_numbers p.files log) rises (known k b u same) in omega (arith, low, few))

      go : WasTable p log t → length t ≤ objects_of p
      go (Now b is) = subst (λ (u : Table). length u ≤ objects_of p) (sym is) (at (length log) b (holds p log b) (rising p log b) ((all_same p N L log (past_whole log) below).0.kinds b))
      go (Before k b low is) = subst (λ (u : Table). length u ≤ objects_of p) (sym is) (at k b (held_before p log k b) (rose p log k b) (((all_same p N L log (past_whole log) below).1 k low).kinds b))

-- ---- the laws
pub indexes_short : IndexesAreShort
indexes_short p log f t was = (let t_short = table_short p log f t was in let listed = index_short t in omega (arith, t_short, listed))

holds_short : (p : Plan) (log : List Line) → IsOfPlan p log → (b : ℕ) → length (index_of (holds p log b)) ≤ objects_of p
holds_short p log f b = indexes_short p log f (holds p log b) (Now b refl)

line_short : (p : Plan) (line : Line) (older : List Line) → IsOfPlan p older → AsksShortIndex p line older
line_short p (Ask a b request.Index told took) older f = holds_short p older f b.0
line_short p (Ask a b r told took) older f = tt
line_short p (Begin a change) older f = tt
line_short p (HealBegin a g kind) older f = tt
line_short p (End a reply) older f = tt
line_short p (HealEnd a g kind reply) older f = tt
line_short p (Event event) older f = tt

pub lines_short : AskedIndexesAreShort
lines_short p [] f = tt
lines_short p (line ∷ older) f = (let before = plan_before p line older f in (line_short p line older before, lines_short p older before))

pub next_short : NextIndexIsShort
next_short p log b (answer.Index list) f said = subst (λ (heard : Answer). Lists (objects_of p) heard) (sym (said refl)) (holds_short p log f b.0)
next_short p log b heard f said = tt
