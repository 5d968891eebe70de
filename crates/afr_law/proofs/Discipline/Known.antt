-- What a line of the discipline in full makes and names is known in the words of the model.
use Rattle.afr_base.specs.declared.ids.Gfid.{Gfid}
use Rattle.afr_base.specs.declared.ids.Kind.{Kind}
use Rattle.afr_base.specs.declared.ids.What.{What}
use Rattle.afr_base.specs.declared.ids.What.TheVariants.{Dir, File}
use Rattle.afr_law_tables.proofs.Opening.{opening_none}
use Rattle.afr_law.specs.Beginning.{start_of}
use Rattle.afr_law.proofs.Model.SoundLog.{LawfulBelow}
use Rattle.afr_law.proofs.Model.Tables.{all_same}
use Rattle.afr_law_tables.proofs.Values.{code_of}
use Rattle.afr_model_moves.specs.Cells.{Entry, entry_code, what_code}
use Rattle.afr_law_tables.specs.Codes.{kept_by, kind_code, value_code}
use Rattle.afr_model_moves.specs.Discipline.{HasRead, MayAskExactly, MayExactly, MovesExactly, present}
use Rattle.afr_model_moves.specs.Discipline as exact
use Rattle.afr_model_moves.specs.Heal.{Gives, Goes, MayHeal}
use Rattle.afr_model_moves.specs.ByList.{IsExactLine}
use Rattle.afr_model_moves.specs.Register.{Exact, Mends, rank}
use Rattle.afr_model_moves.specs.Steps.{same_reads}
use Rattle.afr_model_moves.specs.Transaction.{EndsLow}
use Rattle.afr_law.proofs.Heals.Asked.{read_for, wanted_now}
use Rattle.afr_law.proofs.Heals.Mended.{IsWide, mend_fits, read_is}
use Rattle.afr_law.proofs.Heals.Reads.{readings_now}
use Rattle.afr_law.proofs.Heals.Conditions.{mend_test, mend_turn}
use Rattle.afr_law.proofs.Discipline.Implies.{wide_line}
use Rattle.afr_law.proofs.Discipline.Inner.{turn_low}
use Rattle.afr_model_moves.specs.Rules.{EachRead}
use Rattle.afr_model_moves.specs.Lines.{ask_by}
use Rattle.afr_law_tables.specs.Ends.{EndsInTime}
use Rattle.afr_law.specs.ModelLaw.{IsKnown, IsReadAt, MakesKnown, NamesReads, WasShown}
use Rattle.afr_law_tables.proofs.Entries.{entry_same, entry_some}
use Rattle.afr_model_moves.specs.Past.{Log}
use Rattle.afr_model_moves.specs.Positions.{by_position}
use Rattle.afr_model_moves.proofs.ByPosition.{past_whole}
use Rattle.afr_law.proofs.Discipline.Stages.{mend_far}
use Rattle.afr_lines.specs.Log.{from_oldest}
use Rattle.afr_lines.specs.declared.answer.Told.TheVariants.{Given}
use Rattle.afr_lines.specs.declared.line.Line.{Line}
use Rattle.afr_lines.specs.declared.line.Line.TheVariants.{Ask, Begin, End, Event, HealBegin, HealEnd}
use Rattle.afr_lines.specs.declared.request.Request.{Request}
use Rattle.afr_lines.specs.declared.request.Request.TheVariants.{List, Mend, ReadAttrs, ReadBytes}
use Rattle.afr_model.specs.Cells.{IsEntry}
use Rattle.afr_model.specs.Tables.{entry_in, held_before}
use Rattle.afr_object.specs.Tables.{copy_at, opening}
use Rattle.afr_object.specs.declared.change.Change.{Change}
use Rattle.afr_object.specs.declared.change.Change.TheVariants.{Cut, Make, Remove, SetAttr, Write}
use Rattle.afr_object.specs.declared.change.Repair.{Repair}
use Rattle.afr_object.specs.declared.change.Repair.TheVariants.{Copy, CutTo, PutAttrs, PutNames}
use Rattle.afr_object.specs.declared.entry.Entry.{Entry as NameEntry}
use Rattle.afr_object.specs.Object.{Object}
use Rattle.afr_plan.specs.declared.plan.Plan.{Plan}
use Rattle.std.proofs.Common.{Bool, [], ap, arith, inl, inr, length, refl, subst, suc, sym, true, ℕ, ◌+◌, ◌<◌, ◌∙◌, ◌∷◌, ◌≡◌, ◌≤◌}
use Rattle.std.specs.Prelude.{None, Option, Some, List as Seq}
use Rattle.afr_base.specs.Bricks.{and_left, and_right}
use Rattle.afr_model_moves.proofs.Tests.{what_same}

-- ---- what is made
-- a write that ends where the discipline says ends in time
ends_soon : (change : Change) → EndsLow change → EndsInTime change
ends_soon (Write g at bytes) low = omega (arith, low)
ends_soon (Cut g len) low = tt
ends_soon (SetAttr g key v) low = tt
ends_soon (Make dir name g what) low = tt
ends_soon (Remove dir name what) low = tt

-- a gfid that a position gives is no opening file's
none_of : (o : Option Object) → kind_code o ≡ 0 → o ≡ None
none_of None e = refl
none_of (Some o) e = absurd (some o.what e)
  where
    some : (what : What) → what_code what ≡ 0 → ⊥
    some File e = omega (arith, e)
    some Dir e = omega (arith, e)

new_here : (files m : ℕ) (g : Gfid) → m ≤ 4000000 → g.0 ≡ m + 2 → copy_at g (opening files) ≡ None
new_here files m g short e = none_of (copy_at g (opening files)) (opening_none files g.0 (λ k. omega (arith, e, k)) (omega (arith, e, short)))

-- the entry that has this code
pub entry_of : (x : Option NameEntry) (g : Gfid) (what : What) → value_code (IsEntry x) ≡ entry_code g.0 what → x ≡ Some (record { gfid = g; what = what })
entry_of None g what e = absurd (entry_some g.0 what (sym e))
entry_of (Some y) g what e = (let w = entry_same y.gfid.0 g.0 y.what what e in λ i. Some (record { gfid = record { 0 = w.0 i }; what = what_same y.what what w.1 i }))

entry_there : (dir name : ℕ) (o : Option Object) (g : Gfid) (what : What) → code_of (Entry dir name) o ≡ entry_code g.0 what → entry_in (record { 0 = name }) o ≡ Some (record { gfid = g; what = what })
entry_there dir name None g what e = absurd (entry_some g.0 what (sym e))
entry_there dir name (Some o) g what e = entry_of (entry_in (record { 0 = name }) (Some o)) g what e

module _ (p : Plan) (n : ℕ) (older : Seq Line) (lawful : LawfulBelow p n older) (short : length older ≤ 4000000) where
  -- an entry that the work read was there
  was_shown : (a : ℕ) (g : Gfid) (what : What) → HasRead (start_of p n) (by_position older) (length older) a g.0 what → WasShown p older g what
  was_shown a g what w = record {
    read = w.r;
    brick = w.b;
    dir = record { 0 = w.dir };
    name = record { 0 = w.name };
    past = w.past;
    entry = entry_there w.dir w.name (copy_at (record { 0 = w.dir }) (held_before p older w.r w.b)) g what
        (sym (((all_same p n (by_position older) older (past_whole older) lawful).1 w.r w.past).codes w.b (Entry w.dir w.name) refl (λ k. absurd (cc k))) ∙ w.gave);
  }

  known_make : (a : ℕ) (change : Change) → exact.MakesKnown (start_of p n) (by_position older) (length older) a change → MakesKnown p change older
  known_make a (Make dir name g what) (inl e) = inl (e, new_here p.files (length older) g short e)
  known_make a (Make dir name g what) (inr w) = inr (was_shown a g what w)
  known_make a (Write g at bytes) k = tt
  known_make a (Cut g len) k = tt
  known_make a (SetAttr g key v) k = tt
  known_make a (Remove dir name what) k = tt

-- ---- what a repair names
module _ (n : ℕ) (keeps : ℕ → Kind → Bool) (log : Log) (moves : MovesExactly n keeps log) (t a : ℕ) (older : Seq Line) (past : (q : ℕ) → q < t → log q ≡ from_oldest q older) where
  -- the register at the line
  abbrev pub now : Exact
  now = present n keeps log t a

  module _ (b : ℕ) (repair : Repair) (wide : IsWide repair) (m : MayHeal n keeps now b (Mend repair)) where
    far : 7 ≤ rank now.step
    far = mend_far n keeps now m.source repair (mend_test n keeps now m.source b repair m.allowed)

    low : rank now.step ≤ 11
    low = (let ten : rank now.step ≤ 10 = turn_low n keeps now m.source Mends b (mend_turn n keeps now m.source b repair m.allowed) in omega (arith, ten))

    read_named : (x p : ℕ) (asked : Request) → now.reads x ≡ Some p → read_for now.law.object now.law.kind now.upto ≡ asked → IsReadAt older asked p
    read_named x p asked e same = (
        let w = wanted_now n keeps log moves t a m.inside m.whole far low x p e in
        let before : p < t = (readings_now n keeps log moves t a m.inside m.whole far x p e).1.past in
        record {
          actor = record { 0 = a };
          brick = record { 0 = x };
          took = w.took;
          line = sym (past p before) ∙ w.is ∙ ap (λ q. Some (ask_by a x q Given w.took)) same;
        }
        )

    each_named : (g : Gfid) → read_for now.law.object now.law.kind now.upto ≡ List g → (k : ℕ) (from : Seq (Option ℕ)) → same_reads now.reads k from ≡ true → EachRead (IsReadAt older (List g)) from
    each_named g same k [] e = tt
    each_named g same k (None ∷ from) e = each_named g same (suc k) from (and_right _ _ e)
    each_named g same k (Some p ∷ from) e = (read_named k p (List g) (read_is (now.reads k) (Some p) (and_left _ _ e)) same, each_named g same (suc k) from (and_right _ _ e))

  pub names_reads : (b : ℕ) (repair : Repair) → IsWide repair → MayHeal n keeps now b (Mend repair) → NamesReads repair older
  names_reads b (CutTo g len) wide m = tt
  names_reads b (Copy g at some read) wide m = (
      let f = mend_fits n keeps now m.source (Copy g at some read) (mend_test n keeps now m.source b (Copy g at some read) m.allowed) wide in
      read_named b (Copy g at some read) wide m m.source read (ReadBytes g at some) f.5 (ap (λ c. read_for now.law.object c now.upto) f.1 ∙ (λ i. ReadBytes (record { 0 = sym f.0 i }) (sym f.3 i) (sym f.4 i)))
      )
  names_reads b (PutAttrs g read) wide m = (
      let f = mend_fits n keeps now m.source (PutAttrs g read) (mend_test n keeps now m.source b (PutAttrs g read) m.allowed) wide in
      read_named b (PutAttrs g read) wide m m.source read (ReadAttrs g) f.2 (ap (λ c. read_for now.law.object c now.upto) f.1 ∙ (λ i. ReadAttrs (record { 0 = sym f.0 i })))
      )
  names_reads b (PutNames g from) wide m = (
      let f = mend_fits n keeps now m.source (PutNames g from) (mend_test n keeps now m.source b (PutNames g from) m.allowed) wide in
      each_named b (PutNames g from) wide m g (ap (λ c. read_for now.law.object c now.upto) f.1 ∙ (λ i. List (record { 0 = sym f.0 i }))) 0 from f.2
      )

-- ---- a line
pub line_known : (p : Plan) (n : ℕ) (older : Seq Line) (lawful : LawfulBelow p n older) (short : length older ≤ 4000000) (log : Log) → MovesExactly p.shape.n (kept_by p) log → ((q : ℕ) → q < length older → log q ≡ from_oldest q older)
    → (line : Line) → log (length older) ≡ Some line → IsExactLine p.shape.n (start_of p n) line older → IsKnown p line older
line_known p n older lawful short log moves past (Begin a change) is here = (ends_soon change here.1.low, known_make p n older lawful short a.0 change here.2)
line_known p n older lawful short log moves past (Ask a b (Mend repair) told took) is here = named (subst (MayExactly p.shape.n (kept_by p) (present p.shape.n (kept_by p) log (length older))) is (moves (length older))).1
  where
    named : MayAskExactly p.shape.n (kept_by p) (present p.shape.n (kept_by p) log (length older) a.0) b.0 (Mend repair) → NamesReads repair older
    named (inl k) = absurd k.1
    named (inr (Goes m)) = names_reads p.shape.n (kept_by p) log moves (length older) a.0 older past b.0 repair (wide_line repair (here.0).2) m
    named (inr (Gives inside broken k)) = absurd k
line_known p n older lawful short log moves past (Ask a b request told took) is here = tt
line_known p n older lawful short log moves past (HealBegin a g kind) is here = tt
line_known p n older lawful short log moves past (End a reply) is here = tt
line_known p n older lawful short log moves past (HealEnd a g kind reply) is here = tt
line_known p n older lawful short log moves past (Event e) is here = tt
