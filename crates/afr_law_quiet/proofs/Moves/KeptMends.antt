-- The Mends of a heal of bytes: a cut leaves no sink longer than the source, and each piece that is copied makes it as long as the piece.
use Rattle.std.proofs.Common.{◌≡◌, ℕ, zero, suc, ◌+◌, ◌-◌, ◌<◌, ◌≤◌, Bool, true, false, ◌&&◌, ◌||◌, ◌⊎◌, inl, inr, refl, sym, ap, ◌∙◌, subst, arith, true≢false, List, [], ◌∷◌, length, min, not, take}
use Rattle.std.proofs.lemmas.Bool.{eqb-true}
use Rattle.std.specs.Prelude.{Option, None, Some, if◌then◌else◌, nat_lt, ◌==◌}
use Rattle.std.specs.Option.{option_map}
use Rattle.afr_base.specs.Bricks.{and_left, and_right}
use Rattle.afr_base.specs.Keeping.{keeps}
use Rattle.afr_base.specs.declared.ids.Gfid.{Gfid}
use Rattle.afr_base.specs.declared.ids.Kind.{Kind}
use Rattle.afr_base.specs.declared.ids.Kind.TheVariants.{Attrs, Bytes, Names}
use Rattle.afr_base.specs.declared.ids.What.{What}
use Rattle.afr_base.specs.declared.ids.What.TheVariants.{Dir, File}
use Rattle.afr_object.specs.Bytes.{copied_in, written}
use Rattle.afr_object.specs.BytesLemmas.{length-copied_in}
use Rattle.afr_lines.specs.declared.fault.Fault.{Fault}
use Rattle.afr_lines.specs.declared.fault.Fault.TheVariants.{Fail, Lost}
use Rattle.afr_object.specs.Tables.{is_file, with_bytes}
use Rattle.afr_object.specs.declared.change.Repair.{Repair}
use Rattle.afr_object.specs.declared.change.Repair.TheVariants.{Copy, CutTo}
use Rattle.afr_object.specs.declared.entry.View.{View}
use Rattle.afr_object.specs.Object.{Object}
use Rattle.afr_lines.specs.Log.{from_oldest}
use Rattle.afr_lines.specs.declared.answer.Told.{Told}
use Rattle.afr_lines.specs.declared.answer.Told.TheVariants.{Done}
use Rattle.afr_lines.specs.declared.line.Line.{Line}
use Rattle.afr_lines.specs.declared.request.Request.{Request}
use Rattle.afr_lines.specs.declared.request.Request.TheVariants.{Mend}
use Rattle.afr_model.specs.Honest.{IsHonest, RequestOutcome, fault_in, is_live, over_session, requests_to, tells}
use Rattle.afr_model.specs.Tables.{bytes_shown, content_in, held_before, holds, keeps_bytes}
use Rattle.afr_model_moves.proofs.Tests.{with_cases}
use Rattle.afr_model_moves.specs.Lines.{ask_by}
use Rattle.afr_model_moves.specs.Note.{fails, is_done}
use Rattle.afr_model_moves.specs.Register.{Exact, Finish, HealPart, Mends, Opening, Piece, asked_in, holder, is_opening, len_of, rank, span}
use Rattle.afr_model_moves.specs.Sets.{with}
use Rattle.afr_model_moves.specs.Steps.{may_heal, mends_at, onward, same_read}
use Rattle.afr_plan.specs.declared.plan.Plan.{Plan}
use Rattle.afr_law_tables.specs.Codes.{kept_by}
use Rattle.afr_law.proofs.Discipline.Inner.{turn_in, turn_low}
use Rattle.afr_law.proofs.Discipline.Transactions.{held_view}
use Rattle.afr_law.proofs.Heals.Conditions.{asked_is, looks_far, mend_pres, mend_test, mend_turn, onward_goes, onward_object, pres_looks, turn_fresh}
use Rattle.afr_law.proofs.Heals.Mends.{mends_is}
use Rattle.afr_law_quiet.proofs.Moves.Bare.{all_bare}
use Rattle.afr_law_quiet.proofs.Moves.Copies.{altered, altered_here, copy_of, cut_length, len_at, written_length}
use Rattle.afr_law_quiet.proofs.Moves.Kept.{IsCut, Kept, KeptIn, Sink, read_later, sink_apart}
use Rattle.afr_law_quiet.proofs.Moves.KeptLines.{less, may_of, source_view, still}

-- what was told Done was carried out
pub done_took : (live : Bool) (fault : Option Fault) (said told : Told) (took : Bool) → (record { told = told; took = took }) ≡ over_session live fault said → told ≡ Done → took ≡ true
done_took false fault said told took e d = absurd (cc (ap (λ (q : RequestOutcome). q.told) e, d))
done_took true (Some Fail) said told took e d = absurd (cc (ap (λ (q : RequestOutcome). q.told) e, d))
done_took true (Some Lost) said told took e d = absurd (cc (ap (λ (q : RequestOutcome). q.told) e, d))
done_took true None said told took e d = ap (λ (q : RequestOutcome). q.took) e

pub done_is : (p : Plan) (a b : ℕ) (older : List Line) (request : Request) (told : Told) (took : Bool) → IsHonest p (ask_by a b request told took) older → told ≡ Done → took ≡ true
done_is p a b older request told took honest = done_took (is_live p (record { 0 = a }) b (ask_by a b request told took) older) (fault_in p.faults b (suc (requests_to b older))) (tells (record { 0 = a }) request b (holds p older b) older) told took honest

is_done_yes : (told : Told) → is_done told ≡ true → told ≡ Done
is_done_yes Done e = refl
is_done_yes _ e = absurd (true≢false (sym e))

pub marks_kept : (keeps : Bool) (f : List ℕ → List ℕ) (o : Object) → (with_bytes keeps f o).marks ≡ o.marks
marks_kept keeps f o = go (keeps && is_file o.what)
  where
    go : (b : Bool) → (if b then record o { content = f o.content } else o).marks ≡ o.marks
    go true = refl
    go false = refl

pub no_file : (w : What) → is_file w ≡ false → w ≡ Dir
no_file Dir e = refl
no_file File e = absurd (true≢false e)

five_tests : (u v w x y : Bool) → (u && not v && w && x && y) ≡ true → (u ≡ true) × (v ≡ false) × (w ≡ true) × (y ≡ true)
five_tests u v w x y f = grind arith

-- a brick that keeps bytes
pub keeps_them : (p : Plan) (x : ℕ) → kept_by p x Bytes ≡ true → keeps_bytes p x ≡ true
keeps_them p x e = go p.shape.arbiter (x == 2) (and_right (nat_lt x 5) (keeps p.shape Bytes x) e)
  where
    go : (arbiter two : Bool) → not (arbiter && true && two) ≡ true → not (arbiter && two) ≡ true
    go true true e = e
    go true false e = refl
    go false two e = refl

-- the bricks that were asked for their Mends, after one more
pub mend_asks : (r : Exact) (told : Told) (b x : ℕ) → fails told ≡ false → (if not (is_done told || fails told) then asked_in r Mends else with (asked_in r Mends) b) x ≡ true → ((x ≡ b) × (told ≡ Done)) ⊎ (asked_in r Mends x ≡ true)
mend_asks r told b x fine e = go (is_done told) refl (fails told) fine e
  where
    go : (done : Bool) → is_done told ≡ done → (failed : Bool) → failed ≡ false → (if not (done || failed) then asked_in r Mends else with (asked_in r Mends) b) x ≡ true → ((x ≡ b) × (told ≡ Done)) ⊎ (asked_in r Mends x ≡ true)
    go true d failed f m = elim (with_cases (asked_in r Mends) b x m) [ inl here ↦ inl (here, is_done_yes told d) | inr was ↦ inr was ]
    go false d true f m = absurd (true≢false f)
    go false d false f m = inr m

module _ (p : Plan) (a b : ℕ) (older : List Line) (r : Exact) (told : Told) (took : Bool) (bytes : r.law.kind ≡ Bytes) (k : KeptIn p older r) (fine : fails told ≡ false) where
  -- the sinks of each copy that may still be the source have this brick
  mended_sink : (repair : Repair) (s : ℕ) → b < p.shape.n → (r.part ≡ Finish → ⊥) → still p a b older r told took bytes k (Mend repair) s ≡ true → Sink p r.first_views s b
  mended_sink repair s low unfinished m = (low, in_set r.law.kind r.part bytes unfinished (turn_in p.shape.n (kept_by p) r s Mends b (mend_turn p.shape.n (kept_by p) r s b repair (may_of p a b older r told took bytes k (Mend repair) s m))))
    where
      in_set : (kind : Kind) (part : HealPart) → kind ≡ Bytes → (part ≡ Finish → ⊥) → mends_at (kept_by p) r s kind part b ≡ true → (holder r.first_views b && not (b == s) && kept_by p b Bytes) ≡ true
      in_set Bytes Opening e f m = m
      in_set Bytes Piece e f m = m
      in_set Bytes Finish e f m = absurd (f refl)
      in_set Attrs part e f m = absurd (cc e)
      in_set Names part e f m = absurd (cc e)

  -- what a repair makes of each copy, by its effect on bytes
  module _ (repair : Repair) (f : List ℕ → List ℕ) (low : b < p.shape.n) (source : ℕ) (may : may_heal p.shape.n (kept_by p) r source b (Mend repair) ≡ true) (possible : r.possible source ≡ true) (unfinished : r.part ≡ Finish → ⊥)
      (change : (x : ℕ) → (copy_of p (ask_by a b (Mend repair) told took ∷ older) r.law.object x ≡ copy_of p older r.law.object x)
      ⊎ ((took ≡ true) × ((b == x) ≡ true) × (copy_of p (ask_by a b (Mend repair) told took ∷ older) r.law.object x ≡ option_map (with_bytes (keeps_bytes p x) f) (copy_of p older r.law.object x)))) where
    under : rank r.step ≤ 10
    under = turn_low p.shape.n (kept_by p) r source Mends b (mend_turn p.shape.n (kept_by p) r source b repair may)

    looked : 7 ≤ rank r.step
    looked = looks_far p.shape.n (kept_by p) r source (pres_looks p.shape.n (kept_by p) r source (mend_pres p.shape.n (kept_by p) r source b repair may))

    numbers : (x : ℕ) (v : View) → r.first_views x ≡ Some v → (o : Object) × (copy_of p (ask_by a b (Mend repair) told took ∷ older) r.law.object x ≡ Some o) × (o.marks.bytes.pending ≡ v.marks.bytes.pending)
    numbers x v e = (
        let w = k.numbers (λ f. under) x v e in
        elim (change x) as (λ _. (o : Object) × (copy_of p (ask_by a b (Mend repair) told took ∷ older) r.law.object x ≡ Some o) × (o.marks.bytes.pending ≡ v.marks.bytes.pending)) [
          | inl same ↦ (w.0, same ∙ w.1, w.2)
          | inr q ↦ (with_bytes (keeps_bytes p x) f w.0, q.2 ∙ ap (option_map (with_bytes (keeps_bytes p x) f)) w.1, (λ i. (marks_kept (keeps_bytes p x) f w.0 i).bytes.pending) ∙ w.2)
        ]
        )

    -- another brick's copy stays
    other : (x : ℕ) → (x ≡ b → ⊥) → len_at p (ask_by a b (Mend repair) told took ∷ older) r.law.object x ≡ len_at p older r.law.object x
    other x apart = elim (change x) [
      | inl same ↦ ap (λ (o : Option Object). length (content_in o)) same
      | inr q ↦ absurd (apart (sym (eqb-true b x q.1)))
    ]

    source_same : (s : ℕ) (v : View) → still p a b older r told took bytes k (Mend repair) s ≡ true → r.first_views s ≡ Some v → len_at p (ask_by a b (Mend repair) told took ∷ older) r.law.object s ≡ v.len
    source_same s v m e = other s (sink_apart p r.first_views s b (mended_sink repair s low unfinished m)) ∙ k.source s v (less p a b older r told took bytes k (Mend repair) s m) e

    -- who was asked before is another brick
    was_other : (x : ℕ) → asked_in r Mends x ≡ true → x ≡ b → ⊥
    was_other x m e = true≢false (sym m ∙ ap (asked_in r Mends) e ∙ turn_fresh p.shape.n (kept_by p) r source Mends b (mend_turn p.shape.n (kept_by p) r source b repair may))

    -- the copy here, and what the effect makes of it
    here_copy : (o : Object) × (copy_of p older r.law.object b ≡ Some o)
    here_copy = (let v = held_view r.first_views b (and_left (holder r.first_views b) (not (b == source)) (and_left (holder r.first_views b && not (b == source)) (kept_by p b Bytes) (mended_sink repair source low unfinished (both possible may)).1)) in
        let w = k.numbers (λ f. under) b v.0 v.1 in (w.0, w.1))
      where
        both : {x y : Bool} → x ≡ true → y ≡ true → (x && y) ≡ true
        both e f = rw (e, f) refl

  -- ---- a cut, in the opening
  pub cut_to : (g : Gfid) (len source : ℕ) → b < p.shape.n → may_heal p.shape.n (kept_by p) r source b (Mend (CutTo g len)) ≡ true → r.possible source ≡ true → IsHonest p (ask_by a b (Mend (CutTo g len)) told took) older
      → Kept p (ask_by a b (Mend (CutTo g len)) told took ∷ older) r.law.object Mends r.part (if not (is_done told || fails told) then asked_in r Mends else with (asked_in r Mends) b) (still p a b older r told took bytes k (Mend (CutTo g len))) r.first_views r.reads r.upto
  cut_to g len source low may possible honest = record {
    numbers = λ f. numbers repair f_cut low source may possible unfinished change;
    source = λ s v m e. source_same repair f_cut low source may possible unfinished change s v m e;
    cut = cut_now;
    filled = λ later. absurd (later first);
    filling = λ piece. absurd (cc (first, piece));
    late = λ e. absurd (omega (arith, e));
    zero = k.zero;
    ended = λ e. absurd (cc (first, e));
    read = λ piece. absurd (cc (first, piece));
    fit = λ c. elim c [ inl later ↦ absurd (later first) | inr far ↦ absurd (omega (arith, far)) ];
  }
    where
      repair : Repair
      repair = CutTo g len

      f_cut : List ℕ → List ℕ
      f_cut = take len

      object : g.0 ≡ r.law.object
      object = eqb-true g.0 r.law.object (onward_object p.shape.n (kept_by p) r source g.0 Bytes (and_left _ _ (and_left _ _ (mend_test p.shape.n (kept_by p) r source b (CutTo g len) may))))

      opening_is : (part : HealPart) → is_opening part ≡ true → part ≡ Opening
      opening_is Opening e = refl
      opening_is Piece e = absurd (true≢false (sym e))
      opening_is Finish e = absurd (true≢false (sym e))

      length_test : (s : ℕ) → may_heal p.shape.n (kept_by p) r s b (Mend (CutTo g len)) ≡ true → (is_opening r.part ≡ true) × (len ≡ len_of (r.first_views s))
      length_test s e = (
          let test : (onward p.shape.n (kept_by p) r s g.0 Bytes && is_opening r.part && (len == len_of (r.first_views s))) ≡ true = mend_test p.shape.n (kept_by p) r s b (CutTo g len) e in (
            and_right (onward p.shape.n (kept_by p) r s g.0 Bytes) (is_opening r.part) (and_left (onward p.shape.n (kept_by p) r s g.0 Bytes && is_opening r.part) (len == len_of (r.first_views s)) test),
            eqb-true len (len_of (r.first_views s)) (and_right (onward p.shape.n (kept_by p) r s g.0 Bytes && is_opening r.part) (len == len_of (r.first_views s)) test),
          )
          )

      first : r.part ≡ Opening
      first = opening_is r.part (length_test source may).0

      unfinished : r.part ≡ Finish → ⊥
      unfinished e = cc (first, e)

      change : (x : ℕ) → (copy_of p (ask_by a b (Mend (CutTo g len)) told took ∷ older) r.law.object x ≡ copy_of p older r.law.object x)
          ⊎ ((took ≡ true) × ((b == x) ≡ true) × (copy_of p (ask_by a b (Mend (CutTo g len)) told took ∷ older) r.law.object x ≡ option_map (with_bytes (keeps_bytes p x) f_cut) (copy_of p older r.law.object x)))
      change x = altered (with_bytes (keeps_bytes p x) f_cut) took (b == x) g (record { 0 = r.law.object }) (holds p older x)

      -- a cut that was told Done cuts
      done_here : told ≡ Done → (s : ℕ) → still p a b older r told took bytes k (Mend (CutTo g len)) s ≡ true → len_at p (ask_by a b (Mend (CutTo g len)) told took ∷ older) r.law.object b ≡ length (with_bytes true (take len) (here_copy repair f_cut low source may possible unfinished change).0).content
      done_here d s m = (
          let o = here_copy repair f_cut low source may possible unfinished change in
          let t : took ≡ true = done_is p a b older (Mend (CutTo g len)) told took honest d in
          let keep : keeps_bytes p b ≡ true = keeps_them p b (and_right (holder r.first_views b && not (b == s)) (kept_by p b Bytes) (mended_sink repair s low unfinished m).1) in
          ap (λ (c : Option Object). length (content_in c)) (did t ∙ ap (option_map (with_bytes (keeps_bytes p b) f_cut)) o.1) ∙ (λ i. length (with_bytes (keep i) (take len) o.0).content)
          )
        where
          did : took ≡ true → copy_of p (ask_by a b (Mend (CutTo g len)) told took ∷ older) r.law.object b ≡ option_map (with_bytes (keeps_bytes p b) f_cut) (copy_of p older r.law.object b)
          did t = altered_here (with_bytes (keeps_bytes p b) f_cut) took b g (record { 0 = r.law.object }) (holds p older b) t (ap (λ (h : ℕ). record { 0 = h }) object)

      cut_now : (s x : ℕ) → still p a b older r told took bytes k (Mend (CutTo g len)) s ≡ true → Sink p r.first_views s x
          → IsCut Mends r.part (if not (is_done told || fails told) then asked_in r Mends else with (asked_in r Mends) b) x → len_at p (ask_by a b (Mend (CutTo g len)) told took ∷ older) r.law.object x ≤ len_of (r.first_views s)
      cut_now s x m sink (inl later) = absurd (later first)
      cut_now s x m sink (inr (inl far)) = absurd (omega (arith, far))
      cut_now s x m sink (inr (inr w)) = elim (mend_asks r told b x fine w.1) [
        | inl new ↦ (
            let o = here_copy repair f_cut low source may possible unfinished change in
            let shorter : length (with_bytes true (take len) o.0).content ≤ len = cut_length len o.0 (all_bare p older b (record { 0 = r.law.object }) o.0 o.1) in
            subst (λ (y : ℕ). len_at p (ask_by a b (Mend (CutTo g len)) told took ∷ older) r.law.object y ≤ len_of (r.first_views s)) (sym new.0)
            (omega (arith, shorter, done_here new.1 s m, (length_test s (may_of p a b older r told took bytes k (Mend (CutTo g len)) s m)).1))
            )
        | inr was ↦ (
            let at = asked_is r Mends x was in
            subst (λ (l : ℕ). l ≤ len_of (r.first_views s)) (sym (other repair f_cut low source may possible unfinished change x (was_other repair f_cut low source may possible unfinished change x was)))
            (k.cut s x (less p a b older r told took bytes k (Mend (CutTo g len)) s m) sink (inr (inr (mends_is r.step at.0, at.1))))
            )
      ]

  -- ---- a copy of a piece
  pub copy_piece : (g : Gfid) (at some read source : ℕ) → b < p.shape.n → may_heal p.shape.n (kept_by p) r source b (Mend (Copy g at some read)) ≡ true → r.possible source ≡ true → IsHonest p (ask_by a b (Mend (Copy g at some read)) told took) older
      → ((x y : ℕ) (o q : Object) → copy_of p older r.law.object x ≡ Some o → copy_of p older r.law.object y ≡ Some q → o.what ≡ q.what)
      → Kept p (ask_by a b (Mend (Copy g at some read)) told took ∷ older) r.law.object Mends r.part (if not (is_done told || fails told) then asked_in r Mends else with (asked_in r Mends) b) (still p a b older r told took bytes k (Mend (Copy g at some read))) r.first_views r.reads r.upto
  copy_piece g at some read source low may possible honest one_kind = record {
    numbers = λ f. numbers repair f_copy low source may possible unfinished change;
    source = λ s v m e. source_same repair f_copy low source may possible unfinished change s v m e;
    cut = λ s x m sink c. (let w = grown s x m sink in w.1 (k.cut s x (old s m) sink (inl not_first)));
    filled = λ later s x m sink. (let w = (grown s x m sink).0 in let f = k.filled not_first s x (old s m) sink in omega (arith, w, f));
    filling = λ piece e s x m sink was. filling_now s x m sink was;
    late = λ e. absurd (omega (arith, e));
    zero = λ e. absurd (cc (piece, e));
    ended = λ e. absurd (cc (piece, e));
    read = λ f near far s q m e. read_later p (ask_by a b (Mend (Copy g at some read)) told took) older q r.upto (len_of (r.first_views s)) (k.read piece (under repair f_copy low source may possible unfinished change) (looked repair f_copy low source may possible unfinished change) s q (old s m) e);
    fit = λ c s m. k.fit (inl not_first) s (old s m);
  }
    where
      repair : Repair
      repair = Copy g at some read

      shown : List ℕ
      shown = bytes_shown (held_before p older) read (from_oldest read older)

      f_copy : List ℕ → List ℕ
      f_copy = copied_in at some shown

      old : (s : ℕ) → still p a b older r told took bytes k (Mend (Copy g at some read)) s ≡ true → r.possible s ≡ true
      old s m = less p a b older r told took bytes k (Mend (Copy g at some read)) s m

      tests : (s : ℕ) → may_heal p.shape.n (kept_by p) r s b (Mend (Copy g at some read)) ≡ true
          → (onward p.shape.n (kept_by p) r s g.0 Bytes ≡ true) × (is_opening r.part ≡ false) × (at ≡ r.upto) × (r.reads s ≡ Some read)
      tests s e = go (onward p.shape.n (kept_by p) r s g.0 Bytes) (is_opening r.part) refl (mend_test p.shape.n (kept_by p) r s b (Copy g at some read) e)
        where
          read_is : (q : Option ℕ) → same_read q (Some read) ≡ true → q ≡ Some read
          read_is None f = absurd (true≢false (sym f))
          read_is (Some j) f = ap (λ (n : ℕ). Some n) (eqb-true j read f)

          go : (u v : Bool) → is_opening r.part ≡ v → (u && not v && (at == r.upto) && (some == span) && same_read (r.reads s) (Some read)) ≡ true → (u ≡ true) × (v ≡ false) × (at ≡ r.upto) × (r.reads s ≡ Some read)
          go u v h f = (let w = five_tests u v (at == r.upto) (some == span) (same_read (r.reads s) (Some read)) f in (w.0, w.1, eqb-true at r.upto w.2, read_is (r.reads s) w.3))

      object : g.0 ≡ r.law.object
      object = eqb-true g.0 r.law.object (onward_object p.shape.n (kept_by p) r source g.0 Bytes (tests source may).0)

      in_piece : (kind : Kind) (part : HealPart) → kind ≡ Bytes → is_opening part ≡ false → mends_at (kept_by p) r source kind part b ≡ true → part ≡ Piece
      in_piece Bytes Piece e f m = refl
      in_piece Bytes Opening e f m = absurd (true≢false f)
      in_piece Bytes Finish e f m = absurd (true≢false (sym m))
      in_piece Attrs part e f m = absurd (cc e)
      in_piece Names part e f m = absurd (cc e)

      piece : r.part ≡ Piece
      piece = in_piece r.law.kind r.part bytes (tests source may).1 (turn_in p.shape.n (kept_by p) r source Mends b (mend_turn p.shape.n (kept_by p) r source b (Copy g at some read) may))

      not_first : r.part ≡ Opening → ⊥
      not_first e = cc (piece, e)

      unfinished : r.part ≡ Finish → ⊥
      unfinished e = cc (piece, e)

      change : (x : ℕ) → (copy_of p (ask_by a b (Mend (Copy g at some read)) told took ∷ older) r.law.object x ≡ copy_of p older r.law.object x)
          ⊎ ((took ≡ true) × ((b == x) ≡ true) × (copy_of p (ask_by a b (Mend (Copy g at some read)) told took ∷ older) r.law.object x ≡ option_map (with_bytes (keeps_bytes p x) f_copy) (copy_of p older r.law.object x)))
      change x = altered (with_bytes (keeps_bytes p x) f_copy) took (b == x) g (record { 0 = r.law.object }) (holds p older x)

      -- what was read is what the source has of the piece
      shown_length : (s : ℕ) → still p a b older r told took bytes k (Mend (Copy g at some read)) s ≡ true → length shown ≡ min 131072 (len_of (r.first_views s) - r.upto)
      shown_length s m = (k.read piece (under repair f_copy low source may possible unfinished change) (looked repair f_copy low source may possible unfinished change) s read (old s m) (tests s (may_of p a b older r told took bytes k (Mend (Copy g at some read)) s m)).3).1

      -- a copy of bytes makes it longer, up to the end of the piece, and no longer than the source
      written_at : (content : List ℕ) (s : ℕ) → still p a b older r told took bytes k (Mend (Copy g at some read)) s ≡ true → (length content ≤ length (f_copy content)) × (length content ≤ len_of (r.first_views s) → length (f_copy content) ≤ len_of (r.first_views s))
          × (min r.upto (len_of (r.first_views s)) ≤ length content → min (r.upto + 131072) (len_of (r.first_views s)) ≤ length (f_copy content))
      written_at content s m = go (length shown) refl
        where
          same : length (f_copy content) ≡ length (written at shown content)
          same = length-copied_in at some shown content

          at_is : at ≡ r.upto
          at_is = (tests source may).2

          n_is : length shown ≡ min 131072 (len_of (r.first_views s) - r.upto)
          n_is = shown_length s m

          go : (n : ℕ) → length shown ≡ n → (length content ≤ length (f_copy content)) × (length content ≤ len_of (r.first_views s) → length (f_copy content) ≤ len_of (r.first_views s))
              × (min r.upto (len_of (r.first_views s)) ≤ length content → min (r.upto + 131072) (len_of (r.first_views s)) ≤ length (f_copy content))
          go zero e = (
              let w : length (written at shown content) ≡ length content = (written_length at shown content).0 e in
              (omega (arith, same, w), λ h. omega (arith, same, w, h), λ h. omega (arith, same, w, h, n_is, e))
              )
          go (suc n) e = (
              let w = (written_length at shown content).1 (omega (arith, e)) in
              let reach : at + length shown ≤ length (written at shown content) = w.0 in
              let grows : length content ≤ length (written at shown content) = w.1 in (
                omega (arith, same, grows),
                λ h. elim w.2 [ inl kept ↦ omega (arith, same, kept, h) | inr new ↦ omega (arith, same, new, h, n_is, at_is, e) ],
                λ h. omega (arith, same, reach, n_is, at_is, e),
              )
              )

      -- a source that is a directory has no bytes
      nothing_there : (s : ℕ) → still p a b older r told took bytes k (Mend (Copy g at some read)) s ≡ true → (o : Object) → copy_of p older r.law.object b ≡ Some o → o.what ≡ Dir → len_of (r.first_views s) ≡ 0
      nothing_there s m o e dir = (
          let v = source_view p a b older r told took bytes k s (onward_goes p.shape.n (kept_by p) r s g.0 Bytes (tests s (may_of p a b older r told took bytes k (Mend (Copy g at some read)) s m)).0) in
          let w = k.numbers (λ f. under repair f_copy low source may possible unfinished change) s v.0 v.1 in
          let bare : w.0.content ≡ [] = all_bare p older s (record { 0 = r.law.object }) w.0 w.1 (one_kind s b w.0 o w.1 e ∙ dir) in
          ap len_of v.1 ∙ sym (k.source s v.0 (old s m) v.1) ∙ ap (λ (c : Option Object). length (content_in c)) w.1 ∙ ap length bare
          )

      -- the repaired copy
      repaired_at : (s : ℕ) → still p a b older r told took bytes k (Mend (Copy g at some read)) s ≡ true → (o : Object) → copy_of p older r.law.object b ≡ Some o → keeps_bytes p b ≡ true
          → (length o.content ≤ length (with_bytes (keeps_bytes p b) f_copy o).content) × (length o.content ≤ len_of (r.first_views s) → length (with_bytes (keeps_bytes p b) f_copy o).content ≤ len_of (r.first_views s))
          × (min r.upto (len_of (r.first_views s)) ≤ length o.content → min (r.upto + 131072) (len_of (r.first_views s)) ≤ length (with_bytes (keeps_bytes p b) f_copy o).content)
      repaired_at s m o e keep = go (keeps_bytes p b) keep (is_file o.what) refl
        where
          go : (keep : Bool) → keep ≡ true → (file : Bool) → is_file o.what ≡ file → (length o.content ≤ length (if keep && file then record o { content = f_copy o.content } else o).content)
              × (length o.content ≤ len_of (r.first_views s) → length (if keep && file then record o { content = f_copy o.content } else o).content ≤ len_of (r.first_views s))
              × (min r.upto (len_of (r.first_views s)) ≤ length o.content → min (r.upto + 131072) (len_of (r.first_views s)) ≤ length (if keep && file then record o { content = f_copy o.content } else o).content)
          go false f file h = absurd (true≢false (sym f))
          go true f true h = written_at o.content s m
          go true f false h = (let zero_len = nothing_there s m o e (no_file o.what h) in (omega arith, λ l. l, λ l. omega (arith, zero_len)))

      sink_keeps : (s : ℕ) → still p a b older r told took bytes k (Mend (Copy g at some read)) s ≡ true → keeps_bytes p b ≡ true
      sink_keeps s m = keeps_them p b (and_right (holder r.first_views b && not (b == s)) (kept_by p b Bytes) (mended_sink (Copy g at some read) s low unfinished m).1)

      -- each copy grows, but not past the source
      grown : (s x : ℕ) → still p a b older r told took bytes k (Mend (Copy g at some read)) s ≡ true → Sink p r.first_views s x
          → (len_at p older r.law.object x ≤ len_at p (ask_by a b (Mend (Copy g at some read)) told took ∷ older) r.law.object x)
          × (len_at p older r.law.object x ≤ len_of (r.first_views s) → len_at p (ask_by a b (Mend (Copy g at some read)) told took ∷ older) r.law.object x ≤ len_of (r.first_views s))
      grown s x m sink = elim (change x) [
        | inl same ↦ (let e : len_at p (ask_by a b (Mend (Copy g at some read)) told took ∷ older) r.law.object x ≡ len_at p older r.law.object x = ap (λ (c : Option Object). length (content_in c)) same in (omega (arith, e), λ l. omega (arith, e, l)))
        | inr w ↦ (
            let o = here_copy repair f_copy low source may possible unfinished change in
            let z = repaired_at s m o.0 o.1 (sink_keeps s m) in
            let x_is : b ≡ x = eqb-true b x w.1 in
            let was : len_at p older r.law.object x ≡ length o.0.content = (λ i. len_at p older r.law.object (sym x_is i)) ∙ ap (λ (c : Option Object). length (content_in c)) o.1 in
            let now : len_at p (ask_by a b (Mend (Copy g at some read)) told took ∷ older) r.law.object x ≡ length (with_bytes (keeps_bytes p b) f_copy o.0).content = ap (λ (c : Option Object). length (content_in c)) w.2
            ∙ (λ i. length (content_in (option_map (with_bytes (keeps_bytes p (sym x_is i)) f_copy) (copy_of p older r.law.object (sym x_is i))))) ∙ ap (λ (c : Option Object). length (content_in (option_map (with_bytes (keeps_bytes p b) f_copy) c))) o.1 in
            let up = z.0 in
            (omega (arith, was, now, up), λ l. (let top = z.1 (omega (arith, was, l)) in omega (arith, now, top)))
            )
      ]

      did : took ≡ true → copy_of p (ask_by a b (Mend (Copy g at some read)) told took ∷ older) r.law.object b ≡ option_map (with_bytes (keeps_bytes p b) f_copy) (copy_of p older r.law.object b)
      did t = altered_here (with_bytes (keeps_bytes p b) f_copy) took b g (record { 0 = r.law.object }) (holds p older b) t (ap (λ (h : ℕ). record { 0 = h }) object)

      filling_now : (s x : ℕ) → still p a b older r told took bytes k (Mend (Copy g at some read)) s ≡ true → Sink p r.first_views s x → (if not (is_done told || fails told) then asked_in r Mends else with (asked_in r Mends) b) x ≡ true
          → min (r.upto + 131072) (len_of (r.first_views s)) ≤ len_at p (ask_by a b (Mend (Copy g at some read)) told took ∷ older) r.law.object x
      filling_now s x m sink was = elim (mend_asks r told b x fine was) [
        | inl new ↦ (
            let o = here_copy repair f_copy low source may possible unfinished change in
            let z = repaired_at s m o.0 o.1 (sink_keeps s m) in
            let now : len_at p (ask_by a b (Mend (Copy g at some read)) told took ∷ older) r.law.object b ≡ length (with_bytes (keeps_bytes p b) f_copy o.0).content = ap (λ (c : Option Object). length (content_in c)) (did (done_is p a b older (Mend (Copy g at some read)) told took honest new.1) ∙ ap (option_map (with_bytes (keeps_bytes p b) f_copy)) o.1) in
            let before : min r.upto (len_of (r.first_views s)) ≤ length o.0.content = subst (λ (l : ℕ). min r.upto (len_of (r.first_views s)) ≤ l) (ap (λ (c : Option Object). length (content_in c)) o.1) (k.filled not_first s b (old s m) (mended_sink (Copy g at some read) s low unfinished m)) in
            let reach = z.2 before in
            subst (λ (y : ℕ). min (r.upto + 131072) (len_of (r.first_views s)) ≤ len_at p (ask_by a b (Mend (Copy g at some read)) told took ∷ older) r.law.object y) (sym new.0) (omega (arith, now, reach))
            )
        | inr early ↦ (
            let at_step = asked_is r Mends x early in
            subst (λ (l : ℕ). min (r.upto + 131072) (len_of (r.first_views s)) ≤ l) (sym (other repair f_copy low source may possible unfinished change x (was_other repair f_copy low source may possible unfinished change x early)))
            (k.filling piece (mends_is r.step at_step.0) s x (old s m) sink at_step.1)
            )
      ]
