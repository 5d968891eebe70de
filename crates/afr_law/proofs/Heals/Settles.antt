-- The Settle of a heal is a move of the weak discipline.
use Rattle.afr_base.specs.declared.ids.Kind.{Kind}
use Rattle.afr_base.specs.declared.ids.Kind.TheVariants.{Attrs, Bytes, Names}
use Rattle.afr_base.specs.declared.marks.Marks.{Marks}
use Rattle.afr_model_moves.specs.Discipline.{MovesExactly, present}
use Rattle.afr_model_moves.specs.Heal.{MayHeal}
use Rattle.afr_model_moves.specs.Register.{Exact, Finish, HealPart, Opening, Piece, Settles, all, asked_in, holder, len_of, rank, whole_area}
use Rattle.afr_model_moves.specs.Steps.{changed, may_heal, onward, raised, settles_at, takes, turn}
use Rattle.afr_law.proofs.Discipline.Firsts.{firsts_now}
use Rattle.afr_law.proofs.Heals.Answers.{Honestly}
use Rattle.afr_law.proofs.Heals.Areas.{AreasIn, areas_now, part_area}
use Rattle.afr_law.proofs.Heals.Holds.{holds_now, is_last, settles_last}
use Rattle.afr_law.proofs.Heals.Mends.{bool_or}
use Rattle.afr_law.proofs.Heals.MendsNow.{mended_asked, mended_now, numbers_now}
use Rattle.afr_law.proofs.Heals.Raises.{RaisesIn, late_raises, raise_set, raises_now}
use Rattle.afr_law.proofs.Heals.Sights.{sights_now}
use Rattle.afr_law.proofs.Heals.Conditions.{asked_now, mends_pres, onward_kind, onward_object, settle_mends, settle_onward, settle_takes, settle_turn, settles_is, turn_fresh}
use Rattle.afr_law.proofs.Heals.Works.{changed_set, pending_past, source_or, takes_one}
use Rattle.afr_model_moves.specs.Honest.{view_marks}
use Rattle.afr_law.proofs.Discipline.Inner.{turn_in, turn_low}
use Rattle.afr_model_moves.specs.Lines.{ask_by, settle_on}
use Rattle.afr_model_moves.specs.Past.{Log}
use Rattle.afr_law.proofs.Discipline.Projection.{tally_at}
use Rattle.afr_model_moves.specs.Sets.{empty}
use Rattle.afr_law.proofs.Discipline.Stages.{onward_far}
use Rattle.afr_law.proofs.Discipline.StagesAlong.{stage_now}
use Rattle.afr_model_moves.specs.Tally.{Tally}
use Rattle.afr_lines.specs.declared.answer.Told.{Told}
use Rattle.afr_lines.specs.declared.answer.Told.TheVariants.{Granted}
use Rattle.afr_lines.specs.declared.request.Area.{Area}
use Rattle.afr_object.specs.declared.entry.View.{View}
use Rattle.std.proofs.Common.{Bool, ap, arith, false, inl, inr, length, refl, subst, sym, true, true≢false, ℕ, ◌&&◌, ◌+◌, ◌<◌, ◌∙◌, ◌≡◌, ◌≤◌, ◌⊎◌}
use Rattle.std.specs.Prelude.{Option, Some, if◌then◌else◌, nat_lt, slice_index, ◌==◌}
use Rattle.afr_model_moves.specs.Rules as weak
use Rattle.afr_model_moves.specs.Rules.{CoversAll}
use Rattle.afr_model_moves.specs.Cells.{Attr, Byte, Cell, Entry, is_cell, kind_of, object_of}
use Rattle.afr_law.proofs.Heals.MendsAlong.{Wide}
use Rattle.afr_law.proofs.Heals.Mended.{Mended, Brought}
use Rattle.afr_law.proofs.Heals.Moves.{tally_here, first_view, whole_covers}
use Rattle.std.proofs.lemmas.Bool.{eqb-true, cases_lt, and_from}
use Rattle.afr_model_moves.proofs.Tests.{all_yes, same_kind_yes}
use Rattle.afr_base.specs.Bricks.{and_left, and_right}
use Rattle.afr_base.proofs.TestLemmas.{same_test}

-- the numbers of a settling are for five bricks
abbrev pub Fives : Log → Type 0
Fives log = (t a b g : ℕ) (kind : Kind) (less : Marks) (told : Told) (took : Bool) → log t ≡ Some (ask_by a b (settle_on g kind less) told took) → length less.pending ≡ 5

-- that the heal raised there, as the step has it
raised_set : (keeps : ℕ → Kind → Bool) (r : Exact) (s : ℕ) (kind : Kind) (b : ℕ) → raised keeps r s kind b ≡ true → holder r.first_views b ≡ true → raise_set keeps r.first_views s kind b ≡ true
raised_set keeps r s Bytes b e h = e
raised_set keeps r s Attrs b e h = e
raised_set keeps r s Names b e h = h

pub set_raised : (keeps : ℕ → Kind → Bool) (r : Exact) (s : ℕ) (kind : Kind) (b : ℕ) → raise_set keeps r.first_views s kind b ≡ true → raised keeps r s kind b ≡ true
set_raised keeps r s Bytes b e = e
set_raised keeps r s Attrs b e = e
set_raised keeps r s Names b e = refl

one_of : (x : Bool) → (if x then 1 else 0) ≡ weak.one_if x
one_of true = refl
one_of false = refl

holds_settle : (r : Exact) (b : ℕ) (kind : Kind) (part : HealPart) → settles_at r kind part b ≡ true → holder r.first_views b ≡ true
holds_settle r b Bytes Finish e = e
holds_settle r b Attrs part e = e
holds_settle r b Names part e = e
holds_settle r b Bytes Opening e = absurd (true≢false (sym e))
holds_settle r b Bytes Piece e = absurd (true≢false (sym e))

-- the last part is of the whole
last_area : (g : ℕ) (kind : Kind) (upto : ℕ) (part : HealPart) → ((part ≡ Opening → ⊥) → kind ≡ Bytes) → is_last kind part ≡ true → part_area g kind upto part ≡ whole_area g kind
last_area g kind upto Opening bytes e = refl
last_area g kind upto Finish bytes e = refl
last_area g Bytes upto Piece bytes e = absurd (true≢false (sym e))
last_area g Attrs upto Piece bytes e = absurd (cc (bytes (λ k. cc k)))
last_area g Names upto Piece bytes e = absurd (cc (bytes (λ k. cc k)))

last_finish : (kind : Kind) (part : HealPart) → is_last kind part ≡ true → Bytes ≡ kind → part ≡ Finish
last_finish Bytes Finish e c = refl
last_finish Bytes Opening e c = absurd (true≢false (sym e))
last_finish Bytes Piece e c = absurd (true≢false (sym e))
last_finish Attrs part e c = absurd (cc c)
last_finish Names part e c = absurd (cc c)

module _ (n : ℕ) (keeps : ℕ → Kind → Bool) (log : Log) (honest : Honestly log) (wide : Wide log) (moves : MovesExactly n keeps log) (t a b : ℕ) (below : b < n) where
  abbrev pub here : Exact
  here = present n keeps log t a

  module _ (g : ℕ) (less : Marks) (five : length less.pending ≡ 5) (m : MayHeal n keeps (present n keeps log t a) b (settle_on g (present n keeps log t a).law.kind less)) where
    turns : turn n keeps here m.source Settles b ≡ true
    turns = settle_turn n keeps here m.source b g here.law.kind less m.allowed

    low : rank here.step ≤ 11
    low = turn_low n keeps here m.source Settles b turns

    onwards : onward n keeps here m.source g here.law.kind ≡ true
    onwards = settle_onward n keeps here m.source b g here.law.kind less m.allowed

    far : 7 ≤ rank here.step
    far = onward_far n keeps here m.source g here.law.kind onwards

    set : settles_at here here.law.kind here.part b ≡ true
    set = turn_in n keeps here m.source Settles b turns

    holds : holder here.first_views b ≡ true
    holds = holds_settle here b here.law.kind here.part set

    last : is_last here.law.kind here.part ≡ true
    last = settles_last here here.law.kind here.part b set

    areas : AreasIn here here.law
    areas = areas_now n keeps log moves t a m.inside m.whole

    object : g ≡ here.law.object
    object = eqb-true g here.law.object (onward_object n keeps here m.source g here.law.kind onwards)

    source_holds : (here.possible m.source && may_heal n keeps here m.source b (settle_on g here.law.kind less)) ≡ true
    source_holds = and_from _ _ m.possible m.allowed

    -- what is mended where the settling begins
    done : Mended n keeps Settles here.part here.law.kind (asked_in here Settles) (λ s. here.possible s && may_heal n keeps here s b (settle_on g here.law.kind less)) here.first_views here.reads here.upto here.law.object here.law.number here.law.mended (tally_at log t a)
    done = mended_asked n keeps t b here (tally_at log t a) here.law.number refl (λ f. numbers_now n keeps log wide moves t a m.inside m.whole f) (stage_now n keeps log moves t a) m.inside areas (mended_now n keeps log wide moves t a m.inside m.whole)
        (settle_on g here.law.kind less) Granted m.source m.allowed m.possible refl (λ rep e. absurd (cc e))

    raises : RaisesIn n keeps here here.law (tally_at log t a)
    raises = raises_now n keeps log honest moves t a m.inside m.whole

    raised_all : (x : ℕ) → x < n → raise_set keeps here.first_views m.source here.law.kind x ≡ true → here.law.raised x ≡ true
    raised_all x low_x q = (late_raises n keeps log honest t a b here (tally_at log t a) below m.inside (stage_now n keeps log moves t a) areas (sights_now n keeps log honest moves t a m.inside m.whole) raises Settles here.law.kind empty
        (λ s. here.possible s && may_heal n keeps here s b (settle_on g here.law.kind less)) here.law.raised (omega arith) refl refl
        (λ s p. (and_left _ _ p, mends_pres n keeps here s (settle_mends n keeps here s b g here.law.kind less (and_right (here.possible s) (may_heal n keeps here s b (settle_on g here.law.kind less)) p))))).all_raised
        (inr (omega arith)) m.source x source_holds low_x q

    all_brought : (cell : Cell) → kind_of cell ≡ here.law.kind → Brought Settles here.part here.upto (len_of (here.first_views m.source)) cell
    all_brought (Byte o i) c = elim (cases_lt i (len_of (here.first_views m.source))) [
      | inr high ↦ inl (inr (omega arith), high)
      | inl under ↦ inr (let up = done.finished (last_finish here.law.kind here.part last c) m.source source_holds in omega (arith, up, under))
    ]
    all_brought (Attr o i) c = omega arith
    all_brought (Entry o i) c = omega arith

    whole_copy : (x : ℕ) → x < n → raise_set keeps here.first_views m.source here.law.kind x ≡ true → (cell : Cell) → is_cell cell ≡ true → object_of cell ≡ here.law.object → kind_of cell ≡ here.law.kind → here.law.mended x cell ≡ 0 → ⊥
    whole_copy x low_x q cell real o c = done.covered m.source x source_holds low_x q cell real o c (all_brought cell c)

    view : (v : View) × (here.law.first b ≡ Some v) × (here.first_views b ≡ Some v)
    view = first_view n keeps log honest wide moves t a m.inside m.whole far b holds

    taken : takes n keeps here m.source b here.law.kind less (Some view.0) ≡ true
    taken = subst (λ o. takes n keeps here m.source b here.law.kind less o ≡ true) view.2 (settle_takes n keeps here m.source b g here.law.kind less m.allowed)

    exact : (c : ℕ) → (slice_index less.pending c ≡ 0)
        ⊎ ((slice_index less.pending c ≡ slice_index (view_marks view.0 here.law.kind).pending c) × (keeps c here.law.kind ≡ true → (cell : Cell) → is_cell cell ≡ true → object_of cell ≡ g → kind_of cell ≡ here.law.kind → (here.law.mended c cell ≡ 0) → ⊥))
    exact c = elim (cases_lt c 5) [
      | inr past ↦ inl (pending_past less.pending c five past)
      | inl under ↦ elim (takes_one n here m.source here.law.kind less view.0 c (eqb-true _ _ (all_yes 5 (λ x. slice_index less.pending x == (if nat_lt x n && changed here m.source here.law.kind x then slice_index (view_marks view.0 here.law.kind).pending x else 0)) (and_left _ _ taken) c under))) [
        | inl none ↦ inl none
        | inr w ↦ inr (w.0, λ copy cell real o k. whole_copy c w.1 (changed_set keeps here m.source here.law.kind c copy w.2) cell real (o ∙ object) k)
      ]
    ]

    sink_of : (x : ℕ) → x < n → raise_set keeps here.first_views m.source here.law.kind x ≡ true → weak.Sink log t a here.law x
    sink_of x low_x q = record {
      raised = raised_all x low_x q;
      whole = λ cell real o c. whole_copy x low_x q cell real o c;
      level = λ cell. subst (λ (k : Tally). k.given cell ≤ here.law.mended x cell) (tally_here n keeps log honest wide moves t a m.inside m.whole far) (elim (done.level m.source x source_holds low_x q cell) [ inl fine ↦ fine | inr w ↦ absurd (cc (w.at)) ]);
    }

    full : all n (holder here.first_views) ≡ true → weak.Full n keeps log t a here.law
    full e = record { s = m.source; sinks = λ c low_c copy. elim (source_or keeps here.first_views m.source here.law.kind c copy (all_yes n (holder here.first_views) e c low_c)) [ inl own ↦ inl own | inr set ↦ inr (sink_of c low_c set) ] }

    raised_same : raised keeps here m.source here.law.kind b ≡ here.law.raised b
    raised_same = same_test _ _ (λ e. raised_all b below (raised_set keeps here m.source here.law.kind b e holds)) (λ e. set_raised keeps here m.source here.law.kind b (raises.aside m.source b (raises.counted b e) m.possible))

    cleaned : (less.dirty ≡ 0) ⊎ ((less.dirty ≡ (view_marks view.0 here.law.kind).dirty + weak.one_if (here.law.raised b)) × weak.Full n keeps log t a here.law)
    cleaned = go (all n (holder here.first_views)) refl (eqb-true _ _ (and_right _ _ taken))
      where
        go : (whole : Bool) → all n (holder here.first_views) ≡ whole → less.dirty ≡ (if whole then (view_marks view.0 here.law.kind).dirty + (if raised keeps here m.source here.law.kind b then 1 else 0) else 0)
            → (less.dirty ≡ 0) ⊎ ((less.dirty ≡ (view_marks view.0 here.law.kind).dirty + weak.one_if (here.law.raised b)) × weak.Full n keeps log t a here.law)
        go false e d = inl d
        go true e d = inr (d ∙ ap (λ x. (view_marks view.0 here.law.kind).dirty + x) (one_of (raised keeps here m.source here.law.kind b) ∙ ap weak.one_if raised_same), full e)

    pub settle_own : weak.MaySettle n keeps log t a here.law b g here.law.kind less
    settle_own = (
        let f = firsts_now n keeps log moves t a in
        let i = f.1 m.inside m.whole in
        let k = holds_now n keeps log moves t a m.inside m.whole in
        record {
          inside = m.inside;
          begun_already = i.numbers far;
          locked = i.under far low b below (f.0.reached b holds);
          open_still = i.open_still far low b;
          object_same = object;
          kind_same = refl;
          whole = subst (λ (area : Option Area). CoversAll area g here.law.kind) (sym (areas.here (inr far) low ∙ ap Some (last_area here.law.object here.law.kind here.upto here.part areas.bytes last)))
              (subst (λ o. CoversAll (Some (whole_area o here.law.kind)) g here.law.kind) object (whole_covers g here.law.kind));
          healing = k.reached (omega (arith, low)) b below (f.0.reached b holds);
          once = unsettled (bool_or (here.law.settled b));
          view = view.0;
          seen = view.1;
          exact = exact;
          cleaned = cleaned;
        }
        )
      where
        unsettled : (here.law.settled b ≡ true) ⊎ (here.law.settled b ≡ false) → here.law.settled b ≡ false
        unsettled (inr e) = e
        unsettled (inl e) = (
            let w = (holds_now n keeps log moves t a m.inside m.whole).settled b e in
            let late : 11 ≤ rank here.step = w.1 in
            let at : here.step ≡ Settles = settles_is here.step (omega (arith, late, low)) in
            absurd (true≢false (sym (ap (λ (c : ℕ → Bool). c b) (asked_now here Settles at) ∙ w.2 at) ∙ turn_fresh n keeps here m.source Settles b turns))
            )

  pub settle_works : (g : ℕ) (kind : Kind) (less : Marks) → length less.pending ≡ 5 → MayHeal n keeps here b (settle_on g kind less) → weak.MaySettle n keeps log t a here.law b g kind less
  settle_works g kind less five m = (
      let same : kind ≡ here.law.kind = same_kind_yes kind here.law.kind (onward_kind n keeps here m.source g kind (settle_onward n keeps here m.source b g kind less m.allowed)) in
      subst (λ c. weak.MaySettle n keeps log t a here.law b g c less) (sym same) (settle_own g less five (subst (λ c. MayHeal n keeps here b (settle_on g c less)) same m))
      )
