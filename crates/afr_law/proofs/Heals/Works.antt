-- The Pre, the Mend and the Settle of a heal are moves of the weak discipline.
use Rattle.afr_base.specs.Majority.{is_most}
use Rattle.afr_base.specs.declared.ids.Kind.{Kind}
use Rattle.afr_base.specs.declared.ids.Kind.TheVariants.{Attrs, Bytes, Names}
use Rattle.afr_base.specs.declared.marks.Marks.{Marks}
use Rattle.afr_model_moves.specs.Discipline.{MovesExactly, present}
use Rattle.afr_model_moves.specs.Heal.{MayHeal}
use Rattle.afr_model_moves.specs.Register.{Exact, Finish, HealPres, Mends, Opening, holder, len_of, rank}
use Rattle.afr_model_moves.specs.Steps.{changed, goes_on, may_heal, may_mend, mends_at, turn}
use Rattle.afr_law.proofs.Discipline.Firsts.{firsts_now}
use Rattle.afr_law.proofs.Heals.Answers.{Honestly}
use Rattle.afr_law.proofs.Heals.Areas.{AreasIn, areas_now, opening_or}
use Rattle.afr_law.proofs.Heals.Holds.{holds_now}
use Rattle.afr_law.proofs.Heals.MendsNow.{mended_now}
use Rattle.afr_law.proofs.Heals.Raises.{late_raises, pres_opening, pres_set, raise_set, raises_now}
use Rattle.afr_law.proofs.Heals.Reads.{readings_now}
use Rattle.afr_law.proofs.Heals.Sights.{sights_now}
use Rattle.afr_law.proofs.Heals.Conditions.{asked_now, goes_enough, goes_good, goes_unaccused, mend_goes, mend_pres, mend_test, mend_turn, onward_kind, onward_object, pre_onward, pre_turn, turn_fresh}
use Rattle.afr_model_moves.specs.Honest.{view_marks}
use Rattle.afr_law.proofs.Discipline.Inner.{turn_in, turn_low}
use Rattle.afr_model_moves.specs.Lines.{pre_on}
use Rattle.afr_model_moves.specs.Past.{Log, holds, place, repaired}
use Rattle.afr_law.proofs.Discipline.Projection.{tally_at}
use Rattle.afr_model_moves.specs.Sets.{empty}
use Rattle.afr_law.proofs.Discipline.Stages.{mend_far, onward_far}
use Rattle.afr_law.proofs.Discipline.StagesAlong.{stage_now}
use Rattle.afr_model_moves.specs.Tally.{Tally, tally}
use Rattle.afr_law.proofs.Discipline.Transactions.{held_view}
use Rattle.afr_lines.specs.declared.request.Area.{Area}
use Rattle.afr_lines.specs.declared.request.Request.{Request}
use Rattle.afr_lines.specs.declared.request.Request.TheVariants.{Mend}
use Rattle.afr_object.specs.declared.change.Repair.{Repair}
use Rattle.afr_object.specs.declared.change.Repair.TheVariants.{Copy, CutTo, PutAttrs, PutNames}
use Rattle.afr_object.specs.declared.entry.View.{View}
use Rattle.std.proofs.Common.{Bool, ap, arith, false, inl, inr, length, not, refl, subst, sym, true, true≢false, ℕ, ◌&&◌, ◌<◌, ◌∙◌, ◌≡◌, ◌≤◌, ◌⊎◌}
use Rattle.std.proofs.lemmas.Bool.Decides.{nat_tests}
use Rattle.std.specs.Prelude.{None, Option, Some, if◌then◌else◌, nat_lt, slice_index, ◌==◌, List as Seq}
use Rattle.afr_model_moves.specs.Rules as weak
use Rattle.afr_law.proofs.Heals.MendsAlong.{Wide}
use Rattle.afr_law.proofs.Heals.Mended.{Fits, IsWide, fits_one, mend_fits, mends_set, mends_finish}
use Rattle.afr_law.proofs.Heals.Moves.{tally_here, first_view, views_of, read_of, each_read, fits_covers}
use Rattle.std.proofs.lemmas.List.{get_or_past}
use Rattle.std.proofs.lemmas.Bool.{eqb-true, and_from}
use Rattle.afr_model_moves.proofs.Tests.{same_kind_yes}
use Rattle.afr_base.specs.Bricks.{and_left, and_right}

pub pending_past : (xs : Seq ℕ) (c : ℕ) → length xs ≡ 5 → 5 ≤ c → slice_index xs c ≡ 0
pending_past xs c five far = get_or_past xs c 0 (omega (arith, five, far))

-- what is taken back for a holder that the heal changes, and for no other
pub takes_one : (n : ℕ) (r : Exact) (s : ℕ) (kind : Kind) (less : Marks) (view : View) (c : ℕ) → slice_index less.pending c ≡ (if nat_lt c n && changed r s kind c then slice_index (view_marks view kind).pending c else 0)
    → (slice_index less.pending c ≡ 0) ⊎ ((slice_index less.pending c ≡ slice_index (view_marks view kind).pending c) × (c < n) × (changed r s kind c ≡ true))
takes_one n r s kind less view c e = go (nat_lt c n) refl (changed r s kind c) refl e
  where
    under : nat_lt c n ≡ true → c < n
    under k = grind (arith, nat_tests)

    go : (low : Bool) → nat_lt c n ≡ low → (hit : Bool) → changed r s kind c ≡ hit → slice_index less.pending c ≡ (if low && hit then slice_index (view_marks view kind).pending c else 0)
        → (slice_index less.pending c ≡ 0) ⊎ ((slice_index less.pending c ≡ slice_index (view_marks view kind).pending c) × (c < n) × (changed r s kind c ≡ true))
    go true p true q m = inr (m, under p, q)
    go true p false q m = inl m
    go false p hit q m = inl m

pub changed_set : (keeps : ℕ → Kind → Bool) (r : Exact) (s : ℕ) (kind : Kind) (c : ℕ) → keeps c kind ≡ true → changed r s kind c ≡ true → raise_set keeps r.first_views s kind c ≡ true
changed_set keeps r s Bytes c k e = and_from _ _ e k
changed_set keeps r s Attrs c k e = e
changed_set keeps r s Names c k e = e

-- a copy is the source, or the heal changes it
pub source_or : (keeps : ℕ → Kind → Bool) (views : ℕ → Option View) (s : ℕ) (kind : Kind) (c : ℕ) → keeps c kind ≡ true → holder views c ≡ true → ((c ≡ s) × (kind ≡ Names → ⊥)) ⊎ (raise_set keeps views s kind c ≡ true)
source_or keeps views s Names c k e = inr e
source_or keeps views s Bytes c k e = go (c == s) refl
  where
    all_three : (x y z : Bool) → x ≡ true → y ≡ false → z ≡ true → (x && not y && z) ≡ true
    all_three x y z p q r = grind arith

    go : (hit : Bool) → (c == s) ≡ hit → ((c ≡ s) × (Bytes ≡ Names → ⊥)) ⊎ ((holder views c && not (c == s) && keeps c Bytes) ≡ true)
    go true m = inl (eqb-true c s m, λ q. cc q)
    go false m = inr (all_three _ _ _ e m k)
source_or keeps views s Attrs c k e = go (c == s) refl
  where
    both : (x y : Bool) → x ≡ true → y ≡ false → (x && not y) ≡ true
    both x y p q = grind arith

    go : (hit : Bool) → (c == s) ≡ hit → ((c ≡ s) × (Attrs ≡ Names → ⊥)) ⊎ ((holder views c && not (c == s)) ≡ true)
    go true m = inl (eqb-true c s m, λ q. cc q)
    go false m = inr (both _ _ e m)

module _ (n : ℕ) (keeps : ℕ → Kind → Bool) (log : Log) (honest : Honestly log) (wide : Wide log) (moves : MovesExactly n keeps log) (t a b : ℕ) (below : b < n) where
  abbrev pub now : Exact
  now = present n keeps log t a

  -- a holder by the first looks, at a step from the looks to the settling
  record Working : Type 0 where
    pub begun_already : (now.law.number ≡ 0) → ⊥
    pub locked : now.law.seen b ≡ true
    pub open_still : now.law.closed b ≡ false

  working : now.law.heal ≡ true → now.broken ≡ false → 7 ≤ rank now.step → rank now.step ≤ 11 → holder now.first_views b ≡ true → Working
  working inside whole far low holds = (
      let w = firsts_now n keeps log moves t a in
      let i = w.1 inside whole in
      record { begun_already = i.numbers far; locked = i.under far low b below (w.0.reached b holds); open_still = i.open_still far low b }
      )

  set_holds : (s : ℕ) (kind : Kind) → raise_set keeps now.first_views s kind b ≡ true → holder now.first_views b ≡ true
  set_holds s Bytes e = and_left _ _ (and_left _ _ e)
  set_holds s Attrs e = and_left _ _ e
  set_holds s Names e = e

  still : (request : Request) (s : ℕ) → now.possible s ≡ true → may_heal n keeps now s b request ≡ true → (now.possible s && may_heal n keeps now s b request) ≡ true
  still request s p e = and_from _ _ p e

  false_of : (x : Bool) → (x ≡ true → ⊥) → x ≡ false
  false_of true h = absurd (h refl)
  false_of false h = refl

  pub pre_works : (g : ℕ) (kind : Kind) → MayHeal n keeps now b (pre_on g kind) → weak.MayPre log t a now.law b g kind
  pre_works g kind m = (
      let turns = pre_turn n keeps now m.source b g kind m.allowed in
      let low : rank now.step ≤ 9 = turn_low n keeps now m.source HealPres b turns in
      let o = pre_onward n keeps now m.source b g kind m.allowed in
      let far = onward_far n keeps now m.source g kind o in
      let areas = areas_now n keeps log moves t a m.inside m.whole in
      let set = turn_in n keeps now m.source HealPres b turns in
      let first = pres_opening keeps now m.source now.law.kind now.part b areas.bytes set in
      let holds = set_holds m.source now.law.kind (sym (pres_set keeps now m.source now.law.kind now.part b first) ∙ set) in
      let w = working m.inside m.whole far (omega (arith, low)) holds in
      let v = first_view n keeps log honest wide moves t a m.inside m.whole far b holds in
      record {
        begun_already = w.begun_already;
        holder = w.locked;
        open_still = w.open_still;
        plane = λ q out e. absurd (true≢false (sym m.inside ∙ out));
        within = λ inside. record {
          object_same = eqb-true g now.law.object (onward_object n keeps now m.source g kind o);
          kind_same = same_kind_yes kind now.law.kind (onward_kind n keeps now m.source g kind o);
          first_piece = (sights_now n keeps log honest moves t a m.inside m.whole).started first far;
          view = v.0;
          looked = v.1;
          before_mends = false_of _ (λ e. unmended low first (subst (λ (k : Tally). k.mending ≡ true) (sym (tally_here n keeps log honest wide moves t a m.inside m.whole far)) e));
          once = false_of _ (λ e. unasked turns low first (subst (λ (k : Tally). k.raises b ≡ true) (sym (tally_here n keeps log honest wide moves t a m.inside m.whole far)) e));
        };
        fit = λ q out e. absurd (true≢false (sym m.inside ∙ out));
      }
      )
    where
      unmended : rank now.step ≤ 9 → now.part ≡ Opening → (tally_at log t a).mending ≡ true → ⊥
      unmended low first e = (let late : 10 ≤ rank now.step = (mended_now n keeps log wide moves t a m.inside m.whole).mending e first in omega (arith, low, late))

      unasked : turn n keeps now m.source HealPres b ≡ true → rank now.step ≤ 9 → now.part ≡ Opening → (tally_at log t a).raises b ≡ true → ⊥
      unasked turns low first e = (
          let w = (raises_now n keeps log honest moves t a m.inside m.whole).once first low b e in
          true≢false (sym (ap (λ (f : ℕ → Bool). f b) (asked_now now HealPres w.0) ∙ w.1) ∙ turn_fresh n keeps now m.source HealPres b turns)
          )

  pub mend_works : (repair : Repair) → IsWide repair → MayHeal n keeps now b (Mend repair) → weak.MayMend n keeps log t a now.law b repair
  mend_works repair is_wide m = (
      let w = working m.inside m.whole far (omega (arith, low)) holds in
      let k = holds_now n keeps log moves t a m.inside m.whole in
      record {
        inside = m.inside;
        begun_already = w.begun_already;
        locked = w.locked;
        open_still = w.open_still;
        object_same = object_is repair fits_it;
        kind_same = kind_of_it repair fits_it;
        within = subst (λ (area : Option Area). weak.CoversMend area repair) (sym (areas.here (inr far) (omega (arith, low)))) (fits_covers now.law.object now.law.kind now.part now.upto now.first_views now.reads m.source repair areas.bytes unfinished fits_it);
        contents = carried repair test fits_it;
        healing = k.reached (omega (arith, low)) b below ((firsts_now n keeps log moves t a).0.reached b holds);
        unsettled = false_of _ (λ e. (let late : 11 ≤ rank now.step = (k.settled b e).1 in omega (arith, low, late)));
        raised = raised_here;
        one = one_repair _ refl;
      }
      )
    where
      turns : turn n keeps now m.source Mends b ≡ true
      turns = mend_turn n keeps now m.source b repair m.allowed

      low : rank now.step ≤ 10
      low = turn_low n keeps now m.source Mends b turns

      test : may_mend n keeps now m.source repair ≡ true
      test = mend_test n keeps now m.source b repair m.allowed

      far : 7 ≤ rank now.step
      far = mend_far n keeps now m.source repair test

      areas : AreasIn now now.law
      areas = areas_now n keeps log moves t a m.inside m.whole

      set : mends_at keeps now m.source now.law.kind now.part b ≡ true
      set = turn_in n keeps now m.source Mends b turns

      unfinished : now.part ≡ Finish → now.law.kind ≡ Bytes → ⊥
      unfinished = mends_finish keeps now m.source now.law.kind now.part b set

      in_set : raise_set keeps now.first_views m.source now.law.kind b ≡ true
      in_set = sym (mends_set keeps now m.source now.law.kind now.part b unfinished) ∙ set

      holds : holder now.first_views b ≡ true
      holds = set_holds m.source now.law.kind in_set

      fits_it : Fits now.law.object now.law.kind now.part now.upto now.first_views now.reads m.source repair
      fits_it = mend_fits n keeps now m.source repair test is_wide

      object_is : (rep : Repair) → Fits now.law.object now.law.kind now.part now.upto now.first_views now.reads m.source rep → repaired rep ≡ now.law.object
      object_is (CutTo g len) f = f.0
      object_is (Copy g place some read) f = f.0
      object_is (PutAttrs g read) f = f.0
      object_is (PutNames g from) f = f.0

      kind_of_it : (rep : Repair) → Fits now.law.object now.law.kind now.part now.upto now.first_views now.reads m.source rep → weak.repair_kind rep ≡ now.law.kind
      kind_of_it (CutTo g len) f = sym f.1
      kind_of_it (Copy g place some read) f = sym f.1
      kind_of_it (PutAttrs g read) f = sym f.1
      kind_of_it (PutNames g from) f = sym f.1

      goes : goes_on n keeps now m.source ≡ true
      goes = mend_goes n keeps now m.source repair test

      most : is_most n (holder now.first_views) ≡ true
      most = elim (opening_or now.part) [ inl first ↦ goes_enough n keeps now m.source goes first | inr later ↦ (sights_now n keeps log honest moves t a m.inside m.whole).enough (inl later) ]

      source_views : ((now.part ≡ Opening → ⊥) → 8 ≤ rank now.step) → weak.UnaccusedViews n keeps log t a now.law m.source
      source_views late = views_of n keeps log honest wide moves t a m.inside m.whole far m.source m.below (omega (arith, low)) most (goes_good n keeps now m.source goes) (λ later. (goes_unaccused n keeps now m.source goes later, late later)) (λ other. m.possible)

      read_late : (x p : ℕ) → now.reads x ≡ Some p → 8 ≤ rank now.step
      read_late x p e = (readings_now n keeps log moves t a m.inside m.whole far x p e).0

      opening_of : now.law.kind ≡ Names → now.part ≡ Opening
      opening_of e = elim (opening_or now.part) [ inl first ↦ first | inr later ↦ absurd (cc (sym e ∙ areas.bytes later)) ]

      carried : (rep : Repair) → may_mend n keeps now m.source rep ≡ true → Fits now.law.object now.law.kind now.part now.upto now.first_views now.reads m.source rep → weak.BringsSeen n keeps log t a now.law rep
      carried (CutTo g len) e f = (
          let v = held_view now.first_views m.source (and_left _ _ (and_left _ _ (goes_good n keeps now m.source goes))) in
          let sights = sights_now n keeps log honest moves t a m.inside m.whole in
          record {
            s = m.source;
            view = v.0;
            seen = sights.view far (omega (arith, low)) m.source v.0 (sym (sights.same f.2 far (omega (arith, low)) m.source) ∙ v.1);
            length = f.3 ∙ ap len_of v.1;
            source = source_views (λ later. absurd (later f.2));
          }
          )
      carried (Copy g place some read) e f = read_of n keeps log honest wide moves t a m.inside m.whole far m.source read (omega (arith, low)) f.5 (source_views (λ later. read_late m.source read f.5))
      carried (PutAttrs g read) e f = read_of n keeps log honest wide moves t a m.inside m.whole far m.source read (omega (arith, low)) f.2 (source_views (λ later. read_late m.source read f.2))
      carried (PutNames g from) e f = (each_read n keeps log honest wide moves t a m.inside m.whole far 0 from (omega (arith, low)) f.1 (opening_of f.1) most f.2, and_right _ _ e)

      raised_here : now.law.raised b ≡ true
      raised_here = (late_raises n keeps log honest t a b now (tally_at log t a) below m.inside (stage_now n keeps log moves t a) areas (sights_now n keeps log honest moves t a m.inside m.whole) (raises_now n keeps log honest moves t a m.inside m.whole) Mends now.law.kind empty
          (λ s. now.possible s && may_heal n keeps now s b (Mend repair)) now.law.raised (omega arith) refl refl (λ s p. (and_left _ _ p, mend_pres n keeps now s b repair (and_right (now.possible s) (may_heal n keeps now s b (Mend repair)) p)))).all_raised
          (inr (omega arith)) m.source b (still (Mend repair) m.source m.possible m.allowed) below in_set

      one_repair : (rep : Option Repair) → (tally log t a).repair ≡ rep → (rep ≡ None) ⊎ (rep ≡ Some repair)
      one_repair None e = inl refl
      one_repair (Some rep) e = inr (ap Some (fits_one now.law.object now.law.kind now.part now.upto now.first_views now.reads m.source rep repair
          (((mended_now n keeps log wide moves t a m.inside m.whole).repaired_so far low rep (ap (λ (k : Tally). k.repair) (tally_here n keeps log honest wide moves t a m.inside m.whole far) ∙ e)).1 m.source m.possible) fits_it))
