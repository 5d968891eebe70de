-- A heal keeps standing while it looks at its copies for the first time, and picks its source.
use Rattle.std.proofs.Common.{ℕ, ◌≡◌, ◌<◌, ◌&&◌, ◌==◌, if◌then◌else◌, Bool, None, Option, Some, false, refl, subst, sym, true}
use Rattle.std.proofs.lemmas.Bool.{eqb-true}
use Rattle.afr_base.specs.Majority.{is_most}
use Rattle.afr_base.specs.declared.ids.Gfid.{Gfid}
use Rattle.afr_base.specs.declared.ids.Kind.{Kind}
use Rattle.afr_base.specs.declared.ids.Kind.TheVariants.{Attrs, Bytes, Names}
use Rattle.afr_discipline.specs.Turns.{candidate}
use Rattle.afr_heal.proofs.Finding.{turn_set}
use Rattle.afr_heal.proofs.KeptBroken.{KeepsAt}
use Rattle.afr_heal.proofs.Parts.{both, over_then, pair, without_both, without_no}
use Rattle.afr_heal.proofs.StagesAllowed.{look_ok}
use Rattle.afr_heal.proofs.StagesForms.{looked_at, shape, viewed_form}
use Rattle.afr_heal.proofs.StagesWalk.{look_elim}
use Rattle.afr_heal.specs.Answers.{PicksOne, asked_for, fits, source_after}
use Rattle.afr_heal.specs.Laws.{Keeps}
use Rattle.afr_heal.specs.Standing.{AfterLooks, AtLooks, Base, Ending, Going, Looking, OfKind, Standing}
use Rattle.afr_lines.specs.declared.answer.Told.{Told}
use Rattle.afr_lines.specs.declared.request.Request.TheVariants.{Look}
use Rattle.afr_model_moves.specs.Note.{put, stops_at}
use Rattle.afr_model_moves.specs.Register.{Exact, Looks, Opening, good, holder, over, shows_number, whole_area}
use Rattle.afr_model_moves.specs.Rules.{Register}
use Rattle.afr_model_moves.specs.Sets.{any, with, without}
use Rattle.afr_model_moves.specs.Steps.{goes_on, goes_on_at, may_heal, turn}
use Rattle.afr_object.specs.declared.entry.View.{View}
use Rattle.afr_lines.specs.declared.answer.Told.TheVariants as as_told
use Rattle.afr_model_moves.specs.Rules as weak
use Rattle.afr_model_moves.proofs.Tests.{some_yes}

module _ (n : ℕ) (keeps : ℕ → Kind → Bool) (pick : (ℕ → Bool) → ℕ) (picks : PicksOne n pick) (q : Exact) (s : ℕ) (g : Gfid) (kind : Kind) (k : AtLooks n keeps (shape q Looks Opening g kind (Some (whole_area g.0 kind))) g kind) where
  abbrev r : Exact
  r = shape q Looks Opening g kind (Some (whole_area g.0 kind))

  looks_stand : (asked reached : ℕ → Bool) (views : ℕ → Option View) (first_reached : ℕ → Bool) (first_views : ℕ → Option View) (possible : ℕ → Bool) (law : Register)
      → Base g law.heal law.object law.second_held → law.kind ≡ kind → ((x : ℕ) → x < n → possible x ≡ true) → law.area ≡ Some (whole_area g.0 kind) → ((x : ℕ) → law.held x ≡ true → law.healing x ≡ true)
      → ((x : ℕ) → first_reached x ≡ true → law.held x ≡ true)
      → (let r1 = looked_at n keeps r asked reached views first_reached first_views possible law in Standing n keeps r1 (source_after n keeps pick r1 s) g kind)
  looks_stand asked reached views first_reached first_views possible law base is_kind every area among first = go (stops_at n keeps r1 Looks) refl
    where
      r1 : Exact
      r1 = looked_at n keeps r asked reached views first_reached first_views possible law

      chosen : ℕ
      chosen = pick (candidate n keeps r1)

      of_kind : (kind : Kind) → OfKind kind Opening
      of_kind Bytes = tt
      of_kind Attrs = tt
      of_kind Names = tt

      goes_after : stops_at n keeps r1 Looks ≡ false → over n law.held asked ≡ true → AfterLooks n keeps r1 chosen g kind
      goes_after e o =
          let one = some_yes n (candidate n keeps r1) (over_then (over n law.held asked) (any n (candidate n keeps r1)) o e) in
          let source = picks (candidate n keeps r1) one.0 one.1 one.2 in
          let two = both (possible chosen) (goes_on n keeps r1 chosen) source.1 in
          let three = both (good n keeps law.kind first_views chosen) (goes_on_at n keeps r1 chosen Opening) two.1 in
          let four = both _ (any n (λ x. shows_number law.kind (first_views x))) three.1 in
          record {
            base = base;
            whole = e;
            is_kind = is_kind;
            of_kind = of_kind kind;
            below = source.0;
            possible = two.0;
            many = (both (is_most n first_reached) (is_most n (holder first_views)) four.0).0;
            onwards = two.1;
            looked = o;
            area = whole_area g.0 kind;
            area_is = area;
            noted = λ x l m h. absurd (cc h);
            told = λ bytes x l m h. absurd (cc h);
            freed = λ x l h. absurd (cc h);
            holding = λ x l m h. first x m;
            lost = λ x l h. absurd (cc h);
            healing = λ x l m h. among x (first x m);
            parts = λ h. refl;
          }

      by_over : stops_at n keeps r1 Looks ≡ false → (o : Bool) → over n law.held asked ≡ o → Standing n keeps r1 chosen g kind
      by_over e true o = Going (goes_after e o)
      by_over e false o = Looking (record { base = base; whole = e; step = refl; opening = refl; is_kind = is_kind; every = every; area = area; among = among; first = first; more = o })

      go : (f : Bool) → stops_at n keeps r1 Looks ≡ f → Standing n keeps r1 chosen g kind
      go true e = Ending (record { base = base; broken = e })
      go false e = by_over e (over n law.held asked) refl

  module _ (b at : ℕ) (t : turn n keeps r s Looks b ≡ true) where
    still_all : (x : ℕ) → x < n → (r.possible x && may_heal n keeps r x b (Look g)) ≡ true
    still_all x l = pair _ _ (k.every x l) (look_ok n keeps r s g kind x k.base refl b t)

    held_here : q.law.held b ≡ true
    held_here = turn_set n keeps r s Looks b t

    abbrev may_look : ℕ → Bool
    may_look x = r.possible x && may_heal n keeps r x b (Look g)

    put_on : (f : Bool) (x : ℕ) → put q.first_reached b f x ≡ true → q.law.held x ≡ true
    put_on f x = go (x == b) refl
      where
        go : (e : Bool) → (x == b) ≡ e → (if e then f else q.first_reached x) ≡ true → q.law.held x ≡ true
        go true e h = subst (λ (y : ℕ). q.law.held y ≡ true) (sym (eqb-true x b e)) held_here
        go false e h = k.first x h

    put_off : (x : ℕ) → put q.first_reached b false x ≡ true → without q.law.held b x ≡ true
    put_off x = go (x == b)
      where
        go : (e : Bool) → (if e then false else q.first_reached x) ≡ true → (if e then false else q.law.held x) ≡ true
        go true h = h
        go false h = k.first x h

    look_told : (told : Told) → fits (Look g) told ≡ true → Standing n keeps (asked_for n keeps r at b (Look g) told) (source_after n keeps pick (asked_for n keeps r at b (Look g) told) s) g kind
    look_told (as_told.Seen view) f =
        subst (λ (law : Register). (let r1 = looked_at n keeps r (with q.asked b) (put q.reached b true) (put q.views b (Some view)) (put q.first_reached b true) (put q.first_views b (Some view)) may_look law in Standing n keeps r1 (source_after n keeps pick r1 s) g kind)) (sym (viewed_form r.law b g.0 view))
        (looks_stand (with q.asked b) (put q.reached b true) (put q.views b (Some view)) (put q.first_reached b true) (put q.first_views b (Some view)) may_look _
        (record { inside = refl; is_object = refl; no_second = k.base.no_second }) refl still_all refl k.among (put_on true))
    look_told as_told.NoObject f =
        looks_stand (with q.asked b) (put q.reached b true) (put q.views b None) (put q.first_reached b true) (put q.first_views b None) may_look _
        (record { inside = refl; is_object = refl; no_second = k.base.no_second }) refl still_all refl k.among (put_on true)
    look_told as_told.Failed f =
        looks_stand (with q.asked b) (put q.reached b false) (put q.views b None) (put q.first_reached b false) (put q.first_views b None) may_look _
        (record { inside = refl; is_object = refl; no_second = k.base.no_second }) refl still_all refl k.among (put_on false)
    look_told as_told.NotConnected f =
        looks_stand (with q.asked b) (put q.reached b false) (put q.views b None) (put q.first_reached b false) (put q.first_views b None) may_look (weak.dropping true b r.law)
        (record { inside = refl; is_object = refl; no_second = λ x. without_no q.law.second_held b x (k.base.no_second x) }) refl still_all refl (λ x. without_both q.law.held q.law.healing b x (k.among x)) put_off
    look_told _ f = absurd (cc f)

  -- the looks of the opening
  pub look_kept : KeepsAt n keeps pick r s g kind
  look_kept = look_elim n keeps r s g kind (Keeps n keeps pick r s g kind) refl refl k.more (λ b l t at told f. look_told b at t told f)
