-- A heal keeps standing while it looks at its copies again, in a later part.
use Rattle.std.proofs.Common.{ℕ, ◌≡◌, ◌<◌, ◌&&◌, ◌==◌, Bool, None, Option, Some, false, refl, subst, sym, true}
use Rattle.std.proofs.lemmas.Bool.{eqb-true}
use Rattle.afr_base.specs.declared.ids.Gfid.{Gfid}
use Rattle.afr_base.specs.declared.ids.Kind.{Kind}
use Rattle.afr_base.specs.declared.ids.Kind.TheVariants.{Bytes}
use Rattle.afr_discipline.specs.Turns.{candidate}
use Rattle.afr_heal.proofs.KeptBroken.{KeepsAt, dropped_base}
use Rattle.afr_heal.proofs.Parts.{both, deny, not_both, off, over_then, pair}
use Rattle.afr_heal.proofs.StagesAllowed.{look_ok}
use Rattle.afr_heal.proofs.StagesForms.{shape, viewed_at, viewed_form}
use Rattle.afr_heal.proofs.StagesWalk.{look_elim}
use Rattle.afr_heal.specs.Engine.{Ask}
use Rattle.afr_heal.specs.Laws.{Keeps}
use Rattle.afr_heal.specs.Standing.{AfterLooks, AtViews, Base, Ending, Going, OfKind, Standing, Viewing}
use Rattle.afr_lines.specs.declared.answer.Told.TheVariants as as_told
use Rattle.afr_lines.specs.declared.request.Area.{Area}
use Rattle.afr_lines.specs.declared.request.Request.TheVariants.{Look}
use Rattle.afr_model_moves.specs.Note.{put, stops_at}
use Rattle.afr_model_moves.specs.Register.{Exact, Finish, HealPart, Looks, Opening, Piece, good, holder, is_opening, over, unaccused}
use Rattle.afr_model_moves.specs.Rules as weak
use Rattle.afr_model_moves.specs.Rules.{Register}
use Rattle.afr_model_moves.specs.Sets.{any, with}
use Rattle.afr_model_moves.specs.Steps.{goes_on, looks_at, may_heal, sink, turn}
use Rattle.afr_object.specs.declared.entry.View.{View}
use Rattle.afr_model_moves.proofs.Tests.{some_yes}

-- a later part looks at the bricks of the first looks
pub looks_there : (r : Exact) (part : HealPart) → is_opening part ≡ false → looks_at r part ≡ r.first_reached
looks_there r Opening h = absurd (cc h)
looks_there r Piece h = refl
looks_there r Finish h = refl

module _ (n : ℕ) (keeps : ℕ → Kind → Bool) (q : Exact) (part : HealPart) (later : is_opening part ≡ false) (s : ℕ) (g : Gfid) (kind : Kind) (area : Area) (k : AtViews n keeps (shape q Looks part g kind (Some area)) s g kind) (b : ℕ) (t : turn n keeps (shape q Looks part g kind (Some area)) s Looks b ≡ true) where
  abbrev r : Exact
  r = shape q Looks part g kind (Some area)

  -- the copies that may be the source after the look
  abbrev pub may_view : ℕ → Bool
  may_view x = r.possible x && may_heal n keeps r x b (Look g)

  source_still : may_view s ≡ true
  source_still = pair _ _ k.picked.possible (look_ok n keeps r s g kind s k.base refl b t)

  base_there : Base g true g.0 q.law.second_held
  base_there = record { inside = refl; is_object = refl; no_second = k.base.no_second }

  module _ (asked reached : ℕ → Bool) (views view first : ℕ → Option View) where
    abbrev r1 : Exact
    r1 = viewed_at n keeps r asked reached views may_view (record r.law { view = view; first = first })

    -- a copy that goes on is the source, since the others were sinks
    is_source : (x : ℕ) → x < n → candidate n keeps r1 x ≡ true → goes_on n keeps r1 s ≡ true
    is_source x l c = by (x == s) refl
      where
        two : (may_view x ≡ true) × (goes_on n keeps r1 x ≡ true)
        two = both (may_view x) (goes_on n keeps r1 x) c

        is_good_there : good n keeps Bytes q.first_views x ≡ true
        is_good_there = subst (λ (kind : Kind). good n keeps kind q.first_views x ≡ true) k.bytes (both (good n keeps kind q.first_views x) _ two.1).0

        by : (f : Bool) → (x == s) ≡ f → goes_on n keeps r1 s ≡ true
        by true e = subst (λ (y : ℕ). goes_on n keeps r1 y ≡ true) (eqb-true x s e) two.1
        by false e =
            let keeper = both (holder q.first_views x) (keeps x Bytes) (both _ (unaccused n Bytes q.first_views x) is_good_there).0 in
            let is_sink : sink keeps r s x ≡ true = pair _ _ (pair _ _ keeper.0 (deny _ e)) keeper.1 in
            absurd (not_both (q.possible x) (both (q.possible x) _ two.0).0 (k.told x l is_sink))

    -- the looks are over where the bricks of the first looks were asked
    over_there : over n q.first_reached asked ≡ true → over n (looks_at r1 part) asked ≡ true
    over_there o = subst (λ (set : ℕ → Bool). over n set asked ≡ true) (sym (looks_there r1 part later)) o

    goes_after : stops_at n keeps r1 Looks ≡ false → over n q.first_reached asked ≡ true → AfterLooks n keeps r1 s g kind
    goes_after e o =
        let one = some_yes n (candidate n keeps r1) (over_then (over n (looks_at r1 part) asked) (any n (candidate n keeps r1)) (over_there o) e) in
        record {
          base = base_there;
          whole = e;
          is_kind = refl;
          of_kind = subst (λ (kind : Kind). OfKind kind part) (sym k.bytes) tt;
          below = k.picked.below;
          possible = source_still;
          many = k.picked.many;
          onwards = is_source one.0 one.1 one.2;
          looked = over_there o;
          area = area;
          area_is = refl;
          noted = λ x l m h. absurd (cc h);
          told = λ bytes x l m h. off (q.possible x) _ (k.told x l m);
          freed = λ x l h. absurd (cc h);
          holding = λ x l m h. k.holding x l m;
          lost = λ x l h. absurd (cc h);
          healing = λ x l m h. k.healing x l m;
          parts = λ h. refl;
        }

    by_over : stops_at n keeps r1 Looks ≡ false → (o : Bool) → over n q.first_reached asked ≡ o → Standing n keeps r1 s g kind
    by_over e true o = Going (goes_after e o)
    by_over e false o = Viewing (record {
      base = base_there;
      whole = e;
      step = refl;
      part = later;
      bytes = k.bytes;
      is_kind = refl;
      picked = record { below = k.picked.below; possible = source_still; is_good = k.picked.is_good; many = k.picked.many };
      area = area;
      area_is = refl;
      holding = k.holding;
      healing = k.healing;
      told = λ x l m. off (q.possible x) _ (k.told x l m);
      more = o;
    })

    -- the last look lets the heal go on with its source, or ends it
    pub view_stands : Standing n keeps r1 s g kind
    view_stands = go (stops_at n keeps r1 Looks) refl
      where
        go : (f : Bool) → stops_at n keeps r1 Looks ≡ f → Standing n keeps r1 s g kind
        go true e = Ending (record { base = base_there; broken = e })
        go false e = by_over e (over n q.first_reached asked) refl

  -- a view, or that there is no copy: in a given part the register is the one above
  seen_there : (view : View) → Standing n keeps (viewed_at n keeps r (with q.asked b) (put q.reached b true) (put q.views b (Some view)) may_view (weak.viewed r.law b g.0 view)) s g kind
  seen_there view =
      subst (λ (law : Register). Standing n keeps (viewed_at n keeps r (with q.asked b) (put q.reached b true) (put q.views b (Some view)) may_view law) s g kind) (sym (viewed_form r.law b g.0 view))
      (view_stands (with q.asked b) (put q.reached b true) (put q.views b (Some view)) _ _)

  none_there : Standing n keeps (viewed_at n keeps r (with q.asked b) (put q.reached b true) (put q.views b None) may_view r.law) s g kind
  none_there = view_stands (with q.asked b) (put q.reached b true) (put q.views b None) q.law.view q.law.first

module _ (n : ℕ) (keeps : ℕ → Kind → Bool) (pick : (ℕ → Bool) → ℕ) (q : Exact) (s : ℕ) (g : Gfid) (kind : Kind) (area : Area) where
  piece_told : (k : AtViews n keeps (shape q Looks Piece g kind (Some area)) s g kind) (b : ℕ) (t : turn n keeps (shape q Looks Piece g kind (Some area)) s Looks b ≡ true) → Keeps n keeps pick (shape q Looks Piece g kind (Some area)) s g kind (Ask b (Look g))
  piece_told k b t at (as_told.Seen view) f = seen_there n keeps q Piece refl s g kind area k b t view
  piece_told k b t at as_told.NoObject f = none_there n keeps q Piece refl s g kind area k b t
  piece_told k b t at as_told.Failed f = Ending (record { base = base_there n keeps q Piece refl s g kind area k b t; broken = refl })
  piece_told k b t at as_told.NotConnected f = Ending (record { base = dropped_base g (shape q Looks Piece g kind (Some area)).law true b (base_there n keeps q Piece refl s g kind area k b t); broken = refl })
  piece_told k b t at _ f = absurd (cc f)

  finish_told : (k : AtViews n keeps (shape q Looks Finish g kind (Some area)) s g kind) (b : ℕ) (t : turn n keeps (shape q Looks Finish g kind (Some area)) s Looks b ≡ true) → Keeps n keeps pick (shape q Looks Finish g kind (Some area)) s g kind (Ask b (Look g))
  finish_told k b t at (as_told.Seen view) f = seen_there n keeps q Finish refl s g kind area k b t view
  finish_told k b t at as_told.NoObject f = none_there n keeps q Finish refl s g kind area k b t
  finish_told k b t at as_told.Failed f = Ending (record { base = base_there n keeps q Finish refl s g kind area k b t; broken = refl })
  finish_told k b t at as_told.NotConnected f = Ending (record { base = dropped_base g (shape q Looks Finish g kind (Some area)).law true b (base_there n keeps q Finish refl s g kind area k b t); broken = refl })
  finish_told k b t at _ f = absurd (cc f)

  -- the looks of a later part
  pub views_kept : (part : HealPart) → is_opening part ≡ false → AtViews n keeps (shape q Looks part g kind (Some area)) s g kind → KeepsAt n keeps pick (shape q Looks part g kind (Some area)) s g kind
  views_kept Opening later k = absurd (cc later)
  views_kept Piece later k = look_elim n keeps (shape q Looks Piece g kind (Some area)) s g kind (Keeps n keeps pick (shape q Looks Piece g kind (Some area)) s g kind) refl refl k.more (λ b l t. piece_told k b t)
  views_kept Finish later k = look_elim n keeps (shape q Looks Finish g kind (Some area)) s g kind (Keeps n keeps pick (shape q Looks Finish g kind (Some area)) s g kind) refl refl k.more (λ b l t. finish_told k b t)
