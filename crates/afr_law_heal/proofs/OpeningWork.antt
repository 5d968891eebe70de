-- The first Work locks of a heal: what one more line shows, and what the HealBegin leaves.
use Rattle.std.proofs.Common.{◌≡◌, ℕ, ◌<◌, ◌==◌, ◌&&◌, ◌||◌, not, Bool, true, false, List, [], ◌∷◌, Option, None, length, refl, sym, ◌∙◌, ap, subst, arith, slice_index_or, is_some, zero, suc, ◌+◌}
use Rattle.std.proofs.lemmas.Bool.Decides.{nat_tests}
use Rattle.afr_base.specs.Bricks.{added_if, member}
use Rattle.afr_base.specs.declared.ids.ActorId.{ActorId}
use Rattle.afr_base.specs.declared.ids.Gfid.{Gfid}
use Rattle.afr_base.specs.declared.ids.Kind.{Kind}
use Rattle.afr_base.specs.declared.ids.Shape.{Shape}
use Rattle.afr_choice.specs.Looks.{no_looks, view_at}
use Rattle.afr_choice.specs.declared.looked.Looked.{Looked}
use Rattle.afr_heal.proofs.Finding.{over_asked}
use Rattle.afr_heal.specs.Answers.{fits}
use Rattle.afr_law_heal.proofs.OpeningLocks.{first_lock, unseen_by}
use Rattle.afr_law_heal.proofs.OpeningParts.{added_if_other, added_if_own, at_each, marked_other, marked_own, put_other, put_own}
use Rattle.afr_law_heal.specs.Stages.{TellsLocks, TellsLooks, TellsWork}
use Rattle.afr_lines.specs.Overlap.{same_area}
use Rattle.afr_lines.specs.Work as lines
use Rattle.afr_lines.specs.declared.answer.Told.{Told}
use Rattle.afr_lines.specs.declared.answer.Told.TheVariants as as_told
use Rattle.afr_lines.specs.declared.line.Line.{Line}
use Rattle.afr_lines.specs.declared.line.Line.TheVariants.{Ask, HealBegin}
use Rattle.afr_lines.specs.declared.request.Area.{Area}
use Rattle.afr_lines.specs.declared.request.Request.TheVariants.{Lock}
use Rattle.afr_model.specs.Healing.{First, busy_after, first_by, heal_getting, none_yet, whole_of}
use Rattle.afr_model.specs.Showing.{among, is_fault, is_granted, is_held}
use Rattle.afr_model.specs.Standing.{asking, getting, marked}
use Rattle.afr_model_moves.specs.Note.{put}
use Rattle.afr_model_moves.specs.Past.{is_gone}
use Rattle.afr_model_moves.specs.Register.{Exact, HealLocks, asked_in, over}
use Rattle.afr_model_moves.specs.Sets.{empty}
use Rattle.afr_object.specs.declared.entry.View.{View}
use Rattle.afr_lines.specs.declared.lock.Domain.TheVariants.{Work}

-- ---- nothing was looked at
none_member : (s : List ℕ) → ((x : ℕ) → member s x ≡ false) → s ≡ []
none_member [] h = refl
none_member (y ∷ ys) h = let same : (y == y) ≡ true = grind (arith, nat_tests) in let here : ((y == y) || member ys y) ≡ false = h y in absurd (cc (rw same at here))

no_views_in : (v : List (Option View)) → length v ≡ 5 → ((x : ℕ) → x < 5 → slice_index_or v x None ≡ None) → v ≡ None ∷ None ∷ None ∷ None ∷ None ∷ []
no_views_in (a ∷ b ∷ c ∷ d ∷ e ∷ []) h v =
    let va : a ≡ None = v 0 (omega arith) in
    let vb : b ≡ None = v 1 (omega arith) in
    let vc : c ≡ None = v 2 (omega arith) in
    let vd : d ≡ None = v 3 (omega arith) in
    let ve : e ≡ None = v 4 (omega arith) in
    λ i. va i ∷ vb i ∷ vc i ∷ vd i ∷ ve i ∷ []
no_views_in [] h v = absurd (cc h)
no_views_in (a ∷ []) h v = absurd (cc h)
no_views_in (a ∷ b ∷ []) h v = absurd (cc h)
no_views_in (a ∷ b ∷ c ∷ []) h v = absurd (cc h)
no_views_in (a ∷ b ∷ c ∷ d ∷ []) h v = absurd (cc h)
no_views_in (a ∷ b ∷ c ∷ d ∷ e ∷ f ∷ more) h v = absurd (omega (arith, h))

pub not_looked : (seen : Looked) → ((x : ℕ) → member seen.reached x ≡ false) → length seen.views ≡ 5 → ((x : ℕ) → x < 5 → view_at x seen ≡ None) → seen ≡ no_looks
not_looked seen reached five views = let e = none_member seen.reached reached in let f = no_views_in seen.views five views in λ i. record seen { reached = e i; views = f i }

pub no_view : (x : ℕ) → view_at x no_looks ≡ None
no_view zero = refl
no_view (suc zero) = refl
no_view (suc (suc zero)) = refl
no_view (suc (suc (suc zero))) = refl
no_view (suc (suc (suc (suc zero)))) = refl
no_view (suc (suc (suc (suc (suc x))))) = refl

-- ---- from the Heal locks to the Work locks
-- no brick is asked or holds a Work lock yet
abbrev pub unasked : Exact → Exact
unasked r = record r { asked = empty; law = record r.law { held = empty } }

-- once all were asked their Heal lock, the lines tell what they do before the first Work lock
pub turn_locks : (shape : Shape) (g : Gfid) (kind : Kind) (r : Exact) (w : lines.Work) → ((x : ℕ) → x < shape.n → asked_in r HealLocks x ≡ true) → TellsLocks shape r g kind w → TellsWork shape (unasked r) g kind w
turn_locks shape g kind r w all t = record {
  unseen = t.unseen;
  missing = λ x l. t.missing x l ∙ rw (all x l) (no_more (r.law.healing x));
  asked = λ x l. t.asked x l ∙ all x l;
  granted = λ x m. sym (t.granted x) ∙ m;
  worked = λ x h. absurd (cc h);
  locked = λ x m. absurd (cc (subst (λ (s : List ℕ). member s x ≡ true) t.unlocked m));
  fresh = λ x h. subst (λ (s : List ℕ). member s x ≡ false) (sym t.unlocked) refl;
  low = λ x m. t.low x (sym (t.granted x) ∙ m);
  low_held = λ x h. absurd (cc h);
  unheld = λ x h. refl;
  free = t.free;
  whole = t.whole;
  none = t.none;
  unviewed = t.unviewed;
}
  where
    no_more : (h : Bool) → not h ≡ not (h && true)
    no_more true = refl
    no_more false = refl

module _ (shape : Shape) (g : Gfid) (kind : Kind) (r q : Exact) (w : lines.Work) (a : ActorId) (b : ℕ) (area : Area) (told : Told) (took : Bool) (log : List Line)
    (own : same_area (whole_of g kind) area ≡ true) (small : b < shape.n) (new : r.asked b ≡ false) (granted_here : r.law.healing b ≡ true) (fit : fits (Lock Work area) told ≡ true)
    (asked : (x : ℕ) → q.asked x ≡ put r.asked b (not (is_held told)) x) (held : (x : ℕ) → q.law.held x ≡ put r.law.held b (is_granted told) x)
    (healing : (x : ℕ) → q.law.healing x ≡ put r.law.healing b (not (is_gone told)) x) (views : (x : ℕ) → q.first_views x ≡ r.first_views x) (t : TellsWork shape r g kind w) where
  abbrev more : lines.Work
  more = (Ask a (record { 0 = b }) (Lock Work area) told took, log) ∷ w

  asked_own : q.asked b ≡ not (is_held told)
  asked_own = asked b ∙ put_own r.asked b (not (is_held told))

  asked_other : (x : ℕ) → (x == b) ≡ false → q.asked x ≡ r.asked x
  asked_other x e = asked x ∙ put_other r.asked b (not (is_held told)) x e

  held_own : q.law.held b ≡ is_granted told
  held_own = held b ∙ put_own r.law.held b (is_granted told)

  held_other : (x : ℕ) → (x == b) ≡ false → q.law.held x ≡ r.law.held x
  held_other x e = held x ∙ put_other r.law.held b (is_granted told) x e

  healing_own : q.law.healing b ≡ not (is_gone told)
  healing_own = healing b ∙ put_own r.law.healing b (not (is_gone told))

  healing_other : (x : ℕ) → (x == b) ≡ false → q.law.healing x ≡ r.law.healing x
  healing_other x e = healing x ∙ put_other r.law.healing b (not (is_gone told)) x e

  first_is : first_by more ≡ record none_yet { missing = added_if (is_fault told) b (first_by w).missing }
  first_is = first_lock (first_by w) a (record { 0 = b }) Work area told took t.unseen

  missing_is : (first_by more).missing ≡ added_if (is_fault told) b (first_by w).missing
  missing_is = ap (λ (z : First). z.missing) first_is

  asking_is : among (asking (whole_of g kind)) more ≡ marked (not (is_held told)) b (among (asking (whole_of g kind)) w)
  asking_is = rw own refl

  getting_is : among (getting (whole_of g kind)) more ≡ added_if (is_granted told) b (among (getting (whole_of g kind)) w)
  getting_is = rw own refl

  missing_own : member (added_if (is_fault told) b (first_by w).missing) b ≡ not (q.law.held b || (q.law.healing b && not (q.asked b)))
  missing_own = added_if_own (is_fault told) b (first_by w).missing ∙ rw (held_own, healing_own, asked_own) (go told fit (member (first_by w).missing b) (t.missing b small ∙ rw (t.unheld b new, granted_here, new) refl))
    where
      go : (told : Told) → fits (Lock Work area) told ≡ true → (m : Bool) → m ≡ false → (is_fault told || m) ≡ not (is_granted told || (not (is_gone told) && not (not (is_held told))))
      go as_told.Granted f m h = h
      go (as_told.Held owner) f m h = h
      go as_told.NotConnected f m h = refl
      go as_told.Failed f m h = refl
      go _ f m h = absurd (cc f)

  missing_all : (x : ℕ) → x < shape.n → member (first_by more).missing x ≡ not (q.law.held x || (q.law.healing x && not (q.asked x)))
  missing_all x l = ap (λ (s : List ℕ). member s x) missing_is
      ∙ at_each (λ (x : ℕ). member (added_if (is_fault told) b (first_by w).missing) x ≡ not (q.law.held x || (q.law.healing x && not (q.asked x)))) b x missing_own
      (λ e. added_if_other (is_fault told) b _ x e ∙ t.missing x l ∙ sym (rw (held_other x e, healing_other x e, asked_other x e) refl))

  granted_all : (x : ℕ) → member (among heal_getting more) x ≡ true → (q.asked x || q.law.healing x) ≡ true
  granted_all x = at_each (λ (x : ℕ). member (among heal_getting w) x ≡ true → (q.asked x || q.law.healing x) ≡ true) b x (λ m. rw (asked_own, healing_own) (go told fit)) (λ e m. rw (asked_other x e, healing_other x e) (t.granted x m))
    where
      go : (told : Told) → fits (Lock Work area) told ≡ true → (not (is_held told) || not (is_gone told)) ≡ true
      go as_told.Granted f = refl
      go (as_told.Held owner) f = refl
      go as_told.NotConnected f = refl
      go as_told.Failed f = refl
      go _ f = absurd (cc f)

  worked_all : (x : ℕ) → q.asked x ≡ true → member (among (asking (whole_of g kind)) more) x ≡ true
  worked_all x h = ap (λ (s : List ℕ). member s x) asking_is ∙ at_each (λ (x : ℕ). q.asked x ≡ true → member (marked (not (is_held told)) b (among (asking (whole_of g kind)) w)) x ≡ true) b x
      (λ h. marked_own (not (is_held told)) b _ ∙ sym asked_own ∙ h) (λ e h. marked_other (not (is_held told)) b _ x e ∙ t.worked x (sym (asked_other x e) ∙ h)) h

  got_own : member (added_if (is_granted told) b (among (getting (whole_of g kind)) w)) b ≡ is_granted told
  got_own = added_if_own (is_granted told) b _ ∙ go (is_granted told) _ (t.fresh b new)
    where
      go : (f m : Bool) → m ≡ false → (f || m) ≡ f
      go true m e = refl
      go false m e = e

  locked_all : (x : ℕ) → member (among (getting (whole_of g kind)) more) x ≡ true → q.law.held x ≡ true
  locked_all x m = at_each (λ (x : ℕ). member (added_if (is_granted told) b (among (getting (whole_of g kind)) w)) x ≡ true → q.law.held x ≡ true) b x
      (λ m. held_own ∙ sym got_own ∙ m) (λ e m. held_other x e ∙ t.locked x (sym (added_if_other (is_granted told) b (among (getting (whole_of g kind)) w) x e) ∙ m)) (sym (ap (λ (s : List ℕ). member s x) getting_is) ∙ m)

  not_granted : not (is_held told) ≡ false → is_granted told ≡ false
  not_granted h = go told h
    where
      go : (told : Told) → not (is_held told) ≡ false → is_granted told ≡ false
      go as_told.Granted h = absurd (cc h)
      go _ h = refl

  fresh_all : (x : ℕ) → q.asked x ≡ false → member (among (getting (whole_of g kind)) more) x ≡ false
  fresh_all x h = ap (λ (s : List ℕ). member s x) getting_is ∙ at_each (λ (x : ℕ). q.asked x ≡ false → member (added_if (is_granted told) b (among (getting (whole_of g kind)) w)) x ≡ false) b x
      (λ h. got_own ∙ not_granted (sym asked_own ∙ h)) (λ e h. added_if_other (is_granted told) b _ x e ∙ t.fresh x (sym (asked_other x e) ∙ h)) h

  low_held_all : (x : ℕ) → q.law.held x ≡ true → x < shape.n
  low_held_all x = at_each (λ (x : ℕ). q.law.held x ≡ true → x < shape.n) b x (λ h. small) (λ e h. t.low_held x (sym (held_other x e) ∙ h))

  unheld_all : (x : ℕ) → q.asked x ≡ false → q.law.held x ≡ false
  unheld_all x = at_each (λ (x : ℕ). q.asked x ≡ false → q.law.held x ≡ false) b x (λ h. held_own ∙ not_granted (sym asked_own ∙ h)) (λ e h. held_other x e ∙ t.unheld x (sym (asked_other x e) ∙ h))

  -- one Work lock more
  pub work_more : TellsWork shape q g kind more
  work_more = record {
    unseen = unseen_by (first_by more) _ first_is;
    missing = missing_all;
    asked = t.asked;
    granted = granted_all;
    worked = worked_all;
    locked = locked_all;
    fresh = fresh_all;
    low = t.low;
    low_held = low_held_all;
    unheld = unheld_all;
    free = ap (busy_after (Ask a (record { 0 = b }) (Lock Work area) told took)) t.free;
    whole = record { prepared = t.whole.prepared; settling = t.whole.settling; settled = t.whole.settled; unsettled = t.whole.unsettled };
    none = t.none;
    unviewed = λ x l. views x ∙ t.unviewed x l;
  }

-- ---- the HealBegin
module _ (shape : Shape) (g : Gfid) (kind : Kind) (r q : Exact) (w : lines.Work) (a : ActorId) (log : List Line) (t : TellsWork shape r g kind w)
    (all : over shape.n r.law.healing r.asked ≡ true) (asked : (x : ℕ) → q.asked x ≡ false) (held : (x : ℕ) → q.law.held x ≡ r.law.held x) where
  abbrev begun : lines.Work
  begun = (HealBegin a g kind, log) ∷ w

  first_begun : first_by begun ≡ record { begun = true; still = true; missing = (first_by w).missing; looked = no_looks }
  first_begun = ap (λ (z : First). record z { begun = true; still = not z.begun }) t.unseen

  was_asked : (x : ℕ) → x < shape.n → r.law.healing x ≡ true → r.asked x ≡ true
  was_asked x l h = over_asked shape.n r.law.healing r.asked all x l h

  gone_is : (h a k : Bool) → (k ≡ true → a ≡ true) → not (h || (k && not a)) ≡ not (false || (h && not false))
  gone_is true a k e = refl
  gone_is false true true e = refl
  gone_is false false true e = absurd (cc (e refl))
  gone_is false a false e = refl

  asked_of : (x : ℕ) → x < shape.n → (a h : Bool) → r.asked x ≡ a → r.law.healing x ≡ h → (a || h) ≡ true → r.asked x ≡ true
  asked_of x l true h ea eh e = ea
  asked_of x l false true ea eh e = was_asked x l eh
  asked_of x l false false ea eh e = absurd (cc e)

  -- the first looks begin
  pub looks_begin : TellsLooks shape q no_looks g kind begun
  looks_begin = record {
    first = first_begun;
    missing = λ x l. t.missing x l ∙ gone_is (r.law.held x) (r.asked x) (r.law.healing x) (was_asked x l) ∙ sym (rw (held x, asked x) refl);
    low = λ x m. absurd (cc m);
    shown = λ x h. absurd (cc (subst (λ (v : Option View). is_some v ≡ true) (no_view x) h));
    numbers = λ x view e. absurd (cc (sym (no_view x) ∙ e));
    asked = t.asked;
    worked = λ x m. t.worked x (asked_of x (t.low x m) (r.asked x) (r.law.healing x) refl refl (t.granted x m));
    locked = λ x m. (t.low_held x (t.locked x m), rw (held x, t.locked x m, asked x) refl);
    free = ap (busy_after (HealBegin a g kind)) t.free;
    whole = record { prepared = t.whole.prepared; settling = t.whole.settling; settled = t.whole.settled; unsettled = t.whole.unsettled };
    one = ap (λ (k : ℕ). k + 1) t.none;
  }
