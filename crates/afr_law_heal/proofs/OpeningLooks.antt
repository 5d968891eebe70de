-- The first looks of a heal: what one more line shows.
use Rattle.std.proofs.Common.{◌≡◌, ◌≢◌, ℕ, ◌<◌, ◌≤◌, ◌==◌, ◌&&◌, ◌||◌, not, Bool, true, false, List, ◌∷◌, Option, Some, None, length, is_some, refl, sym, ◌∙◌, ap, subst, arith, if◌then◌else◌}
use Rattle.std.proofs.lemmas.Bool.Decides.{nat_tests}
use Rattle.std.proofs.lemmas.List.{get_or-set_same, get_or-set_other}
use Rattle.afr_base.specs.Bricks.{added_if, member}
use Rattle.afr_base.specs.declared.ids.ActorId.{ActorId}
use Rattle.afr_base.specs.declared.ids.BrickId.{BrickId}
use Rattle.afr_base.specs.declared.ids.Gfid.{Gfid}
use Rattle.afr_base.specs.declared.ids.Kind.{Kind}
use Rattle.afr_base.specs.declared.ids.Shape.{Shape}
use Rattle.afr_choice.specs.Looks.{view_at, with_look, without_look}
use Rattle.afr_choice.specs.declared.looked.Looked.{Looked}
use Rattle.afr_discipline.specs.Notes.{shown}
use Rattle.afr_heal.specs.Answers.{fits}
use Rattle.afr_law_heal.proofs.OpeningParts.{added_if_other, added_if_own, at_each, marked_other, marked_own, put_other, put_own}
use Rattle.afr_law_heal.specs.HealLaws.{IsWholeTold}
use Rattle.afr_law_heal.specs.Stages.{TellsLooks}
use Rattle.afr_lines.specs.Work.{Work}
use Rattle.afr_lines.specs.declared.answer.Told.{Told}
use Rattle.afr_lines.specs.declared.answer.Told.TheVariants as as_told
use Rattle.afr_lines.specs.declared.line.Line.{Line}
use Rattle.afr_lines.specs.declared.line.Line.TheVariants.{Ask}
use Rattle.afr_lines.specs.declared.request.Request.TheVariants.{Look}
use Rattle.afr_model.specs.Healing.{First, busy_after, first_after, first_by, whole_of}
use Rattle.afr_model.specs.Showing.{among, is_fault, look_shows}
use Rattle.afr_model.specs.Standing.{getting}
use Rattle.afr_model_moves.specs.Note.{answers, put, view_of}
use Rattle.afr_model_moves.specs.Past.{is_gone}
use Rattle.afr_model_moves.specs.Ranges.{MarksInRange}
use Rattle.afr_model_moves.specs.Register.{Exact}
use Rattle.afr_object.specs.declared.entry.View.{View}

-- what a look shows is the same by the lines and by the register
pub look_is : (g : Gfid) (b : ℕ) (told : Told) (seen : Looked) → fits (Look g) told ≡ true → look_shows b told seen ≡ shown seen b told
look_is g b (as_told.Seen view) seen f = refl
look_is g b as_told.NoObject seen f = refl
look_is g b as_told.NotConnected seen f = refl
look_is g b as_told.Failed seen f = refl
look_is g b _ seen f = absurd (cc f)

-- a look of the first ones: who fails it is missing
first_look : (s : First) (a : ActorId) (b : BrickId) (g : Gfid) (told : Told) (took : Bool) (seen : Looked) → s ≡ record { begun = true; still = true; missing = s.missing; looked = seen }
    → first_after (Ask a b (Look g) told took) s ≡ record { begun = true; still = true; missing = added_if (is_fault told) b.0 s.missing; looked = look_shows b.0 told seen }
first_look s a b g told took seen e = go s.still (ap (λ (z : First). z.still) e) ∙ ap (λ (z : First). record z { missing = added_if (is_fault told) b.0 s.missing; looked = look_shows b.0 told z.looked }) e
  where
    go : (f : Bool) → f ≡ true → (if f then record s { missing = added_if (is_fault told) b.0 s.missing; looked = look_shows b.0 told s.looked } else s) ≡ record s { missing = added_if (is_fault told) b.0 s.missing; looked = look_shows b.0 told s.looked }
    go true e = refl
    go false e = absurd (cc e)

-- ---- what a look leaves of the looks
module _ (b : ℕ) (told : Told) (seen : Looked) (small : b < 5) (five : length seen.views ≡ 5) where
  pub reached_own : member (shown seen b told).reached b ≡ answers told
  reached_own = go (answers told)
    where
      go : (f : Bool) → member (if f then with_look b (view_of told) seen else without_look b seen).reached b ≡ f
      go true = marked_own true b seen.reached
      go false = marked_own false b seen.reached

  pub reached_other : (x : ℕ) → (x == b) ≡ false → member (shown seen b told).reached x ≡ member seen.reached x
  reached_other x e = go (answers told)
    where
      go : (f : Bool) → member (if f then with_look b (view_of told) seen else without_look b seen).reached x ≡ member seen.reached x
      go true = marked_other true b seen.reached x e
      go false = marked_other false b seen.reached x e

  pub view_own : view_at b (shown seen b told) ≡ (if answers told then view_of told else None)
  view_own = go (answers told)
    where
      go : (f : Bool) → view_at b (if f then with_look b (view_of told) seen else without_look b seen) ≡ (if f then view_of told else None)
      go true = get_or-set_same seen.views b (view_of told) None (omega (arith, small, five))
      go false = get_or-set_same seen.views b None None (omega (arith, small, five))

  pub view_other : (x : ℕ) → (x == b) ≡ false → view_at x (shown seen b told) ≡ view_at x seen
  view_other x e = go (answers told)
    where
      differs : x ≢ b
      differs h = let same : (x == b) ≡ true = grind (arith, nat_tests, h) in cc (same, e)

      go : (f : Bool) → view_at x (if f then with_look b (view_of told) seen else without_look b seen) ≡ view_at x seen
      go true = get_or-set_other seen.views b x (view_of told) None differs
      go false = get_or-set_other seen.views b x None None differs

module _ (shape : Shape) (g : Gfid) (kind : Kind) (r q : Exact) (seen : Looked) (w : Work) (a : ActorId) (b : ℕ) (told : Told) (took : Bool) (log : List Line)
    (few : shape.n ≤ 5) (small : b < shape.n) (five : length seen.views ≡ 5) (new : r.asked b ≡ false) (held_here : r.law.held b ≡ true) (fit : fits (Look g) told ≡ true) (full : IsWholeTold told)
    (asked : (x : ℕ) → q.asked x ≡ put r.asked b true x) (held : (x : ℕ) → q.law.held x ≡ put r.law.held b (not (is_gone told)) x) (t : TellsLooks shape r seen g kind w) where
  abbrev more : Work
  more = (Ask a (record { 0 = b }) (Look g) told took, log) ∷ w

  abbrev after : Looked
  after = shown seen b told

  in_five : b < 5
  in_five = omega (arith, few, small)

  asked_own : q.asked b ≡ true
  asked_own = asked b ∙ put_own r.asked b true

  asked_other : (x : ℕ) → (x == b) ≡ false → q.asked x ≡ r.asked x
  asked_other x e = asked x ∙ put_other r.asked b true x e

  held_own : q.law.held b ≡ not (is_gone told)
  held_own = held b ∙ put_own r.law.held b (not (is_gone told))

  held_other : (x : ℕ) → (x == b) ≡ false → q.law.held x ≡ r.law.held x
  held_other x e = held x ∙ put_other r.law.held b (not (is_gone told)) x e

  first_is : first_by more ≡ record { begun = true; still = true; missing = added_if (is_fault told) b (first_by w).missing; looked = after }
  first_is = first_look (first_by w) a (record { 0 = b }) g told took seen t.first
      ∙ ap (λ (l : Looked). record { begun = true; still = true; missing = added_if (is_fault told) b (first_by w).missing; looked = l }) (look_is g b told seen fit)

  missing_is : (first_by more).missing ≡ added_if (is_fault told) b (first_by w).missing
  missing_is = ap (λ (z : First). z.missing) first_is

  missing_own : member (added_if (is_fault told) b (first_by w).missing) b ≡ not (member after.reached b || (q.law.held b && not (q.asked b)))
  missing_own = added_if_own (is_fault told) b (first_by w).missing ∙ rw (reached_own b told seen in_five five, held_own, asked_own)
      (go told fit (member (first_by w).missing b) (t.missing b small ∙ rw (held_here, new) (here (member seen.reached b))))
    where
      here : (f : Bool) → not (f || true) ≡ false
      here true = refl
      here false = refl

      go : (told : Told) → fits (Look g) told ≡ true → (m : Bool) → m ≡ false → (is_fault told || m) ≡ not (answers told || (not (is_gone told) && false))
      go (as_told.Seen view) f m h = h
      go as_told.NoObject f m h = h
      go as_told.NotConnected f m h = refl
      go as_told.Failed f m h = refl
      go _ f m h = absurd (cc f)

  missing_all : (x : ℕ) → x < shape.n → member (first_by more).missing x ≡ not (member after.reached x || (q.law.held x && not (q.asked x)))
  missing_all x l = ap (λ (s : List ℕ). member s x) missing_is
      ∙ at_each (λ (x : ℕ). member (added_if (is_fault told) b (first_by w).missing) x ≡ not (member after.reached x || (q.law.held x && not (q.asked x)))) b x missing_own
      (λ e. added_if_other (is_fault told) b _ x e ∙ t.missing x l ∙ sym (rw (reached_other b told seen in_five five x e, held_other x e, asked_other x e) refl))

  low_all : (x : ℕ) → member after.reached x ≡ true → x < shape.n
  low_all x = at_each (λ (x : ℕ). member after.reached x ≡ true → x < shape.n) b x (λ m. small) (λ e m. t.low x (sym (reached_other b told seen in_five five x e) ∙ m))

  shown_all : (x : ℕ) → is_some (view_at x after) ≡ true → member after.reached x ≡ true
  shown_all x = at_each (λ (x : ℕ). is_some (view_at x after) ≡ true → member after.reached x ≡ true) b x
      (λ h. reached_own b told seen in_five five ∙ go (answers told) (subst (λ (v : Option View). is_some v ≡ true) (view_own b told seen in_five five) h))
      (λ e h. reached_other b told seen in_five five x e ∙ t.shown x (subst (λ (v : Option View). is_some v ≡ true) (view_other b told seen in_five five x e) h))
    where
      go : (f : Bool) → is_some (if f then view_of told else None) ≡ true → f ≡ true
      go true h = refl
      go false h = absurd (cc h)

  abbrev IsFull : View → Type 0
  IsFull view = MarksInRange view.marks.bytes × MarksInRange view.marks.attrs × MarksInRange view.marks.names

  numbers_all : (x : ℕ) (view : View) → view_at x after ≡ Some view → IsFull view
  numbers_all x view = at_each (λ (x : ℕ). view_at x after ≡ Some view → IsFull view) b x
      (λ h. go told full (sym (view_own b told seen in_five five) ∙ h)) (λ e h. t.numbers x view (sym (view_other b told seen in_five five x e) ∙ h))
    where
      go : (told : Told) → IsWholeTold told → (if answers told then view_of told else None) ≡ Some view → IsFull view
      go (as_told.Seen v) k e = let is : v ≡ view = cc e in subst (λ (v : View). IsFull v) is k
      go _ k e = absurd (cc e)

  locked_all : (x : ℕ) → member (among (getting (whole_of g kind)) w) x ≡ true → (x < shape.n) × ((q.asked x || q.law.held x) ≡ true)
  locked_all x = at_each (λ (x : ℕ). member (among (getting (whole_of g kind)) w) x ≡ true → (x < shape.n) × ((q.asked x || q.law.held x) ≡ true)) b x
      (λ m. (small, rw asked_own refl)) (λ e m. ((t.locked x m).0, rw (asked_other x e, held_other x e) (t.locked x m).1))

  -- one look more
  pub looks_more : TellsLooks shape q after g kind more
  looks_more = record {
    first = first_is ∙ ap (λ (m : List ℕ). record { begun = true; still = true; missing = m; looked = after }) (sym missing_is);
    missing = missing_all;
    low = low_all;
    shown = shown_all;
    numbers = numbers_all;
    asked = t.asked;
    worked = t.worked;
    locked = locked_all;
    free = ap (busy_after (Ask a (record { 0 = b }) (Look g) told took)) t.free;
    whole = record { prepared = t.whole.prepared; settling = t.whole.settling; settled = t.whole.settled; unsettled = t.whole.unsettled };
    one = t.one;
  }
