-- The test of a post-op passes exactly where it has its grounds.
use Rattle.std.proofs.Common.{◌≡◌, ◌↔◌, ◌∙◌, ℕ, ◌==◌, ◌&&◌, not, Bool, true, false, List, Option, Some, None, refl, sym, ap, arith}
use Rattle.std.proofs.lemmas.Bool.{eqb-true, and_from, not-true}
use Rattle.afr_base.specs.Bricks.{IsIn, and_left, and_right, below, is_nothing, member, minus, same, same_is}
use Rattle.afr_base.specs.Kinds.{same_kind}
use Rattle.afr_base.specs.SetLemmas.{no_member, member_minus, none_left, same_self}
use Rattle.afr_base.specs.declared.ids.Gfid.{Gfid}
use Rattle.afr_base.specs.declared.ids.Kind.{Kind}
use Rattle.afr_base.specs.declared.ids.Shape.{Shape}
use Rattle.afr_base.proofs.TestLemmas.{same_number}
use Rattle.afr_choice.specs.declared.looked.Looked.{Looked}
use Rattle.afr_lines.specs.Areas.{kind_for}
use Rattle.afr_lines.specs.Work.{Work}
use Rattle.afr_lines.specs.declared.line.Line.{Line}
use Rattle.afr_model.specs.Showing.{among, begun_by, looked_by}
use Rattle.afr_model.specs.Standing.{change_by, since, suffices}
use Rattle.afr_model_moves.proofs.Tests.{same_kind_self, same_kind_yes}
use Rattle.afr_object.specs.Tables.{object_of}
use Rattle.afr_object.specs.declared.change.Change.{Change}
use Rattle.afr_plan.specs.declared.plan.Plan.{Plan}
use Rattle.afr_trace_check.specs.Blaming.{has_grounds, is_change_of, is_position}
use Rattle.afr_trace_check.specs.Grounds.{HasGrounds, after_last, asks_lock, closing, doing, locks_object, over, refusing}

abbrev numbered : ℕ → Gfid
numbered n = record { 0 = n }

gfid_same : (g h : Gfid) → g.0 ≡ h.0 → g ≡ h
gfid_same g h e = ap (λ (n : ℕ). numbered n) e

-- nothing is left of a set within another
within_left : (s t : List ℕ) → IsIn s t → is_nothing (minus s t) ≡ true
within_left s t h = no_member (minus s t) (λ b m. in_both b (rw (member_minus s t b) at m))
  where
    in_both : (b : ℕ) → (not (member t b) && member s b) ≡ true → ⊥
    in_both b m =
        let out : not (member t b) ≡ true = and_left (not (member t b)) (member s b) m in
        let inside : member t b ≡ true = h b (and_right (not (member t b)) (member s b) m) in
        let no : not true ≡ true = rw inside at out in
        absurd (cc no)

-- each of seven tests passes where all do
all_seven : (a b c d e f g : Bool) → (a && b && c && d && e && f && g) ≡ true → (a ≡ true) × (b ≡ true) × (c ≡ true) × (d ≡ true) × (e ≡ true) × (f ≡ true) × (g ≡ true)
all_seven true true true true true true true h = (refl, refl, refl, refl, refl, refl, refl)
all_seven true true true true true true false h = absurd (cc)
all_seven true true true true true false g h = absurd (cc)
all_seven true true true true false f g h = absurd (cc)
all_seven true true true false e f g h = absurd (cc)
all_seven true true false d e f g h = absurd (cc)
all_seven true false c d e f g h = absurd (cc)
all_seven false b c d e f g h = absurd (cc)

seven_true : (a b c d e f g : Bool) → a ≡ true → b ≡ true → c ≡ true → d ≡ true → e ≡ true → f ≡ true → g ≡ true → (a && b && c && d && e && f && g) ≡ true
seven_true a b c d e f g ha hb hc hd he hf hg = rw (ha, hb, hc, hd, he, hf, hg) refl

module _ (p : Plan) (attempt : ℕ) (g : Gfid) (kind : Kind) (missed : List ℕ) (b : ℕ) (w : Work) (older : List Line) where
  by_change : (at : Option ℕ) (o : Option Change) → begun_by w ≡ at → change_by w ≡ o → is_position at attempt ≡ true → is_change_of o g kind ≡ true → not (member (over (closing attempt) older) b) ≡ true
      → member (over (doing attempt) older) b ≡ true → suffices p.shape kind (looked_by g (after_last (locks_object g) w)) (over (doing attempt) older) ≡ true → same missed (minus (below p.shape.n) (over (doing attempt) older)) ≡ true
      → is_nothing (minus missed (among refusing (since asks_lock w))) ≡ true → HasGrounds p attempt g kind missed b w older
  by_change (Some k) (Some change) hat ho position of_it once did enough others why = record {
    change = change;
    begun = hat ∙ ap Some (eqb-true k attempt position);
    is_change = ho;
    object = gfid_same g (object_of change) (eqb-true g.0 (object_of change).0 (and_left (g.0 == (object_of change).0) (same_kind kind (kind_for change)) of_it));
    counted = same_kind_yes kind (kind_for change) (and_right (g.0 == (object_of change).0) (same_kind kind (kind_for change)) of_it);
    once = not-true (member (over (closing attempt) older) b) once;
    did = did;
    enough = enough;
    others = same_is missed (minus (below p.shape.n) (over (doing attempt) older)) others;
    why = none_left missed (among refusing (since asks_lock w)) why;
  }
  by_change None o hat ho position of_it once did enough others why = absurd (cc position)
  by_change (Some k) None hat ho position of_it once did enough others why = absurd (cc of_it)

  grounded : has_grounds p attempt g kind missed b w older ≡ true → HasGrounds p attempt g kind missed b w older
  grounded h =
      let t =
      all_seven (is_position (begun_by w) attempt) (is_change_of (change_by w) g kind) (not (member (over (closing attempt) older) b)) (member (over (doing attempt) older) b) (suffices p.shape kind (looked_by g (after_last (locks_object g) w)) (over (doing attempt) older))
      (same missed (minus (below p.shape.n) (over (doing attempt) older))) (is_nothing (minus missed (among refusing (since asks_lock w)))) h in
      by_change (begun_by w) (change_by w) refl refl t.0 t.1 t.2 t.3 t.4 t.5 t.6

  passes : HasGrounds p attempt g kind missed b w older → has_grounds p attempt g kind missed b w older ≡ true
  passes s =
      let object : (g.0 == (object_of s.change).0) ≡ true = ap (λ (h : Gfid). g.0 == h.0) (sym s.object) ∙ same_number g.0 in
      let counted : same_kind kind (kind_for s.change) ≡ true = ap (λ (k : Kind). same_kind kind k) (sym s.counted) ∙ same_kind_self kind in
      seven_true (is_position (begun_by w) attempt) (is_change_of (change_by w) g kind) (not (member (over (closing attempt) older) b)) (member (over (doing attempt) older) b) (suffices p.shape kind (looked_by g (after_last (locks_object g) w)) (over (doing attempt) older))
      (same missed (minus (below p.shape.n) (over (doing attempt) older))) (is_nothing (minus missed (among refusing (since asks_lock w)))) (ap (λ (o : Option ℕ). is_position o attempt) s.begun ∙ same_number attempt)
      (ap (λ (o : Option Change). is_change_of o g kind) s.is_change ∙ and_from (g.0 == (object_of s.change).0) (same_kind kind (kind_for s.change)) object counted) (ap (λ (f : Bool). not f) s.once) s.did s.enough
      (ap (λ (t : List ℕ). same missed t) (sym s.others) ∙ same_self missed) (within_left missed (among refusing (since asks_lock w)) s.why)

  pub grounds_are : (has_grounds p attempt g kind missed b w older ≡ true) ↔ HasGrounds p attempt g kind missed b w older
  grounds_are = (grounded, passes)

-- the same seven tests
pub same_seven : (a a' b b' c c' d d' e e' f f' g g' : Bool) → a ≡ a' → b ≡ b' → c ≡ c' → d ≡ d' → e ≡ e' → f ≡ f' → g ≡ g' → (a && b && c && d && e && f && g) ≡ (a' && b' && c' && d' && e' && f' && g')
same_seven a a' b b' c c' d d' e e' f f' g g' ha hb hc hd he hf hg = rw (ha, hb, hc, hd, he, hf, hg) refl

-- the same looks at the same bricks
pub same_enough : (shape : Shape) (kind : Kind) (l l' : Looked) (s s' : List ℕ) → l ≡ l' → s ≡ s' → suffices shape kind l s ≡ suffices shape kind l' s'
same_enough shape kind l l' s s' hl hs = ap (λ (x : Looked). suffices shape kind x s) hl ∙ ap (λ (t : List ℕ). suffices shape kind l' t) hs
