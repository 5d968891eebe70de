-- The views of a heal: those of the first looks, and those of the present ones, as the register of the law has them.
use Rattle.afr_base.specs.Majority.{is_most}
use Rattle.afr_base.specs.declared.ids.Kind.{Kind}
use Rattle.afr_law.proofs.Discipline.Clear.{put_cases}
use Rattle.afr_model_moves.specs.Note.{put}
use Rattle.afr_model_moves.specs.Register.{Exact, Finish, HealPart, Looks, Opening, Piece, Step, asked_in, holder, rank}
use Rattle.afr_model_moves.specs.Steps.{goes_on, looks_at, looks_over, other}
use Rattle.afr_law.proofs.Discipline.Firsts.{FirstsOf}
use Rattle.afr_law.proofs.Heals.Areas.{opening_or}
use Rattle.afr_law.proofs.Heals.Conditions.{asked_now, goes_enough, looks_far, looks_is, looks_passed, over_at, passed_over}
use Rattle.afr_model_moves.specs.Honest.{asks}
use Rattle.afr_model_moves.specs.Lines.{ask_by, look_at}
use Rattle.afr_model_moves.specs.Past.{Log, object}
use Rattle.afr_model_moves.specs.Sets.{with}
use Rattle.afr_lines.specs.declared.answer.Told.TheVariants.{Seen}
use Rattle.afr_object.specs.declared.entry.View.{View}
use Rattle.std.proofs.Common.{Bool, ap, arith, false, inl, inr, not, refl, subst, suc, sym, true, true≢false, ℕ, ◌<◌, ◌∙◌, ◌≡◌, ◌≤◌, ◌⊎◌}
use Rattle.std.proofs.lemmas.Bool.Decides.{nat_tests}
use Rattle.std.specs.Prelude.{None, Option, Some, if◌then◌else◌, nat_le, ◌==◌}
use Rattle.afr_model_moves.specs.Rules.{Register, is_none}
use Rattle.afr_model_moves.proofs.Tests.{with_false, with_cases}

-- a look of the actor showed the object there
pub record SeenAt (log : Log) (t a x object : ℕ) : Type 0 where
  pub l : ℕ
  pub view : View
  pub past : l < t
  pub is : log l ≡ Some (ask_by a x (look_at object) (Seen view) true)

-- the views are those that the law has, at first and at present, and a copy that was seen is seen again
pub record Sights (n : ℕ) (log : Log) (t a : ℕ) (step : Step) (part : HealPart) (asked : ℕ → Bool) (object number start : ℕ) (views first_views saw saw_first : ℕ → Option View) : Type 0 where
  pub started : part ≡ Opening → 7 ≤ rank step → number ≡ start
  pub none : part ≡ Opening → rank step ≤ 6 → (x : ℕ) → saw_first x ≡ None
  pub untaken : part ≡ Opening → step ≡ Looks → (x : ℕ) → asked x ≡ false → saw_first x ≡ None
  pub first : (x : ℕ) (v : View) → first_views x ≡ Some v → saw_first x ≡ Some v
  pub view : 7 ≤ rank step → rank step ≤ 11 → (x : ℕ) (v : View) → views x ≡ Some v → saw x ≡ Some v
  pub same : part ≡ Opening → 7 ≤ rank step → rank step ≤ 11 → (x : ℕ) → first_views x ≡ views x
  pub origin : (x : ℕ) (v : View) → first_views x ≡ Some v → SeenAt log t a x object
  pub again : (part ≡ Opening → ⊥) → step ≡ Looks → (x : ℕ) → asked x ≡ true → holder first_views x ≡ true → holder views x ≡ true
  pub still : (part ≡ Opening → ⊥) → 8 ≤ rank step → rank step ≤ 11 → (x : ℕ) → x < n → holder first_views x ≡ true → holder views x ≡ true
  pub enough : (part ≡ Opening → ⊥) ⊎ (8 ≤ rank step) → is_most n (holder first_views) ≡ true

-- the same of a register
abbrev pub SightsIn : ℕ → Log → ℕ → ℕ → Exact → Register → Type 0
SightsIn n log t a r w = Sights n log t a r.step r.part r.asked w.object w.number w.start r.views r.first_views w.view w.first

pub seen_next : (log : Log) (t a x object : ℕ) → SeenAt log t a x object → SeenAt log (suc t) a x object
seen_next log t a x object w = record { l = w.l; view = w.view; past = omega (arith, w.past); is = w.is }

pub put_same : (f : ℕ → Option View) (b : ℕ) (v : Option View) → put f b v b ≡ v
put_same f b v = (let hit : (b == b) ≡ true = grind (arith, nat_tests) in rw hit refl)

pub put_other : (f : ℕ → Option View) (b x : ℕ) (v : Option View) → (x ≡ b → ⊥) → put f b v x ≡ f x
put_other f b x v other = (let miss : (x == b) ≡ false = grind (arith, nat_tests) in rw miss refl)

pub here_or : (b x : ℕ) → (x ≡ b) ⊎ (x ≡ b → ⊥)
here_or b x = go (x == b) refl
  where
    go : (hit : Bool) → (x == b) ≡ hit → (x ≡ b) ⊎ (x ≡ b → ⊥)
    go true e = inl (grind (arith, nat_tests))
    go false e = inr (λ k. grind (arith, nat_tests))

pub none_view : (views : ℕ → Option View) (x : ℕ) → holder views x ≡ false → views x ≡ None
none_view views x h = go (views x) refl h
  where
    go : (v : Option View) → views x ≡ v → not (is_none v) ≡ false → views x ≡ None
    go None e k = e
    go (Some v) e k = absurd (true≢false k)

module _ (n : ℕ) (keeps : ℕ → Kind → Bool) (log : Log) (t a : ℕ) (r : Exact) (f : FirstsOf r) (h : SightsIn n log t a r r.law) where
  -- a step after the looks, which are over
  pub after_looks : (source : ℕ) (next : Step) (asks : ℕ → Bool) (w : Register) → 8 ≤ rank next → goes_on n keeps r source ≡ true → looks_over n keeps r source ≡ true → (rank next ≤ 11 → rank r.step ≤ 11)
      → w.object ≡ r.law.object → w.number ≡ r.law.number → w.start ≡ r.law.start → w.view ≡ r.law.view → w.first ≡ r.law.first
      → Sights n log (suc t) a next r.part asks w.object w.number w.start r.views r.first_views w.view w.first
  after_looks source next asks w far goes over_now low object number start saw first = record {
    started = λ e k. number ∙ h.started e was_far ∙ sym start;
    none = λ e k. absurd (omega (arith, far, k));
    untaken = λ e k. absurd (not_looks (ap rank k));
    first = λ x v e. ap (λ (f : ℕ → Option View). f x) first ∙ h.first x v e;
    view = λ k m x v e. ap (λ (f : ℕ → Option View). f x) saw ∙ h.view was_far (low m) x v e;
    same = λ e k m. h.same e was_far (low m);
    origin = λ x v e. subst (λ g. SeenAt log (suc t) a x g) (sym object) (seen_next log t a x r.law.object (h.origin x v e));
    again = λ later k. absurd (not_looks (ap rank k));
    still = λ later k m x below e. seen_again later (low m) x below e;
    enough = λ k. elim (opening_or r.part) [ inl e ↦ goes_enough n keeps r source goes e | inr later ↦ h.enough (inl later) ];
  }
    where
      was_far : 7 ≤ rank r.step
      was_far = looks_far n keeps r source over_now

      not_looks : rank next ≡ 7 → ⊥
      not_looks e = omega (arith, far, e)

      later_set : (p : HealPart) → (p ≡ Opening → ⊥) → looks_at r p ≡ r.first_reached
      later_set Opening k = absurd (k refl)
      later_set Piece k = refl
      later_set Finish k = refl

      seen_again : (r.part ≡ Opening → ⊥) → rank r.step ≤ 11 → (x : ℕ) → x < n → holder r.first_views x ≡ true → holder r.views x ≡ true
      seen_again later under x below e = go (nat_le 8 (rank r.step)) refl
        where
          at_least : (m : ℕ) → nat_le 8 m ≡ true → 8 ≤ m
          at_least m k = grind (arith, nat_tests)

          at_most : (m : ℕ) → nat_le 8 m ≡ false → m ≤ 7
          at_most m k = grind (arith, nat_tests)

          go : (more : Bool) → nat_le 8 (rank r.step) ≡ more → holder r.views x ≡ true
          go true k = h.still later (at_least (rank r.step) k) under x below e
          go false k = (
              let seven : rank r.step ≤ 7 = at_most (rank r.step) k in
              let at : r.step ≡ Looks = looks_is r.step (omega (arith, seven, was_far)) in
              let all_asked = passed_over n keeps r source Looks (looks_passed n keeps r source over_now) seven in
              h.again later at x (ap (λ (f : ℕ → Bool). f x) (sym (asked_now r Looks at)) ∙ over_at n (looks_at r r.part) (asked_in r Looks) all_asked x below (ap (λ (f : ℕ → Bool). f x) (later_set r.part later) ∙ f.reached x e)) e
              )

put_map : (f g : ℕ → Option View) (b x : ℕ) (new : Option View) (v : View) → (f x ≡ Some v → g x ≡ Some v) → put f b new x ≡ Some v → put g b new x ≡ Some v
put_map f g b x new v k = go (x == b)
  where
    go : (hit : Bool) → (if hit then new else f x) ≡ Some v → (if hit then new else g x) ≡ Some v
    go true e = e
    go false e = k e

put_eq : (f g : ℕ → Option View) (b x : ℕ) (new : Option View) → f x ≡ g x → put f b new x ≡ put g b new x
put_eq f g b x new k = go (x == b)
  where
    go : (hit : Bool) → (if hit then new else f x) ≡ (if hit then new else g x)
    go true = refl
    go false = k

put_none : (f : ℕ → Option View) (b x : ℕ) (v : View) → put f b None x ≡ Some v → f x ≡ Some v
put_none f b x v = go (x == b)
  where
    go : (hit : Bool) → (if hit then None else f x) ≡ Some v → f x ≡ Some v
    go true e = absurd (cc e)
    go false e = e

holder_some : (views : ℕ → Option View) (x : ℕ) (v : View) → views x ≡ Some v → holder views x ≡ true
holder_some views x v e = rw e refl

-- a look
module _ (n : ℕ) (keeps : ℕ → Kind → Bool) (log : Log) (t a b : ℕ) (r : Exact) (at : r.step ≡ Looks) (h : SightsIn n log t a r r.law) where
  far : 7 ≤ rank r.step
  far = (let seven : rank r.step ≡ 7 = ap rank at in omega (arith, seven))

  low : rank r.step ≤ 11
  low = (let seven : rank r.step ≡ 7 = ap rank at in omega (arith, seven))

  abbrev pub firstly : View → Register
  firstly view = record r.law { view = put r.law.view b (Some view); first = put r.law.first b (Some view) }

  abbrev pub Looked : (ℕ → Bool) → (ℕ → Option View) → (ℕ → Option View) → Register → Type 0
  Looked asks views first_views w = Sights n log (suc t) a Looks r.part asks w.object w.number w.start views first_views w.view w.first

  pub origin_next : (x : ℕ) (v : View) → r.first_views x ≡ Some v → SeenAt log (suc t) a x r.law.object
  origin_next x v e = seen_next log t a x r.law.object (h.origin x v e)

  pub opening_seen : r.part ≡ Opening → (view : View) → log t ≡ Some (ask_by a b (look_at r.law.object) (Seen view) true)
      → Looked (with r.asked b) (put r.views b (Some view)) (put r.first_views b (Some view)) (firstly view)
  opening_seen e view is = record {
    started = λ k m. h.started e far;
    none = λ k m. absurd (omega (arith, m));
    untaken = λ k m x asks. (let w = with_false r.asked b x asks in put_other r.law.first b x (Some view) w.0 ∙ h.untaken e at x w.1);
    first = λ x v k. put_map r.first_views r.law.first b x (Some view) v (h.first x v) k;
    view = λ k m x v l. put_map r.views r.law.view b x (Some view) v (h.view far low x v) l;
    same = λ k m l x. put_eq r.first_views r.views b x (Some view) (h.same e far low x);
    origin = λ x v k. elim (put_cases r.first_views b x (Some view) v k) [
      | inl w ↦ subst (λ y. SeenAt log (suc t) a y r.law.object) (sym w.0) (record { l = t; view = view; past = omega arith; is = is })
      | inr old ↦ origin_next x v old
    ];
    again = λ later. absurd (later e);
    still = λ later. absurd (later e);
    enough = λ k. elim k [ inl later ↦ absurd (later e) | inr more ↦ absurd (omega (arith, more)) ];
  }

  pub opening_not : r.part ≡ Opening → (asks : ℕ → Bool) → ((x : ℕ) → asks x ≡ false → r.asked x ≡ false) → Looked asks (put r.views b None) (put r.first_views b None) r.law
  opening_not e asks more = record {
    started = λ k m. h.started e far;
    none = λ k m. absurd (omega (arith, m));
    untaken = λ k m x not_asked. h.untaken e at x (more x not_asked);
    first = λ x v k. h.first x v (put_none r.first_views b x v k);
    view = λ k m x v l. h.view far low x v (put_none r.views b x v l);
    same = λ k m l x. put_eq r.first_views r.views b x None (h.same e far low x);
    origin = λ x v k. origin_next x v (put_none r.first_views b x v k);
    again = λ later. absurd (later e);
    still = λ later. absurd (later e);
    enough = λ k. elim k [ inl later ↦ absurd (later e) | inr more ↦ absurd (omega (arith, more)) ];
  }

  -- later looks leave the first views
  pub later_seen : (r.part ≡ Opening → ⊥) → (view : View) (first : ℕ → Option View) → ((x : ℕ) (v : View) → r.law.first x ≡ Some v → first x ≡ Some v)
      → Looked (with r.asked b) (put r.views b (Some view)) r.first_views (record r.law { view = put r.law.view b (Some view); first = first })
  later_seen later view first k = record {
    started = λ e. absurd (later e);
    none = λ e. absurd (later e);
    untaken = λ e. absurd (later e);
    first = λ x v m. k x v (h.first x v m);
    view = λ l m x v o. put_map r.views r.law.view b x (Some view) v (h.view far low x v) o;
    same = λ e. absurd (later e);
    origin = origin_next;
    again = λ l m x asks holds. elim (here_or b x) [
      | inl here ↦ holder_some (put r.views b (Some view)) x view (ap (λ y. put r.views b (Some view) y) here ∙ put_same r.views b (Some view))
      | inr other ↦ elim (with_cases r.asked b x asks) [
        | inl here ↦ absurd (other here)
        | inr was ↦ ap (λ (o : Option View). not (is_none o)) (put_other r.views b x (Some view) other) ∙ h.again later at x was holds
      ]
    ];
    still = λ l m. absurd (omega (arith, m));
    enough = λ m. h.enough (inl later);
  }

  pub later_not : (r.part ≡ Opening → ⊥) → (asks : ℕ → Bool) → ((x : ℕ) → (x ≡ b → ⊥) → asks x ≡ true → r.asked x ≡ true) → (holder r.first_views b ≡ true → ⊥) → Looked asks (put r.views b None) r.first_views r.law
  later_not later asks more gone = record {
    started = λ e. absurd (later e);
    none = λ e. absurd (later e);
    untaken = λ e. absurd (later e);
    first = h.first;
    view = λ l m x v o. h.view far low x v (put_none r.views b x v o);
    same = λ e. absurd (later e);
    origin = origin_next;
    again = λ l m x was holds. elim (here_or b x) [
      | inl here ↦ absurd (gone (subst (λ y. holder r.first_views y ≡ true) here holds))
      | inr other ↦ ap (λ (o : Option View). not (is_none o)) (put_other r.views b x None other) ∙ h.again later at x (more x other was) holds
    ];
    still = λ l m. absurd (omega (arith, m));
    enough = λ m. h.enough (inl later);
  }
