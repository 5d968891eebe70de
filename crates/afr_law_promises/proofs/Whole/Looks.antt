-- What a register shows was looked at and begun in the present work, and each brick that did the pre-op had shown its copy.
use Rattle.std.proofs.Common.{◌≡◌, ℕ, suc, ◌<◌, ◌≤◌, Bool, true, false, ◌&&◌, not, inl, inr, refl, sym, ◌∙◌, ap, subst, arith, true≢false}
use Rattle.std.specs.Prelude.{None, Option, Some, if◌then◌else◌, ◌==◌}
use Rattle.std.proofs.lemmas.Bool.{cases_lt, eqb-true}
use Rattle.afr_base.specs.Bricks.{and_left}
use Rattle.afr_base.specs.declared.ids.Kind.{Kind}
use Rattle.afr_object.specs.declared.entry.View.{View}
use Rattle.afr_lines.specs.declared.lock.Domain.TheVariants.{Heal, Work}
use Rattle.afr_lines.specs.declared.answer.Told.{Told}
use Rattle.afr_lines.specs.declared.answer.Told.TheVariants.{Done, Granted, Seen}
use Rattle.afr_lines.specs.declared.request.Area.{Area}
use Rattle.afr_lines.specs.declared.request.Request.{Request}
use Rattle.afr_lines.specs.declared.request.Request.TheVariants.{Apply, Lock, Look, Mend, Post, Pre, Settle, Unlock}
use Rattle.afr_model_moves.specs.Discipline.{EndsWork}
use Rattle.afr_model_moves.specs.Lines.{ask_by, look_at}
use Rattle.afr_model_moves.specs.Note.{left_outside, put, stay}
use Rattle.afr_model_moves.specs.Past.{Log, is_gone}
use Rattle.afr_model_moves.specs.Register.{Exact, Open, holder, is_on}
use Rattle.afr_model_moves.specs.Rules as weak
use Rattle.afr_model_moves.specs.Rules.{Register, busy, is_area, no_views}
use Rattle.afr_model_moves.specs.Sets.{empty, with, without}
use Rattle.afr_model_moves.specs.Transaction.{MayPre, Outside}
use Rattle.afr_model_moves.proofs.Tests.{with_cases}
use Rattle.afr_law.proofs.Discipline.Asks.{IsHealLock}
use Rattle.afr_law.proofs.Discipline.Clear.{put_cases}

-- no work of the actor ends from one position up to another
abbrev pub IsOneWork : Log → ℕ → ℕ → ℕ → Type 0
IsOneWork log a from upto = (u : ℕ) → from ≤ u → u < upto → EndsWork a (log u) → ⊥

pub one_more : (log : Log) (a from t : ℕ) → (EndsWork a (log t) → ⊥) → IsOneWork log a from t → IsOneWork log a from (suc t)
one_more log a from t unended work u low high ends = elim (cases_lt u t) [
  | inl early ↦ work u low early ends
  | inr late ↦ (let here : u ≡ t = omega (arith, late, high) in unended (subst (λ (k : ℕ). EndsWork a (log k)) here ends))
]

-- a look of the present work at an object of the area that showed this view
pub record SeenHere (log : Log) (t a x : ℕ) (area : Option Area) (view : View) : Type 0 where
  pub l : ℕ
  pub g : ℕ
  pub past : l < t
  pub is : log l ≡ Some (ask_by a x (look_at g) (Seen view) true)
  pub on : is_on area g ≡ true
  pub work : IsOneWork log a l t

-- views are of looks of the present work, which has the Begin line too; and who did the pre-op had shown a copy
pub record Stands (log : Log) (t a : ℕ) (area : Option Area) (views : ℕ → Option View) (pre : ℕ → Bool) (number : ℕ) : Type 0 where
  pub looks : (x : ℕ) (view : View) → views x ≡ Some view → SeenHere log t a x area view
  pub begun : (q : ℕ) → number ≡ suc q → IsOneWork log a q t
  pub holders : (x : ℕ) → pre x ≡ true → holder views x ≡ true
  pub idle : number ≡ 0 → (x : ℕ) → pre x ≡ false

-- the same of a register
abbrev pub StandsOf : Log → ℕ → ℕ → Exact → Register → Type 0
StandsOf log t a r w = Stands log t a w.area r.views w.pre w.number

pub stands_new : (log : Log) (t a : ℕ) (area : Option Area) → Stands log t a area (λ x. None) empty 0
stands_new log t a area = record {
  looks = λ x view e. absurd (cc e);
  begun = λ q e. absurd (cc e);
  holders = λ x h. absurd (true≢false (sym h));
  idle = λ e x. refl;
}

pub stands_next : (log : Log) (t a : ℕ) (area : Option Area) (views : ℕ → Option View) (pre : ℕ → Bool) (number : ℕ) → (EndsWork a (log t) → ⊥) → Stands log t a area views pre number → Stands log (suc t) a area views pre number
stands_next log t a area views pre number unended s = record {
  looks = λ x view e. (let w = s.looks x view e in record { l = w.l; g = w.g; past = omega (arith, w.past); is = w.is; on = w.on; work = one_more log a w.l t unended w.work });
  begun = λ q e. one_more log a q t unended (s.begun q e);
  holders = s.holders;
  idle = s.idle;
}

module _ (n : ℕ) (keeps : ℕ → Kind → Bool) (log : Log) (t a b : ℕ) (r : Exact) (unended : EndsWork a (log t) → ⊥) (s : StandsOf log t a r r.law) where
  now : StandsOf log (suc t) a r r.law
  now = stands_next log t a r.law.area r.views r.law.pre r.law.number unended s

  -- a look that counts comes before the Begin line
  looked : (told : Option View) → ((view : View) → told ≡ Some view → (g : ℕ) × (log t ≡ Some (ask_by a b (look_at g) (Seen view) true)) × (is_on r.law.area g ≡ true)) → r.law.number ≡ 0
      → Stands log (suc t) a r.law.area (put r.views b told) r.law.pre r.law.number
  looked told is none = record {
    looks = λ x view k. elim (put_cases r.views b x told view k) [
      | inl w ↦ (let shown = is view w.1 in subst (λ y. SeenHere log (suc t) a y r.law.area view) (sym w.0) (record { l = t; g = shown.0; past = omega arith; is = shown.1; on = shown.2; work = λ u low high ends. unended (subst (λ (k : ℕ). EndsWork a (log k)) (omega (arith, low, high)) ends) }))
      | inr old ↦ now.looks x view old
    ];
    begun = now.begun;
    holders = λ x h. absurd (true≢false (sym h ∙ s.idle none x));
    idle = now.idle;
  }

  abbrev pub Left : Request → Told → Type 0
  Left request told = StandsOf log (suc t) a (left_outside n r b request told) (weak.dropping (is_gone told) b (weak.note_ask n r.law b request told))

  locked : (area : Area) (some : Bool) → Stands log (suc t) a (if some then record r.law { second = weak.second_of r.law area } else weak.begun r.law area).area
      (if some then stay r else record r { step = Open; asked = empty; unlocked = false; reached = empty; views = no_views }).views
      (if some then record r.law { second = weak.second_of r.law area } else weak.begun r.law area).pre (if some then record r.law { second = weak.second_of r.law area } else weak.begun r.law area).number
  locked area true = now
  locked area false = stands_new log (suc t) a (Some area)

  granted : (area : Area) (some own : Bool) → Stands log (suc t) a
      (if some && not own then record r.law { second = Some area; second_held = with r.law.second_held b } else (let s = if some then record r.law { second = weak.second_of r.law area } else weak.begun r.law area in record s { held = with s.held b })).area
      (if some then stay r else record r { step = Open; asked = empty; unlocked = false; reached = empty; views = no_views }).views
      (if some && not own then record r.law { second = Some area; second_held = with r.law.second_held b } else (let s = if some then record r.law { second = weak.second_of r.law area } else weak.begun r.law area in record s { held = with s.held b })).pre
      (if some && not own then record r.law { second = Some area; second_held = with r.law.second_held b } else (let s = if some then record r.law { second = weak.second_of r.law area } else weak.begun r.law area in record s { held = with s.held b })).number
  granted area true true = now
  granted area true false = now
  granted area false own = stands_new log (suc t) a (Some area)

  freed : (area : Area) (own : Bool) → Stands log (suc t) a (if own then record r.law { closed = with r.law.closed b; held = without r.law.held b } else record r.law { second_held = weak.second_freed r.law area b }).area r.views
      (if own then record r.law { closed = with r.law.closed b; held = without r.law.held b } else record r.law { second_held = weak.second_freed r.law area b }).pre
      (if own then record r.law { closed = with r.law.closed b; held = without r.law.held b } else record r.law { second_held = weak.second_freed r.law area b }).number
  freed area true = now
  freed area false = now

  tried : (own : Bool) → Stands log (suc t) a (if own then record r.law { closed = with r.law.closed b } else r.law).area r.views (if own then record r.law { closed = with r.law.closed b } else r.law).pre
      (if own then record r.law { closed = with r.law.closed b } else r.law).number
  tried true = now
  tried false = now

  zero_is : (m : ℕ) (held : Bool) → ((m == 0) && held) ≡ true → m ≡ 0
  zero_is m held e = eqb-true m 0 (and_left (m == 0) held e)

  -- a look that showed a view
  saw : (g : ℕ) (view : View) → log t ≡ Some (ask_by a b (look_at g) (Seen view) true) → (heal : Bool) → heal ≡ false
      → Stands log (suc t) a (if heal then weak.viewed r.law b g view else weak.looked r.law b).area (if (r.law.number == 0) && r.law.held b && is_on r.law.area g then put r.views b (Some view) else r.views)
      (if heal then weak.viewed r.law b g view else weak.looked r.law b).pre (if heal then weak.viewed r.law b g view else weak.looked r.law b).number
  saw g view is true e = absurd (true≢false e)
  saw g view is false e = go ((r.law.number == 0) && r.law.held b) refl (is_on r.law.area g) refl
    where
      one : (on : Bool) → is_on r.law.area g ≡ on → (v : View) → Some view ≡ Some v → (h : ℕ) × (log t ≡ Some (ask_by a b (look_at h) (Seen v) true)) × (is_on r.law.area h ≡ on)
      one on f v k = (let same : view ≡ v = cc k in (g, is ∙ ap (λ (u : View). Some (ask_by a b (look_at g) (Seen u) true)) same, f))

      go : (counts : Bool) → ((r.law.number == 0) && r.law.held b) ≡ counts → (on : Bool) → is_on r.law.area g ≡ on
          → Stands log (suc t) a (if counts then record r.law { seen = with r.law.seen b } else r.law).area (if counts && on then put r.views b (Some view) else r.views)
          (if counts then record r.law { seen = with r.law.seen b } else r.law).pre (if counts then record r.law { seen = with r.law.seen b } else r.law).number
      go false f on k = now
      go true f false k = now
      go true f true k = looked (Some view) (λ v e. one true k v e) (zero_is r.law.number (r.law.held b) f)

  -- one that showed none
  unseen : (counts on : Bool) → ((r.law.number == 0) && r.law.held b) ≡ counts → Stands log (suc t) a r.law.area (if counts && on then put r.views b None else r.views) r.law.pre r.law.number
  unseen false on e = now
  unseen true false e = now
  unseen true true e = looked None (λ v k. absurd (cc k)) (zero_is r.law.number (r.law.held b) e)

  -- a pre-op at a brick that showed a copy
  prepared : (g : ℕ) (kind : Kind) → MayPre n r b g kind → Stands log (suc t) a r.law.area r.views (with r.law.pre b) r.law.number
  prepared g kind may = record {
    looks = now.looks;
    begun = now.begun;
    holders = λ x h. elim (with_cases r.law.pre b x h) [ inl here ↦ subst (λ (y : ℕ). holder r.views y ≡ true) (sym here) may.holds | inr was ↦ s.holders x was ];
    idle = λ none. absurd (may.begun_already none);
  }

  dropped : (gone : Bool) → StandsOf log (suc t) a r (weak.dropping gone b r.law)
  dropped true = now
  dropped false = now

  pub stands_asked : (request : Request) (told : Told) → ((g : ℕ) (view : View) → request ≡ look_at g → told ≡ Seen view → log t ≡ Some (ask_by a b (look_at g) (Seen view) true)) → r.law.heal ≡ false → Outside n keeps r b request → (IsHealLock request → ⊥) → Left request told
  stands_asked (Lock Work area) Granted is out may other = granted area (busy n r.law) (is_area r.law.area area)
  stands_asked (Lock Work area) _ is out may other = locked area (busy n r.law)
  stands_asked (Lock Heal area) told is out may other = absurd (other tt)
  stands_asked (Unlock Work area) Done is out may other = freed area (is_area r.law.area area)
  stands_asked (Unlock Work area) _ is out may other = tried (is_area r.law.area area)
  stands_asked (Unlock Heal area) Done is out may other = now
  stands_asked (Unlock Heal area) _ is out may other = now
  stands_asked (Look g) (Seen view) is out may other = saw g.0 view (is g.0 view refl refl) r.law.heal out
  stands_asked (Look g) _ is out may other = unseen ((r.law.number == 0) && r.law.held b) (is_on r.law.area g.0) refl
  stands_asked (Mend repair) told is out may other = absurd may
  stands_asked (Settle g kind less) told is out may other = absurd may
  stands_asked (Pre g kind) Done is out may other = prepared g.0 kind may
  stands_asked (Pre g kind) _ is out may other = now
  stands_asked (Apply q) Done is out may other = now
  stands_asked (Apply q) _ is out may other = now
  stands_asked (Post q g kind missed) Done is out may other = now
  stands_asked (Post q g kind missed) _ is out may other = now
  stands_asked _ told is out may other = dropped (is_gone told)
