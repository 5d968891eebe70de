-- What the exact register says of a transaction before its first unlock.
use Rattle.afr_base.specs.declared.ids.Kind.{Kind}
use Rattle.afr_law.proofs.Discipline.Asks.{IsHealLock}
use Rattle.afr_model_moves.specs.Cells.{what_code}
use Rattle.afr_model_moves.specs.Note.{left_outside, put, stay}
use Rattle.afr_model_moves.specs.Register.{Exact, IsArea, Open, is_on}
use Rattle.afr_model_moves.specs.Steps.{other}
use Rattle.afr_model_moves.specs.Transaction.{LiesIn, MayWork, Outside}
use Rattle.afr_model_moves.specs.Rules.{busy, fits_change, is_area, no_views, unlocked, Register}
use Rattle.afr_model_moves.specs.Lines.{ask_by, begin_by, look_at}
use Rattle.afr_model_moves.specs.Past.{Log, is_gone}
use Rattle.afr_model_moves.specs.Sets.{empty, with, without}
use Rattle.afr_lines.specs.declared.answer.Told.{Told}
use Rattle.afr_lines.specs.declared.answer.Told.TheVariants.{Done, Granted, Seen}
use Rattle.afr_lines.specs.declared.request.Area.{Area}
use Rattle.afr_lines.specs.declared.request.Request.{Request}
use Rattle.afr_lines.specs.declared.request.Request.TheVariants.{Apply, Lock, Look, Mend, Post, Pre, Settle, Unlock}
use Rattle.afr_object.specs.declared.change.Change.{Change}
use Rattle.afr_object.specs.declared.entry.View.{View}
use Rattle.afr_lines.specs.declared.lock.Domain.TheVariants.{Heal, Work}
use Rattle.std.proofs.Common.{Bool, arith, false, inl, inr, not, refl, subst, suc, sym, true, true≢false, ℕ, ◌&&◌, ◌<◌, ◌||◌, ◌≡◌, ◌⊎◌}
use Rattle.std.proofs.lemmas.Bool.Decides.{nat_tests}
use Rattle.std.specs.Prelude.{None, Option, Some, if◌then◌else◌, ◌==◌}
use Rattle.afr_model_moves.specs.Rules as weak
use Rattle.afr_base.specs.Bricks.{and_left}
use Rattle.afr_model_moves.proofs.Tests.{with_more, with_self, no_number}

-- what the views and the Begin of a transaction stand on
pub record Looked (log : Log) (t a x : ℕ) (seen : Bool) (area : Option Area) (number : ℕ) (view : View) : Type 0 where
  pub counted : seen ≡ true
  pub l : ℕ
  pub g : ℕ
  pub past : l < t
  pub is : log l ≡ Some (ask_by a x (look_at g) (Seen view) true)
  pub on : is_on area g ≡ true
  pub before : (q : ℕ) → number ≡ suc q → l < q

-- the Begin of a transaction, whose change lies in the area and fits the views
pub record Started (n : ℕ) (log : Log) (a q : ℕ) (area : Option Area) (views : ℕ → Option View) : Type 0 where
  pub change : Change
  pub is : log q ≡ Some (begin_by a change)
  pub lies : LiesIn area change
  pub fits : (x : ℕ) (view : View) → x < n → views x ≡ Some view → fits_change (what_code view.what) change ≡ true

-- before the first unlock the area is open, and views and Begin stand on lines
pub record Clear (n : ℕ) (log : Log) (t a : ℕ) (unlocked : Bool) (closed : ℕ → Bool) (area : Option Area) (views : ℕ → Option View) (seen : ℕ → Bool) (number : ℕ) : Type 0 where
  pub open_still : unlocked ≡ false → (x : ℕ) → closed x ≡ false
  pub valid : (mine : Area) → area ≡ Some mine → IsArea mine
  pub looks : (x : ℕ) (view : View) → views x ≡ Some view → Looked log t a x (seen x) area number view
  pub begun : (q : ℕ) → number ≡ suc q → Started n log a q area views

-- the same of a register
abbrev pub ClearOf : ℕ → Log → ℕ → ℕ → Exact → Register → Type 0
ClearOf n log t a r w = Clear n log t a r.unlocked w.closed w.area r.views w.seen w.number

pub clear_new : (n : ℕ) (log : Log) (t a : ℕ) (area : Option Area) → ((mine : Area) → area ≡ Some mine → IsArea mine) → Clear n log t a false empty area (λ x. None) empty 0
clear_new n log t a area valid = record {
  open_still = λ e x. refl;
  valid = valid;
  looks = λ x view e. absurd (cc e);
  begun = λ q e. absurd (cc e);
}

pub clear_fresh : (n : ℕ) (log : Log) (t a : ℕ) → Clear n log t a false empty None (λ x. None) empty 0
clear_fresh n log t a = clear_new n log t a None (λ mine e. absurd (cc e))

looked_next : (log : Log) (t a x : ℕ) (seen : Bool) (area : Option Area) (number : ℕ) (view : View) → Looked log t a x seen area number view → Looked log (suc t) a x seen area number view
looked_next log t a x seen area number view w = record { counted = w.counted; l = w.l; g = w.g; past = omega (arith, w.past); is = w.is; on = w.on; before = w.before }

pub clear_next : (n : ℕ) (log : Log) (t a : ℕ) (unlocked : Bool) (closed : ℕ → Bool) (area : Option Area) (views : ℕ → Option View) (seen : ℕ → Bool) (number : ℕ)
    → Clear n log t a unlocked closed area views seen number → Clear n log (suc t) a unlocked closed area views seen number
clear_next n log t a unlocked closed area views seen number c = record {
  open_still = c.open_still;
  valid = c.valid;
  looks = λ x view e. looked_next log t a x (seen x) area number view (c.looks x view e);
  begun = c.begun;
}

pub put_cases : (views : ℕ → Option View) (b x : ℕ) (new : Option View) (view : View) → put views b new x ≡ Some view → ((x ≡ b) × (new ≡ Some view)) ⊎ (views x ≡ Some view)
put_cases views b x new view e = go (x == b) refl e
  where
    go : (hit : Bool) → (x == b) ≡ hit → (if hit then new else views x) ≡ Some view → ((x ≡ b) × (new ≡ Some view)) ⊎ (views x ≡ Some view)
    go true k f = inl (grind (arith, nat_tests), f)
    go false k f = inr f

module _ (n : ℕ) (log : Log) (t a b : ℕ) (r : Exact) (c : ClearOf n log t a r r.law) where
  next : ClearOf n log (suc t) a r r.law
  next = clear_next n log t a r.unlocked r.law.closed r.law.area r.views r.law.seen r.law.number c

  -- a look that showed a view
  saw : (g : ℕ) (view : View) → log t ≡ Some (ask_by a b (look_at g) (Seen view) true) → (counts on : Bool) → ((r.law.number == 0) && r.law.held b) ≡ counts → is_on r.law.area g ≡ on
      → Clear n log (suc t) a r.unlocked (if counts then record r.law { seen = with r.law.seen b } else r.law).closed (if counts then record r.law { seen = with r.law.seen b } else r.law).area
      (if counts && on then put r.views b (Some view) else r.views) (if counts then record r.law { seen = with r.law.seen b } else r.law).seen (if counts then record r.law { seen = with r.law.seen b } else r.law).number
  saw g view is false on e f = next
  saw g view is true on e f = go on f
    where
      more : (x : ℕ) (v : View) → Looked log t a x (r.law.seen x) r.law.area r.law.number v → Looked log (suc t) a x (with r.law.seen b x) r.law.area r.law.number v
      more x v w = record { counted = with_more r.law.seen b x w.counted; l = w.l; g = w.g; past = omega (arith, w.past); is = w.is; on = w.on; before = w.before }

      none : (q : ℕ) → r.law.number ≡ suc q → ⊥
      none q k = no_number r.law.number q (and_left (r.law.number == 0) (r.law.held b) e) k

      go : (on : Bool) → is_on r.law.area g ≡ on → Clear n log (suc t) a r.unlocked r.law.closed r.law.area (if on then put r.views b (Some view) else r.views) (with r.law.seen b) r.law.number
      go false f = record {
        open_still = c.open_still;
        valid = c.valid;
        looks = λ x v k. more x v (c.looks x v k);
        begun = c.begun;
      }
      go true f = record {
        open_still = c.open_still;
        valid = c.valid;
        looks = λ x v k. elim (put_cases r.views b x (Some view) v k) [
          | inl w ↦ (let same : view ≡ v = cc (w.1) in
              subst (λ (u : View). Looked log (suc t) a x (with r.law.seen b x) r.law.area r.law.number u) same
              (subst (λ y. Looked log (suc t) a y (with r.law.seen b y) r.law.area r.law.number view) (sym w.0)
              (record { counted = with_self r.law.seen b; l = t; g = g; past = omega arith; is = is; on = f; before = λ q k. absurd (none q k) })))
          | inr old ↦ more x v (c.looks x v old)
        ];
        begun = λ q k. absurd (none q k);
      }

  -- a look that showed none
  missed_look : (counts on : Bool) → ((r.law.number == 0) && r.law.held b) ≡ counts
      → Clear n log (suc t) a r.unlocked r.law.closed r.law.area (if counts && on then put r.views b None else r.views) r.law.seen r.law.number
  missed_look false on e = next
  missed_look true false e = next
  missed_look true true e = record {
    open_still = c.open_still;
    valid = c.valid;
    looks = λ x v k. elim (put_cases r.views b x None v k) [ inl w ↦ absurd (cc (w.1)) | inr old ↦ next.looks x v old ];
    begun = λ q k. absurd (no_number r.law.number q (and_left (r.law.number == 0) (r.law.held b) e) k);
  }

-- the area of a new transaction
valid_some : (area mine : Area) → IsArea area → Some area ≡ Some mine → IsArea mine
valid_some area mine v e = (let same : area ≡ mine = cc e in subst IsArea same v)

module _ (n : ℕ) (keeps : ℕ → Kind → Bool) (log : Log) (t a b : ℕ) (r : Exact) (c : ClearOf n log t a r r.law) where
  abbrev Left : Request → Told → Type 0
  Left request told = ClearOf n log (suc t) a (left_outside n r b request told) (weak.dropping (is_gone told) b (weak.note_ask n r.law b request told))

  now : ClearOf n log (suc t) a r r.law
  now = clear_next n log t a r.unlocked r.law.closed r.law.area r.views r.law.seen r.law.number c

  renew : (area : Area) → IsArea area → Clear n log (suc t) a false empty (Some area) (λ x. None) empty 0
  renew area valid = clear_new n log (suc t) a (Some area) (λ mine e. valid_some area mine valid e)

  locked : (area : Area) → MayWork n r area → (some : Bool) → Clear n log (suc t) a (if some then stay r else record r { step = Open; asked = empty; unlocked = false; reached = empty; views = no_views }).unlocked
      (if some then record r.law { second = weak.second_of r.law area } else weak.begun r.law area).closed (if some then record r.law { second = weak.second_of r.law area } else weak.begun r.law area).area
      (if some then stay r else record r { step = Open; asked = empty; unlocked = false; reached = empty; views = no_views }).views
      (if some then record r.law { second = weak.second_of r.law area } else weak.begun r.law area).seen (if some then record r.law { second = weak.second_of r.law area } else weak.begun r.law area).number
  locked area may true = now
  locked area may false = renew area may.valid

  granted : (area : Area) → MayWork n r area → (some own : Bool) → Clear n log (suc t) a (if some then stay r else record r { step = Open; asked = empty; unlocked = false; reached = empty; views = no_views }).unlocked
      (if some && not own then record r.law { second = Some area; second_held = with r.law.second_held b } else (let s = if some then record r.law { second = weak.second_of r.law area } else weak.begun r.law area in record s { held = with s.held b })).closed
      (if some && not own then record r.law { second = Some area; second_held = with r.law.second_held b } else (let s = if some then record r.law { second = weak.second_of r.law area } else weak.begun r.law area in record s { held = with s.held b })).area
      (if some then stay r else record r { step = Open; asked = empty; unlocked = false; reached = empty; views = no_views }).views
      (if some && not own then record r.law { second = Some area; second_held = with r.law.second_held b } else (let s = if some then record r.law { second = weak.second_of r.law area } else weak.begun r.law area in record s { held = with s.held b })).seen
      (if some && not own then record r.law { second = Some area; second_held = with r.law.second_held b } else (let s = if some then record r.law { second = weak.second_of r.law area } else weak.begun r.law area in record s { held = with s.held b })).number
  granted area may true true = now
  granted area may true false = now
  granted area may false own = renew area may.valid

  closed_now : (x : ℕ) → ClearOf n log (suc t) a r r.law → Clear n log (suc t) a true (with r.law.closed b) r.law.area r.views r.law.seen r.law.number
  closed_now x w = record { open_still = λ e y. absurd (true≢false e); valid = w.valid; looks = w.looks; begun = w.begun }

  freed : (area : Area) (own : Bool) → Clear n log (suc t) a (own || r.unlocked)
      (if own then record r.law { closed = with r.law.closed b; held = without r.law.held b } else record r.law { second_held = weak.second_freed r.law area b }).closed
      (if own then record r.law { closed = with r.law.closed b; held = without r.law.held b } else record r.law { second_held = weak.second_freed r.law area b }).area r.views
      (if own then record r.law { closed = with r.law.closed b; held = without r.law.held b } else record r.law { second_held = weak.second_freed r.law area b }).seen
      (if own then record r.law { closed = with r.law.closed b; held = without r.law.held b } else record r.law { second_held = weak.second_freed r.law area b }).number
  freed area true = closed_now 0 now
  freed area false = now

  tried : (own : Bool) → Clear n log (suc t) a (own || r.unlocked)
      (if own then record r.law { closed = with r.law.closed b } else r.law).closed (if own then record r.law { closed = with r.law.closed b } else r.law).area r.views
      (if own then record r.law { closed = with r.law.closed b } else r.law).seen (if own then record r.law { closed = with r.law.closed b } else r.law).number
  tried true = closed_now 0 now
  tried false = now

  looking_at : (g : ℕ) (view : View) → log t ≡ Some (ask_by a b (look_at g) (Seen view) true) → (heal : Bool) → heal ≡ false
      → Clear n log (suc t) a r.unlocked (if heal then weak.viewed r.law b g view else weak.looked r.law b).closed (if heal then weak.viewed r.law b g view else weak.looked r.law b).area
      (if (r.law.number == 0) && r.law.held b && is_on r.law.area g then put r.views b (Some view) else r.views)
      (if heal then weak.viewed r.law b g view else weak.looked r.law b).seen (if heal then weak.viewed r.law b g view else weak.looked r.law b).number
  looking_at g view is true e = absurd (true≢false e)
  looking_at g view is false e = saw n log t a b r c g view is ((r.law.number == 0) && r.law.held b) (is_on r.law.area g) refl refl

  dropped : (gone : Bool) → ClearOf n log (suc t) a r (weak.dropping gone b r.law)
  dropped true = now
  dropped false = now

  pub clear_asked : (request : Request) (told : Told) → ((g : ℕ) (view : View) → request ≡ look_at g → told ≡ Seen view → log t ≡ Some (ask_by a b (look_at g) (Seen view) true)) → r.law.heal ≡ false → Outside n keeps r b request → (IsHealLock request → ⊥) → Left request told
  clear_asked (Lock Work area) Granted is out may other = granted area may (busy n r.law) (is_area r.law.area area)
  clear_asked (Lock Work area) _ is out may other = locked area may (busy n r.law)
  clear_asked (Lock Heal area) told is out may other = absurd (other tt)
  clear_asked (Unlock Work area) Done is out may other = freed area (is_area r.law.area area)
  clear_asked (Unlock Work area) _ is out may other = tried (is_area r.law.area area)
  clear_asked (Unlock Heal area) Done is out may other = now
  clear_asked (Unlock Heal area) _ is out may other = now
  clear_asked (Look g) (Seen view) is out may other = looking_at g.0 view (is g.0 view refl refl) r.law.heal out
  clear_asked (Look g) _ is out may other = missed_look n log t a b r c ((r.law.number == 0) && r.law.held b) (is_on r.law.area g.0) refl
  clear_asked (Mend repair) told is out may other = absurd may
  clear_asked (Settle g kind less) told is out may other = absurd may
  clear_asked (Pre g kind) Done is out may other = now
  clear_asked (Pre g kind) _ is out may other = now
  clear_asked (Apply q) Done is out may other = now
  clear_asked (Apply q) _ is out may other = now
  clear_asked (Post q g kind missed) Done is out may other = now
  clear_asked (Post q g kind missed) _ is out may other = now
  clear_asked _ told is out may other = dropped (is_gone told)
