-- A brick that a post-op names as having missed the attempt did not tell that it did the operation.
use Rattle.std.proofs.Common.{◌≡◌, ℕ, suc, ◌<◌, Bool, true, false, ◌&&◌, not, inl, inr, refl, sym, ◌∙◌, subst, arith, true≢false, List, ap}
use Rattle.std.specs.Prelude.{Option, Some, ◌==◌, if◌then◌else◌}
use Rattle.std.proofs.lemmas.Bool.Decides.{nat_tests}
use Rattle.afr_base.specs.Bricks.{member}
use Rattle.afr_base.specs.declared.ids.ActorId.{ActorId}
use Rattle.afr_base.specs.declared.ids.Kind.{Kind}
use Rattle.afr_lines.specs.declared.fault.Fault.{Fault}
use Rattle.afr_object.specs.declared.entry.View.{View}
use Rattle.afr_lines.specs.declared.answer.Told.{Told}
use Rattle.afr_lines.specs.declared.answer.Told.TheVariants.{Done}
use Rattle.afr_lines.specs.declared.request.Area.{Area}
use Rattle.afr_lines.specs.declared.request.Request.{Request}
use Rattle.afr_lines.specs.declared.request.Request.TheVariants.{Apply}
use Rattle.afr_law.proofs.Safety.Acts.{may_ask, working}
use Rattle.afr_model_moves.specs.Honest.{Honest}
use Rattle.afr_model_moves.specs.Rules.{Lawful, May, MayApply, MayPost, Register, area_object, begun, dropping, fresh, heal_freed, in_force, is_area, is_none, locking, looked, mend_cells, note, note_ask, opened, present, put_view, register, second_freed, second_of, viewed, busy}
use Rattle.afr_model_moves.specs.Lines.{ask_by, post_on}
use Rattle.afr_model_moves.specs.Past.{Beginning, Log, is_gone, is_of}
use Rattle.afr_law.proofs.Safety.Registers.{Asks, Begins, Ends, HealBegins, HealEnds, Own, registers}
use Rattle.afr_model_moves.specs.Sets.{with, without}
use Rattle.afr_law.proofs.Safety.Standing.{Noted, noted, Grants, Waits, Frees, Tries, HealGrants, HealWaits, HealFrees, HealTries, Looks, Pres, Applies, Posts, Mends, Settles, Same}
use Rattle.std.proofs.lemmas.Bool.{cases_lt}
use Rattle.afr_model_moves.proofs.Tests.{same_self}

-- the number is that of before, and what was done is done still; or there is no number
record Grows (r s : Register) : Type 0 where
  number : (q : ℕ) → s.number ≡ suc q → r.number ≡ suc q
  done : (q x : ℕ) → s.number ≡ suc q → r.done x ≡ true → s.done x ≡ true

grows_to : (r s : Register) → s.number ≡ r.number → s.done ≡ r.done → Grows r s
grows_to r s e f = record { number = λ q k. sym e ∙ k; done = λ q x k h. subst (λ (d : ℕ → Bool). d x ≡ true) (sym f) h }

grows_none : (r s : Register) → s.number ≡ 0 → Grows r s
grows_none r s e = record { number = λ q k. absurd (omega (arith, e, k)); done = λ q x k h. absurd (omega (arith, e, k)) }

grows_asked : (n : ℕ) (r : Register) (b : ℕ) (request : Request) (told : Told) → Grows r (note_ask n r b request told)
grows_asked n r b request told = go (note_ask n r b request told) (noted n r b request told)
  where
    put : (s l : Register) → s ≡ l → Grows r l → Grows r s
    put s l e k = subst (Grows r) (sym e) k

    locked : (area : Area) (held : ℕ → Bool) → Grows r (record (locking n r area) { held = held })
    locked area held = pick (busy n r)
      where
        pick : (some : Bool) → Grows r (record (if some then record r { second = second_of r area } else begun r area) { held = held })
        pick true = grows_to r _ refl refl
        pick false = grows_none r _ refl

    sees : (g : ℕ) (view : View) (heal : Bool) → Grows r (if heal then viewed r b g view else looked r b)
    sees g view true = pick (not (r.number == 0) && r.seen b && not (r.closed b) && (g == r.object) && r.healing b && not (r.settled b)) (if (r.number == r.start) && is_none (r.first b) then put_view r.first b view else r.first)
      where
        pick : (hit : Bool) (first : ℕ → Option View) → Grows r (if hit then record r { view = put_view r.view b view; first = first } else r)
        pick true first = grows_to r _ refl refl
        pick false first = grows_to r r refl refl
    sees g view false = pick ((r.number == 0) && r.held b)
      where
        pick : (hit : Bool) → Grows r (if hit then record r { seen = with r.seen b } else r)
        pick true = grows_to r _ refl refl
        pick false = grows_to r r refl refl

    freed : (area : Area) (hit : Bool) → Grows r (if hit then record r { closed = with r.closed b; held = without r.held b } else record r { second_held = second_freed r area b })
    freed area true = grows_to r _ refl refl
    freed area false = grows_to r _ refl refl

    tried : (hit : Bool) → Grows r (if hit then record r { closed = with r.closed b } else r)
    tried true = grows_to r _ refl refl
    tried false = grows_to r r refl refl

    more : (x : ℕ) → r.done x ≡ true → with r.done b x ≡ true
    more x h = grind (arith, nat_tests)

    go : (s : Register) → Noted n r b request told s → Grows r s
    go s (Grants area what said e) = put s _ e (pick (busy n r && not (is_area r.area area)))
      where
        pick : (other : Bool) → Grows r (if other then record r { second = Some area; second_held = with r.second_held b } else (let k = locking n r area in record k { held = with k.held b }))
        pick true = grows_to r _ refl refl
        pick false = locked area (with (locking n r area).held b)
    go s (Waits area what e) = put s _ e (locked area (locking n r area).held)
    go s (Frees area what said e) = put s _ e (freed area (is_area r.area area))
    go s (Tries area what other e) = put s _ e (tried (is_area r.area area))
    go s (HealGrants area what said e) = put s _ e (grows_to r (record r { heal = true; object = area_object area; healing = with r.healing b }) refl refl)
    go s (HealWaits area what e) = put s _ e (grows_to r (record r { heal = true; object = area_object area }) refl refl)
    go s (HealFrees area what said e) = put s _ e (grows_to r (record r { healing = heal_freed r area b }) refl refl)
    go s (HealTries area what other e) = put s _ e (grows_to r r refl refl)
    go s (Looks g view what said e) = put s _ e (sees g view r.heal)
    go s (Pres g kind what said e) = put s _ e (grows_to r (record r { pre = with r.pre b; raised = with r.raised b }) refl refl)
    go s (Applies q what said e) = put s _ e (record { number = λ j k. k; done = λ j x k h. more x h })
    go s (Posts q g kind missed what said e) = put s _ e (grows_to r (record r { post = with r.post b }) refl refl)
    go s (Mends repair what said e) = put s _ e (grows_to r (record r { mended = mend_cells r.mended r.number b repair }) refl refl)
    go s (Settles g kind less what said e) = put s _ e (grows_to r (record r { settled = with r.settled b }) refl refl)
    go s (Same keeps plain e) = put s _ e (grows_to r r refl refl)

grows_dropped : (gone : Bool) (b : ℕ) (r s : Register) → Grows r s → Grows r (dropping gone b s)
grows_dropped true b r s k = record { number = k.number; done = k.done }
grows_dropped false b r s k = k

abbrev as_actor : ℕ → ActorId
as_actor a = record { 0 = a }

module _ (n : ℕ) (keeps : ℕ → Kind → Bool) (files : Beginning) (faults : ℕ → ℕ → Option Fault) (log : Log) (honest : Honest files faults log) (lawful : Lawful n keeps log) where
  -- an operation is carried out after its attempt began
  apply_later : (m a x q : ℕ) → log m ≡ Some (ask_by a x (Apply q) Done true) → q < m
  apply_later m a x q is =
      let may : MayApply (present n log m a) x q = may_ask n keeps files faults log honest lawful m a x (Apply q) Done true is in
      ((working n keeps files faults log honest lawful m a x (Apply q) Done q is may.own).numbers.newest q may.own).0

  -- the register knows each brick that told Done
  record Knows (t a : ℕ) (r : Register) : Type 0 where
    known : (q x m : ℕ) → r.number ≡ suc q → m < t → log m ≡ Some (ask_by a x (Apply q) Done true) → r.done x ≡ true

  knows_none : (t a : ℕ) (r : Register) → r.number ≡ 0 → Knows t a r
  knows_none t a r none = record { known = λ q x m number past is. absurd (omega (arith, none, number)) }

  knows_force : (t a : ℕ) (first : Bool) (r : Register) → Knows t a r → Knows t a (in_force first r)
  knows_force t a true r k = knows_none t a fresh refl
  knows_force t a false r k = k

  -- the line at t itself
  done_now : (t a x q : ℕ) (r : Register) → log t ≡ Some (ask_by a x (Apply q) Done true) → (note n r t (log t)).done x ≡ true
  done_now t a x q r is = rw is (rw (same_self x) refl)

  -- the lines before it
  known_still : (t a : ℕ) (r : Register) → Knows t a r → Own log t a → (q x m : ℕ) → (note n r t (log t)).number ≡ suc q → m < t → log m ≡ Some (ask_by a x (Apply q) Done true) → (note n r t (log t)).done x ≡ true
  known_still t a r k (Asks b request told took is) q x m number past at =
      let grows = grows_dropped (is_gone told) b r (note_ask n r b request told) (grows_asked n r b request told) in
      let same : (dropping (is_gone told) b (note_ask n r b request told)).number ≡ suc q = rw is at number in
      rw is (grows.done q x same (k.known q x m (grows.number q same) past at))
  known_still t a r k (Begins change is) q x m number past at = absurd (let same : suc t ≡ suc q = rw is at number in omega (arith, same, past, apply_later m a x q at))
  known_still t a r k (HealBegins g kind is) q x m number past at = absurd (let same : suc t ≡ suc q = rw is at number in omega (arith, same, past, apply_later m a x q at))
  known_still t a r k (Ends reply is) q x m number past at = (let same : r.number ≡ suc q = rw is at number in rw is (k.known q x m same past at))
  known_still t a r k (HealEnds g kind reply is) q x m number past at = absurd (let same : 0 ≡ suc q = rw is at number in omega (arith, same))

  knows : (t a : ℕ) → Knows t a (register n log t a)
  knows =
      registers n keeps files faults log honest lawful Knows (λ a. knows_none 0 a fresh refl)
      (λ t a r other k. record {
        known = λ q x m number past is. elim (cases_lt m t) [
          | inl early ↦ k.known q x m number early is
          | inr late ↦ absurd (let here : m ≡ t = omega (arith, late, past) in foreign t a x q other (subst (λ (u : ℕ). log u ≡ Some (ask_by a x (Apply q) Done true)) here is))
        ];
      })
      (λ t a first r mine e k may. record {
        known = λ q x m number past is. elim (cases_lt m t) [
          | inl early ↦ known_still t a (in_force first r) (knows_force t a first r k) mine q x m number early is
          | inr late ↦ (let here : m ≡ t = omega (arith, late, past) in done_now t a x q (in_force first r) (subst (λ (u : ℕ). log u ≡ Some (ask_by a x (Apply q) Done true)) here is))
        ];
      })
    where
      foreign : (t a x q : ℕ) → is_of a (log t) ≡ false → log t ≡ Some (ask_by a x (Apply q) Done true) → ⊥
      foreign t a x q other is = true≢false (sym (same_self a) ∙ subst (λ l. is_of a l ≡ false) is other)

  -- whoever carries an attempt out is the one that began it
  one_actor : (m p a y x b q g : ℕ) (kind : Kind) (missed : List ℕ) (told : Told) → log p ≡ Some (ask_by a b (post_on q g kind missed) told true) → log m ≡ Some (ask_by y x (Apply q) Done true) → y ≡ a
  one_actor m p a y x b q g kind missed told post is =
      let applies : MayApply (present n log m y) x q = may_ask n keeps files faults log honest lawful m y x (Apply q) Done true is in
      let closes : MayPost n log p a (present n log p a) b q g kind (member missed) = may_ask n keeps files faults log honest lawful p a b (post_on q g kind missed) told true post in
      let one = (working n keeps files faults log honest lawful m y x (Apply q) Done q is applies.own).numbers.attempt q applies.outside applies.own in
      let other = (working n keeps files faults log honest lawful p a b (post_on q g kind missed) told q post closes.own).numbers.attempt q closes.outside closes.own in
      let same : as_actor y ≡ as_actor a = cc (one.is, other.is) in
      ap (λ (k : ActorId). k.0) same

  -- no brick that a post-op names told before that it did the operation
  pub not_done : (p a b q g : ℕ) (kind : Kind) (missed : List ℕ) (told : Told) → log p ≡ Some (ask_by a b (post_on q g kind missed) told true) → (c : ℕ) → member missed c ≡ true
      → (m y : ℕ) → m < p → log m ≡ Some (ask_by y c (Apply q) Done true) → ⊥
  not_done p a b q g kind missed told is c named m y past at =
      let may : MayPost n log p a (present n log p a) b q g kind (member missed) = may_ask n keeps files faults log honest lawful p a b (post_on q g kind missed) told true is in
      let low : c < n = (subst (May n keeps log m (opened log m) (present n log m)) at (lawful m)).0 in
      let mine : y ≡ a = one_actor m p a y c b q g kind missed told is at in
      let at_own : log m ≡ Some (ask_by a c (Apply q) Done true) = subst (λ (z : ℕ). log m ≡ Some (ask_by z c (Apply q) Done true)) mine at in
      let done : (present n log p a).done c ≡ true = (knows_force p a (opened log p a) (register n log p a) (knows p a)).known q c m may.own past at_own in
      true≢false (sym named ∙ may.exact c low ∙ ap not done)
