-- What a request leaves of the register of the law.
use Rattle.afr_model_moves.specs.Steps.{other}
use Rattle.afr_model_moves.specs.Rules.{busy, is_area, is_none, Register}
use Rattle.afr_model_moves.specs.Past.{is_gone}
use Rattle.afr_model_moves.specs.Sets.{with, without}
use Rattle.afr_lines.specs.declared.answer.Told.{Told}
use Rattle.afr_lines.specs.declared.answer.Told.TheVariants.{Done, Granted, Seen}
use Rattle.afr_lines.specs.declared.request.Area.{Area}
use Rattle.afr_lines.specs.declared.request.Request.{Request}
use Rattle.afr_lines.specs.declared.request.Request.TheVariants.{Apply, Index, List, Lock, Look, Mend, Post, Pre, ReadAttr, ReadAttrs, ReadBytes, ReadName, Settle, Unlock}
use Rattle.afr_object.specs.declared.entry.View.{View}
use Rattle.afr_lines.specs.declared.lock.Domain.TheVariants.{Heal, Work}
use Rattle.std.proofs.Common.{Bool, false, inl, inr, not, refl, subst, sym, true, true≢false, ℕ, ◌&&◌, ◌∙◌, ◌≡◌, ◌⊎◌}
use Rattle.std.specs.Prelude.{Option, Some, if◌then◌else◌, ◌==◌}
use Rattle.afr_model_moves.specs.Rules as weak
use Rattle.afr_law.proofs.Safety.Standing.{Noted, noted, Grants, Waits, Frees, Tries, HealGrants, HealWaits, HealFrees, HealTries, Looks, Pres, Applies, Posts, Mends, Settles, Same}
use Rattle.afr_model_moves.proofs.Tests.{without_in}

-- the request is for a lock of a heal
abbrev pub IsHealLock : Request → Type 0
IsHealLock (Lock Heal area) = Unit {0}
IsHealLock _ = ⊥

-- start stays, number stays or goes, and only a Heal lock begins a heal
pub record Kept (request : Request) (w s : Register) : Type 0 where
  pub heal : (s.heal ≡ w.heal) ⊎ ((s.heal ≡ true) × IsHealLock request)
  pub start : s.start ≡ w.start
  pub number : (s.number ≡ w.number) ⊎ (s.number ≡ 0)

pub kept : (n : ℕ) (w : Register) (b : ℕ) (request : Request) (told : Told) → Kept request w (weak.note_ask n w b request told)
kept n w b request told = go (weak.note_ask n w b request told) (noted n w b request told)
  where
    lock_is : (area : Area) → request ≡ Lock Heal area → IsHealLock request
    lock_is area what = subst IsHealLock (sym what) tt

    plain : (s : Register) → s.heal ≡ w.heal → s.start ≡ w.start → s.number ≡ w.number → Kept request w s
    plain s e f g = record { heal = inl e; start = f; number = inl g }

    same : Kept request w w
    same = plain w refl refl refl

    put : (s l : Register) → s ≡ l → Kept request w l → Kept request w s
    put s l e k = subst (Kept request w) (sym e) k

    lock : (some : Bool) (area : Area) → Kept request w (if some then record w { second = weak.second_of w area } else weak.begun w area)
    lock true area = plain (record w { second = weak.second_of w area }) refl refl refl
    lock false area = record { heal = inl refl; start = refl; number = inr refl }

    grant : (some own : Bool) (area : Area) → Kept request w (if some && not own then record w { second = Some area; second_held = with w.second_held b } else (let k = if some then record w { second = weak.second_of w area } else weak.begun w area in record k { held = with k.held b }))
    grant true true area = record { heal = inl refl; start = refl; number = inl refl }
    grant true false area = record { heal = inl refl; start = refl; number = inl refl }
    grant false own area = record { heal = inl refl; start = refl; number = inr refl }

    free : (own : Bool) (area : Area) → Kept request w (if own then record w { closed = with w.closed b; held = without w.held b } else record w { second_held = weak.second_freed w area b })
    free true area = record { heal = inl refl; start = refl; number = inl refl }
    free false area = record { heal = inl refl; start = refl; number = inl refl }

    tries : (own : Bool) → Kept request w (if own then record w { closed = with w.closed b } else w)
    tries true = record { heal = inl refl; start = refl; number = inl refl }
    tries false = same

    look : (heal : Bool) (g : ℕ) (view : View) → Kept request w (if heal then weak.viewed w b g view else weak.looked w b)
    look true g view = see (not (w.number == 0) && w.seen b && not (w.closed b) && (g == w.object) && w.healing b && not (w.settled b)) (if (w.number == w.start) && weak.is_none (w.first b) then weak.put_view w.first b view else w.first)
      where
        see : (sure : Bool) (first : ℕ → Option View) → Kept request w (if sure then record w { view = weak.put_view w.view b view; first = first } else w)
        see true first = record { heal = inl refl; start = refl; number = inl refl }
        see false first = same
    look false g view = see ((w.number == 0) && w.held b)
      where
        see : (sure : Bool) → Kept request w (if sure then record w { seen = with w.seen b } else w)
        see true = record { heal = inl refl; start = refl; number = inl refl }
        see false = same

    go : (s : Register) → Noted n w b request told s → Kept request w s
    go s (Grants area what said k) = put s _ k (grant (busy n w) (is_area w.area area) area)
    go s (Waits area what k) = put s _ k (lock (busy n w) area)
    go s (Frees area what said k) = put s _ k (free (is_area w.area area) area)
    go s (Tries area what other k) = put s _ k (tries (is_area w.area area))
    go s (HealGrants area what said k) = put s _ k (record { heal = inr (refl, lock_is area what); start = refl; number = inl refl })
    go s (HealWaits area what k) = put s _ k (record { heal = inr (refl, lock_is area what); start = refl; number = inl refl })
    go s (HealFrees area what said k) = put s _ k (record { heal = inl refl; start = refl; number = inl refl })
    go s (HealTries area what other k) = put s _ k same
    go s (Looks g view what said k) = put s _ k (look w.heal g view)
    go s (Pres g kind what said k) = put s _ k (record { heal = inl refl; start = refl; number = inl refl })
    go s (Applies j what said k) = put s _ k (record { heal = inl refl; start = refl; number = inl refl })
    go s (Posts j g kind missed what said k) = put s _ k (record { heal = inl refl; start = refl; number = inl refl })
    go s (Mends repair what said k) = put s _ k (record { heal = inl refl; start = refl; number = inl refl })
    go s (Settles g kind less what said k) = put s _ k (record { heal = inl refl; start = refl; number = inl refl })
    go s (Same keeps plain_request k) = put s _ k same

pub kept_dropped : (request : Request) (w s : Register) (gone : Bool) (b : ℕ) → Kept request w s → Kept request w (weak.dropping gone b s)
kept_dropped request w s true b k = record { heal = k.heal; start = k.start; number = k.number }
kept_dropped request w s false b k = k

-- a Work Lock line of one that holds none has no number
pub lock_number : (n : ℕ) (w : Register) (b : ℕ) (area : Area) (told : Told) → busy n w ≡ false → (weak.note_ask n w b (Lock Work area) told).number ≡ 0
lock_number n w b area Granted e = go (busy n w) (is_area w.area area) e
  where
    go : (some own : Bool) → some ≡ false → (if some && not own then record w { second = Some area; second_held = with w.second_held b } else (let k = if some then record w { second = weak.second_of w area } else weak.begun w area in record k { held = with k.held b })).number ≡ 0
    go true own f = absurd (true≢false f)
    go false own f = refl
lock_number n w b area _ e = go (busy n w) e
  where
    go : (some : Bool) → some ≡ false → (if some then record w { second = weak.second_of w area } else weak.begun w area).number ≡ 0
    go true f = absurd (true≢false f)
    go false f = refl

-- outside a heal before, where it is outside one after
pub heal_asked : (n : ℕ) (w : Register) (b : ℕ) (request : Request) (told : Told) → (weak.note_ask n w b request told).heal ≡ false → (w.heal ≡ false) × (IsHealLock request → ⊥)
heal_asked n w b request told e = (elim (kept n w b request told).heal [ inl k ↦ sym k ∙ e | inr k ↦ absurd (true≢false (sym k.0 ∙ e)) ], λ lock_is. true≢false (sym (locks request told lock_is) ∙ e))
  where
    locks : (q : Request) (d : Told) → IsHealLock q → (weak.note_ask n w b q d).heal ≡ true
    locks (Lock Heal area) Granted h = refl
    locks (Lock Heal area) _ h = refl
    locks _ d h = absurd h

pub heal_dropped : (gone : Bool) (b : ℕ) (w : Register) → (weak.dropping gone b w).heal ≡ w.heal
heal_dropped true b w = refl
heal_dropped false b w = refl

-- a request that leaves number, locks and looks as they are, but for a lost session
pub record Less (w s : Register) : Type 0 where
  pub number : s.number ≡ w.number
  pub seen : s.seen ≡ w.seen
  pub closed : s.closed ≡ w.closed
  pub held : (x : ℕ) → s.held x ≡ true → w.held x ≡ true

same_less : (w : Register) → Less w w
same_less w = record { number = refl; seen = refl; closed = refl; held = λ x h. h }

dropped_less : (w s : Register) (gone : Bool) (b : ℕ) → Less w s → Less w (weak.dropping gone b s)
dropped_less w s true b l = record { number = l.number; seen = l.seen; closed = l.closed; held = λ x h. l.held x (without_in s.held b x h) }
dropped_less w s false b l = l

-- looks, reads and changing requests of a heal
abbrev pub IsQuiet : Request → Type 0
IsQuiet (Lock domain area) = ⊥
IsQuiet (Unlock domain area) = ⊥
IsQuiet _ = Unit {0}

quiet : (n : ℕ) (w : Register) (b : ℕ) (request : Request) (told : Told) → w.heal ≡ true → IsQuiet request → Less w (weak.note_ask n w b request told)
quiet n w b (Look g) (Seen view) on q = go w.heal on
  where
    see : (sure : Bool) (first : ℕ → Option View) → Less w (if sure then record w { view = weak.put_view w.view b view; first = first } else w)
    see true first = record { number = refl; seen = refl; closed = refl; held = λ x h. h }
    see false first = same_less w

    go : (heal : Bool) → heal ≡ true → Less w (if heal then weak.viewed w b g.0 view else weak.looked w b)
    go true e = see (not (w.number == 0) && w.seen b && not (w.closed b) && (g.0 == w.object) && w.healing b && not (w.settled b)) (if (w.number == w.start) && is_none (w.first b) then weak.put_view w.first b view else w.first)
    go false e = absurd (true≢false (sym e))
quiet n w b (Lock domain area) told on q = absurd q
quiet n w b (Unlock domain area) told on q = absurd q
quiet n w b (Pre g kind) Done on q = record { number = refl; seen = refl; closed = refl; held = λ x h. h }
quiet n w b (Apply j) Done on q = record { number = refl; seen = refl; closed = refl; held = λ x h. h }
quiet n w b (Post j g kind missed) Done on q = record { number = refl; seen = refl; closed = refl; held = λ x h. h }
quiet n w b (Mend repair) Done on q = record { number = refl; seen = refl; closed = refl; held = λ x h. h }
quiet n w b (Settle g kind less) Done on q = record { number = refl; seen = refl; closed = refl; held = λ x h. h }
quiet n w b (Pre g kind) _ on q = same_less w
quiet n w b (Apply j) _ on q = same_less w
quiet n w b (Post j g kind missed) _ on q = same_less w
quiet n w b (Mend repair) _ on q = same_less w
quiet n w b (Settle g kind less) _ on q = same_less w
quiet n w b (Look g) _ on q = same_less w
quiet n w b (ReadBytes g at len) _ on q = same_less w
quiet n w b (ReadName g name) _ on q = same_less w
quiet n w b (List g) _ on q = same_less w
quiet n w b (ReadAttr g key) _ on q = same_less w
quiet n w b (ReadAttrs g) _ on q = same_less w
quiet n w b Index _ on q = same_less w

pub quiet_after : (n : ℕ) (w : Register) (b : ℕ) (request : Request) (told : Told) → w.heal ≡ true → IsQuiet request → Less w (weak.dropping (is_gone told) b (weak.note_ask n w b request told))
quiet_after n w b request told on q = dropped_less w (weak.note_ask n w b request told) (is_gone told) b (quiet n w b request told on q)
