-- What a request that asks for no Heal lock leaves of a register's heal.
use Rattle.std.proofs.Common.{◌≡◌, ℕ, Bool, true, false, ◌&&◌, not, ◌==◌, refl, sym, subst}
use Rattle.std.specs.Prelude.{Option, Some, if◌then◌else◌}
use Rattle.afr_object.specs.declared.entry.View.{View}
use Rattle.afr_lines.specs.declared.answer.Told.{Told}
use Rattle.afr_lines.specs.declared.request.Area.{Area}
use Rattle.afr_lines.specs.declared.request.Request.{Request}
use Rattle.afr_lines.specs.declared.request.Request.TheVariants.{Lock, Unlock}
use Rattle.afr_lines.specs.declared.lock.Domain.TheVariants.{Heal}
use Rattle.afr_model_moves.specs.Sets.{with, without}
use Rattle.afr_model_moves.specs.Rules as weak
use Rattle.afr_model_moves.specs.Rules.{Register, busy, is_area}
use Rattle.afr_law.proofs.Discipline.Asks.{IsHealLock}
use Rattle.afr_law.proofs.Safety.Standing.{Applies, Frees, Grants, HealFrees, HealGrants, HealTries, HealWaits, Looks, Mends, Noted, Posts, Pres, Same, Settles, Tries, Waits, noted}

-- the request gives a Heal lock back
abbrev pub IsHealUnlock : Request → Type 0
IsHealUnlock (Unlock Heal area) = Unit {0}
IsHealUnlock _ = ⊥

-- the heal and its object stay, and its locks unless one is given back
pub record Aside (request : Request) (w s : Register) : Type 0 where
  pub heal : s.heal ≡ w.heal
  pub object : s.object ≡ w.object
  pub healing : (IsHealUnlock request → ⊥) → s.healing ≡ w.healing

pub aside : (n : ℕ) (w : Register) (b : ℕ) (request : Request) (told : Told) → (IsHealLock request → ⊥) → Aside request w (weak.note_ask n w b request told)
aside n w b request told free = go (weak.note_ask n w b request told) (noted n w b request told)
  where
    same : Aside request w w
    same = record { heal = refl; object = refl; healing = λ k. refl }

    put : (s l : Register) → s ≡ l → Aside request w l → Aside request w s
    put s l e k = subst (Aside request w) (sym e) k

    lock : (some : Bool) (area : Area) → Aside request w (if some then record w { second = weak.second_of w area } else weak.begun w area)
    lock true area = record { heal = refl; object = refl; healing = λ k. refl }
    lock false area = record { heal = refl; object = refl; healing = λ k. refl }

    grant : (some own : Bool) (area : Area) → Aside request w (if some && not own then record w { second = Some area; second_held = with w.second_held b } else (let k = if some then record w { second = weak.second_of w area } else weak.begun w area in record k { held = with k.held b }))
    grant true true area = record { heal = refl; object = refl; healing = λ k. refl }
    grant true false area = record { heal = refl; object = refl; healing = λ k. refl }
    grant false own area = record { heal = refl; object = refl; healing = λ k. refl }

    frees : (own : Bool) (area : Area) → Aside request w (if own then record w { closed = with w.closed b; held = without w.held b } else record w { second_held = weak.second_freed w area b })
    frees true area = record { heal = refl; object = refl; healing = λ k. refl }
    frees false area = record { heal = refl; object = refl; healing = λ k. refl }

    tries : (own : Bool) → Aside request w (if own then record w { closed = with w.closed b } else w)
    tries true = record { heal = refl; object = refl; healing = λ k. refl }
    tries false = same

    look : (heal : Bool) (g : ℕ) (view : View) → Aside request w (if heal then weak.viewed w b g view else weak.looked w b)
    look true g view = see (not (w.number == 0) && w.seen b && not (w.closed b) && (g == w.object) && w.healing b && not (w.settled b)) (if (w.number == w.start) && weak.is_none (w.first b) then weak.put_view w.first b view else w.first)
      where
        see : (sure : Bool) (first : ℕ → Option View) → Aside request w (if sure then record w { view = weak.put_view w.view b view; first = first } else w)
        see true first = record { heal = refl; object = refl; healing = λ k. refl }
        see false first = same
    look false g view = see ((w.number == 0) && w.held b)
      where
        see : (sure : Bool) → Aside request w (if sure then record w { seen = with w.seen b } else w)
        see true = record { heal = refl; object = refl; healing = λ k. refl }
        see false = same

    locks : (area : Area) → request ≡ Lock Heal area → ⊥
    locks area what = free (subst IsHealLock (sym what) tt)

    go : (s : Register) → Noted n w b request told s → Aside request w s
    go s (Grants area what said k) = put s _ k (grant (busy n w) (is_area w.area area) area)
    go s (Waits area what k) = put s _ k (lock (busy n w) area)
    go s (Frees area what said k) = put s _ k (frees (is_area w.area area) area)
    go s (Tries area what other k) = put s _ k (tries (is_area w.area area))
    go s (HealGrants area what said k) = absurd (locks area what)
    go s (HealWaits area what k) = absurd (locks area what)
    go s (HealFrees area what said k) = put s _ k (record { heal = refl; object = refl; healing = λ no. absurd (no (subst IsHealUnlock (sym what) tt)) })
    go s (HealTries area what other k) = put s _ k same
    go s (Looks g view what said k) = put s _ k (look w.heal g view)
    go s (Pres g kind what said k) = put s _ k (record { heal = refl; object = refl; healing = λ k. refl })
    go s (Applies j what said k) = put s _ k (record { heal = refl; object = refl; healing = λ k. refl })
    go s (Posts j g kind missed what said k) = put s _ k (record { heal = refl; object = refl; healing = λ k. refl })
    go s (Mends repair what said k) = put s _ k (record { heal = refl; object = refl; healing = λ k. refl })
    go s (Settles g kind less what said k) = put s _ k (record { heal = refl; object = refl; healing = λ k. refl })
    go s (Same keeps plain_request k) = put s _ k same
