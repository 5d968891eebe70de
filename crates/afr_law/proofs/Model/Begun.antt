-- A register with a number is that of an actor who has begun.
use Rattle.std.proofs.Common.{◌≡◌, ℕ, suc, zero, Bool, true, false, ◌&&◌, not, refl, sym, subst, arith, Option, None, Some, ◌==◌, if◌then◌else◌}
use Rattle.afr_object.specs.declared.entry.View.{View}
use Rattle.afr_lines.specs.declared.answer.Told.{Told}
use Rattle.afr_lines.specs.declared.line.Line.{Line}
use Rattle.afr_lines.specs.declared.line.Line.TheVariants.{Ask, Begin, HealBegin, End, HealEnd, Event}
use Rattle.afr_lines.specs.declared.request.Area.{Area}
use Rattle.afr_lines.specs.declared.request.Request.{Request}
use Rattle.afr_model_moves.specs.Sets.{with, without}
use Rattle.afr_model_moves.specs.Past.{Log, is_of, is_gone, last, last_after, place, opens}
use Rattle.afr_model_moves.specs.Rules.{Register, begun, is_area, looked, viewed, looking, locking, granting, unlocked, released, note_ask, dropping, note, in_force, register_after, register, busy, second_of, second_freed}
use Rattle.afr_law.proofs.Safety.Standing.{Noted, Grants, Waits, Frees, Tries, HealGrants, HealWaits, HealFrees, HealTries, Looks, Pres, Applies, Posts, Mends, Settles, Same, noted}

-- the register has no number
abbrev pub Idle : Register → Type 0
Idle r = r.number ≡ 0

idle_locking : (n : ℕ) (r : Register) (area : Area) → Idle r → Idle (locking n r area)
idle_locking n r area h = go (busy n r)
  where
    go : (b : Bool) → Idle (if b then record r { second = second_of r area } else begun r area)
    go true = h
    go false = refl

idle_granting : (n : ℕ) (r : Register) (area : Area) (b : ℕ) → Idle r → Idle (granting n r area b)
idle_granting n r area b h = go (busy n r && not (is_area r.area area)) (idle_locking n r area h)
  where
    go : (c : Bool) → Idle (locking n r area) → Idle (if c then record r { second = Some area; second_held = with r.second_held b } else (let s = locking n r area in record s { held = with s.held b }))
    go true k = h
    go false k = k

idle_unlocked : (r : Register) (area : Area) (b : ℕ) → Idle r → Idle (unlocked r area b) × Idle (released r area b)
idle_unlocked r area b h = go (is_area r.area area)
  where
    go : (c : Bool) → Idle (if c then record r { closed = with r.closed b } else r) × Idle (if c then record r { closed = with r.closed b; held = without r.held b } else record r { second_held = second_freed r area b })
    go true = (h, h)
    go false = (h, h)

idle_looking : (r : Register) (b g : ℕ) (view : View) → Idle r → Idle (looking r b g view)
idle_looking r b g view h = go r.heal
  where
    see : (sure : Bool) (s : Register) → Idle s → Idle (if sure then s else r)
    see true s k = k
    see false s k = h

    go : (heal : Bool) → Idle (if heal then viewed r b g view else looked r b)
    go true = see _ _ h
    go false = see _ _ h

idle_asked : (n : ℕ) (r : Register) (b : ℕ) (request : Request) (told : Told) → Idle r → Idle (note_ask n r b request told)
idle_asked n r b request told h = go _ (noted n r b request told)
  where
    go : (s : Register) → Noted n r b request told s → Idle s
    go s (Grants area what said e) = subst Idle (sym e) (idle_granting n r area b h)
    go s (Waits area what e) = subst Idle (sym e) (idle_locking n r area h)
    go s (Frees area what said e) = subst Idle (sym e) (idle_unlocked r area b h).1
    go s (Tries area what said e) = subst Idle (sym e) (idle_unlocked r area b h).0
    go s (HealGrants area what said e) = subst Idle (sym e) h
    go s (HealWaits area what e) = subst Idle (sym e) h
    go s (HealFrees area what said e) = subst Idle (sym e) h
    go s (HealTries area what said e) = subst Idle (sym e) h
    go s (Looks g view what said e) = subst Idle (sym e) (idle_looking r b g view h)
    go s (Pres g kind what said e) = subst Idle (sym e) h
    go s (Applies q what said e) = subst Idle (sym e) h
    go s (Posts q g kind missed what said e) = subst Idle (sym e) h
    go s (Mends repair what said e) = subst Idle (sym e) h
    go s (Settles g kind less what said e) = subst Idle (sym e) h
    go s (Same keeps plain e) = subst Idle (sym e) h

-- a line that begins nothing gives no number
idle_noted : (n : ℕ) (r : Register) (t a : ℕ) (line : Option Line) → is_of a line ≡ true → last_after 0 a t line ≡ 0 → Idle r → Idle (note n r t line)
idle_noted n r t a None mine none h = h
idle_noted n r t a (Some (Ask x b request told took)) mine none h = go (is_gone told) (idle_asked n r b.0 request told h)
  where
    go : (gone : Bool) → Idle (note_ask n r b.0 request told) → Idle (dropping gone b.0 (note_ask n r b.0 request told))
    go true k = k
    go false k = k
idle_noted n r t a (Some (Begin x c)) mine none h = absurd (some (x.0 == a) mine none)
  where
    some : (b : Bool) → b ≡ true → (if b then suc t else 0) ≡ 0 → ⊥
    some true e f = omega (arith, f)
    some false e f = cc e
idle_noted n r t a (Some (HealBegin x g kind)) mine none h = absurd (some (x.0 == a) mine none)
  where
    some : (b : Bool) → b ≡ true → (if b then suc t else 0) ≡ 0 → ⊥
    some true e f = omega (arith, f)
    some false e f = cc e
idle_noted n r t a (Some (End x reply)) mine none h = h
idle_noted n r t a (Some (HealEnd x g kind reply)) mine none h = refl
idle_noted n r t a (Some (Event e)) mine none h = h

-- the last number before a line that begins nothing
last_old : (was a t : ℕ) (line : Option Line) → last_after was a t line ≡ 0 → was ≡ 0
last_old was a t (Some (Begin x c)) none = go (x.0 == a) none
  where
    go : (b : Bool) → (if b then suc t else was) ≡ 0 → was ≡ 0
    go true f = absurd (omega (arith, f))
    go false f = f
last_old was a t (Some (HealBegin x g kind)) none = go (x.0 == a) none
  where
    go : (b : Bool) → (if b then suc t else was) ≡ 0 → was ≡ 0
    go true f = absurd (omega (arith, f))
    go false f = f
last_old was a t None none = none
last_old was a t (Some (Ask x b request told took)) none = none
last_old was a t (Some (End x reply)) none = none
last_old was a t (Some (HealEnd x g kind reply)) none = none
last_old was a t (Some (Event e)) none = none

-- an actor who hasn't begun has no number
pub idle_first : (n : ℕ) (L : Log) (t a : ℕ) → last L t a ≡ 0 → Idle (register n L t a)
unfolding last register
idle_first n L zero a none = refl
idle_first n L (suc t) a none = go (is_of a (L t)) refl (opens (place L t a) (L t)) (idle_first n L t a old)
  where
    old : last L t a ≡ 0
    old = last_old (last L t a) a t (L t) none

    here : last_after 0 a t (L t) ≡ 0
    here = subst (λ (k : ℕ). last_after k a t (L t) ≡ 0) old none

    force : (first : Bool) → Idle (register n L t a) → Idle (in_force first (register n L t a))
    force true k = refl
    force false k = k

    go : (mine : Bool) → is_of a (L t) ≡ mine → (first : Bool) → Idle (register n L t a) → Idle (register_after n mine first (register n L t a) t (L t))
    go true e first k = idle_noted n (in_force first (register n L t a)) t a (L t) e here (force first k)
    go false e first k = k
