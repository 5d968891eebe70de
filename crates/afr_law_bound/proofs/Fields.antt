-- What a request leaves of the areas of a register, and where they are held.
use Rattle.std.proofs.Common.{◌≡◌, ℕ, zero, suc, ◌&&◌, ◌||◌, not, ◌==◌, inl, inr, Bool, true, false, refl, sym, ◌∙◌, ap, Option, true≢false}
use Rattle.std.specs.Prelude.{if◌then◌else◌}
use Rattle.afr_lines.specs.declared.answer.Told.TheVariants.{Done, Granted, Seen}
use Rattle.afr_lines.specs.declared.answer.Told.{Told}
use Rattle.afr_lines.specs.declared.request.Area.{Area}
use Rattle.afr_lines.specs.declared.request.Request.TheVariants.{Apply, Lock, Look, Mend, Post, Pre, Settle, Unlock}
use Rattle.afr_lines.specs.declared.request.Request.{Request}
use Rattle.afr_model_moves.specs.Rules as weak
use Rattle.afr_model_moves.specs.Rules.{Register, busy, is_area}
use Rattle.afr_model_moves.specs.Sets.{any, with, without}
use Rattle.afr_model_moves.proofs.Tests.{without_in}
use Rattle.afr_object.specs.declared.entry.View.{View}
use Rattle.afr_lines.specs.declared.lock.Domain.TheVariants.{Heal, Work}
use Rattle.std.proofs.lemmas.Bool.{or_parts}
use Rattle.afr_law.proofs.Discipline.Asks.{IsHealLock, kept}

-- the areas, and where they are held, are the same
pub record Still (w s : Register) : Type 0 where
  pub area : s.area ≡ w.area
  pub held : s.held ≡ w.held
  pub second : s.second ≡ w.second
  pub second_held : s.second_held ≡ w.second_held

-- the request is for no Work lock, and gives none back
abbrev pub NoWork : Request → Type 0
NoWork (Lock Work area) = ⊥
NoWork (Unlock Work area) = ⊥
NoWork request = Unit {0}

same : (w : Register) → Still w w
same w = record { area = refl; held = refl; second = refl; second_held = refl }

pub still : (n : ℕ) (w : Register) (b : ℕ) (request : Request) (told : Told) → NoWork request → Still w (weak.note_ask n w b request told)
still n w b (Lock Work area) told nope = absurd nope
still n w b (Unlock Work area) told nope = absurd nope
still n w b (Lock Heal area) Granted nope = record { area = refl; held = refl; second = refl; second_held = refl }
still n w b (Lock Heal area) _ nope = record { area = refl; held = refl; second = refl; second_held = refl }
still n w b (Unlock Heal area) Done nope = record { area = refl; held = refl; second = refl; second_held = refl }
still n w b (Unlock Heal area) _ nope = same w
still n w b (Look g) (Seen view) nope = go w.heal
  where
    see : (sure : Bool) (first : ℕ → Option View) → Still w (if sure then record w { view = weak.put_view w.view b view; first = first } else w)
    see true first = record { area = refl; held = refl; second = refl; second_held = refl }
    see false first = same w

    look : (sure : Bool) → Still w (if sure then record w { seen = with w.seen b } else w)
    look true = record { area = refl; held = refl; second = refl; second_held = refl }
    look false = same w

    go : (heal : Bool) → Still w (if heal then weak.viewed w b g.0 view else weak.looked w b)
    go true = see (not (w.number == 0) && w.seen b && not (w.closed b) && (g.0 == w.object) && w.healing b && not (w.settled b)) (if (w.number == w.start) && weak.is_none (w.first b) then weak.put_view w.first b view else w.first)
    go false = look ((w.number == 0) && w.held b)
still n w b (Pre g kind) Done nope = record { area = refl; held = refl; second = refl; second_held = refl }
still n w b (Apply q) Done nope = record { area = refl; held = refl; second = refl; second_held = refl }
still n w b (Post q g kind missed) Done nope = record { area = refl; held = refl; second = refl; second_held = refl }
still n w b (Mend repair) Done nope = record { area = refl; held = refl; second = refl; second_held = refl }
still n w b (Settle g kind less) Done nope = record { area = refl; held = refl; second = refl; second_held = refl }
still n w b _ _ nope = same w

-- ---- whether the lines are those of a heal
pub heal_kept : (n : ℕ) (w : Register) (b : ℕ) (request : Request) (told : Told) → (IsHealLock request → ⊥) → (weak.note_ask n w b request told).heal ≡ w.heal
heal_kept n w b request told nope = elim (kept n w b request told).heal [ inl same ↦ same | inr lock ↦ absurd (nope lock.1) ]

pub heal_locked : (n : ℕ) (w : Register) (b : ℕ) (area : Area) (told : Told) → (weak.note_ask n w b (Lock Heal area) told).heal ≡ true
heal_locked n w b area Granted = refl
heal_locked n w b area _ = refl

-- ---- what is held is no more than it was
pub record Less (w s : Register) : Type 0 where
  pub held : (x : ℕ) → s.held x ≡ true → w.held x ≡ true
  pub second_held : (x : ℕ) → s.second_held x ≡ true → w.second_held x ≡ true

pub less_still : (w s : Register) → Still w s → Less w s
less_still w s k = record { held = λ x h. ap (λ (f : ℕ → Bool). f x) (sym k.held) ∙ h; second_held = λ x h. ap (λ (f : ℕ → Bool). f x) (sym k.second_held) ∙ h }

pub less_dropped : (gone : Bool) (b : ℕ) (w s : Register) → Less w s → Less w (weak.dropping gone b s)
less_dropped true b w s k = record { held = λ x h. k.held x (without_in s.held b x h); second_held = λ x h. k.second_held x (without_in s.second_held b x h) }
less_dropped false b w s k = k

any_less : (n : ℕ) (s w : ℕ → Bool) → ((x : ℕ) → s x ≡ true → w x ≡ true) → any n w ≡ false → any n s ≡ false
any_less zero s w less e = refl
any_less (suc n) s w less e = go (s n) refl (any_less n s w less (or_parts (w n) (any n w) e).1)
  where
    go : (x : Bool) → s n ≡ x → any n s ≡ false → (x || any n s) ≡ false
    go true f rest = absurd (true≢false (sym (less n f) ∙ (or_parts (w n) (any n w) e).0))
    go false f rest = rest

pub busy_less : (n : ℕ) (w s : Register) → Less w s → busy n w ≡ false → busy n s ≡ false
busy_less n w s k e = rw (any_less n s.held w.held k.held (or_parts (any n w.held) (any n w.second_held) e).0) (any_less n s.second_held w.second_held k.second_held (or_parts (any n w.held) (any n w.second_held) e).1)

pub second_unlocked : (n : ℕ) (w : Register) (b : ℕ) (area : Area) (told : Told) → (weak.note_ask n w b (Unlock Work area) told).second ≡ w.second
second_unlocked n w b area Done = go (is_area w.area area)
  where
    go : (own : Bool) → (if own then record w { closed = with w.closed b; held = without w.held b } else record w { second_held = weak.second_freed w area b }).second ≡ w.second
    go true = refl
    go false = refl
second_unlocked n w b area _ = go (is_area w.area area)
  where
    go : (own : Bool) → (if own then record w { closed = with w.closed b } else w).second ≡ w.second
    go true = refl
    go false = refl

pub second_dropped : (gone : Bool) (b : ℕ) (w : Register) → (weak.dropping gone b w).second ≡ w.second
second_dropped true b w = refl
second_dropped false b w = refl
