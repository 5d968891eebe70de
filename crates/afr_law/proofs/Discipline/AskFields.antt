-- What a request of a heal leaves of each part of the register of the law.
use Rattle.afr_model_moves.specs.Past.{is_gone}
use Rattle.afr_model_moves.specs.Sets.{empty, with, without}
use Rattle.afr_lines.specs.declared.answer.Told.{Told}
use Rattle.afr_lines.specs.declared.answer.Told.TheVariants.{Done, Granted, NotConnected}
use Rattle.afr_lines.specs.declared.request.Area.{Area}
use Rattle.afr_lines.specs.declared.request.Request.TheVariants.{Lock, Unlock}
use Rattle.afr_object.specs.declared.entry.View.{View}
use Rattle.afr_lines.specs.declared.lock.Domain.TheVariants.{Heal, Work}
use Rattle.std.proofs.Common.{Bool, ap, arith, false, inl, inr, not, refl, sym, true, true≢false, ℕ, ◌&&◌, ◌∙◌, ◌≡◌, ◌⊎◌}
use Rattle.std.proofs.lemmas.Bool.Decides.{nat_tests}
use Rattle.std.specs.Prelude.{Option, Some, if◌then◌else◌, ◌==◌}
use Rattle.afr_model_moves.specs.Rules as weak
use Rattle.afr_model_moves.specs.Rules.{Register, busy, is_area, is_none}
use Rattle.afr_model_moves.proofs.Tests.{with_cases, without_in}

-- what lock requests leave as it is
pub record Rest (w s : Register) : Type 0 where
  pub kind : s.kind ≡ w.kind
  pub start : s.start ≡ w.start
  pub first : s.first ≡ w.first
  pub raised : s.raised ≡ w.raised
  pub mended : s.mended ≡ w.mended
  pub settled : s.settled ≡ w.settled

rest_same : (w : Register) → Rest w w
rest_same w = record { kind = refl; start = refl; first = refl; raised = refl; mended = refl; settled = refl }

rest_dropped : (w s : Register) (gone : Bool) (b : ℕ) → Rest w s → Rest w (weak.dropping gone b s)
rest_dropped w s true b k = record { kind = k.kind; start = k.start; first = k.first; raised = k.raised; mended = k.mended; settled = k.settled }
rest_dropped w s false b k = k

-- a Work Lock line: the area may be held at b, and where the answer is lost nothing is held there
pub record WorkLocked (n : ℕ) (w s : Register) (b : ℕ) (area : Area) (gone : Bool) : Type 0 where
  pub rest : Rest w s
  pub area_now : (s.area ≡ Some area) ⊎ ((busy n w ≡ true) × (s.area ≡ w.area))
  pub object : s.object ≡ w.object
  pub held : (x : ℕ) → s.held x ≡ true → (x ≡ b) ⊎ (w.held x ≡ true)
  pub lost : gone ≡ true → s.held b ≡ false
  pub healing : (x : ℕ) → w.healing x ≡ true → ((gone ≡ true) × (x ≡ b)) ⊎ (s.healing x ≡ true)

pub without_here : (set : ℕ → Bool) (b : ℕ) → without set b b ≡ false
without_here set b = grind (arith, nat_tests)

pub without_or : (set : ℕ → Bool) (b x : ℕ) → set x ≡ true → (x ≡ b) ⊎ (without set b x ≡ true)
without_or set b x h = go (x == b) refl
  where
    go : (hit : Bool) → (x == b) ≡ hit → (x ≡ b) ⊎ ((if hit then false else set x) ≡ true)
    go true e = inl (grind (arith, nat_tests))
    go false e = inr h

-- the register before a lost answer
record Grabs (n : ℕ) (w s : Register) (b : ℕ) (area : Area) : Type 0 where
  pub rest : Rest w s
  pub area_now : (s.area ≡ Some area) ⊎ ((busy n w ≡ true) × (s.area ≡ w.area))
  pub object : s.object ≡ w.object
  pub held : (x : ℕ) → s.held x ≡ true → (x ≡ b) ⊎ (w.held x ≡ true)
  pub healing : s.healing ≡ w.healing

grabs : (n : ℕ) (w : Register) (b : ℕ) (area : Area) (told : Told) → Grabs n w (weak.note_ask n w b (Lock Work area) told) b area
grabs n w b area told = go told
  where
    plain : (some : Bool) → busy n w ≡ some → Grabs n w (if some then record w { second = weak.second_of w area } else weak.begun w area) b area
    plain true e = record { rest = record { kind = refl; start = refl; first = refl; raised = refl; mended = refl; settled = refl }; area_now = inr (e, refl); object = refl; held = λ x h. inr h; healing = refl }
    plain false e = record { rest = record { kind = refl; start = refl; first = refl; raised = refl; mended = refl; settled = refl }; area_now = inl refl; object = refl; held = λ x h. absurd (cc h); healing = refl }

    grant : (some own : Bool) → busy n w ≡ some → Grabs n w (if some && not own then record w { second = Some area; second_held = with w.second_held b } else (let k = if some then record w { second = weak.second_of w area } else weak.begun w area in record k { held = with k.held b })) b area
    grant true true e = record { rest = record { kind = refl; start = refl; first = refl; raised = refl; mended = refl; settled = refl }; area_now = inr (e, refl); object = refl; held = λ x h. with_cases w.held b x h; healing = refl }
    grant true false e = record { rest = record { kind = refl; start = refl; first = refl; raised = refl; mended = refl; settled = refl }; area_now = inr (e, refl); object = refl; held = λ x h. inr h; healing = refl }
    grant false own e = record { rest = record { kind = refl; start = refl; first = refl; raised = refl; mended = refl; settled = refl }; area_now = inl refl; object = refl; held = λ x h. elim (with_cases empty b x h) [ inl here ↦ inl here | inr none ↦ absurd (cc none) ]; healing = refl }

    go : (d : Told) → Grabs n w (weak.note_ask n w b (Lock Work area) d) b area
    go Granted = grant (busy n w) (is_area w.area area) refl
    go _ = plain (busy n w) refl

pub work_locked : (n : ℕ) (w : Register) (b : ℕ) (area : Area) (told : Told) → WorkLocked n w (weak.dropping (is_gone told) b (weak.note_ask n w b (Lock Work area) told)) b area (is_gone told)
work_locked n w b area told = go (is_gone told) (grabs n w b area told)
  where
    go : (gone : Bool) → Grabs n w (weak.note_ask n w b (Lock Work area) told) b area → WorkLocked n w (weak.dropping gone b (weak.note_ask n w b (Lock Work area) told)) b area gone
    go true k = (let s = weak.note_ask n w b (Lock Work area) told in record {
      rest = rest_dropped w s true b k.rest;
      area_now = k.area_now;
      object = k.object;
      held = λ x h. k.held x (without_in s.held b x h);
      lost = λ e. without_here s.held b;
      healing = λ x h. elim (without_or s.healing b x (ap (λ (f : ℕ → Bool). f x) k.healing ∙ h)) [ inl here ↦ inl (refl, here) | inr still ↦ inr still ];
    })
    go false k = record { rest = k.rest; area_now = k.area_now; object = k.object; held = k.held; lost = λ e. absurd (true≢false (sym e)); healing = λ x h. inr (ap (λ (f : ℕ → Bool). f x) k.healing ∙ h) }

-- a look: the views alone, or what was looked at
pub record Sees (w s : Register) : Type 0 where
  pub kind : s.kind ≡ w.kind
  pub object : s.object ≡ w.object
  pub area : s.area ≡ w.area
  pub number : s.number ≡ w.number
  pub start : s.start ≡ w.start
  pub held : s.held ≡ w.held
  pub healing : s.healing ≡ w.healing
  pub raised : s.raised ≡ w.raised
  pub mended : s.mended ≡ w.mended
  pub settled : s.settled ≡ w.settled

pub sees : (w : Register) (b g : ℕ) (view : View) → Sees w (weak.looking w b g view)
sees w b g view = go w.heal
  where
    same : Sees w w
    same = record { kind = refl; object = refl; area = refl; number = refl; start = refl; held = refl; healing = refl; raised = refl; mended = refl; settled = refl }

    sure : (yes : Bool) (first : ℕ → Option View) → Sees w (if yes then record w { view = weak.put_view w.view b view; first = first } else w)
    sure true first = record { kind = refl; object = refl; area = refl; number = refl; start = refl; held = refl; healing = refl; raised = refl; mended = refl; settled = refl }
    sure false first = same

    under : (yes : Bool) → Sees w (if yes then record w { seen = with w.seen b } else w)
    under true = record { kind = refl; object = refl; area = refl; number = refl; start = refl; held = refl; healing = refl; raised = refl; mended = refl; settled = refl }
    under false = same

    go : (heal : Bool) → Sees w (if heal then weak.viewed w b g view else weak.looked w b)
    go true = sure (not (w.number == 0) && w.seen b && not (w.closed b) && (g == w.object) && w.healing b && not (w.settled b)) (if (w.number == w.start) && is_none (w.first b) then weak.put_view w.first b view else w.first)
    go false = under ((w.number == 0) && w.held b)

-- an Unlock line of the area or of the Heal lock, where no answer is lost
pub record Frees (w s : Register) (b : ℕ) : Type 0 where
  pub rest : Rest w s
  pub object : s.object ≡ w.object
  pub number : s.number ≡ w.number
  pub view : s.view ≡ w.view
  pub held : (x : ℕ) → s.held x ≡ true → w.held x ≡ true

pub frees_work : (n : ℕ) (w : Register) (b : ℕ) (area : Area) (told : Told) → Frees w (weak.note_ask n w b (Unlock Work area) told) b × ((weak.note_ask n w b (Unlock Work area) told).healing ≡ w.healing)
frees_work n w b area told = go told
  where
    freed : (own : Bool) → Frees w (if own then record w { closed = with w.closed b; held = without w.held b } else record w { second_held = weak.second_freed w area b }) b × ((if own then record w { closed = with w.closed b; held = without w.held b } else record w { second_held = weak.second_freed w area b }).healing ≡ w.healing)
    freed true = (record { rest = record { kind = refl; start = refl; first = refl; raised = refl; mended = refl; settled = refl }; object = refl; number = refl; view = refl; held = λ x h. without_in w.held b x h }, refl)
    freed false = (record { rest = record { kind = refl; start = refl; first = refl; raised = refl; mended = refl; settled = refl }; object = refl; number = refl; view = refl; held = λ x h. h }, refl)

    tried : (own : Bool) → Frees w (if own then record w { closed = with w.closed b } else w) b × ((if own then record w { closed = with w.closed b } else w).healing ≡ w.healing)
    tried true = (record { rest = record { kind = refl; start = refl; first = refl; raised = refl; mended = refl; settled = refl }; object = refl; number = refl; view = refl; held = λ x h. h }, refl)
    tried false = (record { rest = rest_same w; object = refl; number = refl; view = refl; held = λ x h. h }, refl)

    go : (d : Told) → Frees w (weak.note_ask n w b (Unlock Work area) d) b × ((weak.note_ask n w b (Unlock Work area) d).healing ≡ w.healing)
    go Done = freed (is_area w.area area)
    go _ = tried (is_area w.area area)

pub frees_heal : (n : ℕ) (w : Register) (b : ℕ) (area : Area) (told : Told) → Frees w (weak.note_ask n w b (Unlock Heal area) told) b
frees_heal n w b area Done = record { rest = record { kind = refl; start = refl; first = refl; raised = refl; mended = refl; settled = refl }; object = refl; number = refl; view = refl; held = λ x h. h }
frees_heal n w b area _ = record { rest = rest_same w; object = refl; number = refl; view = refl; held = λ x h. h }

-- a Heal Lock line of a heal
pub record HealLocked (w s : Register) (area : Area) : Type 0 where
  pub rest : Rest w s
  pub object : s.object ≡ weak.area_object area

pub heal_locked : (n : ℕ) (w : Register) (b : ℕ) (area : Area) (told : Told) → HealLocked w (weak.dropping (is_gone told) b (weak.note_ask n w b (Lock Heal area) told)) area
heal_locked n w b area Granted = record { rest = record { kind = refl; start = refl; first = refl; raised = refl; mended = refl; settled = refl }; object = refl }
heal_locked n w b area NotConnected = record { rest = record { kind = refl; start = refl; first = refl; raised = refl; mended = refl; settled = refl }; object = refl }
heal_locked n w b area _ = record { rest = record { kind = refl; start = refl; first = refl; raised = refl; mended = refl; settled = refl }; object = refl }
