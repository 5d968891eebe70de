-- What an answer leaves of a heal's register: whether it is broken, its part and its step; and how the heal ends.
use Rattle.std.proofs.Common.{◌≡◌, ℕ, ◌||◌, Bool, true, false, refl, if◌then◌else◌}
use Rattle.std.proofs.lemmas.Bool.{or_left}
use Rattle.afr_base.specs.declared.ids.Gfid.{Gfid}
use Rattle.afr_base.specs.declared.ids.Kind.{Kind}
use Rattle.afr_base.specs.declared.ids.Shape.{Shape}
use Rattle.afr_choice.specs.declared.looked.Looked.{Looked}
use Rattle.afr_discipline.specs.Notes.{broken_by, is_working, locked_outside, noted_ask, noted_inside, noted_outside, noted_steps, part_after, stayed, still_possible}
use Rattle.afr_discipline.specs.Stands.{step_of}
use Rattle.afr_discipline.specs.declared.register.Register.{Register}
use Rattle.afr_discipline.specs.declared.register.Step.TheVariants.{Looks}
use Rattle.afr_lines.specs.declared.answer.Told.{Told}
use Rattle.afr_lines.specs.declared.answer.Told.TheVariants.{Held}
use Rattle.afr_lines.specs.declared.request.Area.{Area}
use Rattle.afr_lines.specs.declared.request.Request.{Request}
use Rattle.afr_lines.specs.declared.request.Request.TheVariants.{Lock, Look}
use Rattle.afr_model_moves.specs.Register as exact
use Rattle.afr_model_moves.specs.Register.{Finish, HealPart, Opening, Piece, is_opening, same_step}
use Rattle.afr_lines.specs.declared.lock.Domain.{Domain}
use Rattle.afr_lines.specs.declared.lock.Domain.TheVariants.{Heal, Work}
use Rattle.afr_heal_machine.specs.Outcome.{by_looks, cause, locks_cause, looks_cause}
use Rattle.afr_heal_machine.specs.declared.outcome.HealOutcome.TheVariants.{Nothing, Short, Split}
use Rattle.afr_law_picks.specs.Sources.Sources.{is_later}

-- ---- the register
within : (P : Register → Type 0) (c : Bool) (x y : Register) → c ≡ true → P x → P (if c then x else y)
within P true x y e k = k
within P false x y e k = absurd (cc e)

wherever : (P : Register → Type 0) (c : Bool) (x y : Register) → P x → P y → P (if c then x else y)
wherever P true x y k l = k
wherever P false x y k l = l

module _ (p : Register) (t b : ℕ) (told : Told) where
  abbrev inner : Request → Register
  inner asked = record (noted_inside p t b asked told) { possible = still_possible p b asked; broken = p.broken || broken_by p asked told }

  -- a broken heal stays so
  pub stays_broken : (asked : Request) → p.inside ≡ true → p.broken ≡ true → (noted_ask p t b asked told).broken ≡ true
  stays_broken asked inside broken = or_left (noted_steps p t b asked told).broken _ (within (λ (q : Register). q.broken ≡ true) p.inside (inner asked) (noted_outside p b asked told) inside (or_left p.broken (broken_by p asked told) broken))

  -- a lock leaves the part, but after the unlocks of one
  pub heal_lock_part : (area : Area) → (noted_ask p t b (Lock Heal area) told).part ≡ p.part
  heal_lock_part area = wherever (λ (q : Register). q.part ≡ p.part) p.inside (inner (Lock Heal area)) (noted_outside p b (Lock Heal area) told) refl refl

  pub work_lock_part : (area : Area) → same_step (step_of p.step) exact.Unlocks ≡ false → (noted_ask p t b (Lock Work area) told).part ≡ p.part
  work_lock_part area e = wherever (λ (q : Register). q.part ≡ p.part) p.inside (inner (Lock Work area)) (noted_outside p b (Lock Work area) told) inside outside
    where
      inside : part_after p area ≡ p.part
      inside = rw e refl

      outside : (locked_outside p).part ≡ p.part
      outside = wherever (λ (q : Register). q.part ≡ p.part) (is_working p) (stayed p) _ refl refl

  -- a look leaves the part, and is a step of it
  pub look_part : (g : Gfid) → p.inside ≡ true → (noted_ask p t b (Look g) told).part ≡ p.part
  look_part g inside = within (λ (q : Register). q.part ≡ p.part) p.inside (inner (Look g)) (noted_outside p b (Look g) told) inside refl

  pub look_step : (g : Gfid) → p.inside ≡ true → (noted_ask p t b (Look g) told).step ≡ Looks
  look_step g inside = within (λ (q : Register). q.step ≡ Looks) p.inside (inner (Look g)) (noted_outside p b (Look g) told) inside refl

-- ---- how a heal ends that its first locks or looks end
locks_early : (next : HealPart) (domain : Domain) (told : Told) → is_opening next ≡ true → is_later (locks_cause next domain told) ≡ false
locks_early Opening Heal (Held owner) e = refl
locks_early Opening domain told e = refl
locks_early Piece domain told e = absurd (cc e)
locks_early Finish domain told e = absurd (cc e)

looks_early : (shape : Shape) (kind : Kind) (seen : Looked) → is_later (by_looks shape kind seen) ≡ false
looks_early shape kind seen = go _ _
  where
    go : (a c : Bool) → is_later (if a then Short else (if c then Nothing else Split)) ≡ false
    go true c = refl
    go false true = refl
    go false false = refl

module _ (shape : Shape) (kind : Kind) (part next : HealPart) (s : ℕ) (seen looked : Looked) (told : Told) (opening : is_opening next ≡ true) where
  pub early_lock : (domain : Domain) (area : Area) → is_later (cause shape kind part next s seen looked (Lock domain area) told) ≡ false
  early_lock domain area = locks_early next domain told opening

  pub early_look : (g : Gfid) → is_later (cause shape kind part next s seen looked (Look g) told) ≡ false
  early_look g = go next opening
    where
      go : (next : HealPart) → is_opening next ≡ true → is_later (looks_cause shape kind next s seen looked told) ≡ false
      go Opening e = looks_early shape kind seen
      go Piece e = absurd (cc e)
      go Finish e = absurd (cc e)
