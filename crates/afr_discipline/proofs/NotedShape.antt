-- A move and its answer leave the shape of the volume as it was.
use Rattle.std.proofs.Common.{◌≡◌, ℕ, Bool, true, false, refl, if◌then◌else◌}
use Rattle.afr_lines.specs.declared.lock.Domain.TheVariants.{Work, Heal}
use Rattle.afr_lines.specs.declared.answer.Told.{Told}
use Rattle.afr_lines.specs.declared.request.Request.{Request}
use Rattle.afr_lines.specs.declared.request.Request.TheVariants.{Lock, Unlock, Look, ReadBytes, List, ReadAttrs, Pre, Apply, Post, Mend, Settle}
use Rattle.afr_discipline.specs.declared.register.Move.{Move}
use Rattle.afr_discipline.specs.declared.register.Move.TheVariants.{Ask, Begin, HealBegin, End}
use Rattle.afr_discipline.specs.declared.register.Register.{Register}
use Rattle.afr_discipline.specs.Notes.{is_working, noted, noted_inside, noted_outside, noted_steps}
use Rattle.afr_discipline.specs.Stands.{no_lines}

-- one of two registers of the same shape
picks_shape : (flag : Bool) (p q r : Register) → q.shape ≡ p.shape → r.shape ≡ p.shape → (if flag then q else r).shape ≡ p.shape
picks_shape true p q r h k = h
picks_shape false p q r h k = k

-- a request outside a heal keeps the shape
outside_shape : (p : Register) (b : ℕ) (request : Request) (told : Told) → (noted_outside p b request told).shape ≡ p.shape
outside_shape p b (Lock Work area) told = picks_shape (is_working p) p _ _ refl refl
outside_shape p b (Lock Heal area) told = refl
outside_shape p b (Unlock Work area) told = refl
outside_shape p b (Unlock Heal area) told = refl
outside_shape p b (Look g) told = refl
outside_shape p b (Pre g kind) told = refl
outside_shape p b (Apply q) told = refl
outside_shape p b (Post q g kind missed) told = refl
outside_shape p b _ told = refl

-- a request of a heal keeps the shape
pub inside_shape : (p : Register) (t b : ℕ) (request : Request) (told : Told) → (noted_inside p t b request told).shape ≡ p.shape
inside_shape p t b (Lock Heal area) told = refl
inside_shape p t b (Lock Work area) told = refl
inside_shape p t b (Unlock Work area) told = refl
inside_shape p t b (Unlock Heal area) told = refl
inside_shape p t b (Look g) told = refl
inside_shape p t b (ReadBytes g at len) told = refl
inside_shape p t b (ReadAttrs g) told = refl
inside_shape p t b (List g) told = refl
inside_shape p t b (Pre g kind) told = refl
inside_shape p t b (Mend repair) told = refl
inside_shape p t b (Settle g kind less) told = refl
inside_shape p t b _ told = refl

-- the steps keep the shape
pub steps_shape : (p : Register) (t b : ℕ) (request : Request) (told : Told) → (noted_steps p t b request told).shape ≡ p.shape
steps_shape p t b request told = picks_shape p.inside p _ _ (inside_shape p t b request told) (outside_shape p b request told)

-- a move and its answer keep the shape
pub noted_shape : (p : Register) (step : Move) (told : Told) (t : ℕ) → (noted p step told t).shape ≡ p.shape
noted_shape p (Ask b request) told t = steps_shape p t b.0 request.now told
noted_shape p (Begin change) told t = refl
noted_shape p (HealBegin g kind) told t = refl
noted_shape p (End ok) told t = picks_shape p.inside p (no_lines p.shape) p refl refl
