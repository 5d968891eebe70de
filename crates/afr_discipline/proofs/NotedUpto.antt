-- What a move and its answer leave of the bytes that are done.
use Rattle.std.proofs.Common.{◌≡◌, ℕ, Bool, true, false, refl, if◌then◌else◌}
use Rattle.afr_lines.specs.declared.lock.Domain.TheVariants.{Work, Heal}
use Rattle.afr_lines.specs.declared.answer.Told.{Told}
use Rattle.afr_lines.specs.declared.request.Request.{Request}
use Rattle.afr_lines.specs.declared.request.Request.TheVariants.{Lock, Unlock, Look, ReadBytes, List, ReadAttrs, Pre, Apply, Post, Mend, Settle}
use Rattle.afr_discipline.specs.declared.register.Move.{Move}
use Rattle.afr_discipline.specs.declared.register.Move.TheVariants.{Ask, Begin, HealBegin, End}
use Rattle.afr_discipline.specs.declared.register.Register.{Register}
use Rattle.afr_discipline.specs.Notes.{is_working, noted, noted_outside, noted_steps, upto_after, upto_asked, upto_noted}
use Rattle.afr_discipline.specs.Stands.{no_lines}

-- one of two registers
picks_upto : (flag : Bool) (q r : Register) (x y : ℕ) → q.upto ≡ x → r.upto ≡ y → (if flag then q else r).upto ≡ (if flag then x else y)
picks_upto true q r x y h k = h
picks_upto false q r x y h k = k

-- one of two that say the same
keeps_upto : (flag : Bool) (q r : Register) (x : ℕ) → q.upto ≡ x → r.upto ≡ x → (if flag then q else r).upto ≡ x
keeps_upto true q r x h k = h
keeps_upto false q r x h k = k

-- a request outside a heal keeps them
outside_upto : (p : Register) (b : ℕ) (request : Request) (told : Told) → (noted_outside p b request told).upto ≡ p.upto
outside_upto p b (Lock Work area) told = keeps_upto (is_working p) _ _ p.upto refl refl
outside_upto p b (Lock Heal area) told = refl
outside_upto p b (Unlock Work area) told = refl
outside_upto p b (Unlock Heal area) told = refl
outside_upto p b (Look g) told = refl
outside_upto p b (Pre g kind) told = refl
outside_upto p b (Apply q) told = refl
outside_upto p b (Post q g kind missed) told = refl
outside_upto p b _ told = refl

-- the steps
steps_upto : (p : Register) (t b : ℕ) (request : Request) (told : Told) → (noted_steps p t b request told).upto ≡ upto_asked p request
steps_upto p t b (Lock Heal area) told = keeps_upto p.inside _ _ p.upto refl (outside_upto p b (Lock Heal area) told)
steps_upto p t b (Lock Work area) told = keeps_upto p.inside _ _ p.upto refl (outside_upto p b (Lock Work area) told)
steps_upto p t b (Unlock Work area) told = picks_upto p.inside _ _ (upto_after p) p.upto refl refl
steps_upto p t b (Unlock Heal area) told = keeps_upto p.inside _ _ p.upto refl refl
steps_upto p t b (Look g) told = keeps_upto p.inside _ _ p.upto refl refl
steps_upto p t b (ReadBytes g at len) told = keeps_upto p.inside _ _ p.upto refl refl
steps_upto p t b (ReadAttrs g) told = keeps_upto p.inside _ _ p.upto refl refl
steps_upto p t b (List g) told = keeps_upto p.inside _ _ p.upto refl refl
steps_upto p t b (Pre g kind) told = keeps_upto p.inside _ _ p.upto refl refl
steps_upto p t b (Mend repair) told = keeps_upto p.inside _ _ p.upto refl refl
steps_upto p t b (Settle g kind less) told = keeps_upto p.inside _ _ p.upto refl refl
steps_upto p t b (Apply q) told = keeps_upto p.inside _ _ p.upto refl refl
steps_upto p t b (Post q g kind missed) told = keeps_upto p.inside _ _ p.upto refl refl
steps_upto p t b _ told = keeps_upto p.inside _ _ p.upto refl refl

-- a move and its answer
pub noted_upto : (p : Register) (step : Move) (told : Told) (t : ℕ) → (noted p step told t).upto ≡ upto_noted p step
noted_upto p (Ask b request) told t = steps_upto p t b.0 request.now told
noted_upto p (Begin change) told t = refl
noted_upto p (HealBegin g kind) told t = refl
noted_upto p (End ok) told t = picks_upto p.inside (no_lines p.shape) p 0 p.upto refl refl
