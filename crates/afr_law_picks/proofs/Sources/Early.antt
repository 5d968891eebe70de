-- Requests that no source is needed for, and what their answers leave.
use Rattle.std.proofs.Common.{◌≡◌, ℕ, ◌&&◌, not, Bool, true, false, refl}
use Rattle.afr_base.specs.declared.ids.ActorId.{ActorId}
use Rattle.afr_base.specs.declared.ids.Kind.{Kind}
use Rattle.afr_base.specs.declared.ids.Shape.{Shape}
use Rattle.afr_choice.specs.declared.looked.Looked.{Looked}
use Rattle.afr_discipline.specs.Notes.{noted_ask}
use Rattle.afr_discipline.specs.Stands.{step_of}
use Rattle.afr_discipline.specs.declared.register.Register.{Register}
use Rattle.afr_discipline.specs.declared.register.Step.TheVariants.{Looks}
use Rattle.afr_heal.specs.Engine.{Ask as Asks}
use Rattle.afr_lines.specs.declared.answer.Told.{Told}
use Rattle.afr_lines.specs.declared.line.Line.TheVariants.{Ask}
use Rattle.afr_lines.specs.declared.request.Request.{Request}
use Rattle.afr_lines.specs.declared.request.Request.TheVariants as request
use Rattle.afr_model.specs.Chosen.{KeepsSource, goes_on}
use Rattle.afr_model.specs.Healing.{First, first_after}
use Rattle.afr_model_moves.specs.Register as exact
use Rattle.afr_model_moves.specs.Register.{Exact, HealPart, is_opening, over, same_step}
use Rattle.afr_lines.specs.declared.lock.Domain.TheVariants as domain
use Rattle.afr_heal_machine.proofs.FoundLemmas.{opening_is}
use Rattle.afr_heal_machine.specs.Outcome.{cause}
use Rattle.afr_heal_machine.specs.Source.{is_found}
use Rattle.afr_law_picks.proofs.Sources.Coming.{LocksNext, LooksNext, UnlocksNext}
use Rattle.afr_law_picks.proofs.Sources.Register.{early_lock, early_look, heal_lock_part, look_part, look_step, work_lock_part}
use Rattle.afr_law_picks.proofs.Sources.Stage.{is_past}
use Rattle.afr_law_picks.specs.Sources.Sources.{is_later}

module _ (a : ActorId) (p : Register) (t b : ℕ) (told : Told) (took : Bool) where
  -- a lock or a look of the first part: it isn't onward, and if it ends the heal it does so early
  pub record IsEarly (asked : Request) : Type 0 where
    pub quiet : goes_on (Ask a (record { 0 = b }) asked told took) ≡ false
    pub part : (noted_ask p t b asked told).part ≡ p.part
    pub ends : (shape : Shape) (kind : Kind) (part next : HealPart) (s : ℕ) (seen looked : Looked) → is_opening next ≡ true → is_later (cause shape kind part next s seen looked asked told) ≡ false

  pub early_by_lock : (asked : Request) (begins : Bool) → same_step (step_of p.step) exact.Unlocks ≡ false → LocksNext begins (Asks b asked) → IsEarly asked
  early_by_lock (request.Lock domain.Heal area) begins e k = record {
    quiet = refl;
    part = heal_lock_part p t b told area;
    ends = λ shape kind part next s seen looked opening. early_lock shape kind part next s seen looked told opening domain.Heal area;
  }
  early_by_lock (request.Lock domain.Work area) begins e k = record {
    quiet = refl;
    part = work_lock_part p t b told area e;
    ends = λ shape kind part next s seen looked opening. early_lock shape kind part next s seen looked told opening domain.Work area;
  }
  early_by_lock asked begins e k = absurd k

  -- a look also enters its step
  pub record IsEarlyLook (asked : Request) : Type 0 where
    pub early : IsEarly asked
    pub step : (noted_ask p t b asked told).step ≡ Looks

  pub early_by_look : (asked : Request) → p.inside ≡ true → LooksNext (Asks b asked) → IsEarlyLook asked
  early_by_look (request.Look g) inside k = record {
    early = record {
      quiet = refl;
      part = look_part p t b told g inside;
      ends = λ shape kind part next s seen looked opening. early_look shape kind part next s seen looked told opening g;
    };
    step = look_step p t b told g inside;
  }
  early_by_look asked inside k = absurd k

-- ---- an unlock
module _ (a : ActorId) (b : ℕ) (told : Told) (took : Bool) where
  -- it isn't onward, leaves the first looks, and keeps to any source
  pub record IsQuiet (asked : Request) : Type 0 where
    pub quiet : goes_on (Ask a (record { 0 = b }) asked told took) ≡ false
    pub first : (f : First) → first_after (Ask a (record { 0 = b }) asked told took) f ≡ record f { still = false }
    pub keeps : (s : ℕ) → KeepsSource s (Ask a (record { 0 = b }) asked told took)

  pub quiet_by_unlock : (asked : Request) → UnlocksNext (Asks b asked) → IsQuiet asked
  quiet_by_unlock (request.Unlock domain area) k = record { quiet = refl; first = λ f. refl; keeps = λ s. tt }
  quiet_by_unlock asked k = absurd k

-- ---- the end of the first looks
module _ (n : ℕ) (r : Exact) where
  pub past_over : (keeps : ℕ → Kind → Bool) → r.step ≡ exact.Looks → is_opening r.part ≡ true → is_past n keeps r ≡ true → over n r.law.held r.asked ≡ true
  past_over keeps at opening h = (let part = opening_is r.part opening in rw (at, part) at h)

  pub found_is : r.broken ≡ false → r.step ≡ exact.Looks → is_opening r.part ≡ true → over n r.law.held r.asked ≡ true → is_found n r ≡ true
  found_is whole at opening past = rw (whole, at, opening, past) refl

  -- a heal that is broken, or past its first looks and on its way, hasn't just ended them
  pub unfound : (r.broken ≡ false → same_step r.step exact.Looks ≡ true → is_opening r.part ≡ true → ⊥) → is_found n r ≡ false
  unfound never = go r.broken (same_step r.step exact.Looks) (is_opening r.part) (over n r.law.held r.asked) never
    where
      go : (x y z u : Bool) → (x ≡ false → y ≡ true → z ≡ true → ⊥) → (not x && y && z && u) ≡ false
      go true y z u h = refl
      go false false z u h = refl
      go false true false u h = refl
      go false true true u h = absurd (h refl refl refl)
