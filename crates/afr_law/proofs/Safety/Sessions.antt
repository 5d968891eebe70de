-- Who holds a lock has a session; with small facts of tests, sets and places.
use Rattle.std.proofs.Common.{◌≡◌, ℕ, zero, suc, ◌<◌, ◌&&◌, ◌||◌, not, ◌==◌, Bool, true, false, ◌⊎◌, inl, inr, refl, sym, ◌∙◌, subst, ap, Option, Some, None, true≢false}
use Rattle.std.specs.Prelude.{if◌then◌else◌}
use Rattle.std.proofs.lemmas.Bool.{eqb-true, or_parts}
use Rattle.afr_base.specs.declared.ids.Kind.{Kind}
use Rattle.afr_lines.specs.declared.fault.Fault.{Fault}
use Rattle.afr_lines.specs.declared.fault.Fault.TheVariants.{Fail, Lost}
use Rattle.afr_lines.specs.declared.answer.Told.TheVariants.{Granted}
use Rattle.afr_lines.specs.declared.answer.Told.{Told}
use Rattle.afr_lines.specs.declared.line.Line.TheVariants.{Ask, Begin, HealBegin}
use Rattle.afr_lines.specs.declared.line.Line.{Line}
use Rattle.afr_lines.specs.declared.request.Area.{Area}
use Rattle.afr_lines.specs.declared.request.Request.TheVariants.{Lock}
use Rattle.afr_lines.specs.declared.request.Request.{Request}
use Rattle.afr_base.specs.declared.ids.ActorId.{ActorId}
use Rattle.afr_base.specs.declared.ids.Gfid.{Gfid}
use Rattle.afr_lines.specs.Places.{Between, Fresh, Indexed, Place, Within, next_place}
use Rattle.afr_object.specs.declared.change.Change.{Change}
use Rattle.afr_model_moves.proofs.Tests.{same_self}
use Rattle.afr_model_moves.specs.Honest.{Honest, HonestAsk, HonestLine, asked}
use Rattle.afr_model_moves.specs.Lines.{ask_by}
use Rattle.afr_model_moves.specs.Past.{Beginning, Log, before, ends, frees, grants, held, is_gone, joined, opening, unlocks}
use Rattle.afr_model_moves.specs.Sets.{without}
use Rattle.afr_lines.specs.declared.lock.Domain.{Domain}
use Rattle.afr_law.proofs.Safety.Locks.{Grant, before_is, held_past, step_cases}

-- ---- tests
pub all_four : (x y z w : Bool) → x ≡ true → y ≡ true → z ≡ true → w ≡ true → (x && y && z && w) ≡ true
all_four x y z w p q r s = rw (p, q, r, s) refl

-- ---- sets
pub without_other : (set : ℕ → Bool) (b x : ℕ) → (x ≡ b → ⊥) → set x ≡ true → without set b x ≡ true
without_other set b x apart m = go (x == b) refl
  where
    go : (same : Bool) → (x == b) ≡ same → (if same then false else set x) ≡ true
    go true e = absurd (apart (eqb-true x b e))
    go false e = m

-- ---- locks
-- a lock that is held after a line is that line's, or was held before
pub step_of : (log : Log) (t b q : ℕ) → held log (suc t) b q ≡ true → (q ≡ t) ⊎ ((held log t b q ≡ true) × (frees b (before log t q) (log t) ≡ false))
unfolding held
step_of log t b q h = elim (step_cases (q == t) (grants b (log t)) (held log t b q) (frees b (before log t q) (log t)) h) [ inl w ↦ inl (eqb-true q t w.0) | inr w ↦ inr (w.1, w.2) ]

-- a held lock was granted
granted_line : (b : ℕ) (line : Option Line) → grants b line ≡ true → (x : ℕ) × (domain : Domain) × (area : Area) × (took : Bool) × (line ≡ Some (ask_by x b (Lock domain area) Granted took))
granted_line b (Some (Ask x y (Lock domain area) Granted took)) e = (x.0, domain, area, took, ap (λ (k : ℕ). Some (ask_by x.0 k (Lock domain area) Granted took)) (eqb-true y.0 b e))
granted_line b line e = absurd (true≢false (sym e))

pub held_line : (log : Log) (t b q : ℕ) → held log t b q ≡ true → (x : ℕ) × (domain : Domain) × (area : Area) × (took : Bool) × (log q ≡ Some (ask_by x b (Lock domain area) Granted took))
unfolding held
held_line log zero b q h = absurd (true≢false (sym h))
held_line log (suc t) b q h = elim (step_cases (q == t) (grants b (log t)) (held log t b q) (frees b (before log t q) (log t)) h) [
  | inl w ↦ granted_line b (log q) (ap (λ (u : ℕ). grants b (log u)) (eqb-true q t w.0) ∙ w.1)
  | inr w ↦ held_line log t b q w.1
]

-- ---- sessions
module _ (files : Beginning) (faults : ℕ → ℕ → Option Fault) (log : Log) (honest : Honest files faults log) where
  pub honest_at : (t a b : ℕ) (request : Request) (told : Told) (took : Bool) → log t ≡ Some (ask_by a b request told took) → HonestAsk files log t a b request told took (joined log t a b || opening log t a b) (faults b (suc (asked log t b)))
  honest_at t a b request told took is = subst (HonestLine files faults log t) is (honest t)

  live_granted : (t a b : ℕ) (domain : Domain) (area : Area) (took live : Bool) (fault : Option Fault) → HonestAsk files log t a b (Lock domain area) Granted took live fault → live ≡ true
  live_granted t a b domain area took true fault h = refl
  live_granted t a b domain area took false fault h = absurd (cc h.0)

  pub kept_freed : (t a b q : ℕ) (domain : Domain) (area : Area) → Grant log q a b domain area → q < t → frees b (before log t q) (log t) ≡ false → (ends a b (log t) ≡ false) × (unlocks a b domain area (log t) ≡ false)
  kept_freed t a b q domain area grant past free =
      or_parts (ends a b (log t)) (unlocks a b domain area (log t)) (subst (λ (l : Option Line). frees b l (log t) ≡ false) (before_is log t q past ∙ grant.is) free)

  -- who holds a lock has a session
  pub held_joined : (t a b q : ℕ) (domain : Domain) (area : Area) → Grant log q a b domain area → held log t b q ≡ true → joined log t a b ≡ true
  unfolding held joined ends
  held_joined zero a b q domain area grant h = absurd (true≢false (sym h))
  held_joined (suc t) a b q domain area grant h =
      elim (step_cases (q == t) (grants b (log t)) (held log t b q) (frees b (before log t q) (log t)) h) [
        | inl w ↦ new (eqb-true q t w.0)
        | inr w ↦ rw (held_joined t a b q domain area grant w.1, (kept_freed t a b q domain area grant (held_past log t b q w.1) w.2).0) refl
      ]
    where
      stays : (live end : Bool) → live ≡ true → end ≡ false → (live && not end) ≡ true
      stays live end e f = rw (e, f) refl

      new : q ≡ t → ((joined log t a b || opening log t a b) && not (ends a b (log t))) ≡ true
      new same = (
          let is : log t ≡ Some (ask_by a b (Lock domain area) Granted grant.took) = ap log (sym same) ∙ grant.is in
          let live = live_granted t a b domain area grant.took (joined log t a b || opening log t a b) (faults b (suc (asked log t b))) (honest_at t a b (Lock domain area) Granted grant.took is) in
          stays (joined log t a b || opening log t a b) (ends a b (log t)) live (ap (ends a b) is ∙ answered (a == a) (b == b) grant.took)
          )
        where
          answered : (x y z : Bool) → (x && y && z && false) ≡ false
          answered true true true = refl
          answered true true false = refl
          answered true false z = refl
          answered false y z = refl

  -- who is told that it has no session and holds a lock loses it
  pub gone_apart : (t a b y : ℕ) (request : Request) (told : Told) (took : Bool) → log t ≡ Some (ask_by a y request told took) → joined log t a b ≡ true → ends a b (log t) ≡ false → is_gone told ≡ true → b ≡ y → ⊥
  unfolding ends
  gone_apart t a b y request told took is live lasts gone same = go (joined log t a y || opening log t a y) refl (faults y (suc (asked log t y))) (honest_at t a y request told took is)
    where
      live_here : (joined log t a y || opening log t a y) ≡ true
      live_here = rw (subst (λ (x : ℕ). joined log t a x ≡ true) same live) refl

      took_not : took ≡ true → ⊥
      took_not e = true≢false (sym (ap (ends a b) is ∙ all_four (a == a) (y == b) took (is_gone told) (same_self a) (subst (λ (x : ℕ). (x == b) ≡ true) same (same_self b)) e gone) ∙ lasts)

      go : (l : Bool) → (joined log t a y || opening log t a y) ≡ l → (fault : Option Fault) → HonestAsk files log t a y request told took l fault → ⊥
      go false e fault h = true≢false (sym live_here ∙ e)
      go true e (Some Fail) h = true≢false (sym gone ∙ ap is_gone h.0)
      go true e (Some Lost) h = took_not h.1
      go true e None h = took_not h.1

-- ---- places
pub inner_place : (at : Place) (line : Line) → ((p : Place) → next_place p line ≡ Within) → (next_place at line ≡ Within → ⊥) → ⊥
inner_place at line all out = out (all at)

pub begin_place : (x : ActorId) (change : Change) (p : Place) → next_place p (Begin x change) ≡ Within
begin_place x change Fresh = refl
begin_place x change Indexed = refl
begin_place x change Between = refl
begin_place x change Within = refl

pub heal_place : (x : ActorId) (g : Gfid) (kind : Kind) (p : Place) → next_place p (HealBegin x g kind) ≡ Within
heal_place x g kind Fresh = refl
heal_place x g kind Indexed = refl
heal_place x g kind Between = refl
heal_place x g kind Within = refl
