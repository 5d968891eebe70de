-- What holds of all actors after their turns; when all are done.
use Rattle.std.proofs.Common.{◌≡◌, ℕ, ◌≤◌, ◌<◌, ◌+◌, ◌-◌, true, false, [], length, ◌∙◌, arith, inl, inr}
use Rattle.std.proofs.Math.Nat.{eq-or-lt_of_le}
use borrow.Author.Count.{below_more}
use Rattle.afr_lines.specs.Work.{work, is_killed}
use Rattle.afr_plan.specs.declared.plan.Plan.{Plan}
use Rattle.afr_volume.specs.State.{State}
use Rattle.afr_model.specs.Actors.{IsActor, is_done}
use Rattle.afr_model.specs.Actors.IsActor.{Client, Healer}
use Rattle.afr_model.specs.Complete.{IsComplete}
use Rattle.afr_model.specs.Following.{NoneDue}
use Rattle.afr_volume.specs.Going.{Goes, IsIdle}

-- what a row of actors keeps: where no line was added, it holds of the first of them
pub row_each : (P : ℕ → State → Type 0) (old mid new : State) (first i : ℕ) → Goes old mid → Goes mid new
    → (length mid.log ≤ length old.log → (k : ℕ) → k < i → P (first + k) mid)
    → (length new.log ≤ length mid.log → P (first + i) new)
    → length new.log ≤ length old.log → (k : ℕ) → k < i + 1 → P (first + k) new
row_each P old mid new first i f g before last l =
    let n : length new.log ≤ length mid.log = omega (arith, f.grows, l) in
    below_more (λ k. P (first + k) new) i (rw (g.same n) (before (omega (arith, g.grows, l)))) (last n)

each_actor : (p : Plan) (P : ℕ → Type 0) → ((k : ℕ) → k < length p.clients → P (1 + k)) → ((k : ℕ) → k < length p.healers → P (17 + k)) → (a : ℕ) → IsActor p a → P a
each_actor p P clients healers a (Client one within) =
    let e : 1 + (a - 1) ≡ a = omega (arith, one) in
    rw e at (clients (a - 1) (omega (arith, one, within)))
each_actor p P clients healers a (Healer one within) =
    let e : 17 + (a - 17) ≡ a = omega (arith, one) in
    rw e at (healers (a - 17) (omega (arith, one, within)))

pub complete : (s : State) → length s.log ≤ s.plan.turns → IsIdle s
    → ((a : ℕ) → IsActor s.plan a → is_done s.plan a s.log ≡ true → is_killed a s.log ≡ false → work a s.log ≡ [])
    → IsComplete s.plan s.log
complete s room idle settled = elim (eq-or-lt_of_le room) [
  | inl e ↦ inl e
  | inr l ↦ inr (record { events = idle.events l; done = idle.done; ended = λ a actor alive. settled a actor (idle.done a actor) alive })
]

-- a pass that added no line left the volume as it was
pub pass_same : (a b c d : State) → Goes a b → Goes b c → Goes c d → length d.log ≤ length a.log → (b ≡ a) × (c ≡ a) × (d ≡ a)
pass_same a b c d f g h l =
    let ba : b ≡ a = f.same (omega (arith, g.grows, h.grows, l)) in
    let ca : c ≡ a = g.same (omega (arith, f.grows, h.grows, l)) ∙ ba in
    (ba, ca, h.same (omega (arith, f.grows, g.grows, l)) ∙ ca)

-- and so what holds of each actor after its turn holds of all of them
pub pass_each : (P : ℕ → State → Type 0) (a b c d : State) → Goes a b → Goes b c → Goes c d
    → (length b.log ≤ length a.log → (k : ℕ) → k < length a.plan.clients → P (1 + k) b)
    → (length c.log ≤ length b.log → (k : ℕ) → k < length a.plan.healers → P (17 + k) c)
    → length d.log ≤ length a.log → (x : ℕ) → IsActor d.plan x → P x d
pass_each P a b c d f g h clients healers l =
    let one : length b.log ≤ length a.log = omega (arith, g.grows, h.grows, l) in
    let two : length c.log ≤ length b.log = omega (arith, f.grows, h.grows, l) in
    let same = pass_same a b c d f g h l in
    rw same.2 (each_actor a.plan (λ x. P x a) (rw same.0 at (clients one)) (rw same.1 at (healers two)))

pub pass_idle : (a b c d : State) → Goes a b → Goes b c → Goes c d
    → (length b.log ≤ length a.log → (k : ℕ) → k < length a.plan.clients → is_done b.plan (1 + k) b.log ≡ true)
    → (length c.log ≤ length b.log → (k : ℕ) → k < length a.plan.healers → is_done c.plan (17 + k) c.log ≡ true)
    → (length d.log < d.plan.turns → NoneDue d.plan d.log)
    → length d.log ≤ length a.log → IsIdle d
pass_idle a b c d f g h clients healers events l = record { events = events; done = pass_each (λ x s. is_done s.plan x s.log ≡ true) a b c d f g h clients healers l }
