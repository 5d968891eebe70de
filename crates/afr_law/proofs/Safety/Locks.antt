-- A lock that is held keeps others out, from its Lock line on.
use Rattle.afr_lines.specs.declared.fault.Fault.TheVariants.{Fail, Lost}
use Rattle.afr_lines.specs.declared.fault.Fault.{Fault}
use Rattle.afr_lines.specs.Locks.{same_domain}
use Rattle.afr_lines.specs.Overlap.{overlap}
use Rattle.std.proofs.Common.{◌≡◌, ℕ, zero, suc, ◌<◌, ◌≤◌, Bool, true, false, ◌&&◌, ◌||◌, not, ◌⊎◌, inl, inr, refl, sym, ap, subst, arith, ◌∙◌}
use Rattle.std.specs.Prelude.{Option, None, Some, ◌==◌, nat_lt, if◌then◌else◌}
use Rattle.std.proofs.lemmas.Bool.Decides.{nat_tests}
use Rattle.afr_lines.specs.declared.lock.Domain.{Domain}
use Rattle.afr_lines.specs.declared.lock.Domain.TheVariants.{Work}
use Rattle.afr_lines.specs.declared.request.Area.{Area}
use Rattle.afr_lines.specs.declared.request.Request.TheVariants.{Lock}
use Rattle.afr_lines.specs.declared.answer.Told.TheVariants.{Granted}
use Rattle.afr_model_moves.specs.Cells.{Cell, covers}
use Rattle.afr_model_moves.specs.Past.{Beginning, Log, before, held, grants, frees, blocks, ends, unlocks, joined, opening, actor_of}
use Rattle.afr_model_moves.specs.Honest.{HonestAsk, HonestLine, Honest, asked}
use Rattle.afr_law.proofs.Safety.Areas.{overlap-covers}
use Rattle.afr_model_moves.specs.Lines.{ask_by}
use Rattle.std.proofs.lemmas.Bool.{cases_lt, eqb-true, ne_eqb, or_from}
use Rattle.afr_model_moves.proofs.Tests.{same_self, same_no, three_cases}

-- the line at p granted this lock
pub record Grant (log : Log) (p a b : ℕ) (domain : Domain) (area : Area) : Type 0 where
  pub took : Bool
  pub is : log p ≡ Some (ask_by a b (Lock domain area) Granted took)

pub step_cases : (same g h f : Bool) → (if same then g else (h && not f)) ≡ true → ((same ≡ true) × (g ≡ true)) ⊎ ((same ≡ false) × (h ≡ true) × (f ≡ false))
step_cases true g h f e = inl (refl, e)
step_cases false g true true e = cc
step_cases false g true false e = inr (refl, refl, refl)
step_cases false g false f e = cc

pub step_true : (same g h f : Bool) → same ≡ false → h ≡ true → f ≡ false → (if same then g else (h && not f)) ≡ true
step_true same g h f p q r = rw (p, q, r) refl

-- a line before t
pub before_is : (log : Log) (t q : ℕ) → q < t → before log t q ≡ log q
before_is log t q h = (let hit : nat_lt q t ≡ true = grind (arith, nat_tests) in rw hit refl)

cases_le_last : (u t : ℕ) → u ≤ suc t → (u ≤ t) ⊎ (u ≡ suc t)
cases_le_last u t h = grind arith

pub and_not : (x y : Bool) → (x && not y) ≡ true → y ≡ false
and_not x true e = grind arith
and_not x false e = refl

module _ (log : Log) where
  pub held_past : (t b p : ℕ) → held log t b p ≡ true → p < t
  unfolding held
  held_past zero b p h = cc
  held_past (suc t) b p h =
      elim (step_cases (p == t) (grants b (log t)) (held log t b p) (frees b (before log t p) (log t)) h) [
        | inl w ↦ omega (arith, eqb-true p t w.0)
        | inr w ↦ omega (arith, held_past t b p w.1)
      ]

  pub held_before : (t b p : ℕ) → held log (suc t) b p ≡ true → p < t → held log t b p ≡ true
  unfolding held
  held_before t b p h past =
      elim (step_cases (p == t) (grants b (log t)) (held log t b p) (frees b (before log t p) (log t)) h) [
        | inl w ↦ absurd (omega (arith, eqb-true p t w.0))
        | inr w ↦ w.1
      ]

  pub held_from : (t u b p : ℕ) → held log t b p ≡ true → p < u → u ≤ t → held log u b p ≡ true
  held_from zero u b p h past low = (let e : u ≡ 0 = omega arith in rw e h)
  held_from (suc t) u b p h past low =
      elim (cases_le_last u t low) [
        | inl early ↦ held_from t u b p (held_before t b p h (omega arith)) past early
        | inr last ↦ (rw last h)
      ]

  -- a lock goes on while its owner's session lasts and no Unlock line comes
  pub held_on : (t a b p : ℕ) (domain : Domain) (area : Area) → Grant log p a b domain area → held log t b p ≡ true → joined log (suc t) a b ≡ true → unlocks a b domain area (log t) ≡ false → held log (suc t) b p ≡ true
  unfolding held joined
  held_on t a b p domain area grant h live still =
      let past = held_past t b p h in
      step_true (p == t) (grants b (log t)) (held log t b p) (frees b (before log t p) (log t)) (same_no p t past) h
      (rw (before_is log t p past, grant.is) (or_from (ends a b (log t)) (unlocks a b domain area (log t)) (and_not (joined log t a b || opening log t a b) (ends a b (log t)) live) still))

  pub held_new : (t a b : ℕ) (domain : Domain) (area : Area) → Grant log t a b domain area → held log (suc t) b t ≡ true
  unfolding held
  held_new t a b domain area grant = rw (same_self t, grant.is) (same_self b)

granted_alone : (files : Beginning) (log : Log) (t a b : ℕ) (d : Domain) (e : Area) (took live : Bool) (fault : Option Fault)
    → HonestAsk files log t a b (Lock d e) Granted took live fault → (p : ℕ) → held log t b p ≡ true → blocks a d e (log p) ≡ false
granted_alone files log t a b d e took false fault h = absurd (cc h.0)
granted_alone files log t a b d e took true (Some Fail) h = absurd (cc h.0)
granted_alone files log t a b d e took true (Some Lost) h = absurd (cc h.0)
granted_alone files log t a b d e took true None h = h.0

pub no_way : (d a : Bool) (o : Bool) → (d && not a && o) ≡ false → d ≡ true → a ≡ false → o ≡ true → ⊥
no_way d a o e p q r = grind arith

pub min_both : (t u : ℕ) → (t ≤ u) ⊎ (u ≤ t)
min_both t u = grind arith

-- number n of actor a acts on the cell at brick b, at time t
pub record Locked (log : Log) (cell : Cell) (n a b t : ℕ) : Type 0 where
  pub p : ℕ
  pub area : Area
  pub grant : Grant log p a b Work area
  pub before : p < n
  pub after : n < t
  pub still : held log t b p ≡ true
  pub covered : covers area cell ≡ true

module _ (files : Beginning) (faults : ℕ → ℕ → Option Fault) (log : Log) (honest : Honest files faults log) (cell : Cell) where
  later_excluded : (domain : Domain) → same_domain domain domain ≡ true → (t b p q a c : ℕ) (area other : Area) → Grant log p a b domain area → Grant log q c b domain other → overlap other area ≡ true → (a ≡ c → ⊥)
      → held log t b p ≡ true → held log t b q ≡ true → p < q → ⊥
  later_excluded domain self t b p q a c area other grant second over apart h k less =
      let past = held_past log t b q k in
      let was : held log q b p ≡ true = held_from log t q b p h less (omega arith) in
      let line : HonestLine files faults log q (Some (ask_by c b (Lock domain other) Granted second.took)) = subst (HonestLine files faults log q) second.is (honest q) in
      let none : blocks c domain other (log p) ≡ false = granted_alone files log q c b domain other second.took (joined log q c b || opening log q c b) (faults b (suc (asked log q b))) line p was in
      let none_here : blocks c domain other (Some (ask_by a b (Lock domain area) Granted grant.took)) ≡ false = subst (λ l. blocks c domain other l ≡ false) grant.is none in
      no_way (same_domain domain domain) (a == c) (overlap other area) none_here self (ne_eqb a c apart) over

  pub excluded : (domain : Domain) → same_domain domain domain ≡ true → (t b p q a c : ℕ) (area other : Area) → Grant log p a b domain area → Grant log q c b domain other → overlap other area ≡ true → overlap area other ≡ true → (a ≡ c → ⊥)
      → held log t b p ≡ true → held log t b q ≡ true → ⊥
  excluded domain self t b p q a c area other grant second over under apart h k =
      elim (three_cases p q) [
        | inl less ↦ later_excluded domain self t b p q a c area other grant second over apart h k less
        | inr (inl same) ↦ apart (same_owner domain p q a c b area other grant second same)
        | inr (inr more) ↦ later_excluded domain self t b q p c a other area second grant under (λ e. apart (sym e)) k h more
      ]
    where
      same_owner : (domain : Domain) (p q a c b : ℕ) (area other : Area) → Grant log p a b domain area → Grant log q c b domain other → p ≡ q → a ≡ c
      same_owner domain p q a c b area other grant second e = ap actor_of (sym grant.is ∙ ap log e ∙ second.is)

  -- a number acts before the greater number of another actor is given, or that one finds the lock taken
  pub apart_others : (n m a c b t u : ℕ) → Locked log cell n a b t → Locked log cell m c b u → (a ≡ c → ⊥) → n < m → t < m
  apart_others n m a c b t u one two apart less =
      elim (cases_lt t m) [
        | inl early ↦ early
        | inr late ↦ absurd (elim (min_both t u) [
          | inl low ↦ excluded Work refl t b one.p two.p a c one.area two.area one.grant two.grant (overlap-covers two.area one.area cell two.covered one.covered) (overlap-covers one.area two.area cell one.covered two.covered) apart one.still (held_from log u t b two.p two.still (omega (arith, two.before, late)) low)
          | inr low ↦ excluded Work refl u b one.p two.p a c one.area two.area one.grant two.grant (overlap-covers two.area one.area cell two.covered one.covered) (overlap-covers one.area two.area cell one.covered two.covered) apart (held_from log t u b one.p one.still (omega (arith, one.before, two.after, less)) low) two.still
        ])
      ]
