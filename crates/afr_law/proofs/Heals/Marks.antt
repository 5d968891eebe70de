-- What the lines of a log leave of the marks that a heal saw, under its Heal lock.
use Rattle.afr_lines.specs.declared.fault.Fault.{Fault}
use Rattle.std.proofs.Common.{◌≡◌, ℕ, suc, Bool, true, false, ◌||◌, ◌⊎◌, inl, inr, refl, sym, ap, ◌∙◌, subst, true≢false}
use Rattle.std.specs.Prelude.{Option, Some}
use Rattle.afr_base.specs.declared.ids.Kind.{Kind}
use Rattle.afr_base.specs.declared.marks.Marks.{Marks}
use Rattle.afr_lines.specs.declared.lock.Domain.TheVariants.{Heal}
use Rattle.afr_lines.specs.declared.request.Request.{Request}
use Rattle.afr_lines.specs.declared.answer.Told.{Told}
use Rattle.afr_lines.specs.declared.answer.Told.TheVariants.{Done}
use Rattle.afr_model_moves.specs.Past.{Beginning, Log, joined, opening, is_of, brick_of}
use Rattle.afr_model_moves.specs.Honest.{HonestLine, Honest, asked}
use Rattle.afr_model_moves.specs.Rules.{Register, fresh, MaySettle, heal_area, in_force, register, Lawful, opened, present}
use Rattle.afr_model_moves.specs.Cells.{Byte}
use Rattle.afr_law.proofs.Safety.Locks.{excluded}
use Rattle.afr_law.proofs.Safety.Standing.{HeldAt, Standing, standing_fresh}
use Rattle.afr_law.proofs.Safety.Registers.{standing, goes_back, joined_back}
use Rattle.afr_law.proofs.Safety.Numbers.{Numbered, numbered, numbered_fresh}
use Rattle.afr_law.proofs.Safety.Acts.{may_ask}
use Rattle.afr_model_moves.specs.Lines.{ask_by, settle_on}
use Rattle.afr_law.proofs.Heals.Looks.{SettleLine, Viewing, viewing_fresh, Quiet, heal_overlap, settle_told, lost_ends, settle_works}
use Rattle.afr_model_moves.proofs.Tests.{same_self}

pub no_start : (r : Register) → r ≡ fresh → r.start ≡ 0
no_start r e = ap (λ (q : Register). q.start) e

module _ (n : ℕ) (keeps : ℕ → Kind → Bool) (files : Beginning) (faults : ℕ → ℕ → Option Fault) (log : Log) (honest : Honest files faults log) (lawful : Lawful n keeps log) where
  -- two actors don't settle at one brick while one of them holds the Heal lock
  clash : (start t a x g : ℕ) (kind : Kind) → HeldAt log t a x Heal start (Some (heal_area g)) → joined log t a x ≡ true → (w : SettleLine files log t x g kind) → (a ≡ w.a → ⊥) → ⊥
  clash start t a x g kind mine live w apart =
      let may : MaySettle n keeps log t w.a (present n log t w.a) x g kind w.less = may_ask n keeps files faults log honest lawful t w.a x (settle_on g kind w.less) w.told true w.is in
      let work = settle_works n keeps files faults log honest lawful t w.a x g kind w.less w.told w.is in
      let its = work.2.standing.healing x may.healing in
      excluded files faults log honest (Byte 0 0) Heal refl t x mine.p its.p a w.a mine.mine its.mine mine.grant its.grant
      (heal_overlap (present n log t w.a).object g its.mine mine.mine its.is mine.is (sym may.object_same))
      (heal_overlap g (present n log t w.a).object mine.mine its.mine mine.is its.is may.object_same)
      apart (mine.on live) (its.on work.2.live)

  pub quiet_foreign : (t a : ℕ) (r : Register) → is_of a (log t) ≡ false → Standing log t a r → Quiet files log t a r r.settled r.healing
  quiet_foreign t a r other s x some un heal live =
      let back = joined_back log t a x (rw other refl) live in (
        un,
        heal,
        back,
        λ w. clash r.start t a x r.object r.kind (s.healing x heal) back w (λ k. true≢false (sym (rw k (same_self w.a)) ∙ subst (λ l. is_of a l ≡ false) w.is other)),
      )

  -- an own Settle line at a brick was told Done there
  own_settle : (t a b x g : ℕ) (kind : Kind) (request : Request) (told : Told) (took : Bool) → log t ≡ Some (ask_by a b request told took) → joined log (suc t) a x ≡ true
      → SettleLine files log t x g kind → (less : Marks) × (request ≡ settle_on g kind less) × (told ≡ Done) × (x ≡ b)
  own_settle t a b x g kind request told took is live line = (line.less, cc (line.is, is), done line, ap brick_of (sym line.is ∙ is))
    where
      done : (w : SettleLine files log t x g kind) → told ≡ Done
      done w =
          elim (settle_told files log t w.a x g kind w.less w.told (joined log t w.a x || opening log t w.a x) (faults x (suc (asked log t x))) (subst (HonestLine files faults log t) w.is (honest t)) w.there) [
            | inl d ↦ cc (w.is, is, d)
            | inr lost ↦ absurd (lost_ends log t a x (settle_on g kind w.less) (cc (w.is, is, lost)) live)
          ]

  -- the register of a line, not noted yet
  pub record Ready (t a : ℕ) (r : Register) : Type 0 where
    pub standing : Standing log t a r
    pub numbers : Numbered log t a r
    pub viewing : Viewing files log t a r
    pub old : (x : ℕ) → (joined log (suc t) a x ≡ true → joined log t a x ≡ true) ⊎ (r ≡ fresh)
    pub number_old : (q : ℕ) → r.number ≡ suc q → opened log t a ≡ false

  pub ready : (t a : ℕ) → Viewing files log t a (register n log t a) → Ready t a (present n log t a)
  ready t a v = go (opened log t a) refl
    where
      go : (first : Bool) → opened log t a ≡ first → Ready t a (in_force first (register n log t a))
      go true e = record {
        standing = standing_fresh log t a;
        numbers = numbered_fresh log t a;
        viewing = viewing_fresh files log t a;
        old = λ x. inr refl;
        number_old = λ q k. absurd (cc k);
      }
      go false e = record {
        standing = standing n keeps files faults log honest lawful t a;
        numbers = numbered n keeps files faults log honest lawful t a;
        viewing = v;
        old = λ x. inl (goes_back n keeps files faults log honest lawful t a e x);
        number_old = λ q k. e;
      }

  -- an own line that isn't a Settle told Done leaves the marks
  pub quiet_own : (t a b : ℕ) (r : Register) (request : Request) (told : Told) (took : Bool) (settled_now healing_now : ℕ → Bool) → log t ≡ Some (ask_by a b request told took) → Ready t a r
      → ((x : ℕ) → settled_now x ≡ false → r.settled x ≡ false)
      → ((x : ℕ) (g : ℕ) (kind : Kind) (less : Marks) → request ≡ settle_on g kind less → told ≡ Done → x ≡ b → settled_now x ≡ false → ⊥)
      → ((x : ℕ) → (r.start ≡ 0 → ⊥) → healing_now x ≡ true → r.healing x ≡ true) → Quiet files log t a r settled_now healing_now
  quiet_own t a b r request told took settled_now healing_now is w less_settled no_settle less_healing x some un heal live = (
    less_settled x un,
    less_healing x some heal,
    elim (w.old x) [ inl back ↦ back live | inr new ↦ absurd (some (no_start r new)) ],
    (λ line. (let s = own_settle t a b x r.object r.kind request told took is live line in no_settle x r.object r.kind s.0 s.1 s.2 s.3 un)),
  )
