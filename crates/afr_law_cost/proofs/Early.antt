-- Each line of a heal up to its first looks comes nearer to its end.
use Rattle.std.proofs.Common.{◌≡◌, ℕ, ◌+◌, ◌*◌, ◌<◌, ◌≤◌, Bool, true, false, refl, subst, ap, arith, None, Some}
use Rattle.afr_base.specs.declared.ids.Gfid.{Gfid}
use Rattle.afr_base.specs.declared.ids.Kind.{Kind}
use Rattle.afr_heal.proofs.Finding.{turn_new, turn_set}
use Rattle.afr_heal.proofs.StagesForms.{granting_by, locking_by, new_at, shape, viewed_form}
use Rattle.afr_heal.proofs.StagesWalk.{first_elim, heal_elim, lock_elim, look_elim}
use Rattle.afr_heal.specs.Answers.{asked_for, begun_at, fits, source_after}
use Rattle.afr_heal.specs.Engine.{Ask, Begins, NextOfHeal, next_of}
use Rattle.afr_heal.specs.Laws.{Keeps}
use Rattle.afr_heal.specs.Standing.{AtFirst, AtHeal, AtLooks}
use Rattle.afr_lines.specs.declared.answer.Told.{Told}
use Rattle.afr_lines.specs.declared.answer.Told.TheVariants as as_told
use Rattle.afr_lines.specs.declared.request.Area.{Area}
use Rattle.afr_lines.specs.declared.request.Request.TheVariants.{Lock, Look}
use Rattle.afr_model_moves.specs.Register.{Exact, HealLocks, Looks, Opening, WorkLocks, everywhere, whole_area}
use Rattle.afr_model_moves.specs.Rules as weak
use Rattle.afr_model_moves.specs.Rules.{Register, busy, heal_area, is_area}
use Rattle.afr_model_moves.specs.Sets.{empty, with, without}
use Rattle.afr_model_moves.specs.Steps.{turn}
use Rattle.afr_object.specs.declared.entry.View.{View}
use Rattle.afr_lines.specs.declared.lock.Domain.TheVariants.{Heal, Work}
use Rattle.afr_law_cost.specs.Laws.{Nearer}
use Rattle.afr_law_cost.specs.Left.{left_in, lines_left, rest_of, taken}
use Rattle.afr_law_cost.proofs.Bounds.{bound_heal, bound_work}
use Rattle.afr_law_cost.proofs.Counting.{left_falls, left_less, left_most, left_one}
use Rattle.afr_model_moves.proofs.Tests.{with_self, with_more, without_in}
use Rattle.afr_law_cost.proofs.Looked.{bound_looks, looks_not}

-- the bound of the new register, and what fell of the step
pub down : (l left' left a b c : ℕ) → l ≤ left' + a + b → left' + c ≤ left → l + c ≤ left + a + b
down l left' left a b c h k = omega (arith, h, k)

-- a Work lock leaves the Heal locks
pub granted_healing : (n : ℕ) (law : Register) (area : Area) (b : ℕ) → (weak.granting n law area b).healing ≡ law.healing
granted_healing n law area b = go (busy n law) (is_area law.area area)
  where
    go : (w own : Bool) → (granting_by w own law area b).healing ≡ law.healing
    go true true = refl
    go true false = refl
    go false own = refl

pub locked_healing : (n : ℕ) (law : Register) (area : Area) → (weak.locking n law area).healing ≡ law.healing
locked_healing n law area = go (busy n law) (is_area law.area area)
  where
    go : (w own : Bool) → (locking_by w own law area).healing ≡ law.healing
    go true own = refl
    go false own = refl

pub as_was : (f h : ℕ → Bool) → f ≡ h → (x : ℕ) → f x ≡ true → h x ≡ true
as_was f h e x k = subst (λ (f : ℕ → Bool). f x ≡ true) e k

module _ (n : ℕ) (keeps : ℕ → Kind → Bool) (pick : (ℕ → Bool) → ℕ) (some : 0 < n) where
  -- the next line comes nearer, if the heal keeps standing
  abbrev pub Nears : Exact → ℕ → Gfid → Kind → NextOfHeal → Type 0
  Nears r s g kind next = Keeps n keeps pick r s g kind next → Nearer n keeps pick r s g kind next

  first_near : (q : Exact) (s : ℕ) (g : Gfid) (kind : Kind) → Nears (new_at q) s g kind (Ask 0 (Lock Heal (heal_area g.0)))
  first_near q s g kind st at told f =
      down (lines_left n keeps (asked_for n keeps (new_at q) at 0 (Lock Heal (heal_area g.0)) told) (source_after n keeps pick (asked_for n keeps (new_at q) at 0 (Lock Heal (heal_area g.0)) told) s) kind)
      (left_in n everywhere (with empty 0)) n (2 * n + 1) (rest_of n kind) 1
      (bound_heal n keeps (asked_for n keeps (new_at q) at 0 (Lock Heal (heal_area g.0)) told) (source_after n keeps pick (asked_for n keeps (new_at q) at 0 (Lock Heal (heal_area g.0)) told) s) kind refl)
      (left_one n everywhere (with empty 0) 0 some refl)

  pub near_first : (q : Exact) (s : ℕ) (g : Gfid) (kind : Kind) → AtFirst n (new_at q) → Nears (new_at q) s g kind (next_of n keeps (new_at q) s g kind)
  near_first q s g kind k = first_elim n keeps (new_at q) s g kind k (Nears (new_at q) s g kind) (first_near q s g kind)

  -- the Heal locks
  module _ (q : Exact) (s : ℕ) (g : Gfid) (kind : Kind) (k : AtHeal n keeps (shape q HealLocks Opening g q.law.kind None) g) where
    abbrev r : Exact
    r = shape q HealLocks Opening g q.law.kind None

    heals_near : (b : ℕ) → b < n → turn n keeps r s HealLocks b ≡ true → Nears r s g kind (Ask b (Lock Heal (heal_area g.0)))
    heals_near b l t st at told f =
        down (lines_left n keeps (asked_for n keeps r at b (Lock Heal (heal_area g.0)) told) (source_after n keeps pick (asked_for n keeps r at b (Lock Heal (heal_area g.0)) told) s) kind)
        (left_in n everywhere (with q.asked b)) (left_in n everywhere q.asked) (2 * n + 1) (rest_of n kind) 1
        (bound_heal n keeps (asked_for n keeps r at b (Lock Heal (heal_area g.0)) told) (source_after n keeps pick (asked_for n keeps r at b (Lock Heal (heal_area g.0)) told) s) kind refl)
        (left_falls n everywhere everywhere q.asked (with q.asked b) b (λ x l h. h) (λ x l h. with_more q.asked b x h) l refl (turn_new n keeps r s HealLocks b t) (with_self q.asked b))

    module _ (b at : ℕ) (l : b < n) where
      abbrev here : Area
      here = whole_area g.0 kind

      abbrev after : Told → Exact
      after told = asked_for n keeps r at b (Lock Work here) told

      works_left : (told : Told) → fits (Lock Work here) told ≡ true → left_in n (after told).law.healing (after told).asked + taken (Lock Work here) told ≤ n
      works_left as_told.Granted f = left_one n (after as_told.Granted).law.healing (with empty b) b l (with_self empty b)
      works_left (as_told.Held owner) f = (let h = left_most n (after (as_told.Held owner)).law.healing empty in omega (arith, h))
      works_left as_told.Failed f = left_one n (after as_told.Failed).law.healing (with empty b) b l (with_self empty b)
      works_left as_told.NotConnected f = left_one n (after as_told.NotConnected).law.healing (with empty b) b l (with_self empty b)
      works_left _ f = absurd (cc f)

      works_near : (told : Told) → fits (Lock Work here) told ≡ true → lines_left n keeps (after told) (source_after n keeps pick (after told) s) kind + taken (Lock Work here) told ≤ left_in n everywhere q.asked + (2 * n + 1) + rest_of n kind
      works_near told f =
          let h = bound_work n keeps (after told) (source_after n keeps pick (after told) s) kind some refl refl in
          let k = works_left told f in
          sum (lines_left n keeps (after told) (source_after n keeps pick (after told) s) kind) (left_in n (after told).law.healing (after told).asked) (left_in n everywhere q.asked) (rest_of n kind) (taken (Lock Work here) told) h k
        where
          sum : (l left' left rest c : ℕ) → l ≤ left' + (n + 1) + rest → left' + c ≤ n → l + c ≤ left + (2 * n + 1) + rest
          sum l left' left rest c h k = omega (arith, h, k)

    pub near_heal : Nears r s g kind (next_of n keeps r s g kind)
    near_heal = heal_elim n keeps r s g kind k (Nears r s g kind) heals_near (λ h b l t st at told f. works_near b at l told f)

  -- the first Work locks
  module _ (q : Exact) (s : ℕ) (g : Gfid) (kind : Kind) where
    abbrev w : Exact
    w = shape q WorkLocks Opening g q.law.kind (Some (whole_area g.0 kind))

    module _ (b at : ℕ) (l : b < n) (t : turn n keeps w s WorkLocks b ≡ true) where
      abbrev there : Area
      there = whole_area g.0 kind

      abbrev told_at : Told → Exact
      told_at told = asked_for n keeps w at b (Lock Work there) told

      dropped : (x : ℕ) → without (weak.locking n w.law there).healing b x ≡ true → q.law.healing x ≡ true
      dropped x h = as_was (weak.locking n w.law there).healing q.law.healing (locked_healing n w.law there) x (without_in (weak.locking n w.law there).healing b x h)

      more_left : (told : Told) → fits (Lock Work there) told ≡ true → left_in n (told_at told).law.healing (told_at told).asked + taken (Lock Work there) told ≤ left_in n q.law.healing q.asked
      more_left as_told.Granted f = left_falls n q.law.healing (weak.granting n w.law there b).healing q.asked (with q.asked b) b (λ x l h. as_was (weak.granting n w.law there b).healing q.law.healing (granted_healing n w.law there b) x h) (λ x l h. with_more q.asked b x h) l (turn_set n keeps w s WorkLocks b t) (turn_new n keeps w s WorkLocks b t) (with_self q.asked b)
      more_left (as_told.Held owner) f = (let h = left_less n q.law.healing (weak.locking n w.law there).healing q.asked q.asked (λ x l h. as_was (weak.locking n w.law there).healing q.law.healing (locked_healing n w.law there) x h) (λ x l h. h) in omega (arith, h))
      more_left as_told.Failed f = left_falls n q.law.healing (weak.locking n w.law there).healing q.asked (with q.asked b) b (λ x l h. as_was (weak.locking n w.law there).healing q.law.healing (locked_healing n w.law there) x h) (λ x l h. with_more q.asked b x h) l (turn_set n keeps w s WorkLocks b t) (turn_new n keeps w s WorkLocks b t) (with_self q.asked b)
      more_left as_told.NotConnected f = left_falls n q.law.healing (without (weak.locking n w.law there).healing b) q.asked (with q.asked b) b (λ x l h. dropped x h) (λ x l h. with_more q.asked b x h) l (turn_set n keeps w s WorkLocks b t) (turn_new n keeps w s WorkLocks b t) (with_self q.asked b)
      more_left _ f = absurd (cc f)

      more_near : (told : Told) → fits (Lock Work there) told ≡ true → lines_left n keeps (told_at told) (source_after n keeps pick (told_at told) s) kind + taken (Lock Work there) told ≤ left_in n q.law.healing q.asked + (n + 1) + rest_of n kind
      more_near told f = down (lines_left n keeps (told_at told) (source_after n keeps pick (told_at told) s) kind) (left_in n (told_at told).law.healing (told_at told).asked) (left_in n q.law.healing q.asked) (n + 1) (rest_of n kind) (taken (Lock Work there) told)
          (bound_work n keeps (told_at told) (source_after n keeps pick (told_at told) s) kind some refl refl) (more_left told f)

    begin_near : Nears w s g kind Begins
    begin_near st at =
        let h = bound_looks n keeps (begun_at n keeps w at g kind) s g kind some refl refl (st at) in
        let k = left_most n q.law.held empty in
        sum (lines_left n keeps (begun_at n keeps w at g kind) s kind) (left_in n q.law.held empty) (left_in n q.law.healing q.asked) (rest_of n kind) h k
      where
        sum : (l left' left rest : ℕ) → l ≤ left' + rest → left' ≤ n → l + 1 ≤ left + (n + 1) + rest
        sum l left' left rest h k = omega (arith, h, k)

    pub near_work : Nears w s g kind (next_of n keeps w s g kind)
    near_work = lock_elim n keeps w s g kind (Nears w s g kind) refl refl (λ b l t st at told f. more_near b at l t told f) (λ o. begin_near)

  -- the first looks
  module _ (q : Exact) (s : ℕ) (g : Gfid) (kind : Kind) (k : AtLooks n keeps (shape q Looks Opening g kind (Some (whole_area g.0 kind))) g kind) where
    abbrev v : Exact
    v = shape q Looks Opening g kind (Some (whole_area g.0 kind))

    module _ (b at : ℕ) (l : b < n) (t : turn n keeps v s Looks b ≡ true) where
      abbrev seen : Told → Exact
      seen told = asked_for n keeps v at b (Look g) told

      held_of : (view : View) (x : ℕ) → (weak.viewed v.law b g.0 view).held x ≡ true → q.law.held x ≡ true
      held_of view x h = as_was (weak.viewed v.law b g.0 view).held q.law.held (ap (λ (law : Register). law.held) (viewed_form v.law b g.0 view)) x h

      looks_left : (told : Told) → fits (Look g) told ≡ true → left_in n (seen told).law.held (seen told).asked + 1 ≤ left_in n q.law.held q.asked
      looks_left (as_told.Seen view) f = left_falls n q.law.held (weak.viewed v.law b g.0 view).held q.asked (with q.asked b) b (λ x l h. held_of view x h) (λ x l h. with_more q.asked b x h) l (turn_set n keeps v s Looks b t) (turn_new n keeps v s Looks b t) (with_self q.asked b)
      looks_left as_told.NoObject f = left_falls n q.law.held q.law.held q.asked (with q.asked b) b (λ x l h. h) (λ x l h. with_more q.asked b x h) l (turn_set n keeps v s Looks b t) (turn_new n keeps v s Looks b t) (with_self q.asked b)
      looks_left as_told.Failed f = left_falls n q.law.held q.law.held q.asked (with q.asked b) b (λ x l h. h) (λ x l h. with_more q.asked b x h) l (turn_set n keeps v s Looks b t) (turn_new n keeps v s Looks b t) (with_self q.asked b)
      looks_left as_told.NotConnected f = left_falls n q.law.held (without q.law.held b) q.asked (with q.asked b) b (λ x l h. without_in q.law.held b x h) (λ x l h. with_more q.asked b x h) l (turn_set n keeps v s Looks b t) (turn_new n keeps v s Looks b t) (with_self q.asked b)
      looks_left _ f = absurd (cc f)

    look_near : (b : ℕ) → b < n → turn n keeps v s Looks b ≡ true → Nears v s g kind (Ask b (Look g))
    look_near b l t st at told f =
        let h = bound_looks n keeps (asked_for n keeps v at b (Look g) told) (source_after n keeps pick (asked_for n keeps v at b (Look g) told) s) g kind some refl refl (st at told f) in
        let j = looks_left b at l t told f in
        let i = looks_not n keeps v s g kind Opening refl refl refl k.more in
        sum (lines_left n keeps (asked_for n keeps v at b (Look g) told) (source_after n keeps pick (asked_for n keeps v at b (Look g) told) s) kind)
        (left_in n (asked_for n keeps v at b (Look g) told).law.held (asked_for n keeps v at b (Look g) told).asked) (left_in n q.law.held q.asked) (rest_of n kind) (lines_left n keeps v s kind) h j i
      where
        sum : (l left' left rest m : ℕ) → l ≤ left' + rest → left' + 1 ≤ left → m ≡ left + rest → l + 1 ≤ m
        sum l left' left rest m h j i = omega (arith, h, j, i)

    pub near_looks : Nears v s g kind (next_of n keeps v s g kind)
    near_looks = look_elim n keeps v s g kind (Nears v s g kind) refl refl k.more look_near
