-- A heal keeps standing while it asks its Heal locks, and at its first Work lock.
use Rattle.std.proofs.Common.{ℕ, ◌≡◌, ◌<◌, ◌&&◌, Bool, None, Some, false, refl, subst, sym, true}
use Rattle.afr_base.specs.declared.ids.Gfid.{Gfid}
use Rattle.afr_base.specs.declared.ids.Kind.{Kind}
use Rattle.afr_heal.proofs.Finding.{turn_set}
use Rattle.afr_heal.proofs.KeptBroken.{KeepsAt}
use Rattle.afr_heal.proofs.Parts.{any_no, pair, with_sub, without_both, without_no}
use Rattle.afr_heal.proofs.StagesAllowed.{first_lock_ok, heal_lock_ok}
use Rattle.afr_heal.proofs.StagesForms.{first_form, granting_first, heal_at, locking_first, new_at, shape, work_at}
use Rattle.afr_heal.proofs.StagesWalk.{first_elim, heal_elim}
use Rattle.afr_heal.specs.Answers.{asked_for, fits, source_after}
use Rattle.afr_heal.specs.Engine.{Ask}
use Rattle.afr_heal.specs.Laws.{Keeps}
use Rattle.afr_heal.specs.Requests.{request_in}
use Rattle.afr_heal.specs.Standing.{AtFirst, AtHeal, Base, Ending, Healing, Standing, Working}
use Rattle.afr_lines.specs.declared.answer.Told.{Told}
use Rattle.afr_lines.specs.declared.request.Area.{Area}
use Rattle.afr_lines.specs.declared.request.Request.TheVariants.{Lock}
use Rattle.afr_model_moves.specs.Note.{stops_at}
use Rattle.afr_model_moves.specs.Register.{Exact, HealLocks, Opening, WorkLocks, whole_area}
use Rattle.afr_model_moves.specs.Rules.{Register, begun, busy, heal_area}
use Rattle.afr_model_moves.specs.Sets.{empty, with}
use Rattle.afr_model_moves.specs.Steps.{may_heal, passed, turn}
use Rattle.afr_lines.specs.declared.lock.Domain.TheVariants.{Heal, Work}
use Rattle.afr_lines.specs.declared.answer.Told.TheVariants as as_told
use Rattle.afr_model_moves.specs.Rules as weak

module _ (n : ℕ) (keeps : ℕ → Kind → Bool) (q : Exact) (s : ℕ) (g : Gfid) (kind : Kind) (asked possible : ℕ → Bool) (law : Register) where
  -- another Heal lock, or too few are left
  pub healed : Base g law.heal law.object law.second_held → ((x : ℕ) → x < n → possible x ≡ true) → ((x : ℕ) → law.held x ≡ false) → law.area ≡ None → ((x : ℕ) → q.first_reached x ≡ false)
      → Standing n keeps (heal_at n keeps q asked possible law) s g kind
  healed base every none_held no_area none_first = go (stops_at n keeps (heal_at n keeps q asked possible law) HealLocks) refl
    where
      go : (f : Bool) → stops_at n keeps (heal_at n keeps q asked possible law) HealLocks ≡ f → Standing n keeps (heal_at n keeps q asked possible law) s g kind
      go true e = Ending (record { base = base; broken = e })
      go false e = Healing (record { base = base; whole = e; step = refl; opening = refl; every = every; none_held = none_held; no_area = no_area; none_first = none_first; going = e })

  -- another Work lock, or too few are left
  pub worked : Base g law.heal law.object law.second_held → ((x : ℕ) → x < n → possible x ≡ true) → ((x : ℕ) → law.held x ≡ true → law.healing x ≡ true)
      → law.area ≡ Some (whole_area g.0 kind) → ((x : ℕ) → q.first_reached x ≡ false) → Standing n keeps (work_at n keeps q asked possible law) s g kind
  worked base every among area none_first = go (stops_at n keeps (work_at n keeps q asked possible law) WorkLocks) refl
    where
      go : (f : Bool) → stops_at n keeps (work_at n keeps q asked possible law) WorkLocks ≡ f → Standing n keeps (work_at n keeps q asked possible law) s g kind
      go true e = Ending (record { base = base; broken = e })
      go false e = Working (record { base = base; whole = e; step = refl; opening = refl; every = every; area = area; among = among; none_first = none_first; going = e })

module _ (n : ℕ) (keeps : ℕ → Kind → Bool) (pick : (ℕ → Bool) → ℕ) where
  first_told : (q : Exact) (s : ℕ) (g : Gfid) (kind : Kind) (k : AtFirst n (new_at q)) → Keeps n keeps pick (new_at q) s g kind (Ask 0 (Lock Heal (heal_area g.0)))
  first_told q s g kind k at as_told.Granted f = healed n keeps (new_at q) s g kind (with empty 0) q.possible _ (record { inside = refl; is_object = refl; no_second = k.no_second }) k.every k.none_held refl k.none_first
  first_told q s g kind k at (as_told.Held owner) f = Ending (record { base = record { inside = refl; is_object = refl; no_second = k.no_second }; broken = refl })
  first_told q s g kind k at as_told.Failed f = healed n keeps (new_at q) s g kind (with empty 0) q.possible _ (record { inside = refl; is_object = refl; no_second = k.no_second }) k.every k.none_held refl k.none_first
  first_told q s g kind k at as_told.NotConnected f =
      healed n keeps (new_at q) s g kind (with empty 0) q.possible _ (record { inside = refl; is_object = refl; no_second = λ x. without_no q.law.second_held 0 x (k.no_second x) }) k.every (λ x. without_no q.law.held 0 x (k.none_held x)) refl k.none_first
  first_told q s g kind k at _ f = absurd (cc f)

  -- no line was: the first Heal lock
  pub starting : 0 < n → (r : Exact) (s : ℕ) (g : Gfid) (kind : Kind) → AtFirst n r → KeepsAt n keeps pick r s g kind
  starting some r s g kind k =
      let e = first_form n keeps r s g kind k in
      let k1 = subst (λ (r : Exact). AtFirst n r) e k in
      subst (λ (r : Exact). KeepsAt n keeps pick r s g kind) (sym e) (first_elim n keeps (new_at r) s g kind k1 (Keeps n keeps pick (new_at r) s g kind) (first_told r s g kind k1))

  module _ (some : 0 < n) (q : Exact) (s : ℕ) (g : Gfid) (kind : Kind) (k : AtHeal n keeps (shape q HealLocks Opening g q.law.kind None) g) where
    abbrev r : Exact
    r = shape q HealLocks Opening g q.law.kind None

    every_heal : (b : ℕ) → turn n keeps r s HealLocks b ≡ true → (x : ℕ) → x < n → (r.possible x && may_heal n keeps r x b (Lock Heal (heal_area g.0))) ≡ true
    every_heal b t x l = pair _ _ (k.every x l) (heal_lock_ok n keeps r s g kind k x b t)

    heals_at : (b : ℕ) → b < n → turn n keeps r s HealLocks b ≡ true → Keeps n keeps pick r s g kind (Ask b (request_in n keeps r s g kind HealLocks b))
    heals_at b l t at as_told.Granted f = healed n keeps r s g kind (with q.asked b) _ _ (record { inside = refl; is_object = refl; no_second = k.base.no_second }) (every_heal b t) k.none_held refl k.none_first
    heals_at b l t at (as_told.Held owner) f = Ending (record { base = record { inside = refl; is_object = refl; no_second = k.base.no_second }; broken = refl })
    heals_at b l t at as_told.Failed f = healed n keeps r s g kind (with q.asked b) _ _ (record { inside = refl; is_object = refl; no_second = k.base.no_second }) (every_heal b t) k.none_held refl k.none_first
    heals_at b l t at as_told.NotConnected f =
        healed n keeps r s g kind (with q.asked b) _ _ (record { inside = refl; is_object = refl; no_second = λ x. without_no q.law.second_held b x (k.base.no_second x) }) (every_heal b t) (λ x. without_no q.law.held b x (k.none_held x)) refl k.none_first
    heals_at b l t at _ f = absurd (cc f)

    module _ (h : passed n keeps r s HealLocks ≡ true) (b at : ℕ) (t : turn n keeps r s WorkLocks b ≡ true) where
      abbrev first_area : Area
      first_area = whole_area g.0 kind

      no_work : busy n r.law ≡ false
      no_work = rw (any_no n q.law.held (λ x l. k.none_held x), any_no n q.law.second_held (λ x l. k.base.no_second x)) refl

      every_first : (x : ℕ) → x < n → (r.possible x && may_heal n keeps r x b (Lock Work first_area)) ≡ true
      every_first x l = pair _ _ (k.every x l) (first_lock_ok n keeps r s g kind k h x b t)

      heal_held : q.law.healing b ≡ true
      heal_held = turn_set n keeps r s WorkLocks b t

      lock_none : weak.locking n r.law first_area ≡ begun r.law first_area
      lock_none = locking_first n r.law first_area b no_work

      grant_none : weak.granting n r.law first_area b ≡ record (begun r.law first_area) { held = with empty b }
      grant_none = granting_first n r.law first_area b no_work

      works_told : (told : Told) → fits (Lock Work first_area) told ≡ true → Standing n keeps (asked_for n keeps r at b (Lock Work first_area) told) (source_after n keeps pick (asked_for n keeps r at b (Lock Work first_area) told) s) g kind
      works_told as_told.Granted f =
          subst (λ (law : Register). Standing n keeps (work_at n keeps r (with empty b) (λ x. r.possible x && may_heal n keeps r x b (Lock Work first_area)) law) s g kind) (sym grant_none)
          (worked n keeps r s g kind (with empty b) _ _ (record { inside = refl; is_object = refl; no_second = λ x. refl }) every_first (λ x. with_sub empty q.law.healing b x heal_held (λ e. absurd (cc e))) refl k.none_first)
      works_told (as_told.Held owner) f =
          subst (λ (law : Register). Standing n keeps (work_at n keeps r empty (λ x. r.possible x && may_heal n keeps r x b (Lock Work first_area)) law) s g kind) (sym lock_none)
          (worked n keeps r s g kind empty _ _ (record { inside = refl; is_object = refl; no_second = λ x. refl }) every_first (λ x e. absurd (cc e)) refl k.none_first)
      works_told as_told.Failed f =
          subst (λ (law : Register). Standing n keeps (work_at n keeps r (with empty b) (λ x. r.possible x && may_heal n keeps r x b (Lock Work first_area)) law) s g kind) (sym lock_none)
          (worked n keeps r s g kind (with empty b) _ _ (record { inside = refl; is_object = refl; no_second = λ x. refl }) every_first (λ x e. absurd (cc e)) refl k.none_first)
      works_told as_told.NotConnected f =
          subst (λ (law : Register). Standing n keeps (work_at n keeps r (with empty b) (λ x. r.possible x && may_heal n keeps r x b (Lock Work first_area)) (weak.dropping true b law)) s g kind) (sym lock_none)
          (worked n keeps r s g kind (with empty b) _ _ (record { inside = refl; is_object = refl; no_second = λ x. without_no empty b x refl }) every_first (λ x. without_both empty q.law.healing b x (λ e. absurd (cc e))) refl k.none_first)
      works_told _ f = absurd (cc f)

    -- the Heal locks
    pub heal_kept : KeepsAt n keeps pick r s g kind
    heal_kept = heal_elim n keeps r s g kind k (Keeps n keeps pick r s g kind) heals_at (λ h b l t at told f. works_told h b at t told f)
