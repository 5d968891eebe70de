-- Each next line of a heal is allowed.
use Rattle.std.proofs.Common.{ℕ, ◌≡◌, ◌<◌, ◌≤◌, ◌&&◌, Bool, false, refl, true}
use Rattle.afr_base.specs.declared.ids.Gfid.{Gfid}
use Rattle.afr_base.specs.declared.ids.Kind.{Kind}
use Rattle.afr_discipline.specs.Inside.{allows, begins_part, may_heal_begin}
use Rattle.afr_heal.proofs.Parts.{any_no, deny, lt_test, pair}
use Rattle.afr_heal.proofs.StagesAllowed.{enough_work, first_lock_ok, heal_lock_ok, lock_ok, look_ok, may_end, may_heals, may_mends, may_part, may_pre, may_read, may_settles, may_unlocks}
use Rattle.afr_heal.proofs.StagesWalk.{after_elim, broken_elim, first_elim, heal_elim, lock_elim, look_elim, looks_later}
use Rattle.afr_heal.specs.Engine.{NextOfHeal, lock_next, next_of}
use Rattle.afr_heal.specs.Laws.{HealNextAllowed, allows_next, asks_well}
use Rattle.afr_heal.specs.Requests.{request_in}
use Rattle.afr_heal.specs.Standing.{AfterLooks, AtFirst, AtHeal, AtLooks, AtPart, AtViews, AtWork, Broken, Ending, First, Going, Healing, IsBase, Looking, Parting, Viewing, Working}
use Rattle.afr_lines.specs.declared.request.Request.{Request}
use Rattle.afr_model_moves.specs.Register.{Exact, Finish, HealLocks, HealPart, HealPres, HealUnlocks, Looks, Mends, Opening, Piece, Reads, Settles, Unlocks, Untouched, WorkLocks, is_opening, over, same_step, whole_area}
use Rattle.afr_model_moves.specs.Steps.{locks_at, may_heal}
use Rattle.afr_model_moves.proofs.Tests.{same_kind_self, same_self, some_no}
use Rattle.afr_model_moves.proofs.AreaLemmas.{own_area}

module _ (n : ℕ) (keeps : ℕ → Kind → Bool) (r : Exact) (s : ℕ) (g : Gfid) (kind : Kind) where
  -- a request that some source allows
  pub by_source : IsBase g r → r.broken ≡ false → (x : ℕ) → x < n → r.possible x ≡ true → (b : ℕ) (request : Request) → b < n → may_heal n keeps r x b request ≡ true → asks_well n keeps r b request ≡ true
  by_source base whole x l possible b request lb h = pair _ _ (lt_test b n lb) (rw base.inside (rw whole (some_no n (allows n keeps r b request) x l (pair _ _ possible h))))

  pub first_allowed : 0 < n → AtFirst n r → allows_next n keeps r g kind (next_of n keeps r s g kind) ≡ true
  first_allowed some k = first_elim n keeps r s g kind k (λ (next : NextOfHeal). allows_next n keeps r g kind next ≡ true) (pair _ _ (lt_test 0 n some) (let now : same_step r.step Untouched ≡ true = rw k.step refl in rw (k.outside, now) refl))

  pub heal_allowed : 0 < n → AtHeal n keeps r g → allows_next n keeps r g kind (next_of n keeps r s g kind) ≡ true
  heal_allowed some k = heal_elim n keeps r s g kind k (λ (next : NextOfHeal). allows_next n keeps r g kind next ≡ true)
      (λ b l t. by_source k.base k.whole 0 some (k.every 0 some) b (request_in n keeps r s g kind HealLocks b) l (heal_lock_ok n keeps r s g kind k 0 b t))
      (λ h b l t. by_source k.base k.whole 0 some (k.every 0 some) b (request_in n keeps r s g kind WorkLocks b) l (first_lock_ok n keeps r s g kind k h 0 b t))

  begin_ok : IsBase g r → r.broken ≡ false → r.step ≡ WorkLocks → over n (locks_at r r.part) r.asked ≡ true → begins_part n r g.0 kind r.part ≡ true → (r.law.heal && may_heal_begin n r g.0 kind) ≡ true
  begin_ok base whole at o part =
      let now : same_step r.step WorkLocks ≡ true = rw at refl in
      pair _ _ base.inside (pair _ _ (pair _ _ (pair _ _ (pair _ _ (deny _ whole) (rw base.is_object (same_self g.0))) now) o) part)

  pub work_allowed : 0 < n → AtWork n keeps r g kind → allows_next n keeps r g kind (next_of n keeps r s g kind) ≡ true
  work_allowed some k = lock_elim n keeps r s g kind (λ (next : NextOfHeal). allows_next n keeps r g kind next ≡ true) k.whole k.step
      (λ b l t. by_source k.base k.whole 0 some (k.every 0 some) b (request_in n keeps r s g kind WorkLocks b) l (lock_ok n keeps r s g kind 0 (whole_area g.0 kind) k.step k.area b t))
      (λ o. begin_ok k.base k.whole k.step o (rw k.opening (pair _ _ (enough_work n keeps r s g kind k o) (own_area r.law.area (whole_area g.0 kind) k.area))))

  pub part_allowed : AtPart n keeps r s g kind → allows_next n keeps r g kind (next_of n keeps r s g kind) ≡ true
  part_allowed k = lock_elim n keeps r s g kind (λ (next : NextOfHeal). allows_next n keeps r g kind next ≡ true) k.whole k.step
      (λ b l t. by_source k.base k.whole s k.picked.below k.picked.possible b (request_in n keeps r s g kind WorkLocks b) l (lock_ok n keeps r s g kind s k.area k.step k.area_is b t))
      (λ o. begin_ok k.base k.whole k.step o (later r.part k.part))
    where
      later : (part : HealPart) → is_opening part ≡ false → begins_part n r g.0 kind part ≡ true
      later Opening h = absurd (cc h)
      later Piece h = rw k.is_kind (same_kind_self kind)
      later Finish h = rw k.is_kind (same_kind_self kind)

  pub look_allowed : 0 < n → AtLooks n keeps r g kind → allows_next n keeps r g kind (next_of n keeps r s g kind) ≡ true
  look_allowed some k = look_elim n keeps r s g kind (λ (next : NextOfHeal). allows_next n keeps r g kind next ≡ true) k.whole k.step (rw k.opening k.more)
      (λ b l t. by_source k.base k.whole 0 some (k.every 0 some) b (request_in n keeps r s g kind Looks b) l (look_ok n keeps r s g kind 0 k.base k.step b t))

  pub view_allowed : AtViews n keeps r s g kind → allows_next n keeps r g kind (next_of n keeps r s g kind) ≡ true
  view_allowed k = look_elim n keeps r s g kind (λ (next : NextOfHeal). allows_next n keeps r g kind next ≡ true) k.whole k.step (looks_later n keeps r s g kind k.part k.more)
      (λ b l t. by_source k.base k.whole s k.picked.below k.picked.possible b (request_in n keeps r s g kind Looks b) l (look_ok n keeps r s g kind s k.base k.step b t))

  pub broken_allowed : Broken r g → allows_next n keeps r g kind (next_of n keeps r s g kind) ≡ true
  broken_allowed k = broken_elim n keeps r s g kind (λ (next : NextOfHeal). allows_next n keeps r g kind next ≡ true) k.broken
      (λ b l h. pair _ _ (lt_test b n l) (rw (k.base.inside, k.broken) refl))
      (λ none b l h. pair _ _ (lt_test b n l) (rw (k.base.inside, k.broken) refl))
      (λ none off. pair _ _ k.base.inside (pair _ _ (pair _ _ (deny _ (rw (any_no n r.law.held none, any_no n r.law.second_held (λ x l. k.base.no_second x)) refl)) (deny _ (any_no n r.law.healing off))) (rw k.broken refl)))

  module _ (few : n ≤ 5) (k : AfterLooks n keeps r s g kind) where
    asked_well : (b : ℕ) (request : Request) → b < n → may_heal n keeps r s b request ≡ true → asks_well n keeps r b request ≡ true
    asked_well b request l h = by_source k.base k.whole s k.below k.possible b request l h

    pub after_allowed : allows_next n keeps r g kind (next_of n keeps r s g kind) ≡ true
    after_allowed = after_elim n keeps r s g kind k (λ (next : NextOfHeal). allows_next n keeps r g kind next ≡ true)
        (λ b l t. asked_well b (request_in n keeps r s g kind Reads b) l (may_read n keeps r s g kind few k b l t))
        (λ o b l t. asked_well b (request_in n keeps r s g kind HealPres b) l (may_pre n keeps r s g kind few k o b l t))
        (λ o b l t. asked_well b (request_in n keeps r s g kind Mends b) l (may_mends n keeps r s g kind few k o b l t))
        (λ o b l t. asked_well b (request_in n keeps r s g kind Settles b) l (may_settles n keeps r s g kind few k o b l t))
        (λ o b l t. asked_well b (request_in n keeps r s g kind Unlocks b) l (may_unlocks n keeps r s g kind few k o b l t))
        (λ o h p b l t. asked_well b (lock_next r s g b) l (may_part n keeps r s g kind few k h p b l t))
        (λ o h p b l t. asked_well b (request_in n keeps r s g kind HealUnlocks b) l (may_heals n keeps r s g kind few k o h p b l t))
        (λ h u. pair _ _ k.base.inside (may_end n keeps r s g kind few k h u))

-- the next line of a heal is allowed
pub heal_next_allowed : HealNextAllowed
heal_next_allowed n keeps r s g kind some few (First k) = first_allowed n keeps r s g kind some k
heal_next_allowed n keeps r s g kind some few (Healing k) = heal_allowed n keeps r s g kind some k
heal_next_allowed n keeps r s g kind some few (Working k) = work_allowed n keeps r s g kind some k
heal_next_allowed n keeps r s g kind some few (Looking k) = look_allowed n keeps r s g kind some k
heal_next_allowed n keeps r s g kind some few (Parting k) = part_allowed n keeps r s g kind k
heal_next_allowed n keeps r s g kind some few (Viewing k) = view_allowed n keeps r s g kind k
heal_next_allowed n keeps r s g kind some few (Going k) = after_allowed n keeps r s g kind few k
heal_next_allowed n keeps r s g kind some few (Ending k) = broken_allowed n keeps r s g kind k
