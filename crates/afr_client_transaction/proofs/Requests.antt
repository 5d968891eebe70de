-- What a request and its answer leave of what a transaction keeps.
use Rattle.std.proofs.Common.{◌⊎◌, ◌≡◌, ℕ, ◌<◌, ◌&&◌, ◌||◌, not, ◌==◌, Bool, true, false, List, [], refl, sym, ◌∙◌, ap, subst, arith, None, Some, if◌then◌else◌, inl, inr}
use Rattle.std.proofs.lemmas.Bool.Decides.{eqb_tells}
use Rattle.afr_base.specs.Bricks.{added, added_if, member, removed, is_nothing, IsWithin}
use Rattle.afr_base.specs.SetLemmas.{member_added, member_removed, within_added_if}
use Rattle.afr_object.specs.declared.change.Change.{Change}
use Rattle.afr_choice.specs.Looks.{no_looks}
use Rattle.afr_lines.specs.declared.lock.Domain.TheVariants.{Work}
use Rattle.afr_lines.specs.Areas.{area_for}
use Rattle.afr_lines.specs.declared.answer.Told.{Told}
use Rattle.afr_lines.specs.declared.answer.Told.TheVariants as as_told
use Rattle.afr_lines.specs.declared.request.Area.{Area}
use Rattle.afr_lines.specs.declared.request.Request.{Request}
use Rattle.afr_lines.specs.declared.request.Request.TheVariants as request
use Rattle.afr_base.specs.declared.ids.Gfid.{Gfid}
use Rattle.afr_base.specs.declared.ids.Kind.{Kind}
use Rattle.afr_model_moves.specs.Past.{is_gone}
use Rattle.afr_model_moves.specs.Sets.{any}
use Rattle.afr_model_moves.specs.Rules.{busy, is_area}
use Rattle.afr_model_moves.specs.Note.{is_granted, is_held, is_done}
use Rattle.afr_model_moves.proofs.AreaLemmas.{own_area}
use Rattle.afr_discipline.specs.declared.register.Register.{Register}
use Rattle.afr_discipline.specs.declared.register.Step.TheVariants as step
use Rattle.afr_discipline.specs.Notes.{anew, counts, dropped, joined, noted_ask, noted_law, noted_inside, noted_outside, still_possible, broken_by, second_left, shown_if, stayed, stopped, with_held}
use Rattle.afr_discipline.specs.Stands.{seen_as}
use Rattle.afr_client_transaction.specs.Progress.{enough}
use Rattle.afr_client_transaction.specs.Sound.{HasQuorum, IsBase, Shown, OnLocks, HasBegun}
use Rattle.afr_client_transaction.proofs.Parts.{any_member, any_nothing, base_done, base_gone, base_left, base_pre, base_shown, no_or, none_at, shown_look, shown_loss, shown_none}

-- what a request and its answer leave outside a heal
abbrev pub after_by : Register → Register → ℕ → Told → Register
after_by steps law b told = stopped (joined steps (dropped (is_gone told) b law))

abbrev pub after_outside : Register → ℕ → Request → Told → Register
after_outside r b request told = after_by (noted_outside r b request told) (noted_law r b request told) b told

pub noted_is : (r : Register) (t b : ℕ) (request : Request) (told : Told) → r.inside ≡ false → noted_ask r t b request told ≡ after_outside r b request told
noted_is r t b request told e =
    ap (λ (s : Register). after_by s (noted_law r b request told) b told)
    (pick r.inside (record (noted_inside r t b request told) { possible = still_possible r b request; broken = r.broken || broken_by r request told }) (noted_outside r b request told) e)
  where
    pick : (x : Bool) (p q : Register) → x ≡ false → (if x then p else q) ≡ q
    pick true p q h = absurd (cc h)
    pick false p q h = refl

-- ---- a lock
-- the register's halves, by whether a Work lock is held and whether the area is its own
abbrev pub named_w : Bool → Bool → Register → Area → Register
named_w w s r area = if w then record r { second = if s then r.second else Some area } else anew r area

abbrev pub taken_w : Bool → Bool → Register → Area → ℕ → Register
taken_w w s r area b = if w && not s then record r { second = Some area; second_held = added b r.second_held } else with_held (named_w w s r area) b

abbrev pub law_w : Bool → Bool → Register → Area → ℕ → Told → Register
law_w w s r area b told = if is_granted told then taken_w w s r area b else named_w w s r area

abbrev pub steps_w : Bool → Register → Register
steps_w w r = if w then stayed r else record r { step = step.Open; asked = []; unlocked = false; looked = no_looks }

abbrev pub locked_w : Bool → Bool → Register → Area → ℕ → Told → Register
locked_w w s r area b told = after_by (steps_w w r) (law_w w s r area b told) b told

-- what one more lock leaves
pub record LockKept (change : Change) (r : Register) (locked granted : List ℕ) : Type 0 where
  pub base : IsBase change r
  pub locks : OnLocks r.shape.n r.begun r.unlocked r.held locked granted

module _ (change : Change) (r : Register) (b : ℕ) (locked granted : List ℕ) (small : b < r.shape.n) (new : member locked b ≡ false) (base : IsBase change r) (k : OnLocks r.shape.n r.begun r.unlocked r.held locked granted) where
  not_granted : member granted b ≡ false
  not_granted = go (member granted b) refl
    where
      go : (x : Bool) → member granted b ≡ x → x ≡ false
      go true e = absurd (cc (new, k.among b e))
      go false e = refl

  within_held : (s : List ℕ) → ((c : ℕ) → member s c ≡ member granted c) → IsWithin r.shape.n s
  within_held s same c m = k.within c (sym (same c) ∙ m)

  grant_same : (s : List ℕ) → ((c : ℕ) → member s c ≡ member granted c) → (c : ℕ) → member (added b s) c ≡ member (added b granted) c
  grant_same s same c = member_added b s c ∙ rw (same c) (sym (member_added b granted c))

  gone_same : (s : List ℕ) → ((c : ℕ) → member s c ≡ member granted c) → (c : ℕ) → member (removed b s) c ≡ member granted c
  gone_same s same c = member_removed b s c ∙ elim (eqb_tells b c) [
    | inl e ↦ rw e.0 (sym (subst (λ (x : ℕ). member granted x ≡ false) e.1 not_granted))
    | inr e ↦ rw e.0 (same c)
  ]

  -- the facts of the locks, with the set that is held now
  with_locks : (held : List ℕ) (flag : Bool) → ((c : ℕ) → member held c ≡ member granted c) → OnLocks r.shape.n None false held (added_if flag b locked) granted
  with_locks held flag same = record {
    first = refl;
    open_still = refl;
    same = same;
    among = λ c m. grown flag c (k.among c m);
    within = k.within;
  }
    where
      grown : (f : Bool) (c : ℕ) → member locked c ≡ true → member (added_if f b locked) c ≡ true
      grown false c m = m
      grown true c m = member_added b locked c ∙ rw m (or_true (b == c))
        where
          or_true : (x : Bool) → (x || true) ≡ true
          or_true true = refl
          or_true false = refl

  with_grant : (held : List ℕ) → ((c : ℕ) → member held c ≡ member (added b granted) c) → OnLocks r.shape.n None false held (added b locked) (added b granted)
  with_grant held same = record {
    first = refl;
    open_still = refl;
    same = same;
    among = λ c m. member_added b locked c ∙ either (b == c) (member locked c) (member granted c) (k.among c) (sym (member_added b granted c) ∙ m);
    within = within_added_if r.shape.n b granted true small k.within;
  }
    where
      either : (x l g : Bool) → (g ≡ true → l ≡ true) → (x || g) ≡ true → (x || l) ≡ true
      either true l g f h = refl
      either false l g f h = f h

  lock_by : (w s : Bool) → (w ≡ true → (s ≡ true) × (r.area ≡ Some (area_for change))) → (w ≡ false → (c : ℕ) → member r.held c ≡ false) → (told : Told)
      → LockKept change (locked_w w s r (area_for change) b told) (added_if (not (is_held told)) b locked) (added_if (is_granted told) b granted)
  lock_by true false own none told = absurd (cc (own refl).0)
  lock_by true true own none as_told.Granted = record {
    base = record {
      few = base.few;
      outside = base.outside;
      no_second = base.no_second;
      none_second = base.none_second;
      none_healing = base.none_healing;
      held_within = within_added_if r.shape.n b r.held true small base.held_within;
      shown = base.shown;
      pre_within = base.pre_within;
      done_within = base.done_within;
      no_bytes = base.no_bytes;
      of_held = λ h. (own refl).1;
    };
    locks = rw (k.first, k.open_still) (with_grant (added b r.held) (grant_same r.held k.same));
  }
  lock_by true true own none as_told.NotConnected = record {
    base = record {
      few = base.few;
      outside = base.outside;
      no_second = base.no_second;
      none_second = ap (removed b) base.none_second;
      none_healing = ap (removed b) base.none_healing;
      held_within = within_held (removed b r.held) (gone_same r.held k.same);
      shown = base.shown;
      pre_within = base.pre_within;
      done_within = base.done_within;
      no_bytes = base.no_bytes;
      of_held = λ h. (own refl).1;
    };
    locks = rw (k.first, k.open_still) (with_locks (removed b r.held) true (gone_same r.held k.same));
  }
  lock_by true true own none told = record {
    base = record {
      few = base.few;
      outside = base.outside;
      no_second = base.no_second;
      none_second = base.none_second;
      none_healing = base.none_healing;
      held_within = base.held_within;
      shown = base.shown;
      pre_within = base.pre_within;
      done_within = base.done_within;
      no_bytes = base.no_bytes;
      of_held = λ h. (own refl).1;
    };
    locks = rw (k.first, k.open_still) (with_locks r.held (not (is_held told)) k.same);
  }
  lock_by false s own none as_told.Granted = record {
    base = record {
      few = base.few;
      outside = base.outside;
      no_second = refl;
      none_second = refl;
      none_healing = base.none_healing;
      held_within = within_added_if r.shape.n b [] true small (λ c m. absurd (cc m));
      shown = shown_none r.shape.n;
      pre_within = λ c m. absurd (cc m);
      done_within = λ c m. absurd (cc m);
      no_bytes = base.no_bytes;
      of_held = λ h. refl;
    };
    locks = with_grant (added b []) (grant_same [] (λ c. sym (sym (k.same c) ∙ none refl c)));
  }
  lock_by false s own none as_told.NotConnected = record {
    base = record {
      few = base.few;
      outside = base.outside;
      no_second = refl;
      none_second = refl;
      none_healing = ap (removed b) base.none_healing;
      held_within = λ c m. absurd (cc m);
      shown = shown_none r.shape.n;
      pre_within = λ c m. absurd (cc m);
      done_within = λ c m. absurd (cc m);
      no_bytes = base.no_bytes;
      of_held = λ h. refl;
    };
    locks = with_locks [] true (λ c. sym (sym (k.same c) ∙ none refl c));
  }
  lock_by false s own none told = record {
    base = record {
      few = base.few;
      outside = base.outside;
      no_second = refl;
      none_second = refl;
      none_healing = base.none_healing;
      held_within = λ c m. absurd (cc m);
      shown = shown_none r.shape.n;
      pre_within = λ c m. absurd (cc m);
      done_within = λ c m. absurd (cc m);
      no_bytes = base.no_bytes;
      of_held = λ h. refl;
    };
    locks = with_locks [] (not (is_held told)) (λ c. sym (sym (k.same c) ∙ none refl c));
  }

  pub lock_kept : (told : Told) → LockKept change (after_outside r b (request.Lock Work (area_for change)) told) (added_if (not (is_held told)) b locked) (added_if (is_granted told) b granted)
  lock_kept told = go (busy r.shape.n (seen_as r).law) refl (is_area r.area (area_for change)) refl
    where
      no_second : any r.shape.n (member r.second_held) ≡ false
      no_second = subst (λ (s : List ℕ). any r.shape.n (member s) ≡ false) (sym base.none_second) (any_nothing r.shape.n)

      left_one : (x y : Bool) → y ≡ false → (x || y) ≡ true → x ≡ true
      left_one true y e h = refl
      left_one false y e h = absurd (cc (e, h))

      go : (w : Bool) → busy r.shape.n (seen_as r).law ≡ w → (s : Bool) → is_area r.area (area_for change) ≡ s
          → LockKept change (locked_w w s r (area_for change) b told) (added_if (not (is_held told)) b locked) (added_if (is_granted told) b granted)
      go w e s f = lock_by w s (λ h. own (e ∙ h)) (λ h. none_at r.shape.n r.held (no_or (any r.shape.n (member r.held)) (any r.shape.n (member r.second_held)) (e ∙ h)).0 base.held_within) told
        where
          own : busy r.shape.n (seen_as r).law ≡ true → (s ≡ true) × (r.area ≡ Some (area_for change))
          own h =
              let area = base.of_held (any_member r.shape.n r.held (left_one (any r.shape.n (member r.held)) (any r.shape.n (member r.second_held)) no_second h)) in
              (sym f ∙ own_area r.area (area_for change) area, area)

-- ---- the other requests
module _ (change : Change) (r : Register) (b : ℕ) (small : b < r.shape.n) (base : IsBase change r) where
  -- a look, whether it counts or not
  look_shown : (c : Bool) (told : Told) → Shown r.shape.n (shown_if c r.looked b told)
  look_shown false told = base.shown
  look_shown true (as_told.Seen view) = shown_look r.shape.n b (Some view) r.looked small base.shown
  look_shown true as_told.NoObject = shown_look r.shape.n b None r.looked small base.shown
  look_shown true told = shown_loss r.shape.n b r.looked base.few small base.shown

  pub look_base : (g : Gfid) (told : Told) → IsBase change (after_outside r b (request.Look g) told)
  look_base g as_told.NotConnected = base_shown _ _ _ _ _ _ _ _ _ _ _ _ (base_gone _ _ _ _ _ _ _ _ _ _ _ _ base b) _ (look_shown (counts r b g.0) as_told.NotConnected)
  look_base g told = base_shown _ _ _ _ _ _ _ _ _ _ _ _ base _ (look_shown (counts r b g.0) told)

  pub look_area : (g : Gfid) (told : Told) → (after_outside r b (request.Look g) told).area ≡ r.area
  look_area g as_told.NotConnected = refl
  look_area g told = refl

  pub pre_base : (g : Gfid) (kind : Kind) (told : Told) → IsBase change (after_outside r b (request.Pre g kind) told)
  pre_base g kind as_told.Done = base_pre _ _ _ _ _ _ _ _ _ _ _ _ base b true small
  pre_base g kind as_told.NotConnected = base_gone _ _ _ _ _ _ _ _ _ _ _ _ base b
  pre_base g kind told = base

  pub pre_begun : (g : Gfid) (kind : Kind) (told : Told) → HasBegun 2 change r → HasBegun 2 change (after_outside r b (request.Pre g kind) told)
  pre_begun g kind as_told.NotConnected k = record { number = k.number; is_begun = k.is_begun; open_still = k.open_still; named = k.named; order = omega arith }
  pre_begun g kind told k = record { number = k.number; is_begun = k.is_begun; open_still = k.open_still; named = k.named; order = omega arith }

  pub apply_base : (q : ℕ) (told : Told) → IsBase change (after_outside r b (request.Apply q) told)
  apply_base q as_told.Done = base_done _ _ _ _ _ _ _ _ _ _ _ _ base b true small
  apply_base q as_told.NotConnected = base_gone _ _ _ _ _ _ _ _ _ _ _ _ base b
  apply_base q told = base

  pub apply_begun : (q : ℕ) (told : Told) → HasBegun 3 change r → HasBegun 3 change (after_outside r b (request.Apply q) told)
  apply_begun q as_told.NotConnected k = record { number = k.number; is_begun = k.is_begun; open_still = k.open_still; named = k.named; order = omega arith }
  apply_begun q told k = record { number = k.number; is_begun = k.is_begun; open_still = k.open_still; named = k.named; order = omega arith }

  pub apply_enough : (q : ℕ) (told : Told) (kind : Kind) → enough r kind r.pre ≡ true → enough (after_outside r b (request.Apply q) told) kind (after_outside r b (request.Apply q) told).pre ≡ true
  apply_enough q as_told.NotConnected kind h = h
  apply_enough q told kind h = h

  pub post_base : (q : ℕ) (g : Gfid) (kind : Kind) (missed : List ℕ) (told : Told) → IsBase change (after_outside r b (request.Post q g kind missed) told)
  post_base q g kind missed as_told.NotConnected = base_gone _ _ _ _ _ _ _ _ _ _ _ _ base b
  post_base q g kind missed told = base

  pub post_begun : (q : ℕ) (g : Gfid) (kind : Kind) (missed : List ℕ) (told : Told) → HasBegun 4 change r → HasBegun 4 change (after_outside r b (request.Post q g kind missed) told)
  post_begun q g kind missed as_told.NotConnected k = record { number = k.number; is_begun = k.is_begun; open_still = k.open_still; named = k.named; order = omega arith }
  post_begun q g kind missed told k = record { number = k.number; is_begun = k.is_begun; open_still = k.open_still; named = k.named; order = omega arith }

  pub post_enough : (q : ℕ) (g : Gfid) (kind : Kind) (missed : List ℕ) (told : Told) (of : Kind) → enough r of r.done ≡ true
      → enough (after_outside r b (request.Post q g kind missed) told) of (after_outside r b (request.Post q g kind missed) told).done ≡ true
  post_enough q g kind missed as_told.NotConnected of h = h
  post_enough q g kind missed told of h = h

  abbrev unlocked_w : Bool → Area → Told → Register
  unlocked_w s area told = after_by (noted_outside r b (request.Unlock Work area) told) (if is_done told then (if s then record r { held = removed b r.held } else record r { second_held = second_left r area b }) else r) b told

  unlock_by : (area : Area) (s : Bool) → s ≡ true → (told : Told) → IsBase change (unlocked_w s area told)
  unlock_by area false e told = absurd (cc e)
  unlock_by area true e as_told.Done = base_left _ _ _ _ _ _ _ _ _ _ _ _ base b
  unlock_by area true e as_told.NotConnected = base_gone _ _ _ _ _ _ _ _ _ _ _ _ base b
  unlock_by area true e told = base

  pub unlock_base : (told : Told) → is_nothing r.held ≡ false → IsBase change (after_outside r b (request.Unlock Work (area_for change)) told)
  unlock_base told some = unlock_by (area_for change) (is_area r.area (area_for change)) (own_area r.area (area_for change) (base.of_held some)) told

-- ---- what each request leaves of post-op, and of the views
module _ (change : Change) (r : Register) (b : ℕ) where
  posts_lock_by : (area : Area) (w s : Bool) (told : Told) → r.post ≡ [] → (locked_w w s r area b told).post ≡ []
  posts_lock_by area true true as_told.Granted e = e
  posts_lock_by area true true as_told.NotConnected e = e
  posts_lock_by area true true told e = e
  posts_lock_by area true false as_told.Granted e = e
  posts_lock_by area true false as_told.NotConnected e = e
  posts_lock_by area true false told e = e
  posts_lock_by area false s as_told.Granted e = refl
  posts_lock_by area false s as_told.NotConnected e = refl
  posts_lock_by area false s told e = refl

  pub posts_lock : (area : Area) (told : Told) → r.post ≡ [] → (after_outside r b (request.Lock Work area) told).post ≡ []
  posts_lock area told e = posts_lock_by area (busy r.shape.n (seen_as r).law) (is_area r.area area) told e

  pub posts_look : (g : Gfid) (told : Told) → r.post ≡ [] → (after_outside r b (request.Look g) told).post ≡ []
  posts_look g as_told.NotConnected e = e
  posts_look g told e = e

  abbrev pub Quorum : Register → Type 0
  Quorum q = HasQuorum change q.shape q.looked

  pub quorum_pre : (g : Gfid) (kind : Kind) (told : Told) → Quorum r → Quorum (after_outside r b (request.Pre g kind) told)
  quorum_pre g kind as_told.NotConnected h = h
  quorum_pre g kind told h = h

  pub quorum_apply : (q : ℕ) (told : Told) → Quorum r → Quorum (after_outside r b (request.Apply q) told)
  quorum_apply q as_told.NotConnected h = h
  quorum_apply q told h = h

  pub quorum_post : (q : ℕ) (g : Gfid) (kind : Kind) (missed : List ℕ) (told : Told) → Quorum r → Quorum (after_outside r b (request.Post q g kind missed) told)
  quorum_post q g kind missed as_told.NotConnected h = h
  quorum_post q g kind missed told h = h

  abbrev released_w : Bool → Area → Told → Register
  released_w s area told = after_by (noted_outside r b (request.Unlock Work area) told) (if is_done told then (if s then record r { held = removed b r.held } else record r { second_held = second_left r area b }) else r) b told

  posted_unlock_by : (area : Area) (s : Bool) (told : Told) → (r.post ≡ []) ⊎ Quorum r → ((released_w s area told).post ≡ []) ⊎ Quorum (released_w s area told)
  posted_unlock_by area true as_told.Done h = h
  posted_unlock_by area false as_told.Done h = h
  posted_unlock_by area s as_told.NotConnected h = h
  posted_unlock_by area s told h = h

  pub posted_unlock : (area : Area) (told : Told) → (r.post ≡ []) ⊎ Quorum r → ((after_outside r b (request.Unlock Work area) told).post ≡ []) ⊎ Quorum (after_outside r b (request.Unlock Work area) told)
  posted_unlock area told h = posted_unlock_by area (is_area r.area area) told h
