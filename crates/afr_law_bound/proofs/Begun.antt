-- No Work lock is held where a heal still asks for its Heal locks, and a heal holds locks of one area alone.
use Rattle.std.proofs.Common.{◌≡◌, ℕ, zero, suc, ◌&&◌, ◌||◌, not, Bool, true, false, ◌⊎◌, inl, inr, refl, sym, ◌∙◌, arith, Option, Some, None, true≢false}
use Rattle.std.specs.Prelude.{if◌then◌else◌}
use Rattle.std.proofs.lemmas.Bool.{not-true}
use Rattle.afr_base.specs.Bricks.{and_left, and_right}
use Rattle.afr_base.specs.declared.ids.Kind.{Kind}
use Rattle.afr_lines.specs.declared.answer.Told.TheVariants.{Granted}
use Rattle.afr_lines.specs.declared.answer.Told.{Told}
use Rattle.afr_lines.specs.declared.line.Line.TheVariants.{Ask, Begin, End, Event, HealBegin, HealEnd}
use Rattle.afr_lines.specs.declared.line.Line.{Line}
use Rattle.afr_lines.specs.declared.request.Area.{Area}
use Rattle.afr_lines.specs.declared.request.Request.TheVariants.{Apply, Index, List, Lock, Look, Mend, Post, Pre, ReadAttr, ReadAttrs, ReadBytes, ReadName, Settle, Unlock}
use Rattle.afr_lines.specs.declared.request.Request.{Request}
use Rattle.afr_model_moves.specs.Discipline.{MayAskExactly, MayExactly, MovesExactly, note, present}
use Rattle.afr_model_moves.specs.Heal.{Gives, Goes, InHeal}
use Rattle.afr_model_moves.specs.Note.{breaks, left_by, left_in_heal, left_outside, next_part, stay}
use Rattle.afr_model_moves.specs.Past.{Log, is_gone, is_of}
use Rattle.afr_model_moves.specs.Register.{Applies, Exact, HealLocks, HealPart, HealPres, HealUnlocks, Looks, Mends, Open, Opening, Posts, Pres, Reads, Settles, Step, Unlocks, Untouched, WorkLocks, same_step, is_finish}
use Rattle.afr_model_moves.specs.Rules as weak
use Rattle.afr_model_moves.specs.Rules.{Register, begun, busy, is_area, no_views}
use Rattle.afr_model_moves.specs.Transaction.{Outside}
use Rattle.afr_model_moves.specs.Sets.{any, empty, with}
use Rattle.afr_model_moves.specs.Steps.{after_unlocks, is_lowest, is_next, locks_at, may_heal, may_heal_work}
use Rattle.afr_lines.specs.declared.lock.Domain.TheVariants.{Heal, Work}
use Rattle.afr_law_bound.proofs.Fields.{Still, busy_less, heal_kept, heal_locked, less_dropped, less_still, second_dropped, second_unlocked, still}
use Rattle.afr_law.proofs.Discipline.Asks.{IsHealLock, heal_dropped}
use Rattle.afr_law.proofs.Discipline.Projection.{along_now}

-- what is so before the first Work lock of a heal, and of the second area in a heal
pub record Begun (n : ℕ) (step : Step) (part : HealPart) (w : Register) : Type 0 where
  pub fresh : step ≡ Untouched → (busy n w ≡ false) × (w.second ≡ None) × (part ≡ Opening)
  pub locks : step ≡ HealLocks → (busy n w ≡ false) × (part ≡ Opening) × (w.heal ≡ true)
  pub one : w.heal ≡ true → w.second ≡ None

pub heal_locks : (step : Step) → same_step step HealLocks ≡ true → step ≡ HealLocks
heal_locks HealLocks h = refl
heal_locks _ h = absurd (cc h)

none_any : (n : ℕ) (set : ℕ → Bool) → ((x : ℕ) → set x ≡ false) → any n set ≡ false
none_any zero set none = refl
none_any (suc n) set none = rw (none n) (none_any n set none)

pub no_busy : (n : ℕ) → busy n weak.fresh ≡ false
no_busy n = rw (none_any n empty (λ x. refl)) refl

pub begun_start : (n : ℕ) → Begun n Untouched Opening weak.fresh
begun_start n = record { fresh = λ e. (no_busy n, refl, refl); locks = λ e. absurd (cc e); one = λ e. absurd (cc e) }

-- a step that is neither the first nor that of the Heal locks
later : (n : ℕ) (step : Step) (part : HealPart) (w : Register) → (step ≡ Untouched → ⊥) → (step ≡ HealLocks → ⊥) → (w.heal ≡ true → w.second ≡ None) → Begun n step part w
later n step part w first heal one = record { fresh = λ e. absurd (first e); locks = λ e. absurd (heal e); one = one }

module _ (n : ℕ) (keeps : ℕ → Kind → Bool) (r : Exact) (t b : ℕ) (told : Told) (h : Begun n r.step r.part r.law) where
  abbrev Now : Request → Register
  Now request = weak.dropping (is_gone told) b (weak.note_ask n r.law b request told)

  -- a request of a heal that is for no lock leaves the second area
  quiet : (request : Request) → Still r.law (weak.note_ask n r.law b request told) → ((weak.note_ask n r.law b request told).heal ≡ r.law.heal) → (Now request).heal ≡ true → (Now request).second ≡ None
  quiet request k same inside = second_dropped (is_gone told) b (weak.note_ask n r.law b request told) ∙ k.second ∙ h.one (sym same ∙ sym (heal_dropped (is_gone told) b (weak.note_ask n r.law b request told)) ∙ inside)

  -- a Work lock of a heal is of its area, or of a new one where none is held
  pub own_or_idle : (source : ℕ) (area : Area) → may_heal_work n keeps r source b area ≡ true → (busy n r.law ≡ false) ⊎ (is_area r.law.area area ≡ true)
  own_or_idle source area may = go (same_step r.step WorkLocks) (same_step r.step HealLocks) refl may
    where
      go : (wait heal : Bool) → same_step r.step HealLocks ≡ heal → (if wait then is_area r.law.area area && is_lowest (locks_at r r.part) r.asked b
          else if heal then is_next n r source area && is_lowest r.law.healing empty b
          else after_unlocks n r area source && not (is_finish r.part) && is_lowest r.first_reached empty b) ≡ true → (busy n r.law ≡ false) ⊎ (is_area r.law.area area ≡ true)
      go true heal f e = inr (and_left _ _ e)
      go false true f e = inl (h.locks (heal_locks r.step f)).0
      go false false f e = inl (not-true (busy n r.law) (and_right _ _ (and_left _ _ (and_left _ _ (and_left _ _ (and_left _ _ e))))))

  second_locking : (area : Area) → (busy n r.law ≡ false) ⊎ (is_area r.law.area area ≡ true) → r.law.second ≡ None → (weak.locking n r.law area).second ≡ None
  second_locking area why none = go (busy n r.law) (is_area r.law.area area) refl refl
    where
      go : (some own : Bool) → busy n r.law ≡ some → is_area r.law.area area ≡ own → (if some then record r.law { second = if own then r.law.second else Some area } else begun r.law area).second ≡ None
      go true true e f = none
      go true false e f = elim why [ inl idle ↦ absurd (true≢false (sym e ∙ idle)) | inr own ↦ absurd (true≢false (sym own ∙ f)) ]
      go false own e f = refl

  second_granting : (area : Area) → (busy n r.law ≡ false) ⊎ (is_area r.law.area area ≡ true) → r.law.second ≡ None → (weak.granting n r.law area b).second ≡ None
  second_granting area why none = go (busy n r.law && not (is_area r.law.area area)) refl
    where
      wrong : (some own : Bool) → (some && not own) ≡ true → (some ≡ false) ⊎ (own ≡ true) → ⊥
      wrong some own e (inl f) = grind arith
      wrong some own e (inr f) = grind arith

      go : (other : Bool) → (busy n r.law && not (is_area r.law.area area)) ≡ other → (if other then record r.law { second = Some area; second_held = with r.law.second_held b } else (let s = weak.locking n r.law area in record s { held = with s.held b })).second ≡ None
      go true e = absurd (wrong (busy n r.law) (is_area r.law.area area) e why)
      go false e = second_locking area why none

  second_locked : (area : Area) (d : Told) → (busy n r.law ≡ false) ⊎ (is_area r.law.area area ≡ true) → r.law.second ≡ None → (weak.note_ask n r.law b (Lock Work area) d).second ≡ None
  second_locked area Granted why none = second_granting area why none
  second_locked area _ why none = second_locking area why none

  -- ---- in a heal
  abbrev After : Request → Type 0
  After request = Begun n (left_in_heal n r t b request told).step (left_in_heal n r t b request told).part (Now request)

  inner : (request : Request) (step : Step) (part : HealPart) → (step ≡ Untouched → ⊥) → (step ≡ HealLocks → ⊥) → Still r.law (weak.note_ask n r.law b request told) → ((weak.note_ask n r.law b request told).heal ≡ r.law.heal) → Begun n step part (Now request)
  inner request step part first heal k same = later n step part (Now request) first heal (quiet request k same)

  work_freed : (area : Area) → r.law.heal ≡ true → Begun n Unlocks r.part (Now (Unlock Work area))
  work_freed area inside = later n Unlocks r.part (Now (Unlock Work area)) (λ e. cc e) (λ e. cc e) (λ e. second_dropped (is_gone told) b (weak.note_ask n r.law b (Unlock Work area) told) ∙ second_unlocked n r.law b area told ∙ h.one inside)

  heal_freed : (area : Area) → Begun n HealUnlocks r.part (Now (Unlock Heal area))
  heal_freed area = inner (Unlock Heal area) HealUnlocks r.part (λ e. cc e) (λ e. cc e) (still n r.law b (Unlock Heal area) told tt) (heal_kept n r.law b (Unlock Heal area) told (λ k. k))

  -- a lock of the heal's object
  heal_lock : (area : Area) → (busy n r.law ≡ false) → r.part ≡ Opening → r.law.second ≡ None → Begun n HealLocks r.part (Now (Lock Heal area))
  heal_lock area idle opening none =
      let k = still n r.law b (Lock Heal area) told tt in
      record {
        fresh = λ e. absurd (cc e);
        locks = λ e. (
          busy_less n r.law (Now (Lock Heal area)) (less_dropped (is_gone told) b r.law (weak.note_ask n r.law b (Lock Heal area) told) (less_still r.law (weak.note_ask n r.law b (Lock Heal area) told) k)) idle,
          opening,
          heal_dropped (is_gone told) b (weak.note_ask n r.law b (Lock Heal area) told) ∙ heal_locked n r.law b area told,
        );
        one = λ e. second_dropped (is_gone told) b (weak.note_ask n r.law b (Lock Heal area) told) ∙ k.second ∙ none;
      }

  goes : (request : Request) (source : ℕ) → r.law.heal ≡ true → may_heal n keeps r source b request ≡ true → After request
  goes (Lock Heal area) source inside may = (let at = h.locks (heal_locks r.step (and_left _ _ (and_left _ _ may))) in heal_lock area at.0 at.1 (h.one inside))
  goes (Lock Work area) source inside may = later n WorkLocks (next_part r area) (Now (Lock Work area)) (λ e. cc e) (λ e. cc e)
      (λ e. second_dropped (is_gone told) b (weak.note_ask n r.law b (Lock Work area) told) ∙ second_locked area told (own_or_idle source area may) (h.one inside))
  goes (Unlock Work area) source inside may = work_freed area inside
  goes (Unlock Heal area) source inside may = heal_freed area
  goes (Look g) source inside may = inner (Look g) Looks r.part (λ e. cc e) (λ e. cc e) (still n r.law b (Look g) told tt) (heal_kept n r.law b (Look g) told (λ k. k))
  goes (ReadBytes g at len) source inside may = inner (ReadBytes g at len) Reads r.part (λ e. cc e) (λ e. cc e) (still n r.law b (ReadBytes g at len) told tt) (heal_kept n r.law b (ReadBytes g at len) told (λ k. k))
  goes (ReadAttrs g) source inside may = inner (ReadAttrs g) Reads r.part (λ e. cc e) (λ e. cc e) (still n r.law b (ReadAttrs g) told tt) (heal_kept n r.law b (ReadAttrs g) told (λ k. k))
  goes (List g) source inside may = inner (List g) Reads r.part (λ e. cc e) (λ e. cc e) (still n r.law b (List g) told tt) (heal_kept n r.law b (List g) told (λ k. k))
  goes (Pre g kind) source inside may = inner (Pre g kind) HealPres r.part (λ e. cc e) (λ e. cc e) (still n r.law b (Pre g kind) told tt) (heal_kept n r.law b (Pre g kind) told (λ k. k))
  goes (Mend repair) source inside may = inner (Mend repair) Mends r.part (λ e. cc e) (λ e. cc e) (still n r.law b (Mend repair) told tt) (heal_kept n r.law b (Mend repair) told (λ k. k))
  goes (Settle g kind less) source inside may = inner (Settle g kind less) Settles r.part (λ e. cc e) (λ e. cc e) (still n r.law b (Settle g kind less) told tt) (heal_kept n r.law b (Settle g kind less) told (λ k. k))
  goes (Apply q) source inside may = absurd (true≢false (sym may))
  goes (Post q g kind missed) source inside may = absurd (true≢false (sym may))
  goes (ReadName g name) source inside may = absurd (true≢false (sym may))
  goes (ReadAttr g key) source inside may = absurd (true≢false (sym may))
  goes Index source inside may = absurd (true≢false (sym may))

  healing : (request : Request) → r.law.heal ≡ true → InHeal n keeps r b request → After request
  healing request inside (Goes m) = goes request m.source inside m.allowed
  healing (Unlock Work area) inside (Gives in_it broken free) = work_freed area inside
  healing (Unlock Heal area) inside (Gives in_it broken free) = heal_freed area
  healing request inside (Gives in_it broken free) = absurd free

  -- ---- outside one
  stayed : (s : Step) → (s ≡ HealLocks → ⊥) → ((if same_step s Untouched then Open else s) ≡ Untouched → ⊥) × ((if same_step s Untouched then Open else s) ≡ HealLocks → ⊥)
  stayed Untouched k = (λ e. cc e, λ e. cc e)
  stayed HealLocks k = absurd (k refl)
  stayed _ k = (λ e. cc e, λ e. cc e)

  abbrev Aside : Request → Type 0
  Aside request = Begun n (left_outside n r b request told).step (left_outside n r b request told).part (Now request)

  module _ (outside : r.law.heal ≡ false) where
    no_locks : r.step ≡ HealLocks → ⊥
    no_locks e = true≢false (sym (h.locks e).2 ∙ outside)

    never : (request : Request) → (IsHealLock request → ⊥) → (Now request).heal ≡ true → (Now request).second ≡ None
    never request nope e = absurd (true≢false (sym e ∙ heal_dropped (is_gone told) b (weak.note_ask n r.law b request told) ∙ heal_kept n r.law b request told nope ∙ outside))

    stays : (request : Request) → (IsHealLock request → ⊥) → Begun n (stay r).step r.part (Now request)
    stays request nope = (let k = stayed r.step no_locks in later n (stay r).step r.part (Now request) k.0 k.1 (never request nope))

    enters : (request : Request) (step : Step) → (step ≡ Untouched → ⊥) → (step ≡ HealLocks → ⊥) → (IsHealLock request → ⊥) → Begun n step r.part (Now request)
    enters request step first heal nope = later n step r.part (Now request) first heal (never request nope)

    outer : (request : Request) → Outside n keeps r b request → Aside request
    outer (Lock Work area) may = go (busy n r.law)
      where
        go : (some : Bool) → Begun n (if some then stay r else record r { step = Open; asked = empty; unlocked = false; reached = empty; views = no_views }).step (if some then stay r else record r { step = Open; asked = empty; unlocked = false; reached = empty; views = no_views }).part (Now (Lock Work area))
        go true = stays (Lock Work area) (λ k. k)
        go false = enters (Lock Work area) Open (λ e. cc e) (λ e. cc e) (λ k. k)
    outer (Lock Heal area) may = (let k = h.fresh may.first in heal_lock area k.0 k.2 k.1)
    outer (Unlock Work area) may = stays (Unlock Work area) (λ k. k)
    outer (Unlock Heal area) may = stays (Unlock Heal area) (λ k. k)
    outer (Look g) may = stays (Look g) (λ k. k)
    outer (Pre g kind) may = enters (Pre g kind) Pres (λ e. cc e) (λ e. cc e) (λ k. k)
    outer (Apply q) may = enters (Apply q) Applies (λ e. cc e) (λ e. cc e) (λ k. k)
    outer (Post q g kind missed) may = enters (Post q g kind missed) Posts (λ e. cc e) (λ e. cc e) (λ k. k)
    outer (Mend repair) may = absurd may
    outer (Settle g kind less) may = absurd may
    outer request may = stays request (λ k. k)

  -- ---- a request
  pub asked : (request : Request) → MayAskExactly n keeps r b request → Begun n (left_by n keeps r t b request told).step (left_by n keeps r t b request told).part (Now request)
  asked request may = go r.law.heal refl may
    where
      go : (heal : Bool) → r.law.heal ≡ heal → MayAskExactly n keeps r b request
          → Begun n (if heal then record (left_in_heal n r t b request told) { possible = λ s. r.possible s && may_heal n keeps r s b request; broken = r.broken || breaks r request told } else left_outside n r b request told).step
          (if heal then record (left_in_heal n r t b request told) { possible = λ s. r.possible s && may_heal n keeps r s b request; broken = r.broken || breaks r request told } else left_outside n r b request told).part (Now request)
      go true e (inl w) = absurd (true≢false (sym e ∙ w.0))
      go true e (inr k) = healing request e k
      go false e (inl w) = outer e request w.1
      go false e (inr (Goes m)) = absurd (true≢false (sym m.inside ∙ e))
      go false e (inr (Gives inside broken free)) = absurd (true≢false (sym inside ∙ e))

module _ (n : ℕ) (keeps : ℕ → Kind → Bool) where
  -- the same of a register
  abbrev pub IsBegun : Exact → Type 0
  IsBegun r = Begun n r.step r.part r.law

  own : (t a : ℕ) (r : Exact) (line : Option Line) → is_of a line ≡ true → MayExactly n keeps (λ x. r) line → IsBegun r → IsBegun (note n keeps r t line)
  own t a r None mine may h = absurd (true≢false (sym mine))
  own t a r (Some (Ask x b request told took)) mine may h = asked n keeps r t b.0 told h request may.1
  own t a r (Some (Begin x change)) mine may h = later n Open r.part (record r.law { number = suc t }) (λ e. cc e) (λ e. cc e) h.one
  own t a r (Some (HealBegin x g kind)) mine may h = later n Looks r.part (weak.piece r.law t kind) (λ e. cc e) (λ e. cc e) h.one
  own t a r (Some (HealEnd x g kind said)) mine may h = begun_start n
  own t a r (Some (End x said)) mine may h = h
  own t a r (Some (Event event)) mine may h = absurd (true≢false (sym mine))

  module _ (log : Log) (moves : MovesExactly n keeps log) where
    -- so it is with each register of a lawful log
    pub begun_now : (t a : ℕ) → IsBegun (present n keeps log t a)
    begun_now t a = along_now n keeps log moves (λ t a r. IsBegun r) (λ t a. begun_start n) (λ t a r foreign h. h) (λ t a mine h may. own t a (present n keeps log t a) (log t) mine may h) t a
