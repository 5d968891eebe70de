-- Each range that an actor may lock has a number in it.
use Rattle.std.proofs.Common.{Bool, arith, false, inl, inr, refl, subst, sym, true, ℕ, ◌&&◌, ◌||◌, ◌≡◌}
use Rattle.std.specs.Prelude.{None, Option, Some, if◌then◌else◌, not, nat_lt}
use Rattle.afr_base.specs.declared.ids.Kind.{Kind}
use Rattle.afr_base.specs.declared.ids.Kind.TheVariants.{Attrs, Bytes, Names}
use Rattle.afr_lines.specs.Overlap.{same_area}
use Rattle.afr_lines.specs.declared.answer.Told.{Told}
use Rattle.afr_lines.specs.declared.line.Line.{Line}
use Rattle.afr_lines.specs.declared.line.Line.TheVariants.{Ask, Begin, End, Event, HealBegin, HealEnd}
use Rattle.afr_lines.specs.declared.request.Area.{Area}
use Rattle.afr_lines.specs.declared.request.Area.TheVariants.{Name, Range}
use Rattle.afr_lines.specs.declared.request.Request.{Request}
use Rattle.afr_lines.specs.declared.request.Request.TheVariants.{Lock}
use Rattle.afr_lines.specs.declared.lock.Domain.{Domain}
use Rattle.afr_lines.specs.declared.lock.Domain.TheVariants.{Heal, Work}
use Rattle.afr_model_moves.proofs.AreaLemmas.{is_area_is, same_area_is}
use Rattle.afr_model_moves.specs.Covering.{HasNumber}
use Rattle.afr_model_moves.specs.Discipline.{MayAskExactly, MayExactly, MovesExactly, exact, in_force, note, present}
use Rattle.afr_model_moves.specs.Heal.{Gives, Goes}
use Rattle.afr_model_moves.specs.Past.{Log, is_gone}
use Rattle.afr_model_moves.specs.Register.{Exact, HealLocks, IsArea, WorkLocks, is_finish, len_of, piece_area, same_step, whole_area}
use Rattle.afr_model_moves.specs.Rules as weak
use Rattle.afr_model_moves.specs.Rules.{Register, begun, busy, heal_area, is_area, second_of}
use Rattle.afr_model_moves.specs.Steps.{after_unlocks, is_lowest, is_next, is_whole, locks_at, may_heal_work}
use Rattle.afr_law.proofs.Discipline.Projection.{along}
use Rattle.afr_law.proofs.Heals.Conditions.{heal_lock_area}
use Rattle.afr_law.proofs.Safety.Standing.{Applies, Frees, Grants, HealFrees, HealGrants, HealTries, HealWaits, Looks, Mends, Noted, Posts, Pres, Same, Settles, Tries, Waits, noted}
use Rattle.afr_model_moves.specs.Sets.{empty, with, without}
use Rattle.afr_object.specs.declared.entry.View.{View}
use Rattle.afr_base.specs.Bricks.{and_left, and_right}

-- the area of the register has a number in it
abbrev pub AreaHas : Option Area → Type 0
AreaHas area = (mine : Area) → area ≡ Some mine → HasNumber mine

none_has : AreaHas None
none_has mine e = absurd (cc e)

some_has : (area : Area) → HasNumber area → AreaHas (Some area)
some_has area h mine e = (let same : area ≡ mine = cc e in subst HasNumber same h)

same_has : (area other : Area) → same_area area other ≡ true → HasNumber area → HasNumber other
same_has area other e h = subst HasNumber (same_area_is area other e) h

valid_has : (area : Area) → IsArea area → HasNumber area
valid_has (Range g from to) valid = valid.0
valid_has (Name g name) valid = tt

whole_has : (g : ℕ) (kind : Kind) → HasNumber (whole_area g kind)
whole_has g Bytes = omega arith
whole_has g Attrs = omega arith
whole_has g Names = tt

piece_has : (g at : ℕ) → HasNumber (piece_area g at)
piece_has g at = omega arith

-- ---- what a request leaves
module _ (n : ℕ) (r : Register) (b : ℕ) (request : Request) (h : AreaHas r.area) (new : (area : Area) → request ≡ Lock Work area → HasNumber area) where
  locked_has : (area : Area) → HasNumber area → AreaHas (weak.locking n r area).area
  locked_has area has = go (busy n r)
    where
      go : (some : Bool) → AreaHas (if some then record r { second = second_of r area } else begun r area).area
      go true = h
      go false = some_has area has

  granted_has : (area : Area) → HasNumber area → AreaHas (weak.granting n r area b).area
  granted_has area has = go (busy n r && not (is_area r.area area))
    where
      go : (other : Bool) → AreaHas (if other then record r { second = Some area; second_held = with r.second_held b } else (let s = weak.locking n r area in record s { held = with s.held b })).area
      go true = h
      go false = locked_has area has

  looking_has : (g : ℕ) (view : View) → AreaHas (weak.looking r b g view).area
  looking_has g view = go r.heal
    where
      seen : (test : Bool) (first : ℕ → Option View) → AreaHas (if test then record r { view = weak.put_view r.view b view; first = first } else r).area
      seen true first = h
      seen false first = h

      look : (test : Bool) → AreaHas (if test then record r { seen = with r.seen b } else r).area
      look true = h
      look false = h

      go : (heal : Bool) → AreaHas (if heal then weak.viewed r b g view else weak.looked r b).area
      go true = seen _ _
      go false = look _

  freed_has : (area : Area) → AreaHas (weak.released r area b).area
  freed_has area = go (is_area r.area area)
    where
      go : (own : Bool) → AreaHas (if own then record r { closed = with r.closed b; held = without r.held b } else record r { second_held = weak.second_freed r area b }).area
      go true = h
      go false = h

  tried_has : (area : Area) → AreaHas (weak.unlocked r area b).area
  tried_has area = go (is_area r.area area)
    where
      go : (own : Bool) → AreaHas (if own then record r { closed = with r.closed b } else r).area
      go true = h
      go false = h

  noted_has : (told : Told) (s : Register) → Noted n r b request told s → AreaHas s.area
  noted_has told s (Grants area is said e) = subst (λ (w : Register). AreaHas w.area) (sym e) (granted_has area (new area is))
  noted_has told s (Waits area is e) = subst (λ (w : Register). AreaHas w.area) (sym e) (locked_has area (new area is))
  noted_has told s (Frees area is said e) = subst (λ (w : Register). AreaHas w.area) (sym e) (freed_has area)
  noted_has told s (Tries area is said e) = subst (λ (w : Register). AreaHas w.area) (sym e) (tried_has area)
  noted_has told s (HealGrants area is said e) = subst (λ (w : Register). AreaHas w.area) (sym e) h
  noted_has told s (HealWaits area is e) = subst (λ (w : Register). AreaHas w.area) (sym e) h
  noted_has told s (HealFrees area is said e) = subst (λ (w : Register). AreaHas w.area) (sym e) h
  noted_has told s (HealTries area is said e) = subst (λ (w : Register). AreaHas w.area) (sym e) h
  noted_has told s (Looks g view is said e) = subst (λ (w : Register). AreaHas w.area) (sym e) (looking_has g view)
  noted_has told s (Pres g kind is said e) = subst (λ (w : Register). AreaHas w.area) (sym e) h
  noted_has told s (Applies q is said e) = subst (λ (w : Register). AreaHas w.area) (sym e) h
  noted_has told s (Posts q g kind missed is said e) = subst (λ (w : Register). AreaHas w.area) (sym e) h
  noted_has told s (Mends repair is said e) = subst (λ (w : Register). AreaHas w.area) (sym e) h
  noted_has told s (Settles g kind less is said e) = subst (λ (w : Register). AreaHas w.area) (sym e) h
  noted_has told s (Same keeps plain e) = subst (λ (w : Register). AreaHas w.area) (sym e) h

  pub asked_has : (told : Told) → AreaHas (weak.dropping (is_gone told) b (weak.note_ask n r b request told)).area
  asked_has told = go (is_gone told)
    where
      go : (gone : Bool) → AreaHas (weak.dropping gone b (weak.note_ask n r b request told)).area
      go true = noted_has told (weak.note_ask n r b request told) (noted n r b request told)
      go false = noted_has told (weak.note_ask n r b request told) (noted n r b request told)

-- ---- what may be locked
module _ (n : ℕ) (keeps : ℕ → Kind → Bool) (r : Exact) (b : ℕ) (h : AreaHas r.law.area) where
  is_whole_has : (area : Area) (g : ℕ) → is_whole area g ≡ true → HasNumber area
  is_whole_has area g e = go (same_area (whole_area g Bytes) area) refl (same_area (whole_area g Attrs) area) refl e
    where
      go : (bytes : Bool) → same_area (whole_area g Bytes) area ≡ bytes → (attrs : Bool) → same_area (whole_area g Attrs) area ≡ attrs → (bytes || attrs || same_area (whole_area g Names) area) ≡ true → HasNumber area
      go true k attrs l m = same_has (whole_area g Bytes) area k (whole_has g Bytes)
      go false k true l m = same_has (whole_area g Attrs) area l (whole_has g Attrs)
      go false k false l m = same_has (whole_area g Names) area m (whole_has g Names)

  work_has : (source : ℕ) (area : Area) → may_heal_work n keeps r source b area ≡ true → HasNumber area
  work_has source area e = go (same_step r.step WorkLocks) (same_step r.step HealLocks) e
    where
      part : (short : Bool) → (if short then same_area (piece_area r.law.object r.upto) area else same_area (whole_area r.law.object Bytes) area) ≡ true → HasNumber area
      part true k = same_has (piece_area r.law.object r.upto) area k (piece_has r.law.object r.upto)
      part false k = same_has (whole_area r.law.object Bytes) area k (whole_has r.law.object Bytes)

      go : (wait heal : Bool) → (if wait then is_area r.law.area area && is_lowest (locks_at r r.part) r.asked b
          else if heal then is_next n r source area && is_lowest r.law.healing empty b
          else after_unlocks n r area source && not (is_finish r.part) && is_lowest r.first_reached empty b) ≡ true → HasNumber area
      go true heal m = h area (is_area_is r.law.area area (and_left _ _ m))
      go false true m = is_whole_has area r.law.object (and_right _ _ (and_left _ _ m))
      go false false m = part (nat_lt r.upto (len_of (r.first_views source))) (and_right _ _ (and_left _ _ (and_left _ _ m)))

  pub lock_has : (domain : Domain) (area : Area) → MayAskExactly n keeps r b (Lock domain area) → HasNumber area
  lock_has Work area (inl k) = valid_has area (k.1).valid
  lock_has Heal area (inl k) = subst HasNumber (sym (k.1).range) (omega arith)
  lock_has Work area (inr (Goes m)) = work_has m.source area m.allowed
  lock_has Heal area (inr (Goes m)) = same_has (heal_area r.law.object) area (heal_lock_area n keeps r m.source b area m.allowed) (omega arith)
  lock_has domain area (inr (Gives inside broken free)) = absurd free

-- ---- along the log
module _ (n : ℕ) (keeps : ℕ → Kind → Bool) (log : Log) (moves : MovesExactly n keeps log) where
  own_has : (t a : ℕ) (r : Exact) (line : Option Line) → AreaHas r.law.area → MayExactly n keeps (λ x. r) line → AreaHas (note n keeps r t line).law.area
  own_has t a r None h may = h
  own_has t a r (Some (Ask x b request told took)) h may =
      asked_has n r.law b.0 request h (λ area is. lock_has n keeps r b.0 h Work area (subst (MayAskExactly n keeps r b.0) is may.1)) told
  own_has t a r (Some (Begin x change)) h may = h
  own_has t a r (Some (HealBegin x g kind)) h may = h
  own_has t a r (Some (HealEnd x g kind reply)) h may = none_has
  own_has t a r (Some (End x reply)) h may = h
  own_has t a r (Some (Event e)) h may = h

  area_has : (t a : ℕ) → AreaHas (exact n keeps log t a).law.area
  area_has = along n keeps log moves (λ t a r. AreaHas r.law.area) (λ t a. none_has) (λ t a r other h. h) (λ t a mine h may. own_has t a (present n keeps log t a) (log t) h may)

  -- of the register that is in force, whether or not the line opens a work
  pub forced_has : (first : Bool) (t a : ℕ) → AreaHas (in_force first (exact n keeps log t a)).law.area
  forced_has true t a = none_has
  forced_has false t a = area_has t a
