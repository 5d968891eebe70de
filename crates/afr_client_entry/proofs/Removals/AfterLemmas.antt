-- What a request of a removal and its answer leave of what it keeps.
use Rattle.std.proofs.Common.{◌⊎◌, ◌≡◌, ℕ, ◌<◌, ◌∙◌, Bool, true, false, List, [], refl, ap, arith, inl, inr, Option, None, Some, if◌then◌else◌}
use Rattle.afr_base.specs.Bricks.{removed}
use Rattle.afr_base.specs.SetLemmas.{within_added_if, within_removed_if}
use Rattle.afr_base.specs.declared.ids.Gfid.{Gfid}
use Rattle.afr_base.specs.declared.ids.Kind.{Kind}
use Rattle.afr_object.specs.declared.change.Change.{Change}
use Rattle.afr_choice.specs.declared.looked.Looked.{Looked}
use Rattle.afr_lines.specs.declared.lock.Domain.TheVariants.{Work}
use Rattle.afr_lines.specs.declared.answer.Told.{Told}
use Rattle.afr_lines.specs.declared.answer.Told.TheVariants as as_told
use Rattle.afr_lines.specs.declared.request.Area.{Area}
use Rattle.afr_lines.specs.declared.request.Request.TheVariants as request
use Rattle.afr_model_moves.specs.Note.{is_done}
use Rattle.afr_model_moves.specs.Rules.{busy, is_area}
use Rattle.afr_discipline.specs.Notes.{counts, noted_outside, shown_if}
use Rattle.afr_discipline.specs.Stands.{seen_as}
use Rattle.afr_discipline.specs.declared.register.Register.{Register}
use Rattle.afr_client_walk.specs.Looks.{noted_look}
use Rattle.afr_client_transaction.specs.Progress.{enough}
use Rattle.afr_client_transaction.specs.Sound.{HasBegun, Shown}
use Rattle.afr_client_transaction.proofs.Parts.{base_done, base_gone, base_left, base_pre, base_shown, shown_look, shown_loss}
use Rattle.afr_client_transaction.proofs.Requests.{after_by, after_outside, locked_w}
use Rattle.afr_client_entry.specs.Removals.Sound.{Areas, HasAreas, IsBase, IsUnbegun}

-- a session has ended: its lock of the child is gone
areas_gone : (change : Change) (child : Area) (n : ℕ) (area second : Option Area) (held : List ℕ) → Areas change child n area second held → (b : ℕ) → Areas change child n area second (removed b held)
areas_gone change child n area second held k b = record { named = k.named; within = within_removed_if n b held true k.within; second_is = go k.second_is }
  where
    go : ((second ≡ None) × (held ≡ [])) ⊎ (second ≡ Some child) → ((second ≡ None) × (removed b held ≡ [])) ⊎ (second ≡ Some child)
    go (inl e) = inl (e.0, ap (removed b) e.1)
    go (inr e) = inr e

module _ (change : Change) (child : Area) (r : Register) (b : ℕ) (small : b < r.shape.n) (base : IsBase change r) (areas : HasAreas change child r) where
  gone : IsBase change (record r { held = removed b r.held; second_held = removed b r.second_held; healing = removed b r.healing })
  gone = base_gone _ _ _ _ _ _ _ _ _ _ _ _ base b

  -- ---- a lock of the child, where the name is locked somewhere
  pub locked_is : busy r.shape.n (seen_as r).law ≡ true → is_area r.area child ≡ false → (told : Told) → after_outside r b (request.Lock Work child) told ≡ locked_w true false r child b told
  locked_is e f told = ap (λ (w : Bool). locked_w w (is_area r.area child) r child b told) e ∙ ap (λ (s : Bool). locked_w true s r child b told) f

  pub lock_base : (told : Told) → IsBase change (locked_w true false r child b told)
  lock_base as_told.Granted = base
  lock_base as_told.NotConnected = gone
  lock_base told = base

  pub lock_areas : (told : Told) → HasAreas change child (locked_w true false r child b told)
  lock_areas as_told.Granted = record { named = areas.named; within = within_added_if r.shape.n b r.second_held true small areas.within; second_is = inr refl }
  lock_areas as_told.NotConnected = record { named = areas.named; within = within_removed_if r.shape.n b r.second_held true areas.within; second_is = inr refl }
  lock_areas told = record { named = areas.named; within = areas.within; second_is = inr refl }

  pub lock_unbegun : (told : Told) → IsUnbegun r → IsUnbegun (locked_w true false r child b told)
  lock_unbegun as_told.Granted k = k
  lock_unbegun as_told.NotConnected k = k
  lock_unbegun told k = k

  -- ---- a look, whether it counts or not
  look_shown : (c : Bool) (told : Told) → Shown r.shape.n (shown_if c r.looked b told)
  look_shown false told = base.shown
  look_shown true (as_told.Seen view) = shown_look r.shape.n b (Some view) r.looked small base.shown
  look_shown true as_told.NoObject = shown_look r.shape.n b None r.looked small base.shown
  look_shown true told = shown_loss r.shape.n b r.looked base.few small base.shown

  pub look_base : (g : Gfid) (told : Told) → IsBase change (after_outside r b (request.Look g) told)
  look_base g as_told.NotConnected = base_shown _ _ _ _ _ _ _ _ _ _ _ _ gone _ (look_shown (counts r b g.0) as_told.NotConnected)
  look_base g told = base_shown _ _ _ _ _ _ _ _ _ _ _ _ base _ (look_shown (counts r b g.0) told)

  pub look_areas : (g : Gfid) (told : Told) → HasAreas change child (after_outside r b (request.Look g) told)
  look_areas g as_told.NotConnected = areas_gone _ _ _ _ _ _ areas b
  look_areas g told = areas

  pub look_unbegun : (g : Gfid) (told : Told) → IsUnbegun r → IsUnbegun (after_outside r b (request.Look g) told)
  look_unbegun g as_told.NotConnected k = k
  look_unbegun g told k = k

  -- ---- a list
  pub list_base : (g : Gfid) (told : Told) → IsBase change (after_outside r b (request.List g) told)
  list_base g as_told.NotConnected = gone
  list_base g told = base

  pub list_areas : (g : Gfid) (told : Told) → HasAreas change child (after_outside r b (request.List g) told)
  list_areas g as_told.NotConnected = areas_gone _ _ _ _ _ _ areas b
  list_areas g told = areas

  -- ---- the phases of the attempt
  pub pre_base : (g : Gfid) (kind : Kind) (told : Told) → IsBase change (after_outside r b (request.Pre g kind) told)
  pre_base g kind as_told.Done = base_pre _ _ _ _ _ _ _ _ _ _ _ _ base b true small
  pre_base g kind as_told.NotConnected = gone
  pre_base g kind told = base

  pub pre_areas : (g : Gfid) (kind : Kind) (told : Told) → HasAreas change child (after_outside r b (request.Pre g kind) told)
  pre_areas g kind as_told.Done = areas
  pre_areas g kind as_told.NotConnected = areas_gone _ _ _ _ _ _ areas b
  pre_areas g kind told = areas

  pub pre_begun : (g : Gfid) (kind : Kind) (told : Told) → HasBegun 2 change r → HasBegun 2 change (after_outside r b (request.Pre g kind) told)
  pre_begun g kind as_told.NotConnected k = record { number = k.number; is_begun = k.is_begun; open_still = k.open_still; named = k.named; order = omega arith }
  pre_begun g kind told k = record { number = k.number; is_begun = k.is_begun; open_still = k.open_still; named = k.named; order = omega arith }

  pub apply_base : (q : ℕ) (told : Told) → IsBase change (after_outside r b (request.Apply q) told)
  apply_base q as_told.Done = base_done _ _ _ _ _ _ _ _ _ _ _ _ base b true small
  apply_base q as_told.NotConnected = gone
  apply_base q told = base

  pub apply_areas : (q : ℕ) (told : Told) → HasAreas change child (after_outside r b (request.Apply q) told)
  apply_areas q as_told.Done = areas
  apply_areas q as_told.NotConnected = areas_gone _ _ _ _ _ _ areas b
  apply_areas q told = areas

  pub apply_begun : (q : ℕ) (told : Told) → HasBegun 3 change r → HasBegun 3 change (after_outside r b (request.Apply q) told)
  apply_begun q as_told.NotConnected k = record { number = k.number; is_begun = k.is_begun; open_still = k.open_still; named = k.named; order = omega arith }
  apply_begun q told k = record { number = k.number; is_begun = k.is_begun; open_still = k.open_still; named = k.named; order = omega arith }

  pub apply_enough : (q : ℕ) (told : Told) (kind : Kind) → enough r kind r.pre ≡ true → enough (after_outside r b (request.Apply q) told) kind (after_outside r b (request.Apply q) told).pre ≡ true
  apply_enough q as_told.NotConnected kind h = h
  apply_enough q told kind h = h

  pub post_base : (q : ℕ) (g : Gfid) (kind : Kind) (missed : List ℕ) (told : Told) → IsBase change (after_outside r b (request.Post q g kind missed) told)
  post_base q g kind missed as_told.NotConnected = gone
  post_base q g kind missed told = base

  pub post_areas : (q : ℕ) (g : Gfid) (kind : Kind) (missed : List ℕ) (told : Told) → HasAreas change child (after_outside r b (request.Post q g kind missed) told)
  post_areas q g kind missed as_told.NotConnected = areas_gone _ _ _ _ _ _ areas b
  post_areas q g kind missed told = areas

  pub post_begun : (q : ℕ) (g : Gfid) (kind : Kind) (missed : List ℕ) (told : Told) → HasBegun 4 change r → HasBegun 4 change (after_outside r b (request.Post q g kind missed) told)
  post_begun q g kind missed as_told.NotConnected k = record { number = k.number; is_begun = k.is_begun; open_still = k.open_still; named = k.named; order = omega arith }
  post_begun q g kind missed told k = record { number = k.number; is_begun = k.is_begun; open_still = k.open_still; named = k.named; order = omega arith }

  pub post_enough : (q : ℕ) (g : Gfid) (kind : Kind) (missed : List ℕ) (told : Told) (of : Kind) → enough r of r.done ≡ true
      → enough (after_outside r b (request.Post q g kind missed) told) of (after_outside r b (request.Post q g kind missed) told).done ≡ true
  post_enough q g kind missed as_told.NotConnected of h = h
  post_enough q g kind missed told of h = h

  -- ---- an unlock of either area
  abbrev left_w : Bool → Bool → Area → Told → Register
  left_w s t area told =
      after_by (noted_outside r b (request.Unlock Work area) told)
      (if is_done told then (if s then record r { held = removed b r.held } else record r { second_held = if t then removed b r.second_held else r.second_held }) else r) b told

  left_base : (area : Area) (s t : Bool) (told : Told) → IsBase change (left_w s t area told)
  left_base area true t as_told.Done = base_left _ _ _ _ _ _ _ _ _ _ _ _ base b
  left_base area false t as_told.Done = base
  left_base area s t as_told.NotConnected = gone
  left_base area s t told = base

  left_areas : (area : Area) (s t : Bool) (told : Told) → HasAreas change child (left_w s t area told)
  left_areas area true t as_told.Done = areas
  left_areas area false true as_told.Done = areas_gone _ _ _ _ _ _ areas b
  left_areas area false false as_told.Done = areas
  left_areas area s t as_told.NotConnected = areas_gone _ _ _ _ _ _ areas b
  left_areas area s t told = areas

  pub unlock_base : (area : Area) (told : Told) → IsBase change (after_outside r b (request.Unlock Work area) told)
  unlock_base area told = left_base area (is_area r.area area) (is_area r.second area) told

  pub unlock_areas : (area : Area) (told : Told) → HasAreas change child (after_outside r b (request.Unlock Work area) told)
  unlock_areas area told = left_areas area (is_area r.area area) (is_area r.second area) told

  -- ---- what the child showed
  pub child_shown : (looked : Looked) (told : Told) → Shown r.shape.n looked → Shown r.shape.n (noted_look b told looked)
  child_shown looked (as_told.Seen view) k = shown_look r.shape.n b (Some view) looked small k
  child_shown looked as_told.NoObject k = shown_look r.shape.n b None looked small k
  child_shown looked told k = shown_loss r.shape.n b looked base.few small k
