-- What a request and its answer leave of the register's fields.
use Rattle.std.proofs.Common.{◌≡◌, ℕ, ◌&&◌, not, Bool, true, false, List, [], Option, None, Some, refl, if◌then◌else◌}
use Rattle.afr_base.specs.Bricks.{added, added_if, member, removed}
use Rattle.afr_base.specs.declared.ids.Gfid.{Gfid}
use Rattle.afr_base.specs.declared.ids.Kind.{Kind}
use Rattle.afr_base.specs.declared.ids.Shape.{Shape}
use Rattle.afr_choice.specs.Looks.{no_looks}
use Rattle.afr_choice.specs.declared.looked.Looked.{Looked}
use Rattle.afr_lines.specs.declared.lock.Domain.TheVariants.{Work}
use Rattle.afr_lines.specs.declared.answer.Told.{Told}
use Rattle.afr_lines.specs.declared.answer.Told.TheVariants as as_told
use Rattle.afr_lines.specs.declared.request.Area.{Area}
use Rattle.afr_lines.specs.declared.request.Request.TheVariants as request
use Rattle.afr_model_moves.specs.Rules.{busy, is_area}
use Rattle.afr_model_moves.specs.Note.{is_granted, is_done}
use Rattle.afr_model_moves.specs.Register.{is_on}
use Rattle.afr_discipline.specs.declared.register.Register.{Register}
use Rattle.afr_discipline.specs.declared.register.Step.TheVariants as step
use Rattle.afr_discipline.specs.Notes.{anew, asked_at, counts, noted_outside, second_left, shown, shown_if, stayed, with_held}
use Rattle.afr_discipline.specs.Stands.{seen_as}
use Rattle.afr_client_transaction.proofs.Requests.{after_by, after_outside}

-- the fields that the lines show
pub record Leaves (q : Register) (shape : Shape) (looked : Looked) (begun : Option ℕ) (pre done post : List ℕ) : Type 0 where
  pub shape_is : q.shape ≡ shape
  pub looked_is : q.looked ≡ looked
  pub begun_is : q.begun ≡ begun
  pub pre_is : q.pre ≡ pre
  pub done_is : q.done ≡ done
  pub post_is : q.post ≡ post

-- all as it was
abbrev pub LeavesAll : Register → Register → Type 0
LeavesAll q r = Leaves q r.shape r.looked r.begun r.pre r.done r.post

-- ---- a lock
abbrev named_w : Bool → Bool → Register → Area → Register
named_w w s r area = if w then record r { second = if s then r.second else Some area } else anew r area

abbrev taken_w : Bool → Bool → Register → Area → ℕ → Register
taken_w w s r area b = if w && not s then record r { second = Some area; second_held = added b r.second_held } else with_held (named_w w s r area) b

abbrev law_w : Bool → Bool → Register → Area → ℕ → Told → Register
law_w w s r area b told = if is_granted told then taken_w w s r area b else named_w w s r area

abbrev steps_w : Bool → Register → Register
steps_w w r = if w then stayed r else record r { step = step.Open; asked = []; unlocked = false; looked = no_looks }

abbrev locked_w : Bool → Bool → Register → Area → ℕ → Told → Register
locked_w w s r area b told = after_by (steps_w w r) (law_w w s r area b told) b told

module _ (r : Register) (b : ℕ) (area : Area) (unseen : r.looked ≡ no_looks) (unbegun : r.begun ≡ None) (pre : r.pre ≡ []) (done : r.done ≡ []) (post : r.post ≡ []) where
  abbrev Locked : Register → Type 0
  Locked q = Leaves q r.shape no_looks None [] [] []

  lock_by : (w s : Bool) (told : Told) → Locked (locked_w w s r area b told)
  lock_by true true as_told.Granted = record { shape_is = refl; looked_is = unseen; begun_is = unbegun; pre_is = pre; done_is = done; post_is = post }
  lock_by true true as_told.NotConnected = record { shape_is = refl; looked_is = unseen; begun_is = unbegun; pre_is = pre; done_is = done; post_is = post }
  lock_by true true told = record { shape_is = refl; looked_is = unseen; begun_is = unbegun; pre_is = pre; done_is = done; post_is = post }
  lock_by true false as_told.Granted = record { shape_is = refl; looked_is = unseen; begun_is = unbegun; pre_is = pre; done_is = done; post_is = post }
  lock_by true false as_told.NotConnected = record { shape_is = refl; looked_is = unseen; begun_is = unbegun; pre_is = pre; done_is = done; post_is = post }
  lock_by true false told = record { shape_is = refl; looked_is = unseen; begun_is = unbegun; pre_is = pre; done_is = done; post_is = post }
  lock_by false s as_told.Granted = record { shape_is = refl; looked_is = refl; begun_is = refl; pre_is = refl; done_is = refl; post_is = refl }
  lock_by false s as_told.NotConnected = record { shape_is = refl; looked_is = refl; begun_is = refl; pre_is = refl; done_is = refl; post_is = refl }
  lock_by false s told = record { shape_is = refl; looked_is = refl; begun_is = refl; pre_is = refl; done_is = refl; post_is = refl }

  -- nothing was looked at or begun before the locks, and so it stays
  pub lock_leaves : (told : Told) → Locked (after_outside r b (request.Lock Work area) told)
  lock_leaves told = lock_by (busy r.shape.n (seen_as r).law) (is_area r.area area) told

-- ---- a look
module _ (r : Register) (b : ℕ) (g : Gfid) where
  -- a look counts under the lock, before the Begin
  pub look_counts : r.begun ≡ None → member r.held b ≡ true → is_on r.area g.0 ≡ true → counts r b g.0 ≡ true
  look_counts first held on = rw (first, held, on) refl

  look_by : (c : Bool) → c ≡ true → (told : Told) → Leaves (after_by (record (stayed r) { looked = shown_if c r.looked b told }) r b told) r.shape (shown r.looked b told) r.begun r.pre r.done r.post
  look_by false e told = absurd (cc e)
  look_by true e as_told.NotConnected = record { shape_is = refl; looked_is = refl; begun_is = refl; pre_is = refl; done_is = refl; post_is = refl }
  look_by true e told = record { shape_is = refl; looked_is = refl; begun_is = refl; pre_is = refl; done_is = refl; post_is = refl }

  -- it is noted where it counts
  pub look_leaves : (told : Told) → counts r b g.0 ≡ true → Leaves (after_outside r b (request.Look g) told) r.shape (shown r.looked b told) r.begun r.pre r.done r.post
  look_leaves told e = look_by (counts r b g.0) e told

  -- the locks of the other bricks are held still, and the area isn't unlocked
  pub look_holds : (told : Told) (c : ℕ) → member (removed b r.held) c ≡ true → member r.held c ≡ true → member (after_outside r b (request.Look g) told).held c ≡ true
  look_holds as_told.NotConnected c out m = out
  look_holds told c out m = m

  pub look_still : (told : Told) → (after_outside r b (request.Look g) told).unlocked ≡ r.unlocked
  look_still as_told.NotConnected = refl
  look_still told = refl

-- ---- the phases
module _ (r : Register) (b : ℕ) where
  pub pre_leaves : (g : Gfid) (kind : Kind) (told : Told) → Leaves (after_outside r b (request.Pre g kind) told) r.shape r.looked r.begun (added_if (is_done told) b r.pre) r.done r.post
  pre_leaves g kind as_told.Done = record { shape_is = refl; looked_is = refl; begun_is = refl; pre_is = refl; done_is = refl; post_is = refl }
  pre_leaves g kind as_told.NotConnected = record { shape_is = refl; looked_is = refl; begun_is = refl; pre_is = refl; done_is = refl; post_is = refl }
  pre_leaves g kind told = record { shape_is = refl; looked_is = refl; begun_is = refl; pre_is = refl; done_is = refl; post_is = refl }

  pub pre_asks : (g : Gfid) (kind : Kind) (told : Told) → asked_at (after_outside r b (request.Pre g kind) told) step.Pres ≡ added b (asked_at r step.Pres)
  pre_asks g kind as_told.NotConnected = refl
  pre_asks g kind told = refl

  -- nobody was asked for the operation yet
  pub pre_before : (g : Gfid) (kind : Kind) (told : Told) → asked_at (after_outside r b (request.Pre g kind) told) step.Applies ≡ []
  pre_before g kind as_told.NotConnected = refl
  pre_before g kind told = refl

  pub apply_leaves : (q : ℕ) (told : Told) → Leaves (after_outside r b (request.Apply q) told) r.shape r.looked r.begun r.pre (added_if (is_done told) b r.done) r.post
  apply_leaves q as_told.Done = record { shape_is = refl; looked_is = refl; begun_is = refl; pre_is = refl; done_is = refl; post_is = refl }
  apply_leaves q as_told.NotConnected = record { shape_is = refl; looked_is = refl; begun_is = refl; pre_is = refl; done_is = refl; post_is = refl }
  apply_leaves q told = record { shape_is = refl; looked_is = refl; begun_is = refl; pre_is = refl; done_is = refl; post_is = refl }

  pub apply_asks : (q : ℕ) (told : Told) → asked_at (after_outside r b (request.Apply q) told) step.Applies ≡ added b (asked_at r step.Applies)
  apply_asks q as_told.NotConnected = refl
  apply_asks q told = refl

  -- nobody was asked for the post-op yet
  pub apply_before : (q : ℕ) (told : Told) → asked_at (after_outside r b (request.Apply q) told) step.Posts ≡ []
  apply_before q as_told.NotConnected = refl
  apply_before q told = refl

  pub post_leaves : (q : ℕ) (g : Gfid) (kind : Kind) (missed : List ℕ) (told : Told)
      → Leaves (after_outside r b (request.Post q g kind missed) told) r.shape r.looked r.begun r.pre r.done (added_if (is_done told) b r.post)
  post_leaves q g kind missed as_told.Done = record { shape_is = refl; looked_is = refl; begun_is = refl; pre_is = refl; done_is = refl; post_is = refl }
  post_leaves q g kind missed as_told.NotConnected = record { shape_is = refl; looked_is = refl; begun_is = refl; pre_is = refl; done_is = refl; post_is = refl }
  post_leaves q g kind missed told = record { shape_is = refl; looked_is = refl; begun_is = refl; pre_is = refl; done_is = refl; post_is = refl }

  pub post_asks : (q : ℕ) (g : Gfid) (kind : Kind) (missed : List ℕ) (told : Told) → asked_at (after_outside r b (request.Post q g kind missed) told) step.Posts ≡ added b (asked_at r step.Posts)
  post_asks q g kind missed as_told.NotConnected = refl
  post_asks q g kind missed told = refl

  -- ---- an unlock
  abbrev unlocked_w : Bool → Area → Told → Register
  unlocked_w s area told = after_by (noted_outside r b (request.Unlock Work area) told) (if is_done told then (if s then record r { held = removed b r.held } else record r { second_held = second_left r area b }) else r) b told

  unlock_by : (area : Area) (s : Bool) (told : Told) → LeavesAll (unlocked_w s area told) r
  unlock_by area true as_told.Done = record { shape_is = refl; looked_is = refl; begun_is = refl; pre_is = refl; done_is = refl; post_is = refl }
  unlock_by area false as_told.Done = record { shape_is = refl; looked_is = refl; begun_is = refl; pre_is = refl; done_is = refl; post_is = refl }
  unlock_by area s as_told.NotConnected = record { shape_is = refl; looked_is = refl; begun_is = refl; pre_is = refl; done_is = refl; post_is = refl }
  unlock_by area s told = record { shape_is = refl; looked_is = refl; begun_is = refl; pre_is = refl; done_is = refl; post_is = refl }

  pub unlock_leaves : (area : Area) (told : Told) → LeavesAll (after_outside r b (request.Unlock Work area) told) r
  unlock_leaves area told = unlock_by area (is_area r.area area) told
