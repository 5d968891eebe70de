-- What each request of a removal, and its answer, leave of the register.
use Rattle.std.proofs.Common.{◌≡◌, ℕ, ◌==◌, ◌&&◌, ◌||◌, not, Bool, true, false, List, [], ◌∷◌, Option, Some, refl, sym, ap, ◌∙◌, subst}
use Rattle.afr_base.specs.Bricks.{added, member, removed}
use Rattle.afr_base.specs.SetLemmas.{member_added, member_removed}
use Rattle.afr_base.specs.declared.ids.ActorId.{ActorId}
use Rattle.afr_base.specs.declared.ids.BrickId.{BrickId}
use Rattle.afr_base.specs.declared.ids.Gfid.{Gfid}
use Rattle.afr_discipline.specs.Notes.{counts, is_first, noted_begin, shown_if, stayed}
use Rattle.afr_discipline.specs.declared.register.Register.{Register}
use Rattle.afr_lines.specs.Areas.{area_for}
use Rattle.afr_lines.specs.Overlap.{same_area}
use Rattle.afr_lines.specs.Work.{Work}
use Rattle.afr_lines.specs.declared.answer.Told.{Told}
use Rattle.afr_lines.specs.declared.answer.Told.TheVariants as as_told
use Rattle.afr_lines.specs.declared.line.Line.{Line}
use Rattle.afr_lines.specs.declared.line.Line.TheVariants.{Ask}
use Rattle.afr_lines.specs.declared.request.Area.{Area}
use Rattle.afr_lines.specs.declared.request.Request.TheVariants as request
use Rattle.afr_model_moves.specs.Register.{is_on}
use Rattle.afr_model_moves.proofs.AreaLemmas.{same_area_self}
use Rattle.afr_object.specs.Tables.{object_of}
use Rattle.afr_object.specs.declared.change.Change.{Change}
use Rattle.afr_lines.specs.declared.lock.Domain.TheVariants.{Work as WorkDomain}
use Rattle.afr_model.specs.Showing.{among}
use Rattle.afr_model.specs.Standing.{holding}
use Rattle.afr_client_transaction.proofs.Requests.{after_by, after_outside, locked_w}
use Rattle.afr_law_client.proofs.Leaves.{Leaves, LeavesAll}
use Rattle.afr_law_client.proofs.Small.{number_named}
use Rattle.afr_law_client.specs.Removal.RemovalTelling.{AreHeld}

module _ (r : Register) (b : BrickId) where
  -- ---- a lock of the child, while the name is locked
  pub lock_leaves : (child : Area) (told : Told) → LeavesAll (locked_w true false r child b.0 told) r
  lock_leaves child as_told.Granted = record { shape_is = refl; looked_is = refl; begun_is = refl; pre_is = refl; done_is = refl; post_is = refl }
  lock_leaves child as_told.NotConnected = record { shape_is = refl; looked_is = refl; begun_is = refl; pre_is = refl; done_is = refl; post_is = refl }
  lock_leaves child told = record { shape_is = refl; looked_is = refl; begun_is = refl; pre_is = refl; done_is = refl; post_is = refl }

  pub same_added : (x y : List ℕ) → ((c : ℕ) → member x c ≡ member y c) → (c : ℕ) → member (added b.0 x) c ≡ member (added b.0 y) c
  same_added x y h c = member_added b.0 x c ∙ ap (λ (z : Bool). (b.0 == c) || z) (h c) ∙ sym (member_added b.0 y c)

  pub same_removed : (x y : List ℕ) → ((c : ℕ) → member x c ≡ member y c) → (c : ℕ) → member (removed b.0 x) c ≡ member (removed b.0 y) c
  same_removed x y h c = member_removed b.0 x c ∙ ap (λ (z : Bool). not (b.0 == c) && z) (h c) ∙ sym (member_removed b.0 y c)

  -- the name's locks go on as the lines say
  lock_name : (name child : Area) (a : ActorId) (took : Bool) (s : List ℕ) → same_area name child ≡ false → ((c : ℕ) → member r.held c ≡ member s c) → (told : Told) (c : ℕ)
      → member (locked_w true false r child b.0 told).held c ≡ member (holding name (Ask a b (request.Lock WorkDomain child) told took) s) c
  lock_name name child a took s apart h as_told.Granted c = rw apart (h c)
  lock_name name child a took s apart h as_told.NotConnected c = same_removed r.held s h c
  lock_name name child a took s apart h told c = h c

  -- and the child's
  lock_child : (child : Area) (a : ActorId) (took : Bool) (s : List ℕ) → ((c : ℕ) → member r.second_held c ≡ member s c) → (told : Told) (c : ℕ)
      → member (locked_w true false r child b.0 told).second_held c ≡ member (holding child (Ask a b (request.Lock WorkDomain child) told took) s) c
  lock_child child a took s h as_told.Granted c = rw (same_area_self child) (same_added r.second_held s h c)
  lock_child child a took s h as_told.NotConnected c = same_removed r.second_held s h c
  lock_child child a took s h told c = h c

  pub lock_holds : (name child : Area) (a : ActorId) (told : Told) (took : Bool) (older : List Line) (w : Work) → same_area name child ≡ false → AreHeld name child r w
      → AreHeld name child (locked_w true false r child b.0 told) ((Ask a b (request.Lock WorkDomain child) told took, older) ∷ w)
  lock_holds name child a told took older w apart k = record {
    of_name = lock_name name child a took (among (holding name) w) apart k.of_name told;
    of_child = lock_child child a took (among (holding child) w) k.of_child told;
    kept = k.kept;
  }

  -- ---- a look at the child, which doesn't count for the directory
  off : (x y z : Bool) → z ≡ false → (x && y && z) ≡ false
  off true true z e = e
  off true false z e = refl
  off false y z e = refl

  pub counts_not : (change : Change) (g : Gfid) → r.area ≡ Some (area_for change) → (g.0 == (object_of change).0) ≡ false → counts r b.0 g.0 ≡ false
  counts_not change g named apart = off (is_first r) (member r.held b.0) (is_on r.area g.0) (subst (λ (o : Option Area). is_on o g.0 ≡ false) (sym named) (rw (number_named change) apart))

  look_by : (x : Bool) → x ≡ false → (told : Told) → LeavesAll (after_by (record (stayed r) { looked = shown_if x r.looked b.0 told }) r b.0 told) r
  look_by true e told = absurd (cc e)
  look_by false e as_told.NotConnected = record { shape_is = refl; looked_is = refl; begun_is = refl; pre_is = refl; done_is = refl; post_is = refl }
  look_by false e told = record { shape_is = refl; looked_is = refl; begun_is = refl; pre_is = refl; done_is = refl; post_is = refl }

  pub look_leaves : (g : Gfid) (told : Told) → counts r b.0 g.0 ≡ false → LeavesAll (after_outside r b.0 (request.Look g) told) r
  look_leaves g told e = look_by (counts r b.0 g.0) e told

  pub look_held : (area : Area) (g : Gfid) (a : ActorId) (took : Bool) (s : List ℕ) → ((c : ℕ) → member r.held c ≡ member s c) → (told : Told) (c : ℕ)
      → member (after_outside r b.0 (request.Look g) told).held c ≡ member (holding area (Ask a b (request.Look g) told took) s) c
  look_held area g a took s h as_told.NotConnected c = same_removed r.held s h c
  look_held area g a took s h told c = h c

  look_second : (area : Area) (g : Gfid) (a : ActorId) (took : Bool) (s : List ℕ) → ((c : ℕ) → member r.second_held c ≡ member s c) → (told : Told) (c : ℕ)
      → member (after_outside r b.0 (request.Look g) told).second_held c ≡ member (holding area (Ask a b (request.Look g) told took) s) c
  look_second area g a took s h as_told.NotConnected c = same_removed r.second_held s h c
  look_second area g a took s h told c = h c

  pub look_holds : (name child : Area) (g : Gfid) (a : ActorId) (told : Told) (took : Bool) (older : List Line) (w : Work) → AreHeld name child r w
      → AreHeld name child (after_outside r b.0 (request.Look g) told) ((Ask a b (request.Look g) told took, older) ∷ w)
  look_holds name child g a told took older w k = record {
    of_name = look_held name g a took (among (holding name) w) k.of_name told;
    of_child = look_second child g a took (among (holding child) w) k.of_child told;
    kept = k.kept;
  }

  -- ---- a list
  pub list_leaves : (g : Gfid) (told : Told) → LeavesAll (after_outside r b.0 (request.List g) told) r
  list_leaves g as_told.NotConnected = record { shape_is = refl; looked_is = refl; begun_is = refl; pre_is = refl; done_is = refl; post_is = refl }
  list_leaves g told = record { shape_is = refl; looked_is = refl; begun_is = refl; pre_is = refl; done_is = refl; post_is = refl }

-- ---- the Begin line
pub begin_leaves : (r : Register) (at : ℕ) → Leaves (noted_begin r at) r.shape r.looked (Some at) r.pre r.done r.post
begin_leaves r at = record { shape_is = refl; looked_is = refl; begun_is = refl; pre_is = refl; done_is = refl; post_is = refl }

-- ---- who loses a lock
-- a line that locks nothing of an area adds nobody
pub fewer_lock : (name child : Area) (a : ActorId) (b : BrickId) (told : Told) (took : Bool) (s : List ℕ) → same_area name child ≡ false → (c : ℕ) → member (holding name (Ask a b (request.Lock WorkDomain child) told took) s) c ≡ true → member s c ≡ true
fewer_lock name child a b as_told.Granted took s apart c m = rw apart at m
fewer_lock name child a b as_told.NotConnected took s apart c m = within (not (b.0 == c)) (sym (member_removed b.0 s c) ∙ m)
  where
    within : (x : Bool) → (x && member s c) ≡ true → member s c ≡ true
    within true h = h
    within false h = absurd (cc h)
fewer_lock name child a b told took s apart c m = m

pub fewer_look : (area : Area) (g : Gfid) (a : ActorId) (b : BrickId) (told : Told) (took : Bool) (s : List ℕ) (c : ℕ) → member (holding area (Ask a b (request.Look g) told took) s) c ≡ true → member s c ≡ true
fewer_look area g a b as_told.NotConnected took s c m = within (not (b.0 == c)) (sym (member_removed b.0 s c) ∙ m)
  where
    within : (x : Bool) → (x && member s c) ≡ true → member s c ≡ true
    within true h = h
    within false h = absurd (cc h)
fewer_look area g a b told took s c m = m

-- and takes away at most the brick that was asked
pub others_lock : (name child : Area) (a : ActorId) (b : BrickId) (told : Told) (took : Bool) (s : List ℕ) → same_area name child ≡ false → (c : ℕ) → (b.0 == c) ≡ false → member s c ≡ true → member (holding name (Ask a b (request.Lock WorkDomain child) told took) s) c ≡ true
others_lock name child a b as_told.Granted took s apart c other m = rw apart m
others_lock name child a b as_told.NotConnected took s apart c other m = member_removed b.0 s c ∙ rw (other, m) refl
others_lock name child a b told took s apart c other m = m

pub others_look : (area : Area) (g : Gfid) (a : ActorId) (b : BrickId) (told : Told) (took : Bool) (s : List ℕ) (c : ℕ) → (b.0 == c) ≡ false → member s c ≡ true → member (holding area (Ask a b (request.Look g) told took) s) c ≡ true
others_look area g a b as_told.NotConnected took s c other m = member_removed b.0 s c ∙ rw (other, m) refl
others_look area g a b told took s c other m = m
