-- Small facts of tests, sets, areas and changes.
use Rattle.std.proofs.Common.{◌≡◌, ℕ, ◌==◌, ◌&&◌, ◌||◌, Bool, true, false, List, [], ◌∷◌, None, refl, sym, ap, arith}
use Rattle.std.proofs.lemmas.Bool.{eqb-true}
use Rattle.std.proofs.lemmas.Bool.Decides.{nat_tests}
use Rattle.afr_base.specs.Bricks.{member, added_if, removed}
use Rattle.afr_base.specs.declared.ids.Gfid.{Gfid}
use Rattle.afr_object.specs.Tables.{object_of}
use Rattle.afr_object.specs.declared.change.Change.{Change}
use Rattle.afr_object.specs.declared.change.Change.TheVariants as change
use Rattle.afr_choice.specs.declared.looked.Looked.{Looked}
use Rattle.afr_lines.specs.Areas.{area_for, kind_for, object_of_area}
use Rattle.afr_lines.specs.Log.{change_of}
use Rattle.afr_lines.specs.Work.{Work}
use Rattle.afr_lines.specs.declared.answer.Told.{Told}
use Rattle.afr_lines.specs.declared.answer.Told.TheVariants as as_told
use Rattle.afr_lines.specs.declared.line.Line.{Line}
use Rattle.afr_lines.specs.declared.line.Line.TheVariants.{Begin}
use Rattle.afr_model_moves.specs.Note as note
use Rattle.afr_model_moves.specs.Rules.{area_object}
use Rattle.afr_discipline.specs.Notes.{shown}
use Rattle.afr_client_transaction.specs.Progress.{numbered}
use Rattle.afr_model.specs.Showing as show
use Rattle.afr_model.specs.Showing.{begins_attempt, begun_after, begun_by, has, look_shows}
use Rattle.afr_model.specs.Standing.{change_after, change_by, marked}

pub self : (n : ℕ) → (n == n) ≡ true
self n = grind (arith, nat_tests)

pub same_gfid : (g h : Gfid) → (g.0 == h.0) ≡ true → g ≡ h
same_gfid g h e = ap (λ (n : ℕ). let x : Gfid = record { 0 = n } in x) (eqb-true g.0 h.0 e)

-- ---- areas
pub object_named : (c : Change) → object_of_area (area_for c) ≡ object_of c
object_named (change.Write g at bytes) = refl
object_named (change.Cut g len) = refl
object_named (change.SetAttr g key value) = refl
object_named (change.Make dir name g what) = refl
object_named (change.Remove dir name what) = refl

pub number_named : (c : Change) → area_object (area_for c) ≡ (object_of c).0
number_named (change.Write g at bytes) = refl
number_named (change.Cut g len) = refl
number_named (change.SetAttr g key value) = refl
number_named (change.Make dir name g what) = refl
number_named (change.Remove dir name what) = refl

-- ---- changes
pub numbered_object : (at : ℕ) (c : Change) → object_of (numbered at c) ≡ object_of c
numbered_object at (change.Write g start bytes) = refl
numbered_object at (change.Cut g len) = refl
numbered_object at (change.SetAttr g key value) = refl
numbered_object at (change.Make dir name g what) = refl
numbered_object at (change.Remove dir name what) = refl

pub numbered_kind : (at : ℕ) (c : Change) → kind_for (numbered at c) ≡ kind_for c
numbered_kind at (change.Write g start bytes) = refl
numbered_kind at (change.Cut g len) = refl
numbered_kind at (change.SetAttr g key value) = refl
numbered_kind at (change.Make dir name g what) = refl
numbered_kind at (change.Remove dir name what) = refl

-- ---- answers: the lines show of one what the register notes of it
pub held_told : (told : Told) → note.is_held told ≡ show.is_held told
held_told (as_told.Held owner) = refl
held_told other = refl

pub granted_told : (told : Told) → note.is_granted told ≡ show.is_granted told
granted_told as_told.Granted = refl
granted_told other = refl

pub done_told : (told : Told) → note.is_done told ≡ show.is_done told
done_told as_told.Done = refl
done_told other = refl

pub shown_told : (b : ℕ) (told : Told) (looked : Looked) → shown looked b told ≡ look_shows b told looked
shown_told b (as_told.Seen view) looked = refl
shown_told b as_told.NoObject looked = refl
shown_told b other looked = refl

-- ---- sets
turned : (x b : ℕ) (f : Bool) → (x == b) ≡ f → (b == x) ≡ f
turned x b f e = grind (arith, nat_tests, e)

-- who isn't in a set leaves it as it is
removed_absent : (b : ℕ) (s : List ℕ) → member s b ≡ false → removed b s ≡ s
removed_absent b [] out = refl
removed_absent b (x ∷ xs) out = go (x == b) refl out (removed_absent b xs)
  where
    go : (f : Bool) → (x == b) ≡ f → (f || member xs b) ≡ false → (member xs b ≡ false → removed b xs ≡ xs) → removed b (x ∷ xs) ≡ x ∷ xs
    go true e out rest = absurd (cc out)
    go false e out rest = rw (turned x b false e) (ap (λ (l : List ℕ). x ∷ l) (rest out))

-- a brick that wasn't in it joins where the flag is set
pub marked_new : (flag : Bool) (b : ℕ) (s : List ℕ) → member s b ≡ false → added_if flag b s ≡ marked flag b s
marked_new true b s out = refl
marked_new false b s out = sym (removed_absent b s out)

-- ---- the attempt
-- a work that has begun nothing has no attempt and no change
pub no_number : (w : Work) → has begins_attempt w ≡ false → begun_by w ≡ None
no_number [] none = refl
no_number (x ∷ w) none = go x.0 (no_number w) none
  where
    go : (line : Line) → (has begins_attempt w ≡ false → begun_by w ≡ None) → (begins_attempt line || has begins_attempt w) ≡ false → begun_after line x.1 (begun_by w) ≡ None
    go (Begin a c) before none = absurd (cc none)
    go line before none = before none

pub no_change : (w : Work) → has begins_attempt w ≡ false → change_by w ≡ None
no_change [] none = refl
no_change (x ∷ w) none = go x.0 (no_change w) none
  where
    go : (line : Line) → (has begins_attempt w ≡ false → change_by w ≡ None) → (begins_attempt line || has begins_attempt w) ≡ false → change_after (change_of line) (change_by w) ≡ None
    go (Begin a c) before none = absurd (cc none)
    go line before none = before none
