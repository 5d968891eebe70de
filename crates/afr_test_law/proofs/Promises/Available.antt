-- A change that two of three bricks were enough for while the third was cut off, a set that isn't enough, and a brick that failed; and a rename whose new name is stored.
use Rattle.std.proofs.Common.{◌≡◌, ℕ, false, refl, sym, List, [], ◌∷◌, true≢false, Some}
use Rattle.afr_base.specs.Marks.{no_marks}
use Rattle.afr_base.specs.declared.ids.Kind.{Kind}
use Rattle.afr_base.specs.declared.ids.Kind.TheVariants.{Attrs, Names}
use Rattle.afr_base.specs.declared.ids.NameId.{NameId}
use Rattle.afr_base.specs.declared.ids.What.TheVariants.{Dir, File}
use Rattle.afr_object.specs.Tables.{opening_gfid, root}
use Rattle.afr_object.specs.declared.change.Change.{Change}
use Rattle.afr_object.specs.declared.change.Change.TheVariants.{Make, Remove}
use Rattle.afr_lines.specs.Work.{work}
use Rattle.afr_lines.specs.declared.answer.Told.TheVariants.{Done, NotConnected, Seen}
use Rattle.afr_lines.specs.declared.line.Line.{Line}
use Rattle.afr_lines.specs.declared.line.Line.TheVariants.{Begin}
use Rattle.afr_lines.specs.declared.reply.Reply.TheVariants as reply
use Rattle.afr_lines.specs.declared.request.Request.TheVariants.{Apply, Look, Post, Pre}
use Rattle.afr_plan.specs.declared.command.Command.TheVariants as command
use Rattle.afr_plan.specs.declared.plan.Plan.{Plan}
use Rattle.afr_model.specs.Showing.{looked_by}
use Rattle.afr_model.specs.Standing.{suffices}
use Rattle.afr_law_promises.specs.Available.Available.{ByHalf, ByOk, DidItsPart, FailsNothing, IsAvailable, IsBorne, IsUnfailed, SaysStored}
use Rattle.afr_test_law.proofs.Promises.Words.{asks, each_of_two, says, sets, three}

-- all three show a copy without numbers; brick 2 is lost at the pre-op of the change
abbrev pub without_one : Kind → Change → List Line
without_one kind change =
    asks 1 (Post 3 root kind (2 ∷ [])) Done
    ∷ asks 0 (Post 3 root kind (2 ∷ [])) Done
    ∷ asks 1 (Apply 3) Done
    ∷ asks 0 (Apply 3) Done
    ∷ asks 2 (Pre root kind) NotConnected
    ∷ asks 1 (Pre root kind) Done
    ∷ asks 0 (Pre root kind) Done
    ∷ Begin (record { 0 = 1 }) change
    ∷ asks 2 (Look root) (Seen (record { what = Dir; len = 0; marks = no_marks }))
    ∷ asks 1 (Look root) (Seen (record { what = Dir; len = 0; marks = no_marks }))
    ∷ asks 0 (Look root) (Seen (record { what = Dir; len = 0; marks = no_marks }))
    ∷ []

abbrev pub cut_off : List Line
cut_off = without_one Attrs (sets 1)

module _ (q : Plan) where
  -- the other two did their part, and failed at nothing
  pub two_bricks_bear_a_change : IsBorne (three q) (work 1 cut_off)
  two_bricks_bear_a_change = record {
    change = sets 1;
    begun = refl;
    bricks = 0 ∷ 1 ∷ [];
    parts = λ b inside. each_of_two (DidItsPart (work 1 cut_off)) (record { pre = refl; operation = λ k. refl; post = λ k. refl }) (record { pre = refl; operation = λ k. refl; post = λ k. refl }) b inside;
    enough = refl;
  }

  unfailed : IsUnfailed (three q) (work 1 cut_off)
  unfailed = record {
    change = sets 1;
    begun = refl;
    bricks = 0 ∷ 1 ∷ [];
    each = λ b inside. each_of_two (FailsNothing (work 1 cut_off)) (record { asked = refl; unfailed = refl }) (record { asked = refl; unfailed = refl }) b inside;
    enough = refl;
  }

  -- so the command may not fail
  pub a_change_that_two_bricks_bear_does_not_fail : IsAvailable (three q) (says reply.Failed) cut_off → ⊥
  a_change_that_two_bricks_bear_does_not_fail available = not_stored unfailed.change (available refl unfailed)
    where
      not_stored : (change : Change) → SaysStored (three q) 1 cut_off change reply.Failed → ⊥
      not_stored change (ByOk ok) = cc ok
      not_stored change (ByHalf half from to is dir g n same) = cc half

  -- nor may it say half: what was stored is no new name
  pub a_change_that_two_bricks_bear_is_not_half : IsAvailable (three q) (says reply.Half) cut_off → ⊥
  unfolding unfailed
  a_change_that_two_bricks_bear_is_not_half available = not_stored (available refl unfailed)
    where
      not_stored : SaysStored (three q) 1 cut_off (sets 1) reply.Half → ⊥
      not_stored (ByOk ok) = cc ok
      not_stored (ByHalf half from to is dir g n same) = cc same

  -- one brick alone isn't enough
  pub one_brick_is_not_enough : suffices (three q).shape Attrs (looked_by root (work 1 cut_off)) (0 ∷ []) ≡ false
  one_brick_is_not_enough = refl

  -- brick 2, which was lost, failed, and didn't do its part
  pub the_lost_brick_failed : FailsNothing (work 1 cut_off) 2 → ⊥
  the_lost_brick_failed f = true≢false f.unfailed

  pub the_lost_brick_did_not_do_its_part : DidItsPart (work 1 cut_off) 2 → ⊥
  the_lost_brick_did_not_do_its_part d = true≢false (sym d.pre)

-- ---- a rename
abbrev name : ℕ → NameId
name i = record { 0 = i }

-- the first opening file's other name
abbrev made : Change
made = Make root (name 1) (opening_gfid 1) File

-- it is stored at two bricks, as the attribute was, and so is the removal of the old one
abbrev pub linked : List Line
linked = without_one Names made

abbrev pub removed : List Line
removed = without_one Names (Remove root (name 0) File)

module _ (q : Plan) where
  -- the client has one command, that rename
  abbrev p : Plan
  p = record (three q) { clients = (command.Rename (name 0 ∷ []) (name 1 ∷ []) ∷ []) ∷ [] }

  -- where the new name was the last change, it may say half
  pub a_rename_that_stored_its_new_name_is_half : IsAvailable p (says reply.Half) linked
  a_rename_that_stored_its_new_name_is_half client u = ByHalf refl (name 0 ∷ []) (name 1 ∷ []) refl root (opening_gfid 1) (name 1) (let same : Some made ≡ Some u.change = u.begun in cc same)

  -- but where the last change was the removal, it is done
  removal_unfailed : IsUnfailed p (work 1 removed)
  removal_unfailed = record {
    change = Remove root (name 0) File;
    begun = refl;
    bricks = 0 ∷ 1 ∷ [];
    each = λ b inside. each_of_two (FailsNothing (work 1 removed)) (record { asked = refl; unfailed = refl }) (record { asked = refl; unfailed = refl }) b inside;
    enough = refl;
  }

  pub a_rename_that_removed_its_old_name_is_not_half : IsAvailable p (says reply.Half) removed → ⊥
  unfolding removal_unfailed
  a_rename_that_removed_its_old_name_is_not_half available = not_stored (available refl removal_unfailed)
    where
      not_stored : SaysStored p 1 removed (Remove root (name 0) File) reply.Half → ⊥
      not_stored (ByOk ok) = cc ok
      not_stored (ByHalf half from to is dir g n same) = cc same
