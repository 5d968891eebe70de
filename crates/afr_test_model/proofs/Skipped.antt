-- What an ended command has asked, and works that skip something.
use Rattle.std.specs.Prelude.{◌≡◌, [], ◌∷◌, Some, None, refl}
use Rattle.std.proofs.Common.{ap, arith, subst}
use Rattle.afr_base.specs.declared.ids.Kind.TheVariants.{Bytes}
use Rattle.afr_object.specs.Tables.{root}
use Rattle.afr_lines.specs.declared.answer.Told.TheVariants as told
use Rattle.afr_lines.specs.declared.request.Request.TheVariants as request
use Rattle.afr_base.specs.declared.ids.What.TheVariants.{Dir}
use Rattle.afr_object.specs.declared.change.Change.TheVariants as change
use Rattle.afr_object.specs.declared.entry.Entry.{Entry}
use Rattle.afr_lines.specs.declared.request.Area.{Area}
use Rattle.afr_model.specs.Commands.{area_on}
use Rattle.afr_model.specs.Showing.{At, Path, root_entry}
use Rattle.afr_model.specs.Skipped.{takers, AsksAll, WentThroughPhases, IsChildLocked, IsLocked, IsLooked, SkipsNothing}
use Rattle.afr_test_model.proofs.Means.{each_of_three, fails, from_some}
use Rattle.afr_test_model.proofs.Skipping.{all_locked, all_looked}
use Rattle.afr_test_model.proofs.Words.{plan, work_of, file, new_name, child, child_area, child_entry, child_found, child_listed, child_removed, file_entry, removes, writes, write_area, write_change, name_area, led_to_file, ask, at_each, at_two, begin, pre, apply, post, lock, look_root, look_file, look_failed, look_child, ready, written}

-- ---- every brick was asked where views stop a command
-- the looks at the root, two of which failed
pub three_looks_ask_all : AsksAll 3 (Some root) None (work_of (look_failed root 2 ∷ look_failed root 1 ∷ look_root 0 ∷ []))
three_looks_ask_all = each_of_three _ refl

-- no-quorum that asked nobody
pub no_line_asks_nobody : AsksAll 3 (Some root) None (work_of []) → ⊥
no_line_asks_nobody all = fails (all 0 (omega arith))

-- one look at a brick that failed it
pub one_look_does_not_ask_all : AsksAll 3 (Some root) None (work_of (look_failed root 0 ∷ [])) → ⊥
one_look_does_not_ask_all all = fails (all 1 (omega arith))

-- where an area is locked, looks aren't enough
pub looks_do_not_ask_for_locks : AsksAll 3 (Some file) (Some write_area) (work_of (at_each look_file led_to_file)) → ⊥
looks_do_not_ask_for_locks all = fails (all 0 (omega arith))

-- ---- looks without a lock
-- all three bricks were looked at
pub three_looks_are_all : IsLooked 3 (work_of (at_each look_root []))
three_looks_are_all = all_looked 3 (work_of (at_each look_root [])) refl

-- brick 2 wasn't
pub two_looks_are_not : IsLooked 3 (work_of (at_two look_root [])) → ⊥
two_looks_are_not looked = fails (looked root refl refl 2 (omega arith))

-- ---- locks of an area
-- each brick was asked, and each that granted was looked at
pub a_lock_at_each_and_a_look : IsLocked 3 (work_of ready) write_area
a_lock_at_each_and_a_look = record { all = each_of_three _ refl; looked = λ most b got. got }

-- brick 2 wasn't asked
pub two_locks_are_not_all : IsLocked 3 (work_of (at_two look_file (at_two (lock write_area) led_to_file))) write_area → ⊥
two_locks_are_not_all locked = fails (locked.all 2 (omega arith))

-- brick 2 granted and wasn't looked at
pub a_lock_without_a_look : IsLocked 3 (work_of (at_two look_file (at_each (lock write_area) led_to_file))) write_area → ⊥
a_lock_without_a_look locked = fails (locked.looked refl 2 refl)

-- ---- the directory that an rmdir removes
-- each brick where the name was locked was asked for the child, and looked at
pub a_child_locked_and_looked_at : IsChildLocked plan root child (name_area new_name) (work_of (at_each look_child (at_each (lock child_area) child_found)))
a_child_locked_and_looked_at = record { all = λ b held. held; looked = λ enough b held both. both }

-- brick 2 wasn't asked for the child
pub a_child_not_locked_at_2 : IsChildLocked plan root child (name_area new_name) (work_of (at_two look_child (at_two (lock child_area) child_found))) → ⊥
a_child_not_locked_at_2 locked = fails (locked.all 2 refl)

-- brick 2 holds both locks and wasn't looked at
pub a_child_not_looked_at_on_2 : IsChildLocked plan root child (name_area new_name) (work_of (at_two look_child (at_each (lock child_area) child_found))) → ⊥
a_child_not_looked_at_on_2 locked = fails (locked.looked refl 2 refl refl)

-- ---- the phases of an attempt
-- each of three holders went through all three
pub three_phases_at_each : WentThroughPhases plan writes write_change (work_of written)
three_phases_at_each = record { prepared_all = λ b taker. taker; applied_all = λ enough b did. did; posted_all = λ enough done b did. did }

-- brick 2's pre-op failed, so it isn't asked for more
pub a_failed_pre_ends_a_brick : WentThroughPhases plan writes write_change (work_of (at_two (post 10 file Bytes (2 ∷ [])) (at_two (apply 10) (ask 2 (request.Pre file Bytes) told.Failed ∷ at_two (pre file Bytes) (begin write_change ∷ ready)))))
a_failed_pre_ends_a_brick = record { prepared_all = λ b taker. taker; applied_all = λ enough b did. did; posted_all = λ enough done b did. did }

-- holder 2 wasn't asked for its pre-op
pub a_holder_without_a_pre : WentThroughPhases plan writes write_change (work_of (at_two (post 10 file Bytes []) (at_two (apply 10) (at_two (pre file Bytes) (begin write_change ∷ ready))))) → ⊥
a_holder_without_a_pre carried = fails (carried.prepared_all 2 refl)

-- brick 2 did its pre-op and wasn't asked for the operation
pub a_pre_without_an_apply : WentThroughPhases plan writes write_change (work_of (at_two (post 10 file Bytes []) (at_two (apply 10) (at_each (pre file Bytes) (begin write_change ∷ ready))))) → ⊥
a_pre_without_an_apply carried = fails (carried.applied_all refl 2 refl)

-- brick 2 did the operation and wasn't asked for its post-op
pub an_apply_without_a_post : WentThroughPhases plan writes write_change (work_of (at_two (post 10 file Bytes []) (at_each (apply 10) (at_each (pre file Bytes) (begin write_change ∷ ready))))) → ⊥
an_apply_without_a_post carried = fails (carried.posted_all refl refl 2 refl)

-- ---- a whole command
-- a write
pub a_write_skips_nothing : SkipsNothing plan writes (work_of written)
a_write_skips_nothing = record {
  looked = all_looked 3 (work_of written) refl;
  locked = all_locked 3 (work_of written) refl;
  child = λ rmdir. fails rmdir;
  carried = λ change same. from_some (λ it. WentThroughPhases plan writes it (work_of written)) write_change change three_phases_at_each same;
}

-- a write that left out its lock at brick 2
pub a_write_without_a_lock_skips : SkipsNothing plan writes (work_of (at_two look_file (at_two (lock write_area) led_to_file))) → ⊥
a_write_without_a_lock_skips skips = two_locks_are_not_all (skips.locked write_area refl refl)

-- ---- an rmdir
-- its attempt begins at the bricks with both locks
pub an_rmdir_begins_where_both_are_locked : takers removes root (At 1 child_entry) (work_of child_listed) ≡ 0 ∷ 1 ∷ 2 ∷ []
an_rmdir_begins_where_both_are_locked = refl

-- any other attempt at the holders
pub a_write_begins_at_the_holders : takers writes file (At 1 file_entry) (work_of (look_file 0 ∷ at_each (lock write_area) led_to_file)) ≡ 0 ∷ []
a_write_begins_at_the_holders = refl

-- the entry at which a path stands
abbrev pub entry_at : Path → Entry
entry_at (At read entry) = entry
entry_at path = root_entry

-- the child of the rmdir is locked
removed_child : (name : Area) → Some (name_area new_name) ≡ Some name → IsChildLocked plan root child name (work_of child_removed)
removed_child name same = from_some (λ it. IsChildLocked plan root child it (work_of child_removed)) (name_area new_name) name (record { all = λ b held. held; looked = λ enough b held both. both }) same

-- a whole rmdir
pub an_rmdir_skips_nothing : SkipsNothing plan removes (work_of child_removed)
an_rmdir_skips_nothing = record {
  looked = all_looked 3 (work_of child_removed) refl;
  locked = all_locked 3 (work_of child_removed) refl;
  child = λ rmdir read dir found name at_dir at_child is area. of dir (ap entry_at at_dir) found (ap entry_at at_child) name area;
  carried = λ begun same. from_some (λ it. WentThroughPhases plan removes it (work_of child_removed)) (change.Remove root new_name Dir) begun (record { prepared_all = λ b taker. taker; applied_all = λ enough b did. did; posted_all = λ enough done b did. did }) same;
}
  where
    of : (dir : Entry) → root_entry ≡ dir → (found : Entry) → child_entry ≡ found → (name : Area) → area_on dir.gfid removes ≡ Some name → IsChildLocked plan dir.gfid found.gfid name (work_of child_removed)
    of dir at_dir found at_child name area = subst (λ (at : Entry). area_on at.gfid removes ≡ Some name → IsChildLocked plan at.gfid found.gfid name (work_of child_removed)) at_dir
        (λ same. subst (λ (at : Entry). IsChildLocked plan root at.gfid name (work_of child_removed)) at_child (removed_child name same)) area

-- an rmdir that found a directory and locked nothing of it
pub an_rmdir_without_its_child_skips : SkipsNothing plan removes (work_of child_found) → ⊥
an_rmdir_without_its_child_skips skips = fails ((skips.child refl 0 root_entry child_entry (name_area new_name) refl refl refl refl).all 0 refl)
