-- Where a command stands: at which object it looks, what it locks there, and with which locks.
use Rattle.std.specs.Prelude.{◌≡◌, true, false, [], ◌∷◌, Some, None, refl}
use Rattle.afr_base.specs.declared.ids.Kind.TheVariants.{Bytes}
use Rattle.afr_object.specs.Tables.{root}
use Rattle.afr_lines.specs.declared.answer.Told.TheVariants as told
use Rattle.afr_lines.specs.declared.request.Area.TheVariants.{Name, Range}
use Rattle.afr_lines.specs.declared.request.Request.TheVariants as request
use Rattle.afr_model.specs.Showing.{At, NoName, path_by, looked_by, among, root_entry}
use Rattle.afr_model.specs.Standing.{place_by, looks_here, area_here, up_to, since, asks_name, locks_any, asking, getting, holding, change_by, suffices}
use Rattle.afr_test_model.proofs.Means.{told_apart, is_object, is_area}
use Rattle.afr_test_model.proofs.Words.{plan, work_of, file, new_name, child, child_area, child_entry, child_found, child_made, creates, removes, writes, write_area, write_change, name_area, led_to_file, name_line, ask, at_each, at_two, lock, lock_failed, lock_held, unlock, look_root, look_file, begin}

-- ---- the path
-- after the name of an rmdir its place is still the root
pub an_rmdir_stays_in_the_root : place_by plan removes (work_of child_found) ≡ At 0 root_entry
an_rmdir_stays_in_the_root = refl

-- while its path stands at the directory that the name gave
pub its_path_is_at_the_child : path_by plan (work_of child_found) ≡ At 1 child_entry
its_path_is_at_the_child = refl

-- there it looks at the child
pub an_rmdir_looks_at_its_child : looks_here removes (path_by plan (work_of child_found)) ≡ Some child
an_rmdir_looks_at_its_child = refl

-- and not at the root
pub an_rmdir_does_not_look_back : looks_here removes (path_by plan (work_of child_found)) ≡ Some root → ⊥
an_rmdir_does_not_look_back same = told_apart (is_object child) _ _ refl refl same

-- an rmdir locks the name in the root
pub an_rmdir_locks_the_name : area_here removes (At 0 root_entry) ≡ Some (name_area new_name)
an_rmdir_locks_the_name = refl

-- and then all of the child
pub an_rmdir_locks_its_child : area_here removes (path_by plan (work_of child_found)) ≡ Some child_area
an_rmdir_locks_its_child = refl

-- a create doesn't lock the whole root
pub a_create_does_not_lock_the_root : area_here creates (At 0 root_entry) ≡ Some (Name root None) → ⊥
a_create_does_not_lock_the_root same = told_apart (is_area (name_area new_name)) _ _ refl refl same

-- a write locks nothing on its way
pub a_write_locks_nothing_on_its_way : area_here writes (At 0 root_entry) ≡ None
a_write_locks_nothing_on_its_way = refl

-- and its range of the file at the path's end
pub a_write_locks_its_range : area_here writes (path_by plan (work_of led_to_file)) ≡ Some write_area
a_write_locks_its_range = refl

-- ---- locks of an area
-- a brick that told Held and then granted was asked, and has granted
pub held_then_granted_was_asked : among (asking write_area) (work_of (lock write_area 0 ∷ lock_held write_area 0 ∷ [])) ≡ 0 ∷ []
held_then_granted_was_asked = refl

-- one that failed and was then held wasn't
pub failed_then_held_was_not : among (asking write_area) (work_of (lock_held write_area 0 ∷ lock_failed write_area 0 ∷ [])) ≡ []
failed_then_held_was_not = refl

-- a lock that failed was asked
pub a_failed_lock_was_asked : among (asking write_area) (work_of (lock_failed write_area 0 ∷ [])) ≡ 0 ∷ []
a_failed_lock_was_asked = refl

-- and not granted
pub a_failed_lock_is_not_granted : among (getting write_area) (work_of (lock_failed write_area 0 ∷ [])) ≡ []
a_failed_lock_is_not_granted = refl

-- a lock of another area doesn't count
pub a_lock_elsewhere_does_not_count : among (getting write_area) (work_of (at_each (lock (Range file 0 6)) [])) ≡ []
a_lock_elsewhere_does_not_count = refl

-- a lock that was granted is held
pub a_granted_lock_is_held : among (holding write_area) (work_of (at_two (lock write_area) [])) ≡ 0 ∷ 1 ∷ []
a_granted_lock_is_held = refl

-- a lock that was released isn't held
pub a_released_lock_is_not : among (holding write_area) (work_of (unlock write_area 0 ∷ at_two (lock write_area) [])) ≡ 1 ∷ []
a_released_lock_is_not = refl

-- nor is one that was lost with its session
pub a_lost_lock_is_not : among (holding write_area) (work_of (ask 1 (request.Look file) told.NotConnected ∷ at_two (lock write_area) [])) ≡ 0 ∷ []
a_lost_lock_is_not = refl

-- ---- parts of a work
-- what stood when the last name was asked, without the lines after it
pub up_to_a_name : up_to asks_name (work_of (lock child_area 0 ∷ child_found)) ≡ work_of child_found
up_to_a_name = refl

-- what came from the first lock on, without the lines before it
pub since_the_first_lock : since locks_any (work_of (lock write_area 0 ∷ led_to_file)) ≡ (lock write_area 0, led_to_file) ∷ []
since_the_first_lock = refl

-- the change of a work is that of its last Begin
pub the_change_of_a_work : change_by (work_of (begin write_change ∷ led_to_file)) ≡ Some write_change
the_change_of_a_work = refl

-- that of a command that has ended isn't the work's
pub an_ended_change_is_not_of_it : change_by (work_of child_made) ≡ None
an_ended_change_is_not_of_it = refl

-- ---- sets that suffice
-- two of three bricks, of which one has a good copy
pub two_good_copies_suffice : suffices plan.shape Bytes (looked_by file (work_of (at_two look_file []))) (0 ∷ 1 ∷ []) ≡ true
two_good_copies_suffice = refl

-- one brick doesn't suffice
pub one_brick_does_not_suffice : suffices plan.shape Bytes (looked_by file (work_of (at_two look_file []))) (0 ∷ []) ≡ false
one_brick_does_not_suffice = refl

-- nor two bricks without a good copy
pub two_without_a_good_copy_do_not : suffices plan.shape Bytes (looked_by file (work_of (look_file 2 ∷ []))) (0 ∷ 1 ∷ []) ≡ false
two_without_a_good_copy_do_not = refl

-- ---- where the first names have led
-- a name that isn't there leads nowhere
pub an_absent_name_leads_nowhere : place_by plan writes (work_of (name_line new_name ∷ at_each look_root [])) ≡ NoName
an_absent_name_leads_nowhere = refl

-- but a create stays in the directory of its last name
pub a_create_stays_in_the_root : place_by plan creates (work_of (name_line new_name ∷ at_each look_root [])) ≡ At 0 root_entry
a_create_stays_in_the_root = refl
