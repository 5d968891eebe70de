-- Why a command can't go on: for each cause a work that has it, and one that goes on.
use Rattle.std.specs.Prelude.{◌≡◌, [], ◌∷◌, Some, None, refl}
use Rattle.afr_object.specs.Tables.{root}
use Rattle.afr_lines.specs.declared.answer.Told.TheVariants as told
use Rattle.afr_lines.specs.declared.reply.Good.TheVariants as good
use Rattle.afr_lines.specs.declared.reply.Reply.TheVariants as reply
use Rattle.afr_lines.specs.declared.request.Request.TheVariants as request
use Rattle.afr_plan.specs.declared.command.Command.TheVariants as command
use Rattle.afr_model.specs.Refusals.{refusal, too_large, by_list, both_locked}
use Rattle.afr_model.specs.Showing.{Gave}
use Rattle.afr_test_model.proofs.Words.{plan, work_of, file, file_name, file_entry, new_name, child, child_area, child_found, creates, reads, removes, writes, write_area, name_area, led_to_file, name_line, ask, at_each, at_two, lock, lock_failed, unlock, look_root, look_file, look_failed, look_child, look_lacking, look_accusing, accusing_view, file_path, new_path}

-- ---- before the path's end
-- a write that ends past the longest file
pub past_the_longest_is_too_large : refusal plan (command.Write file_path 1048576 (7 ∷ [])) (work_of []) ≡ Some reply.TooLarge
past_the_longest_is_too_large = refl

-- and one that ends there
pub up_to_the_longest_is_not : too_large (command.Write file_path 1048575 (7 ∷ [])) ≡ None
up_to_the_longest_is_not = refl

-- a read that was refused
pub a_refused_name_ends_with_failed : refusal plan writes (work_of (ask 0 (request.ReadName root file_name) told.Failed ∷ at_each look_root [])) ≡ Some reply.Failed
a_refused_name_ends_with_failed = refl

-- a brick that lacks the directory tells no name
pub an_untold_name_ends_with_failed : refusal plan writes (work_of (ask 0 (request.ReadName root file_name) told.NoObject ∷ at_each look_root [])) ≡ Some reply.Failed
an_untold_name_ends_with_failed = refl

-- a name that isn't there
pub an_absent_name_is_no_entry : refusal plan (command.Read new_path 0 5) (work_of (name_line new_name ∷ at_each look_root [])) ≡ Some reply.NoEntry
an_absent_name_is_no_entry = refl

-- a minority answered the looks at the root
pub one_look_of_three_is_no_quorum : refusal plan writes (work_of (look_failed root 2 ∷ look_failed root 1 ∷ look_root 0 ∷ [])) ≡ Some reply.NoQuorum
one_look_of_three_is_no_quorum = refl

-- a majority did
pub two_looks_of_three_go_on : refusal plan writes (work_of (look_failed root 2 ∷ at_two look_root [])) ≡ None
two_looks_of_three_go_on = refl

-- a file stands before the path's end
pub a_file_on_the_way_is_not_dir : refusal plan (command.Read (file_name ∷ new_name ∷ []) 0 5) (work_of led_to_file) ≡ Some reply.NotDir
a_file_on_the_way_is_not_dir = refl

-- ---- at the object of a command
-- bytes are written into a file alone
pub a_write_to_a_directory_is_is_dir : refusal plan (command.Write new_path 0 (7 ∷ [])) (work_of child_found) ≡ Some reply.IsDir
a_write_to_a_directory_is_is_dir = refl

-- names are listed of a directory alone
pub a_list_of_a_file_is_not_dir : refusal plan (command.Ls file_path) (work_of led_to_file) ≡ Some reply.NotDir
a_list_of_a_file_is_not_dir = refl

-- one lock of three
pub one_lock_of_three_is_no_quorum : refusal plan writes (work_of (lock_failed write_area 2 ∷ lock_failed write_area 1 ∷ lock write_area 0 ∷ led_to_file)) ≡ Some reply.NoQuorum
one_lock_of_three_is_no_quorum = refl

-- two locks, and the looks after them
pub two_locks_of_three_go_on : refusal plan writes (work_of (at_two look_file (lock_failed write_area 2 ∷ at_two (lock write_area) led_to_file))) ≡ None
two_locks_of_three_go_on = refl

-- one copy of three
pub one_copy_of_three_is_few_copies : refusal plan writes (work_of (look_lacking file 2 ∷ look_lacking file 1 ∷ look_file 0 ∷ at_each (lock write_area) led_to_file)) ≡ Some reply.FewCopies
one_copy_of_three_is_few_copies = refl

-- no copy at all, for a read
pub no_copy_of_three_is_few_copies : refusal plan reads (work_of (at_each (look_lacking file) led_to_file)) ≡ Some reply.FewCopies
no_copy_of_three_is_few_copies = refl

-- two bricks accuse each other
pub two_that_accuse_each_other_are_split :
    refusal plan reads (work_of (look_lacking file 2 ∷ look_accusing 0 1 ∷ look_accusing 1 0 ∷ led_to_file)) ≡ Some (reply.SplitBrain (Some (accusing_view 1) ∷ Some (accusing_view 0) ∷ None ∷ None ∷ None ∷ []))
two_that_accuse_each_other_are_split = refl

-- the third has a copy that nobody accuses
pub a_third_good_copy_goes_on : refusal plan reads (work_of (look_file 2 ∷ look_accusing 0 1 ∷ look_accusing 1 0 ∷ led_to_file)) ≡ None
a_third_good_copy_goes_on = refl

-- ---- the last name
-- a create whose name is there
pub a_taken_name_exists : refusal plan (command.Create file_path) (work_of (name_line file_name ∷ at_each look_root (at_each (lock (name_area file_name)) []))) ≡ Some reply.Exists
a_taken_name_exists = refl

-- a create whose name isn't
pub a_free_name_goes_on : refusal plan creates (work_of (name_line new_name ∷ at_each look_root (at_each (lock (name_area new_name)) []))) ≡ None
a_free_name_goes_on = refl

-- an unlink of a name that isn't there
pub an_unlink_of_nothing_is_no_entry : refusal plan (command.Unlink new_path) (work_of (name_line new_name ∷ at_each look_root (at_each (lock (name_area new_name)) []))) ≡ Some reply.NoEntry
an_unlink_of_nothing_is_no_entry = refl

-- an unlink of a directory
pub an_unlink_of_a_directory_is_is_dir : refusal plan (command.Unlink new_path) (work_of child_found) ≡ Some reply.IsDir
an_unlink_of_a_directory_is_is_dir = refl

-- an rmdir of a file
pub an_rmdir_of_a_file_is_not_dir : refusal plan (command.Rmdir file_path) (work_of (name_line file_name ∷ at_each look_root (at_each (lock (name_area file_name)) []))) ≡ Some reply.NotDir
an_rmdir_of_a_file_is_not_dir = refl

-- an rmdir whose child was locked at one brick
pub one_child_lock_of_three_is_no_quorum : refusal plan removes (work_of (lock_failed child_area 2 ∷ lock_failed child_area 1 ∷ lock child_area 0 ∷ child_found)) ≡ Some reply.NoQuorum
one_child_lock_of_three_is_no_quorum = refl

-- an rmdir whose child was locked and looked at
pub an_empty_child_goes_on : refusal plan removes (work_of (at_each look_child (at_each (lock child_area) child_found))) ≡ None
an_empty_child_goes_on = refl

-- a list that showed a name
pub a_listed_name_is_not_empty : by_list (Gave (good.Names ((file_name, file_entry) ∷ []))) ≡ Some reply.NotEmpty
a_listed_name_is_not_empty = refl

-- a list that showed none
pub an_empty_list_goes_on : by_list (Gave (good.Names [])) ≡ None
an_empty_list_goes_on = refl

-- ---- a directory and its child
-- where the name and the child are locked
pub three_bricks_hold_both_locks : both_locked (Some (name_area new_name)) root child (work_of (at_each look_child (at_each (lock child_area) child_found))) ≡ 0 ∷ 1 ∷ 2 ∷ []
three_bricks_hold_both_locks = refl

-- a name released before the looks at the child isn't locked with it
pub a_released_name_is_not_locked_with_its_child : both_locked (Some (name_area new_name)) root child (work_of (at_each look_child (unlock (name_area new_name) 0 ∷ at_each (lock child_area) child_found))) ≡ 1 ∷ 2 ∷ []
a_released_name_is_not_locked_with_its_child = refl

-- too few hold both
pub one_brick_with_both_is_no_quorum : refusal plan removes (work_of (at_each look_child (unlock (name_area new_name) 1 ∷ unlock (name_area new_name) 0 ∷ at_each (lock child_area) child_found))) ≡ Some reply.NoQuorum
one_brick_with_both_is_no_quorum = refl

-- a file can't have names
pub a_create_in_a_file_is_not_dir : refusal plan (command.Create (file_name ∷ new_name ∷ [])) (work_of led_to_file) ≡ Some reply.NotDir
a_create_in_a_file_is_not_dir = refl
