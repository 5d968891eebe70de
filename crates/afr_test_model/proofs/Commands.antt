-- What the words of a command name, and what they don't.
use Rattle.std.specs.Prelude.{◌≡◌, ℕ, [], ◌∷◌, Option, Some, None, refl}
use Rattle.std.proofs.Common.{ap}
use Rattle.afr_base.specs.declared.ids.Kind.TheVariants.{Bytes, Names}
use Rattle.afr_base.specs.declared.ids.What.TheVariants.{File, Dir}
use Rattle.afr_object.specs.Tables.{root}
use Rattle.afr_object.specs.declared.change.Change.{Change}
use Rattle.afr_object.specs.declared.change.Change.TheVariants as change
use Rattle.afr_lines.specs.declared.request.Request.TheVariants as request
use Rattle.afr_plan.specs.declared.command.Command.TheVariants as command
use Rattle.afr_model.specs.Commands.{steps_of, last_of, change_named, area_on, request_on, kind_looked}
use Rattle.afr_test_model.proofs.Words.{file, file_name, new_name, file_path, new_path, writes, reads, creates, object, write_area, write_change}

-- the number of the object that a change makes
abbrev pub made : Option Change → ℕ
made (Some (change.Make dir name of what)) = of.0
made other = 0

-- a create whose Begin is line 7 makes the file 9
pub a_create_begun_at_line_7_makes_9 : change_named root 7 creates ≡ Some (change.Make root new_name (object 9) File)
a_create_begun_at_line_7_makes_9 = refl

-- it doesn't make 99
pub a_create_begun_at_line_7_does_not_make_99 : change_named root 7 creates ≡ Some (change.Make root new_name (object 99) File) → ⊥
a_create_begun_at_line_7_does_not_make_99 same = absurd (cc (ap made same))

-- ---- paths
-- a write's path leads to its object by all of its names
pub a_write_goes_all_the_way : steps_of writes ≡ 1
a_write_goes_all_the_way = refl

-- a create's path leads to the directory of its last name
pub a_create_stops_before_its_last_name : steps_of creates ≡ 0
a_create_stops_before_its_last_name = refl

-- the last name of a path
pub the_last_of_two_names : last_of (file_name ∷ new_name ∷ []) ≡ Some new_name
the_last_of_two_names = refl

-- an empty path has none
pub no_last_of_no_names : last_of [] ≡ None
no_last_of_no_names = refl

-- a name can't be made where there is none
pub the_root_cannot_be_made : change_named root 7 (command.Create []) ≡ None
the_root_cannot_be_made = refl

-- ---- changes
-- a write changes the object that its path has led to
pub a_write_changes_its_object : change_named file 10 writes ≡ Some write_change
a_write_changes_its_object = refl

-- a read changes nothing
pub a_read_changes_nothing : change_named file 10 reads ≡ None
a_read_changes_nothing = refl

-- ---- locks
-- a write locks its range
pub a_write_locks_five_bytes : area_on file writes ≡ Some write_area
a_write_locks_five_bytes = refl

-- one of no bytes locks nothing
pub a_write_of_nothing_locks_nothing : area_on file (command.Write file_path 0 []) ≡ None
a_write_of_nothing_locks_nothing = refl

-- ---- reads
-- a read asks its bytes
pub a_read_asks_five_bytes : request_on file reads ≡ Some (request.ReadBytes file 0 5)
a_read_asks_five_bytes = refl

-- one of no bytes asks nothing
pub a_read_of_nothing_asks_nothing : request_on file (command.Read file_path 0 0) ≡ None
a_read_of_nothing_asks_nothing = refl

-- an rmdir asks the names of its child
pub an_rmdir_asks_names : request_on file (command.Rmdir new_path) ≡ Some (request.List file)
an_rmdir_asks_names = refl

-- a stat asks nothing
pub a_stat_asks_nothing : request_on file (command.Stat file_path) ≡ None
a_stat_asks_nothing = refl

-- a stat of a file needs a good copy of bytes
pub a_stat_of_a_file_looks_for_bytes : kind_looked (command.Stat file_path) File ≡ Bytes
a_stat_of_a_file_looks_for_bytes = refl

-- a stat of a directory needs a good copy of names
pub a_stat_of_a_directory_looks_for_names : kind_looked (command.Stat new_path) Dir ≡ Names
a_stat_of_a_directory_looks_for_names = refl
