-- The lines of a command: each one that is about what its words name, and some that aren't.
use Rattle.std.specs.Prelude.{◌≡◌, ℕ, ◌==◌, ◌&&◌, Bool, true, false, [], ◌∷◌, Option, Some, None, refl}
use Rattle.std.proofs.Common.{sym}
use Rattle.afr_base.specs.Bricks.{member}
use Rattle.afr_base.specs.declared.ids.Kind.TheVariants.{Bytes, Attrs, Names}
use Rattle.afr_base.specs.declared.ids.What.TheVariants.{File}
use Rattle.afr_object.specs.Tables.{root}
use Rattle.afr_object.specs.declared.change.Change.TheVariants as change
use Rattle.afr_object.specs.declared.change.Repair.TheVariants.{CutTo}
use Rattle.afr_lines.specs.declared.answer.Told.TheVariants as told
use Rattle.afr_lines.specs.declared.line.Line.TheVariants.{HealBegin}
use Rattle.afr_lines.specs.declared.request.Area.TheVariants.{Name, Range}
use Rattle.afr_lines.specs.declared.request.Request.{Request}
use Rattle.afr_lines.specs.declared.request.Request.TheVariants as request
use Rattle.afr_plan.specs.declared.command.Command.TheVariants as command
use Rattle.afr_model.specs.Answered.{Counts, IsAbout, LooksHere, MayRead, ReadsNamed}
use Rattle.afr_base.specs.declared.ids.Kind.{Kind}
use Rattle.afr_lines.specs.Areas.{kind_for}
use Rattle.afr_model.specs.Showing.{Path, At, Reading, NotAsked, among}
use Rattle.afr_model.specs.Standing.{getting}
use Rattle.afr_test_model.proofs.Means.{fails, passes, from_some, from_none, is_area, is_none, is_object, told_apart}
use Rattle.afr_test_model.proofs.Words.{plan, work_of, file, file_entry, file_path, new_name, creates, reads, writes, write_area, write_change, name_area, led_to_file, name_line, ask, at_each, at_two, begin, client, pre, apply, lock, lock_failed, unlock, look_root, look_file, look_failed, ready, written, object}

-- ---- which read may come
-- a name is read after three looks
pub a_name_is_read_after_looks : MayRead plan writes root Names 1 (work_of (at_each look_root []))
a_name_is_read_after_looks = record { unbegun = refl; goes_on = refl; answered = refl; good = refl }

-- a minority looked: the command can't go on
pub no_name_where_a_minority_looked : MayRead plan writes root Names 0 (work_of (look_failed root 2 ∷ look_failed root 1 ∷ look_root 0 ∷ [])) → ⊥
no_name_where_a_minority_looked may = told_apart is_none _ _ refl refl (sym may.goes_on)

-- a read that was refused isn't tried at a second copy
pub no_second_try_of_a_refused_read : MayRead plan reads file Bytes 1 (work_of (ask 0 (request.ReadBytes file 0 5) told.Failed ∷ at_each look_file led_to_file)) → ⊥
no_second_try_of_a_refused_read may = told_apart is_none _ _ refl refl (sym may.goes_on)

-- nor is a read at a brick that wasn't looked at
pub no_read_where_nobody_looked : MayRead plan reads file Bytes 2 (work_of (at_two look_file led_to_file)) → ⊥
no_read_where_nobody_looked may = fails may.good

-- nor one after the attempt has begun
pub no_read_after_the_begin : MayRead plan writes file Bytes 0 (work_of (begin write_change ∷ ready)) → ⊥
no_read_after_the_begin may = passes may.unbegun

-- ---- what is read
-- the bytes that the words name
pub a_read_asks_its_range : ReadsNamed plan reads (request.ReadBytes file 0 5) (work_of led_to_file)
a_read_asks_its_range = record { object = file_entry; led = refl; named = refl }

-- a test of what a read of five bytes asks
abbrev pub is_its_range : Option Request → Bool
is_its_range (Some (request.ReadBytes of at len)) = (at == 0) && (len == 5)
is_its_range other = false

-- another offset
pub not_another_range : ReadsNamed plan reads (request.ReadBytes file 1 5) (work_of led_to_file) → ⊥
not_another_range reading = told_apart is_its_range _ _ refl refl reading.named

-- a list in place of a read
pub not_a_list : ReadsNamed plan reads (request.List file) (work_of led_to_file) → ⊥
not_a_list reading = told_apart is_its_range _ _ refl refl reading.named

-- an attribute in place of a read
pub not_an_attribute : ReadsNamed plan reads (request.ReadAttr file (record { 0 = 3 })) (work_of led_to_file) → ⊥
not_an_attribute reading = told_apart is_its_range _ _ refl refl reading.named

-- a read in a write
pub not_in_a_write : ReadsNamed plan writes (request.ReadBytes file 0 5) (work_of led_to_file) → ⊥
not_in_a_write reading = from_none _ reading.named

-- the attribute that the words name
pub a_getattr_asks_its_key : ReadsNamed plan (command.GetAttr file_path (record { 0 = 3 })) (request.ReadAttr file (record { 0 = 3 })) (work_of led_to_file)
a_getattr_asks_its_key = record { object = file_entry; led = refl; named = refl }

-- a test of what it asks
abbrev pub is_key_3 : Option Request → Bool
is_key_3 (Some (request.ReadAttr of key)) = key.0 == 3
is_key_3 other = false

-- another key
pub not_another_key : ReadsNamed plan (command.GetAttr file_path (record { 0 = 3 })) (request.ReadAttr file (record { 0 = 4 })) (work_of led_to_file) → ⊥
not_another_key reading = told_apart is_key_3 _ _ refl refl reading.named

-- the path stands at its end
abbrev pub is_after_one_name : Path → Bool
is_after_one_name (At read entry) = read == 1
is_after_one_name other = false

-- an object on the way
pub not_on_the_way : ReadsNamed plan (command.GetAttr file_path (record { 0 = 3 })) (request.ReadAttr root (record { 0 = 3 })) (work_of (at_each look_root [])) → ⊥
not_on_the_way reading = told_apart is_after_one_name _ _ refl refl (sym reading.led)

-- ---- where a command looks
-- at a brick that granted its lock
pub a_look_where_the_lock_was_granted : LooksHere plan writes file 1 (work_of (at_each (lock write_area) led_to_file))
a_look_where_the_lock_was_granted = record { unbegun = refl; unread = refl; object = refl; locked = λ area same. from_some (λ it. member (among (getting it) (work_of (at_each (lock write_area) led_to_file))) 1 ≡ true) write_area area refl same }

-- not where the lock failed
pub no_look_where_the_lock_failed : LooksHere plan writes file 1 (work_of (lock write_area 2 ∷ lock_failed write_area 1 ∷ lock write_area 0 ∷ led_to_file)) → ⊥
no_look_where_the_lock_failed looks = fails (looks.locked write_area refl)

-- not at an object on the way where the path stands at its end
pub no_look_on_the_way : LooksHere plan writes root 0 (work_of led_to_file) → ⊥
no_look_on_the_way looks = told_apart (is_object file) _ _ refl refl looks.object

-- not before the command's lock
pub no_look_before_the_lock : LooksHere plan creates root 0 (work_of []) → ⊥
no_look_before_the_lock looks = fails (looks.locked (name_area new_name) refl)

-- not under another lock than the command's
pub no_look_under_another_lock : LooksHere plan creates root 0 (work_of (at_each (lock (Range root 0 5)) [])) → ⊥
no_look_under_another_lock looks = fails (looks.locked (name_area new_name) refl)

-- not after what the look would let be read
pub no_look_after_the_read : LooksHere plan reads file 0 (work_of (ask 0 (request.ReadBytes file 0 5) told.Given ∷ at_each look_file led_to_file)) → ⊥
no_look_after_the_read looks = told_apart is_given _ _ refl refl looks.unread
  where
    is_given : Reading → Bool
    is_given NotAsked = false
    is_given other = true

-- ---- what a pre-op counts
-- the object and the kind of the attempt's change
pub a_pre_of_the_change : Counts file Bytes (work_of (begin write_change ∷ ready))
a_pre_of_the_change = record { change = write_change; begun = refl; object = refl; counted = refl }

-- another kind
pub no_pre_of_another_kind : Counts file Attrs (work_of (begin write_change ∷ ready)) → ⊥
no_pre_of_another_kind counts = from_some (λ it. Attrs ≡ kind_for it → ⊥) write_change counts.change (λ same. told_apart is_attrs _ _ refl refl same) counts.begun counts.counted
  where
    is_attrs : Kind → Bool
    is_attrs Attrs = true
    is_attrs other = false

-- no attempt has begun
pub no_pre_before_the_begin : Counts file Bytes (work_of ready) → ⊥
no_pre_before_the_begin counts = from_none _ counts.begun

-- ---- lines
-- a create locks its name
pub a_create_locks_its_name : IsAbout plan creates (lock (name_area new_name) 0) (work_of [])
a_create_locks_its_name = (refl, refl)

-- and not the whole directory
pub a_create_locks_no_directory : IsAbout plan creates (lock (Name root None) 0) (work_of []) → ⊥
a_create_locks_no_directory about = told_apart (is_area (name_area new_name)) _ _ refl refl about.1

-- a write locks nothing on its way
pub a_write_locks_no_range_on_its_way : IsAbout plan writes (lock (Range root 0 5) 0) (work_of (at_each look_root [])) → ⊥
a_write_locks_no_range_on_its_way about = from_none _ about.1

-- a change begins after its lock, its looks and its name
pub a_create_begins_after_its_name : IsAbout plan creates (begin (change.Make root new_name (object 9) File)) (work_of (name_line new_name ∷ at_each look_root (at_each (lock (name_area new_name)) [])))
a_create_begins_after_its_name = (refl, refl)

-- and not before its name
pub a_create_does_not_begin_before_its_name : IsAbout plan creates (begin (change.Make root new_name (object 8) File)) (work_of (at_each look_root (at_each (lock (name_area new_name)) []))) → ⊥
a_create_does_not_begin_before_its_name about = told_apart is_led _ _ refl refl about.1
  where
    is_led : Path → Bool
    is_led (At read entry) = true
    is_led other = false

-- an operation is of the work's attempt
pub an_apply_of_the_attempt : IsAbout plan writes (apply 10 0) (work_of (at_each (pre file Bytes) (begin write_change ∷ ready)))
an_apply_of_the_attempt = refl

-- and not of another
pub no_apply_of_another_attempt : IsAbout plan writes (apply 9 0) (work_of (at_each (pre file Bytes) (begin write_change ∷ ready))) → ⊥
no_apply_of_another_attempt about = told_apart is_10 _ _ refl refl about
  where
    is_10 : Option ℕ → Bool
    is_10 None = false
    is_10 (Some number) = number == 10

-- a lock is released whenever the command will
pub an_unlock : IsAbout plan writes (unlock write_area 0) (work_of written)
an_unlock = tt

-- a command mends no copy
pub no_mend : IsAbout plan writes (ask 0 (request.Mend (CutTo file 0)) told.Done) (work_of written) → ⊥
no_mend about = about

-- and begins no heal
pub no_heal : IsAbout plan writes (HealBegin client file Bytes) (work_of ready) → ⊥
no_heal about = about
