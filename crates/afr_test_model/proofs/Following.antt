-- Lines that are what the plan has for their moment, and some that aren't.
use Rattle.std.specs.Prelude.{◌≡◌, ℕ, ◌<◌, ◌≤◌, ◌==◌, Bool, false, [], ◌∷◌, Option, Some, None, slice_get, refl}
use Rattle.std.proofs.Common.{ap, arith, subst, sym}
use Rattle.afr_base.specs.declared.ids.Kind.TheVariants.{Bytes}
use Rattle.afr_base.specs.declared.ids.NameId.{NameId}
use Rattle.afr_base.specs.declared.ids.What.TheVariants.{Dir, File}
use Rattle.afr_object.specs.Tables.{is_dir, root}
use Rattle.afr_object.specs.declared.change.Change.{Change}
use Rattle.afr_object.specs.declared.change.Change.TheVariants as change
use Rattle.afr_lines.specs.declared.line.Event.TheVariants as event
use Rattle.afr_lines.specs.declared.line.Line.TheVariants.{HealBegin}
use Rattle.afr_lines.specs.declared.line.Line.TheVariants as line_of
use Rattle.afr_lines.specs.declared.answer.Told.TheVariants as told
use Rattle.afr_lines.specs.declared.reply.Good.TheVariants as good
use Rattle.afr_lines.specs.declared.reply.Reply.TheVariants as reply
use Rattle.afr_lines.specs.declared.request.Request.TheVariants as request
use Rattle.afr_plan.specs.declared.command.Command.TheVariants as command
use Rattle.afr_plan.specs.declared.plan.Plan.{Plan}
use Rattle.afr_plan.specs.declared.schedule.PlannedEvent.{PlannedEvent}
use Rattle.afr_model.specs.Actors.{IsActor}
use Rattle.afr_model.specs.Commands.{path_of}
use Rattle.afr_model.specs.Following.{Follows, IsFollowing, IsNextEvent, IsTurnOf, KeepsToTask, NoneDue}
use Rattle.afr_model.specs.Keeping.{IsNextName, KeepsTo, Names}
use Rattle.afr_model.specs.Showing.{At, Path, root_entry}
use Rattle.afr_test_model.proofs.Means.{from_none, from_some, passes, told_apart}
use Rattle.afr_test_model.proofs.Words.{at_each, begin, brick, child_found, client, creates, ends, file, file_entry, file_name, file_path, heal_ask, healer, led_to_file, lock, look_root, name_area, name_line, new_name, object, plan, ready, removes, work_of, write_change, writes}

-- ---- names
-- the path's next name, in the root
pub the_next_name : IsNextName plan writes root file_name (work_of (at_each look_root []))
the_next_name = record { read = 0; object = root_entry; stands = refl; asked = refl; next = refl }

-- the path stands after one name
abbrev pub names_read : Path → ℕ
names_read (At read entry) = read
names_read other = 0

-- no name is left where the path is at its end
pub no_name_past_the_end : IsNextName plan writes root file_name (work_of led_to_file) → ⊥
no_name_past_the_end next = from_none _ (subst (λ (read : ℕ). slice_get (path_of writes) read ≡ Some file_name) (sym (ap names_read next.stands)) next.next)

-- a name that isn't the path's
pub no_other_name : IsNextName plan writes root new_name (work_of (at_each look_root [])) → ⊥
no_other_name next = told_apart is_file_name _ _ refl refl (subst (λ (read : ℕ). slice_get (path_of writes) read ≡ Some new_name) (sym (ap names_read next.stands)) next.next)
  where
    is_file_name : Option NameId → Bool
    is_file_name None = false
    is_file_name (Some name) = name.0 == 0

-- ---- changes
-- a create whose Begin is line 7 makes the file 9
pub a_create_makes_the_file_9 : Names plan creates (work_of (name_line new_name ∷ at_each look_root (at_each (lock (name_area new_name)) []))) 7 (change.Make root new_name (object 9) File)
a_create_makes_the_file_9 = record { object = root_entry; led = refl; named = refl }

-- the change makes the object 9
abbrev pub makes_9 : Option Change → Bool
makes_9 (Some (change.Make dir name of what)) = of.0 == 9
makes_9 other = false

-- the change makes a directory
abbrev pub makes_directory : Option Change → Bool
makes_directory (Some (change.Make dir name of what)) = is_dir what
makes_directory other = false

-- not the file 99
pub a_create_makes_no_file_99 : Names plan creates (work_of (name_line new_name ∷ at_each look_root (at_each (lock (name_area new_name)) []))) 7 (change.Make root new_name (object 99) File) → ⊥
a_create_makes_no_file_99 names = told_apart makes_9 _ _ refl refl names.named

-- and no directory
pub a_create_makes_no_directory : Names plan creates (work_of (name_line new_name ∷ at_each look_root (at_each (lock (name_area new_name)) []))) 7 (change.Make root new_name (object 9) Dir) → ⊥
a_create_makes_no_directory names = told_apart makes_directory _ _ refl refl (sym names.named)

-- an rmdir removes its name from the root, though its path stands at the child
pub an_rmdir_removes_from_the_root : Names plan removes (work_of child_found) 15 (change.Remove root new_name Dir)
an_rmdir_removes_from_the_root = record { object = root_entry; led = refl; named = refl }

-- an unlink removes the name that its words name
pub an_unlink_removes_its_name : Names plan (command.Unlink file_path) (work_of led_to_file) 4 (change.Remove root file_name File)
an_unlink_removes_its_name = record { object = root_entry; led = refl; named = refl }

-- the change removes the name of the file
abbrev pub removes_file : Option Change → Bool
removes_file (Some (change.Remove dir name what)) = name.0 == 0
removes_file begun = false

-- and no other
pub an_unlink_removes_no_other_name : Names plan (command.Unlink file_path) (work_of led_to_file) 4 (change.Remove root new_name File) → ⊥
an_unlink_removes_no_other_name names = told_apart removes_file _ _ refl refl names.named

-- an attempt begins
pub an_attempt_begins : KeepsTo plan writes (begin write_change) 10 (work_of ready)
an_attempt_begins = (refl, record { object = file_entry; led = refl; named = refl })

-- and not twice
pub no_second_attempt : KeepsTo plan writes (begin write_change) 11 (work_of (begin write_change ∷ ready)) → ⊥
no_second_attempt keeps = passes keeps.0

-- a command begins no heal
pub a_command_heals_nothing : KeepsTo plan writes (HealBegin client file Bytes) 10 (work_of ready) → ⊥
a_command_heals_nothing keeps = keeps

-- ---- turns
-- the client looks at the root
pub the_client_looks : IsTurnOf false plan 1 (look_root 0) []
the_client_looks = record { actor = IsActor.Client (omega arith) (omega arith); alive = refl; keeps = KeepsToTask.ToCommand writes refl tt }

-- no client has the number 2
pub no_second_client : IsTurnOf false plan 2 (look_root 0) [] → ⊥
no_second_client turn = nobody turn.actor
  where
    nobody : IsActor plan 2 → ⊥
    nobody (IsActor.Client least most) = absurd (omega (arith, most))
    nobody (IsActor.Healer least most) = absurd (omega (arith, least))

-- a killed client writes nothing
pub no_line_after_a_kill : IsTurnOf false plan 1 (look_root 0) (line_of.Event (event.Kill client) ∷ []) → ⊥
no_line_after_a_kill turn = passes turn.alive

-- a client that has ended its last command does neither
pub no_line_after_the_last_end : KeepsToTask false plan 1 (look_root 0) (ends (reply.Ok good.Done) ∷ []) → ⊥
no_line_after_the_last_end (KeepsToTask.ToCommand command has_it keeps) = from_none _ has_it
no_line_after_the_last_end (KeepsToTask.ToRound plain healer b has_it keeps) = absurd (omega (arith, healer))
no_line_after_the_last_end (KeepsToTask.ToCrawl crawls first b has_it keeps) = absurd (omega (arith, first))
no_line_after_the_last_end (KeepsToTask.ToItem crawls healer item given keeps) = absurd (omega (arith, healer))

-- the healer asks the index of its round's brick
pub the_healer_asks_its_index : KeepsToTask false plan 17 (heal_ask 0 request.Index told.Given) []
the_healer_asks_its_index = KeepsToTask.ToRound refl (omega arith) (brick 0) refl (refl, refl)

-- ---- events
-- brick 2 is stopped after three lines
abbrev pub stops : PlannedEvent
stops = record { at = 3; event = event.Stop (brick 2) }

-- the plan with that event
abbrev pub stopping : Plan
stopping = record plan { events = stops ∷ [] }

-- after two lines nothing is due
pub nothing_is_due_early : NoneDue stopping (look_root 1 ∷ look_root 0 ∷ [])
nothing_is_due_early planned same = from_some (λ it. 2 < it.at) stops planned (omega arith) same

-- after three lines the event is, until it has come
pub the_event_is_due : NoneDue stopping (at_each look_root []) → ⊥
the_event_is_due none = absurd (omega (arith, none stops refl))

-- it comes then
pub it_comes_when_due : IsNextEvent stopping (event.Stop (brick 2)) (at_each look_root [])
it_comes_when_due = record { planned = stops; next = refl; same = refl; due = omega arith }

-- and not before
pub it_does_not_come_early : IsNextEvent stopping (event.Stop (brick 2)) [] → ⊥
it_does_not_come_early next = from_some (λ it. it.at ≤ 0 → ⊥) stops next.planned (λ early. absurd (omega (arith, early))) next.next next.due

-- ---- lines
-- the first line of a run
pub the_first_look_follows : Follows false plan (look_root 0 ∷ [])
the_first_look_follows = ((omega arith, (the_client_looks, λ planned same. from_none planned same)), tt)

-- a line past the plan's last turn
pub no_line_past_the_turns : IsFollowing false (record plan { turns = 0 }) (look_root 0) [] → ⊥
no_line_past_the_turns following = absurd (omega (arith, following.0))

-- a line in place of the event that is due
pub no_line_before_the_event : IsFollowing false stopping (look_root 0) (at_each look_root []) → ⊥
no_line_before_the_event following = the_event_is_due following.1.1

-- so is a log with such a line
pub a_log_past_the_turns : Follows false (record plan { turns = 0 }) (look_root 0 ∷ []) → ⊥
a_log_past_the_turns follows = no_line_past_the_turns follows.0
