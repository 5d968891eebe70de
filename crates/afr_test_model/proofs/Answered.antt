-- The end of a command: replies that have their cause, and some that have none.
use Rattle.std.specs.Prelude.{◌≡◌, ◌⊎◌, ◌==◌, Bool, true, false, [], ◌∷◌, Option, Some, None, refl}
use Rattle.std.proofs.Common.{arith, inl, inr, subst, sym}
use Rattle.afr_base.specs.declared.ids.Kind.TheVariants.{Bytes}
use Rattle.afr_lines.specs.declared.answer.Told.TheVariants as told
use Rattle.afr_lines.specs.declared.reply.Good.TheVariants as good
use Rattle.afr_lines.specs.declared.reply.Reply.{Reply}
use Rattle.afr_lines.specs.declared.reply.Reply.TheVariants as reply
use Rattle.afr_lines.specs.declared.request.Request.TheVariants as request
use Rattle.afr_plan.specs.declared.command.Command.{Command}
use Rattle.afr_plan.specs.declared.command.Command.TheVariants as command
use Rattle.afr_object.specs.Tables.{root}
use Rattle.afr_choice.specs.Looks.{view_at}
use Rattle.afr_choice.specs.Verdict.{good_copies}
use Rattle.afr_choice.specs.declared.looked.Looked.{Looked}
use Rattle.afr_object.specs.declared.entry.View.{View}
use Rattle.afr_model.specs.Moved.{len_in}
use Rattle.afr_model.specs.Showing.{At, NotAsked, Path, Reading, begins_attempt, has, is_faulted, looked_by, refuses_read}
use Rattle.afr_model.specs.Answered.{IsAnswered, IsAsked, IsCaused, IsStat, answer}
use Rattle.afr_test_model.proofs.Means.{each_of_three, fails, from_none, told_apart}
use Rattle.afr_test_model.proofs.Skipped.{a_write_skips_nothing}
use Rattle.afr_test_model.proofs.Skipping.{all_looked, from_members}
use Rattle.afr_test_model.proofs.Words.{child_area, child_entry, child_found, child_listed, look_child, name_area, name_line, new_name, removes, plan, work_of, file, file_entry, file_name, file_path, file_view, creates, reads, writes, write_change, led_to_file, ask, at_each, begin, pre, apply, post, lock, look_root, look_file, look_failed, ready, written}

-- ---- tests of replies
-- the reply is ok
abbrev pub is_ok : Reply → Bool
is_ok (reply.Ok given) = true
is_ok other = false

-- the reply is no-quorum
abbrev pub is_no_quorum : Reply → Bool
is_no_quorum reply.NoQuorum = true
is_no_quorum other = false

-- the command is a stat
abbrev pub is_stat_command : Command → Bool
is_stat_command (command.Stat path) = true
is_stat_command other = false

-- the answer is ok
abbrev pub is_ok_answer : Option Reply → Bool
is_ok_answer (Some said) = is_ok said
is_ok_answer None = false

-- a path that has read no name
abbrev pub is_at_the_root : Path → Bool
is_at_the_root (At read entry) = read == 0
is_at_the_root path = false

-- ---- answers
-- a write closed at each brick
pub a_closed_write_answers_ok : answer plan writes (work_of written) ≡ Some (reply.Ok good.Done)
a_closed_write_answers_ok = refl

-- one closed at a single brick
pub a_write_closed_once_answers_failed : answer plan writes (work_of (post 10 file Bytes [] 0 ∷ at_each (apply 10) (at_each (pre file Bytes) (begin write_change ∷ ready)))) ≡ Some reply.Failed
a_write_closed_once_answers_failed = refl

-- one that hasn't begun has no answer
pub a_write_not_begun_has_no_answer : answer plan writes (work_of ready) ≡ None
a_write_not_begun_has_no_answer = refl

-- a read gives what the copy showed: the opening file is empty
pub a_read_gives_what_was_shown : answer plan reads (work_of (ask 0 (request.ReadBytes file 0 5) told.Given ∷ at_each look_file led_to_file)) ≡ Some (reply.Ok (good.Bytes []))
a_read_gives_what_was_shown = refl

-- ---- what was asked before a Begin
-- a write of five bytes has something to write
pub a_write_of_bytes_is_asked : IsAsked plan writes (work_of ready)
a_write_of_bytes_is_asked = omega arith

-- one of none begins nothing
pub a_write_of_nothing_is_not : IsAsked plan (command.Write file_path 0 []) (work_of led_to_file) → ⊥
a_write_of_nothing_is_not asked = absurd (omega (arith, asked))

-- a create has found no such name
pub a_create_of_a_free_name_is_asked : IsAsked plan creates (work_of (name_line new_name ∷ at_each look_root (at_each (lock (name_area new_name)) [])))
a_create_of_a_free_name_is_asked = refl

-- one that hasn't asked isn't ready
pub a_create_that_asked_no_name_is_not : IsAsked plan creates (work_of (at_each look_root (at_each (lock (name_area new_name)) []))) → ⊥
a_create_that_asked_no_name_is_not asked = told_apart is_at_the_root _ _ refl refl asked

-- an unlink has found its name
pub an_unlink_of_a_name_is_asked : IsAsked plan (command.Unlink file_path) (work_of led_to_file)
an_unlink_of_a_name_is_asked = (file_entry, refl)

-- one that hasn't asked isn't ready
pub an_unlink_that_asked_no_name_is_not : IsAsked plan (command.Unlink file_path) (work_of (at_each look_root [])) → ⊥
an_unlink_that_asked_no_name_is_not asked = told_apart is_at_the_root _ _ refl refl asked.1

-- an rmdir has found its child without names
pub an_rmdir_of_an_empty_child_is_asked : IsAsked plan removes (work_of child_listed)
an_rmdir_of_an_empty_child_is_asked = ((child_entry, refl), refl)

-- nothing was read
abbrev pub is_unread : Reading → Bool
is_unread NotAsked = true
is_unread reading = false

-- one that hasn't listed it isn't ready
pub an_rmdir_that_listed_nothing_is_not : IsAsked plan removes (work_of (at_each look_child (at_each (lock child_area) child_found))) → ⊥
an_rmdir_that_listed_nothing_is_not asked = told_apart is_unread _ _ refl refl asked.1

-- ---- a stat
-- the entry found and the length in a good view
pub a_stat_of_an_empty_file : IsStat plan file_entry (work_of (at_each look_file led_to_file)) (reply.Ok (good.Stat file_entry 0))
a_stat_of_an_empty_file = record { brick = 2; view = file_view; is_good = refl; seen = refl; gives = refl }

-- a length of 0, in a reply to a stat
abbrev pub is_stat_of_0 : Reply → Bool
is_stat_of_0 (reply.Ok (good.Stat entry len)) = len == 0
is_stat_of_0 other = false

-- a length that no good copy showed
pub no_stat_of_another_length : IsStat plan file_entry (work_of (at_each look_file led_to_file)) (reply.Ok (good.Stat file_entry 7)) → ⊥
no_stat_of_another_length stat = told_apart is_stat_of_0 (reply.Ok (good.Stat file_entry stat.view.len)) (reply.Ok (good.Stat file_entry 7)) empty refl (sym stat.gives)
  where
    looks : Looked
    looks = looked_by file (work_of (at_each look_file led_to_file))

    empty : (stat.view.len == 0) ≡ true
    empty = subst (λ (seen : Option View). (len_in seen == 0) ≡ true) stat.seen (from_members (λ b. len_in (view_at b looks) == 0) (good_copies plan.shape looks Bytes) refl stat.brick stat.is_good)

-- ---- causes
-- too few looks answer no-quorum
pub few_looks_cause_no_quorum : IsCaused plan writes (work_of (look_failed root 2 ∷ look_failed root 1 ∷ look_root 0 ∷ [])) reply.NoQuorum
few_looks_cause_no_quorum = IsCaused.Refuses refl

-- a write that goes on and has begun nothing can't answer ok
pub nothing_causes_an_early_ok : IsCaused plan writes (work_of ready) (reply.Ok good.Done) → ⊥
nothing_causes_an_early_ok (IsCaused.Refuses refuses) = from_none _ refuses
nothing_causes_an_early_ok (IsCaused.Answers goes_on entry led answers) = from_none _ answers
nothing_causes_an_early_ok (IsCaused.Stats goes_on path stats entry led stat) = told_apart is_stat_command _ _ refl refl (sym stats)

-- ---- ends
-- a write closed at each brick ends with ok
pub a_closed_write_ends_with_ok : IsAnswered plan writes (work_of written) (reply.Ok good.Done)
a_closed_write_ends_with_ok = record {
  caused = IsCaused.Answers refl file_entry refl refl;
  asked = λ views. fails views;
  failed = λ same. absurd (told_apart is_ok _ _ refl refl same);
  undisturbed = λ begun calm. refl;
  whole = a_write_skips_nothing;
}

-- it can't end with failed: nothing failed
pub a_closed_write_does_not_end_with_failed : IsAnswered plan writes (work_of written) reply.Failed → ⊥
a_closed_write_does_not_end_with_failed answered = cause (answered.failed refl)
  where
    cause : (has begins_attempt (work_of written) ≡ true) × (is_faulted (work_of written) ≡ true) ⊎ (has refuses_read (work_of written) ≡ true) → ⊥
    cause (inl faulted) = fails faulted.1
    cause (inr refused) = fails refused

-- no-quorum after every brick was asked
pub no_quorum_after_asking_all : IsAnswered plan writes (work_of (look_failed root 2 ∷ look_failed root 1 ∷ look_root 0 ∷ [])) reply.NoQuorum
no_quorum_after_asking_all = record {
  caused = IsCaused.Refuses refl;
  asked = λ views. each_of_three _ refl;
  failed = λ same. absurd (told_apart is_no_quorum _ _ refl refl same);
  undisturbed = λ begun calm. fails begun;
  whole = record { looked = all_looked 3 (work_of (look_failed root 2 ∷ look_failed root 1 ∷ look_root 0 ∷ [])) refl; locked = λ area part locked. fails locked; child = λ rmdir. fails rmdir; carried = λ change same. from_none _ same };
}

-- no-quorum that asked nobody
pub no_quorum_that_asked_nobody : IsAnswered plan writes (work_of []) reply.NoQuorum → ⊥
no_quorum_that_asked_nobody answered = fails (answered.asked refl 0 (omega arith))

-- ---- further ends
-- ok after one post-op
pub no_ok_after_one_post : IsCaused plan writes (work_of (post 10 file Bytes [] 0 ∷ at_each (apply 10) (at_each (pre file Bytes) (begin write_change ∷ ready)))) (reply.Ok good.Done) → ⊥
no_ok_after_one_post (IsCaused.Refuses refuses) = from_none _ refuses
no_ok_after_one_post (IsCaused.Answers goes_on entry led answers) = told_apart is_ok_answer _ _ refl refl (sym answers)
no_ok_after_one_post (IsCaused.Stats goes_on path stats entry led stat) = told_apart is_stat_command _ _ refl refl (sym stats)

-- a write of no bytes answers at its path's end
pub a_write_of_nothing_ends_at_the_file : IsCaused plan (command.Write file_path 0 []) (work_of led_to_file) (reply.Ok good.Done)
a_write_of_nothing_ends_at_the_file = IsCaused.Answers refl file_entry refl refl

-- and not before it
pub a_write_of_nothing_does_not_end_on_its_way : IsCaused plan (command.Write file_path 0 []) (work_of (at_each look_root [])) (reply.Ok good.Done) → ⊥
a_write_of_nothing_does_not_end_on_its_way (IsCaused.Refuses refuses) = from_none _ refuses
a_write_of_nothing_does_not_end_on_its_way (IsCaused.Answers goes_on entry led answers) = told_apart is_at_the_root _ _ refl refl led
a_write_of_nothing_does_not_end_on_its_way (IsCaused.Stats goes_on path stats entry led stat) = told_apart is_stat_command _ _ refl refl (sym stats)

-- a create of a free name has no reason to answer exists
pub a_free_name_does_not_cause_exists : IsCaused plan creates (work_of (name_line new_name ∷ at_each look_root (at_each (lock (name_area new_name)) []))) reply.Exists → ⊥
a_free_name_does_not_cause_exists (IsCaused.Refuses refuses) = from_none _ refuses
a_free_name_does_not_cause_exists (IsCaused.Answers goes_on entry led answers) = from_none _ answers
a_free_name_does_not_cause_exists (IsCaused.Stats goes_on path stats entry led stat) = told_apart is_stat_command _ _ refl refl (sym stats)

-- failed after the looks alone
pub failed_at_once_has_no_cause : IsAnswered plan writes (work_of (at_each look_root [])) reply.Failed → ⊥
failed_at_once_has_no_cause answered = cause (answered.failed refl)
  where
    cause : (has begins_attempt (work_of (at_each look_root [])) ≡ true) × (is_faulted (work_of (at_each look_root [])) ≡ true) ⊎ (has refuses_read (work_of (at_each look_root [])) ≡ true) → ⊥
    cause (inl faulted) = fails faulted.0
    cause (inr refused) = fails refused

-- failed after a name that was refused
pub a_refused_name_ends_a_write : IsAnswered plan writes (work_of (ask 0 (request.ReadName root file_name) told.Failed ∷ at_each look_root [])) reply.Failed
a_refused_name_ends_a_write = record {
  caused = IsCaused.Refuses refl;
  asked = λ views. fails views;
  failed = λ same. inr refl;
  undisturbed = λ begun calm. fails begun;
  whole = record { looked = all_looked 3 (work_of (ask 0 (request.ReadName root file_name) told.Failed ∷ at_each look_root [])) refl; locked = λ area part locked. fails locked; child = λ rmdir. fails rmdir; carried = λ change same. from_none _ same };
}
