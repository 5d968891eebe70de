-- The replies of heals and rounds: each with its cause, and some without.
use Rattle.std.specs.Prelude.{◌≡◌, ◌==◌, ◌||◌, Bool, true, false, [], ◌∷◌, Option, Some, None, refl}
use Rattle.std.proofs.Common.{arith, sym}
use Rattle.afr_base.specs.Bricks.{below, member}
use Rattle.afr_base.specs.declared.ids.Kind.TheVariants.{Bytes, Attrs}
use Rattle.afr_base.specs.declared.marks.Marks.{Marks}
use Rattle.afr_lines.specs.declared.answer.Told.TheVariants as told
use Rattle.afr_lines.specs.declared.line.Line.TheVariants.{End}
use Rattle.afr_lines.specs.declared.reply.Good.TheVariants as good
use Rattle.afr_lines.specs.declared.reply.HealReply.{HealReply}
use Rattle.afr_lines.specs.declared.reply.HealReply.TheVariants as healed
use Rattle.afr_lines.specs.declared.reply.Reply.{Reply}
use Rattle.afr_lines.specs.declared.reply.Reply.TheVariants as reply
use Rattle.afr_lines.specs.declared.request.Area.TheVariants.{Range}
use Rattle.afr_lines.specs.declared.request.Request.TheVariants as request
use Rattle.afr_lines.specs.declared.lock.Domain.TheVariants as domain
use Rattle.afr_model.specs.HealReplies.{IsHealAnswered, IsHealAsked, IsHealing, IsSettling, heal_reply}
use Rattle.afr_model.specs.Healing.{changed_by, first_by, less_at, source_of, whole_of}
use Rattle.afr_model.specs.Moved.{moved_by}
use Rattle.afr_model.specs.Showing.{among}
use Rattle.afr_model.specs.Standing.{getting}
use Rattle.afr_test_model.proofs.HealWords.{attrs_healed, heal_ends, heal_lock, heal_look, heal_of, heals, less_0, less_1, less_2, listed, locked, moved, opened, raise, raised, round_of, settle, settled, shown, work_lock, wrote}
use Rattle.afr_test_model.proofs.Means.{each_of_three, fails, is_none, passes, told_apart}
use Rattle.afr_test_model.proofs.Skipping.{from_members}
use Rattle.afr_test_model.proofs.Words.{at_each, at_two, file, heal_ask, healer, other, plan}

-- ---- what the lines of a heal show
-- the source is the copy on which no number was raised
pub the_source_is_brick_0 : source_of plan.shape Bytes (heal_of raised) ≡ 0
the_source_is_brick_0 = refl

-- the others are replaced
pub the_others_are_replaced : changed_by plan.shape Bytes (heal_of raised) ≡ 1 ∷ 2 ∷ []
the_others_are_replaced = refl

-- brick 1 takes back what it has against brick 2, and the number that the heal raised
pub what_brick_1_takes_back : less_at plan.shape Bytes (heal_of raised) 1 ≡ less_1
unfolding below
what_brick_1_takes_back = refl

-- a later look at which brick 1 accuses the source shows that it moved
pub a_later_accusation_shows_a_move : moved_by plan.shape file Bytes (heal_of moved) ≡ Some 1
a_later_accusation_shows_a_move = refl

-- the first looks can't
pub the_first_looks_show_no_move : moved_by plan.shape file Bytes (heal_of raised) ≡ None
the_first_looks_show_no_move = refl

-- later looks leave the first ones
pub later_looks_leave_the_first : (first_by (heal_of moved)).looked ≡ (first_by (heal_of raised)).looked
later_looks_leave_the_first = refl

-- a brick that failed the first lock is missing
pub a_failed_lock_is_missing : (first_by (heal_of (heal_lock told.Failed 0 ∷ attrs_healed))).missing ≡ 0 ∷ []
a_failed_lock_is_missing = refl

-- where brick 2 has no copy, the open operations of brick 0 stay
pub without_all_holders_open_operations_stay : less_at plan.shape Bytes (heal_of (raise 1 ∷ heal_look told.NoObject 2 ∷ at_two (heal_look (told.Seen (wrote 2))) (heals Bytes ∷ locked Bytes attrs_healed))) 1 ≡ record { dirty = 0; pending = 0 ∷ 0 ∷ 0 ∷ 0 ∷ 0 ∷ [] }
unfolding below
without_all_holders_open_operations_stay = refl

-- at the finish, with the whole locked, a copy of another length shows a move
pub another_length_at_the_finish_shows_a_move : moved_by plan.shape file Bytes (heal_of (shown (heals Bytes ∷ at_each (work_lock Bytes told.Granted) raised))) ≡ Some 2
another_length_at_the_finish_shows_a_move = refl

-- before the finish it doesn't
pub another_length_before_the_finish_does_not : moved_by plan.shape file Bytes (heal_of (shown (heals Bytes ∷ at_each (λ b. heal_ask b (request.Lock domain.Work (Range file 0 5)) told.Granted) raised))) ≡ None
another_length_before_the_finish_does_not = refl

-- ---- replies
-- another heal holds the lock
pub a_held_lock_is_busy : heal_reply plan.shape file Bytes (heal_of (heal_lock (told.Held other) 0 ∷ attrs_healed)) ≡ Some (healed.Busy other)
a_held_lock_is_busy = refl

-- a majority can't be locked
pub one_lock_of_three_is_short : heal_reply plan.shape file Bytes (heal_of (heal_lock told.Failed 2 ∷ heal_lock told.Failed 1 ∷ heal_lock told.Granted 0 ∷ attrs_healed)) ≡ Some healed.Short
unfolding below
one_lock_of_three_is_short = refl

-- all numbers are 0
pub zero_numbers_are_nothing : heal_reply plan.shape file Attrs (heal_of (opened Attrs listed)) ≡ Some healed.Nothing
unfolding below
zero_numbers_are_nothing = refl

-- two copies accuse each other, and the third is accused
pub accused_copies_answer_split :
    heal_reply plan.shape file Bytes (heal_of (heal_look told.NoObject 2 ∷ heal_look (told.Seen (wrote 0)) 1 ∷ heal_look (told.Seen (wrote 1)) 0 ∷ heals Bytes ∷ locked Bytes attrs_healed))
    ≡ Some (healed.Split (Some (wrote 1) ∷ Some (wrote 0) ∷ None ∷ None ∷ None ∷ []))
unfolding below
accused_copies_answer_split = refl

-- each holder has settled
pub three_settled_are_settled : heal_reply plan.shape file Bytes (heal_of settled) ≡ Some healed.Settled
unfolding below
three_settled_are_settled = refl

-- two of three haven't: the heal failed
pub two_settled_are_failed : heal_reply plan.shape file Bytes (heal_of (settle less_1 1 ∷ settle less_0 0 ∷ raised)) ≡ Some healed.Failed
unfolding below
two_settled_are_failed = refl

-- the source moved
pub a_later_accusation_is_moved : heal_reply plan.shape file Bytes (heal_of moved) ≡ Some (healed.Moved (record { 0 = 1 }))
unfolding below
a_later_accusation_is_moved = refl

-- ---- ends of heals
-- the reply is settled
abbrev pub is_settled_reply : Option HealReply → Bool
is_settled_reply (Some healed.Settled) = true
is_settled_reply reply = false

-- the reply is failed
abbrev pub is_failed_reply : HealReply → Bool
is_failed_reply healed.Failed = true
is_failed_reply reply = false

-- every brick was asked
pub a_settled_heal_asked_all : IsHealAsked plan.shape file Bytes (heal_of settled)
a_settled_heal_asked_all = record {
  locked = each_of_three _ refl;
  worked = λ most b got. got;
  looked = λ most b got. from_members (λ x. member (first_by (heal_of settled)).looked.reached x || member (first_by (heal_of settled)).missing x) (among (getting (whole_of file Bytes)) (heal_of settled)) refl b got;
}

-- brick 2 wasn't asked for the lock
pub two_heal_locks_are_not_all : IsHealAsked plan.shape file Bytes (heal_of (at_two (heal_lock told.Granted) attrs_healed)) → ⊥
two_heal_locks_are_not_all asked = fails (asked.locked 2 (omega arith))

-- brick 2 granted that and wasn't asked for the lock that keeps clients out
pub two_work_locks_are_not_all : IsHealAsked plan.shape file Bytes (heal_of (at_two (work_lock Bytes told.Granted) (at_each (heal_lock told.Granted) attrs_healed))) → ⊥
two_work_locks_are_not_all asked = fails (asked.worked refl 2 refl)

-- a heal that settled says so
pub a_settled_heal_ends_with_settled : IsHealAnswered plan.shape file Bytes (heal_of settled) healed.Settled
a_settled_heal_ends_with_settled = record { caused = three_settled_are_settled; failed = λ same. absurd (told_apart is_failed_reply _ _ refl refl (sym same)); asked = λ free. a_settled_heal_asked_all }

-- and doesn't say that it failed
pub a_settled_heal_does_not_end_with_failed : IsHealAnswered plan.shape file Bytes (heal_of settled) healed.Failed → ⊥
unfolding below
a_settled_heal_does_not_end_with_failed answered = told_apart is_settled_reply _ _ refl refl answered.caused

-- nor can it settle on two of three holders
pub two_of_three_do_not_end_with_settled : IsHealAnswered plan.shape file Bytes (heal_of (settle less_1 1 ∷ settle less_0 0 ∷ raised)) healed.Settled → ⊥
unfolding below
two_of_three_do_not_end_with_settled answered = told_apart is_settled_reply _ _ refl refl (sym answered.caused)

-- a heal that finds another at it needs to ask no more
pub a_busy_heal_may_ask_one_brick : IsHealAnswered plan.shape file Bytes (heal_of (heal_lock (told.Held other) 0 ∷ attrs_healed)) (healed.Busy other)
a_busy_heal_may_ask_one_brick = record { caused = refl; failed = λ same. absurd (told_apart is_failed_reply _ _ refl refl (sym same)); asked = λ free. absurd (told_apart is_none _ _ refl refl (sym free)) }

-- a heal that answers short at once asked nobody
pub short_at_once_asked_nobody : IsHealAnswered plan.shape file Bytes (heal_of attrs_healed) healed.Short → ⊥
short_at_once_asked_nobody answered = fails ((answered.asked refl).locked 0 (omega arith))

-- a settling that was told Failed ends with failed
pub a_failed_settling_ends_with_failed : IsHealAnswered plan.shape file Bytes (heal_of (heal_ask 2 (request.Settle file Bytes less_2) told.Failed ∷ settle less_1 1 ∷ settle less_0 0 ∷ raised)) healed.Failed
unfolding below
a_failed_settling_ends_with_failed = record {
  caused = refl;
  failed = λ same. refl;
  asked = λ free. record {
    locked = each_of_three _ refl;
    worked = λ most b got. got;
    looked = λ most b got. from_members (λ x. member (first_by (heal_of settled)).looked.reached x || member (first_by (heal_of settled)).missing x) (among (getting (whole_of file Bytes)) (heal_of settled)) refl b got;
  };
}

-- failed, though no brick failed
pub no_failed_without_a_failure : IsHealAnswered plan.shape file Bytes (heal_of (settle less_1 1 ∷ settle less_0 0 ∷ raised)) healed.Failed → ⊥
no_failed_without_a_failure answered = fails (answered.failed refl)

-- ---- settling
-- brick 2 takes back what the first looks showed
pub a_settling_of_what_was_seen : IsSettling plan.shape Bytes less_2 2 (heal_of raised)
unfolding below
a_settling_of_what_was_seen = record { holder = refl; once = refl; seen = refl }

-- and not one number more
pub no_settling_of_one_more : IsSettling plan.shape Bytes (record less_2 { dirty = 2 }) 2 (heal_of raised) → ⊥
unfolding below
no_settling_of_one_more settling = told_apart (λ (less : Marks). less.dirty == 2) _ _ refl refl settling.seen

-- nor a second time
pub no_second_settling : IsSettling plan.shape Bytes less_2 2 (heal_of (settle less_2 2 ∷ raised)) → ⊥
no_second_settling settling = passes settling.once

-- ---- rounds
-- the round has failed
abbrev pub is_failed_round : Reply → Bool
is_failed_round reply.Failed = true
is_failed_round said = false

-- a round whose index was given ends with ok
pub a_given_index_ends_with_ok : IsHealing plan.shape (End healer (reply.Ok good.Done)) (round_of (heal_ends Bytes healed.Settled ∷ settled))
a_given_index_ends_with_ok = refl

-- and not with failed
pub a_given_index_does_not_fail : IsHealing plan.shape (End healer reply.Failed) (round_of (heal_ends Bytes healed.Settled ∷ settled)) → ⊥
a_given_index_does_not_fail said = told_apart is_failed_round _ _ refl refl said

-- a round whose index was refused fails
pub a_refused_index_fails : IsHealing plan.shape (End healer reply.Failed) (round_of (heal_ask 0 request.Index told.Failed ∷ []))
a_refused_index_fails = refl
