-- Lines of a task, and a line of none.
use Rattle.std.specs.Prelude.{[], ◌∷◌, refl}
use Rattle.std.proofs.Common.{arith}
use Rattle.afr_object.specs.declared.change.Repair.TheVariants.{CutTo}
use Rattle.afr_lines.specs.declared.answer.Told.TheVariants as told
use Rattle.afr_lines.specs.declared.reply.Reply.TheVariants as reply
use Rattle.afr_lines.specs.declared.request.Request.TheVariants as request
use Rattle.afr_model.specs.Replied.{IsOf, IsOfTask, Replied}
use Rattle.afr_test_model.proofs.Answered.{no_quorum_that_asked_nobody}
use Rattle.afr_test_model.proofs.Means.{from_none, from_some}
use Rattle.afr_test_model.proofs.Words.{ask, client, ends, file, look_root, plan, work_of, writes}

-- a look at the root is of the client's command
pub a_look_is_of_the_command : IsOfTask plan client (look_root 0) []
a_look_is_of_the_command = record {
  command = λ command same. from_some (λ it. IsOf plan it (look_root 0) (work_of [])) writes command (record { unbegun = refl; unread = refl; object = refl; locked = λ area locks. from_none area locks }) same;
  round = λ healer. absurd (omega (arith, healer));
}

-- so is a log of that line
pub a_log_of_one_look : Replied plan (look_root 0 ∷ [])
a_log_of_one_look = (a_look_is_of_the_command, tt)

-- a mend is of no command
pub a_mend_is_of_no_command : IsOfTask plan client (ask 0 (request.Mend (CutTo file 0)) told.Done) [] → ⊥
a_mend_is_of_no_command task = task.command writes refl

-- a log whose only line answers no-quorum
pub a_log_of_one_reply : Replied plan (ends reply.NoQuorum ∷ []) → ⊥
a_log_of_one_reply replied = no_quorum_that_asked_nobody (replied.0.command writes refl)
