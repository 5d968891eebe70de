-- What a transaction ends with, by the bricks that did its phases.
use Rattle.std.specs.Prelude.{not, if◌then◌else◌, List, Option}
use Rattle.afr_base.specs.Bricks.{is_nothing}
use Rattle.afr_base.specs.Majority.{is_majority}
use Rattle.afr_object.specs.declared.change.Change.{Change}
use Rattle.afr_object.specs.declared.entry.View.{View}
use Rattle.afr_choice.specs.Verdict.{holders_of, good_copies}
use Rattle.afr_lines.specs.Areas.{kind_for}
use Rattle.afr_lines.specs.declared.reply.Good.TheVariants as good
use Rattle.afr_lines.specs.declared.reply.Reply.{Reply}
use Rattle.afr_lines.specs.declared.reply.Reply.TheVariants as reply
use Rattle.afr_discipline.specs.declared.register.Register.{Register}
use Rattle.afr_client_transaction.specs.declared.reply.Cause.{Cause}
use Rattle.afr_client_transaction.specs.declared.reply.Cause.TheVariants as cause
use Rattle.afr_client_transaction.specs.declared.reply.TransactionOutcome.{TransactionOutcome}
use Rattle.afr_client_transaction.specs.declared.reply.TransactionOutcome.TheVariants.{Acknowledged, NoQuorum, FewCopies, SplitBrain, Failed}

-- fewer than a majority were locked and answered the lookup; fewer than a majority have a copy; no copy is good; a
-- majority has done post-op; or too few bricks have done a phase
abbrev pub outcome_of : Change → Register → TransactionOutcome
outcome_of change r =
    if not (is_majority r.shape.n r.looked.reached) then NoQuorum
    else (if not (is_majority r.shape.n (holders_of r.looked)) then FewCopies
    else (if is_nothing (good_copies r.shape r.looked (kind_for change)) then SplitBrain r.looked.views
    else (if is_majority r.shape.n r.post then Acknowledged else Failed)))

-- the same of its cause, with the views of a split brain
abbrev pub outcome_by : Cause → List (Option View) → TransactionOutcome
outcome_by cause.Acknowledged views = Acknowledged
outcome_by cause.NoQuorum views = NoQuorum
outcome_by cause.FewCopies views = FewCopies
outcome_by cause.SplitBrain views = SplitBrain views
outcome_by cause.Failed views = Failed

-- the reply of a work that is one transaction
abbrev pub reply_for : TransactionOutcome → Reply
reply_for Acknowledged = reply.Ok good.Done
reply_for NoQuorum = reply.NoQuorum
reply_for FewCopies = reply.FewCopies
reply_for (SplitBrain views) = reply.SplitBrain views
reply_for Failed = reply.Failed

-- the reply that the sets give
abbrev pub reply_of : Change → Register → Reply
reply_of change r = reply_for (outcome_of change r)
