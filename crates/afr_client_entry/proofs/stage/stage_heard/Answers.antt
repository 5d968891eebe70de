use Rattle.std.proofs.Common.{◌≡◌, false, sym, subst, ◌∙◌, Option}
use Rattle.afr_base.specs.declared.ids.Gfid.{Gfid}
use Rattle.afr_client_walk.specs.Choosing.{RuleAnswers, reader_of}
use Rattle.afr_client_walk.proofs.ChoosingLemmas.{answers_among}
use Rattle.afr_client_entry.specs.Entry.{IsEntry, choices_at, found_after, is_over, or_removes, progress_after}
use Rattle.afr_client_entry.specs.declared.stage.EntryStage.{EntryStage}
use Rattle.afr_client_entry.specs.declared.stage.EntryStage.TheVariants.{Changing, Removes}
use Rattle.afr_client_entry.proofs.EntryLemmas.{found_to_remove, kept_answer}
use Rattle.afr_client_entry.proofs.stage.stage_heard.Goals as goal

pub removes-requires : goal.removes-requires
removes-requires g c =
    rw c.change_heard-after.ensures.transaction
    (found_to_remove c.in-Changing.found c.args.answer.now c.args.at c.args.walk.now c.args.job c.in-Changing.transaction c.in-Some.child
    (subst (λ (stage : EntryStage). IsEntry c.args.walk.now c.args.job stage) c.in-Changing.is c.requires.sound).ready (sym c.child_after-child.ensures ∙ c.in-Some.is))

pub returns-in-Some-clause-kept : goal.returns-in-Some-clause-kept
returns-in-Some-clause-kept g c =
    rw (c.removes.ensures, c.change_heard-after.ensures.transaction)
    (subst
    (λ (o : Option Gfid). IsEntry c.args.walk.now c.args.job (or_removes o (progress_after c.in-Changing.found c.args.answer.now c.args.at c.args.job c.args.walk.now c.in-Changing.transaction) (found_after (reader_of c.change_heard-after.result.1) c.in-Changing.found c.args.answer.now c.args.job c.in-Changing.transaction.stage)))
    (sym c.child_after-child.ensures ∙ c.in-Some.is)
    (kept_answer (reader_of c.change_heard-after.result.1) (Changing c.in-Changing.transaction c.in-Changing.found) c.args.answer.now c.args.at c.args.walk.now c.args.job
    (subst (λ (stage : EntryStage). IsEntry c.args.walk.now c.args.job stage) c.in-Changing.is c.requires.sound) (subst (λ (stage : EntryStage). is_over stage ≡ false) c.in-Changing.is c.requires.more)
    (answers_among g.G.Fn c.args.rule.now _ c.change_heard-after.result.1 c.change_heard-after.ensures.picked)))

pub returns-in_default-clause-kept : goal.returns-in_default-clause-kept
returns-in_default-clause-kept g c =
    rw (c.change_heard-after.ensures.transaction, c.change_heard-after.ensures.found)
    (subst
    (λ (o : Option Gfid). IsEntry c.args.walk.now c.args.job (or_removes o (progress_after c.in-Changing.found c.args.answer.now c.args.at c.args.job c.args.walk.now c.in-Changing.transaction) (found_after (reader_of c.change_heard-after.result.1) c.in-Changing.found c.args.answer.now c.args.job c.in-Changing.transaction.stage)))
    (sym c.child_after-child.ensures ∙ c.in_default.is)
    (kept_answer (reader_of c.change_heard-after.result.1) (Changing c.in-Changing.transaction c.in-Changing.found) c.args.answer.now c.args.at c.args.walk.now c.args.job
    (subst (λ (stage : EntryStage). IsEntry c.args.walk.now c.args.job stage) c.in-Changing.is c.requires.sound) (subst (λ (stage : EntryStage). is_over stage ≡ false) c.in-Changing.is c.requires.more)
    (answers_among g.G.Fn c.args.rule.now _ c.change_heard-after.result.1 c.change_heard-after.ensures.picked)))

pub returns-in-Removes-clause-picked : goal.returns-in-Removes-clause-picked
returns-in-Removes-clause-picked g c =
    subst (λ (stage : EntryStage). RuleAnswers g.G.Fn c.args.rule.now (choices_at stage c.args.answer.now c.args.at c.args.walk.now) c.removal_heard.result) (sym c.in-Removes.is) c.removal_heard.ensures.picked

pub returns-in-Removes-clause-kept : goal.returns-in-Removes-clause-kept
returns-in-Removes-clause-kept g c =
    rw c.removal_heard.ensures.value
    (kept_answer (reader_of c.removal_heard.result) (Removes c.in-Removes.removal) c.args.answer.now c.args.at c.args.walk.now c.args.job (subst (λ (stage : EntryStage). IsEntry c.args.walk.now c.args.job stage) c.in-Removes.is c.requires.sound)
    (subst (λ (stage : EntryStage). is_over stage ≡ false) c.in-Removes.is c.requires.more) (answers_among g.G.Fn c.args.rule.now _ c.removal_heard.result c.removal_heard.ensures.picked))
