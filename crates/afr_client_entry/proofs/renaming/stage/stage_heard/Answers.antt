use Rattle.std.proofs.Common.{◌≡◌, false, None, sym, subst, ◌∙◌}
use Rattle.afr_client_walk.specs.Choosing.{reader_of}
use Rattle.afr_client_entry.specs.Renames.Rename.{IsRename, is_over}
use Rattle.afr_client_entry.specs.declared.renaming.stage.RenameStage.{RenameStage}
use Rattle.afr_client_entry.proofs.Renames.HeardLemmas.{first_leaves, making_kept, removing_kept, second_kept, second_leaves, turn_heard, turn_kept}
use Rattle.afr_client_entry.proofs.renaming.stage.stage_heard.Goals as goal

pub after_second-requires : goal.after_second-requires
after_second-requires g c =
    second_kept g.G.Fn c.args.rule.now c.args.paths.now c.hear-picked.result c.args.answer.now c.args.at c.hear-picked.new.self (subst (λ (stage : RenameStage). IsRename c.args.paths.now stage) c.in-Walking.is c.requires.sound)
    c.hear-picked.ensures.picked c.hear-picked.ensures.value

pub returns-then-is_done-clause-stage : goal.returns-then-is_done-clause-stage
returns-then-is_done-clause-stage g c =
    turn_heard (reader_of None) c.args.paths.now c.in-Making.making c.in-Making.found c.args.stage.now c.removes.result c.told_of.result c.args.answer.now c.args.at
    c.in-Making.is (sym c.is_done.ensures ∙ c.if-is_done.true) c.told_of.ensures c.removes.ensures

pub returns-then-is_done-clause-kept : goal.returns-then-is_done-clause-kept
returns-then-is_done-clause-kept g c =
    turn_kept c.args.paths.now c.in-Making.making c.in-Making.found c.removes.result c.told_of.result c.args.at
    (subst (λ (stage : RenameStage). IsRename c.args.paths.now stage) c.in-Making.is c.requires.sound) (sym c.is_done.ensures ∙ c.if-is_done.true) c.removes.ensures

pub returns-in-Finding-clause-kept : goal.returns-in-Finding-clause-kept
returns-in-Finding-clause-kept g c = first_leaves c.first_heard-picked.new.paths c.after_first.result c.first_heard-picked.ensures.kept c.after_first.ensures

pub returns-in-Walking-clause-kept : goal.returns-in-Walking-clause-kept
returns-in-Walking-clause-kept g c =
    let k = subst (λ (stage : RenameStage). IsRename c.args.paths.now stage) c.in-Walking.is c.requires.sound in
    second_leaves (record c.args.paths.now { second = c.hear-picked.new.self }) c.after_second.result
    (second_kept g.G.Fn c.args.rule.now c.args.paths.now c.hear-picked.result c.args.answer.now c.args.at c.hear-picked.new.self k c.hear-picked.ensures.picked c.hear-picked.ensures.value) k.sound.1 c.after_second.ensures

pub returns-else-is_done-clause-kept : goal.returns-else-is_done-clause-kept
returns-else-is_done-clause-kept g c =
    making_kept g.G.Fn c.args.rule.now c.args.paths.now c.in-Making.making c.heard_under-after.new.transaction c.in-Making.found c.heard_under-after.result.0 c.heard_under-after.result.1
    c.against_new-why.result c.reads_new-asked.result c.told_of-told.result c.args.answer.now c.args.at (subst (λ (stage : RenameStage). IsRename c.args.paths.now stage) c.in-Making.is c.requires.sound)
    (subst (λ (stage : RenameStage). is_over stage ≡ false) c.in-Making.is c.requires.more) (sym c.is_done.ensures ∙ c.if-is_done.false) c.against_new-why.ensures c.reads_new-asked.ensures c.told_of-told.ensures
    c.heard_under-after.ensures.transaction c.heard_under-after.ensures.found c.heard_under-after.ensures.picked

pub returns-in-Removing-clause-kept : goal.returns-in-Removing-clause-kept
returns-in-Removing-clause-kept g c =
    removing_kept g.G.Fn c.args.rule.now c.args.paths.now c.in-Removing.removing c.heard_under-after-in-Removing.new.transaction c.in-Removing.found c.heard_under-after-in-Removing.result.0 c.heard_under-after-in-Removing.result.1
    c.against_old-why.result c.reads_old-asked.result c.told_of-told-in-Removing.result c.args.answer.now c.args.at (subst (λ (stage : RenameStage). IsRename c.args.paths.now stage) c.in-Removing.is c.requires.sound)
    (subst (λ (stage : RenameStage). is_over stage ≡ false) c.in-Removing.is c.requires.more) c.against_old-why.ensures c.reads_old-asked.ensures c.told_of-told-in-Removing.ensures
    c.heard_under-after-in-Removing.ensures.transaction c.heard_under-after-in-Removing.ensures.found c.heard_under-after-in-Removing.ensures.picked
