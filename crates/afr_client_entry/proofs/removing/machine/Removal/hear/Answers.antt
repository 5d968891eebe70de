use Rattle.afr_client_entry.proofs.Removals.AllowedLemmas.{asked_is, asked_small}
use Rattle.afr_client_entry.proofs.Removals.KeptLemmas.{answer_is, noted_outside, some_to_list}
use Rattle.afr_client_entry.proofs.removing.machine.Removal.hear.Goals as goal

pub note-requires-clause-small : goal.note-requires-clause-small
note-requires-clause-small g c = asked_small c.args.self.now (rw (← c.self.view_is) c.self.invariant) c.args.brick c.args.request.now c.requires.asked

pub child_after-self-inside-requires : goal.child_after-self-inside-requires
child_after-self-inside-requires g c = asked_small c.args.self.now (rw (← c.self.view_is) c.self.invariant) c.args.brick c.args.request.now c.requires.asked

pub stage_by-self-inside-requires-clause-outside : goal.stage_by-self-inside-requires-clause-outside
stage_by-self-inside-requires-clause-outside g c =
    noted_outside (record { change = c.self.inside.change; register = c.self.inside.register; stage = c.self.inside.stage; child = c.self.inside.child }) c.args.self.now c.self.view_is c.self.invariant c.requires.more c.requires.asking
    c.args.answer.now c.args.at c.args.brick.0 c.args.request.now c.told_of-told.result c.note.new.register (asked_is c.args.self.now c.args.brick c.args.request.now c.requires.more c.requires.asking c.requires.asked).0 (asked_is c.args.self.now c.args.brick c.args.request.now c.requires.more c.requires.asking c.requires.asked).1 c.told_of-told.ensures c.note.ensures.value

pub picked_at-requires-clause-some : goal.picked_at-requires-clause-some
picked_at-requires-clause-some g c =
    some_to_list (record { change = c.self.inside.change; register = c.self.inside.register; stage = c.self.inside.stage; child = c.self.inside.child }) c.args.answer.now c.note.new.register c.stage_by-self-inside.result c.child_after-self-inside.result c.stage_by-self-inside.ensures

pub invariant_of-self : goal.invariant_of-self
invariant_of-self g c =
    (answer_is g.G.Fn c.args.rule.now c.picked_at.result (record { change = c.self.inside.change; register = c.self.inside.register; stage = c.self.inside.stage; child = c.self.inside.child }) c.args.self.now c.self.view_is c.self.invariant c.requires.more c.requires.asking
    c.args.answer.now c.args.at c.args.brick.0 c.args.request.now c.told_of-told.result c.note.new.register c.stage_by-self-inside.result c.child_after-self-inside.result c.picked_at.new.child
    (asked_is c.args.self.now c.args.brick c.args.request.now c.requires.more c.requires.asking c.requires.asked).0 (asked_is c.args.self.now c.args.brick c.args.request.now c.requires.more c.requires.asking c.requires.asked).1 c.told_of-told.ensures c.note.ensures.value c.child_after-self-inside.ensures c.stage_by-self-inside.ensures c.picked_at.ensures.picked c.picked_at.ensures.child).sound

pub returns-clause-picked : goal.returns-clause-picked
returns-clause-picked g c =
    (answer_is g.G.Fn c.args.rule.now c.picked_at.result (record { change = c.self.inside.change; register = c.self.inside.register; stage = c.self.inside.stage; child = c.self.inside.child }) c.args.self.now c.self.view_is c.self.invariant c.requires.more c.requires.asking
    c.args.answer.now c.args.at c.args.brick.0 c.args.request.now c.told_of-told.result c.note.new.register c.stage_by-self-inside.result c.child_after-self-inside.result c.picked_at.new.child
    (asked_is c.args.self.now c.args.brick c.args.request.now c.requires.more c.requires.asking c.requires.asked).0 (asked_is c.args.self.now c.args.brick c.args.request.now c.requires.more c.requires.asking c.requires.asked).1 c.told_of-told.ensures c.note.ensures.value c.child_after-self-inside.ensures c.stage_by-self-inside.ensures c.picked_at.ensures.picked c.picked_at.ensures.child).answers

pub returns-clause-value : goal.returns-clause-value
returns-clause-value g c =
    (answer_is g.G.Fn c.args.rule.now c.picked_at.result (record { change = c.self.inside.change; register = c.self.inside.register; stage = c.self.inside.stage; child = c.self.inside.child }) c.args.self.now c.self.view_is c.self.invariant c.requires.more c.requires.asking
    c.args.answer.now c.args.at c.args.brick.0 c.args.request.now c.told_of-told.result c.note.new.register c.stage_by-self-inside.result c.child_after-self-inside.result c.picked_at.new.child
    (asked_is c.args.self.now c.args.brick c.args.request.now c.requires.more c.requires.asking c.requires.asked).0 (asked_is c.args.self.now c.args.brick c.args.request.now c.requires.more c.requires.asking c.requires.asked).1 c.told_of-told.ensures c.note.ensures.value c.child_after-self-inside.ensures c.stage_by-self-inside.ensures c.picked_at.ensures.picked c.picked_at.ensures.child).value
