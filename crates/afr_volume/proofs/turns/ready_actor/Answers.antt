use Rattle.std.proofs.Common.{◌∙◌, sym}
use Rattle.afr_volume.proofs.ReadyLemmas.{begins_next, found_at, script_is, still_busy}
use Rattle.afr_volume.proofs.turns.ready_actor.Goals as goal

pub returns-then-not-is_idle-clause-ok : goal.returns-then-not-is_idle-clause-ok
returns-then-not-is_idle-clause-ok c =
    still_busy c.args.plan.now c.args.a.0 c.args.actors.now.items c.index.result.now c.index-then-not-is_idle.result.now c.requires.within c.index.ensures c.index-then-not-is_idle.ensures
    (sym c.is_idle.ensures ∙ c.if-not-is_idle.true) c.stays_sound.ensures.sound

pub item-command-requires : goal.item-command-requires
item-command-requires c =
    rw (← script_is c.args.plan.now c.args.a.0 c.item-script.result.now c.item-script.ensures) (c.requires.left c.index-2.result.now (found_at _ _ _ c.requires.within c.index-2.ensures))

pub begin-requires-clause-has : goal.begin-requires-clause-has
begin-requires-clause-has c =
    c.requires.commands c.index-2.result.now.ended c.item-command.result.now (rw (script_is c.args.plan.now c.args.a.0 c.item-script.result.now c.item-script.ensures) c.item-command.ensures)

pub returns-clause-ok : goal.returns-clause-ok
returns-clause-ok c =
    begins_next c.args.plan.now c.args.a.0 c.args.actors.now.items c.index.result.now c.index-2.result.now c.index_mut.result.now c.item-script.result.now c.item-command.result.now c.begin.new.self c.requires.within c.index.ensures c.index-2.ensures c.index_mut.ensures.value
    (sym c.is_idle.ensures ∙ c.if-not-is_idle.false) c.item-script.ensures c.item-command.ensures
    (c.requires.commands c.index-2.result.now.ended c.item-command.result.now (rw (script_is c.args.plan.now c.args.a.0 c.item-script.result.now c.item-script.ensures) c.item-command.ensures))
    c.in_ok-begin.ensures.ok c.in_ok-begin.ensures.sound
