use Rattle.afr_law_picks.specs.Sources.Sources.{picks_of}
use Rattle.std.proofs.Common.{◌∙◌}
use Rattle.afr_volume.proofs.GoingLemmas.{happens_chosen}
use Rattle.afr_volume.proofs.PlainLemmas.{happening_goes}
use Rattle.afr_order.proofs.remaking.steps.take_step.Goals as goal

pub take_event-requires : goal.take_event-requires
take_event-requires g c = record { event = c.is_event.ensures.yes c.if-is_event.true; plain = c.requires.plain }

pub returns-then-is_event-clause-chosen : goal.returns-then-is_event-clause-chosen
returns-then-is_event-clause-chosen g c = happens_chosen (picks_of g.G.Fn c.args.rules.now.read) (picks_of g.F.Fn c.args.rules.now.heal) c.args.volume.now c.take_event.new.volume c.take_event.ensures.happens

pub take_turn-requires : goal.take_turn-requires
take_turn-requires g c = record { rule = c.requires.rule; read_rule = c.requires.read_rule; plain = c.requires.plain; room = c.requires.room; turn = c.is_event.ensures.no c.if-is_event.false }

pub returns-then-is_event-clause-plain : goal.returns-then-is_event-clause-plain
returns-then-is_event-clause-plain g c = happening_goes c.args.volume.now c.take_event.new.volume c.take_event.ensures.happens ∙ c.requires.plain
