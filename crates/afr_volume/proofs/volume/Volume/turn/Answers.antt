-- A client's turn leaves the sources of all heals and reads what the rule picked; a healer's keeps its sources as the rule
-- picked them, and leaves the reads.
use Rattle.afr_law_picks.specs.Sources.Sources.{picks_of}
use Rattle.afr_volume.proofs.ChosenLemmas.{turn_chosen}
use Rattle.afr_volume.proofs.volume.Volume.turn.Goals as goal

pub returns-clause-chosen : goal.returns-clause-chosen
returns-clause-chosen g c =
    turn_chosen _ (picks_of g.G.Fn c.args.rules.now.read) (picks_of g.F.Fn c.args.rules.now.heal) c.args.a _ _ c.every_line.ensures.right.follows c.every_line.ensures.right.replied c.every_line.ensures.clients c.take_turn-turned.ensures.heals c.take_turn-turned.ensures.reads c.take_turn-turned.result
    c.take_turn-turned.ensures.ok c.take_turn-turned.ensures.err
