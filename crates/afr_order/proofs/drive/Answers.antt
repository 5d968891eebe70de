-- Before the first line nothing was picked, and each turn keeps what the rules picked. With as many turns as the bound, all is done.
use Rattle.std.proofs.Common.{subst, sym}
use Rattle.afr_law_picks.specs.Sources.Sources.{picks_of}
use Rattle.afr_volume.proofs.ChosenLemmas.{opened_chosen}
use Rattle.afr_volume.proofs.PlainLemmas.{plain_resting, plain_right}
use Rattle.afr_volume.specs.Right.{IsChosenBy}
use Rattle.afr_order.proofs.EndLemmas.{ends_of}
use Rattle.afr_order.proofs.drive.Goals as goal

pub returns-clause-chosen : goal.returns-clause-chosen
returns-clause-chosen g c = c.take_all-driven.ensures.chosen (subst (IsChosenBy g.F.Fn g.G.Fn c.args.rules.now) (sym (plain_resting c.args.volume.now c.requires.plain (c.every_line.ensures.resting c.requires.fresh))) (opened_chosen (picks_of g.G.Fn c.args.rules.now.read) (picks_of g.F.Fn c.args.rules.now.heal) c.args.volume.now.plan))

pub returns-clause-ends : goal.returns-clause-ends
returns-clause-ends g c =
    let now = c.every_line-2.ensures in
    ends_of c.an_ordered_run_ends.ensures.done _ _ c.take_all-driven.result (record { few = now.few; clients = now.clients; healers = now.healers; turns = now.turns }) now.room (plain_right c.take_all-driven.new.volume c.take_all-driven.ensures.plain now.right) c.take_all-driven.ensures.ordered c.take_all-driven.ensures.ok

pub returns-clause-right : goal.returns-clause-right
returns-clause-right g c = plain_right c.take_all-driven.new.volume c.take_all-driven.ensures.plain c.every_line-2.ensures.right
