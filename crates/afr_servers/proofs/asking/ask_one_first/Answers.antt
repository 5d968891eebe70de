use Rattle.std.proofs.Common.{set, length-set, refl, arith}
use Rattle.afr_servers.proofs.MeetingLemmas.{met_others}
use Rattle.afr_servers.proofs.PlaceLemmas.{read_at}
use Rattle.afr_servers.proofs.asking.ask_one_first.Goals as goal

pub returns-clause-ok : goal.returns-clause-ok
returns-clause-ok c =
    let old = c.args.servers.now.items in
    let one = c.meet_between-epochs.ensures.met in
    met_others c.args.actor c.args.brick.0 c.len-bricks.result c.args.request.now c.args.load old (set old c.args.brick.0 c.ask_first.new.self) c.meet_between-epochs.new.servers.items c.meet_between-epochs-2.new.servers.items
    c.none-epochs.result (record { of = set c.none-epochs.result.of c.args.brick.0 c.in_ok-epoch.epoch }) c.meet_between-epochs.result c.meet_between-epochs-2.result
    c.index_mut.result.now c.ask_first.new.self c.in_ok-epoch.epoch c.ask_first.new.given
    c.requires.there (omega (arith, c.requires.there, c.requires.few, c.none-epochs.ensures.five)) (read_at _ _ _ c.requires.there c.index_mut.ensures.value) refl refl c.in_ok-epoch.ensures.epoch c.in_ok-epoch.ensures.ok
    one (omega (arith, c.len-bricks.ensures, one.count, length-set old c.args.brick.0 c.ask_first.new.self)) c.meet_between-epochs-2.ensures.met
