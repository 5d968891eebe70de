use Rattle.std.proofs.Common.{Bool, Some, refl, ap}
use Rattle.afr_servers.specs.Visiting.{IsServed}
use Rattle.afr_healer.proofs.step.asks.Goals as goal

pub ask-requires-clause-can : goal.ask-requires-clause-can
ask-requires-clause-can g c = c.requires.can.asks c.args.brick c.args.request.now c.load-load.result c.requires.next c.request_fits_its_types.ensures c.load-load.ensures

pub tells-requires-clause-can : goal.tells-requires-clause-can
tells-requires-clause-can g c =
    let served : IsServed c.args.a c.args.visit.now c.ask.new.self c.args.brick c.args.request.now c.load-load.result c.args.servers.now c.ask.new.servers c.ask.new.given = c.in_ok-ask.ensures.ok in
    c.requires.can.hears c.args.brick c.args.request.now c.load-load.result c.ask.new.servers c.ask.new.self.epochs c.ask.new.given c.requires.next c.request_fits_its_types.ensures c.load-load.ensures served.served

pub returns-clause-ok : goal.returns-clause-ok
returns-clause-ok g c = λ x.
    let served : IsServed c.args.a c.args.visit.now c.ask.new.self c.args.brick c.args.request.now c.load-load.result c.args.servers.now c.ask.new.servers c.ask.new.given = c.in_ok-ask.ensures.ok in
    record {
      line = _;
      added = c.tells.ensures.added;
      is_so = record {
        given = c.ask.new.given;
        epochs = c.ask.new.self.epochs;
        after = c.tells.new.round;
        load = c.load-load.result;
        carries = c.load-load.ensures;
        fits = c.request_fits_its_types.ensures;
        served = served.served;
        is_line = refl;
        fed = c.tells.ensures.fed;
        becomes = ap (λ (met : Bool). record x { visit = record c.ask.new.self { met = met }; round = Some c.tells.new.round }) c.stays_met-visit.ensures;
      };
    }
