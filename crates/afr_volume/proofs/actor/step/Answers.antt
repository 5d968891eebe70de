use Rattle.std.proofs.Common.{refl}
use Rattle.std.proofs.lemmas.Result.{on_ok_weaker}
use Rattle.afr_volume.proofs.Written.{asked_steps, written_steps}
use Rattle.afr_volume.specs.Acting.{HearsBy}
use Rattle.afr_volume.proofs.actor.step.Goals as goal

pub returns-in-Some-clause-ok : goal.returns-in-Some-clause-ok
returns-in-Some-clause-ok g c =
    on_ok_weaker c.asks-in-Some.result
    (asked_steps (HearsBy g.G.Fn c.args.rule.now) c.args.a c.args.position c.in-Some.brick c.asks.new.request c.args.actor.now c.asks-in-Some.new.actor _ _ _ _ (c.in-Some.ensures.some c.in-Some.brick refl c.args.position))
    c.asks-in-Some.ensures.ok

pub returns-in-None-clause-ok : goal.returns-in-None-clause-ok
returns-in-None-clause-ok g c = on_ok_weaker c.writes.result (written_steps (HearsBy g.G.Fn c.args.rule.now) c.args.a c.args.position c.args.actor.now c.writes.new.actor _ _ _ _) c.writes.ensures.ok
