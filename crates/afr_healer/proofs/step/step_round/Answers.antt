use Rattle.std.proofs.Common.{◌∙◌, ap, sym}
use Rattle.std.proofs.lemmas.Result.{on_ok_weaker}
use Rattle.afr_heal_round.specs.Rounding.{IsFed}
use Rattle.afr_lines.specs.declared.line.Next.TheVariants as next
use Rattle.afr_healer.proofs.StepLemmas.{stepped}
use Rattle.afr_healer.proofs.step.step_round.Goals as goal

pub returns-in-Ask-clause-ok : goal.returns-in-Ask-clause-ok
returns-in-Ask-clause-ok g c =
    on_ok_weaker c.asks-in-Ask.result
    (λ adds. stepped c.args.a c.args.position c.args.healer.now _ c.in-Some.round c.args.servers.now _ c.args.log.now.items _ (IsFed g.F.Fn c.args.rule.now) (next.Ask c.in-Ask.brick c.asks.new.request) c.in-Some.is c.in-Ask.ensures (adds c.args.healer.now))
    c.asks-in-Ask.ensures.ok

pub returns-in-Begin-clause-ok : goal.returns-in-Begin-clause-ok
returns-in-Begin-clause-ok g c =
    stepped c.args.a c.args.position c.args.healer.now _ c.in-Some.round c.args.servers.now c.args.servers.now c.args.log.now.items _ (IsFed g.F.Fn c.args.rule.now) (next.HealBegin c.in-Begin.gfid c.in-Begin.kind) c.in-Some.is c.in-Begin.ensures
    (c.heal_begins.ensures c.args.healer.now c.args.servers.now)

pub heal_ends-requires-clause-next : goal.heal_ends-requires-clause-next
heal_ends-requires-clause-next g c = c.in-HealEnd.ensures.1 ∙ ap (next.HealEnd c.in-HealEnd.gfid c.in-HealEnd.kind) (sym (c.in_ok-reply-in-HealEnd.ensures c.in-HealEnd.gfid c.in-HealEnd.kind c.in-HealEnd.ensures.0 c.in-HealEnd.ensures.1))

pub returns-in_ok-reply-in-HealEnd-clause-ok : goal.returns-in_ok-reply-in-HealEnd-clause-ok
returns-in_ok-reply-in-HealEnd-clause-ok g c =
    stepped c.args.a c.args.position c.args.healer.now _ c.in-Some.round c.args.servers.now c.args.servers.now c.args.log.now.items _ (IsFed g.F.Fn c.args.rule.now)
    (next.HealEnd c.in-HealEnd.gfid c.in-HealEnd.kind c.in_ok-reply-in-HealEnd.reply) c.in-Some.is
    (c.in-HealEnd.ensures.1 ∙ ap (next.HealEnd c.in-HealEnd.gfid c.in-HealEnd.kind) (sym (c.in_ok-reply-in-HealEnd.ensures c.in-HealEnd.gfid c.in-HealEnd.kind c.in-HealEnd.ensures.0 c.in-HealEnd.ensures.1)))
    (c.heal_ends.ensures c.args.healer.now c.args.servers.now)

pub returns-in-End-clause-ok : goal.returns-in-End-clause-ok
returns-in-End-clause-ok g c =
    rw c.closes.ensures
    (stepped c.args.a c.args.position c.args.healer.now _ c.in-Some.round c.args.servers.now c.args.servers.now c.args.log.now.items _ (IsFed g.F.Fn c.args.rule.now) (next.End c.end-reply.result) c.in-Some.is
    (c.in-End.ensures.1 ∙ ap next.End (sym (c.end-reply.ensures c.in-End.ensures.0 c.in-End.ensures.1)))
    (c.ends.ensures c.args.healer.now c.args.servers.now))

pub returns-in-None-clause-ok : goal.returns-in-None-clause-ok
returns-in-None-clause-ok g c = absurd (cc (rw c.in-None.is at c.requires.busy))
