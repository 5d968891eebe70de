use Rattle.std.proofs.Common.{◌∙◌, ◌+◌, None, ap, arith, sym}
use Rattle.std.specs.Option.{option_copied}
use Rattle.afr_model.specs.Attempts.{first_reply}
use Rattle.afr_trace_safe.proofs.PushLemmas.{whole}
use Rattle.afr_trace_safe.proofs.RepliedLemmas.{none_first, reply_next, reply_stays}
use Rattle.afr_trace_safe.proofs.acknowledged.first_reply.Goals as goal

pub loop-position-init : goal.loop-position-init
loop-position-init c = none_first c.args.a.0 c.args.attempt c.args.log.now

pub returns-in-Some : goal.returns-in-Some
returns-in-Some c =
    sym
    (reply_stays c.args.a.0 c.args.attempt c.args.log.now (c.loop-position.position + 1) c.in-Some.reply.now
    (reply_next c.args.a.0 c.args.attempt c.args.log.now c.loop-position.position c.index-log-position.result (option_copied c.reply_after.result) c.loop-position-test.true c.index-log-position.is c.reply_after.ensures c.loop-position.invariant
    ∙ ap option_copied c.in-Some.is))

pub loop-position-preserved : goal.loop-position-preserved
loop-position-preserved c =
    reply_next c.args.a.0 c.args.attempt c.args.log.now c.loop-position.position c.index-log-position.result (option_copied c.reply_after.result) c.loop-position-test.true c.index-log-position.is c.reply_after.ensures c.loop-position.invariant
    ∙ ap option_copied c.in_default.is

pub returns : goal.returns
returns c = whole (first_reply c.args.a.0 c.args.attempt) c.args.log.now c.loop-position.position None (omega (arith, c.loop-position-test.false)) (sym c.loop-position.invariant)
