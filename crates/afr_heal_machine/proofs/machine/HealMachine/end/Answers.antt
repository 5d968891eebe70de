-- The reply is that of the machine's value.
use Rattle.std.proofs.Common.{◌≡◌, subst}
use Rattle.std.specs.Prelude.{IfOk}
use Rattle.afr_lines.specs.declared.reply.HealReply.{HealReply}
use Rattle.afr_heal_machine.specs.Healing.{Healing}
use Rattle.afr_heal_machine.specs.Outcome.{reply_of}
use Rattle.afr_heal_machine.proofs.machine.HealMachine.end.Goals as goal

pub returns : goal.returns
returns c = subst (λ (m : Healing). IfOk c.ending.result (λ (reply : HealReply). reply ≡ reply_of m.outcome m.register.seen)) c.self.view_is c.ending.ensures
