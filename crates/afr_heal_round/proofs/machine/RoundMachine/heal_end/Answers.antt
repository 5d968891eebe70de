-- The reply is that of the heal that the round is at.
use Rattle.std.proofs.Common.{◌≡◌, ◌∙◌, Err, IfOk, Ok, Result, ap}
use Rattle.afr_base.specs.declared.ids.Gfid.{Gfid}
use Rattle.afr_base.specs.declared.ids.Kind.{Kind}
use Rattle.afr_heal_machine.specs.Outcome.{reply_of}
use Rattle.afr_heal_round.proofs.Shapes.{at_heal, ends_heal, ends_so}
use Rattle.afr_heal_round.specs.Rounding.{is_ending, next_of}
use Rattle.afr_lines.specs.declared.line.Next.{Next}
use Rattle.afr_lines.specs.declared.line.Next.TheVariants as next
use Rattle.afr_lines.specs.declared.reply.HealReply.{HealReply}
use Rattle.afr_heal_round.proofs.machine.RoundMachine.heal_end.Goals as goal

said_so : {E : Type 0} (r : Result HealReply E) (own : HealReply) (line : Next) → ((g : Gfid) (kind : Kind) (said : HealReply) → line ≡ next.HealEnd g kind said → own ≡ said) → IfOk r (λ reply. reply ≡ own)
    → IfOk r (λ reply. (g : Gfid) (kind : Kind) (said : HealReply) → line ≡ next.HealEnd g kind said → reply ≡ said)
said_so (Ok reply) own line so is = λ g kind said e. is ∙ so g kind said e
said_so (Err e) own line so is = tt

pub returns-in-Healing : goal.returns-in-Healing
returns-in-Healing c =
    said_so c.end.result (reply_of c.in-Healing.heal.outcome c.in-Healing.heal.register.seen) (next_of c.args.self.now)
    (λ g kind said e. ends_so c.in-Healing.heal g kind said (rw (← c.self.view_is, c.in-Healing.is) at e)) c.end.ensures

pub returns-in_default : goal.returns-in_default
returns-in_default c = λ g kind said e. absurd (at_heal c.self.inside.stage (ends_heal c.self.inside.round.brick c.self.inside.stage (ap is_ending (rw (← c.self.view_is) at e))) c.in_default.not-Healing)
