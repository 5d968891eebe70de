-- A heal's line is the one that its engine says, of its object and kind.
use Rattle.std.proofs.Common.{◌∙◌, ap, sym}
use Rattle.afr_heal_machine.specs.Healing.{line_of}
use Rattle.afr_heal_machine.specs.Outcome.{reply_of}
use Rattle.afr_lines.specs.declared.line.Next.TheVariants as next
use Rattle.afr_heal_round.proofs.machine.heal_asks.Goals as goal

pub returns-in-Ask : goal.returns-in-Ask
returns-in-Ask c = ap (line_of c.args.heal.now) (sym c.in-Ask.ensures)

pub returns-in-Begin : goal.returns-in-Begin
returns-in-Begin c = ap (line_of c.args.heal.now) (sym c.in-Begin.ensures) ∙ (λ i. next.HealBegin (sym c.gfid.ensures i) (sym c.kind.ensures i))

pub returns-in-End : goal.returns-in-End
returns-in-End c =
    let said = reply_of c.args.heal.now.outcome c.args.heal.now.register.seen in
    (said, ap (line_of c.args.heal.now) (sym c.in-End.ensures) ∙ (λ i. next.HealEnd (sym c.gfid-in-End.ensures i) (sym c.kind-in-End.ensures i) said))
