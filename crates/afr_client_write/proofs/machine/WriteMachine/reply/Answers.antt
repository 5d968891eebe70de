use Rattle.std.proofs.Common.{◌≡◌, sym, subst}
use Rattle.afr_lines.specs.declared.line.Next.TheVariants as next
use Rattle.afr_client_write.specs.Write.{Write, next_at, next_of}
use Rattle.afr_client_write.specs.declared.stage.WriteStage.{WriteStage}
use Rattle.afr_client_write.proofs.machine.WriteMachine.reply.Goals as goal

pub returns-in-Changing-clause-some : goal.returns-in-Changing-clause-some
returns-in-Changing-clause-some c = λ said e at.
    subst (λ (m : Write). next_of at m ≡ next.End said) c.self.view_is
    (subst (λ (stage : WriteStage). next_at at stage c.self.inside.walk ≡ next.End said) (sym c.in-Changing.is) (c.end.ensures.some said e at))
