use Rattle.std.proofs.Common.{subst}
use Rattle.afr_lines.specs.declared.line.Next.{Next}
use Rattle.afr_discipline.specs.Free.{Allows}
use Rattle.afr_client_read.proofs.LookupLemmas.{allowed_next}
use Rattle.afr_client_read.proofs.machine.LookupMachine.end.Goals as goal

pub returns-clause-allowed : goal.returns-clause-allowed
returns-clause-allowed c = λ said e. subst (λ (n : Next). Allows c.args.self.now.walk.register n) (c.reply.ensures.some said e) (allowed_next c.args.self.now c.stays_sound.ensures)
