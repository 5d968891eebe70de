use Rattle.std.proofs.Common.{subst}
use Rattle.afr_lines.specs.declared.line.Next.{Next}
use Rattle.afr_discipline.specs.Free.{Allows}
use Rattle.afr_client_entry.proofs.Removals.AllowedLemmas.{allows_next}
use Rattle.afr_client_entry.proofs.removing.machine.Removal.asks.Goals as goal

pub returns-clause-allowed : goal.returns-clause-allowed
returns-clause-allowed c b some = subst (λ (n : Next). Allows c.args.self.now.register n) (c.ask.ensures.some b some) (allows_next c.args.self.now c.stays_sound.ensures)
