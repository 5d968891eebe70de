use Rattle.std.proofs.Common.{subst}
use Rattle.afr_lines.specs.declared.line.Next.{Next}
use Rattle.afr_discipline.specs.Free.{Allows}
use Rattle.afr_client_entry.specs.Renames.Rename.{register_of}
use Rattle.afr_client_entry.proofs.Renames.RenameLemmas.{allowed_next}
use Rattle.afr_client_entry.proofs.renaming.machine.RenameMachine.begins.Goals as goal

pub returns-clause-allowed : goal.returns-clause-allowed
returns-clause-allowed c = λ change e. subst (λ (n : Next). Allows (register_of c.args.self.now) n) (c.change.ensures.some change e) (allowed_next c.args.self.now c.stays_sound.ensures c.args.at)
