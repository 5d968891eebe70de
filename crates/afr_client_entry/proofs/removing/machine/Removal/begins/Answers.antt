use Rattle.std.proofs.Common.{ap, ◌∙◌}
use Rattle.afr_client_entry.specs.Removals.Removal.{Removing}
use Rattle.afr_client_entry.proofs.NextLemmas.{removal_over}
use Rattle.afr_client_entry.proofs.removing.machine.Removal.begins.Goals as goal

pub returns-in_default-clause-none : goal.returns-in_default-clause-none
returns-in_default-clause-none c = λ none asked. removal_over c.args.self.now.stage c.args.self.now (λ h. c.in_default.not-Beginning (ap (λ (m : Removing). m.stage) c.self.view_is ∙ h)) asked
