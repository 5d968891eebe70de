use Rattle.std.proofs.Common.{◌≡◌, sym, subst}
use Rattle.afr_lines.specs.declared.line.Next.TheVariants as next
use Rattle.afr_client_read.specs.Lookup.{Lookup, next_of}
use Rattle.afr_client_read.proofs.LookupLemmas.{asking_at}
use Rattle.afr_client_read.proofs.machine.LookupMachine.hear.Goals as goal

pub stage_heard-requires-clause-asking : goal.stage_heard-requires-clause-asking
stage_heard-requires-clause-asking g c =
    (asking_at c.self.inside.stage c.self.inside.walk c.args.brick c.args.request.now
    (subst (λ (m : Lookup). next_of m ≡ next.Ask c.args.brick c.args.request.now) (sym c.self.view_is) c.requires.asked)).0
