use Rattle.std.proofs.Common.{◌≡◌, subst}
use Rattle.afr_lines.specs.declared.line.Next.TheVariants as next
use Rattle.afr_client.specs.Work.{next_of}
use Rattle.afr_client.specs.declared.work.WorkMachine.{WorkMachine}
use Rattle.afr_client.proofs.present.Work.end.Goals as goal

pub returns-clause-some : goal.returns-clause-some
returns-clause-some c = λ said e at. subst (λ (w : WorkMachine). next_of at w ≡ next.End said) c.self.view_is (c.end.ensures.some said e at)
