use Rattle.std.proofs.Common.{◌≡◌, ap, sym, subst}
use Rattle.afr_lines.specs.declared.line.Next.TheVariants as next
use Rattle.afr_client_transaction.proofs.Kept.{asks_or_begins}
use Rattle.afr_client_write.specs.Write.{Write, next_of}
use Rattle.afr_client_write.proofs.WriteLemmas.{more_left}
use Rattle.afr_client_write.proofs.machine.WriteMachine.hear.Goals as goal

pub stage_heard-requires-clause-more : goal.stage_heard-requires-clause-more
stage_heard-requires-clause-more g c =
    more_left c.self.inside.stage c.self.inside.walk c.args.at
    (ap asks_or_begins (subst (λ (m : Write). next_of c.args.at m ≡ next.Ask c.args.brick c.args.request.now) (sym c.self.view_is) c.requires.asked))
