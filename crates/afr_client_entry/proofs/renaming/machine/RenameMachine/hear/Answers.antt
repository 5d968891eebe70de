use Rattle.std.proofs.Common.{◌≡◌, ap, sym, subst}
use Rattle.afr_lines.specs.declared.line.Next.TheVariants as next
use Rattle.afr_client_transaction.proofs.Kept.{asks_or_begins}
use Rattle.afr_client_entry.specs.Renames.Rename.{Renaming, next_of}
use Rattle.afr_client_entry.proofs.NextLemmas.{rename_more}
use Rattle.afr_client_entry.proofs.renaming.machine.RenameMachine.hear.Goals as goal

pub stage_heard-requires-clause-more : goal.stage_heard-requires-clause-more
stage_heard-requires-clause-more g c =
    rename_more c.self.inside.stage c.self.inside.paths c.args.at
    (ap asks_or_begins (subst (λ (m : Renaming). next_of c.args.at m ≡ next.Ask c.args.brick c.args.request.now) (sym c.self.view_is) c.requires.asked))
