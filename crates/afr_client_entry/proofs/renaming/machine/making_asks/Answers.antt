use Rattle.std.proofs.Common.{ap, sym, ◌∙◌}
use Rattle.afr_client_transaction.specs.Progress.{TransactionProgress, next_at}
use Rattle.afr_client_entry.proofs.Renames.HeardLemmas.{turn_asks}
use Rattle.afr_client_entry.proofs.renaming.machine.making_asks.Goals as goal

pub returns-then-is_done-clause-some : goal.returns-then-is_done-clause-some
returns-then-is_done-clause-some c b some at =
    turn_asks c.args.paths.now c.args.transaction.now c.args.found at (sym c.is_done.ensures ∙ c.if-is_done.true) ∙ ap (λ (q : TransactionProgress). next_at q.stage at q) (sym c.turn.ensures) ∙ c.asks-then-is_done.ensures.some b some at
