-- The line that a part adds is that of the whole request.
use Rattle.std.proofs.Common.{◌∙◌, ap, arith, ◌++◌, ◌∷◌, []}
use Rattle.afr_log.specs.Entries.{ask_by, lines_in}
use Rattle.afr_log.proofs.packing.pack.Goals as goal

pub returns-in-Lock-clause-lines : goal.returns-in-Lock-clause-lines
returns-in-Lock-clause-lines c some kept = c.pack_lock.ensures.lines some kept ∙ ap (λ r. lines_in kept c.args.packed.now.items ++ ask_by c.args.by r ∷ []) (grind (arith, c.in-Lock.is))

pub returns-in-Unlock-clause-lines : goal.returns-in-Unlock-clause-lines
returns-in-Unlock-clause-lines c some kept = c.pack_unlock.ensures.lines some kept ∙ ap (λ r. lines_in kept c.args.packed.now.items ++ ask_by c.args.by r ∷ []) (grind (arith, c.in-Unlock.is))

pub returns-in-Mend-clause-lines : goal.returns-in-Mend-clause-lines
returns-in-Mend-clause-lines c some kept = c.pack_repair.ensures.lines some kept ∙ ap (λ r. lines_in kept c.args.packed.now.items ++ ask_by c.args.by r ∷ []) (grind (arith, c.in-Mend.is))

pub returns-in-Settle-clause-lines : goal.returns-in-Settle-clause-lines
returns-in-Settle-clause-lines c some kept = c.pack_settle.ensures.lines some kept ∙ ap (λ r. lines_in kept c.args.packed.now.items ++ ask_by c.args.by r ∷ []) (grind (arith, c.in-Settle.is))
