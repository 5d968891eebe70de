-- The entry that was added shows the line of the request, and names no kept line.
use Rattle.std.proofs.Common.{◌∙◌, ap, arith, ◌++◌, ◌∷◌, []}
use Rattle.afr_log.specs.Entries.{lines_in}
use Rattle.afr_log.proofs.packing.pack_settle.Goals as goal

pub returns-in_ok-id_of-in-Done-clause-lines : goal.returns-in_ok-id_of-in-Done-clause-lines
returns-in_ok-id_of-in-Done-clause-lines c some kept = c.put.ensures.lines kept ∙ ap (λ l. lines_in kept c.args.packed.now.items ++ l ∷ []) (grind (arith, c.in-Done.is, c.in_ok-id_of-in-Done.ensures))

pub returns-in_ok-id_of-in-Done-clause-there : goal.returns-in_ok-id_of-in-Done-clause-there
returns-in_ok-id_of-in-Done-clause-there c some count all = c.put.ensures.there count tt all
