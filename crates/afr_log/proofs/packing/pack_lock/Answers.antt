-- The entry that was added shows the line of the request, and names no kept line.
use Rattle.std.proofs.Common.{◌∙◌, ap, arith, ◌++◌, ◌∷◌, []}
use Rattle.afr_log.specs.Entries.{lines_in}
use Rattle.afr_log.proofs.packing.pack_lock.Goals as goal

pub returns-in_ok-id_of-in-Range-clause-lines : goal.returns-in_ok-id_of-in-Range-clause-lines
returns-in_ok-id_of-in-Range-clause-lines c some kept = c.put.ensures.lines kept ∙ ap (λ l. lines_in kept c.args.packed.now.items ++ l ∷ []) (grind (arith, c.in-Range.is, c.in_ok-id_of-in-Range.ensures))

pub returns-in_ok-id_of-in-Range-clause-there : goal.returns-in_ok-id_of-in-Range-clause-there
returns-in_ok-id_of-in-Range-clause-there c some count all = c.put.ensures.there count tt all

pub returns-in_ok-id-in-Name-clause-lines : goal.returns-in_ok-id-in-Name-clause-lines
returns-in_ok-id-in-Name-clause-lines c some kept = c.put-in-Name.ensures.lines kept ∙ ap (λ l. lines_in kept c.args.packed.now.items ++ l ∷ []) (grind (arith, c.in-Name.is, c.in_ok-id-in-Name.ensures))

pub returns-in_ok-id-in-Name-clause-there : goal.returns-in_ok-id-in-Name-clause-there
returns-in_ok-id-in-Name-clause-there c some count all = c.put-in-Name.ensures.there count tt all
