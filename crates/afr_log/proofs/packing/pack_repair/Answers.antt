-- The entry that was added shows the line of the request, and names no kept line.
use Rattle.std.proofs.Common.{◌∙◌, ap, arith, ◌++◌, ◌∷◌, []}
use Rattle.afr_log.specs.Entries.{lines_in}
use Rattle.afr_log.proofs.packing.pack_repair.Goals as goal

pub returns-in_ok-id_of-in-CutTo-clause-lines : goal.returns-in_ok-id_of-in-CutTo-clause-lines
returns-in_ok-id_of-in-CutTo-clause-lines c some kept = c.put.ensures.lines kept ∙ ap (λ l. lines_in kept c.args.packed.now.items ++ l ∷ []) (grind (arith, c.in-CutTo.is, c.in_ok-id_of-in-CutTo.ensures))

pub returns-in_ok-id_of-in-CutTo-clause-there : goal.returns-in_ok-id_of-in-CutTo-clause-there
returns-in_ok-id_of-in-CutTo-clause-there c some count all = c.put.ensures.there count tt all

pub returns-in_ok-id_of-in-Copy-clause-lines : goal.returns-in_ok-id_of-in-Copy-clause-lines
returns-in_ok-id_of-in-Copy-clause-lines c some kept = c.put-in-Copy.ensures.lines kept ∙ ap (λ l. lines_in kept c.args.packed.now.items ++ l ∷ []) (grind (arith, c.in-Copy.is, c.in_ok-id_of-in-Copy.ensures))

pub returns-in_ok-id_of-in-Copy-clause-there : goal.returns-in_ok-id_of-in-Copy-clause-there
returns-in_ok-id_of-in-Copy-clause-there c some count all = c.put-in-Copy.ensures.there count tt all

pub returns-in_ok-id_of-in-PutAttrs-clause-lines : goal.returns-in_ok-id_of-in-PutAttrs-clause-lines
returns-in_ok-id_of-in-PutAttrs-clause-lines c some kept = c.put-in-PutAttrs.ensures.lines kept ∙ ap (λ l. lines_in kept c.args.packed.now.items ++ l ∷ []) (grind (arith, c.in-PutAttrs.is, c.in_ok-id_of-in-PutAttrs.ensures))

pub returns-in_ok-id_of-in-PutAttrs-clause-there : goal.returns-in_ok-id_of-in-PutAttrs-clause-there
returns-in_ok-id_of-in-PutAttrs-clause-there c some count all = c.put-in-PutAttrs.ensures.there count tt all
