-- The entry that was added shows the line of the request, and names no kept line.
use Rattle.std.proofs.Common.{◌∙◌, ap, arith, ◌++◌, ◌∷◌, []}
use Rattle.afr_log.specs.Entries.{lines_in}
use Rattle.afr_log.proofs.packing.pack_value_read.Goals as goal

pub returns-in_ok-id_of-in-ReadName-clause-lines : goal.returns-in_ok-id_of-in-ReadName-clause-lines
returns-in_ok-id_of-in-ReadName-clause-lines c some kept = c.put.ensures.lines kept ∙ ap (λ l. lines_in kept c.args.packed.now.items ++ l ∷ []) (grind (arith, c.in-ReadName.is, c.in_ok-id_of-in-ReadName.ensures))

pub returns-in_ok-id_of-in-ReadName-clause-there : goal.returns-in_ok-id_of-in-ReadName-clause-there
returns-in_ok-id_of-in-ReadName-clause-there c some count all = c.put.ensures.there count tt all

pub returns-in_ok-id_of-in-ReadAttr-clause-lines : goal.returns-in_ok-id_of-in-ReadAttr-clause-lines
returns-in_ok-id_of-in-ReadAttr-clause-lines c some kept = c.put-in-ReadAttr.ensures.lines kept ∙ ap (λ l. lines_in kept c.args.packed.now.items ++ l ∷ []) (grind (arith, c.in-ReadAttr.is, c.in_ok-id_of-in-ReadAttr.ensures))

pub returns-in_ok-id_of-in-ReadAttr-clause-there : goal.returns-in_ok-id_of-in-ReadAttr-clause-there
returns-in_ok-id_of-in-ReadAttr-clause-there c some count all = c.put-in-ReadAttr.ensures.there count tt all

pub returns-in_ok-id_of-in-ReadAttrs-clause-lines : goal.returns-in_ok-id_of-in-ReadAttrs-clause-lines
returns-in_ok-id_of-in-ReadAttrs-clause-lines c some kept = c.put-in-ReadAttrs.ensures.lines kept ∙ ap (λ l. lines_in kept c.args.packed.now.items ++ l ∷ []) (grind (arith, c.in-ReadAttrs.is, c.in_ok-id_of-in-ReadAttrs.ensures))

pub returns-in_ok-id_of-in-ReadAttrs-clause-there : goal.returns-in_ok-id_of-in-ReadAttrs-clause-there
returns-in_ok-id_of-in-ReadAttrs-clause-there c some count all = c.put-in-ReadAttrs.ensures.there count tt all
